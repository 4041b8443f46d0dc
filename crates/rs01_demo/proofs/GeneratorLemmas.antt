-- The bytes that follow a value.
use Rattle.std.proofs.Common.{◌≡◌, ℕ, ◌+◌, ◌*◌, ◌<◌, ◌≤◌, ◌/◌, ◌^◌, List, length, drop, get_or, set, refl, sym, ap, ◌∙◌, arith, add-one, ⊎_elim}
use Rattle.std.proofs.lemmas.Bool.{cases_lt}
use Rattle.std.proofs.lemmas.Grind.{get_or-set_at}
use Rattle.std.proofs.lemmas.List.{ext_get_or, get_or-drop, get_or-set_other, get_or-take, length-drop, length-take-le}
use Rattle.std.proofs.lemmas.List.FromFn.{get_or-map-range_with_len, length-map-range_with_len}
use Rattle.rs01_demo.specs.Generator.{byte_at, image, next, stretch, value_at}
use Rattle.rs01_lists.specs.Bytes.{part}

-- the value one step later
pub value_more : (number i : ℕ) → value_at number (i + 1) ≡ next (value_at number i)
unfolding value_at
value_more number i = ap (value_at number) (add-one i)

pub length-stretch : (number from n : ℕ) → length (stretch number from n) ≡ n
unfolding stretch
length-stretch number from n = length-map-range_with_len (byte_at number) from n

pub get_or-stretch : (number from n k : ℕ) → k < n → get_or (stretch number from n) k 0 ≡ byte_at number (from + k)
unfolding stretch
get_or-stretch number from n k below = get_or-map-range_with_len (byte_at number) from n k (from + k) 0 below refl

-- the first bytes of a buffer were filled
pub record Filled (number from place last : ℕ) (into : List ℕ) : Type 0 where
  pub last_is : last ≡ value_at number (from + place)
  pub bytes : (j : ℕ) → j < place → get_or into j 0 ≡ byte_at number (from + j)

pub stretch_is : (number from place last n : ℕ) (into : List ℕ) → Filled number from place last into → length into ≡ n → n ≡ place → into ≡ stretch number from n
stretch_is number from place last n into is long all =
    ext_get_or 0 into (stretch number from n) (long ∙ sym (length-stretch number from n))
    (λ k h. is.bytes k (omega (arith, h, long, all)) ∙ sym (get_or-stretch number from n k (omega (arith, h, long))))

-- one byte more
pub filled_more : (number from place last value byte : ℕ) (into : List ℕ) → Filled number from place last into → place < length into → value ≡ next last → byte ≡ value / 2 ^ 56
    → Filled number from (place + 1) value (set into place byte)
filled_more number from place last value byte into is room steps shown =
    let more : value ≡ value_at number (from + place + 1) = steps ∙ ap next is.last_is ∙ sym (value_more number (from + place)) in
    record {
      last_is = more ∙ ap (value_at number) (let e : from + place + 1 ≡ from + (place + 1) = omega arith in e);
      bytes = λ j below.
          ⊎_elim
          (λ (earlier : j < place). get_or-set_other into place j byte 0 (λ e. omega (arith, earlier, e)) ∙ is.bytes j earlier)
          (λ (not_earlier : place ≤ j).
          let same : j ≡ place = omega (arith, below, not_earlier) in
          get_or-set_at into place j byte 0 same room ∙ shown
          ∙ ap (λ v. v / 2 ^ 56) more ∙ ap (λ k. value_at number (from + k + 1) / 2 ^ 56) (sym same))
          (cases_lt j place);
    }

-- an image, and a part of it
pub image_is : (number sectors : ℕ) → image number sectors ≡ stretch number 0 (2048 * sectors)
unfolding image
image_is number sectors = refl

pub length-image : (number sectors : ℕ) → length (image number sectors) ≡ 2048 * sectors
length-image number sectors = ap length (image_is number sectors) ∙ length-stretch number 0 (2048 * sectors)

pub get_or-image : (number sectors k : ℕ) → k < 2048 * sectors → get_or (image number sectors) k 0 ≡ byte_at number k
get_or-image number sectors k below =
    ap (λ (xs : List ℕ). get_or xs k 0) (image_is number sectors) ∙ get_or-stretch number 0 (2048 * sectors) k below
    ∙ ap (byte_at number) (let e : 0 + k ≡ k = omega arith in e)

pub part-image : (number sectors at n : ℕ) → at + n ≤ 2048 * sectors → stretch number at n ≡ part (image number sectors) at n
part-image number sectors at n fits =
    let long : length (part (image number sectors) at n) ≡ n =
    length-take-le n (drop at (image number sectors)) (omega (arith, fits, length-drop at (image number sectors), length-image number sectors)) in
    ext_get_or 0 (stretch number at n) (part (image number sectors) at n) (length-stretch number at n ∙ sym long)
    (λ k h.
    let below : k < n = omega (arith, h, length-stretch number at n) in
    get_or-stretch number at n k below
    ∙ sym (get_or-take n (drop at (image number sectors)) k 0 below ∙ get_or-drop at (image number sectors) k 0
    ∙ get_or-image number sectors (at + k) (omega (arith, below, fits))))
