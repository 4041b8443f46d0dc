-- The layout gives each sector and each parity byte one place.
use Rattle.std.proofs.Common.{◌≡◌, ℕ, ◌+◌, ◌-◌, ◌*◌, ◌/◌, ◌%◌, ◌<◌, ◌≤◌, ⊎_elim, Some, None, ltb, sym, ap, ◌∙◌, arith}
use Rattle.std.proofs.Math.Nat.{mul_comm, mod-lt}
use Rattle.std.proofs.lemmas.Bool.{cases_lt, lt-ltb, le-ltb, cond-true, cond-false}
use Rattle.std.proofs.lemmas.Nat.{div-add-mod', mul-add-lt, div-mul-add, mod-mul-add, same_from_place, div_below, mul-le}
use Rattle.rs01_layers.specs.Layout.{IsShape, layers_of, layer_of, place_of, number_at, sector_at, parity_offset, file_size}
use Rattle.rs01_layers.specs.Placing.{PlaceDeterminesSector, EachSectorHasAPlace, EachSectorHasOnePlace, ParityIsInFile, ParityStandsApart, ParityFillsFile}

-- as many places as `up` layers of k have hold n sectors
rounded_up : (n k up : ℕ) → 0 < k → up ≡ (n + (k - 1)) / k → n ≤ up * k
rounded_up n k up some e =
    let whole = div-add-mod' (n + (k - 1)) k in
    let same : up * k ≡ (n + (k - 1)) / k * k = ap (λ q. q * k) e in
    omega arith

-- the layers have a place for each sector
pub sectors-le-places : (n r : ℕ) → IsShape n r → n ≤ layers_of n r * (255 - r)
sectors-le-places n r shape =
    rounded_up n (255 - r) (layers_of n r) (omega arith) (let e : 255 - r - 1 ≡ 254 - r = omega arith in sym (ap (λ m. (n + m) / (255 - r)) e))

pub some_layer : (n r : ℕ) → IsShape n r → 0 < layers_of n r
some_layer n r shape =
    ⊎_elim (λ h. h) (λ none. let z : layers_of n r ≡ 0 = omega arith in
    let room : layers_of n r * (255 - r) ≡ 0 = ap (λ q. q * (255 - r)) z ∙ (let e : 0 * (255 - r) ≡ 0 = omega arith in e) in
    let enough = sectors-le-places n r shape in omega arith) (cases_lt 0 (layers_of n r))

pub place_determines_sector : PlaceDeterminesSector
place_determines_sector n r s shape =
    let whole = div-add-mod' s (layers_of n r) in
    omega arith

pub each_sector_has_a_place : EachSectorHasAPlace
each_sector_has_a_place n r s shape h =
    let some = some_layer n r shape in
    let enough = sectors-le-places n r shape in
    let back = place_determines_sector n r s shape in
    let within : number_at n r (layer_of n r s) (place_of n r s) < n = omega arith in (
      (let e : s % layers_of n r < layers_of n r = omega arith in e),
      div_below s (layers_of n r) (255 - r) some (omega (arith, mul_comm (layers_of n r) (255 - r))),
      cond-true (ltb (number_at n r (layer_of n r s) (place_of n r s)) n) (Some (number_at n r (layer_of n r s) (place_of n r s))) None
          (lt-ltb (number_at n r (layer_of n r s) (place_of n r s)) n within) ∙ ap (λ m. Some m) back,
    )

pub sector_at-some : (n r l p s : ℕ) → sector_at n r l p ≡ Some s → (s ≡ number_at n r l p) × (number_at n r l p < n)
sector_at-some n r l p s e =
    ⊎_elim
    (λ below. let t = cond-true (ltb (number_at n r l p) n) (Some (number_at n r l p)) None (lt-ltb (number_at n r l p) n below) in (cc, below))
    (λ past. let t = cond-false (ltb (number_at n r l p) n) (Some (number_at n r l p)) None (le-ltb (number_at n r l p) n past) in cc)
    (cases_lt (number_at n r l p) n)

pub each_sector_has_one_place : EachSectorHasOnePlace
each_sector_has_one_place n r l p s shape h e =
    let is = sector_at-some n r l p s e in
    let turned : s ≡ p * layers_of n r + l = omega arith in (
      ap (λ m. m % layers_of n r) turned ∙ mod-mul-add p (layers_of n r) l h,
      ap (λ m. m / layers_of n r) turned ∙ div-mul-add p (layers_of n r) l h,
      (let below : s < n = omega arith in below),
    )

pub parity_is_in_file : ParityIsInFile
parity_is_in_file n r l b shape h below =
    let place : l * 2048 + b < 2048 * layers_of n r = mul-add-lt l 2048 b (layers_of n r) h below in
    let most : (2048 * l + b + 1) * r ≤ 2048 * layers_of n r * r = mul-le (2048 * l + b + 1) r (2048 * layers_of n r) r (omega arith) (omega arith) in (
      (let first : 4096 + 4 * n ≤ parity_offset n r l b = omega arith in first),
      (let last : parity_offset n r l b + r ≤ file_size n r = omega arith in last),
    )

pub parity_stands_apart : ParityStandsApart
parity_stands_apart n r l b i l' b' i' shape hb hb' hi hi' e =
    let bytes = same_from_place (2048 * l + b) i (2048 * l' + b') i' r hi hi' (omega arith) in
    let words = same_from_place l b l' b' 2048 hb hb' (omega arith) in
    (words.0, words.1, bytes.1)

pub parity_fills_file : ParityFillsFile
parity_fills_file n r at shape first last =
    let from : ℕ = at - (4096 + 4 * n) in
    let row : ℕ = from / r in
    let bytes : row * r + from % r ≡ from = div-add-mod' from r in
    let words : row / 2048 * 2048 + row % 2048 ≡ row = div-add-mod' row 2048 in
    let joined : (2048 * (row / 2048) + row % 2048) * r ≡ row * r = ap (λ m. m * r) (let e : 2048 * (row / 2048) + row % 2048 ≡ row = omega arith in e) in
    let rows : row < 2048 * layers_of n r = div_below from r (2048 * layers_of n r) (omega arith) (omega arith) in
    record {
      layer = row / 2048;
      codeword = row % 2048;
      place = from % r;
      layer_in_range = div_below row 2048 (layers_of n r) (omega arith) (omega arith);
      codeword_in_range = omega arith;
      place_in_range = mod-lt from (let some : 0 < r = omega arith in some);
      stands_at = omega (arith, joined);
    }
