-- A file by its sectors.
use Rattle.std.proofs.Common.{◌≡◌, ℕ, zero, suc, ◌+◌, ◌-◌, ◌*◌, ◌/◌, ◌<◌, ◌≤◌, ◌++◌, List, [], length, take, drop, get_or, refl, sym, ap, ◌∙◌, arith}
use Rattle.std.specs.Prelude.{Option, Some, None}
use Rattle.std.specs.List.{flat_map, range_with_len}
use Rattle.std.specs.Option.{unwrap_or}
use Rattle.std.proofs.Math.Seq.{take-add}
use Rattle.std.proofs.lemmas.List.{get_or-drop, get_or-take, take-append-drop}
use Rattle.rs01_lists.specs.Bytes.{part}
use Rattle.rs01_lists.proofs.Flats.{flat_more}
use Rattle.rs01_ecchead.specs.Erased.{Known, image_len}
use Rattle.rs01_linear.specs.Marking.{place}
use Rattle.rs01_linear.proofs.LaidLemmas.{Sized, laid, place_end, place_more, place_of, width}

-- each sector of a file has these bytes
abbrev pub HasSectors : Known → (ℕ → List ℕ) → List ℕ → Type 0
HasSectors known f file = (s : ℕ) → s < known.sectors → part file (2048 * s) (width known s) ≡ f s

front-is : (known : Known) (f : ℕ → List ℕ) (file : List ℕ) (k : ℕ) → Sized known → HasSectors known f file → k ≤ known.sectors → take (place known k) file ≡ flat_map f (range_with_len 0 k)
front-is known f file zero sized has inside = ap (λ n. take n file) (let e : place known 0 ≡ 0 = omega arith in e)
front-is known f file (suc k) sized has inside =
    let low : k < known.sectors = omega (arith, inside) in
    let before = front-is known f file k sized has (omega (arith, inside)) in
    let here : part file (place known k) (width known k) ≡ f k = ap (λ at. part file at (width known k)) (place_of known k sized low) ∙ has k low in
    let next : place known (suc k) ≡ place known k + width known k = ap (place known) (let e : suc k ≡ k + 1 = omega arith in e) ∙ place_more known k sized low in
    ap (λ n. take n file) next
    ∙ take-add (place known k) (width known k) file
    ∙ (λ i. before i ++ here i)
    ∙ sym (flat_more f k)

-- by its sectors and what stands past the image it is known whole
pub laid_is : (known : Known) (f : ℕ → List ℕ) (y file : List ℕ) → Sized known → HasSectors known f file → drop (image_len known) file ≡ drop (image_len known) y → file ≡ laid known f y
laid_is known f y file sized has surplus =
    let front : take (image_len known) file ≡ flat_map f (range_with_len 0 known.sectors) =
    ap (λ n. take n file) (sym (place_end known sized)) ∙ front-is known f file known.sectors sized has (omega arith) in
    sym (take-append-drop (image_len known) file) ∙ (λ i. front i ++ surplus i)

-- a byte of a part, and one past a place
pub byte_in : (xs : List ℕ) (at n k : ℕ) → at ≤ k → k < at + n → get_or (part xs at n) (k - at) 0 ≡ get_or xs k 0
byte_in xs at n k low high =
    get_or-take n (drop at xs) (k - at) 0 (omega (arith, low, high))
    ∙ get_or-drop at xs (k - at) 0
    ∙ ap (λ i. get_or xs i 0) (let e : at + (k - at) ≡ k = omega (arith, low) in e)

pub byte_past : (xs : List ℕ) (at k : ℕ) → at ≤ k → get_or (drop at xs) (k - at) 0 ≡ get_or xs k 0
byte_past xs at k past =
    get_or-drop at xs (k - at) 0
    ∙ ap (λ i. get_or xs i 0) (let e : at + (k - at) ≡ k = omega (arith, past) in e)

-- where a byte of the image stands
pub record IsByteOf (known : Known) (k s : ℕ) : Type 0 where
  pub below : s < known.sectors
  pub low : 2048 * s ≤ k
  pub high : k < 2048 * s + width known s

pub byte_of : (known : Known) (k : ℕ) → Sized known → k < image_len known → IsByteOf known k (k / 2048)
byte_of known k sized inside =
    let below : k / 2048 < known.sectors = omega (arith, inside, sized.some, sized.fits) in
    record {
      below = below;
      low = omega arith;
      high = omega (arith, inside, place_more known (k / 2048) sized below, place_of known (k / 2048) sized below);
    }

-- a file that has bytes is there
pub file_there : (file : Option (List ℕ)) (n : ℕ) → 1 ≤ n → n ≤ length (unwrap_or file []) → file ≡ Some (unwrap_or file [])
file_there (Some bytes) n some long = refl
file_there None n some long = absurd (never n some long)
  where
    never : (n : ℕ) → 1 ≤ n → n ≤ 0 → ⊥
    never n some long = omega (arith, some, long)

-- so is one as long as an image
pub image_there : (known : Known) (file : Option (List ℕ)) → Sized known → image_len known ≤ length (unwrap_or file []) → file ≡ Some (unwrap_or file [])
image_there known file sized long = file_there file (image_len known) (omega (arith, sized.some_last)) long
