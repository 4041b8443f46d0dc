-- The sectors of an image, as the code reads them one by one.
use Rattle.std.proofs.Common.{◌≡◌, ℕ, suc, ◌+◌, ◌-◌, ◌<◌, List, [], ◌∷◌, ◌++◌, length, sym, ap, ◌∙◌, arith, Bool, true, false, add-one, cond}
use Rattle.std.specs.Prelude.{find, Option, Some, None}
use Rattle.std.specs.List.{range_with_len}
use Rattle.std.specs.Option.{option_or}
use Rattle.std.specs.Str.{bytes_eq}
use Rattle.std.proofs.lemmas.List.Folds.{find-append}
use Rattle.std.specs.Bool.{Decides}
use Rattle.std.proofs.lemmas.Bool.Decides.{same_from_decides}
use Rattle.std.proofs.lemmas.Slice.Eq.{bytes_eq-Decides}
use Rattle.rs01_layers.specs.Sectors.{sectors_of, length_of, block, sector}
use Rattle.rs01_layers.specs.Extents.{IsExtentOf}
use Rattle.rs01_layers.specs.declared.extent.Extent.{Extent}
use Rattle.rs01_sums.specs.Marker.{marker}
use Rattle.rs01_create.specs.Create.{first_marked}
use Rattle.rs01_lists.proofs.Ranges.{range_with_len-append, range_with_len_more}

-- a block of the sector's length is the sector
pub is_sector : (image b : List ℕ) (extent : Extent) (s len : ℕ) → IsExtentOf image extent
    → len ≡ length_of extent.sectors extent.last_bytes s → b ≡ block image s len → b ≡ sector image s
is_sector image b extent s len of e f = f ∙ ap (block image s) (e ∙ (λ i. length_of (of.sectors i) (of.last i) s))

-- nothing is found among the numbers below n + 1
pub find_none_more : (p : ℕ → Bool) (n : ℕ) → find p (range_with_len 0 n) ≡ None → p n ≡ false → find p (range_with_len 0 (n + 1)) ≡ None
find_none_more p n none misses =
    ap (λ k. find p (range_with_len 0 k)) (add-one n)
    ∙ ap (find p) (range_with_len_more 0 n ∙ ap (λ k. range_with_len 0 n ++ k ∷ []) (let e : 0 + n ≡ n = omega arith in e))
    ∙ find-append p (range_with_len 0 n) (n ∷ [])
    ∙ ap (λ o. option_or o (find p (n ∷ []))) none
    ∙ ap (λ b. cond b (Some n) None) misses

-- the first number that is found, below n
pub find_first : (p : ℕ → Bool) (n k : ℕ) → k < n → find p (range_with_len 0 k) ≡ None → p k ≡ true → find p (range_with_len 0 n) ≡ Some k
find_first p n k below none hits =
    let split : n ≡ k + suc (n - k - 1) = omega arith in
    ap (λ m. find p (range_with_len 0 m)) split
    ∙ ap (find p) (range_with_len-append 0 k (suc (n - k - 1)))
    ∙ find-append p (range_with_len 0 k) (range_with_len (0 + k) (suc (n - k - 1)))
    ∙ ap (λ o. option_or o (find p (range_with_len (0 + k) (suc (n - k - 1))))) none
    ∙ ap (λ m. find p (range_with_len m (suc (n - k - 1)))) (let e : 0 + k ≡ k = omega arith in e)
    ∙ ap (λ b. cond b (Some k) (find p (range_with_len (k + 1) (n - k - 1)))) hits

-- a test that decides whether a sector's block is its marker
pub marked_test : (s : ℕ) (b image : List ℕ) (r : Bool) → b ≡ sector image s → Decides r (b ≡ marker s) → bytes_eq (sector image s) (marker s) ≡ r
marked_test s b image r e d = ap (λ xs. bytes_eq xs (marker s)) (sym e) ∙ same_from_decides (bytes_eq b (marker s)) r (bytes_eq-Decides b (marker s)) d

pub marked_is : (image : List ℕ) (n : ℕ) (o : Option ℕ) → n ≡ sectors_of (length image)
    → find (λ s. bytes_eq (sector image s) (marker s)) (range_with_len 0 n) ≡ o → o ≡ first_marked image
unfolding first_marked
marked_is image n o e f = sym f ∙ ap (λ k. find (λ s. bytes_eq (sector image s) (marker s)) (range_with_len 0 k)) e
