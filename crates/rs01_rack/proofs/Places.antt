-- The drives of a rack by their numbers.
use Rattle.std.proofs.Common.{◌≡◌, ℕ, zero, suc, ◌+◌, ◌-◌, ◌<◌, ◌≤◌, ◌∙◌, ap, arith, sym, refl, List, [], ◌∷◌, Some, map, length, get_or, take, drop}
use Rattle.std.specs.Prelude.{slice_get}
use Rattle.std.proofs.Math.ListN.{set}
use Rattle.std.proofs.lemmas.List.{length-map, length-set, get_or-set_same, take-take, drop-drop, take-map, drop-map, drop-set-lt, take-set}
use Rattle.std.proofs.lemmas.Option.{slice_get-get_or, slice_get_past}
use Rattle.rs01_outside.specs.DriveState.{DriveState}
use Rattle.rs01_rack.specs.Rack.{AtDrive, ChangesAt}

slice_get-mapped : {B : Type 0} (state : B → DriveState) (xs : List B) (k : ℕ) (b : B) (s : DriveState) → slice_get xs k ≡ Some b → slice_get (map state xs) k ≡ Some s → s ≡ state b
slice_get-mapped state [] k b s is there = cc
slice_get-mapped state (x ∷ xs) zero b s is there = cc
slice_get-mapped state (x ∷ xs) (suc k) b s is there = slice_get-mapped state xs k b s is there

-- what holds of the drives at a place holds of what is known of them
pub at_place : {B : Type 0} (state : B → DriveState) (old new : List B) (place : ℕ) (b b' : B) (P : DriveState → DriveState → Type 0) → slice_get old place ≡ Some b → slice_get new place ≡ Some b' → P (state b) (state b')
    → AtDrive (map state old) (map state new) place P
at_place state old new place b b' P was is holds before after old_there new_there =
    let e = slice_get-mapped state old place b before was old_there in
    let e' = slice_get-mapped state new place b' after is new_there in
    rw (e, e') holds

-- the same for a drive that was put in place of another
pub at_set : {B : Type 0} (state : B → DriveState) (old : List B) (place : ℕ) (b b' : B) (P : DriveState → DriveState → Type 0) → place < length old → b ≡ get_or old place b → P (state b) (state b')
    → AtDrive (map state old) (map state (set old place b')) place P
at_set state old place b b' P inside was holds =
    let old_there : slice_get old place ≡ Some b = slice_get-get_or old place b inside ∙ ap Some (sym was) in
    let new_long : place < length (set old place b') = omega (arith, inside, length-set old place b') in
    let new_there : slice_get (set old place b') place ≡ Some b' = slice_get-get_or (set old place b') place b' new_long ∙ ap Some (get_or-set_same old place b' b' inside) in
    at_place state old (set old place b') place b b' P old_there new_there holds

pub slice_get-take : {X : Type 0} (xs : List X) (n k : ℕ) → k < n → slice_get (take n xs) k ≡ slice_get xs k
slice_get-take xs zero k less = absurd (omega (arith, less))
slice_get-take [] (suc n) k less = refl
slice_get-take (x ∷ xs) (suc n) zero less = refl
slice_get-take (x ∷ xs) (suc n) (suc k) less = slice_get-take xs n k (omega (arith, less))

pub slice_get-drop : {X : Type 0} (xs : List X) (n k : ℕ) → slice_get (drop n xs) k ≡ slice_get xs (n + k)
slice_get-drop xs zero k = ap (slice_get xs) (let e : k ≡ 0 + k = omega arith in e)
slice_get-drop [] (suc n) k = sym (slice_get_past [] (suc n + k) (omega arith))
slice_get-drop (x ∷ xs) (suc n) k = slice_get-drop xs n k ∙ ap (slice_get (x ∷ xs)) (let e : suc (n + k) ≡ suc n + k = omega arith in e)

-- where two lists begin alike, and where they end alike
pub same_before : {X : Type 0} (xs ys : List X) (n k : ℕ) → take n xs ≡ take n ys → k < n → slice_get xs k ≡ slice_get ys k
same_before xs ys n k same less = sym (slice_get-take xs n k less) ∙ ap (λ zs. slice_get zs k) same ∙ slice_get-take ys n k less

pub same_from : {X : Type 0} (xs ys : List X) (n k : ℕ) → drop n xs ≡ drop n ys → n ≤ k → slice_get xs k ≡ slice_get ys k
same_from xs ys n k same past =
    let e : n + (k - n) ≡ k = omega arith in
    ap (slice_get xs) (sym e) ∙ sym (slice_get-drop xs n (k - n)) ∙ ap (λ zs. slice_get zs (k - n)) same ∙ slice_get-drop ys n (k - n) ∙ ap (slice_get ys) e

-- fewer elements of lists that begin alike, and of lists that end alike
pub take_fewer : {X : Type 0} (xs ys : List X) (m n : ℕ) → m ≤ n → take n xs ≡ take n ys → take m xs ≡ take m ys
take_fewer xs ys m n fewer same = sym (take-take m n xs fewer) ∙ ap (take m) same ∙ take-take m n ys fewer

pub drop_more : {X : Type 0} (xs ys : List X) (m n : ℕ) → n ≤ m → drop n xs ≡ drop n ys → drop m xs ≡ drop m ys
drop_more xs ys m n more same =
    let e : n + (m - n) ≡ m = omega arith in
    ap (λ k. drop k xs) (sym e) ∙ sym (drop-drop (m - n) n xs) ∙ ap (drop (m - n)) same ∙ drop-drop (m - n) n ys ∙ ap (λ k. drop k ys) e

pub take_mapped : {B : Type 0} (state : B → DriveState) (xs ys : List B) (n : ℕ) → take n xs ≡ take n ys → take n (map state xs) ≡ take n (map state ys)
take_mapped state xs ys n same = take-map state n xs ∙ ap (map state) same ∙ sym (take-map state n ys)

pub drop_mapped : {B : Type 0} (state : B → DriveState) (xs ys : List B) (n : ℕ) → drop n xs ≡ drop n ys → drop n (map state xs) ≡ drop n (map state ys)
drop_mapped state xs ys n same = drop-map state n xs ∙ ap (map state) same ∙ sym (drop-map state n ys)

-- what holds of a drive since a moment at which it was as at first holds since the first
pub at_same : (old now new : List DriveState) (k : ℕ) (P : DriveState → DriveState → Type 0) → slice_get now k ≡ slice_get old k → AtDrive now new k P → AtDrive old new k P
at_same old now new k P same holds b a was is = holds b a (same ∙ was) is

-- a drive that was put in place of another is all that changed
pub changes_at : {B : Type 0} (state : B → DriveState) (old : List B) (place : ℕ) (b b' : B) (P : DriveState → DriveState → Type 0)
    → place < length old → b ≡ get_or old place b → P (state b) (state b') → ChangesAt place P (map state old) (map state (set old place b'))
changes_at state old place b b' P inside was holds = record {
  number = length-map (set old place b') state ∙ length-set old place b' ∙ sym (length-map old state);
  before = take_mapped state (set old place b') old place (take-set old place b');
  here = at_set state old place b b' P inside was holds;
  behind = drop_mapped state (set old place b') old (place + 1) (drop-set-lt (place + 1) old place b' (omega arith));
}

-- a number of things is one of what is known of them
pub length_mapped : {B : Type 0} (state : B → DriveState) (xs : List B) (n : ℕ) → n ≡ length xs → n ≡ length (map state xs)
length_mapped state xs n is = is ∙ sym (length-map xs state)
