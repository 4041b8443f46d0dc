-- The coefficients of sums and products of polynomials, by their places.
use Rattle.std.proofs.Common.{◌≡◌, ℕ, zero, suc, ◌+◌, ◌-◌, ◌<◌, ◌≤◌, List, [], ◌∷◌, ◌++◌, length, get_or, replicate, refl, sym, ap, ◌∙◌, arith, bit_xor, ⊎_elim, add-one}
use Rattle.std.proofs.lemmas.Bool.{cases_lt}
use Rattle.std.proofs.lemmas.Nat.{xor_comm}
use Rattle.std.proofs.lemmas.List.{get_or-map, get_or_past, length-map}
use Rattle.std.proofs.lemmas.Grind.{same_number_lists}
use Rattle.std.specs.Int.Bits.{xor_zero_r}
use Rattle.rs01_gf256.specs.Field.{times}
use Rattle.rs01_gf256.proofs.Laws.{times-zero}
use Rattle.std.proofs.Math.ListN.{length-append}
use Rattle.std.proofs.lemmas.List.{get_or_append_left, get_or-append_right}
use Rattle.rs01_poly.specs.Polynomial.{add_front, scale, times_linear}

pub length-add_front : (q p : List ℕ) → length (add_front q p) ≡ length p
unfolding add_front
length-add_front q [] = refl
length-add_front [] (y ∷ p) = refl
length-add_front (x ∷ q) (y ∷ p) = ap suc (length-add_front q p)

pub add_front-nil : (p : List ℕ) → add_front [] p ≡ p
unfolding add_front
add_front-nil [] = refl
add_front-nil (y ∷ p) = refl

pub get_or-add_front : (q p : List ℕ) (k : ℕ) → length q ≤ length p → get_or (add_front q p) k 0 ≡ bit_xor (get_or q k 0) (get_or p k 0)
unfolding add_front
get_or-add_front [] [] k h = refl
get_or-add_front [] (y ∷ p) k h = refl
get_or-add_front (x ∷ q) [] k h = absurd (omega arith)
get_or-add_front (x ∷ q) (y ∷ p) zero h = refl
get_or-add_front (x ∷ q) (y ∷ p) (suc k) h = get_or-add_front q p k (omega arith)

pub get_or-scale : (c : ℕ) (p : List ℕ) (k : ℕ) → get_or (scale c p) k 0 ≡ times c (get_or p k 0)
get_or-scale c p k =
    ⊎_elim
    (λ l. get_or-map (times c) p k 0 0 l)
    (λ g. get_or_past (scale c p) k 0 (rw length-map g) ∙ sym (times-zero c) ∙ ap (times c) (sym (get_or_past p k 0 g)))
    (cases_lt k (length p))

pub length-times_linear : (p : List ℕ) (c : ℕ) → length (times_linear p c) ≡ length p + 1
unfolding times_linear
length-times_linear p c = length-add_front (0 ∷ scale c p) (p ++ 0 ∷ []) ∙ length-append p (0 ∷ [])

sub_self : (n : ℕ) → n - n ≡ 0
sub_self n = omega arith

-- a list with the coefficients of the product by x + c is that product
pub linear_is : (p xs : List ℕ) (c : ℕ) → 0 < length p → length xs ≡ length p + 1
    → get_or xs 0 0 ≡ get_or p 0 0
    → ((j : ℕ) → j + 1 < length p → get_or xs (j + 1) 0 ≡ bit_xor (get_or p (j + 1) 0) (times c (get_or p j 0)))
    → get_or xs (length p) 0 ≡ times c (get_or p (length p - 1) 0)
    → xs ≡ times_linear p c
unfolding times_linear
linear_is p xs c some long first middle last =
    same_number_lists xs (times_linear p c) (long ∙ sym (length-times_linear p c))
    (λ k h. at k (omega arith) ∙ sym (get_or-add_front (0 ∷ scale c p) (p ++ 0 ∷ []) k (rw (length-append) (simp length-map (omega arith)))))
  where
    at : (k : ℕ) → k < length p + 1 → get_or xs k 0 ≡ bit_xor (get_or (0 ∷ scale c p) k 0) (get_or (p ++ 0 ∷ []) k 0)
    at zero h = first ∙ sym (get_or_append_left p (0 ∷ []) 0 0 some)
    at (suc j) h =
        ⊎_elim
        (λ l.
        rw add-one at (middle j (rw add-one l))
        ∙ xor_comm (get_or p (suc j) 0) (times c (get_or p j 0))
        ∙ (λ i. bit_xor (sym (get_or-scale c p j) i) (sym (get_or_append_left p (0 ∷ []) 0 (suc j) l) i)))
        (λ g.
        let here : suc j ≡ length p = omega arith in
        let before : length p - 1 ≡ j = omega arith in
        let e : get_or xs (suc j) 0 ≡ times c (get_or p j 0) = rw here (rw before at last) in
        e ∙ sym (xor_zero_r (times c (get_or p j 0)))
        ∙ (λ i. bit_xor (sym (get_or-scale c p j) i) (sym (get_or-append_right p (0 ∷ []) (suc j) (suc j) 0 (sym here) (omega arith) ∙ ap (λ v. get_or (0 ∷ []) v 0) (sub_self (suc j))) i)))
        (cases_lt (suc j) (length p))

-- zeros add nothing
pub add_front-zeros : (r : ℕ) (p : List ℕ) → add_front (replicate r 0) p ≡ p
unfolding add_front
add_front-zeros zero p = add_front-nil p
add_front-zeros (suc r) [] = refl
add_front-zeros (suc r) (y ∷ p) = ap (λ q. y ∷ q) (add_front-zeros r p)

pub add_zeros : (p : List ℕ) → add_front p (replicate (length p) 0) ≡ p
unfolding add_front
add_zeros [] = refl
add_zeros (x ∷ p) = (λ i. xor_zero_r x i ∷ add_zeros p i)
