-- How the value of a word at a root depends on its bytes at some places.
use Rattle.std.proofs.Common.{◌≡◌, ◌≢◌, ℕ, zero, suc, ◌+◌, ◌-◌, ◌*◌, ◌%◌, ◌^◌, ◌<◌, ◌≤◌, List, [], ◌∷◌, length, get_or, set, map, refl, sym, ap, ◌∙◌, arith, bit_xor, ⊎_elim, add-one}
use Rattle.std.proofs.Math.Nat.{mul_assoc, mul_comm}
use Rattle.std.specs.List.Sorted.{IsStrictlyIncreasing}
use Rattle.std.proofs.lemmas.Bool.{cases_lt, cases_eq}
use Rattle.std.proofs.lemmas.Nat.{xor_comm}
use Rattle.std.proofs.lemmas.List.{get_or-set_same, get_or-set_other, length-set, get_or-map, length-map}
use Rattle.std.proofs.lemmas.List.Elements.{All-get_or}
use Rattle.std.proofs.lemmas.Grind.{same_number_lists}
use Rattle.std.specs.Int.Bits.{xor_assoc, xor_zero_r}
use Rattle.rs01_gf256.specs.Field.{times, power}
use Rattle.rs01_gf256.proofs.Laws.{times-assoc}
use Rattle.rs01_gf256.proofs.Logarithms.{power_below, power-add, power-power, zero_product, equal_roots}
use Rattle.rs01_poly.specs.Polynomial.{value_at}
use Rattle.rs01_poly.specs.Code.{root, AgreeOutside}
use Rattle.rs01_poly.proofs.Values.{AllBytes, leading_zero, value_at-cons}
use Rattle.rs01_poly.proofs.Division.{root_below}
use Rattle.rs01_erase.specs.Completion.{ArePlaces}
use Rattle.rs01_erase.specs.PowerSums.{locator, weighted, power_sum, Differ}

-- a power of an element that is not zero is not zero
pub power_some : (x n : ℕ) → 0 < x → x < 2 ^ 8 → power x n ≡ 0 → ⊥
unfolding power
power_some x zero p h e = absurd (omega arith)
power_some x (suc n) p h e =
    ⊎_elim (λ (f : x ≡ 0). absurd (omega arith)) (λ f. power_some x n p h f) (zero_product x (power x n) h (power_below x n h) e)

-- rising numbers, by any two of them
abbrev pub Rises : List ℕ → Type 0
Rises places = (i k : ℕ) → i < k → k < length places → get_or places i 0 < get_or places k 0

pub rises : (places : List ℕ) → IsStrictlyIncreasing places → Rises places
rises places more i zero l h = absurd (omega arith)
rises places more i (suc k) l h =
    let next : get_or places k 0 < get_or places (suc k) 0 = rw add-one at (more k (omega arith)) in
    ⊎_elim
    (λ below. let lower : get_or places i 0 < get_or places k 0 = rises places more i k below (omega arith) in omega arith)
    (λ (same : k ≤ i). let here : i ≡ k = omega arith in rw here next)
    (cases_lt i k)

pub AllBytes-set : (u : List ℕ) (p v : ℕ) → v < 2 ^ 8 → AllBytes u → AllBytes (set u p v)
AllBytes-set [] p v hv hu k = hu k
AllBytes-set (c ∷ u) zero v hv hu zero = hv
AllBytes-set (c ∷ u) zero v hv hu (suc k) = hu (suc k)
AllBytes-set (c ∷ u) (suc p) v hv hu zero = hu 0
AllBytes-set (c ∷ u) (suc p) v hv hu (suc k) = AllBytes-set u p v hv (λ j. hu (suc j)) k

-- a byte written in the place of a zero
value_at-set : (u : List ℕ) (p y z : ℕ) → p < length u → AllBytes u → y < 2 ^ 8 → z < 2 ^ 8 → get_or u p 0 ≡ 0
    → value_at (set u p y) z ≡ bit_xor (value_at u z) (times y (power z (length u - 1 - p)))
value_at-set [] p y z l hu hy hz e = absurd (omega arith)
value_at-set (c ∷ u) zero y z l hu hy hz e =
    let after : suc (length u) - 1 - 0 ≡ length u = omega arith in
    value_at-cons y u z hy hz (λ k. hu (suc k))
    ∙ xor_comm (times y (power z (length u))) (value_at u z)
    ∙ (λ i. bit_xor (sym (ap (λ v. value_at (v ∷ u) z) e ∙ leading_zero u z) i) (times y (power z (sym after i))))
value_at-set (c ∷ u) (suc p) y z l hu hy hz e =
    let after : suc (length u) - 1 - suc p ≡ length u - 1 - p = omega arith in
    let hc : c < 2 ^ 8 = hu 0 in
    let later : AllBytes u = λ k. hu (suc k) in
    value_at-cons c (set u p y) z hc hz (AllBytes-set u p y hy later)
    ∙ (λ i. bit_xor (times c (power z (length-set u p y i))) (value_at-set u p y z (omega arith) later hy hz e i))
    ∙ sym (xor_assoc (times c (power z (length u))) (value_at u z) (times y (power z (length u - 1 - p))))
    ∙ (λ i. bit_xor (sym (value_at-cons c u z hc hz later) i) (times y (power z (sym after i))))

pub locator_below : (p : ℕ) → locator p < 2 ^ 8
unfolding locator
locator_below p = power_below 2 (11 * (254 - p)) (omega arith)

exponents : (m e : ℕ) → 11 * e * m ≡ 11 * m * e
exponents m e = mul_assoc 11 e m ∙ ap (λ k. 11 * k) (mul_comm e m) ∙ sym (mul_assoc 11 m e)

-- a power of a root is a product of powers of the locator
root_power : (p j : ℕ) → power (root j) (254 - p) ≡ times (power (locator p) 112) (power (locator p) j)
unfolding root locator
root_power p j =
    let m = 254 - p in
    power-power 2 (11 * (112 + j)) m (omega arith)
    ∙ ap (power 2) (exponents m (112 + j))
    ∙ sym (power-power 2 (11 * m) (112 + j) (omega arith))
    ∙ power-add (power 2 (11 * m)) 112 j (locator_below p)

one_place : (y p j : ℕ) → y < 2 ^ 8 → times y (power (root j) (254 - p)) ≡ times (times y (power (locator p) 112)) (power (locator p) j)
one_place y p j hy =
    let hx : locator p < 2 ^ 8 = locator_below p in
    ap (times y) (root_power p j)
    ∙ sym (times-assoc y (power (locator p) 112) (power (locator p) j) hy (power_below (locator p) 112 hx) (power_below (locator p) j hx))

-- each of rising numbers is at least as large as how many come before it
at_least : (places : List ℕ) (k : ℕ) → Rises places → k < length places → k ≤ get_or places k 0
at_least places zero rise h = omega arith
at_least places (suc k) rise h =
    let before : k ≤ get_or places k 0 = at_least places k rise (omega arith) in
    let next : get_or places k 0 < get_or places (suc k) 0 = rise k (suc k) (omega arith) h in
    omega arith

-- so at most n numbers that rise are below n
pub few_places : (places : List ℕ) (n : ℕ) → Rises places → ((k : ℕ) → k < length places → get_or places k 0 < n) → length places ≤ n
few_places [] n rise below = omega arith
few_places (p ∷ places) n rise below =
    let last : length places ≤ get_or (p ∷ places) (length places) 0 = at_least (p ∷ places) (length places) rise (omega arith) in
    let high : get_or (p ∷ places) (length places) 0 < n = below (length places) (omega arith) in
    omega arith

-- and at most 255 are places of a codeword
pub at_most_255 : (places : List ℕ) → ArePlaces places → length places ≤ 255
at_most_255 places are = few_places places 255 (rises places are.rising) (λ k h. All-get_or (λ p. p < 255) places k 0 h are.below)

-- c agrees with the word in which the first of these places has the byte of c
pub later_outside : (c u places : List ℕ) (p v : ℕ) → p < length u → v ≡ get_or c p 0 → AgreeOutside c u (p ∷ places)
    → AgreeOutside c (set u p v) places
later_outside c u places p v l e agree q out =
    ⊎_elim
    (λ (same : q ≡ p). rw same (sym e ∙ sym (get_or-set_same u p v 0 l)))
    (λ (other : q ≢ p).
    agree q (λ inside. in_places inside.0 inside.1 inside.2 other) ∙ sym (get_or-set_other u p q v 0 other))
    (cases_eq q p)
  where
    in_places : (k : ℕ) → k < suc (length places) → get_or (p ∷ places) k q ≡ q → q ≢ p → ⊥
    in_places zero h here other = other (sym here)
    in_places (suc k) h here other = out (k, (omega arith), here)

-- the locators of places of a codeword differ
pub locators_differ : (places : List ℕ) → Rises places → ((k : ℕ) → k < length places → get_or places k 0 < 255) → Differ (map locator places)
unfolding locator
locators_differ places rise below i k l h e =
    let long : length (map locator places) ≡ length places = length-map places locator in
    let p = get_or places i 0 in
    let q = get_or places k 0 in
    let hp : p < 255 = below i (omega arith) in
    let hq : q < 255 = below k (omega arith) in
    let higher : p < q = rise i k l (omega arith) in
    let same : locator p ≡ locator q = sym (get_or-map locator places i 0 0 (omega arith)) ∙ e ∙ get_or-map locator places k 0 0 (omega arith) in
    let agree : (254 - p) % 255 ≡ (254 - q) % 255 = equal_roots (254 - p) (254 - q) same in
    omega arith

-- a word's value at a root is that of the word with zeros at these places, and a power sum of its bytes there
pub value_by_places : (c u places : List ℕ) (j : ℕ) → length c ≡ 255 → length u ≡ 255 → AllBytes c → AllBytes u
    → Rises places → ((k : ℕ) → k < length places → get_or places k 0 < 255)
    → ((k : ℕ) → k < length places → get_or u (get_or places k 0) 0 ≡ 0)
    → AgreeOutside c u places
    → value_at c (root j) ≡ bit_xor (value_at u (root j)) (power_sum j (weighted c places) (map locator places))
unfolding power_sum weighted
value_by_places c u [] j lc lu hc hu rise below zeros agree =
    let same : c ≡ u = same_number_lists c u (lc ∙ sym lu) (λ k h. agree k (λ inside. absurd (omega (arith, inside.1)))) in
    ap (λ w. value_at w (root j)) same ∙ sym (xor_zero_r (value_at u (root j)))
value_by_places c u (p ∷ places) j lc lu hc hu rise below zeros agree =
    let v = get_or c p 0 in
    let hp : p < 255 = below 0 (omega arith) in
    let s = power_sum j (weighted c places) (map locator places) in
    let after : length u - 1 - p ≡ 254 - p = omega arith in
    let others : value_at c (root j) ≡ bit_xor (value_at (set u p v) (root j)) s =
    value_by_places c (set u p v) places j lc (length-set u p v ∙ lu) hc (AllBytes-set u p v (hc p) hu)
    (λ i k l h. rise (suc i) (suc k) (omega arith) (omega arith)) (λ k h. below (suc k) (omega arith))
    (λ k h.
    let above : p < get_or places k 0 = rise 0 (suc k) (omega arith) (omega arith) in
    let ne : get_or places k 0 ≢ p = omega arith in
    get_or-set_other u p (get_or places k 0) v 0 ne ∙ zeros (suc k) (omega arith))
    (later_outside c u places p v (omega arith) refl agree) in
    others
    ∙ ap (λ w. bit_xor w s)
    (value_at-set u p v (root j) (omega arith) hu (hc p) (root_below j) (zeros 0 (omega arith))
    ∙ ap (λ w. bit_xor (value_at u (root j)) (times v (power (root j) w))) after
    ∙ ap (bit_xor (value_at u (root j))) (one_place v p j (hc p)))
    ∙ xor_assoc (value_at u (root j)) (times (times v (power (locator p) 112)) (power (locator p) j)) s
