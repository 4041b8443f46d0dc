-- The difference law: a list of at most 255 bytes that vanishes at as many roots as it has places that may differ
-- from zero is zero. The bytes that are not zero give the pairs whose syndromes are those of the list.
use Rattle.std.proofs.Common.{◌≡◌, ℕ, zero, suc, ◌+◌, ◌-◌, ◌*◌, ◌%◌, ◌^◌, ◌<◌, ◌≤◌, List, [], ◌∷◌, ◌++◌, length, get_or, refl, sym, ap, ◌∙◌, arith, bit_xor, ⊎_elim}
use Rattle.std.proofs.Math.Nat.{mul_assoc, mul_comm}
use Rattle.std.specs.Prelude.{Contains}
use Rattle.std.specs.List.Sorted.{IsStrictlyIncreasing}
use Rattle.std.proofs.lemmas.Nat.{xor_lt}
use Rattle.std.proofs.lemmas.Bool.{cases_lt}
use Rattle.std.proofs.lemmas.List.{append_cancel_left, length-append}
use Rattle.std.proofs.lemmas.Grind.{same_number_lists}
use Rattle.std.specs.Int.Bits.{xor_self}
use Rattle.rs01_gf256.specs.Field.{times, power}
use Rattle.rs01_gf256.proofs.Laws.{times-assoc}
use Rattle.rs01_gf256.proofs.Logarithms.{times_below, power_below, power-add, power-power, zero_product, equal_roots}
use Rattle.rs01_poly.specs.Polynomial.{horner, value_at, add_front}
use Rattle.rs01_poly.specs.Code.{root, syndrome, encode, IsCodeword, VanishesAtRoots, IsZeroOutside, AgreeOutside}
use Rattle.rs01_poly.proofs.Coefficients.{length-add_front, get_or-add_front}
use Rattle.rs01_poly.proofs.Values.{AllBytes, bytes_of_all, all_of_bytes, AllBytes-add_front, AllBytes-append, leading_zero, value_at-cons, value_at-add_front}
use Rattle.rs01_poly.proofs.Division.{root_below, length-encode, AllBytes-encode, encoded_vanishes}
use Rattle.rs01_poly.proofs.Syndromes.{mul, mul_bytes, IsZeroByte, power_of, pairs_syndrome, DiffersFromAll, AllDiffer, AllZero, vanish, xor_same}

-- the power of 2^11 that stands for the place with m places after it
pub locator : ℕ → ℕ
locator m = power 2 (11 * m)

locator_below : (m : ℕ) → locator m < 2 ^ 8
unfolding locator
locator_below m = power_below 2 (11 * m) (omega arith)

-- for each byte that is not zero, from the first on: the byte times the 112th power of its locator, and the locator
pub pairs : List ℕ → List (ℕ × ℕ)
pairs [] = []
pairs (zero ∷ c) = pairs c
pairs (suc y ∷ c) = (times (suc y) (power (locator (length c)) 112), locator (length c)) ∷ pairs c

power_of-bytes : (x j : ℕ) → x < 2 ^ 8 → power_of x j ≡ power x j
unfolding power_of power
power_of-bytes x zero h = refl
power_of-bytes x (suc j) h = ap (mul x) (power_of-bytes x j h) ∙ mul_bytes x (power x j) h (power_below x j h)

exponents : (m e : ℕ) → 11 * e * m ≡ 11 * m * e
exponents m e = mul_assoc 11 e m ∙ ap (λ k. 11 * k) (mul_comm e m) ∙ sym (mul_assoc 11 m e)

-- a power of a root is a product of powers of the locator
root_power : (m j : ℕ) → power (root j) m ≡ times (power (locator m) 112) (power (locator m) j)
unfolding root locator
root_power m j =
    power-power 2 (11 * (112 + j)) m (omega arith)
    ∙ ap (power 2) (exponents m (112 + j))
    ∙ sym (power-power 2 (11 * m) (112 + j) (omega arith))
    ∙ power-add (power 2 (11 * m)) 112 j (locator_below m)

one_pair : (y m j : ℕ) → y < 2 ^ 8 → times y (power (root j) m) ≡ mul (times y (power (locator m) 112)) (power_of (locator m) j)
one_pair y m j hy =
    let x = locator m in
    let hx : x < 2 ^ 8 = locator_below m in
    let h112 : power x 112 < 2 ^ 8 = power_below x 112 hx in
    let hj : power x j < 2 ^ 8 = power_below x j hx in
    ap (times y) (root_power m j)
    ∙ sym (times-assoc y (power x 112) (power x j) hy h112 hj)
    ∙ sym (mul_bytes (times y (power x 112)) (power x j) (times_below y (power x 112) hy h112) hj)
    ∙ ap (mul (times y (power x 112))) (sym (power_of-bytes x j hx))

-- the syndromes of a list are those of its pairs
syndrome-pairs : (c : List ℕ) (j : ℕ) → AllBytes c → syndrome c j ≡ pairs_syndrome j (pairs c)
unfolding pairs pairs_syndrome value_at horner
syndrome-pairs [] j h = refl
syndrome-pairs (zero ∷ c) j h = leading_zero c (root j) ∙ syndrome-pairs c j (λ k. h (suc k))
syndrome-pairs (suc y ∷ c) j h =
    value_at-cons (suc y) c (root j) (h 0) (root_below j) (λ k. h (suc k))
    ∙ (λ i. bit_xor (one_pair (suc y) (length c) j (h 0) i) (syndrome-pairs c j (λ k. h (suc k)) i))

locators_differ : (m n : ℕ) → m < 255 → n < 255 → IsZeroByte (bit_xor (locator m) (locator n)) → n ≡ m
unfolding locator
locators_differ m n hm hn e =
    let both : bit_xor (locator m) (locator n) < 2 ^ 8 = xor_lt 8 (locator m) (locator n) (locator_below m) (locator_below n) in
    let none : bit_xor (locator m) (locator n) ≡ 0 = omega arith in
    let agree : n % 255 ≡ m % 255 = equal_roots n m (xor_same (locator m) (locator n) none) in
    omega arith

all_after_differ : (m : ℕ) (c : List ℕ) → length c ≤ m → m < 255 → DiffersFromAll (locator m) (pairs c)
unfolding pairs DiffersFromAll
all_after_differ m [] h hm = tt
all_after_differ m (zero ∷ c) h hm = all_after_differ m c (omega arith) hm
all_after_differ m (suc y ∷ c) h hm =
    ((λ e. let same : m ≡ length c = locators_differ (length c) m (omega arith) hm e in absurd (omega arith)), all_after_differ m c (omega arith) hm)

all_differ : (c : List ℕ) → length c ≤ 255 → AllDiffer (pairs c)
unfolding pairs AllDiffer
all_differ [] h = tt
all_differ (zero ∷ c) h = all_differ c (omega arith)
all_differ (suc y ∷ c) h = (all_after_differ (length c) c (omega arith) (omega arith), all_differ c (omega arith))

power_some : (x n : ℕ) → 0 < x → x < 2 ^ 8 → power x n ≡ 0 → ⊥
unfolding power
power_some x zero p h e = absurd (omega arith)
power_some x (suc n) p h e =
    ⊎_elim (λ (f : x ≡ 0). absurd (omega arith)) (λ f. power_some x n p h f) (zero_product x (power x n) h (power_below x n h) e)

locator_some : (m : ℕ) → 0 < locator m
unfolding locator
locator_some m = ⊎_elim (λ h. h) (λ (g : power 2 (11 * m) ≤ 0). absurd (power_some 2 (11 * m) (omega arith) (omega arith) (omega arith))) (cases_lt 0 (power 2 (11 * m)))

none_left : (c : List ℕ) → AllBytes c → AllZero (pairs c) → (k : ℕ) → get_or c k 0 ≡ 0
unfolding pairs AllZero
none_left [] h a k = refl
none_left (zero ∷ c) h a zero = refl
none_left (zero ∷ c) h a (suc k) = none_left c (λ j. h (suc j)) a k
none_left (suc y ∷ c) h a k =
    let x = locator (length c) in
    let hx : x < 2 ^ 8 = locator_below (length c) in
    let hp : power x 112 < 2 ^ 8 = power_below x 112 hx in
    let small : times (suc y) (power x 112) < 2 ^ 8 = times_below (suc y) (power x 112) (h 0) hp in
    let zero_byte : times (suc y) (power x 112) % 2 ^ 8 ≡ 0 = a.0 in
    let none : times (suc y) (power x 112) ≡ 0 = omega arith in
    ⊎_elim (λ (f : suc y ≡ 0). absurd (omega arith)) (λ f. absurd (power_some x 112 (locator_some (length c)) hx f))
    (zero_product (suc y) (power x 112) (h 0) hp none)

-- a list that vanishes at the first n roots and has at most n bytes that are not zero is zero
pub few_vanish : (c : List ℕ) (n : ℕ) → length c ≤ 255 → AllBytes c → length (pairs c) ≤ n → VanishesAtRoots c n
    → (k : ℕ) → get_or c k 0 ≡ 0
few_vanish c n long bytes few e =
    none_left c bytes
    (vanish (length (pairs c)) (pairs c) refl (all_differ c long) (λ j h. sym (syndrome-pairs c j bytes) ∙ e j (omega arith)))

-- the places rise, from s or more
RisesFrom : ℕ → List ℕ → Type 0
RisesFrom s [] = Unit {0}
RisesFrom s (p ∷ places) = (s ≤ p) × RisesFrom (suc p) places

rises_from : (s : ℕ) (places : List ℕ) → (0 < length places → s ≤ get_or places 0 0) → IsStrictlyIncreasing places → RisesFrom s places
unfolding RisesFrom
rises_from s [] first more = tt
rises_from s (p ∷ places) first more = (
  first (omega arith),
  rises_from (suc p) places (λ h. more 0 (omega arith))
      (λ k h. let same : suc k + 1 ≡ suc (k + 1) = omega arith in rw same at (more (suc k) (omega arith))),
)

none_below : (s : ℕ) (places : List ℕ) (p k : ℕ) → RisesFrom s places → k < length places → get_or places k p ≡ p → s ≤ p
unfolding RisesFrom
none_below s [] p k r h e = absurd (omega arith)
none_below s (q ∷ places) p zero r h e = omega arith
none_below s (q ∷ places) p (suc k) r h e = let later : suc q ≤ p = none_below (suc q) places p k r.1 (omega arith) e in omega arith

pairs-zero : (y : ℕ) (c : List ℕ) → y ≡ 0 → pairs (y ∷ c) ≡ pairs c
unfolding pairs
pairs-zero zero c e = refl
pairs-zero (suc y) c e = absurd (omega arith)

pairs-more : (y : ℕ) (c : List ℕ) → length (pairs (y ∷ c)) ≤ suc (length (pairs c))
unfolding pairs
pairs-more zero c = omega arith
pairs-more (suc y) c = omega arith

pairs_few : (c : List ℕ) → length (pairs c) ≤ length c
unfolding pairs
pairs_few [] = omega arith
pairs_few (zero ∷ c) = omega (arith, pairs_few c)
pairs_few (suc y ∷ c) = omega (arith, pairs_few c)

-- at most as many bytes differ from zero as there are places outside which they are zero; c begins at place s
few_pairs : (c places : List ℕ) (s : ℕ) → RisesFrom s places → ((k : ℕ) → (Contains places (s + k) → ⊥) → get_or c k 0 ≡ 0)
    → length (pairs c) ≤ length places
unfolding RisesFrom
few_pairs [] places s r out = omega (arith, pairs_few [])
few_pairs (y ∷ c) [] s r out =
    let none : y ≡ 0 = out 0 (λ h. absurd (omega (arith, h.1))) in
    let rest : length (pairs c) ≤ 0 = few_pairs c [] (suc s) tt (λ k n. out (suc k) (λ h. absurd (omega (arith, h.1)))) in
    omega (arith, ap length (pairs-zero y c none))
few_pairs (y ∷ c) (p ∷ places) s r out =
    ⊎_elim
    (λ (above : s < p).
    let none : y ≡ 0 = out 0 (λ h.
    let no_lower : p ≤ s + 0 = none_below p (p ∷ places) (s + 0) h.0 ((omega arith), r.1) h.1 h.2 in absurd (omega arith)) in
    let rest : length (pairs c) ≤ suc (length places) =
    few_pairs c (p ∷ places) (suc s) (above, r.1)
    (λ k n. let same : s + suc k ≡ suc s + k = omega arith in out (suc k) (rw same n)) in
    omega (arith, ap length (pairs-zero y c none)))
    (λ (here : p ≤ s).
    let same_place : p ≡ s = omega (arith, r.0) in
    let later : RisesFrom (suc s) places = rw same_place at r.1 in
    let rest : length (pairs c) ≤ length places =
    few_pairs c places (suc s) later
    (λ k n. out (suc k) (λ h. let same : s + suc k ≡ suc s + k = omega arith in n (in_rest p places s k same_place (rw same at h)))) in
    omega (arith, pairs-more y c))
    (cases_lt s p)
  where
    in_rest : (p : ℕ) (places : List ℕ) (s k : ℕ) → p ≡ s → Contains (p ∷ places) (suc s + k) → Contains places (suc s + k)
    in_rest p places s k e (zero, h, f) = absurd (omega arith)
    in_rest p places s k e (suc j, h, f) = (j, omega arith, f)

-- the difference law: a list that vanishes at the first n roots, and is zero outside at most n places, is zero
pub difference_law : (c places : List ℕ) (n : ℕ) → length c ≤ 255 → AllBytes c → IsStrictlyIncreasing places → length places ≤ n
    → IsZeroOutside c places → VanishesAtRoots c n → (k : ℕ) → get_or c k 0 ≡ 0
difference_law c places n long bytes rising few out e =
    let pairs_below : length (pairs c) ≤ length places =
    few_pairs c places 0 (rises_from 0 places (λ h. omega arith) rising)
    (λ k h. out k (λ inside. let same : 0 + k ≡ k = omega arith in h (rw same inside))) in
    few_vanish c n long bytes (omega arith) e

-- two lists whose difference has few bytes that are not zero, and which have the same values at the roots, are equal
agree_few : (c w : List ℕ) (n : ℕ) → length c ≡ length w → length c ≤ 255 → AllBytes c → AllBytes w
    → length (pairs (add_front c w)) ≤ n → VanishesAtRoots c n → VanishesAtRoots w n → c ≡ w
agree_few c w n same long hc hw few vc vw =
    let sum : length (add_front c w) ≡ length w = length-add_front c w in
    let zeros : (k : ℕ) → get_or (add_front c w) k 0 ≡ 0 =
    few_vanish (add_front c w) n (omega arith) (AllBytes-add_front c w (omega arith) hc hw) few
    (λ j h. value_at-add_front c w (root j) same ∙ (λ i. bit_xor (vc j h i) (vw j h i))) in
    same_number_lists c w same
    (λ k h. sym (xor_same (get_or c k 0) (get_or w k 0) (sym (get_or-add_front c w k (omega arith)) ∙ zeros k)))

-- two codewords that agree outside at most r places are equal
pub codewords_agree : (c w places : List ℕ) (r : ℕ) → IsCodeword c r → IsCodeword w r → IsStrictlyIncreasing places → length places ≤ r
    → AgreeOutside c w places → c ≡ w
codewords_agree c w places r hc hw rising few agree =
    let same : length c ≡ length w = hc.whole ∙ sym hw.whole in
    let long : length c ≤ 255 = omega (arith, hc.whole) in
    let out : (k : ℕ) → (Contains places (0 + k) → ⊥) → get_or (add_front c w) k 0 ≡ 0 = λ k h.
    get_or-add_front c w k (omega arith)
    ∙ ap (λ b. bit_xor b (get_or w k 0)) (agree k (λ inside. let zero_more : 0 + k ≡ k = omega arith in h (rw zero_more inside)))
    ∙ xor_self (get_or w k 0) in
    let pairs_below : length (pairs (add_front c w)) ≤ length places =
    few_pairs (add_front c w) places 0 (rises_from 0 places (λ h. omega arith) rising) out in
    agree_few c w r same long (bytes_of_all c hc.bytes) (bytes_of_all w hw.bytes) (omega arith) hc.vanishes hw.vanishes

-- lists that begin alike differ only in what follows
pairs-same_front : (d e p : List ℕ) → pairs (add_front (d ++ e) (d ++ p)) ≡ pairs (add_front e p)
unfolding add_front
pairs-same_front [] e p = refl
pairs-same_front (x ∷ d) e p = pairs-zero (bit_xor x x) (add_front (d ++ e) (d ++ p)) (xor_self x) ∙ pairs-same_front d e p

-- the data followed by its encoding is a codeword
pub encoding_is_codeword : (d : List ℕ) → AllBytes d → length d ≤ 255 → IsCodeword (d ++ encode d) (255 - length d)
encoding_is_codeword d bytes long = record {
  whole = omega (arith, length-append d (encode d), length-encode d long);
  bytes = all_of_bytes (d ++ encode d) (AllBytes-append d (encode d) bytes (AllBytes-encode d bytes));
  vanishes = λ j h. encoded_vanishes d j bytes long h;
}

-- no other parity makes the data a codeword
pub encoding_is_unique : (d p : List ℕ) → AllBytes d → AllBytes p → length d + length p ≡ 255 → IsCodeword (d ++ p) (length p) → p ≡ encode d
encoding_is_unique d p hd hp whole code =
    let long : length d ≤ 255 = omega arith in
    let count : 255 - length d ≡ length p = omega arith in
    let encoded : IsCodeword (d ++ encode d) (length p) = rw count at (encoding_is_codeword d hd long) in
    let parity : length (encode d) ≡ length p = length-encode d long ∙ count in
    let few : length (pairs (add_front (d ++ p) (d ++ encode d))) ≤ length p =
    omega (arith, ap length (pairs-same_front d p (encode d)), pairs_few (add_front p (encode d)), length-add_front p (encode d)) in
    append_cancel_left d p (encode d)
    (agree_few (d ++ p) (d ++ encode d) (length p) (code.whole ∙ sym encoded.whole) (omega (arith, code.whole))
    (AllBytes-append d p hd hp) (AllBytes-append d (encode d) hd (AllBytes-encode d hd)) few code.vanishes encoded.vanishes)
