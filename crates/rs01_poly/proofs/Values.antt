-- The value of a polynomial: of sums, multiples and products, and as a sum of powers.
use Rattle.std.proofs.Common.{◌≡◌, ℕ, zero, suc, ◌^◌, ◌<◌, ◌≤◌, List, [], ◌∷◌, ◌++◌, length, get_or, refl, sym, ap, ◌∙◌, arith, bit_xor, length-append, ⊎_elim}
use Rattle.std.specs.Prelude.{All}
use Rattle.std.proofs.lemmas.Bool.{cases_lt}
use Rattle.std.proofs.lemmas.Nat.{xor_comm, xor_lt}
use Rattle.std.proofs.lemmas.List.{length-map, get_or_past}
use Rattle.std.proofs.lemmas.List.Elements.{All-get_or, All-from_get_or}
use Rattle.std.specs.Int.Bits.{xor_assoc, xor_zero_r}
use Rattle.rs01_gf256.specs.Field.{times, power}
use Rattle.rs01_gf256.proofs.Laws.{xor_swap, times-xor_left, times-xor_right, times-assoc, times-comm, zero-times, times-zero, one-times}
use Rattle.rs01_gf256.proofs.Logarithms.{times_below, power_below}
use Rattle.rs01_poly.specs.Polynomial.{horner, value_at, add_front, scale, times_linear}
use Rattle.rs01_poly.proofs.Coefficients.{get_or-add_front, get_or-scale}

-- each coefficient is a byte
abbrev pub AllBytes : List ℕ → Type 0
AllBytes p = (k : ℕ) → get_or p k 0 < 2 ^ 8

pub bytes_of_all : (p : List ℕ) → All (λ b. b < 2 ^ 8) p → AllBytes p
bytes_of_all p h k =
    ⊎_elim (λ l. All-get_or (λ b. b < 2 ^ 8) p k 0 l h) (λ g. rw (get_or_past p k 0 g) (omega arith)) (cases_lt k (length p))

pub all_of_bytes : (p : List ℕ) → AllBytes p → All (λ b. b < 2 ^ 8) p
all_of_bytes p h = All-from_get_or (λ b. b < 2 ^ 8) p 0 (λ k l. h k)

pub times-one : (x : ℕ) → x < 2 ^ 8 → times x 1 ≡ x
times-one x h = times-comm x 1 h (omega arith) ∙ one-times x h

pub horner_below : (v : ℕ) (p : List ℕ) (z : ℕ) → v < 2 ^ 8 → z < 2 ^ 8 → AllBytes p → horner v p z < 2 ^ 8
unfolding horner
horner_below v [] z hv hz hp = hv
horner_below v (c ∷ p) z hv hz hp =
    horner_below (bit_xor (times v z) c) p z (xor_lt 8 (times v z) c (times_below v z hv hz) (hp 0)) hz (λ k. hp (suc k))

pub value_below : (p : List ℕ) (z : ℕ) → z < 2 ^ 8 → AllBytes p → value_at p z < 2 ^ 8
unfolding value_at
value_below p z hz hp = horner_below 0 p z (omega arith) hz hp

-- the value of a sum is the sum of the values
pub horner-add_front : (u v : ℕ) (q p : List ℕ) (z : ℕ) → length q ≡ length p
    → horner (bit_xor u v) (add_front q p) z ≡ bit_xor (horner u q z) (horner v p z)
unfolding horner add_front
horner-add_front u v [] [] z e = refl
horner-add_front u v [] (y ∷ p) z e = absurd (omega arith)
horner-add_front u v (x ∷ q) [] z e = absurd (omega arith)
horner-add_front u v (x ∷ q) (y ∷ p) z e =
    ap (λ w. horner (bit_xor w (bit_xor x y)) (add_front q p) z) (times-xor_left u v z)
    ∙ ap (λ w. horner w (add_front q p) z) (xor_swap (times u z) (times v z) x y)
    ∙ horner-add_front (bit_xor (times u z) x) (bit_xor (times v z) y) q p z (omega arith)

pub value_at-add_front : (q p : List ℕ) (z : ℕ) → length q ≡ length p
    → value_at (add_front q p) z ≡ bit_xor (value_at q z) (value_at p z)
unfolding value_at
value_at-add_front q p z e = horner-add_front 0 0 q p z e

-- the value of a multiple is the multiple of the value
pub horner-scale : (c v : ℕ) (p : List ℕ) (z : ℕ) → c < 2 ^ 8 → v < 2 ^ 8 → z < 2 ^ 8 → AllBytes p
    → horner (times c v) (scale c p) z ≡ times c (horner v p z)
unfolding horner
horner-scale c v [] z hc hv hz hp = refl
horner-scale c v (x ∷ p) z hc hv hz hp =
    ap (λ w. horner w (scale c p) z)
    (ap (λ w. bit_xor w (times c x)) (times-assoc c v z hc hv hz) ∙ sym (times-xor_right c (times v z) x))
    ∙ horner-scale c (bit_xor (times v z) x) p z hc (xor_lt 8 (times v z) x (times_below v z hv hz) (hp 0)) hz (λ k. hp (suc k))

pub horner-append : (v : ℕ) (p q : List ℕ) (z : ℕ) → horner v (p ++ q) z ≡ horner (horner v p z) q z
unfolding horner
horner-append v [] q z = refl
horner-append v (x ∷ p) q z = horner-append (bit_xor (times v z) x) p q z

-- a leading zero changes no value
pub leading_zero : (p : List ℕ) (z : ℕ) → value_at (0 ∷ p) z ≡ value_at p z
unfolding value_at horner
leading_zero p z = ap (λ w. horner w p z) (xor_zero_r (times 0 z) ∙ zero-times z)

-- the value of the product by x + c is the product of the values
pub value_at-times_linear : (p : List ℕ) (c z : ℕ) → AllBytes p → c < 2 ^ 8 → z < 2 ^ 8
    → value_at (times_linear p c) z ≡ times (bit_xor z c) (value_at p z)
unfolding value_at times_linear horner
value_at-times_linear p c z hp hc hz =
    let same : length (0 ∷ scale c p) ≡ length (p ++ 0 ∷ []) = omega (arith, length-map p (times c), length-append p (0 ∷ [])) in
    let v = horner 0 p z in
    let hv : v < 2 ^ 8 = horner_below 0 p z (omega arith) hz hp in
    let scaled : horner 0 (0 ∷ scale c p) z ≡ times c v =
    leading_zero (scale c p) z
    ∙ ap (λ w. horner w (scale c p) z) (sym (times-zero c))
    ∙ horner-scale c 0 p z hc (omega arith) hz hp in
    let moved : horner 0 (p ++ 0 ∷ []) z ≡ times z v =
    horner-append 0 p (0 ∷ []) z ∙ xor_zero_r (times v z) ∙ times-comm v z hv hz in
    horner-add_front 0 0 (0 ∷ scale c p) (p ++ 0 ∷ []) z same
    ∙ (λ i. bit_xor (scaled i) (moved i))
    ∙ xor_comm (times c v) (times z v)
    ∙ sym (times-xor_left z c v)

-- the value that came before is multiplied by z for each later coefficient
pub horner-split : (v : ℕ) (p : List ℕ) (z : ℕ) → v < 2 ^ 8 → z < 2 ^ 8 → AllBytes p
    → horner v p z ≡ bit_xor (times v (power z (length p))) (value_at p z)
unfolding horner value_at power
horner-split v [] z hv hz hp = sym (xor_zero_r (times v 1) ∙ times-one v hv)
horner-split v (c ∷ p) z hv hz hp =
    let w = power z (length p) in
    let hw : w < 2 ^ 8 = power_below z (length p) hz in
    let here : horner 0 (c ∷ p) z ≡ bit_xor (times c w) (horner 0 p z) =
    ap (λ u. horner (bit_xor u c) p z) (zero-times z) ∙ horner-split c p z (hp 0) hz (λ k. hp (suc k)) in
    horner-split (bit_xor (times v z) c) p z (xor_lt 8 (times v z) c (times_below v z hv hz) (hp 0)) hz (λ k. hp (suc k))
    ∙ ap (λ u. bit_xor u (horner 0 p z)) (times-xor_left (times v z) c w ∙ ap (λ u. bit_xor u (times c w)) (times-assoc v z w hv hz hw))
    ∙ xor_assoc (times v (times z w)) (times c w) (horner 0 p z)
    ∙ ap (bit_xor (times v (times z w))) (sym here)

-- the value of a polynomial by its leading coefficient and the others
pub value_at-cons : (c : ℕ) (p : List ℕ) (z : ℕ) → c < 2 ^ 8 → z < 2 ^ 8 → AllBytes p
    → value_at (c ∷ p) z ≡ bit_xor (times c (power z (length p))) (value_at p z)
unfolding value_at horner
value_at-cons c p z hc hz hp = ap (λ u. horner (bit_xor u c) p z) (zero-times z) ∙ horner-split c p z hc hz hp

-- the coefficients of sums, multiples and products of bytes are bytes
pub AllBytes-add_front : (q p : List ℕ) → length q ≤ length p → AllBytes q → AllBytes p → AllBytes (add_front q p)
AllBytes-add_front q p h hq hp k = rw (get_or-add_front q p k h) (xor_lt 8 (get_or q k 0) (get_or p k 0) (hq k) (hp k))

pub AllBytes-scale : (c : ℕ) (p : List ℕ) → c < 2 ^ 8 → AllBytes p → AllBytes (scale c p)
AllBytes-scale c p hc hp k = rw (get_or-scale c p k) (times_below c (get_or p k 0) hc (hp k))

pub AllBytes-cons : (c : ℕ) (p : List ℕ) → c < 2 ^ 8 → AllBytes p → AllBytes (c ∷ p)
AllBytes-cons c p hc hp zero = hc
AllBytes-cons c p hc hp (suc k) = hp k

pub AllBytes-append : (p q : List ℕ) → AllBytes p → AllBytes q → AllBytes (p ++ q)
AllBytes-append [] q hp hq k = hq k
AllBytes-append (x ∷ p) q hp hq zero = hp 0
AllBytes-append (x ∷ p) q hp hq (suc k) = AllBytes-append p q (λ j. hp (suc j)) hq k

pub AllBytes-times_linear : (p : List ℕ) (c : ℕ) → c < 2 ^ 8 → AllBytes p → AllBytes (times_linear p c)
unfolding times_linear
AllBytes-times_linear p c hc hp =
    AllBytes-add_front (0 ∷ scale c p) (p ++ 0 ∷ []) (rw (length-append p (0 ∷ [])) (simp length-map (omega arith)))
    (AllBytes-cons 0 (scale c p) (omega arith) (AllBytes-scale c p hc hp))
    (AllBytes-append p (0 ∷ []) hp (AllBytes-cons 0 [] (omega arith) (λ k. omega arith)))
