-- The syndromes of pairs (y, x) of a value and its locator: for each j the sum of all y * x^j. Where the x differ and
-- the syndromes are zero for as many j as there are pairs, every y is zero. By induction on the pairs: c times each
-- syndrome added to the next one gives the syndromes in which each y is multiplied by x + c, so that the pair with
-- x = c is gone.
use Rattle.std.proofs.Common.{◌≡◌, ℕ, zero, suc, ◌%◌, ◌^◌, ◌<◌, List, [], ◌∷◌, length, refl, sym, ap, ◌∙◌, arith, bit_xor, ⊎_elim}
use Rattle.std.proofs.lemmas.Nat.{xor_mod}
use Rattle.std.specs.Int.Bits.{xor_assoc, xor_zero_r, xor_self}
use Rattle.rs01_gf256.specs.Field.{times}
use Rattle.rs01_gf256.proofs.Laws.{xor_swap, times-comm, times-assoc, times-xor_right, zero-times}
use Rattle.rs01_gf256.proofs.Logarithms.{times_below, zero_product}
use Rattle.rs01_poly.proofs.Values.{times-one}

-- the product of the bytes of two numbers, whose laws hold of all numbers
pub mul : ℕ → ℕ → ℕ
mul x y = times (x % 2 ^ 8) (y % 2 ^ 8)

abbrev pub IsZeroByte : ℕ → Type 0
IsZeroByte x = x % 2 ^ 8 ≡ 0

byte_below : (x : ℕ) → x % 2 ^ 8 < 2 ^ 8
byte_below x = omega arith

byte_itself : (x : ℕ) → x < 2 ^ 8 → x % 2 ^ 8 ≡ x
byte_itself x h = omega arith

pub mul_bytes : (x y : ℕ) → x < 2 ^ 8 → y < 2 ^ 8 → mul x y ≡ times x y
unfolding mul
mul_bytes x y hx hy = (λ i. times (byte_itself x hx i) (byte_itself y hy i))

byte-mul : (x y : ℕ) → mul x y % 2 ^ 8 ≡ mul x y
unfolding mul
byte-mul x y = byte_itself _ (times_below (x % 2 ^ 8) (y % 2 ^ 8) (byte_below x) (byte_below y))

comm : (x y : ℕ) → mul x y ≡ mul y x
unfolding mul
comm x y = times-comm (x % 2 ^ 8) (y % 2 ^ 8) (byte_below x) (byte_below y)

assoc : (x y z : ℕ) → mul (mul x y) z ≡ mul x (mul y z)
unfolding mul
assoc x y z =
    ap (λ v. times v (z % 2 ^ 8)) (byte-mul x y)
    ∙ times-assoc (x % 2 ^ 8) (y % 2 ^ 8) (z % 2 ^ 8) (byte_below x) (byte_below y) (byte_below z)
    ∙ ap (times (x % 2 ^ 8)) (sym (byte-mul y z))

dist : (x y z : ℕ) → mul x (bit_xor y z) ≡ bit_xor (mul x y) (mul x z)
unfolding mul
dist x y z = ap (times (x % 2 ^ 8)) (xor_mod y z 8) ∙ times-xor_right (x % 2 ^ 8) (y % 2 ^ 8) (z % 2 ^ 8)

zero_mul : (y p : ℕ) → IsZeroByte y → mul y p ≡ 0
unfolding mul
zero_mul y p e = ap (λ v. times v (p % 2 ^ 8)) e ∙ zero-times (p % 2 ^ 8)

zero_by_one : (y : ℕ) → mul y 1 ≡ 0 → IsZeroByte y
unfolding mul
zero_by_one y e = sym (times-one (y % 2 ^ 8) (byte_below y)) ∙ e

no_divisor : (y d : ℕ) → IsZeroByte (mul y d) → (IsZeroByte d → ⊥) → IsZeroByte y
unfolding mul
no_divisor y d e some =
    ⊎_elim (λ n. n) (λ n. absurd (some n))
    (zero_product (y % 2 ^ 8) (d % 2 ^ 8) (byte_below y) (byte_below d) (sym (byte-mul y d) ∙ e))

-- a + b is 0 only where they are equal
pub xor_same : (a b : ℕ) → bit_xor a b ≡ 0 → b ≡ a
xor_same a b e = sym (ap (λ v. bit_xor v b) (xor_self a)) ∙ xor_assoc a a b ∙ ap (bit_xor a) e ∙ xor_zero_r a

unfoldable pub power_of : ℕ → ℕ → ℕ
power_of x zero = 1
power_of x (suc j) = mul x (power_of x j)

unfoldable pub pairs_syndrome : ℕ → List (ℕ × ℕ) → ℕ
pairs_syndrome j [] = 0
pairs_syndrome j (p ∷ ps) = bit_xor (mul p.0 (power_of p.1 j)) (pairs_syndrome j ps)

moved : ℕ → ℕ × ℕ → ℕ × ℕ
moved c p = (mul p.0 (bit_xor p.1 c), p.1)

shifted : ℕ → List (ℕ × ℕ) → List (ℕ × ℕ)
shifted c [] = []
shifted c (p ∷ ps) = moved c p ∷ shifted c ps

unfoldable pub DiffersFromAll : ℕ → List (ℕ × ℕ) → Type 0
DiffersFromAll c [] = Unit {0}
DiffersFromAll c (p ∷ ps) = (IsZeroByte (bit_xor p.1 c) → ⊥) × DiffersFromAll c ps

unfoldable pub AllDiffer : List (ℕ × ℕ) → Type 0
AllDiffer [] = Unit {0}
AllDiffer (p ∷ ps) = DiffersFromAll p.1 ps × AllDiffer ps

unfoldable pub AllZero : List (ℕ × ℕ) → Type 0
AllZero [] = Unit {0}
AllZero (p ∷ ps) = IsZeroByte p.0 × AllZero ps

mul_zero : (c : ℕ) → mul c 0 ≡ 0
mul_zero c = dist c 0 0 ∙ xor_self (mul c 0)

past : (y c p : ℕ) → mul y (mul c p) ≡ mul c (mul y p)
past y c p = sym (assoc y c p) ∙ ap (λ v. mul v p) (comm y c) ∙ assoc c y p

one_term : (y x c p : ℕ) → mul (mul y (bit_xor x c)) p ≡ bit_xor (mul y (mul x p)) (mul c (mul y p))
one_term y x c p =
    assoc y (bit_xor x c) p
    ∙ ap (mul y) (comm (bit_xor x c) p ∙ dist p x c ∙ (λ i. bit_xor (comm p x i) (comm p c i)))
    ∙ dist y (mul x p) (mul c p)
    ∙ ap (bit_xor (mul y (mul x p))) (past y c p)

pairs_syndrome-shifted : (c j : ℕ) (ps : List (ℕ × ℕ)) → pairs_syndrome j (shifted c ps) ≡ bit_xor (pairs_syndrome (suc j) ps) (mul c (pairs_syndrome j ps))
unfolding pairs_syndrome shifted moved power_of
pairs_syndrome-shifted c j [] = sym (mul_zero c)
pairs_syndrome-shifted c j (p ∷ ps) =
    (λ i. bit_xor (one_term p.0 p.1 c (power_of p.1 j) i) (pairs_syndrome-shifted c j ps i))
    ∙ xor_swap (mul p.0 (mul p.1 (power_of p.1 j))) (mul c (mul p.0 (power_of p.1 j))) (pairs_syndrome (suc j) ps) (mul c (pairs_syndrome j ps))
    ∙ ap (bit_xor (bit_xor (mul p.0 (mul p.1 (power_of p.1 j))) (pairs_syndrome (suc j) ps))) (sym (dist c (mul p.0 (power_of p.1 j)) (pairs_syndrome j ps)))

pairs_syndrome-zeros : (j : ℕ) (ps : List (ℕ × ℕ)) → AllZero ps → pairs_syndrome j ps ≡ 0
unfolding pairs_syndrome AllZero
pairs_syndrome-zeros j [] a = refl
pairs_syndrome-zeros j (p ∷ ps) a = (λ i. bit_xor (zero_mul p.0 (power_of p.1 j) a.0 i) (pairs_syndrome-zeros j ps a.1 i))

length_shifted : (c : ℕ) (ps : List (ℕ × ℕ)) → length (shifted c ps) ≡ length ps
unfolding shifted
length_shifted c [] = refl
length_shifted c (p ∷ ps) = ap suc (length_shifted c ps)

all_shifted : (d c : ℕ) (ps : List (ℕ × ℕ)) → DiffersFromAll d ps → DiffersFromAll d (shifted c ps)
unfolding DiffersFromAll shifted moved
all_shifted d c [] a = tt
all_shifted d c (p ∷ ps) a = (a.0, all_shifted d c ps a.1)

apart_shifted : (c : ℕ) (ps : List (ℕ × ℕ)) → AllDiffer ps → AllDiffer (shifted c ps)
unfolding AllDiffer shifted moved
apart_shifted c [] a = tt
apart_shifted c (p ∷ ps) a = (all_shifted p.1 c ps a.0, apart_shifted c ps a.1)

unshift : (c : ℕ) (ps : List (ℕ × ℕ)) → DiffersFromAll c ps → AllZero (shifted c ps) → AllZero ps
unfolding AllZero DiffersFromAll shifted moved
unshift c [] a n = tt
unshift c (p ∷ ps) a n = (no_divisor p.0 (bit_xor p.1 c) n.0 a.0, unshift c ps a.1 n.1)

pub vanish : (n : ℕ) (ps : List (ℕ × ℕ)) → length ps ≡ n → AllDiffer ps → ((j : ℕ) → j < n → pairs_syndrome j ps ≡ 0) → AllZero ps
unfolding AllZero AllDiffer pairs_syndrome power_of
vanish n [] l a syndromes = tt
vanish zero (p ∷ ps) l a syndromes = absurd (omega arith)
vanish (suc n) (p ∷ ps) l a syndromes =
    let rest : (j : ℕ) → j < suc n → pairs_syndrome j ps ≡ mul p.0 (power_of p.1 j) = λ j h. xor_same (mul p.0 (power_of p.1 j)) (pairs_syndrome j ps) (syndromes j h) in
    let later_zero : (j : ℕ) → j < n → pairs_syndrome j (shifted p.1 ps) ≡ 0 = λ j h.
    pairs_syndrome-shifted p.1 j ps
    ∙ (λ i. bit_xor (rest (suc j) (omega arith) i) (mul p.1 (rest j (omega arith) i)))
    ∙ ap (bit_xor (mul p.0 (mul p.1 (power_of p.1 j)))) (sym (past p.0 p.1 (power_of p.1 j)))
    ∙ xor_self (mul p.0 (mul p.1 (power_of p.1 j))) in
    let later : AllZero ps = unshift p.1 ps a.0 (vanish n (shifted p.1 ps) (length_shifted p.1 ps ∙ (omega arith)) (apart_shifted p.1 ps a.1) later_zero) in
    let here : mul p.0 1 ≡ 0 = sym (rest 0 (omega arith)) ∙ pairs_syndrome-zeros 0 ps later in
    (zero_by_one p.0 here, later)
