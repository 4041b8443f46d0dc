-- Long division: what it leaves has the value of the whole wherever the divisor vanishes. From it, the data
-- followed by its parity vanishes at the roots.
use Rattle.std.proofs.Common.{◌≡◌, ℕ, zero, suc, ◌+◌, ◌-◌, ◌*◌, ◌^◌, ◌<◌, ◌≤◌, List, [], ◌∷◌, ◌++◌, length, replicate, refl, sym, ap, ◌∙◌, arith, bit_xor, length-append, ⊎_elim}
use Rattle.std.proofs.lemmas.Nat.{xor_lt}
use Rattle.std.proofs.lemmas.Bool.{cases_lt}
use Rattle.std.proofs.lemmas.List.{length-map, length-replicate}
use Rattle.std.specs.Int.Bits.{xor_assoc, xor_zero_r, xor_zero_l, xor_self}
use Rattle.rs01_gf256.specs.Field.{times}
use Rattle.rs01_gf256.proofs.Laws.{xor_swap, times-xor_left, times-xor_right, times-assoc, zero-times, times-zero}
use Rattle.rs01_gf256.proofs.Logarithms.{times_below, power_below}
use Rattle.rs01_poly.specs.Polynomial.{horner, value_at, add_front, scale, remainder}
use Rattle.rs01_poly.specs.Code.{root, generator, lower, encode}
use Rattle.rs01_poly.proofs.Coefficients.{add_front-nil, add_front-zeros, length-add_front}
use Rattle.rs01_poly.proofs.Values.{AllBytes, AllBytes-add_front, AllBytes-scale, AllBytes-append, AllBytes-times_linear, horner-add_front, horner-append, times-one, value_at-times_linear}
use Rattle.rs01_poly.proofs.CodeLaws.{length-lower, generator-monic}

-- (a + c) + (b + (c + y)) is (a + b) + y
cancelled : (a b c y : ℕ) → bit_xor (bit_xor a c) (bit_xor b (bit_xor c y)) ≡ bit_xor (bit_xor a b) y
cancelled a b c y =
    xor_swap a c b (bit_xor c y)
    ∙ ap (bit_xor (bit_xor a b)) (sym (xor_assoc c c y) ∙ ap (λ v. bit_xor v y) (xor_self c) ∙ xor_zero_l y)

one_place : (a b f x y z : ℕ) → b < 2 ^ 8 → f < 2 ^ 8 → z < 2 ^ 8
    → bit_xor (times f (bit_xor (times b z) x)) (bit_xor (times a z) (bit_xor (times f x) y)) ≡ bit_xor (times (bit_xor (times f b) a) z) y
one_place a b f x y z hb hf hz =
    ap (λ v. bit_xor v (bit_xor (times a z) (bit_xor (times f x) y)))
    (times-xor_right f (times b z) x ∙ ap (λ v. bit_xor v (times f x)) (sym (times-assoc f b z hf hb hz)))
    ∙ cancelled (times (times f b) z) (times a z) (times f x) y
    ∙ ap (λ v. bit_xor v y) (sym (times-xor_left (times f b) a z))

-- taking f times the divisor away, of which b is the value of the coefficients that came before
divided_once : (a b f : ℕ) (g p : List ℕ) (z : ℕ) → b < 2 ^ 8 → f < 2 ^ 8 → z < 2 ^ 8 → AllBytes g → length g ≤ length p
    → horner b g z ≡ 0 → horner (bit_xor (times f b) a) p z ≡ horner a (add_front (scale f g) p) z
unfolding horner add_front
divided_once a b f [] p z hb hf hz hg h e =
    (λ i. horner (bit_xor (times f (e i)) a) (sym (add_front-nil p) i) z)
    ∙ ap (λ v. horner v (add_front [] p) z) (ap (λ v. bit_xor v a) (times-zero f) ∙ xor_zero_l a)
divided_once a b f (x ∷ g) [] z hb hf hz hg h e = absurd (omega arith)
divided_once a b f (x ∷ g) (y ∷ p) z hb hf hz hg h e =
    let hv : bit_xor (times b z) x < 2 ^ 8 = xor_lt 8 (times b z) x (times_below b z hb hz) (hg 0) in
    ap (λ v. horner v p z) (sym (one_place a b f x y z hb hf hz))
    ∙ divided_once (bit_xor (times a z) (bit_xor (times f x) y)) (bit_xor (times b z) x) f g p z hv hf hz (λ k. hg (suc k)) (omega arith) e

pub AllBytes-step : (f : ℕ) (g p : List ℕ) → AllBytes g → AllBytes (f ∷ p) → length g ≤ length p → AllBytes (add_front (scale f g) p)
AllBytes-step f g p hg hp h =
    AllBytes-add_front (scale f g) p (omega (arith, length-map g (times f))) (AllBytes-scale f g (hp 0) hg) (λ k. hp (suc k))

pub length-step : (f : ℕ) (g p : List ℕ) → length (add_front (scale f g) p) ≡ length p
length-step f g p = length-add_front (scale f g) p

pub length-remainder : (n : ℕ) (g p : List ℕ) → n ≤ length p → length (remainder n g p) ≡ length p - n
unfolding remainder
length-remainder zero g p h = omega arith
length-remainder (suc n) g [] h = absurd (omega arith)
length-remainder (suc n) g (f ∷ p) h =
    length-remainder n g (add_front (scale f g) p) (omega (arith, length-step f g p)) ∙ ap (λ m. m - n) (length-step f g p) ∙ (omega arith)

pub AllBytes-remainder : (n : ℕ) (g p : List ℕ) → AllBytes g → AllBytes p → length g + n ≤ length p → AllBytes (remainder n g p)
unfolding remainder
AllBytes-remainder zero g p hg hp h = hp
AllBytes-remainder (suc n) g [] hg hp h = hp
AllBytes-remainder (suc n) g (f ∷ p) hg hp h =
    AllBytes-remainder n g (add_front (scale f g) p) hg (AllBytes-step f g p hg hp (omega arith)) (omega (arith, length-step f g p))

-- where the divisor vanishes, what is left has the value of the whole
pub value_at-remainder : (n : ℕ) (g p : List ℕ) (z : ℕ) → z < 2 ^ 8 → AllBytes g → AllBytes p → length g + n ≤ length p
    → value_at (1 ∷ g) z ≡ 0 → value_at (remainder n g p) z ≡ value_at p z
unfolding remainder value_at horner
value_at-remainder zero g p z hz hg hp h e = refl
value_at-remainder (suc n) g [] z hz hg hp h e = refl
value_at-remainder (suc n) g (f ∷ p) z hz hg hp h e =
    let hf : f < 2 ^ 8 = hp 0 in
    let divisor : horner 1 g z ≡ 0 = sym (ap (λ v. horner (bit_xor v 1) g z) (zero-times z)) ∙ e in
    value_at-remainder n g (add_front (scale f g) p) z hz hg (AllBytes-step f g p hg hp (omega arith)) (omega (arith, length-step f g p)) e
    ∙ sym (divided_once 0 1 f g p z (omega arith) hf hz hg (omega arith) divisor)
    ∙ ap (λ v. horner v p z) (xor_zero_r (times f 1) ∙ times-one f hf)
    ∙ sym (ap (λ v. horner (bit_xor v f) p z) (zero-times z))

pub root_below : (j : ℕ) → root j < 2 ^ 8
unfolding root
root_below j = power_below 2 (11 * (112 + j)) (omega arith)

pub AllBytes-generator : (r : ℕ) → AllBytes (generator r)
unfolding generator
AllBytes-generator zero zero = omega arith
AllBytes-generator zero (suc k) = omega arith
AllBytes-generator (suc r) k = AllBytes-times_linear (generator r) (root r) (root_below r) (AllBytes-generator r) k

-- the generator polynomial vanishes at its roots
pub generator_vanishes : (r j : ℕ) → j < r → value_at (generator r) (root j) ≡ 0
unfolding generator
generator_vanishes zero j h = absurd (omega arith)
generator_vanishes (suc r) j h =
    value_at-times_linear (generator r) (root r) (root j) (AllBytes-generator r) (root_below r) (root_below j)
    ∙ ⊎_elim
    (λ l. ap (times (bit_xor (root j) (root r))) (generator_vanishes r j l) ∙ times-zero (bit_xor (root j) (root r)))
    (λ g.
    let same : j ≡ r = omega arith in
    let none : bit_xor (root j) (root r) ≡ 0 = ap (λ k. bit_xor (root k) (root r)) same ∙ xor_self (root r) in
    ap (λ v. times v (value_at (generator r) (root j))) none ∙ zero-times (value_at (generator r) (root j)))
    (cases_lt j r)

pub AllBytes-lower : (r : ℕ) → AllBytes (lower (generator r))
AllBytes-lower r k =
    let tail : AllBytes (1 ∷ lower (generator r)) = (λ (j : ℕ). rw (← generator-monic r) (AllBytes-generator r j)) in
    tail (suc k)

pub AllBytes-zeros : (n : ℕ) → AllBytes (replicate n 0)
AllBytes-zeros zero k = omega arith
AllBytes-zeros (suc n) zero = omega arith
AllBytes-zeros (suc n) (suc k) = AllBytes-zeros n k

pub length-encode : (d : List ℕ) → length d ≤ 255 → length (encode d) ≡ 255 - length d
unfolding encode
length-encode d h =
    let r = 255 - length d in
    let whole : length (d ++ replicate r 0) ≡ length d + r = length-append d (replicate r 0) ∙ ap (λ n. length d + n) (length-replicate r 0) in
    length-remainder (length d) (lower (generator r)) (d ++ replicate r 0) (omega (arith, whole)) ∙ omega (arith, whole)

pub AllBytes-encode : (d : List ℕ) → AllBytes d → AllBytes (encode d)
unfolding encode
AllBytes-encode d hd =
    let r = 255 - length d in
    let whole : length (d ++ replicate r 0) ≡ length d + r = length-append d (replicate r 0) ∙ ap (λ n. length d + n) (length-replicate r 0) in
    AllBytes-remainder (length d) (lower (generator r)) (d ++ replicate r 0) (AllBytes-lower r)
    (AllBytes-append d (replicate r 0) hd (AllBytes-zeros r)) (omega (arith, whole, length-lower r))

-- at a root the parity has the value of the data before zeros
value_at-encode : (d : List ℕ) (j : ℕ) → AllBytes d → j < 255 - length d
    → value_at (encode d) (root j) ≡ value_at (d ++ replicate (255 - length d) 0) (root j)
unfolding encode
value_at-encode d j hd h =
    let r = 255 - length d in
    let whole : length (d ++ replicate r 0) ≡ length d + r = length-append d (replicate r 0) ∙ ap (λ n. length d + n) (length-replicate r 0) in
    value_at-remainder (length d) (lower (generator r)) (d ++ replicate r 0) (root j) (root_below j) (AllBytes-lower r)
    (AllBytes-append d (replicate r 0) hd (AllBytes-zeros r)) (omega (arith, whole, length-lower r))
    (ap (λ p. value_at p (root j)) (sym (generator-monic r)) ∙ generator_vanishes r j h)

-- a polynomial with e at the end, of which the last coefficients before were zero
value_at-ended : (d e : List ℕ) (z : ℕ) → value_at (d ++ e) z ≡ bit_xor (value_at (d ++ replicate (length e) 0) z) (value_at e z)
unfolding value_at
value_at-ended d e z =
    let v = horner 0 d z in
    horner-append 0 d e z
    ∙ (λ i. horner (sym (xor_zero_r v) i) (sym (add_front-zeros (length e) e) i) z)
    ∙ horner-add_front v 0 (replicate (length e) 0) e z (length-replicate (length e) 0)
    ∙ ap (λ w. bit_xor w (horner 0 e z)) (sym (horner-append 0 d (replicate (length e) 0) z))

-- the data followed by its parity vanishes at the roots
pub encoded_vanishes : (d : List ℕ) (j : ℕ) → AllBytes d → length d ≤ 255 → j < 255 - length d → value_at (d ++ encode d) (root j) ≡ 0
encoded_vanishes d j hd long h =
    let z = root j in
    value_at-ended d (encode d) z
    ∙ ap (λ n. bit_xor (value_at (d ++ replicate n 0) z) (value_at (encode d) z)) (length-encode d long)
    ∙ ap (bit_xor (value_at (d ++ replicate (255 - length d) 0) z)) (value_at-encode d j hd h)
    ∙ xor_self (value_at (d ++ replicate (255 - length d) 0) z)
