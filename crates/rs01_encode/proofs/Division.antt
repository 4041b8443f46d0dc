-- One step of long division is one step of the shift register.
use Rattle.std.proofs.Common.{◌≡◌, ℕ, suc, ◌+◌, ◌-◌, ◌<◌, ◌≤◌, List, [], ◌∷◌, ◌++◌, length, get_or, drop, replicate, sym, ap, ◌∙◌, arith, add-one, bit_xor, length-append}
use Rattle.std.proofs.Math.Seq.{drop-cons}
use Rattle.std.proofs.Math.ListN.{drop_of_length-le}
use Rattle.std.proofs.lemmas.Nat.{xor_comm}
use Rattle.std.proofs.lemmas.List.{length-map, length-replicate}
use Rattle.std.proofs.lemmas.Grind.{same_number_lists}
use Rattle.std.specs.Int.Bits.{xor_assoc}
use Rattle.rs01_gf256.specs.Field.{times}
use Rattle.rs01_poly.specs.Polynomial.{add_front, scale, remainder}
use Rattle.rs01_poly.specs.Code.{encode, generator, lower}
use Rattle.rs01_encode.specs.Register.{IsShifted}
use Rattle.rs01_poly.proofs.CodeLaws.{length-lower}
use Rattle.rs01_poly.proofs.Coefficients.{add_front-zeros, add_zeros, length-add_front, get_or-add_front, get_or-scale}

pub division_step : (n b : ℕ) (g new old p : List ℕ)
    → length g ≡ length old → length new ≡ length old → 0 < length old → length old ≤ suc (length p)
    → length old ≤ length p
    → IsShifted old new g b
    → remainder (suc n) g (add_front old (b ∷ p)) ≡ remainder n g (add_front new p)
unfolding remainder add_front
division_step n b g new [] p eg en some fits room steps = absurd (omega arith)
division_step n b g new (f ∷ old) p eg en some fits room steps =
    ap (remainder n g)
    (same_number_lists (add_front (scale (bit_xor f b) g) (add_front old p)) (add_front new p)
    (length-add_front (scale (bit_xor f b) g) (add_front old p) ∙ length-add_front old p ∙ sym (length-add_front new p))
    (λ k h.
    get_or-add_front (scale (bit_xor f b) g) (add_front old p) k (rw (length-map, length-add_front) (omega arith))
    ∙ (λ i. bit_xor (get_or-scale (bit_xor f b) g k i) (get_or-add_front old p k (omega arith) i))
    ∙ ap (λ v. bit_xor (times v (get_or g k 0)) (bit_xor (get_or old k 0) (get_or p k 0))) (xor_comm f b)
    ∙ sym (xor_assoc (times (bit_xor b f) (get_or g k 0)) (get_or old k 0) (get_or p k 0))
    ∙ ap (λ v. bit_xor v (get_or p k 0)) (xor_comm (times (bit_xor b f) (get_or g k 0)) (get_or old k 0) ∙ sym (rw add-one at (steps k)))
    ∙ sym (get_or-add_front new p k (omega arith))))

-- the division from its beginning to its end, by what the register holds
pub start : (d low ps : List ℕ) (r : ℕ) → length d + r ≡ 255 → ps ≡ replicate r 0 → low ≡ lower (generator r)
    → remainder (length d - 0) low (add_front ps (drop 0 d ++ replicate (255 - length d) 0)) ≡ encode d
unfolding encode
start d low ps r whole zeros gen =
    let rest : 255 - length d ≡ r = omega arith in
    let none : length d - 0 ≡ length d = omega arith in
    rw rest (λ i. remainder (none i) (gen i) ((ap (λ v. add_front v (d ++ replicate r 0)) zeros ∙ add_front-zeros r (d ++ replicate r 0)) i))

pub step : (d ps new low : List ℕ) (i : ℕ) (e : List ℕ) → length d + length ps ≡ 255 → 0 < length ps → i < length d
    → length low ≡ length ps → length new ≡ length ps
    → IsShifted ps new low (get_or d i 0)
    → remainder (length d - i) low (add_front ps (drop i d ++ replicate (255 - length d) 0)) ≡ e
    → remainder (length d - (i + 1)) low (add_front new (drop (i + 1) d ++ replicate (255 - length d) 0)) ≡ e
step d ps new low i e whole some l ls ns shifted held =
    let z : List ℕ = replicate (255 - length d) 0 in
    let zl : length z ≡ 255 - length d = length-replicate (255 - length d) 0 in
    let left : length d - i ≡ suc (length d - (i + 1)) = omega arith in
    let cons : drop i d ≡ get_or d i 0 ∷ drop (i + 1) d = drop-cons d i 0 l ∙ ap (λ k. get_or d i 0 ∷ drop k d) (sym (add-one i)) in
    let long : length (drop (i + 1) d ++ z) ≡ length (drop (i + 1) d) + length z = length-append (drop (i + 1) d) z in
    sym (division_step (length d - (i + 1)) (get_or d i 0) low new ps (drop (i + 1) d ++ z) ls ns some (omega arith) (omega arith) shifted)
    ∙ sym (λ j. remainder (left j) low (add_front ps (cons j ++ z)))
    ∙ held

pub finish : (d ps low : List ℕ) (i : ℕ) (e : List ℕ) → length d + length ps ≡ 255 → length d ≤ i
    → remainder (length d - i) low (add_front ps (drop i d ++ replicate (255 - length d) 0)) ≡ e → ps ≡ e
unfolding remainder
finish d ps low i e whole g held =
    let none : length d - i ≡ 0 = omega arith in
    let empty : drop i d ≡ [] = drop_of_length-le d g in
    let rest : 255 - length d ≡ length ps = omega arith in
    sym (add_zeros ps) ∙ sym (λ j. remainder (none j) low (add_front ps (empty j ++ replicate (rest j) 0))) ∙ held

-- the generator of r roots has r lower coefficients
pub as_long : (low : List ℕ) (r : ℕ) → low ≡ lower (generator r) → length low ≡ r
as_long low r e = ap length e ∙ length-lower r
