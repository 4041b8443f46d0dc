-- Two linear maps of words that agree at the unit words agree.
use Rattle.std.proofs.Common.{◌≡◌, ℕ, zero, suc, ◌+◌, ◌-◌, ◌^◌, ◌<◌, List, [], ◌∷◌, ◌++◌, length, replicate, sym, ap, ◌∙◌, arith, bit_xor, length-append, append-nil}
use Rattle.std.proofs.lemmas.List.{length-map, length-replicate}
use Rattle.std.specs.Int.Bits.{xor_zero_r}
use Rattle.rs01_gf256.specs.Field.{times}
use Rattle.rs01_gf256.proofs.Laws.{zero-times, times-zero}
use Rattle.rs01_poly.specs.Polynomial.{add_front, scale}
use Rattle.rs01_poly.proofs.Coefficients.{add_front-zeros}
use Rattle.rs01_poly.proofs.Values.{AllBytes, AllBytes-append, AllBytes-cons, times-one}
use Rattle.rs01_columns.specs.Certificate.{unit_word}
use Rattle.rs01_poly.proofs.Linear.{scale-zeros}
use Rattle.rs01_poly.proofs.Division.{AllBytes-zeros}

-- a map of the words of k bytes that keeps sums and multiples
pub record IsLinear (k : ℕ) (f : List ℕ → ℕ) : Type 0 where
  pub sums : (x y : List ℕ) → length x ≡ k → length y ≡ k → f (add_front x y) ≡ bit_xor (f x) (f y)
  pub multiples : (c : ℕ) (x : List ℕ) → length x ≡ k → c < 2 ^ 8 → AllBytes x → f (scale c x) ≡ times c (f x)

-- a word after zeros is its first byte times a unit word, and the rest after one zero more
split_word : (m x : ℕ) (d : List ℕ) → x < 2 ^ 8
    → replicate m 0 ++ x ∷ d ≡ add_front (scale x (replicate m 0 ++ 1 ∷ replicate (length d) 0)) (replicate (suc m) 0 ++ d)
unfolding add_front
split_word zero x d h =
    (λ i. sym (xor_zero_r (times x 1) ∙ times-one x h) i ∷ sym (ap (λ z. add_front z d) (scale-zeros x (length d)) ∙ add_front-zeros (length d) d) i)
split_word (suc m) x d h =
    (λ i. sym (xor_zero_r (times x 0) ∙ times-zero x) i ∷ split_word m x d h i)

length-after_zeros : (m : ℕ) (d : List ℕ) → length (replicate m 0 ++ d) ≡ m + length d
length-after_zeros m d = length-append (replicate m 0) d ∙ ap (λ n. n + length d) (length-replicate m 0)

pub AllBytes-unit : (m n : ℕ) → AllBytes (replicate m 0 ++ 1 ∷ replicate n 0)
AllBytes-unit m n = AllBytes-append (replicate m 0) (1 ∷ replicate n 0) (AllBytes-zeros m) (AllBytes-cons 1 (replicate n 0) (omega arith) (AllBytes-zeros n))

after_zeros : (k : ℕ) (f g : List ℕ → ℕ) → IsLinear k f → IsLinear k g → ((i : ℕ) → i < k → f (unit_word k i) ≡ g (unit_word k i))
    → (d : List ℕ) (m : ℕ) → m + length d ≡ k → AllBytes d → f (replicate m 0 ++ d) ≡ g (replicate m 0 ++ d)
after_zeros k f g lf lg units [] m e hd =
    let long : length (replicate {A = ℕ} m 0) ≡ k = length-replicate m 0 ∙ omega arith in
    let nil : (h : List ℕ → ℕ) → IsLinear k h → h (replicate m 0) ≡ 0 = λ h lh.
    ap h (sym (scale-zeros 0 m)) ∙ lh.multiples 0 (replicate m 0) long (omega arith) (AllBytes-zeros m) ∙ zero-times (h (replicate m 0)) in
    rw (append-nil (replicate {A = ℕ} m 0)) (nil f lf ∙ sym (nil g lg))
after_zeros k f g lf lg units (x ∷ d) m e hd =
    let rest : k - (m + 1) ≡ length d = omega arith in
    let unit : List ℕ = replicate m 0 ++ 1 ∷ replicate (length d) 0 in
    let left : List ℕ = replicate (suc m) 0 ++ d in
    let bytes : AllBytes unit = AllBytes-unit m (length d) in
    let long : length unit ≡ k = length-after_zeros m (1 ∷ replicate (length d) 0) ∙ omega (arith, length-replicate {A = ℕ} (length d) 0) in
    let scaled : length (scale x unit) ≡ k = length-map unit (times x) ∙ long in
    let leftlong : length left ≡ k = length-after_zeros (suc m) d ∙ omega arith in
    let by : (h : List ℕ → ℕ) → IsLinear k h → h (replicate m 0 ++ x ∷ d) ≡ bit_xor (times x (h unit)) (h left) = λ h lh.
    ap h (split_word m x d (hd 0)) ∙ lh.sums (scale x unit) left scaled leftlong ∙ ap (λ v. bit_xor v (h left)) (lh.multiples x unit long (hd 0) bytes) in
    let same : f unit ≡ g unit = rw rest at (units m (omega arith)) in
    by f lf
    ∙ (λ i. bit_xor (times x (same i)) (after_zeros k f g lf lg units d (suc m) (omega arith) (λ j. hd (suc j)) i))
    ∙ sym (by g lg)

-- two linear maps that agree at the unit words agree
pub agree_everywhere : (k : ℕ) (f g : List ℕ → ℕ) → IsLinear k f → IsLinear k g → ((i : ℕ) → i < k → f (unit_word k i) ≡ g (unit_word k i))
    → (d : List ℕ) → length d ≡ k → AllBytes d → f d ≡ g d
agree_everywhere k f g lf lg units d e hd = after_zeros k f g lf lg units d 0 (omega arith) hd
