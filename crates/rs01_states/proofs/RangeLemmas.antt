-- How many numbers of a range pass a test.
use Rattle.std.proofs.Common.{◌≡◌, ℕ, ◌+◌, ◌<◌, ◌≤◌, ⊎_elim, zero, suc, refl, sym, ap, ◌∙◌, arith}
use Rattle.std.specs.Prelude.{Bool, true, false, ◌≢◌, cond, if◌then◌else◌}
use Rattle.std.specs.List.{range_with_len, count_by}
use Rattle.std.proofs.lemmas.List.Sums.{sum_by-cons, count_by-le-length}
use Rattle.std.proofs.lemmas.List.FromFn.{length-range_with_len}
use Rattle.std.proofs.lemmas.Bool.{cases_eq}

-- split off the first number
head : (test : ℕ → Bool) (from n : ℕ) → count_by test (range_with_len from (suc n)) ≡ (if test from then 1 else 0) + count_by test (range_with_len (from + 1) n)
head test from n = sum_by-cons (λ k. if test k then 1 else 0) from (range_with_len (from + 1) n)

-- split off the last number
pub last : (test : ℕ → Bool) (from n : ℕ) → count_by test (range_with_len from (n + 1)) ≡ count_by test (range_with_len from n) + (if test (from + n) then 1 else 0)
last test from zero =
    let here : from ≡ from + 0 = omega arith in
    ap (λ (k : ℕ). 0 + (if test k then 1 else 0)) here
last test from (suc n) =
    let longer : suc n + 1 ≡ suc (n + 1) = omega arith in
    let there : from + 1 + n ≡ from + suc n = omega arith in
    let moved : ◌≡◌ {A = ℕ} (if test (from + 1 + n) then 1 else 0) (if test (from + suc n) then 1 else 0) = ap (λ (k : ℕ). cond {A = ℕ} (test k) 1 0) there in
    let rest = last test (from + 1) n in
    ap (λ (m : ℕ). count_by test (range_with_len from m)) longer
    ∙ omega (arith, head test from (n + 1), head test from n, rest, moved)

-- no more pass than there are
pub at-most : (test : ℕ → Bool) (from n : ℕ) → count_by test (range_with_len from n) ≤ n
at-most test from n = omega (arith, count_by-le-length test (range_with_len from n), length-range_with_len from n)

-- two tests that agree on the range
pub agree : (p q : ℕ → Bool) (from n : ℕ) → ((k : ℕ) → from ≤ k → k < from + n → p k ≡ q k) → count_by p (range_with_len from n) ≡ count_by q (range_with_len from n)
agree p q from zero same = refl
agree p q from (suc n) same =
    let rest : count_by p (range_with_len (from + 1) n) ≡ count_by q (range_with_len (from + 1) n) = agree p q (from + 1) n (λ k low high. same k (omega arith) (omega arith)) in
    head p from n
    ∙ ap (λ (b : Bool). (if b then 1 else 0) + count_by p (range_with_len (from + 1) n)) (same from (omega arith) (omega arith))
    ∙ ap (λ (m : ℕ). (if q from then 1 else 0) + m) rest
    ∙ sym (head q from n)

-- two tests that agree but at one number, which only the first passes
pub one-fewer : (p q : ℕ → Bool) (from n s : ℕ) → from ≤ s → s < from + n → p s ≡ true → q s ≡ false → ((k : ℕ) → k ≢ s → p k ≡ q k) → count_by p (range_with_len from n) ≡ count_by q (range_with_len from n) + 1
one-fewer p q from zero s low high passes fails same = omega arith
one-fewer p q from (suc n) s low high passes fails same = ⊎_elim
    (λ at.
    let rest = agree p q (from + 1) n (λ k l h. same k (λ z. omega arith)) in
    let one : p from ≡ true = ap p at ∙ passes in
    let none : q from ≡ false = ap q at ∙ fails in
    grind (arith, head p from n, head q from n, one, none))
    (λ apart.
    let rest = one-fewer p q (from + 1) n s (omega arith) (omega arith) passes fails same in
    let alike : p from ≡ q from = same from apart in
    grind (arith, head p from n, head q from n, alike))
    (cases_eq from s)
