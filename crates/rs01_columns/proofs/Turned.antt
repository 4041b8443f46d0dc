-- Where a square that is turned lies in a bank.
use Rattle.std.proofs.Common.{◌≡◌, ℕ, ◌+◌, ◌-◌, ◌*◌, ◌/◌, ◌<◌, ◌≤◌, ◌⊎◌, List, get_or, inl, inr, sym, ap, ◌∙◌, arith, add-mul, ⊎_elim}
use Rattle.std.proofs.lemmas.Bool.{cases_lt}
use Rattle.std.proofs.lemmas.Nat.{mul-le}
use Rattle.rs01_columns.specs.Bank.{OnlyColumns, lane}
use Rattle.rs01_columns.specs.Turning.{OnlyInRows}

-- a byte of lane l in column q lies in no row of a square, unless both do
pub apart : (p q l b k : ℕ) → l < 1024 → b < 64 → k < 16 → (q ≡ p + k → (l < 16 * b) ⊎ (16 * b + 16 ≤ l))
    → (1088 * q + l < 1088 * p + 16 * b + 1088 * k) ⊎ (1088 * p + 16 * b + 1088 * k + 16 ≤ 1088 * q + l)
apart p q l b k hl hb hk out =
    ⊎_elim
    (λ (before : q < p + k). inl (omega arith))
    (λ (g : p + k ≤ q).
    ⊎_elim
    (λ (behind : p + k < q). inr (omega arith))
    (λ (e : q ≤ p + k). ⊎_elim (λ h. inl (omega arith)) (λ h. inr (omega arith)) (out (omega arith)))
    (cases_lt (p + k) q))
    (cases_lt q (p + k))

-- the rows of the parity are in it
pub room : (first b r c : ℕ) → first + 1024 ≤ 2048 → b < 64 → c + 16 ≤ r → (first + 16 * b) * r + c + 15 * r + 16 ≤ 2048 * r
room first b r c hf hb hc =
    let whole : (first + 16 * b + 16) * r ≤ 2048 * r = mul-le (first + 16 * b + 16) r 2048 r (omega arith) (omega arith) in
    let parts : (first + 16 * b + 16) * r ≡ (first + 16 * b) * r + 16 * r = add-mul (first + 16 * b) 16 r in
    omega (arith, whole, parts)

-- the same byte of the parity, by row and by codeword
same_byte : (first b r c i k : ℕ) → (first + 16 * b) * r + c + i * r + k ≡ (first + (16 * b + i)) * r + (c + k)
same_byte first b r c i k =
    let parts : (first + 16 * b + i) * r ≡ (first + 16 * b) * r + i * r = add-mul (first + 16 * b) i r in
    let there : (first + (16 * b + i)) * r ≡ (first + 16 * b + i) * r = ap (λ n. n * r) (let e : first + (16 * b + i) ≡ first + 16 * b + i = omega arith in e) in
    omega (arith, parts, there)

-- sixteen more lanes hold sixteen columns
pub more_lanes : (now next parity : List ℕ) (first r c b : ℕ) → r ≤ 100 → c + 16 ≤ r → b < 64
    → ((l j : ℕ) → l < 16 * b → c ≤ j → j < c + 16 → lane now l (255 - r + j) ≡ get_or parity ((first + l) * r + j) 0)
    → ((i k : ℕ) → i < 16 → k < 16
    → get_or next (1088 * (255 - r + c) + 16 * b + 1088 * k + i) 0 ≡ get_or parity ((first + 16 * b) * r + c + i * r + k) 0)
    → OnlyInRows now next (1088 * (255 - r + c) + 16 * b) 16
    → (l j : ℕ) → l < 16 * (b + 1) → c ≤ j → j < c + 16 → lane next l (255 - r + j) ≡ get_or parity ((first + l) * r + j) 0
more_lanes now next parity first r c b hr hc hb held here rest l j hl hj gj =
    ⊎_elim
    (λ (early : l < 16 * b).
    rest (1088 * (255 - r + j) + l) (λ k h. apart (255 - r + c) (255 - r + j) l b k (omega arith) hb h (λ e. inl early)) ∙ held l j early hj gj)
    (λ (late : 16 * b ≤ l).
    let i : ℕ = l - 16 * b in
    let k : ℕ = j - c in
    let at : 1088 * (255 - r + j) + l ≡ 1088 * (255 - r + c) + 16 * b + 1088 * k + i = omega arith in
    let ej : c + k ≡ j = omega arith in
    let el : 16 * b + i ≡ l = omega arith in
    ap (λ n. get_or next n 0) at ∙ here i k (omega arith) (omega arith) ∙ ap (λ n. get_or parity n 0) (same_byte first b r c i k)
    ∙ (λ s. get_or parity ((first + el s) * r + ej s) 0))
    (cases_lt l (16 * b))

-- and no other column has changed
pub other_columns : (first now next : List ℕ) (p b : ℕ) → b < 64 → OnlyColumns first now p (p + 16) → OnlyInRows now next (1088 * p + 16 * b) 16
    → OnlyColumns first next p (p + 16)
other_columns first now next p b hb kept rest = record {
  front = λ l j hl hj. rest (1088 * j + l) (λ k h. apart p j l b k hl hb h (λ e. absurd (omega arith))) ∙ kept.front l j hl hj;
  behind = λ l j hl hj. rest (1088 * j + l) (λ k h. apart p j l b k hl hb h (λ e. absurd (omega arith))) ∙ kept.behind l j hl hj;
}
