-- What a lane holds after columns were written.
use Rattle.std.proofs.Common.{◌≡◌, ℕ, ◌+◌, ◌*◌, ◌<◌, ◌≤◌, List, get_or, sym, ◌∙◌, arith, ⊎_elim}
use Rattle.std.proofs.lemmas.Bool.{cases_lt}
use Rattle.rs01_columns.specs.Bank.{lane}
use Rattle.rs01_columns.specs.Fours.{ArePlacesOf, AreRaised, OnlyInBoth, raised_by}
use Rattle.rs01_columns.specs.Ranges.{OnlyHere}
use Rattle.rs01_columns.specs.declared.adding.FourPlaces.{FourPlaces}
use Rattle.rs01_columns.specs.declared.adding.FourTables.{FourTables}
use Rattle.rs01_columns.specs.declared.adding.TwoPlaces.{TwoPlaces}
use Rattle.rs01_columns.specs.declared.program.FourSteps.{FourSteps}

-- the column that has taken four products
pub raised_lane : (old new : List ℕ) (t : FourTables) (p : FourPlaces) (s : FourSteps) (into l j : ℕ) → l < 1024 → ArePlacesOf p s
    → AreRaised old new t p (1088 * into) 1024 → j ≡ into
    → lane new l j ≡ raised_by t (lane old l j) (lane old l s.one.from) (lane old l s.two.from) (lane old l s.three.from) (lane old l s.four.from)
raised_lane old new t p s into l j h at raised e =
    (λ i. lane new l (e i)) ∙ raised l h
    ∙ (λ i. raised_by t (lane old l (sym e i)) (get_or old (at.one i + l) 0) (get_or old (at.two i + l) 0) (get_or old (at.three i + l) 0) (get_or old (at.four i + l) 0))

-- the others, where one is written
pub kept : (old new : List ℕ) (a l j : ℕ) → l < 1024 → OnlyHere old new (1088 * a) 1024 → (j ≡ a → ⊥) → lane new l j ≡ lane old l j
kept old new a l j h only na =
    ⊎_elim
    (λ (u : j < a). only.before (1088 * j + l) (omega arith))
    (λ (u : a ≤ j). ⊎_elim (λ (w : a < j). only.after (1088 * j + l) (omega arith)) (λ (w : j ≤ a). absurd (na (omega arith))) (cases_lt a j))
    (cases_lt j a)

-- where two are
pub kept_twice : (old new : List ℕ) (into : TwoPlaces) (a b l j : ℕ) → into.first ≡ 1088 * a → into.second ≡ 1088 * b → l < 1024 → a < b → OnlyInBoth old new into 1024
    → (j ≡ a → ⊥) → (j ≡ b → ⊥) → lane new l j ≡ lane old l j
kept_twice old new into a b l j first second h order only na nb =
    ⊎_elim
    (λ (u : j < a). only.before (1088 * j + l) (omega (arith, first)))
    (λ (u : a ≤ j).
    ⊎_elim
    (λ (v : j < b).
    ⊎_elim (λ (w : a < j). only.between (1088 * j + l) (omega (arith, first)) (omega (arith, second))) (λ (w : j ≤ a). absurd (na (omega arith))) (cases_lt a j))
    (λ (v : b ≤ j). ⊎_elim (λ (w : b < j). only.after (1088 * j + l) (omega (arith, second))) (λ (w : j ≤ b). absurd (nb (omega arith))) (cases_lt b j))
    (cases_lt j b))
    (cases_lt j a)
