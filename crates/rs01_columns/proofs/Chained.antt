-- Steps that are run one after the other, on the lanes of fifteen columns.
use Rattle.std.proofs.Common.{◌≡◌, ℕ, false, ◌+◌, ◌*◌, ◌<◌, ◌≤◌, List, [], ◌∷◌, ◌++◌, bit_xor, refl, sym, ap, ◌∙◌, arith, ⊎_elim}
use Rattle.std.proofs.lemmas.Bool.{cases_eq, cases_lt}
use Rattle.rs01_gf256.specs.Field.{times}
use Rattle.rs01_columns.specs.Fifteen.{lane_of}
use Rattle.rs01_columns.specs.Program.{stepped, meaning}
use Rattle.rs01_columns.specs.Ranges.{OnlyHere}
use Rattle.rs01_columns.specs.declared.program.Step.{Step}
use Rattle.rs01_columns.proofs.EightSteps.{elsewhere, here}

pub none : (g : ℕ → ℕ) (j : ℕ) → g j ≡ meaning [] g j
unfolding meaning
none g j = refl

-- a step before others
pub before : (q : List Step) (s : Step) (f g : ℕ → ℕ) (j : ℕ) → ((k : ℕ) → g k ≡ stepped s f k) → meaning q g j ≡ meaning (s ∷ q) f j
unfolding meaning
before q s f g j e = λ t. meaning q (λ k. e k t) j

pub meaning-append : (p q : List Step) (f : ℕ → ℕ) (j : ℕ) → meaning (p ++ q) f j ≡ meaning q (meaning p f) j
unfolding meaning
meaning-append [] q f j = refl
meaning-append (s ∷ p) q f j = meaning-append p q (stepped s f) j

-- steps before others
pub before_all : (p q : List Step) (f g : ℕ → ℕ) (j : ℕ) → ((k : ℕ) → g k ≡ meaning p f k) → meaning q g j ≡ meaning (p ++ q) f j
before_all p q f g j e = (λ t. meaning q (λ k. e k t) j) ∙ sym (meaning-append p q f j)

-- a column after a step, by what the one that it adds to has become
pub lane_stepped : (s : Step) (f g : ℕ → ℕ) (j : ℕ) → s.fresh ≡ false
    → (j ≡ s.into → g j ≡ bit_xor (f j) (times s.factor (f s.from)))
    → ((j ≡ s.into → ⊥) → g j ≡ f j)
    → g j ≡ stepped s f j
lane_stepped s f g j adds first rest =
    ⊎_elim
    (λ (e : j ≡ s.into). first e ∙ sym (here s f j adds e))
    (λ (ne : j ≡ s.into → ⊥). rest ne ∙ sym (elsewhere s f j ne))
    (cases_eq j s.into)

-- the columns that aren't written
pub other_lane : (old new : List ℕ) (a l j : ℕ) → l < 16 → OnlyHere old new (16 * a) 16 → (j ≡ a → ⊥) → lane_of new l j ≡ lane_of old l j
other_lane old new a l j h only na =
    ⊎_elim
    (λ (u : j < a). only.before (16 * j + l) (omega arith))
    (λ (u : a ≤ j). ⊎_elim (λ (w : a < j). only.after (16 * j + l) (omega arith)) (λ (w : j ≤ a). absurd (na (omega arith))) (cases_lt a j))
    (cases_lt j a)
