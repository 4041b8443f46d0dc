-- What a drive means: how many sectors it has, what it will answer, and what it was asked.
use Rattle.std.specs.Prelude.{ℕ, ◌≡◌, ◌==◌, List, [], ◌∷◌, ◌++◌, drop, Option, Some, None, Result, Ok, Err, Bool, true, false, nat_lt, if◌then◌else◌}

-- the block of a sector, or none for a fault
abbrev pub Answer : Type 0
Answer = Option (List ℕ)

pub record DriveView : Type 0 where
  -- its number of sectors
  pub number : ℕ
  -- whether asking for that number fails
  pub unsized : Bool
  -- for each sector the answers that come next, first to last
  pub coming : ℕ → List Answer
  -- for each sector the answer that stays once none is coming
  pub steady : ℕ → Answer
  -- the sectors that it was asked for, first to last
  pub asked : List ℕ

-- the first of the coming answers, or the steady one where none is coming
abbrev pub first_answer : List Answer → Answer → Answer
first_answer [] steady = steady
first_answer (answer ∷ later) steady = answer

-- what the drive answers when it is next asked for a sector, a fault from its number on
abbrev pub answer_at : DriveView → ℕ → Answer
answer_at view sector = if nat_lt sector view.number then first_answer (view.coming sector) (view.steady sector) else None

-- the coming answers of each sector once the first one of this sector is used up
abbrev pub use_up : (ℕ → List Answer) → ℕ → ℕ → List Answer
use_up coming sector other = if other == sector then drop 1 (coming other) else coming other

-- the drive after one more ask, which uses up a coming answer only below its number
abbrev pub ask : DriveView → ℕ → DriveView
ask view sector = record view {
  coming = if nat_lt sector view.number then use_up view.coming sector else view.coming;
  asked = view.asked ++ sector ∷ [];
}

-- a read that gave this answer: the block it filled in, or its failure at a fault
abbrev pub Gives : {E : Type 0} → Answer → List ℕ → Result Unit E → Type 0
Gives answer block (Ok u) = answer ≡ Some block
Gives answer block (Err e) = answer ≡ None

-- what asking for the number gives: the number, or its failure where the drive is unsized
abbrev pub Counts : {E : Type 0} → DriveView → Result ℕ E → Type 0
Counts view (Ok number) = (view.unsized ≡ false) × (number ≡ view.number)
Counts view (Err e) = view.unsized ≡ true
