-- What is kept of the numbers of sectors that drives gave.
use Rattle.std.specs.Prelude.{ℕ, ◌≡◌, List, slice_get}
use Rattle.std.specs.Option.{option_and_then}
use Rattle.rs01_rack.specs.Counting.{other_number}
use Rattle.rs01_rack.specs.declared.counting.Seen.{Seen}

-- the first number, and the first that isn't this one
pub record IsSeen (seen : Seen) (numbers : List ℕ) : Type 0 where
  pub first : seen.first ≡ slice_get numbers 0
  pub other : seen.other ≡ option_and_then (λ first. other_number first numbers) (slice_get numbers 0)
