-- A list of checksums with reserved room.
use Rattle.std.specs.Prelude.{ℕ, ◌^◌, ◌<◌, ◌≤◌, List}

-- the checksums in the order of their sectors, and how many there is room for in all
pub record Checksums : Type 0 where
  pub list : List ℕ
  pub room : ℕ

-- there are no more checksums than there is room for, and the room is reserved
pub record KeepsRoom (count room capacity : ℕ) : Type 0 where
  pub counted : count ≤ room
  pub reserved : room ≤ capacity
  pub small : room < 2 ^ 32
