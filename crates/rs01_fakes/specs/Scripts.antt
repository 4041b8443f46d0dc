-- What a drive in memory is to answer.
use Rattle.std.specs.Prelude.{ℕ, ◌≡◌, ◌<◌, ◌==◌, ◌++◌, List, [], ◌∷◌, length, slice_index_or, take, Option, Some, None, if◌then◌else◌}
use Rattle.rs01_lists.specs.Bytes.{zeros}
use Rattle.rs01_outside.specs.DriveView.{Answer}
use Rattle.rs01_fakes.specs.declared.scripts.Script.{Script}
use Rattle.rs01_fakes.specs.declared.scripts.Script.TheVariants.{Block, Fault}
use Rattle.rs01_fakes.specs.declared.scripts.Pending.{Pending}

-- these bytes as the block of a sector, a fault where they aren't 2048
abbrev pub as_block : List ℕ → Answer
as_block bytes = if length bytes == 2048 then Some bytes else None

-- the answer that a script stands for
abbrev pub answer_of : Script → Answer
answer_of (Block bytes) = as_block bytes
answer_of Fault = None

-- an answer that comes for a sector
abbrev pub pending_for : ℕ → Script → Pending
pending_for sector script = record { sector = sector; answer = answer_of script }

-- the answers that come for a sector, first to last, out of those that come for any
abbrev pub coming_in : List Pending → ℕ → List Answer
coming_in [] sector = []
coming_in (next ∷ later) sector = if next.sector == sector then next.answer ∷ coming_in later sector else coming_in later sector

-- at this place stands the first of the answers that come for a sector
pub record IsFirstFor (pending : List Pending) (sector place : ℕ) : Type 0 where
  pub within : place < length pending
  pub here : (d : Pending) → (slice_index_or pending place d).sector ≡ sector
  pub before : coming_in (take place pending) sector ≡ []

-- the first of a sector's coming answers, where one comes
abbrev pub next_of : List Answer → Option Answer
next_of [] = None
next_of (answer ∷ later) = Some answer

-- the steady answer of a sector, a block of zeros where none is kept
abbrev pub steady_in : List Answer → ℕ → Answer
steady_in kept sector = slice_index_or kept sector (Some (zeros 2048))

-- the coming answers of each sector once these are added behind those of this sector
abbrev pub add_coming : (ℕ → List Answer) → ℕ → List Answer → ℕ → List Answer
add_coming coming sector answers other = if other == sector then coming other ++ answers else coming other

-- the steady answers once the one of this sector is set
abbrev pub set_steady : (ℕ → Answer) → ℕ → Answer → ℕ → Answer
set_steady steady sector answer other = if other == sector then answer else steady other
