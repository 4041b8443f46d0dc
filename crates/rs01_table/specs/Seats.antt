-- What a window, its poster and its workers are about, as the public calls tell it.
use Rattle.std.specs.Prelude.{◌≡◌, ℕ, ◌<◌, ◌≤◌, ◌⊎◌, List, [], ◌∷◌, ◌++◌, length, Bool, true, false}
use Rattle.atomic_table.specs.Seated.{TableId}
use Rattle.rs01_layers.specs.declared.input.LayerInput.{LayerInput}
use Rattle.rs01_window.specs.declared.events.PostRefused.{PostRefused}
use Rattle.rs01_window.specs.declared.events.PostRefusal.TheVariants.{Closed, Full}
use Rattle.rs01_table.specs.declared.given.Taken.{Taken}
use Rattle.rs01_table.specs.declared.given.Taken.TheVariants.{Got, NotYet, Over}
use Rattle.rs01_table.specs.declared.seats.WindowTable.{WindowTable}
use Rattle.rs01_table.specs.declared.seats.Poster.{Poster}
use Rattle.rs01_table.specs.declared.seats.Worker.{Worker}
use Rattle.rs01_table.specs.declared.views.Gave.{Gave}

-- which window it is
abbrev pub id_of : {T : Type 0} → WindowTable T → TableId
id_of window = window.table.shared.table_id

abbrev pub slots_of : {T : Type 0} → WindowTable T → ℕ
slots_of window = window.table.shared.table_id.slots

-- the poster

abbrev pub IsPosterOf : {T : Type 0} → WindowTable T → Poster T → Type 0
IsPosterOf window poster = poster.seat.table_id ≡ id_of window

-- the inputs that it posted
abbrev pub posted_by : {T : Type 0} → Poster T → List LayerInput
posted_by poster = poster.seat.me.0.posted

-- whether it closed the window
abbrev pub is_closed : {T : Type 0} → Poster T → Bool
is_closed poster = poster.seat.me.0.closed

-- how many workers the window has
abbrev pub workers_of : {T : Type 0} → Poster T → ℕ
workers_of poster = poster.seat.me.0.workers

-- an input is posted in this slot: the window isn't closed, and has a slot left
pub record IsPosted {T : Type 0} (slots : ℕ) (before now : Poster T) (input : LayerInput) (slot : ℕ) : Type 0 where
  pub was_open : is_closed before ≡ false
  pub room : length (posted_by before) < slots
  pub here : slot ≡ length (posted_by before)
  pub posted : posted_by now ≡ posted_by before ++ input ∷ []
  pub is_open : is_closed now ≡ false
  pub workers : workers_of now ≡ workers_of before

-- an input is handed back, and why; the poster stays as it was
pub record IsRefused {T : Type 0} (slots : ℕ) (before now : Poster T) (input : LayerInput) (refused : PostRefused)
    : Type 0 where
  pub back : refused.input ≡ input
  pub why : ((refused.why ≡ Closed) × (is_closed before ≡ true))
      ⊎ ((refused.why ≡ Full) × (is_closed before ≡ false) × (slots ≤ length (posted_by before)))
  pub posted : posted_by now ≡ posted_by before
  pub closed : is_closed now ≡ is_closed before
  pub workers : workers_of now ≡ workers_of before

-- the window is closed, and nothing else changes
pub record IsClosedBy {T : Type 0} (before now : Poster T) : Type 0 where
  pub closed : is_closed now ≡ true
  pub posted : posted_by now ≡ posted_by before
  pub workers : workers_of now ≡ workers_of before

-- a worker

abbrev pub IsWorkerOf : {T : Type 0} → WindowTable T → Worker T → Type 0
IsWorkerOf window worker = worker.seat.table_id ≡ id_of window

-- what it gave, by ticket
abbrev pub given_by : {T : Type 0} → Worker T → List Gave
given_by worker = worker.seat.me.0.given

-- it has no ticket, and didn't see the end
abbrev pub IsFree : {T : Type 0} → Worker T → Type 0
IsFree worker = (worker.seat.me.0.held ≡ []) × (worker.seat.me.0.over ≡ false)

-- it has this ticket and not its input, and didn't see the end
abbrev pub HasTicket : {T : Type 0} → Worker T → ℕ → Type 0
HasTicket worker ticket =
    (worker.seat.me.0.held ≡ ticket ∷ []) × (worker.seat.me.0.got ≡ []) × (worker.seat.me.0.over ≡ false)

-- it has this ticket and its input
abbrev pub HasInput : {T : Type 0} → Worker T → ℕ → LayerInput → Type 0
HasInput worker ticket input =
    (worker.seat.me.0.held ≡ ticket ∷ []) × (worker.seat.me.0.got ≡ record { ticket = ticket; input = input } ∷ [])
    × (worker.seat.me.0.over ≡ false)

-- it has no input
abbrev pub HasNoInput : {T : Type 0} → Worker T → Type 0
HasNoInput worker = worker.seat.me.0.got ≡ []

-- its last look found that this ticket isn't posted, and whether the window is closed
abbrev pub SawUnposted : {T : Type 0} → Worker T → ℕ → Bool → Type 0
SawUnposted worker ticket closed = (worker.seat.me.0.seen ≤ ticket) × (worker.seat.me.0.seen_closed ≡ closed)

-- it saw the end with this ticket
abbrev pub SawEnd : {T : Type 0} → Worker T → ℕ → Type 0
SawEnd worker ticket =
    (worker.seat.me.0.held ≡ ticket ∷ []) × (worker.seat.me.0.got ≡ []) × (worker.seat.me.0.over ≡ true)
    × SawUnposted worker ticket true

-- what a look found, by the word that it read
abbrev pub Found : {T : Type 0} → (LayerInput → Type 0) → Worker T → ℕ → Taken → Type 0
Found fit worker ticket (Got input) = fit input × HasInput worker ticket input × (ticket < worker.seat.me.0.seen)
Found fit worker ticket NotYet = HasTicket worker ticket × SawUnposted worker ticket false
Found fit worker ticket Over = SawEnd worker ticket

-- lists of workers

-- each is of the window, has no ticket, and didn't see the end
abbrev pub AreFree : {T : Type 0} → TableId → List (Worker T) → Type 0
AreFree id [] = Unit {0}
AreFree id (w ∷ ws) = ((w.seat.table_id ≡ id) × IsFree w) × AreFree id ws

-- each is of the window, and has no input
abbrev pub HaveNone : {T : Type 0} → TableId → List (Worker T) → Type 0
HaveNone id [] = Unit {0}
HaveNone id (w ∷ ws) = ((w.seat.table_id ≡ id) × HasNoInput w) × HaveNone id ws

-- all that they gave, that of the last one first
abbrev pub gathered : {T : Type 0} → List (Worker T) → List Gave
gathered [] = []
gathered (w ∷ ws) = gathered ws ++ given_by w
