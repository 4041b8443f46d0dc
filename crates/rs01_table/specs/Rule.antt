-- The rule of a running window: what its words, its slots and all views say of each other between two steps.
--
-- Word 0 is twice the number of inputs that are posted, and one more where the window is closed. Word 1 is the next
-- ticket. Word 2 is the number of those that were given. The first seat is the poster's.
use Rattle.std.specs.Prelude.{◌≡◌, ℕ, zero, suc, ◌+◌, ◌*◌, ◌<◌, ◌≤◌, List, [], ◌∷◌, ◌++◌, length, slice_index, if◌then◌else◌, nat_lt, Bool, true, false, Some, None}
use Rattle.atomic_table.specs.Table.{State}
use mathlib.Core.Option.{none, some, Option as Home}
use lib.ListN.{get_elem?}
use Rattle.rs01_window.specs.Soundness.{total, same_test}
use Rattle.rs01_layers.specs.declared.input.LayerInput.{LayerInput}
use Rattle.rs01_layers.specs.declared.task.LayerOut.{LayerOut}
use Rattle.rs01_table.specs.declared.views.View.{View}
use Rattle.rs01_table.specs.declared.views.Gave.{Gave}
use Rattle.rs01_table.specs.declared.views.Hold.{Hold}
use Rattle.rs01_table.specs.declared.views.Gone.{Gone}
use Rattle.rs01_table.specs.declared.given.Given.TheVariants.{Left}
use Rattle.rs01_table.specs.Views.{Slot, Answers, times_given}
use Rattle.rs01_table.specs.Showing.{Shown}

abbrev pub below_test : ℕ → ℕ → ℕ
below_test x n = if nat_lt x n then 1 else 0

abbrev pub bit : Bool → ℕ
bit b = if b then 1 else 0

-- how often x is among the numbers
abbrev pub times_in : ℕ → List ℕ → ℕ
times_in x = total (same_test x)

-- how often x is a ticket of the view
abbrev pub tickets : ℕ → View → ℕ
tickets x v = times_in x v.held + times_given x v.given

-- what holds of one view

-- what the view got: one slot at most, that of its ticket, below what it has seen, with the posted input
abbrev pub GotFine : List LayerInput → ℕ → List ℕ → List Hold → Type 0
GotFine posted seen held [] = Unit {0}
GotFine posted seen held (g ∷ gs) =
    (gs ≡ []) × (held ≡ g.ticket ∷ []) × (g.ticket < seen) × (get_elem? posted g.ticket ≡ some g.input)

module _ (value : LayerInput → LayerOut) where
  -- what was given is the posted input with that number, with its value or without
  abbrev pub GivenFine : List LayerInput → Gave → Type 0
  GivenFine posted g = (i : LayerInput) × (get_elem? posted g.ticket ≡ some i) × Answers value i g.what

  -- By the list of posted inputs and the closing. A view without a number has no ticket and gave nothing. What it has
  -- seen is at most what is posted, and all of it where it saw the closing. A worker that is over has a ticket that
  -- wasn't posted when it saw the closing.
  pub record Fine (posted : List LayerInput) (closed : Bool) (v : View) : Type 0 where
    pub few : length v.held ≤ length v.numbers
    pub seen : v.seen ≤ length posted
    pub seen_closed : v.seen_closed ≡ true → (closed ≡ true) × (v.seen ≡ length posted)
    pub got : GotFine posted v.seen v.held v.got
    pub over : v.over ≡ true → (t : ℕ) × (v.held ≡ t ∷ []) × (v.seen ≤ t) × (v.seen_closed ≡ true)
    pub given : (j : ℕ) (g : Gave) → get_elem? v.given j ≡ some g → GivenFine posted g
    pub named : length v.numbers ≡ 0 → length v.given ≡ 0

  abbrev pub AllFine : List LayerInput → Bool → List View → Type 0
  AllFine posted closed vs = (i : ℕ) (v : View) → get_elem? vs i ≡ some v → Fine posted closed v

-- what holds of all views together, with the words

abbrev pub is_zero : ℕ → Bool
is_zero zero = true
is_zero (suc i) = false

-- the poster's is the first seat, and the only one that posts
pub record Roles (p : View) (vs : List View) : Type 0 where
  pub first : get_elem? vs 0 ≡ some p
  pub others : (i : ℕ) (v : View) → get_elem? vs i ≡ some v → v.posts ≡ is_zero i

-- word 0 is what the poster's view says, and at most all slots are posted
pub record Word (p : View) (n word : ℕ) : Type 0 where
  pub is : word ≡ 2 * length p.posted + bit p.closed
  pub fits : length p.posted ≤ n
  pub small : n < 4294967296

-- The tickets of all views, held or given, differ, and are the numbers below word 1. Word 2 counts those given.
pub record Tickets (drawn given : ℕ) (vs : List View) : Type 0 where
  pub each : (x : ℕ) → total (tickets x) vs ≡ below_test x drawn
  pub all : drawn ≡ total (λ (v : View). length v.held) vs + given
  pub back : given ≡ total (λ (v : View). length v.given) vs

-- each number below the count of workers is that of one view, or of one worker that was taken over
pub record Numbers (count : ℕ) (vs : List View) : Type 0 where
  pub each : (x : ℕ) → total (λ (v : View). times_in x v.numbers) vs ≡ below_test x count
  pub all : total (λ (v : View). length v.numbers) vs ≡ count
  pub few : count < 4294967296

module _ (fit : LayerInput → Type 0) (value : LayerInput → LayerOut) where
  -- the part that doesn't see the slots, but for their number n
  pub record Core (p : View) (n w0 w1 w2 : ℕ) (vs : List View) : Type 0 where
    pub roles : Roles p vs
    pub fits : (k : ℕ) (i : LayerInput) → get_elem? p.posted k ≡ some i → fit i
    pub word : Word p n w0
    pub tickets : Tickets w1 w2 vs
    pub fine : AllFine value p.posted p.closed vs
    pub numbers : Numbers p.workers vs

  abbrev pub CoreAt : View → ℕ → List ℕ → List View → Type 0
  CoreAt p n words vs = (length words ≡ 3) × Core p n (slice_index words 0) (slice_index words 1) (slice_index words 2) vs

-- the slots

-- how often k is a slot that some view has got
abbrev pub gots : ℕ → View → ℕ
gots k v = total (λ (g : Hold). same_test k g.ticket) v.got

-- the first slot that isn't posted is out where the poster has a claim, and else at home and empty
abbrev pub next_home : Bool → Home Slot
next_home claimed = if claimed then none else some None

-- what was given by a view is at home
abbrev pub Kept : List (Home Slot) → View → Type 0
Kept homes v = (j : ℕ) (g : Gave) → get_elem? v.given j ≡ some g → get_elem? homes g.ticket ≡ some (some (Some g.what))

-- The poster has a claim only where a slot is left. Later slots are at home and empty. A posted slot is out where a worker
-- got it, and else at home with the posted input, and with what was given where its ticket was.
pub record Slots (posted : List LayerInput) (claimed : Bool) (homes : List (Home Slot)) (vs : List View) : Type 0 where
  pub claim : claimed ≡ true → length posted < length homes
  pub next : length posted < length homes → get_elem? homes (length posted) ≡ some (next_home claimed)
  pub later : (k : ℕ) → length posted < k → k < length homes → get_elem? homes k ≡ some (some None)
  pub out : (k : ℕ) → k < length posted → 0 < total (gots k) vs → get_elem? homes k ≡ some none
  pub laid : (k : ℕ) (i : LayerInput) → get_elem? posted k ≡ some i → total (gots k) vs ≡ 0
      → total (λ (v : View). times_given k v.given) vs ≡ 0 → get_elem? homes k ≡ some (some (Some (Left i)))
  pub kept : (i : ℕ) (v : View) → get_elem? vs i ≡ some v → Kept homes v

-- what is known of the workers that were taken over

abbrev pub gone_numbers : List Gone → List ℕ
gone_numbers [] = []
gone_numbers (g ∷ gs) = g.number ∷ gone_numbers gs

abbrev pub gone_held : List Gone → List ℕ
gone_held [] = []
gone_held (g ∷ gs) = g.held ++ gone_held gs

abbrev pub gone_given : List Gone → List Gave
gone_given [] = []
gone_given (g ∷ gs) = g.given ++ gone_given gs

-- each left one ticket at most that isn't given
pub record Records (p : View) : Type 0 where
  pub numbers : p.numbers ≡ gone_numbers p.gone
  pub held : p.held ≡ gone_held p.gone
  pub given : p.given ≡ gone_given p.gone
  pub few : (j : ℕ) (g : Gone) → get_elem? p.gone j ≡ some g → length g.held ≤ 1

module _ (fit : LayerInput → Type 0) (value : LayerInput → LayerOut) where
  -- all of it, by the poster's view; and a state that the machine of the window comes to is shown
  abbrev pub Rule : State Slot View → Type 0
  Rule s =
      (p : View) × CoreAt fit value p (length s.homes) s.words s.views × Slots p.posted p.claimed s.homes s.views
      × Shown value p (length s.homes) (slice_index s.words 1) s.views × Records p
