-- What each seat knows, and how a step changes it.
use Rattle.std.specs.Prelude.{◌≡◌, ℕ, ◌+◌, ◌/◌, ◌%◌, ◌==◌, List, [], ◌∷◌, ◌++◌, slice_index, true, false, Option, Some, None}
use Rattle.rs01_window.specs.Soundness.{total, same_test}
use Rattle.rs01_layers.specs.declared.input.LayerInput.{LayerInput}
use Rattle.rs01_layers.specs.declared.task.LayerOut.{LayerOut}
use Rattle.rs01_table.specs.declared.views.View.{View}
use Rattle.rs01_table.specs.declared.views.Gave.{Gave}
use Rattle.rs01_table.specs.declared.views.Hold.{Hold}
use Rattle.rs01_table.specs.declared.views.Gone.{Gone}
use Rattle.rs01_table.specs.declared.given.Given.{Given}
use Rattle.rs01_table.specs.declared.given.Given.TheVariants.{Done, Left}

-- what a slot contains: nothing, an input, or an input with its value
abbrev pub Slot : Type 0
Slot = Option Given

-- the input that is given back
abbrev pub source : Given → LayerInput
source (Done input out) = input
source (Left input) = input

-- a value that is given is the input's
abbrev pub IsRight : (LayerInput → LayerOut) → Given → Type 0
IsRight value (Done input out) = out ≡ value input
IsRight value (Left input) = Unit {0}

-- what is given for an input: itself, with its value or without
abbrev pub Answers : (LayerInput → LayerOut) → LayerInput → Given → Type 0
Answers value input given = (source given ≡ input) × IsRight value given

-- how often x is a ticket that was given
abbrev pub times_given : ℕ → List Gave → ℕ
times_given x = total (λ (g : Gave). same_test x g.ticket)

-- the views at the start

-- a view that counts nowhere
abbrev pub spent : View
spent = record {
  posts = false;
  posted = [];
  closed = false;
  claimed = false;
  workers = 0;
  numbers = [];
  held = [];
  given = [];
  got = [];
  over = false;
  seen = 0;
  seen_closed = false;
  gone = [];
}

abbrev pub poster_first : View
poster_first = record spent { posts = true }

abbrev pub poster_with : ℕ → View
poster_with workers = record poster_first { workers = workers }

abbrev pub worker_first : ℕ → View
worker_first number = record spent { numbers = number ∷ [] }

-- the views after each step

-- the poster claims the next slot
abbrev pub after_claim : View → View
after_claim v = record v { claimed = true }

-- these inputs are posted
abbrev pub after_post : View → List LayerInput → View
after_post v l = record v { posted = v.posted ++ l; closed = false; claimed = false }

abbrev pub after_close : View → View
after_close v = record v { closed = true }

-- a worker draws this ticket
abbrev pub after_draw : View → ℕ → View
after_draw v x = record v { held = x ∷ []; got = []; over = false }

-- a worker loads the word of the posted inputs
abbrev pub looked : View → ℕ → View
looked v word = record v { seen = word / 2; seen_closed = word % 2 == 1 }

-- where its ticket is posted, and it has the input
abbrev pub after_got : View → ℕ → Hold → View
after_got v word g = record (looked v word) { got = g ∷ []; over = false }

-- where its ticket isn't posted
abbrev pub after_not : View → ℕ → View
after_not v word = record (looked v word) { got = []; over = word % 2 == 1 }

-- it gives these
abbrev pub after_give : View → List Gave → View
after_give v l = record v { held = []; got = []; over = false; given = v.given ++ l }

-- the poster's view is split, and a new worker has the other part
abbrev pub hires : View → View
hires v = record v { workers = v.workers + 1 }

abbrev pub hired : View → View
hired v = worker_first v.workers

-- what is kept of a worker that is taken over
abbrev pub gone_as : View → Gone
gone_as w = record { number = slice_index w.numbers 0; held = w.held; given = w.given }

-- the poster takes over a worker
abbrev pub both : View → View → View
both v w = record v {
  numbers = v.numbers ++ w.numbers;
  held = v.held ++ w.held;
  given = v.given ++ w.given;
  got = [];
  over = false;
  gone = v.gone ++ gone_as w ∷ [];
}

-- what a seat holds

-- the inputs that are laid in the slot that came last
abbrev pub laid_in : List (ℕ × Slot) → List LayerInput
laid_in [] = []
laid_in (c ∷ cs) = inputs c.1
  where
    inputs : Slot → List LayerInput
    inputs None = []
    inputs (Some (Left i)) = i ∷ []
    inputs (Some (Done i o)) = i ∷ []

-- what is given by the slot that came last
abbrev pub given_in : List (ℕ × Slot) → List Gave
given_in [] = []
given_in (c ∷ cs) = backs c.0 c.1
  where
    backs : ℕ → Slot → List Gave
    backs t None = []
    backs t (Some what) = record { ticket = t; what = what } ∷ []

-- what a worker's seat holds while it has the slot's input in hand
abbrev pub lifted : List Hold → List (ℕ × Slot)
lifted [] = []
lifted (g ∷ gs) = (g.ticket, None) ∷ lifted gs
