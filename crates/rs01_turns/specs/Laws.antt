-- What holds of the rest of a reading, and of a reader that goes on.
use Rattle.std.specs.Prelude.{ℕ, ◌≡◌, ◌*◌, ◌++◌, ◌∷◌, [], ◌<◌, Bool, Contains, IsSomeAnd, IsTrue, List, Some, Result, false, true, is_err, length, slice_set, take}
use Rattle.rs01_outside.specs.Causes.{Rose}
use Rattle.rs01_outside.specs.DeskState.{DeskState, OnlyChanges, OnlyReads}
use Rattle.rs01_outside.specs.Files.{WritesAt}
use Rattle.rs01_outside.specs.declared.Failed.{Failed}
use Rattle.rs01_rack.specs.Rack.{AllRose, AllTell, capped}
use Rattle.rs01_states.specs.Sparing.{is_unread, layer_count, state_of}
use Rattle.rs01_states.specs.declared.state.State.TheVariants.{Good}
use Rattle.rs01_linear.specs.Asking.{Asks}
use Rattle.rs01_linear.specs.Course.{fate_of}
use Rattle.rs01_linear.specs.declared.asking.Asked.{Asked}
use Rattle.rs01_linear.specs.declared.asking.Asked.TheVariants.{Altered, Read, Unreadable}
use Rattle.rs01_turns.specs.Turns.{NoneUnread, Reading, Terms, after_ask, asking_at, asking_for, next_of, next_sector, place_after, rest, states_after}
use Rattle.rs01_turns.specs.Moments.{IsReady, Moment, asking_of, asks_at_end, bytes_at, known_at, length_at, reading_at, rest_of, unread_at}
use Rattle.rs01_turns.specs.Leads.{Leads}

-- asking for the next sector leaves the rest as it is
pub record KeepsRest (terms : Terms) (now : Reading) (s : ℕ) : Type 0 where
  pub rest_is : rest terms (after_ask terms now s) ≡ rest terms now
  pub asking_here : asking_for terms now s ≡ Some (asking_at terms now s)
  pub asking_other :
      (other : ℕ) → is_unread (state_of (after_ask terms now s).states other) ≡ true
      → asking_for terms (after_ask terms now s) other ≡ asking_for terms now other
  pub stays :
      (other : ℕ) → is_unread (state_of now.states other) ≡ false
      → state_of (after_ask terms now s).states other ≡ state_of now.states other

abbrev pub RestOfNext : Type 0
RestOfNext = (terms : Terms) (now : Reading) (s : ℕ) → next_of now ≡ Some s → KeepsRest terms now s

-- where no sector is unread the reading is at its end
abbrev pub RestOfDone : Type 0
RestOfDone = (terms : Terms) (now : Reading) → NoneUnread now.states → rest terms now ≡ now

abbrev pub LeadsSame : Type 0
LeadsSame = (f : Moment) → Leads f f

abbrev pub LeadsOn : Type 0
LeadsOn = (f g h : Moment) → Leads f g → Leads g h → Leads f h

-- a reader that may ask for sectors still may as it goes on
abbrev pub ReadyOn : Type 0
ReadyOn = (f g : Moment) → Leads f g → IsReady f → IsReady g

-- a write of the sector's own bytes of a block into the image file, and how it ended
pub record Puts (f g : Moment) (s : ℕ) (block : List ℕ) (written : Result Unit Failed) : Type 0 where
  pub only : OnlyChanges f.setting.image f.desk g.desk (is_err written)
  pub put : IsTrue f.desk.tells → WritesAt f.desk.files g.desk.files f.setting.image (2048 * s) (take (length_at f s) block) written

-- what an answer makes of the image file: only a block that was read is written, and that may fail
abbrev pub PutsIfRead : Moment → Moment → ℕ → List ℕ → Asked → Type 0
PutsIfRead f g s block Read = (written : Result Unit Failed) × Puts f g s block written
PutsIfRead f g s block Unreadable = g.desk ≡ f.desk
PutsIfRead f g s block Altered = g.desk ≡ f.desk

-- a sector was asked for and marked by the answer, and its block was put into the image file where it was read
pub record AskedFor (f g : Moment) (s : ℕ) (block : List ℕ) (asked : Asked) : Type 0 where
  pub asks : Asks (known_at f) s f.setting.terms.tries block asked f.rack g.rack
  pub cause : asked ≡ Unreadable → AllRose 0 f.rack g.rack
  pub len : length block ≡ 2048
  pub marks : g ≡ record f {
    states = states_after f.setting.terms.shape f.states s asked;
    place = place_after s asked;
    fates = slice_set f.fates s (fate_of asked);
    rack = g.rack;
    desk = g.desk;
  }
  pub puts : PutsIfRead f g s block asked

-- asking for the next sector is going on
abbrev pub AskLeads : Type 0
AskLeads =
    (f g : Moment) (s : ℕ) (block : List ℕ) (asked : Asked) → IsReady f → next_sector f.states f.place ≡ Some s
    → AskedFor f g s block asked → Leads f g

-- so is giving a layer that wasn't given before
abbrev pub GiveLeads : Type 0
GiveLeads =
    (f : Moment) (l : ℕ) → l < layer_count f.setting.terms.shape → (Contains f.given l → ⊥)
    → Leads f (record f { given = f.given ++ l ∷ [] })

-- and looking at more layers
abbrev pub LookLeads : Type 0
LookLeads = (f : Moment) (first : ℕ) → Leads f (record f { first = first })

-- and reading from the desk
abbrev pub ReadLeads : Type 0
ReadLeads = (f : Moment) (desk : DeskState) (failed : Bool) → OnlyReads f.desk desk failed → Leads f (record f { desk = desk })

-- a reader that went on until no sector was unread has done the whole rest of the reading
pub record ReadWhole (f g : Moment) : Type 0 where
  pub end_is : reading_at g ≡ rest_of f
  pub asks_are : capped g.rack.asks ≡ asks_at_end f
  -- where no write fault rose, the image file has the blocks that the drives gave
  pub blocks :
      IsTrue f.desk.tells → (Rose f.desk.write_faults g.desk.write_faults → ⊥) → (s : ℕ) → unread_at f s ≡ true
      → state_of g.states s ≡ Good
      → (block : List ℕ) × IsSomeAnd (asking_of f s) (λ asking. asking.read ≡ Some block) × (bytes_at g s ≡ take (length_at f s) block)

abbrev pub WholeReading : Type 0
WholeReading = (f g : Moment) → Leads f g → NoneUnread g.states → AllTell g.rack → ReadWhole f g
