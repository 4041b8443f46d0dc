-- What a reading by turns does to the layers of an error correction file.
use Rattle.std.specs.Prelude.{ℕ, ◌≡◌, ◌⊎◌, ◌%◌, Bool, false, true, IsSome, List, None, Option, Some, slice_index_or}
use Rattle.rs01_layers.specs.declared.shape.Shape.{Shape}
use Rattle.rs01_outside.specs.DriveView.{DriveView}
use Rattle.rs01_states.specs.Sparing.{IsUnread, at_start, is_within, layer_count, state_of}
use Rattle.rs01_states.specs.declared.state.State.{State}
use Rattle.rs01_states.specs.declared.state.State.TheVariants.{Spared}
use Rattle.rs01_turns.specs.Turns.{Reading, Terms, after_ask, asking_for, next_of, rest}
use Rattle.rs01_turns.specs.Ends.{IsLeft}
use Rattle.rs01_turns.specs.Moments.{Moment}
use Rattle.rs01_turns.specs.Leads.{Leads, Stays}

-- whether the layer of a sector is within its bound
abbrev pub lies_within : Option Shape → List State → ℕ → Bool
lies_within shape states s = is_within shape (s % layer_count shape) states

-- what is spared needn't be read, and what needn't be read is spared
pub record IsSparing (shape : Option Shape) (states : List State) : Type 0 where
  pub unread : (s : ℕ) → IsUnread states s → lies_within shape states s ≡ false
  pub spared : (s : ℕ) → state_of states s ≡ Spared → lies_within shape states s ≡ true

-- the start of a reading, by which sectors are good
abbrev pub start_with : Option Shape → List Bool → List DriveView → Reading
start_with shape good views = record { views = views; states = (at_start shape good).states; place = None }

abbrev pub StartIsSparing : Type 0
StartIsSparing = (shape : Option Shape) (good : List Bool) → IsSparing shape (at_start shape good).states

abbrev pub AskIsSparing : Type 0
AskIsSparing =
    (terms : Terms) (now : Reading) (s : ℕ) → next_of now ≡ Some s → IsSparing terms.shape now.states → IsSparing terms.shape (after_ask terms now s).states

abbrev pub EndIsSparing : Type 0
EndIsSparing = (terms : Terms) (now : Reading) → IsSparing terms.shape now.states → IsSparing terms.shape (rest terms now).states

-- a layer that is within its bound stays so: to the end, and for a reader that goes on
abbrev pub WithinToTheEnd : Type 0
WithinToTheEnd =
    (terms : Terms) (now : Reading) (l : ℕ) → is_within terms.shape l now.states ≡ true → is_within terms.shape l (rest terms now).states ≡ true

abbrev pub WithinGoesOn : Type 0
WithinGoesOn =
    (f g : Moment) (l : ℕ) → Leads f g → is_within f.setting.terms.shape l f.states ≡ true → is_within g.setting.terms.shape l g.states ≡ true

-- none of its sectors is asked for from then on
abbrev pub SettledAreLeft : Type 0
SettledAreLeft =
    (terms : Terms) (now : Reading) (s : ℕ) → IsSparing terms.shape now.states → lies_within terms.shape now.states s ≡ true → IsLeft terms now s

-- and what a reader has of them is final
abbrev pub SettledStay : Type 0
SettledStay =
    (f g : Moment) (s : ℕ) → Leads f g → IsSparing f.setting.terms.shape f.states → lies_within f.setting.terms.shape f.states s ≡ true
    → Stays f g s

-- whether a sector was good at the start; behind the last one none is missing
abbrev pub was_good : List Bool → ℕ → Bool
was_good good s = slice_index_or good s true

-- a sector that wasn't good and is never asked for lies in a layer within its bound
abbrev pub UnaskedLieWithin : Type 0
UnaskedLieWithin =
    (terms : Terms) (good : List Bool) (views : List DriveView) (s : ℕ) → was_good good s ≡ false
    → asking_for terms (start_with terms.shape good views) s ≡ None
    → lies_within terms.shape (rest terms (start_with terms.shape good views)).states s ≡ true

-- in a layer beyond its bound each sector was good, or is asked for
abbrev pub BeyondAreAsked : Type 0
BeyondAreAsked =
    (terms : Terms) (good : List Bool) (views : List DriveView) (s : ℕ)
    → lies_within terms.shape (rest terms (start_with terms.shape good views)).states s ≡ false
    → (was_good good s ≡ true) ⊎ IsSome (asking_for terms (start_with terms.shape good views) s)
