-- What holds of the sparing: who is spared, and what is left.
use Rattle.std.specs.Prelude.{◌≡◌, ℕ, ◌%◌, true, false, List, Option}
use Rattle.rs01_layers.specs.declared.shape.Shape.{Shape}
use Rattle.rs01_states.specs.declared.state.State.{State}
use Rattle.rs01_states.specs.declared.state.State.TheVariants.{Spared}
use Rattle.rs01_states.specs.Sparing.{IsUnread, state_of, is_unread, layer_count, is_within, settled}

-- no unread sector is left in a layer within its bound
abbrev pub NoneIsLeft : Type 0
NoneIsLeft =
    (shape : Option Shape) (states : List State) (s : ℕ) → IsUnread (settled shape states) s
    → is_within shape (s % layer_count shape) (settled shape states) ≡ false

-- a sector that was unread is spared in a layer within its bound alone
abbrev pub SparedLieWithin : Type 0
SparedLieWithin =
    (shape : Option Shape) (states : List State) (s : ℕ) → IsUnread states s
    → state_of (settled shape states) s ≡ Spared → is_within shape (s % layer_count shape) (settled shape states) ≡ true

-- a sector that wasn't unread stays as it was
abbrev pub OthersStay : Type 0
OthersStay =
    (shape : Option Shape) (states : List State) (s : ℕ) → is_unread (state_of states s) ≡ false
    → state_of (settled shape states) s ≡ state_of states s
