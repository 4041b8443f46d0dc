-- What is known of a rack, where what a drive tells is at hand by the kind of drive alone.
use Rattle.rs01_outside.specs.declared.drives.Drive.{Ghosts}
use Rattle.rs01_rack.specs.Rack.{RackState}
use Rattle.rs01_rack.specs.State.{rack_state}
use Rattle.rs01_rack.specs.declared.rack.Rack.{Rack}

-- by what each kind of drive tells of a value
abbrev pub seen_by : {X : Type 0} {F : X → Type 0} → ((kind : X) → Ghosts (F kind)) → Rack X F → RackState
seen_by tells rack = rack_state (λ b. (tells b.vtable).state b.value) rack

-- what becomes of a rack, by what each kind of drive tells of a value
abbrev pub OnRack : {X : Type 0} {F : X → Type 0} → ((kind : X) → Ghosts (F kind)) → (RackState → RackState → Type 0) → (old new : Rack X F) → Type 0
OnRack tells Becomes old new = Becomes (seen_by tells old) (seen_by tells new)
