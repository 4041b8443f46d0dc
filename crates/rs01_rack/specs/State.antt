-- What is known of a rack.
use Rattle.std.specs.Prelude.{map}
use Rattle.std.specs.declared.alloc.Global.{Global}
use Rattle.std.specs.declared.dyn_box.DynBox.{DynBox}
use Rattle.rs01_outside.specs.DriveState.{DriveState}
use Rattle.rs01_rack.specs.Rack.{RackState}
use Rattle.rs01_rack.specs.declared.rack.Rack.{Rack}

-- what is known of it, by what is known of a boxed drive
abbrev pub rack_state : {X : Type 0} {F : X → Type 0} → (DynBox X Global F → DriveState) → Rack X F → RackState
rack_state state rack = record { drives = map state rack.drives.items; asks = rack.asks }
