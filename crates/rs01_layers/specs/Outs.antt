-- What a task gives of a layer.
use Rattle.std.specs.Prelude.{ℕ, List, Option, Some, None}
use Rattle.rs01_layers.specs.declared.task.LayerOut.{LayerOut}
use Rattle.rs01_layers.specs.declared.task.LayerOut.TheVariants.{Parity, Restored, Beyond, Inconsistent, BadSum}

-- the parity bytes, where these were given
abbrev pub parity_in : LayerOut → Option (List ℕ)
parity_in (Parity bytes) = Some bytes
parity_in (Restored blocks) = None
parity_in (Beyond n) = None
parity_in (Inconsistent b) = None
parity_in (BadSum p) = None
