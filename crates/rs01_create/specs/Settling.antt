-- The parity that a window's work gave.
use Rattle.std.specs.Prelude.{ℕ, All, IsSome, List, []}
use Rattle.std.specs.Option.{unwrap_or}
use Rattle.rs01_layers.specs.Outs.{parity_in}
use Rattle.rs01_layers.specs.declared.task.LayerOut.{LayerOut}

-- the parity bytes that a task gave, or none
abbrev pub bytes_in : LayerOut → List ℕ
bytes_in out = unwrap_or (parity_in out) []

-- each answer is parity
abbrev pub AllParity : List LayerOut → Type 0
AllParity outs = All (λ out. IsSome (parity_in out)) outs
