-- How reading a file as far as was asked ends.
use Rattle.std.specs.Prelude.{Bool, false, true, Result, Ok, Err}
use Rattle.rs01_ecchead.specs.declared.walk.WalkFault.{WalkFault}
use Rattle.rs01_ecchead.specs.declared.walk.WalkFault.TheVariants.{OutOfMemory, ReadFault}
use Rattle.rs01_ecchead.specs.declared.opened.EccRefusal.{EccRefusal}
use Rattle.rs01_ecchead.specs.declared.opened.EccRefusal.TheVariants as ecc

-- whether it ended since reading failed
abbrev pub is_walk_fault : {T : Type 0} → Result T WalkFault → Bool
is_walk_fault (Ok value) = false
is_walk_fault (Err ReadFault) = true
is_walk_fault (Err OutOfMemory) = false

-- what ended it, as it is told of an error correction file
abbrev pub walk_refusal : WalkFault → EccRefusal
walk_refusal ReadFault = ecc.ReadFault
walk_refusal OutOfMemory = ecc.OutOfMemory
