-- Why a reading by turns stopped.
use Rattle.rs01_ecchead.specs.declared.walk.WalkFault.{WalkFault}
use Rattle.rs01_ecchead.specs.declared.walk.WalkFault.TheVariants as walk
use Rattle.rs01_reader.specs.declared.stop.Stop.{Stop}
use Rattle.rs01_reader.specs.declared.stop.Stop.TheVariants.{OutOfMemory, ReadFault}

-- what ended the reading of a file, as it is told here
abbrev pub stop_of : WalkFault → Stop
stop_of walk.ReadFault = ReadFault
stop_of walk.OutOfMemory = OutOfMemory
