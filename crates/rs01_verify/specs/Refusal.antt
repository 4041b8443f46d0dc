-- Why an image wasn't checked.
use Rattle.std.specs.Prelude.{◌≢◌, Bool, false, true, Result, Ok, Err}
use Rattle.rs01_ecchead.specs.declared.opened.Which.TheVariants as which
use Rattle.rs01_ecchead.specs.declared.opened.EccRefusal.{EccRefusal}
use Rattle.rs01_ecchead.specs.declared.opened.EccRefusal.TheVariants as ecc
use Rattle.rs01_verify.specs.declared.refusal.VerifyRefusal.{VerifyRefusal}
use Rattle.rs01_verify.specs.declared.refusal.VerifyRefusal.TheVariants.{NoFile, Head, Size, Body, ReadFault, OutOfMemory}

-- the refusal of an error correction file, as it is told here
abbrev pub refusal_of : EccRefusal → VerifyRefusal
refusal_of ecc.NoFile = NoFile which.Ecc
refusal_of (ecc.Head why) = Head why
refusal_of (ecc.Size have want) = Size have want
refusal_of (ecc.Body have want) = Body have want
refusal_of ecc.ReadFault = ReadFault
refusal_of ecc.OutOfMemory = OutOfMemory

-- a refusal that comes from the files, and from no fault or want of memory
abbrev pub IsOfFiles : VerifyRefusal → Type 0
IsOfFiles (NoFile which) = Unit {0}
IsOfFiles (Head why) = Unit {0}
IsOfFiles (Size have want) = Unit {0}
IsOfFiles (Body have want) = Unit {0}
IsOfFiles ReadFault = ⊥
IsOfFiles OutOfMemory = ⊥

-- a refusal that tells two values tells different ones
abbrev pub TellsTwo : VerifyRefusal → Type 0
TellsTwo (NoFile which) = Unit {0}
TellsTwo (Head why) = Unit {0}
TellsTwo (Size have want) = have ≢ want
TellsTwo (Body have want) = have ≢ want
TellsTwo ReadFault = Unit {0}
TellsTwo OutOfMemory = Unit {0}

-- whether a call ended since reading failed
abbrev pub is_read_fault : {T : Type 0} → Result T VerifyRefusal → Bool
is_read_fault (Ok value) = false
is_read_fault (Err (NoFile which)) = false
is_read_fault (Err (Head why)) = false
is_read_fault (Err (Size have want)) = false
is_read_fault (Err (Body have want)) = false
is_read_fault (Err ReadFault) = true
is_read_fault (Err OutOfMemory) = false
