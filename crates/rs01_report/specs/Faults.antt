-- The line of each fault, and the status that it ends a run with.
use Rattle.std.specs.Prelude.{ℕ, List, [], ◌∷◌, ◌++◌, codes}
use Rattle.std.specs.Fmt.{decimal}
use Rattle.hex.specs.Hex.{encode_lower}
use Rattle.rs01_report.specs.declared.faults.Fault.{Fault}
use Rattle.rs01_report.specs.declared.faults.Fault.TheVariants as fault
use Rattle.rs01_report.specs.declared.status.Status.{Status}
use Rattle.rs01_report.specs.declared.status.Status.TheVariants as status

-- the number that a program ends with
abbrev pub number_of : Status → ℕ
number_of status.Done = 0
number_of status.Damaged = 1
number_of status.Words = 2
number_of status.Files = 3
number_of status.Access = 4
number_of status.Drives = 5
number_of status.Output = 6
number_of status.Memory = 7

-- what is wrong with the word at a place
abbrev pub word_line : ℕ → List ℕ → List ℕ
word_line place what = codes "rs01: word " ++ (decimal place ++ (what ++ 10 ∷ []))

-- the whole line, which one newline ends
unfoldable pub fault_line : Fault → List ℕ
fault_line fault.NoCommand = codes "rs01: word 0: no command" ++ 10 ∷ []
fault_line fault.UnknownCommand = codes "rs01: word 0: unknown command" ++ 10 ∷ []
fault_line (fault.UnknownOption place) = word_line place (codes ": not known here")
fault_line (fault.Repeated place) = word_line place (codes ": given twice")
fault_line (fault.NoValue place) = word_line place (codes ": needs a value")
fault_line (fault.BadNumber place) = word_line place (codes ": not a number")
fault_line (fault.OutOfRange place) = word_line place (codes ": out of range")
fault_line (fault.Missing place) = word_line place (codes ": something is missing")
fault_line (fault.SameName place) = word_line place (codes ": the same name twice")
fault_line fault.NoImage = codes "rs01: no image" ++ 10 ∷ []
fault_line fault.NoEcc = codes "rs01: no error correction file" ++ 10 ∷ []
fault_line fault.EmptyImage = codes "rs01: the image is empty" ++ 10 ∷ []
fault_line (fault.TooManySectors sectors) =
    codes "rs01: the image has " ++ (decimal sectors ++ (codes " sectors, at most 16777215 are possible" ++ 10 ∷ []))
fault_line (fault.Marker sector) = codes "rs01: sector " ++ (decimal sector ++ (codes " is marked as missing" ++ 10 ∷ []))
fault_line fault.Cookie = codes "rs01: header: cookie" ++ 10 ∷ []
fault_line fault.Method = codes "rs01: header: method" ++ 10 ∷ []
fault_line fault.Version = codes "rs01: header: version" ++ 10 ∷ []
fault_line fault.Sectors = codes "rs01: header: sectors" ++ 10 ∷ []
fault_line fault.Parity = codes "rs01: header: parity" ++ 10 ∷ []
fault_line fault.LastBytes = codes "rs01: header: last bytes" ++ 10 ∷ []
fault_line (fault.Size have want) =
    codes "rs01: the file has " ++ (decimal have ++ (codes " bytes, " ++ (decimal want ++ (codes " are expected" ++ 10 ∷ []))))
fault_line (fault.Body have want) =
    codes "rs01: body md5 " ++ (encode_lower have ++ (codes ", recorded " ++ (encode_lower want ++ 10 ∷ [])))
fault_line fault.ReadFault = codes "rs01: reading a file failed" ++ 10 ∷ []
fault_line fault.WriteFault = codes "rs01: writing a file failed" ++ 10 ∷ []
fault_line fault.NoDrive = codes "rs01: no drive" ++ 10 ∷ []
fault_line (fault.Failed drive) = codes "rs01: drive " ++ (decimal drive ++ (codes ": size failed" ++ 10 ∷ []))
fault_line (fault.Differ first other) =
    codes "rs01: drives differ: " ++ (decimal first ++ (codes " and " ++ (decimal other ++ (codes " sectors" ++ 10 ∷ []))))
fault_line (fault.DriveSize sectors) = codes "rs01: the medium has " ++ (decimal sectors ++ (codes " sectors" ++ 10 ∷ []))
fault_line fault.OutOfMemory = codes "rs01: memory ran out" ++ 10 ∷ []

-- the status of a run that a fault ends
abbrev pub status_of : Fault → ℕ
status_of fault.NoCommand = 2
status_of fault.UnknownCommand = 2
status_of (fault.UnknownOption place) = 2
status_of (fault.Repeated place) = 2
status_of (fault.NoValue place) = 2
status_of (fault.BadNumber place) = 2
status_of (fault.OutOfRange place) = 2
status_of (fault.Missing place) = 2
status_of (fault.SameName place) = 2
status_of fault.NoImage = 3
status_of fault.NoEcc = 3
status_of fault.EmptyImage = 3
status_of (fault.TooManySectors sectors) = 3
status_of (fault.Marker sector) = 3
status_of fault.Cookie = 3
status_of fault.Method = 3
status_of fault.Version = 3
status_of fault.Sectors = 3
status_of fault.Parity = 3
status_of fault.LastBytes = 3
status_of (fault.Size have want) = 3
status_of (fault.Body have want) = 3
status_of fault.ReadFault = 4
status_of fault.WriteFault = 4
status_of fault.NoDrive = 5
status_of (fault.Failed drive) = 5
status_of (fault.Differ first other) = 5
status_of (fault.DriveSize sectors) = 5
status_of fault.OutOfMemory = 7
