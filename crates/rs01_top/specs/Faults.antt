-- Which fault a refusal is told as.
use Rattle.std.specs.Prelude.{ℕ}
use Rattle.rs01_report.specs.declared.faults.Fault.{Fault}
use Rattle.rs01_report.specs.declared.faults.Fault.TheVariants as fault
use Rattle.rs01_words.specs.declared.fault.WordFault.{WordFault}
use Rattle.rs01_words.specs.declared.fault.WordFault.TheVariants as word
use Rattle.rs01_words.specs.declared.fault.WordRefused.{WordRefused}
use Rattle.rs01_create.specs.declared.refusal.CreateRefusal.{CreateRefusal}
use Rattle.rs01_create.specs.declared.refusal.CreateRefusal.TheVariants as create
use Rattle.rs01_demo.specs.declared.refusal.DemoRefusal.{DemoRefusal}
use Rattle.rs01_demo.specs.declared.refusal.DemoRefusal.TheVariants as demo
use Rattle.rs01_ecchead.specs.declared.head.HeadRefusal.{HeadRefusal}
use Rattle.rs01_ecchead.specs.declared.head.HeadRefusal.TheVariants as head
use Rattle.rs01_ecchead.specs.declared.opened.Which.{Which}
use Rattle.rs01_ecchead.specs.declared.opened.Which.TheVariants as which
use Rattle.rs01_ecchead.specs.declared.opened.EccRefusal.{EccRefusal}
use Rattle.rs01_ecchead.specs.declared.opened.EccRefusal.TheVariants as ecc
use Rattle.rs01_linear.specs.declared.refusal.ReadRefusal.{ReadRefusal}
use Rattle.rs01_linear.specs.declared.refusal.ReadRefusal.TheVariants as read
use Rattle.rs01_rack.specs.declared.refusal.RackRefusal.{RackRefusal}
use Rattle.rs01_rack.specs.declared.refusal.RackRefusal.TheVariants as rack
use Rattle.rs01_fix.specs.declared.refusal.FixRefusal.{FixRefusal}
use Rattle.rs01_fix.specs.declared.refusal.FixRefusal.TheVariants as fix
use Rattle.rs01_verify.specs.declared.refusal.VerifyRefusal.{VerifyRefusal}
use Rattle.rs01_verify.specs.declared.refusal.VerifyRefusal.TheVariants as verify

-- a fault in the word at a place
abbrev pub fault_at : WordFault → ℕ → Fault
fault_at word.NoCommand place = fault.NoCommand
fault_at word.UnknownCommand place = fault.UnknownCommand
fault_at word.UnknownOption place = fault.UnknownOption place
fault_at word.Repeated place = fault.Repeated place
fault_at word.NoValue place = fault.NoValue place
fault_at word.BadNumber place = fault.BadNumber place
fault_at word.OutOfRange place = fault.OutOfRange place
fault_at word.Missing place = fault.Missing place
fault_at word.SameName place = fault.SameName place

abbrev pub word_fault : WordRefused → Fault
word_fault refused = fault_at refused.fault refused.place

-- why no file was made
abbrev pub create_fault : CreateRefusal → Fault
create_fault create.NoImage = fault.NoImage
create_fault create.EmptyImage = fault.EmptyImage
create_fault (create.TooManySectors n) = fault.TooManySectors n
create_fault (create.Marker s) = fault.Marker s
create_fault create.ReadFault = fault.ReadFault
create_fault create.WriteFault = fault.WriteFault
create_fault create.OutOfMemory = fault.OutOfMemory

-- which file isn't there
abbrev pub absent_fault : Which → Fault
absent_fault which.Ecc = fault.NoEcc
absent_fault which.Image = fault.NoImage

-- why a header is refused
abbrev pub head_fault : HeadRefusal → Fault
head_fault head.Cookie = fault.Cookie
head_fault head.Method = fault.Method
head_fault head.Version = fault.Version
head_fault head.Sectors = fault.Sectors
head_fault head.Parity = fault.Parity
head_fault head.LastBytes = fault.LastBytes

-- why an image wasn't checked
abbrev pub verify_fault : VerifyRefusal → Fault
verify_fault (verify.NoFile which) = absent_fault which
verify_fault (verify.Head why) = head_fault why
verify_fault (verify.Size have want) = fault.Size have want
verify_fault (verify.Body have want) = fault.Body have want
verify_fault verify.ReadFault = fault.ReadFault
verify_fault verify.OutOfMemory = fault.OutOfMemory

-- why an image wasn't repaired
abbrev pub fix_fault : FixRefusal → Fault
fix_fault (fix.NoFile which) = absent_fault which
fix_fault (fix.Head why) = head_fault why
fix_fault (fix.Size have want) = fault.Size have want
fix_fault (fix.Body have want) = fault.Body have want
fix_fault fix.ReadFault = fault.ReadFault
fix_fault fix.WriteFault = fault.WriteFault
fix_fault fix.OutOfMemory = fault.OutOfMemory

-- why nothing was shown
abbrev pub demo_fault : DemoRefusal → Fault
demo_fault (demo.Create why) = create_fault why
demo_fault (demo.Fix why) = fix_fault why
demo_fault demo.ReadFault = fault.ReadFault
demo_fault demo.WriteFault = fault.WriteFault
demo_fault demo.OutOfMemory = fault.OutOfMemory

-- why an error correction file wasn't opened
abbrev pub ecc_fault : EccRefusal → Fault
ecc_fault ecc.NoFile = fault.NoEcc
ecc_fault (ecc.Head why) = head_fault why
ecc_fault (ecc.Size have want) = fault.Size have want
ecc_fault (ecc.Body have want) = fault.Body have want
ecc_fault ecc.ReadFault = fault.ReadFault
ecc_fault ecc.OutOfMemory = fault.OutOfMemory

-- why drives gave no number of sectors
abbrev pub rack_fault : RackRefusal → Fault
rack_fault rack.NoDrive = fault.NoDrive
rack_fault (rack.Failed drive) = fault.Failed drive
rack_fault (rack.Differ first other) = fault.Differ first other

-- why a medium wasn't read or scanned
abbrev pub read_fault : ReadRefusal → Fault
read_fault (read.Ecc why) = ecc_fault why
read_fault (read.Rack why) = rack_fault why
read_fault (read.DriveSize sectors) = fault.DriveSize sectors
read_fault read.ReadFault = fault.ReadFault
read_fault read.WriteFault = fault.WriteFault
read_fault read.OutOfMemory = fault.OutOfMemory
