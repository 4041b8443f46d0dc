-- What is known of the refusals of a medium, and of the file that it may be given.
use Rattle.std.proofs.Common.{◌≡◌, ◌==◌, ◌||◌, if◌then◌else◌, nat_lt, ℕ, Bool, List, true, false, refl, ap, ◌∙◌, arith, subst, Bor}
use Rattle.std.specs.Prelude.{IsOk, IsOkAnd, IsSomeAnd, IsTrue, Option, Some, None, Result, Ok, Err, is_none}
use Rattle.std.specs.Option.{ForSome, option_map}
use Rattle.rs01_outside.specs.DeskState.{DeskState}
use Rattle.rs01_outside.specs.DriveView.{DriveView}
use Rattle.rs01_outside.specs.Files.{Files}
use Rattle.rs01_rack.specs.Counting.{number_of}
use Rattle.rs01_rack.specs.declared.refusal.RackRefusal.{RackRefusal}
use Rattle.rs01_rack.specs.declared.refusal.RackRefusal.TheVariants as rack
use Rattle.rs01_ecchead.specs.Opened.{Opened, opened_file}
use Rattle.rs01_ecchead.specs.declared.opened.EccRefusal.{EccRefusal}
use Rattle.rs01_ecchead.specs.declared.opened.EccRefusal.TheVariants as ecc
use Rattle.rs01_linear.specs.Medium.{AnswersFile, Found, found, found_in_drives, found_in_file, plain}
use Rattle.rs01_linear.specs.Refusal.{RefusesSizeAlone}
use Rattle.rs01_linear.specs.declared.refusal.ReadRefusal.{ReadRefusal}
use Rattle.rs01_linear.specs.declared.refusal.ReadRefusal.TheVariants.{DriveSize, Ecc, OutOfMemory, Rack, ReadFault, WriteFault}
use Rattle.rs01_report.specs.declared.faults.Fault.{Fault}
use Rattle.rs01_report.specs.Faults.{status_of}
use Rattle.rs01_top.specs.Faults.{ecc_fault, read_fault}
use Rattle.rs01_top.specs.Work.{fault_in}
use Rattle.rs01_top.proofs.Endings.{some_same}
use Rattle.rs01_top.proofs.HeadFaults.{head_is}

ecc_not_words : (why : EccRefusal) → status_of (ecc_fault why) ≡ 2 → ⊥
ecc_not_words ecc.NoFile e = omega arith
ecc_not_words (ecc.Head why) e = omega (arith, head_is why, e)
ecc_not_words (ecc.Size have want) e = omega arith
ecc_not_words (ecc.Body have want) e = omega arith
ecc_not_words ecc.ReadFault e = omega arith
ecc_not_words ecc.OutOfMemory e = omega arith

not_words : (why : ReadRefusal) → status_of (read_fault why) ≡ 2 → ⊥
not_words (Ecc why) e = ecc_not_words why e
not_words (Rack rack.NoDrive) e = omega arith
not_words (Rack (rack.Failed drive)) e = omega arith
not_words (Rack (rack.Differ first other)) e = omega arith
not_words (DriveSize n) e = omega arith
not_words ReadFault e = omega arith
not_words WriteFault e = omega arith
not_words OutOfMemory e = omega arith

pub of_err : (r : Result Found ReadRefusal) (why : Fault) → fault_in read_fault r ≡ Some why → status_of why ≡ 2 → ⊥
of_err (Ok medium) why e two = cc
of_err (Err x) why e two = not_words x (ap status_of (some_same (read_fault x) why e) ∙ two)

-- the file that may be named, by its name
pub file_of : (files : Files) (name : Option (Bor (List ℕ))) → option_map (λ (n : Bor (List ℕ)). files n.now) name ≡ option_map files (option_map (λ (n : Bor (List ℕ)). n.now) name)
file_of files None = refl
file_of files (Some n) = refl

pub not_refused : (P : Found → Type 0) (r : Result Found ReadRefusal) → IsOkAnd r P → fault_in read_fault r ≡ None
not_refused P (Ok medium) p = refl
not_refused P (Err why) p = absurd p

none_named : (name : Option (Bor (List ℕ))) → name ≡ None → IsTrue (is_none (option_map (λ (n : Bor (List ℕ)). n.now) name))
none_named None e = refl
none_named (Some n) e = cc

-- a number of sectors is refused only where no file is named
abbrev pub SizedAlone : Option (List ℕ) → ReadRefusal → Type 0
SizedAlone name why = (n : ℕ) → why ≡ DriveSize n → IsTrue (is_none name)

pub sized_alone : (name : Option (Bor (List ℕ))) (why : ReadRefusal) → RefusesSizeAlone name why → SizedAlone (option_map (λ (n : Bor (List ℕ)). n.now) name) why
sized_alone name why alone n is = none_named name (subst (λ (w : ReadRefusal). RefusesSizeAlone name w) is alone)

-- what is answered of the file that is named, once the desk tells: it is refused so, or with any other answer but a fault of
-- reading and want of memory it opens
abbrev pub FileAnswer : {T : Type 0} → Option (Option (List ℕ)) → Result T ReadRefusal → Type 0
FileAnswer given (Err (Ecc why)) = IsSomeAnd given (λ file. opened_file file ≡ Err why)
FileAnswer given (Err ReadFault) = Unit {0}
FileAnswer given (Err OutOfMemory) = Unit {0}
FileAnswer given answer = ForSome given (λ file. IsOk (opened_file file))

opens : (desk : DeskState) (name : Option (Bor (List ℕ))) → ForSome (option_map (λ (n : Bor (List ℕ)). desk.files n.now) name) (λ file. IsOk (opened_file file))
    → ForSome (option_map desk.files (option_map (λ (n : Bor (List ℕ)). n.now) name)) (λ file. IsOk (opened_file file))
opens desk name is = subst (λ (given : Option (Option (List ℕ))). ForSome given (λ file. IsOk (opened_file file))) (file_of desk.files name) is

-- by the name of the file as it is passed
pub file_answer : {T : Type 0} (desk : DeskState) (name : Option (Bor (List ℕ))) (answer : Result T ReadRefusal) → AnswersFile desk name answer
    → IsTrue desk.tells → FileAnswer (option_map desk.files (option_map (λ (n : Bor (List ℕ)). n.now) name)) answer
file_answer desk name (Ok value) is t = opens desk name (is t)
file_answer desk name (Err (Ecc why)) is t =
    subst (λ (given : Option (Option (List ℕ))). IsSomeAnd given (λ file. opened_file file ≡ Err why)) (file_of desk.files name) (is t)
file_answer desk name (Err (Rack why)) is t = opens desk name (is t)
file_answer desk name (Err (DriveSize n)) is t = opens desk name (is t)
file_answer desk name (Err ReadFault) is t = tt
file_answer desk name (Err WriteFault) is t = opens desk name (is t)
file_answer desk name (Err OutOfMemory) is t = tt

-- a file that is refused refuses the medium, whatever the drives tell
pub refused_so : (given : Option (Option (List ℕ))) (views : List DriveView) (why : EccRefusal) → IsSomeAnd given (λ file. opened_file file ≡ Err why)
    → fault_in read_fault (found given views) ≡ Some (read_fault (Ecc why))
refused_so None views why is = absurd is
refused_so (Some file) views why is = ap (λ (r : Result Opened EccRefusal). fault_in read_fault (found_in_file r (number_of views))) is

rack_is_five : (why : RackRefusal) → status_of (read_fault (Rack why)) ≡ 5
rack_is_five rack.NoDrive = refl
rack_is_five (rack.Failed drive) = refl
rack_is_five (rack.Differ first other) = refl

five_not_three : (x why : Fault) → status_of x ≡ 5 → Some x ≡ Some why → status_of why ≡ 3 → ⊥
five_not_three x why five e three = omega (arith, five, three, ap status_of (some_same x why e))

unfit : (b : Bool) (n : ℕ) (why : Fault)
    → fault_in {T = Found} read_fault (if b then Err (DriveSize n) else Ok (record { known = plain n; opened = None })) ≡ Some why → status_of why ≡ 3 → ⊥
unfit true n why e three = five_not_three (read_fault (DriveSize n)) why refl e three
unfit false n why e three = cc

by_drives : (number : Result ℕ RackRefusal) (why : Fault) → fault_in read_fault (found_in_drives number) ≡ Some why → status_of why ≡ 3 → ⊥
by_drives (Ok n) why e three = unfit ((n == 0) || nat_lt 16777215 n) n why e three
by_drives (Err x) why e three = five_not_three (read_fault (Rack x)) why (rack_is_five x) e three

by_file : (opened : Result Opened EccRefusal) (number : Result ℕ RackRefusal) (why : Fault) → IsOk opened
    → fault_in read_fault (found_in_file opened number) ≡ Some why → status_of why ≡ 3 → ⊥
by_file (Ok c) (Ok n) why ok e three = cc
by_file (Ok c) (Err x) why ok e three = five_not_three (read_fault (Rack x)) why (rack_is_five x) e three
by_file (Err x) number why ok e three = cc

-- and one that opens doesn't
pub not_by_file : (given : Option (Option (List ℕ))) (views : List DriveView) (why : Fault) → ForSome given (λ file. IsOk (opened_file file))
    → fault_in read_fault (found given views) ≡ Some why → status_of why ≡ 3 → ⊥
not_by_file None views why ok e three = by_drives (number_of views) why e three
not_by_file (Some file) views why ok e three = by_file (opened_file file) (number_of views) why (ok file refl) e three
