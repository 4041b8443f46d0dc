-- What each step of a demonstration leaves of the image and of its error correction file.
use Rattle.std.specs.Prelude.{ℕ, ◌≡◌, ◌≤◌, ◌+◌, ◌*◌, ◌⊎◌, Bool, List, [], length, take, Option, Some, Result, Ok, Err, IfOk, IsOkAnd, IsTrue}
use Rattle.std.specs.Str.{bytes_eq}
use Rattle.md5.specs.Md5.{md5}
use Rattle.rs01_outside.specs.DeskState.{DeskState, InFile}
use Rattle.rs01_outside.specs.Files.{Files}
use Rattle.rs01_ecchead.specs.EccFile.{head_fields}
use Rattle.rs01_ecchead.specs.Header.{head_bytes}
use Rattle.rs01_create.specs.Unfinished.{IsUnfinished}
use Rattle.rs01_linear.specs.Marking.{Extends, IsMixed}
use Rattle.rs01_fix.specs.Answer.{MayStand, Repaired}
use Rattle.rs01_report.specs.declared.reports.FixReport.{FixReport}
use Rattle.rs01_demo.specs.Faults.{IsFault}
use Rattle.rs01_demo.specs.Generator.{image, value_at}
use Rattle.rs01_demo.specs.Plan.{damaged, is_whole, marked, original, outcome, protection, report_of}
use Rattle.rs01_demo.specs.declared.demonstration.Demonstration.{Demonstration}
use Rattle.rs01_demo.specs.declared.plan.Plan.{Plan}
use Rattle.rs01_demo.specs.declared.refusal.DemoRefusal.{DemoRefusal}

-- a file that is as before, or has some first bytes of the one that is made
abbrev pub IsPartly : List ℕ → (old new : Option (List ℕ)) → Type 0
IsPartly whole old new = (new ≡ old) ⊎ ((n : ℕ) × (new ≡ Some (take n whole)))

-- the image is made under a name
abbrev pub MakesImage : {T : Type 0} → (whole name : List ℕ) → (old new : Files) → Result T DemoRefusal → Type 0
MakesImage whole name old new (Ok value) = new name ≡ Some whole
MakesImage whole name old new (Err why) = IsPartly whole (old name) (new name)

-- whether a file of the right length is the image, where it is told
abbrev pub Compares : {E : Type 0} → DeskState → List ℕ → (number sectors : ℕ) → Result Bool E → Type 0
Compares desk name number sectors result =
    InFile desk name (λ file. length file ≡ 2048 * sectors → IfOk result (λ same. same ≡ bytes_eq file (image number sectors)))

-- n values more follow the one at a place, and the last one is given
abbrev pub Follows : {E : Type 0} → (at n before : ℕ) → Result ℕ E → Type 0
Follows at n before result = (number : ℕ) → before ≡ value_at number at → IfOk result (λ last. last ≡ value_at number (at + n))

-- n bytes more of an image follow those that are there, where the value of the last one is known
abbrev pub GoesOn : {T E : Type 0} → (at n value : ℕ) → (name : List ℕ) → (old new : DeskState) → Result T E → Type 0
GoesOn at n value name old new result = (number sectors : ℕ) → value ≡ value_at number at → at + n ≤ 2048 * sectors
    → Extends (image number sectors) [] name at (λ last. at + n) old new result

-- the first sectors of a file are marked as missing; after a fault some first bytes are so
abbrev pub Marks : {T E : Type 0} → ℕ → List ℕ → (old new : Files) → Result T E → Type 0
Marks lost name old new (Ok value) = (bytes : List ℕ) → 2048 * lost ≤ length bytes → old name ≡ Some bytes → new name ≡ Some (marked bytes lost)
Marks lost name old new (Err why) = (bytes : List ℕ) → 2048 * lost ≤ length bytes → old name ≡ Some bytes → IsMixed (marked bytes lost) bytes (new name)

-- what stands while the image is made, while its file is, while sectors are marked, and while they are repaired
pub record StandsMaking (plan : Plan) (image ecc : List ℕ) (old new : Files) : Type 0 where
  pub image_is : IsPartly (original plan) (old image) (new image)
  pub ecc_is : new ecc ≡ old ecc

pub record StandsProtecting (plan : Plan) (image ecc : List ℕ) (old new : Files) : Type 0 where
  pub image_is : new image ≡ Some (original plan)
  pub ecc_is : IsUnfinished (head_bytes (head_fields (original plan) plan.parity)) (old ecc) (new ecc)

pub record StandsMarking (plan : Plan) (image ecc : List ℕ) (new : Files) : Type 0 where
  pub image_is : IsMixed (damaged plan) (original plan) (new image)
  pub ecc_is : new ecc ≡ Some (protection plan)

pub record StandsRepairing (plan : Plan) (image ecc : List ℕ) (new : Files) : Type 0 where
  pub image_is : MayStand (outcome plan) (Some (damaged plan)) (new image)
  pub ecc_is : new ecc ≡ Some (protection plan)

-- the repaired image and its error correction file stand under the two names
pub record IsLeft (plan : Plan) (image ecc : List ℕ) (new : Files) (repaired : Repaired) : Type 0 where
  pub image_is : new image ≡ Some repaired.file
  pub ecc_is : new ecc ≡ Some (protection plan)

-- what may stand under the two names after a fault or want of memory
abbrev pub IsUnderway : Plan → (image ecc : List ℕ) → (old new : Files) → Type 0
IsUnderway plan image ecc old new =
    StandsMaking plan image ecc old new ⊎ StandsProtecting plan image ecc old new
    ⊎ StandsMarking plan image ecc new ⊎ StandsRepairing plan image ecc new
    ⊎ IsOkAnd (outcome plan) (IsLeft plan image ecc new)

-- a demonstration that isn't done: for a fault or want of memory, with files on the way
pub record Stops (plan : Plan) (image ecc : List ℕ) (old new : Files) (why : DemoRefusal) : Type 0 where
  pub fault : IsFault why
  pub left : IsUnderway plan image ecc old new

-- the damaged image and its error correction file are there, and the digest of the image is known
pub record IsSetUp (plan : Plan) (image ecc : List ℕ) (new : Files) (sum : List ℕ) : Type 0 where
  pub image_is : new image ≡ Some (damaged plan)
  pub ecc_is : new ecc ≡ Some (protection plan)
  pub sum_is : sum ≡ md5 (original plan)

abbrev pub SetsUp : Plan → (image ecc : List ℕ) → (old new : Files) → Result (List ℕ) DemoRefusal → Type 0
SetsUp plan image ecc old new (Ok sum) = IsSetUp plan image ecc new sum
SetsUp plan image ecc old new (Err why) = Stops plan image ecc old new why

-- what was found of a repair
pub record IsFound (plan : Plan) (image ecc : List ℕ) (files : Files) (sum : List ℕ) (fixed : FixReport) (repaired : Repaired) : Type 0 where
  pub image_is : files image ≡ Some repaired.file
  pub ecc_is : files ecc ≡ Some (protection plan)
  pub sum_is : sum ≡ md5 (original plan)
  pub fixed_is : fixed ≡ repaired.report
  pub few_restored : length repaired.report.restored ≤ 65536
  pub few_lost : length repaired.report.lost ≤ 65536

-- and what is told of it
pub record IsToldOf (plan : Plan) (repaired : Repaired) (shown : Demonstration) : Type 0 where
  pub report_is : shown.report ≡ report_of plan repaired
  pub whole_is : shown.whole ≡ is_whole repaired.report

-- where it is told, it is that of whatever repair was found
abbrev pub TellsOf : {E : Type 0} → Plan → (image ecc : List ℕ) → Files → List ℕ → FixReport → Result Demonstration E → Type 0
TellsOf plan image ecc files sum fixed result = (repaired : Repaired) → IsFound plan image ecc files sum fixed repaired → IfOk result (IsToldOf plan repaired)

-- the steps before the repair, on a desk that tells its files
abbrev pub SetsUpOn : Plan → (image ecc : List ℕ) → (old new : DeskState) → Result (List ℕ) DemoRefusal → Type 0
SetsUpOn plan image ecc old new result = IsTrue old.tells → SetsUp plan image ecc old.files new.files result
