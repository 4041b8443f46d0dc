-- The work of `read`, in whatever order it asks for the sectors, and that of reading in rising order.
use Rattle.std.specs.Prelude.{ℕ, ◌≡◌, ◌≤◌, ◌+◌, ◌-◌, ◌^◌, ◌==◌, ◌&&◌, ◌⊎◌, false, true, if◌then◌else◌, List, length, IsOkAnd, IsSomeAnd, None, Option, Some, Result, Ok, Err, is_none, min}
use Rattle.std.specs.Option.{option_map}
use Rattle.rs01_ecchead.specs.Erased.{Known, image_len}
use Rattle.rs01_linear.specs.Course.{Course, Manner, read_to, whole_reading}
use Rattle.rs01_linear.specs.Lasting.{asks_in}
use Rattle.rs01_linear.specs.Left.{image_left, marked}
use Rattle.rs01_linear.specs.Outcome.{IsOnTheWay}
use Rattle.rs01_linear.specs.Medium.{Found, IsKnownBy, Numbered}
use Rattle.rs01_linear.specs.Report.{report_of}
use Rattle.rs01_linear.specs.Spared.{Spares}
use Rattle.rs01_linear.specs.declared.refusal.ReadRefusal.{ReadRefusal}
use Rattle.rs01_outside.specs.DriveView.{DriveView}
use Rattle.rs01_outside.specs.Files.{Becomes, SameElsewhere, bytes_of}
use Rattle.rs01_rack.specs.Rack.{capped}
use Rattle.rs01_report.specs.Texts.{read_lines}
use Rattle.rs01_report.specs.declared.reports.ReadReport.{ReadReport}
use Rattle.rs01_top.specs.Faults.{read_fault}
use Rattle.rs01_top.specs.Outside.{Outside, World}
use Rattle.rs01_top.specs.Scan.{medium_in}
use Rattle.rs01_top.specs.Work.{Work, fault_in}

-- 0 exactly where no sector is lost, neither good nor restored at the end, and no layer is strange
abbrev pub read_status : ReadReport → ℕ
read_status report = if (length report.lost == 0) && (length report.strange == 0) then 0 else 1

-- what is asked for: into which image file and by which error correction file, if any; what the whole reading of a medium
-- that was found leaves, puts and answers; and what else may stand, where it was begun
pub record Reading : Type 1 where
  pub image : List ℕ
  pub ecc : Option (List ℕ)
  pub done : Found → Outside → Outside → List ℕ → ℕ → Type 0
  pub left : Found → Outside → Outside → Type 0

-- how many asks were counted from one state to another, up to the last value of a u64
abbrev pub asks_between : Outside → Outside → ℕ
asks_between old new = min (new.asks - old.asks) (2 ^ 64 - 1)

-- the count of asks rose by as many as the drives' lists of asks show more
pub record CountsAsks (old new : Outside) : Type 0 where
  pub more : ℕ
  pub shown : asks_in new.views ≡ asks_in old.views + more
  pub counted : new.asks ≡ capped (old.asks + more)

-- the image file becomes this one, no other file changes, the drives were asked so, and the report is put
pub record HasRead (image left : List ℕ) (drives : List DriveView) (report : ReadReport) (old new : Outside) (put : List ℕ) (status : ℕ) : Type 0 where
  pub files : Becomes image left old.files new.files
  pub views : new.views ≡ drives
  pub asks : CountsAsks old new
  pub lines : put ≡ read_lines report image
  pub number : status ≡ read_status report

-- neither the drives nor the image file changed
pub record IsAsBefore (image : List ℕ) (old new : Outside) : Type 0 where
  pub views : new.views ≡ old.views
  pub file : new.files image ≡ old.files image

-- what may stand by what is found: nothing has changed where the medium is refused
abbrev pub ReadsSoFar : Reading → (old new : Outside) → Result Found ReadRefusal → Type 0
ReadsSoFar reading old new (Ok medium) = IsAsBefore reading.image old new ⊎ reading.left medium old new
ReadsSoFar reading old new (Err why) = IsAsBefore reading.image old new

-- no other file has changed
pub record MayStandAfterRead (reading : Reading) (old new : Outside) : Type 0 where
  pub elsewhere : SameElsewhere reading.image old.files new.files
  pub left : ReadsSoFar reading old new (medium_in reading.ecc old)

-- the image file isn't shorter, and its good sectors and the bytes past the image are the same, by what the error
-- correction file tells of them, and without one by the number of sectors that the drives gave
pub record HasGood (reading : Reading) (old new : World) : Type 0 where
  pub known : Known
  pub known_is : IsKnownBy (option_map old.desk.files reading.ecc) known
  pub number : reading.ecc ≡ None → Numbered known.sectors old.rack new.rack
  pub spares : IsSomeAnd (new.desk.files reading.image) (Spares known (bytes_of old.desk.files reading.image))

-- whatever the drives give: no other file has changed, and the image file is as before, or has what was good in it
pub record KeepsGood (reading : Reading) (old new : World) : Type 0 where
  pub elsewhere : SameElsewhere reading.image old.desk.files new.desk.files
  pub image : (new.desk.files reading.image ≡ old.desk.files reading.image) ⊎ HasGood reading old new

abbrev pub work_of_reading : Reading → Work
work_of_reading reading = record {
  refusal = λ found. fault_in read_fault (medium_in reading.ecc found);
  done = λ old new put status. IsOkAnd (medium_in reading.ecc old) (λ medium. reading.done medium old new put status);
  may_stand = MayStandAfterRead reading;
  keeps = KeepsGood reading;
  only_reads = false;
  uses_drives = true;
  sized_by_drives = is_none reading.ecc;
}

-- in rising order, in this manner

-- the whole reading
abbrev pub course_in : (image : List ℕ) → Manner → Found → Outside → Course
course_in image manner medium outside = whole_reading medium.known manner (bytes_of outside.files image) outside.views

-- the image file after it
abbrev pub left_in : (image : List ℕ) → Manner → Found → Outside → List ℕ
left_in image manner medium outside = image_left medium.known manner (bytes_of outside.files image) outside.views

-- its report
abbrev pub report_in : (image : List ℕ) → Manner → Found → (old new : Outside) → ReadReport
report_in image manner medium old new =
    report_of (course_in image manner medium old).fates (asks_between old new)
    (length (bytes_of old.files image) - image_len medium.known)

-- an image file is the one that is left at the end, or on the way there
abbrev pub IsOneOf : (image : List ℕ) → Manner → Found → Outside → ℕ → Option (List ℕ) → Type 0
IsOneOf image manner medium old passed file =
    (file ≡ Some (left_in image manner medium old))
    ⊎ IsOnTheWay passed (bytes_of old.files image) (marked medium.known (bytes_of old.files image)) (left_in image manner medium old)
    (old.files image) file

-- some first sectors of the medium were passed, and the image file is one of those
pub record IsReadSoFar (image : List ℕ) (manner : Manner) (medium : Found) (old new : Outside) : Type 0 where
  pub passed : ℕ
  pub inside : passed ≤ medium.known.sectors
  pub views : new.views ≡ (read_to medium.known manner (bytes_of old.files image) old.views passed).views
  pub file : IsOneOf image manner medium old passed (new.files image)

abbrev pub linear_reading : (image : List ℕ) → (ecc : Option (List ℕ)) → Manner → Reading
linear_reading image ecc manner = record {
  image = image;
  ecc = ecc;
  done = λ medium old new put status.
      HasRead image (left_in image manner medium old) (course_in image manner medium old).views (report_in image manner medium old new) old new put status;
  left = IsReadSoFar image manner;
}

abbrev pub read_work : (image : List ℕ) → (ecc : Option (List ℕ)) → (jump tries : ℕ) → Work
read_work image ecc jump tries = work_of_reading (linear_reading image ecc (record { jump = jump; tries = tries }))
