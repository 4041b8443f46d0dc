-- What a reading into a named image leaves and answers. The image file before is y, and none where it wasn't there.
use Rattle.std.specs.Prelude.{ℕ, ◌≡◌, ◌≤◌, ◌⊎◌, ◌-◌, ◌^◌, List, [], Option, Some, Result, Ok, Err, IsOk, IsOkAnd, IsTrue, length, min}
use Rattle.std.specs.Borrow.{Bor}
use Rattle.std.specs.Option.{unwrap_or}
use Rattle.rs01_outside.specs.DeskState.{DeskState}
use Rattle.rs01_rack.specs.Counting.{GivesNumber, HasCause}
use Rattle.rs01_rack.specs.Rack.{AllTell, RackState, views_of}
use Rattle.rs01_ecchead.specs.Erased.{Known, image_len}
use Rattle.rs01_report.specs.declared.reports.ReadReport.{ReadReport}
use Rattle.rs01_linear.specs.Course.{Manner, manner_of, read_to, whole_reading}
use Rattle.rs01_linear.specs.Lasting.{AllRoseBy}
use Rattle.rs01_linear.specs.Left.{image_left, marked}
use Rattle.rs01_linear.specs.Marking.{IsMixed}
use Rattle.rs01_linear.specs.Medium.{Found, IsUnfit, Numbered, file_given, found}
use Rattle.rs01_linear.specs.Refusal.{IsOfMedium, writes_badly}
use Rattle.rs01_linear.specs.Report.{report_of}
use Rattle.rs01_linear.specs.declared.refusal.ReadRefusal.{ReadRefusal}
use Rattle.rs01_linear.specs.declared.refusal.ReadRefusal.TheVariants.{DriveSize, Ecc, Rack}

-- how many asks a rack counted since, up to the last value of a u64
abbrev pub asked_since : RackState → RackState → ℕ
asked_since old new = min (new.asks - old.asks) (2 ^ 64 - 1)

-- a medium was read to its end: the image file, the drives and what is told are those of the whole reading
pub record IsReadInto (known : Known) (manner : Manner) (y : List ℕ) (old new : RackState) (file : Option (List ℕ)) (told : ReadReport) : Type 0 where
  pub file_is : file ≡ Some (image_left known manner y (views_of old))
  pub views_are : views_of new ≡ (whole_reading known manner y (views_of old)).views
  pub told_is : told ≡ report_of (whole_reading known manner y (views_of old)).fates (asked_since old new) (length y - image_len known)

-- the image file of a reading that was left: as it was, or the old one whose first bytes are marked, while no sector was
-- passed; and the marked one whose first bytes are those of the file that is left at the end
abbrev pub IsOnTheWay : (passed : ℕ) → (old marked left : List ℕ) → (before file : Option (List ℕ)) → Type 0
IsOnTheWay passed old marked left before file =
    ((passed ≡ 0) × ((file ≡ before) ⊎ IsMixed marked old file)) ⊎ IsMixed left marked file

-- it wasn't: the drives were asked for the first sectors at most, and the image file is on the way
pub record IsLeftAt (known : Known) (manner : Manner) (y : List ℕ) (old new : RackState) (before file : Option (List ℕ)) : Type 0 where
  pub passed : ℕ
  pub inside : passed ≤ known.sectors
  pub views_are : views_of new ≡ (read_to known manner y (views_of old) passed).views
  pub file_is : IsOnTheWay passed y (marked known y) (image_left known manner y (views_of old)) before file

-- nothing has changed: neither the drives' views nor the image file
pub record IsUntouched (old new : RackState) (before file : Option (List ℕ)) : Type 0 where
  pub views_are : views_of new ≡ views_of old
  pub file_is : file ≡ before

-- a medium that is refused is refused as its file and its drives say, and nothing has changed; writing is tried only in
-- one that isn't; after a fault or want of memory nothing has changed, or the reading of what was found is left somewhere
pub record IsUnread (given : Option (Option (List ℕ))) (old new : RackState) (before file : Option (List ℕ)) (IsLeft : Found → Type 0) (why : ReadRefusal) : Type 0 where
  pub refused : IsOfMedium why → found given (views_of old) ≡ Err why
  pub untouched : IsOfMedium why → IsUntouched old new before file
  pub write_fault_last : IsTrue (writes_badly why) → IsOk (found given (views_of old))
  pub left : IsUntouched old new before file ⊎ IsOkAnd (found given (views_of old)) IsLeft

-- what reading a medium leaves and answers, in whatever order its sectors are asked for: it was read so, or it was left so
abbrev pub ReadsBy :
    Option (Option (List ℕ)) → (old new : RackState) → (before file : Option (List ℕ)) → (IsRead : ReadReport → Found → Type 0) → (IsLeft : Found → Type 0)
    → Result ReadReport ReadRefusal → Type 0
ReadsBy given old new before file IsRead IsLeft (Ok told) = IsOkAnd (found given (views_of old)) (IsRead told)
ReadsBy given old new before file IsRead IsLeft (Err why) = IsUnread given old new before file IsLeft why

-- what a reading in rising order leaves and answers, where the desk and the drives tell
abbrev pub Reads : Option (Option (List ℕ)) → Manner → (old new : RackState) → (before file : Option (List ℕ)) → Result ReadReport ReadRefusal → Type 0
Reads given manner old new before file result =
    ReadsBy given old new before file
    (λ told f. IsReadInto f.known manner (unwrap_or before []) old new file told)
    (λ f. IsLeftAt f.known manner (unwrap_or before []) old new before file) result

-- the same of a reading into the named image, and only there where both tell
abbrev pub TellsReading : (desk desk' : DeskState) → Option (Bor (List ℕ)) → (jump tries : ℕ) → List ℕ → Result ReadReport ReadRefusal → (old new : RackState) → Type 0
TellsReading desk desk' ecc jump tries name result old new =
    IsTrue desk.tells → AllTell new → Reads (file_given desk ecc) (manner_of jump tries) old new (desk.files name) (desk'.files name) result

-- what the drives gave, whether they tell or not: a number, where the medium was read, or what they are refused for, and
-- with which cause
abbrev pub RefusesBy : {T : Type 0} → Result T ReadRefusal → RackState → RackState → Type 0
RefusesBy (Ok told) old new = (n : ℕ) × Numbered n old new
RefusesBy (Err (Ecc why)) old new = new ≡ old
RefusesBy (Err (Rack why)) old new = GivesNumber (Err why) old new × HasCause (Err why) old new
RefusesBy (Err (DriveSize n)) old new = GivesNumber (Ok n) old new × IsUnfit n
RefusesBy answer old new = Unit {0}

-- each sector that is told to be unreadable raised the count of each drive
abbrev pub UnreadableRose : Result ReadReport ReadRefusal → RackState → RackState → Type 0
UnreadableRose (Ok told) old new = AllRoseBy (length told.unreadable) old new
UnreadableRose (Err why) old new = Unit {0}
