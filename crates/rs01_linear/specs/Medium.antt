-- What is known of the medium in the drives before a sector is asked for.
use Rattle.std.specs.Prelude.{ℕ, ◌≡◌, ◌==◌, ◌||◌, ◌<◌, ◌⊎◌, nat_lt, if◌then◌else◌, List, [], Option, Some, None, Result, Ok, Err, IsOk, IsOkAnd, IsSomeAnd, IsTrue, IfErr, IfOk}
use Rattle.std.specs.Borrow.{Bor}
use Rattle.std.specs.Option.{ForSome, option_map, unwrap_or}
use Rattle.rs01_outside.specs.DeskState.{DeskState}
use Rattle.rs01_outside.specs.DriveView.{DriveView}
use Rattle.rs01_rack.specs.Counting.{GivesNumber, number_of}
use Rattle.rs01_rack.specs.Rack.{AllTell, AtDrive, FaultsKept, FaultsRose, RackState, views_of}
use Rattle.rs01_rack.specs.declared.refusal.RackRefusal.{RackRefusal}
use Rattle.rs01_rack.specs.declared.refusal.RackRefusal.TheVariants.{Failed}
use Rattle.rs01_ecchead.specs.Erased.{Known, known_by}
use Rattle.rs01_ecchead.specs.Opened.{Opened, opened_as, opened_file}
use Rattle.rs01_ecchead.specs.declared.opened.Ecc.{Ecc}
use Rattle.rs01_ecchead.specs.declared.opened.EccRefusal.{EccRefusal}
use Rattle.rs01_linear.specs.Lasting.{RackLasts}
use Rattle.rs01_linear.specs.Refusal.{IsOfMedium, RefusesSizeAlone}
use Rattle.rs01_linear.specs.declared.medium.Medium.{Medium}
use Rattle.rs01_linear.specs.declared.refusal.ReadRefusal.{ReadRefusal}
use Rattle.rs01_linear.specs.declared.refusal.ReadRefusal.TheVariants as refusal

-- what is known by the error correction file, where one is given, and else by the number of sectors in the drives
pub record Found : Type 0 where
  pub known : Known
  pub opened : Option Opened

-- sectors that no file tells of: all are whole, and no checksum is recorded
abbrev pub plain : ℕ → Known
plain n = record { sectors = n; last_bytes = 2048; sums = None }

-- by the number of sectors in the drives, where no error correction file is given
abbrev pub found_in_drives : Result ℕ RackRefusal → Result Found ReadRefusal
found_in_drives (Err why) = Err (refusal.Rack why)
found_in_drives (Ok n) =
    if (n == 0) || nat_lt 16777215 n then Err (refusal.DriveSize n) else Ok (record { known = plain n; opened = None })

-- by the error correction file: the drives must agree on their number, which isn't compared with the file's
abbrev pub found_in_file : Result Opened EccRefusal → Result ℕ RackRefusal → Result Found ReadRefusal
found_in_file (Err why) number = Err (refusal.Ecc why)
found_in_file (Ok c) (Err why) = Err (refusal.Rack why)
found_in_file (Ok c) (Ok n) = Ok (record { known = known_by c; opened = Some c })

-- the first refusal of the file that is given, if one is, and then of the drives, and else what is known
abbrev pub found : Option (Option (List ℕ)) → List DriveView → Result Found ReadRefusal
found None views = found_in_drives (number_of views)
found (Some file) views = found_in_file (opened_file file) (number_of views)

-- what a medium's value tells
abbrev pub known_of : Medium → Known
known_of medium = record {
  sectors = medium.extent.sectors;
  last_bytes = medium.extent.last_bytes;
  sums = option_map (λ ecc. ecc.sums.list) medium.ecc;
}

-- a medium's value tells what was found
pub record IsMedium (file : Option (Option (List ℕ))) (medium : Medium) (found : Found) : Type 0 where
  pub known_is : found.known ≡ known_of medium
  pub opened_is : found.opened ≡ option_map (λ ecc. opened_as ecc (unwrap_or (unwrap_or file None) [])) medium.ecc

-- a medium is the one that was found, and so is a refusal that comes from the file or the drives
abbrev pub IsFound : Option (Option (List ℕ)) → List DriveView → Result Medium ReadRefusal → Type 0
IsFound file views (Ok medium) = IsOkAnd (found file views) (IsMedium file medium)
IsFound file views (Err why) = IsOfMedium why → found file views ≡ Err why

-- the bytes of the error correction file, where its name is given
abbrev pub file_given : DeskState → Option (Bor (List ℕ)) → Option (Option (List ℕ))
file_given desk ecc = option_map (λ name. desk.files name.now) ecc

-- the same where the desk and the drives tell
abbrev pub TellsFound : DeskState → Option (Bor (List ℕ)) → Result Medium ReadRefusal → (old new : RackState) → Type 0
TellsFound desk ecc answer old new = IsTrue desk.tells → AllTell new → IsFound (file_given desk ecc) (views_of old) answer

-- what is known comes from the file that is given, and else is so many whole sectors
abbrev pub IsKnownBy : Option (Option (List ℕ)) → Known → Type 0
IsKnownBy None known = (n : ℕ) × (known ≡ plain n)
IsKnownBy (Some file) known = IsOkAnd (opened_file file) (λ c. known ≡ known_by c)

-- that of a medium, where the desk tells, whatever the drives tell
abbrev pub TellsKnown : DeskState → Option (Bor (List ℕ)) → Result Medium ReadRefusal → Type 0
TellsKnown desk ecc answer = IsTrue desk.tells → IfOk answer (λ medium. IsKnownBy (file_given desk ecc) (known_of medium))

-- a file is opened exactly where its name is given, whatever the desk tells
abbrev pub IsGiven : Option (Bor (List ℕ)) → Option Ecc → Type 0
IsGiven None None = Unit {0}
IsGiven None (Some opened) = ⊥
IsGiven (Some name) None = ⊥
IsGiven (Some name) (Some opened) = Unit {0}

-- an error correction file that may be given is opened, or told why not
abbrev pub OpensGiven : Option (Option (List ℕ)) → Result (Option Ecc) ReadRefusal → Type 0
OpensGiven file (Ok None) = file ≡ None
OpensGiven file (Ok (Some ecc)) = IsSomeAnd file (λ given. opened_file given ≡ Ok (opened_as ecc (unwrap_or given [])))
OpensGiven file (Err (refusal.Ecc why)) = IsSomeAnd file (λ given. opened_file given ≡ Err why)
OpensGiven file (Err why) = Unit {0}

-- that, where the desk tells its files
abbrev pub TellsOpened : DeskState → Option (Bor (List ℕ)) → Result (Option Ecc) ReadRefusal → Type 0
TellsOpened desk ecc answer = IsTrue desk.tells → OpensGiven (file_given desk ecc) answer

-- where the desk tells its files, whatever the drives do: an error correction file that is refused is refused so, and with
-- any other answer one that is given opens, unless a fault of reading or want of memory ended the call
abbrev pub AnswersFile : {T : Type 0} → DeskState → Option (Bor (List ℕ)) → Result T ReadRefusal → Type 0
AnswersFile desk ecc (Err (refusal.Ecc why)) = IsTrue desk.tells → IsSomeAnd (file_given desk ecc) (λ given. opened_file given ≡ Err why)
AnswersFile desk ecc (Err refusal.ReadFault) = Unit {0}
AnswersFile desk ecc (Err refusal.OutOfMemory) = Unit {0}
AnswersFile desk ecc answer = IsTrue desk.tells → ForSome (file_given desk ecc) (λ given. IsOk (opened_file given))

-- whatever the drives tell: what is answered of the file that is named, and the drives' number of sectors refuses a medium
-- only where none is
pub record AnswersNamed {T : Type 0} (desk : DeskState) (ecc : Option (Bor (List ℕ))) (answer : Result T ReadRefusal) : Type 0 where
  pub file : AnswersFile desk ecc answer
  pub size : IfErr answer (RefusesSizeAlone ecc)

-- a number of sectors that no medium has
abbrev pub IsUnfit : ℕ → Type 0
IsUnfit n = (n ≡ 0) ⊎ (16777215 < n)

-- a medium is the one of its file, and without a file the one of so many sectors
pub record IsMade (ecc : Option Ecc) (n : ℕ) (medium : Medium) : Type 0 where
  pub ecc_is : medium.ecc ≡ ecc
  pub plain_is : ecc ≡ None → known_of medium ≡ plain n

-- without a file this is no number of sectors that a medium has
pub record IsRefused (ecc : Option Ecc) (n : ℕ) (why : ReadRefusal) : Type 0 where
  pub no_file : ecc ≡ None
  pub why_is : why ≡ refusal.DriveSize n
  pub unfit : IsUnfit n

-- the medium, or that this is no number of sectors for one without a file
abbrev pub MakesMedium : Option Ecc → ℕ → Result Medium ReadRefusal → Type 0
MakesMedium ecc n (Ok medium) = IsMade ecc n medium
MakesMedium ecc n (Err why) = IsRefused ecc n why

-- the drives gave so many sectors, and the rest of the call went on from there
pub record Numbered (n : ℕ) (old new : RackState) : Type 0 where
  pub between : RackState
  pub gives : GivesNumber (Ok n) old between
  pub lasts : RackLasts between new

-- the drives gave a number of sectors, which without a file is the medium's
pub record HasNumber (medium : Medium) (old new : RackState) : Type 0 where
  pub number : ℕ
  pub gives : GivesNumber (Ok number) old new
  pub plain_is : medium.ecc ≡ None → known_of medium ≡ plain number

-- what the drives gave, where they were asked for their number of sectors
abbrev pub GivesMedium : Result Medium ReadRefusal → RackState → RackState → Type 0
GivesMedium (Ok medium) old new = HasNumber medium old new
GivesMedium (Err (refusal.Rack why)) old new = GivesNumber (Err why) old new
GivesMedium (Err (refusal.DriveSize n)) old new = GivesNumber (Ok n) old new × IsUnfit n
GivesMedium (Err why) old new = new ≡ old

-- a drive that is said to have failed raised its count, and with every other answer no drive did
abbrev pub HasCause : Result Medium ReadRefusal → RackState → RackState → Type 0
HasCause (Err (refusal.Rack (Failed place))) old new = AtDrive old.drives new.drives place FaultsRose
HasCause answer old new = (k : ℕ) → AtDrive old.drives new.drives k FaultsKept

-- what becomes of the drives while a medium is opened: none is asked for a sector
pub record Finds (answer : Result Medium ReadRefusal) (old new : RackState) : Type 0 where
  pub lasts : RackLasts old new
  pub same : AllTell new → views_of new ≡ views_of old
  pub asks : new.asks ≡ old.asks
  pub gives : GivesMedium answer old new
  pub cause : HasCause answer old new
