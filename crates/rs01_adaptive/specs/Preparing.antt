-- Reading into an image file that is ready, by turns.
use Rattle.std.specs.Prelude.{ℕ, ◌≡◌, ◌≤◌, IfErr, IsSomeAnd, IsTrue, List, [], Option, Result, Ok, Err, length}
use Rattle.std.specs.Borrow.{Bor}
use Rattle.std.specs.Option.{option_map, unwrap_or}
use Rattle.rs01_outside.specs.DeskState.{DeskState}
use Rattle.rs01_outside.specs.Files.{bytes_of}
use Rattle.rs01_ecchead.specs.Erased.{image_len}
use Rattle.rs01_rack.specs.Rack.{AllTell, RackState, views_of}
use Rattle.rs01_report.specs.declared.reports.ReadReport.{ReadReport}
use Rattle.rs01_linear.specs.Lasting.{RackLasts}
use Rattle.rs01_linear.specs.Linear.{IsPrepared}
use Rattle.rs01_linear.specs.Medium.{Found, known_of}
use Rattle.rs01_linear.specs.Outcome.{UnreadableRose}
use Rattle.rs01_linear.specs.Refusal.{IsOfWork, WorksBy}
use Rattle.rs01_linear.specs.Spared.{Spares}
use Rattle.rs01_linear.specs.declared.prepared.Prepared.{Prepared}
use Rattle.rs01_linear.specs.declared.refusal.ReadRefusal.{ReadRefusal}
use Rattle.rs01_linear.specs.declared.refusal.ReadRefusal.TheVariants.{OutOfMemory, ReadFault, WriteFault}
use Rattle.rs01_workers.specs.Work.{stop_or}
use Rattle.rs01_workers.specs.declared.results.WindowStop.{WindowStop}
use Rattle.rs01_reader.specs.declared.stop.Stop.{Stop}
use Rattle.rs01_reader.specs.declared.stop.Stop.TheVariants as stop
use Rattle.rs01_reader.specs.declared.setup.Setup.{Setup}
use Rattle.rs01_reader.specs.Settled.{IsNamed}
use Rattle.rs01_adaptive.specs.Outcome.{IsLeftAt, IsReadInto, OfWhole}
use Rattle.rs01_adaptive.specs.Sights.{IsFileOf}

-- the name of the error correction file, or an empty one
abbrev pub ecc_name : Setup → List ℕ
ecc_name setup = unwrap_or (option_map (λ (n : Bor (List ℕ)). n.now) setup.ecc) []

-- what was found of the medium is what it was opened as
pub record IsFoundAs (setup : Setup) (desk : DeskState) (f : Found) : Type 0 where
  pub known_is : f.known ≡ known_of setup.medium.now
  pub opened_is : IsFileOf f.opened setup.medium.now.ecc (bytes_of desk.files (ecc_name setup))

-- how reading into an image file that is ready ends
abbrev pub ReadsPrepared : Found → ℕ → Option (List ℕ) → (old new : RackState) → Option (List ℕ) → Result ReadReport ReadRefusal → Type 0
ReadsPrepared f tries before old new file (Ok told) = OfWhole f tries (unwrap_or before []) (views_of old) (IsReadInto old new file told)
ReadsPrepared f tries before old new file (Err why) = OfWhole f tries (unwrap_or before []) (views_of old) (IsLeftAt (views_of new) before file)

-- the same where the desk and the drives tell, from whatever image file was got ready; and where the desk tells, whatever
-- the drives do, what is good in the file stays
pub record TellsPrepared (setup : Setup) (prepared : Prepared) (desk desk' : DeskState) (result : Result ReadReport ReadRefusal) (old new : RackState) : Type 0 where
  pub reads :
      (f : Found) (before : Option (List ℕ)) → IsTrue desk.tells → AllTell new → IsFoundAs setup desk f
      → IsPrepared (known_of setup.medium.now) before (desk.files setup.image.now) prepared
      → ReadsPrepared f setup.tries before old new (desk'.files setup.image.now) result
  pub stays :
      (before : Option (List ℕ)) → IsTrue desk.tells → IsPrepared (known_of setup.medium.now) before (desk.files setup.image.now) prepared
      → IsSomeAnd (desk'.files setup.image.now) (Spares (known_of setup.medium.now) (unwrap_or before []))

-- how a stop is told
abbrev pub refusal_by : Stop → ReadRefusal
refusal_by stop.ReadFault = ReadFault
refusal_by stop.WriteFault = WriteFault
refusal_by stop.OutOfMemory = OutOfMemory

-- how a reading ended, by how that of its windows did
abbrev pub EndsAs : Result Unit (WindowStop Stop) → Result Unit ReadRefusal → Type 0
EndsAs (Ok u) (Ok v) = Unit {0}
EndsAs (Ok u) (Err why) = ⊥
EndsAs (Err stopped) (Ok v) = ⊥
EndsAs (Err stopped) (Err why) = why ≡ refusal_by (stop_or stopped stop.OutOfMemory)

-- reading may be begun: each drive is asked once at least, the files have two names, and the image file is as long as the
-- image
pub record CanBegin (setup : Setup) (desk : DeskState) : Type 0 where
  pub tries : 1 ≤ setup.tries
  pub named : IsNamed setup.medium.now.ecc (option_map (λ name. name.now) setup.ecc) setup.image.now
  pub places : IsTrue desk.tells → image_len (known_of setup.medium.now) ≤ length (bytes_of desk.files setup.image.now)

-- what reading into an image file that is ready leaves and answers
pub record ReadsReady (setup : Setup) (prepared : Prepared) (desk desk' : DeskState) (result : Result ReadReport ReadRefusal) (old new : RackState) : Type 0 where
  pub works : WorksBy setup.image.now desk desk' result
  pub causes : IfErr result IsOfWork
  pub lasts : RackLasts old new
  pub unreadable : UnreadableRose result old new
  pub told : TellsPrepared setup prepared desk desk' result old new
