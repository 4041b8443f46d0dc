-- The steps of a repair: what each leaves of the image file. found is what the repair starts from, and was are the two
-- files as they were found.
use Rattle.std.specs.Prelude.{ℕ, ◌≡◌, ◌≢◌, ◌++◌, ◌∷◌, ◌<◌, Bool, true, false, IsTrue, List, [], Option, Some, Result, Ok, Err, IfOk, length, map, slice_index_or}
use Rattle.std.specs.List.{flat_map, range_with_len}
use Rattle.std.specs.Option.{option_map, unwrap_or}
use Rattle.rs01_layers.specs.Layout.{layer_of, place_of, sector_at}
use Rattle.rs01_layers.specs.declared.task.LayerOut.{LayerOut}
use Rattle.rs01_outside.specs.DeskState.{DeskState}
use Rattle.rs01_ecchead.specs.Opened.{opened_as, opened_file}
use Rattle.rs01_report.specs.declared.reports.FixReport.{FixReport}
use Rattle.rs01_repair.specs.Finding.{HasEcc, Sources, answer_to, fields_in, is_gone_in, layers_in, recorded_in, said}
use Rattle.rs01_repair.specs.Restored.{is_restored}
use Rattle.rs01_repair.specs.declared.found.Found.{Found}
use Rattle.rs01_fix.specs.Answer.{fix_answer}
use Rattle.rs01_fix.specs.Outcome.{IsOfFiles}
use Rattle.rs01_fix.specs.Progress.{IsOnTheWay, StandsUnder}
use Rattle.rs01_fix.specs.Repair.{fixed, is_lost, is_mended, report_of, strange_in}
use Rattle.rs01_fix.specs.declared.repairs.Repairs.{Repairs}
use Rattle.rs01_fix.specs.declared.refusal.FixRefusal.{FixRefusal}

-- the files that were found, where e is the error correction file and y the image file
abbrev pub sources : (found : Found) → (e y : List ℕ) → length y ≡ found.size → Sources found
sources found e y size = record { parity = recorded_in found e; image = y; size = size }

-- a fact about the files that were found, where the error correction file under this name is the one that was opened
abbrev pub ByEcc : (found : Found) → List ℕ → DeskState → (Sources found → Type 0) → Type 0
ByEcc found name state Fact = (e y : List ℕ) (size : length y ≡ found.size) → HasEcc found e state name → Fact (sources found e y size)

-- the files that were found, or the refusal that they give
abbrev pub IsFoundIn : (ecc image : Option (List ℕ)) → Result Found FixRefusal → Type 0
IsFoundIn ecc image (Ok found) = (opened_file ecc ≡ Ok (opened_as found.ecc (unwrap_or ecc []))) × (option_map length image ≡ Some found.size)
IsFoundIn ecc image (Err why) = (cut : Bool) → IsOfFiles why → fix_answer ecc image cut ≡ Err why

-- the same of the files under two names, where the desk tells them
abbrev pub IsFoundOn : (ecc image : List ℕ) → DeskState → Result Found FixRefusal → Type 0
IsFoundOn ecc image state result = IsTrue state.tells → IsFoundIn (state.files ecc) (state.files image) result

-- the image file as it was found, the one where all before a place of a layer is done, and the fixed one
abbrev pub IsFound : (found : Found) → Sources found → Option (List ℕ) → Type 0
IsFound found was file = file ≡ Some was.image

abbrev pub IsBefore : (found : Found) → Sources found → ℕ → ℕ → Option (List ℕ) → Type 0
IsBefore found was l p file = StandsUnder (said found was) was.image (answer_to found was) l p file

abbrev pub IsRepaired : (found : Found) → Sources found → Bool → Option (List ℕ) → Type 0
IsRepaired found was cut file = file ≡ Some (fixed (said found was) was.image cut)

-- a file on the way to the fixed one, and one that is so whether the bytes past the image are to be cut or not
abbrev pub IsUnderway : (found : Found) → Sources found → Bool → Option (List ℕ) → Type 0
IsUnderway found was cut file = IsOnTheWay (said found was) was.image (answer_to found was) cut file

abbrev pub IsEitherWay : (found : Found) → Sources found → Option (List ℕ) → Type 0
IsEitherWay found was file = (cut : Bool) → IsUnderway found was cut file

-- a step from one file to another, which leaves a third kind of file where it fails
abbrev pub Leads : {T E : Type 0} → (From To Else : Option (List ℕ) → Type 0) → List ℕ → (old new : DeskState) → Result T E → Type 0
Leads From To Else name old new (Ok value) = IsTrue old.tells → From (old.files name) → To (new.files name)
Leads From To Else name old new (Err why) = IsTrue old.tells → From (old.files name) → Else (new.files name)

-- all layers are repaired, and the image is, with the bytes past it
abbrev pub RepairsLayers : {T E : Type 0} → (found : Found) → Sources found → List ℕ → (old new : DeskState) → Result T E → Type 0
RepairsLayers found was name old new result =
    Leads (IsFound found was) (IsRepaired found was false) (IsEitherWay found was) name old new result

abbrev pub RepairsImage : {T E : Type 0} → (found : Found) → Sources found → Bool → List ℕ → (old new : DeskState) → Result T E → Type 0
RepairsImage found was cut name old new result =
    Leads (IsFound found was) (IsRepaired found was cut) (IsUnderway found was cut) name old new result

-- a flag of each layer, which is set where it is restored
abbrev pub FlagLayers : (found : Found) → Sources found → List Bool → Type 0
FlagLayers found was flags =
    flags ≡ map (λ k. is_restored (answer_to found was k)) (range_with_len 0 (layers_in found))

-- a flag of each sector of the layers before l, which is set where it was erased
abbrev pub FlagSectors : (found : Found) → Sources found → ℕ → List Bool → Type 0
FlagSectors found was l flags = (s : ℕ) → s < found.ecc.head.sectors → layer_of found.ecc.head.sectors found.ecc.head.parity s < l
    → slice_index_or flags s false ≡ is_gone_in found was s

-- the flag of the sector at a place became this one, and no other flag changed
pub record FlagsPlace (found : Found) (l p : ℕ) (flag : Bool) (old new : List Bool) : Type 0 where
  pub len : length new ≡ length old
  pub here : (s : ℕ) → s < found.ecc.head.sectors → Some s ≡ sector_at found.ecc.head.sectors found.ecc.head.parity l p → slice_index_or new s false ≡ flag
  pub others : (s : ℕ) → s < found.ecc.head.sectors → Some s ≢ sector_at found.ecc.head.sectors found.ecc.head.parity l p
      → slice_index_or new s false ≡ slice_index_or old s false

-- the flags of a layer's sectors became those of its places, and no other flag changed
pub record FlagsLayer (found : Found) (l : ℕ) (flags old new : List Bool) : Type 0 where
  pub len : length new ≡ length old
  pub here : (s : ℕ) → s < found.ecc.head.sectors → layer_of found.ecc.head.sectors found.ecc.head.parity s ≡ l
      → slice_index_or new s false ≡ slice_index_or flags (place_of found.ecc.head.sectors found.ecc.head.parity s) false
  pub others : (s : ℕ) → s < found.ecc.head.sectors → layer_of found.ecc.head.sectors found.ecc.head.parity s ≢ l
      → slice_index_or new s false ≡ slice_index_or old s false

-- what is kept of the first l layers: a flag of each sector, a flag of each layer, and the strange ones
pub record AreKept (found : Found) (was : Sources found) (l : ℕ) (repairs : Repairs) : Type 0 where
  pub erased : FlagSectors found was l repairs.erased.items
  pub restored : repairs.restored.items ≡ map (λ k. is_restored (answer_to found was k)) (range_with_len 0 l)
  pub strange_are : repairs.strange.items ≡ flat_map (λ k. strange_in (fields_in found) k (answer_to found was k)) (range_with_len 0 l)

-- there is room for a flag of each sector, and there is one of each of the first l layers
pub record HasRoom (found : Found) (l : ℕ) (repairs : Repairs) : Type 0 where
  pub erased : length repairs.erased.items ≡ found.ecc.head.sectors
  pub restored : length repairs.restored.items ≡ l

-- nothing is kept yet
pub record KeepsNothing (found : Found) (repairs : Repairs) : Type 0 where
  pub room : HasRoom found 0 repairs
  pub none_restored : repairs.restored.items ≡ []
  pub none_strange : repairs.strange.items ≡ []

-- the answer to layer l is kept behind those that were
pub record Adds (found : Found) (l : ℕ) (answer : LayerOut) (old new : Repairs) : Type 0 where
  pub restored : new.restored.items ≡ old.restored.items ++ is_restored answer ∷ []
  pub strange : new.strange.items ≡ old.strange.items ++ strange_in (fields_in found) l answer

-- what is kept of all layers, where the image file was the one that was found
abbrev pub KeepsAll : {E : Type 0} → Found → (image ecc : List ℕ) → DeskState → Result Repairs E → Type 0
KeepsAll found image ecc old result = ByEcc found ecc old (λ was. IsFound found was (old.files image) → IfOk result (AreKept found was (layers_in found)))

-- what is told of the repaired image
abbrev pub IsToldOf : (found : Found) → Sources found → Bool → FixReport → Type 0
IsToldOf found was cut told = told ≡ report_of (said found was) was.image cut

abbrev pub Tells : {E : Type 0} → Found → Bool → (image ecc : List ℕ) → DeskState → Result FixReport E → Type 0
Tells found cut image ecc old result = ByEcc found ecc old (λ was. IsFound found was (old.files image) → IfOk result (IsToldOf found was cut))

-- whether a sector is told as restored, or as lost
abbrev pub is_told : Bool → (found : Found) → Sources found → ℕ → Bool
is_told true found was s = is_mended (said found was) (answer_to found was) s
is_told false found was s = is_lost (said found was) was.image (answer_to found was) s
