-- What is kept of the answers to layers, and what is told by that.
use Rattle.std.specs.Prelude.{ℕ, ◌≡◌, ◌%◌, ◌&&◌, not, Bool, true, false, filter, List, length, option_to_list, replicate, slice_index_or, slice_set, Option, None}
use Rattle.std.specs.List.{flat_map, range_with_len}
use Rattle.rs01_layers.specs.declared.task.LayerOut.{LayerOut}
use Rattle.rs01_ecchead.specs.Head.{fields_of}
use Rattle.rs01_ecchead.specs.declared.opened.Ecc.{Ecc}
use Rattle.rs01_report.specs.declared.reports.ReadReport.{ReadReport}
use Rattle.rs01_report.specs.declared.reports.Strange.{Strange}
use Rattle.rs01_repair.specs.Restored.{is_restored}
use Rattle.rs01_fix.specs.Repair.{strange_in}
use Rattle.rs01_linear.specs.Report.{report_of, tells_of}
use Rattle.rs01_linear.specs.declared.fate.Fate.{Fate}
use Rattle.rs01_linear.specs.declared.telling.Told.TheVariants as told
use Rattle.rs01_adaptive.specs.declared.noting.Noted.{Noted}

-- a flag of each layer, set where it is restored, and why it is strange, where it is: at first none is corrected
pub record IsBlank (layers : ℕ) (noted : Noted) : Type 0 where
  pub restored : noted.restored.items ≡ replicate layers false
  pub strange : noted.strange.items ≡ replicate layers None

-- there are so many layers
pub record HasLayers (layers : ℕ) (noted : Noted) : Type 0 where
  pub restored : length noted.restored.items ≡ layers
  pub strange : length noted.strange.items ≡ layers

-- the answer to layer l is kept
pub record Notes (ecc : Ecc) (l : ℕ) (answer : LayerOut) (old new : Noted) : Type 0 where
  pub why : Option Strange
  pub why_is : option_to_list why ≡ strange_in (fields_of ecc.head) l answer
  pub restored : new.restored.items ≡ slice_set old.restored.items l (is_restored answer)
  pub strange : new.strange.items ≡ slice_set old.strange.items l why

-- the flag of a sector's layer, where there are layers
abbrev pub flag_of : List Bool → ℕ → Bool
flag_of flags s = slice_index_or flags (s % length flags) false

-- whether a sector is told as restored, or as lost
abbrev pub is_among : List Fate → List Bool → Bool → ℕ → Bool
is_among fates flags true s = tells_of fates told.Lost s && flag_of flags s
is_among fates flags false s = tells_of fates told.Lost s && not (flag_of flags s)

abbrev pub sectors_among : List Fate → List Bool → Bool → List ℕ
sectors_among fates flags restored = filter (is_among fates flags restored) (range_with_len 0 (length fates))

abbrev pub strange_noted : List (Option Strange) → List Strange
strange_noted strange = flat_map option_to_list strange

-- what is told
unfoldable pub told_of : List Fate → Noted → ℕ → ℕ → ReadReport
told_of fates noted asked surplus = record (report_of fates asked surplus) {
  restored = sectors_among fates noted.restored.items true;
  lost = sectors_among fates noted.restored.items false;
  strange = strange_noted noted.strange.items;
}
