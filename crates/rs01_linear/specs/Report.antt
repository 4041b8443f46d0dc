-- What is told of a medium that was read, by what became of each sector.
use Rattle.std.specs.Prelude.{ℕ, ◌≡◌, Bool, true, false, List, [], count_by, filter, length, slice_get}
use Rattle.std.specs.List.{range_with_len}
use Rattle.std.specs.Option.{option_map_or}
use Rattle.rs01_report.specs.declared.reports.ReadReport.{ReadReport}
use Rattle.rs01_linear.specs.declared.fate.Fate.{Fate}
use Rattle.rs01_linear.specs.declared.fate.Fate.TheVariants as fate
use Rattle.rs01_linear.specs.declared.telling.Told.{Told}
use Rattle.rs01_linear.specs.declared.telling.Told.TheVariants as told

-- whether a sector with this fate is told among these: the lost ones are all that weren't kept or read
abbrev pub is_told : Told → Fate → Bool
is_told told.Kept fate.Kept = true
is_told told.Read fate.Read = true
is_told told.Unreadable fate.Unreadable = true
is_told told.Altered fate.Altered = true
is_told told.NotAsked fate.LeftOut = true
is_told told.Lost fate.Unreadable = true
is_told told.Lost fate.Altered = true
is_told told.Lost fate.LeftOut = true
is_told kind other = false

-- the same of a sector by its number
abbrev pub tells_of : List Fate → Told → ℕ → Bool
tells_of fates kind s = option_map_or (is_told kind) (slice_get fates s) false

-- the sectors that are told among these, rising, and how many they are
abbrev pub sectors_told : List Fate → Told → List ℕ
sectors_told fates kind = filter (tells_of fates kind) (range_with_len 0 (length fates))

abbrev pub number_told : List Fate → Told → ℕ
number_told fates kind = count_by (tells_of fates kind) (range_with_len 0 (length fates))

-- the report, where so many asks were counted and so many bytes stood behind the image
unfoldable pub report_of : List Fate → ℕ → ℕ → ReadReport
report_of fates asked surplus = record {
  sectors = length fates;
  asked = asked;
  kept = number_told fates told.Kept;
  read = number_told fates told.Read;
  unreadable = sectors_told fates told.Unreadable;
  altered = sectors_told fates told.Altered;
  not_asked = sectors_told fates told.NotAsked;
  restored = [];
  lost = sectors_told fates told.Lost;
  strange = [];
  surplus = surplus;
}

-- how many sectors no drive answered for
abbrev pub unread : List Fate → ℕ
unread fates = count_by (is_told told.Unreadable) fates

-- so many sectors, and none that was asked for in vain
pub record IsFresh (sectors : ℕ) (fates : List Fate) : Type 0 where
  pub all : length fates ≡ sectors
  pub none : unread fates ≡ 0
