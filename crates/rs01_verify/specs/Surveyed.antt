-- What is kept while the sectors of an image file are looked at in rising order.
use Rattle.std.specs.Prelude.{ℕ, ◌≡◌, ◌≤◌, ◌*◌, ◌==◌, ◌&&◌, nat_lt, if◌then◌else◌, List, [], count_by, filter, length, map, min, replicate, take}
use Rattle.std.specs.List.{range_with_len}
use Rattle.md5.specs.Md5.{Holds}
use Rattle.rs01_layers.specs.Layout.{layer_of, layers_of}
use Rattle.rs01_ecchead.specs.Opened.{Opened, opened_as}
use Rattle.rs01_ecchead.specs.Erased.{image_len, is_altered, is_erased, is_missing, known_by}
use Rattle.rs01_ecchead.specs.Shown.{Shown, shown_in}
use Rattle.rs01_ecchead.specs.declared.opened.Ecc.{Ecc}
use Rattle.rs01_report.specs.declared.reports.Mark.TheVariants.{Absent}
use Rattle.rs01_verify.specs.Report.{fingerprint_mark}
use Rattle.rs01_verify.specs.Tallied.{IsCounted}
use Rattle.rs01_verify.specs.declared.survey.Survey.{Survey}

-- how many of the first n sectors are erased and lie in layer l
abbrev pub erased_below : Opened → List ℕ → ℕ → ℕ → ℕ
erased_below c y n l =
    count_by (λ s. is_erased (known_by c) y s && (layer_of c.fields.sectors c.fields.parity s == l)) (range_with_len 0 n)

-- what is kept of an image file y once its first n sectors were looked at
pub record Surveyed (c : Opened) (y : List ℕ) (n : ℕ) (survey : Survey) : Type 0 where
  pub missing : survey.tally.missing.items ≡ filter (is_missing (known_by c) y) (range_with_len 0 n)
  pub altered : survey.tally.altered.items ≡ filter (is_altered (known_by c) y) (range_with_len 0 n)
  pub counts : survey.tally.counts.items ≡ map (erased_below c y n) (range_with_len 0 (layers_of c.fields.sectors c.fields.parity))
  -- the digest has their bytes, where none is absent
  pub held : image_len (known_by c) ≤ length y → Holds survey.hasher (take (min (2048 * n) (image_len (known_by c))) y)
  pub fingerprint : survey.fingerprint ≡ (if nat_lt c.fields.mark_sector n then fingerprint_mark c y else Absent)

-- the same by the value that an error correction file e was opened as, which may be any of its head and checksums
abbrev pub SurveyedBy : Ecc → List ℕ → ℕ → Survey → Type 0
SurveyedBy ecc y n survey = (e : List ℕ) → Surveyed (opened_as ecc e) y n survey

-- the same of an image that was shown, of whatever file it is
abbrev pub SurveyedShown : Ecc → Shown → ℕ → Survey → Type 0
SurveyedShown ecc image n survey =
    (y : List ℕ) → image ≡ shown_in y ecc.head.sectors ecc.head.last_bytes (length y) → SurveyedBy ecc y n survey

-- there is a count for each layer that an error correction file has, and none is above n
abbrev pub CountedBy : Ecc → ℕ → Survey → Type 0
CountedBy ecc n survey = IsCounted (layers_of ecc.head.sectors ecc.head.parity) n survey.tally

-- no sector was looked at yet
pub record IsEmpty (layers : ℕ) (survey : Survey) : Type 0 where
  pub missing : survey.tally.missing.items ≡ []
  pub altered : survey.tally.altered.items ≡ []
  pub counts : survey.tally.counts.items ≡ replicate layers 0
  pub held : Holds survey.hasher []
  pub fingerprint : survey.fingerprint ≡ Absent
