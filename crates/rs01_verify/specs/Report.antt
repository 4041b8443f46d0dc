-- What is told of an image file y, by what its error correction file says.
use Rattle.std.specs.Prelude.{ℕ, ◌-◌, ◌&&◌, not, nat_lt, if◌then◌else◌, List, length, take}
use Rattle.std.specs.Str.{bytes_eq}
use Rattle.md5.specs.Md5.{md5}
use Rattle.rs01_layers.specs.Layout.{layers_of}
use Rattle.rs01_ecchead.specs.Opened.{Opened}
use Rattle.rs01_ecchead.specs.Erased.{altered_sectors, block_in, counts_of, image_len, is_absent, is_erased, known_by, missing_sectors}
use Rattle.rs01_report.specs.declared.reports.Mark.{Mark}
use Rattle.rs01_report.specs.declared.reports.Mark.TheVariants.{Absent, Differs, Matches}
use Rattle.rs01_report.specs.declared.reports.VerifyReport.{VerifyReport}
use Rattle.rs01_verify.specs.Fullness.{fullest_of}

-- whether bytes have the recorded digest
abbrev pub mark_of : List ℕ → List ℕ → Mark
mark_of bytes recorded = if bytes_eq (md5 bytes) recorded then Matches else Differs

-- the block of the fingerprint sector, where the image has that sector and it isn't absent
unfoldable pub fingerprint_mark : Opened → List ℕ → Mark
fingerprint_mark c y =
    if nat_lt c.fields.mark_sector c.fields.sectors && not (is_absent (known_by c) y c.fields.mark_sector)
    then mark_of (block_in (known_by c) y c.fields.mark_sector) c.fields.fingerprint
    else Absent

-- the bytes of the image, without those past it, where the file isn't shorter
unfoldable pub image_mark : Opened → List ℕ → Mark
image_mark c y =
    if nat_lt (length y) (image_len (known_by c)) then Absent
    else mark_of (take (image_len (known_by c)) y) c.fields.image_sum

unfoldable pub report_of : Opened → List ℕ → VerifyReport
report_of c y = record {
  sectors = c.fields.sectors;
  layers = layers_of c.fields.sectors c.fields.parity;
  parity = c.fields.parity;
  missing = missing_sectors (known_by c) y;
  altered = altered_sectors (known_by c) y;
  fullest = fullest_of (counts_of c.fields.sectors c.fields.parity (is_erased (known_by c) y)) c.fields.parity;
  surplus = length y - image_len (known_by c);
  fingerprint = fingerprint_mark c y;
  image = image_mark c y;
}
