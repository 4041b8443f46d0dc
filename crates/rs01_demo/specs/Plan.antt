-- What a demonstration makes, damages and repairs.
use Rattle.std.specs.Prelude.{ℕ, ◌≤◌, ◌*◌, ◌==◌, ◌&&◌, Bool, false, List, ◌++◌, codes, length, drop, Some, Result}
use Rattle.std.specs.List.{flat_map, range_with_len}
use Rattle.std.specs.Str.{bytes_eq}
use Rattle.md5.specs.Md5.{md5}
use Rattle.rs01_sums.specs.Marker.{marker}
use Rattle.rs01_ecchead.specs.EccFile.{body, ecc_file}
use Rattle.rs01_fix.specs.Answer.{Repaired, fix_answer}
use Rattle.rs01_fix.specs.declared.refusal.FixRefusal.{FixRefusal}
use Rattle.rs01_report.specs.declared.reports.DemoReport.{DemoReport}
use Rattle.rs01_report.specs.declared.reports.FixReport.{FixReport}
use Rattle.rs01_demo.specs.Generator.{image}
use Rattle.rs01_demo.specs.declared.plan.Plan.{Plan}

-- the numbers that a demonstration can be asked for
pub record IsInRange (plan : Plan) : Type 0 where
  pub some_sectors : 1 ≤ plan.sectors
  pub few_sectors : plan.sectors ≤ 65536
  pub least_parity : 8 ≤ plan.parity
  pub most_parity : plan.parity ≤ 100
  pub lost_are_there : plan.lost ≤ plan.sectors

-- the two names
abbrev pub image_name : List ℕ
image_name = codes "demo.iso"

abbrev pub ecc_name : List ℕ
ecc_name = codes "demo.ecc"

abbrev pub plan_of : (number sectors parity lost : ℕ) → Plan
plan_of number sectors parity lost = record { number = number; sectors = sectors; parity = parity; lost = lost }

-- an image whose first sectors have been replaced by their markers
unfoldable pub marked : List ℕ → ℕ → List ℕ
marked bytes lost = flat_map marker (range_with_len 0 lost) ++ drop (2048 * lost) bytes

-- the image, its error correction file, and the image once its first sectors are marked as missing
abbrev pub original : Plan → List ℕ
original plan = image plan.number plan.sectors

abbrev pub protection : Plan → List ℕ
protection plan = ecc_file (original plan) plan.parity

abbrev pub damaged : Plan → List ℕ
damaged plan = marked (original plan) plan.lost

-- what repairing the damaged image by that file gives
abbrev pub outcome : Plan → Result Repaired FixRefusal
outcome plan = fix_answer (Some (protection plan)) (Some (damaged plan)) false

-- what is told of the repair
unfoldable pub report_of : Plan → Repaired → DemoReport
report_of plan repaired = record {
  number = plan.number;
  sectors = plan.sectors;
  parity = plan.parity;
  lost_asked = plan.lost;
  image_sum = md5 (original plan);
  body_sum = md5 (body (original plan) plan.parity);
  restored = length repaired.report.restored;
  lost = length repaired.report.lost;
  original = bytes_eq repaired.file (original plan);
}

-- whether no sector is lost and no layer is strange
abbrev pub is_whole : FixReport → Bool
is_whole report = (length report.lost == 0) && (length report.strange == 0)
