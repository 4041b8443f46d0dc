-- The bytes of each report, line by line.
use Rattle.std.specs.Prelude.{ℕ, List, [], ◌∷◌, ◌++◌, codes, Option, Some, None}
use Rattle.std.specs.Fmt.{decimal}
use Rattle.rs01_report.specs.Lines.{count_line, digest_line, fullness_lines, last_sector_line, left_line, list_line, mark_line, original_line, outcome_lines, scanned_line, shape_line, surplus_line, text_line}
use Rattle.rs01_report.specs.declared.reports.CreateReport.{CreateReport}
use Rattle.rs01_report.specs.declared.reports.DemoReport.{DemoReport}
use Rattle.rs01_report.specs.declared.reports.FixReport.{FixReport}
use Rattle.rs01_report.specs.declared.reports.Fullest.{Fullest}
use Rattle.rs01_report.specs.declared.reports.ReadReport.{ReadReport}
use Rattle.rs01_report.specs.declared.reports.ScanReport.{ScanReport}
use Rattle.rs01_report.specs.declared.reports.VerifyReport.{VerifyReport}

-- the report of a file that was made under a name
unfoldable pub create_lines : CreateReport → List ℕ → List ℕ
create_lines report name =
    text_line (codes "created ") name ++ (shape_line report.sectors report.layers report.parity
    ++ (last_sector_line report.last_bytes ++ digest_line (codes "image md5 ") report.image_sum))

-- the report of an image file that was repaired under a name
unfoldable pub fix_lines : FixReport → List ℕ → List ℕ
fix_lines report name =
    text_line (codes "fixed ") name ++ (outcome_lines report.restored report.lost report.strange
    ++ left_line report.surplus report.cut)

-- the sectors of the image, and those that are missing or altered
unfoldable pub found_lines : VerifyReport → List ℕ
found_lines report =
    shape_line report.sectors report.layers report.parity
    ++ (list_line (codes "missing ") report.missing ++ list_line (codes "altered ") report.altered)

-- the surplus, and how the two digests compare
unfoldable pub compared_lines : VerifyReport → List ℕ
compared_lines report =
    surplus_line report.surplus ++ (mark_line (codes "fingerprint ") report.fingerprint (codes "absent")
    ++ mark_line (codes "image md5 ") report.image (codes "short"))

-- the report of an image file that was checked under a name
unfoldable pub verify_lines : VerifyReport → List ℕ → List ℕ
verify_lines report name =
    text_line (codes "checked ") name ++ (found_lines report ++ (fullness_lines report.fullest ++ compared_lines report))

-- how full the layers are, where there is an error correction file
unfoldable pub known_fullness : Option Fullest → List ℕ
known_fullness None = []
known_fullness (Some fullest) = fullness_lines fullest

-- the report of a disc that was looked through
unfoldable pub scan_lines : ScanReport → List ℕ
scan_lines report =
    scanned_line report.sectors ++ (list_line (codes "unreadable ") report.unreadable
    ++ (list_line (codes "altered ") report.altered ++ known_fullness report.fullest))

-- the sectors of the disc, the asks, and the sectors that were good before and that became good
unfoldable pub reading_lines : ReadReport → List ℕ
reading_lines report =
    count_line (codes "sectors ") report.sectors ++ (count_line (codes "asked ") report.asked
    ++ (count_line (codes "kept ") report.kept ++ count_line (codes "read ") report.read))

-- the sectors that weren't had from the drives, by the reason
unfoldable pub unread_lines : ReadReport → List ℕ
unread_lines report =
    list_line (codes "unreadable ") report.unreadable ++ (list_line (codes "altered ") report.altered
    ++ list_line (codes "not asked ") report.not_asked)

-- the report of a disc that was read into an image file under a name
unfoldable pub read_lines : ReadReport → List ℕ → List ℕ
read_lines report name =
    text_line (codes "read ") name ++ (reading_lines report ++ (unread_lines report
    ++ (outcome_lines report.restored report.lost report.strange ++ surplus_line report.surplus)))

-- the numbers of the words
unfoldable pub demo_line : DemoReport → List ℕ
demo_line report =
    codes "demo " ++ (decimal report.number ++ (codes " " ++ (decimal report.sectors
    ++ (codes " " ++ (decimal report.parity ++ (codes " " ++ (decimal report.lost_asked ++ 10 ∷ [])))))))

-- the numbers of restored and of lost sectors, and whether the image is the original
unfoldable pub repaired_lines : DemoReport → List ℕ
repaired_lines report =
    count_line (codes "restored ") report.restored ++ (count_line (codes "lost ") report.lost ++ original_line report.original)

-- the report of a demonstration
unfoldable pub demo_lines : DemoReport → List ℕ
demo_lines report =
    demo_line report ++ (digest_line (codes "image md5 ") report.image_sum
    ++ (digest_line (codes "body md5 ") report.body_sum ++ repaired_lines report))
