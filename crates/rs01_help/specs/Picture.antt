-- Of which reports a picture is drawn.
use Rattle.std.specs.Prelude.{ℕ, ◌||◌, Bool, List, codes}
use Rattle.rs01_help.specs.Reading.{begins}

-- whether a report has lists of sectors by the whole image: those of `verify`, `scan` and `read` have, which begin so
unfoldable pub has_lists : List ℕ → Bool
has_lists report = begins report (codes "checked ") || begins report (codes "scanned ") || begins report (codes "read ")
