use Rattle.std.proofs.Common.{ap, refl, subst, ℕ}
use Rattle.rs01_ecchead.specs.Shown.{shown_in}
use Rattle.rs01_outside.specs.Files.{bytes_of}
use Rattle.rs01_create.specs.Surveyed.{Surveyed}
use Rattle.rs01_create.proofs.Surveys.{surveyed_none}
use Rattle.rs01_create.proofs.survey.survey_image.Goals as goal

pub returns-clause-seen : goal.returns-clause-seen
returns-clause-seen g c = λ t size of.
    let extent = c.args.extent in
    let file = bytes_of (g.D.Desk.state c.args.desk.now).files c.args.name.now in
    let kept = c.walk_image.new.kept in
    subst (λ (n : ℕ). Surveyed file n kept.seen) (c.in_ok-walk_image.ensures.fits.all refl)
    (c.in_ok-walk_image.ensures.keeps t
    (λ y of same. record { seen = surveyed_none y _ c.in_ok-with_capacity.ensures.items c.new.ensures refl; blocks = c.in_ok-with_capacity-2.ensures.items })
    file of (ap (shown_in file extent.sectors extent.last_bytes) size)).seen
