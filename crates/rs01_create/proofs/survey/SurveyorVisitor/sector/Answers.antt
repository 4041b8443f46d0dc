use Rattle.std.proofs.Common.{refl}
use Rattle.rs01_create.specs.declared.found.Gathered.{Gathered}
use Rattle.rs01_create.proofs.Gathering.{gathered_more}
use Rattle.rs01_create.proofs.survey.SurveyorVisitor.sector.Goals as goal

pub returns-in_ok-take_gathered-clause-keeps : goal.returns-in_ok-take_gathered-clause-keeps
returns-in_ok-take_gathered-clause-keeps g c = λ image shown before y of same.
    let now : Gathered = record c.args.kept.now { blocks = c.gather.new.blocks } in
    c.in_ok-take_gathered.ensures.sees y of
    (gathered_more y c.args.self.now.extent image c.args.sector c.args._len c.args._there c.args.block.now c.args.kept.now now of c.requires.below same shown
    c.requires.fits.gathers.from refl refl c.in_ok-gather.ensures (before y of same))

pub returns-else-past-sectors-clause-keeps : goal.returns-else-past-sectors-clause-keeps
returns-else-past-sectors-clause-keeps g c = λ image shown before y of same.
    gathered_more y c.args.self.now.extent image c.args.sector c.args._len c.args._there c.args.block.now c.args.kept.now _ of c.requires.below same shown
    c.requires.fits.gathers.from refl refl c.in_ok-gather.ensures (before y of same)
