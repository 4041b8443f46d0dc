use Rattle.rs01_columns.specs.Bank.{lane}
use Rattle.rs01_columns.proofs.EightSteps.{four_lane}
use Rattle.rs01_columns.proofs.ColumnsKept.{kept, raised_lane}
use Rattle.rs01_columns.proofs.running.apply_four.Goals as goal

pub returns : goal.returns
returns c = λ l h j.
    let old = c.args.bank.now in
    let new = c.add_four.new.bank in
    let tables = c.tables_of.result in
    let into = c.args.steps.one.into in
    four_lane c.args.steps tables c.args.columns (lane old l) (lane new l) j c.requires.together c.requires.within c.tables_of.ensures
    (raised_lane old new tables c.places_of.result c.args.steps into l j h c.places_of.ensures c.add_four.ensures.here)
    (kept old new into l j h c.add_four.ensures.rest)
