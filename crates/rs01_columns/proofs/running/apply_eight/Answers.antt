use Rattle.std.proofs.Common.{◌*◌, refl}
use Rattle.rs01_columns.specs.Bank.{lane}
use Rattle.rs01_columns.proofs.EightSteps.{eight_lane}
use Rattle.rs01_columns.proofs.ColumnsKept.{kept_twice, raised_lane}
use Rattle.rs01_columns.proofs.running.apply_eight.Goals as goal

pub returns : goal.returns
returns c = λ l h j.
    let old = c.args.bank.now in
    let new = c.add_eight.new.bank in
    let done = c.add_eight.ensures in
    let low = c.tables_of.result in
    let high = c.tables_of-2.result in
    let r = c.requires in
    let at = c.places_of.result in
    let first = c.args.steps.one.into in
    let second = c.args.others.one.into in
    eight_lane c.args.steps c.args.others low high c.args.columns (lane old l) (lane new l) j
    r.paired.first r.paired.second r.paired.alike r.within r.others_within c.tables_of.ensures c.tables_of-2.ensures
    (raised_lane old new low at c.args.steps first l j h c.places_of.ensures done.here.first)
    (raised_lane old new high at c.args.steps second l j h c.places_of.ensures done.here.second)
    (kept_twice old new (record { first = 1088 * first; second = 1088 * second }) first second l j refl refl h r.paired.alike.behind done.rest)
