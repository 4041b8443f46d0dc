use Rattle.std.proofs.Common.{arith}
use Rattle.rs01_erase.proofs.Completing.{places_below}
use Rattle.rs01_erase.proofs.by_columns.fill_and_test.Goals as goal

pub fill_places-requires-clause-below : goal.fill_places-requires-clause-below
fill_places-requires-clause-below c = places_below c.args.input.now c.args.erased.now _ c.requires.erased (omega (arith, c.requires.count))
