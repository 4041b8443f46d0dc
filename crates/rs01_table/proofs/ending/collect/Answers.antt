use Rattle.std.proofs.Common.{arith, rules, sym, ap, ◌∙◌, List, Some, subst, ◌+◌}
use mathlib.Core.Option.{some, some-injective}
use lib.ListN.{get_elem?}
use Rattle.std.specs.Slots.{slots_items}
use Rattle.rs01_table.specs.declared.given.Given.{Given}
use Rattle.rs01_table.specs.Views.{Slot}
use Rattle.rs01_table.specs.Ending.{AreCollected}
use Rattle.rs01_table.proofs.EndingLemmas.{collected_more}
use Rattle.rs01_table.proofs.ending.collect.Goals as goal

pub unreachable-requires : goal.unreachable-requires
unreachable-requires c =
    let z = c.requires.laid c.loop-i.i c.loop-i-test.true in
    c.in_default.not-Some z.0 (some-injective c.take.result (Some z.0) (sym c.take.ensures.value ∙ ap (λ (l : List Slot). get_elem? l c.loop-i.i) c.loop-i.invariant.4 ∙ z.1))

pub loop-i-preserved : goal.loop-i-preserved
loop-i-preserved c = (
  search rules,
  search rules,
  omega arith,
  search rules,
  search rules,
  search rules,
  subst (λ (l : List Given). AreCollected (c.loop-i.i + 1) (slots_items c.args.closed.slots) l) (sym c.in_default-push.ensures.items)
      (collected_more c.loop-i.i (slots_items c.args.closed.slots) c.loop-i.results.items c.in-Some.given c.loop-i.invariant.5 c.loop-i.invariant.6
      (ap (λ (l : List Slot). get_elem? l c.loop-i.i) (sym c.loop-i.invariant.4) ∙ c.take.ensures.value ∙ ap some c.in-Some.is)),
)
