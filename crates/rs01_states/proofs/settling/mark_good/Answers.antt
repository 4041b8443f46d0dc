use Rattle.std.proofs.Common.{arith}
use Rattle.rs01_states.proofs.TallyLemmas.{marked-beyond, marked-within}
use Rattle.rs01_states.proofs.settling.mark_good.Goals as goal

pub returns-then-counts-layer : goal.returns-then-counts-layer
returns-then-counts-layer c =
    marked-beyond c.args.layers c.args.bound c.args.sector c.args.states.now c.args.counts.now c.requires.tally c.requires.unread (omega (arith, c.if-counts-layer.true))

pub returns : goal.returns
returns c =
    marked-within c.args.layers c.args.bound c.args.sector c.args.states.now c.spare_layer.new.states c.args.counts.now c.requires.tally c.requires.unread (omega (arith, c.if-counts-layer.false)) (omega arith) c.spare_layer.ensures
