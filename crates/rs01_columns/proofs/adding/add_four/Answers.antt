use Rattle.std.proofs.Common.{◌+◌, ◌<◌, arith, ◌∙◌}
use Rattle.rs01_columns.proofs.Raising.{more, all_kept}
use Rattle.rs01_columns.proofs.adding.add_four.Goals as goal

pub loop-i-preserved : goal.loop-i-preserved
loop-i-preserved c =
    let b = c.four_block.ensures in
    let v = c.loop-i.invariant in
    let few : c.loop-i.i < 64 = omega arith in
    record {
      long = c.four_block.auto.bank ∙ v.long;
      done = more c.args.tables c.args.bank.now c.loop-i.bank c.four_block.new.bank c.args.from c.moved.result c.args.into c.loop-i.i few
          c.moved.ensures v.done (λ k g h. v.rest.after (c.args.into + k) (omega arith))
          (all_kept c.args.bank.now c.loop-i.bank c.args.into c.loop-i.i c.args.from few c.requires.places.apart v.rest.before v.rest.after)
          b.here (λ k h. b.rest.before (c.args.into + k) (omega arith));
      rest = record {
        before = λ k h. b.rest.before k (omega arith) ∙ v.rest.before k h;
        after = λ k h. b.rest.after k (omega arith) ∙ v.rest.after k (omega arith);
      };
    }
