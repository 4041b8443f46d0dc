use Rattle.std.proofs.Common.{◌∙◌, arith}
use Rattle.rs01_columns.proofs.Grouped.{take_more_columns}
use Rattle.rs01_columns.proofs.group.take.Goals as goal

pub loop-i-preserved : goal.loop-i-preserved
loop-i-preserved c = record {
  long = c.store.auto.bytes ∙ c.loop-i.invariant.long;
  taken = take_more_columns c.args.columns.now c.args.bank.now c.loop-i.room c.store.new.bytes c.args.on c.loop-i.i (omega arith)
      (λ k h. c.store.ensures.here k h ∙ c.load.ensures.each k h) c.store.ensures.rest c.loop-i.invariant.taken;
}
