use Rattle.std.proofs.Common.{◌∙◌, arith}
use Rattle.rs01_columns.proofs.Grouped.{put_more, put_rest}
use Rattle.rs01_columns.proofs.group.put.Goals as goal

pub loop-i-preserved : goal.loop-i-preserved
loop-i-preserved c =
    let first = c.args.bank.now in
    record {
      long = c.store.auto.bytes ∙ c.loop-i.invariant.long;
      here = put_more c.args.columns.now first c.loop-i.bank c.store.new.bytes c.args.room.now c.args.on c.loop-i.i c.requires.columns (omega arith) c.requires.on
          (λ k h. c.store.ensures.here k h ∙ c.load.ensures.each k h) c.store.ensures.rest c.loop-i.invariant.here;
      rest = put_rest c.args.columns.now first c.loop-i.bank c.store.new.bytes c.args.on c.loop-i.i (omega arith) c.requires.on c.store.ensures.rest c.loop-i.invariant.rest;
    }
