use Rattle.std.proofs.Common.{◌<◌, arith, ◌∙◌}
use Rattle.rs01_columns.proofs.Raising.{both_more, both_rest}
use Rattle.rs01_columns.proofs.adding.add_eight.Goals as goal

pub loop-i-preserved : goal.loop-i-preserved
loop-i-preserved c =
    let first = c.args.bank.now in
    let now = c.loop-i.bank in
    let next = c.eight_block.new.bank in
    let b = c.eight_block.ensures in
    let v = c.loop-i.invariant in
    let few : c.loop-i.i < 64 = omega arith in
    record {
      long = c.eight_block.auto.bank ∙ v.long;
      here = both_more c.args.tables first now next c.args.from c.moved.result c.args.into c.loop-i.i few
          c.requires.places c.moved.ensures v.here v.rest b.here b.rest;
      rest = both_rest first now next c.args.into c.loop-i.i few c.requires.places.room.order v.rest b.rest;
    }
