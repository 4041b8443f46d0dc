use Rattle.std.proofs.Common.{◌+◌, ◌-◌, ◌∙◌, arith}
use Rattle.rs01_columns.proofs.Turned.{more_lanes, other_columns, room}
use Rattle.rs01_columns.proofs.laying.lay_sixteen.Goals as goal

pub lay_square-requires-clause-bytes : goal.lay_square-requires-clause-bytes
lay_square-requires-clause-bytes c =
    omega (arith, c.requires.parity.whole, room c.args.first c.loop-b.b c.args.r c.args.c c.requires.parity.within (omega arith) c.requires.c)

pub loop-b-preserved : goal.loop-b-preserved
loop-b-preserved c =
    let v = c.loop-b.invariant in
    let n = c.lay_square.ensures in
    record {
      long = c.lay_square.auto.bank ∙ v.long;
      wide = c.lay_square.auto.square ∙ v.wide;
      wide_too = c.lay_square.auto.spare ∙ v.wide_too;
      here = more_lanes c.loop-b.bank c.lay_square.new.bank c.args.parity.now c.args.first c.args.r c.args.c c.loop-b.b c.requires.parity.few c.requires.c (omega arith)
          v.here n.here n.rest;
      rest = other_columns c.args.bank.now c.loop-b.bank c.lay_square.new.bank (255 - c.args.r + c.args.c) c.loop-b.b (omega arith) v.rest n.rest;
    }
