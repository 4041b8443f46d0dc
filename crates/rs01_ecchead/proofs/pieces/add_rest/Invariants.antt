use Rattle.std.proofs.Common.{◌≡◌, ◌-◌, ◌≤◌, length, false}
use Rattle.rs01_outside.specs.DeskState.{OnlyReads}
use Rattle.rs01_ecchead.specs.Pieces.{InFileTo, IsFed}
use Rattle.rs01_lists.specs.Bytes.{part}
use Rattle.rs01_ecchead.proofs.pieces.add_rest.Given as goal

abbrev pub invariant-loop-at : goal.invariant-loop-at
invariant-loop-at g l = record {
  reads : OnlyReads (g.D.Desk.state l.initial.desk) (g.D.Desk.state l.desk) false;
  low : l.from ≤ l.at;
  high : l.at ≤ l.to;
  wide : length l.buffer.items ≡ 65536;
  fed : InFileTo (g.D.Desk.state l.initial.desk) l.name l.to
      (λ file. IsFed l.initial.hasher l.hasher (part file l.from (l.at - l.from)));
}

abbrev pub decreases-loop-at : goal.decreases-loop-at
decreases-loop-at g l = l.to - l.at
