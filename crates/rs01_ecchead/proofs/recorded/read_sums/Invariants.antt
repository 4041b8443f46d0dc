use Rattle.std.proofs.Common.{◌≡◌, ◌-◌, ◌/◌, ◌%◌, ◌≤◌, length, false}
use Rattle.rs01_outside.specs.DeskState.{OnlyReads}
use Rattle.rs01_lists.specs.Bytes.{part}
use Rattle.rs01_ecchead.specs.Pieces.{InFileTo, IsFed}
use Rattle.rs01_ecchead.specs.Recorded.{sums_in}
use Rattle.rs01_ecchead.proofs.recorded.read_sums.Given as goal

abbrev pub invariant-loop-at : goal.invariant-loop-at
invariant-loop-at g l = record {
  reads : OnlyReads (g.D.Desk.state l.initial.desk) (g.D.Desk.state l.desk) false;
  low : 4096 ≤ l.at;
  high : l.at ≤ l.to;
  fours : (l.at - 4096) % 4 ≡ 0;
  counted : length l.sums.list ≡ (l.at - 4096) / 4;
  room : l.sums.room ≡ l.count;
  wide : length l.buffer.items ≡ 65536;
  fed : InFileTo (g.D.Desk.state l.initial.desk) l.name l.to
      (λ file. IsFed l.initial.hasher l.hasher (part file 4096 (l.at - 4096)));
  list : InFileTo (g.D.Desk.state l.initial.desk) l.name l.to
      (λ file. l.sums.list ≡ sums_in file ((l.at - 4096) / 4));
}

abbrev pub decreases-loop-at : goal.decreases-loop-at
decreases-loop-at g l = l.to - l.at
