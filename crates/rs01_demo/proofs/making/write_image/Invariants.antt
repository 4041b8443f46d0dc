use Rattle.std.proofs.Common.{◌≡◌, ◌-◌, ◌≤◌, length}
use Rattle.rs01_demo.proofs.StepLemmas.{IsMaking}
use Rattle.rs01_demo.proofs.making.write_image.Given as goal

abbrev pub invariant-loop-first : goal.invariant-loop-first
invariant-loop-first g l = record {
  inside : l.first ≤ l.sectors;
  room : length l.buffer ≡ 131072;
  made : IsMaking l.number l.sectors l.name l.first l.value (g.D.Desk.state l.initial.desk) (g.D.Desk.state l.desk);
}

abbrev pub decreases-loop-first : goal.decreases-loop-first
decreases-loop-first g l = l.sectors - l.first
