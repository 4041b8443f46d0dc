use Rattle.std.proofs.Common.{◌≡◌, ◌-◌, ◌≤◌, length}
use Rattle.rs01_demo.proofs.StepLemmas.{IsComparing}
use Rattle.rs01_demo.proofs.comparing.has_bytes.Given as goal

abbrev pub invariant-loop-first : goal.invariant-loop-first
invariant-loop-first g l = record {
  inside : l.first ≤ l.sectors;
  room : length l.made ≡ 131072;
  room_too : length l.found ≡ 131072;
  same : IsComparing l.number l.sectors l.name l.first l.value (g.D.Desk.state l.initial.desk) (g.D.Desk.state l.desk);
}

abbrev pub decreases-loop-first : goal.decreases-loop-first
decreases-loop-first g l = l.sectors - l.first
