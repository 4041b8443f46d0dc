use Rattle.std.proofs.Common.{◌≡◌, ◌≤◌, ◌*◌, ◌^◌, ◌-◌, map, take, sum_by}
use Rattle.rs01_rack.proofs.rack.Rack.faults.Given as goal

abbrev pub invariant-loop-place : goal.invariant-loop-place
invariant-loop-place g l = record {
  summed : l.sum ≡ sum_by (λ drive. drive.faults) (map (λ b. (goal.Drive-dyn g (b.vtable, b.value)).state b.value) (take l.place l.self.drives.items));
  small : l.sum ≤ (2 ^ 64 - 1) * l.place;
}
