use Rattle.std.proofs.Common.{◌≡◌, ◌<◌, ◌≤◌, ◌%◌, ◌+◌, ◌-◌, ℕ, length}
use Rattle.rs01_intervals.specs.Maximal.{flag_at}
use Rattle.rs01_reader.proofs.TakeLemmas.{without}
use Rattle.rs01_reader.proofs.sparing.take_layer.Given as goal

-- the walk stands at a sector of its layer, or less than a step behind the last sector
abbrev pub invariant-loop-sector : goal.invariant-loop-sector
invariant-loop-sector l = record {
  len : length l.unread ≡ length l.fn.unread;
  place : l.sector % l.layers ≡ l.layer;
  near : l.sector < l.sectors + l.layers;
  done : (k : ℕ) → k < l.sector → flag_at l.unread k ≡ without l.layers l.layer l.fn.unread k;
  left : (k : ℕ) → l.sector ≤ k → flag_at l.unread k ≡ flag_at l.fn.unread k;
}

abbrev pub decreases-loop-sector : goal.decreases-loop-sector
decreases-loop-sector l = l.sectors - l.sector
