use Rattle.std.proofs.Common.{◌≡◌, ◌<◌, ◌≤◌, ◌%◌, ◌+◌, ◌-◌, ℕ, length}
use Rattle.rs01_states.specs.Sparing.{state_of}
use Rattle.rs01_states.specs.Tally.{spared_in_layer}
use Rattle.rs01_states.proofs.settling.spare_layer.Given as goal

-- the walk stands at a sector of its layer, or less than a step behind the last sector
abbrev pub invariant-loop-sector : goal.invariant-loop-sector
invariant-loop-sector l = record {
  place : l.sector % l.layers ≡ l.layer;
  near : l.sector < length l.fn.states + l.layers;
  done : (k : ℕ) → k < l.sector → state_of l.states k ≡ spared_in_layer l.layers l.layer l.fn.states k;
  left : (k : ℕ) → l.sector ≤ k → state_of l.states k ≡ state_of l.fn.states k;
}

abbrev pub decreases-loop-sector : goal.decreases-loop-sector
decreases-loop-sector l = length l.states - l.sector
