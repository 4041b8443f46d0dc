use Rattle.std.proofs.Common.{◌≡◌, ◌<◌, ◌≤◌, ℕ}
use Rattle.rs01_states.specs.Sparing.{spared_state, state_of}
use Rattle.rs01_states.proofs.settling.spare_all.Given as goal

abbrev pub invariant-loop-sector : goal.invariant-loop-sector
invariant-loop-sector l = record {
  done : (k : ℕ) → k < l.sector → state_of l.states k ≡ spared_state l.layers l.bound l.fn.states k;
  left : (k : ℕ) → l.sector ≤ k → state_of l.states k ≡ state_of l.fn.states k;
}
