use Rattle.std.proofs.Common.{◌≡◌, ◌<◌, ◌≤◌, ℕ, length}
use Rattle.rs01_intervals.specs.Maximal.{flag_at}
use Rattle.rs01_states.specs.Sparing.{is_unread, state_of}
use Rattle.rs01_reader.proofs.sparing.take_found.Given as goal

abbrev pub invariant-loop-sector : goal.invariant-loop-sector
invariant-loop-sector l = record {
  len : length l.unread ≡ length l.fn.unread;
  done : (k : ℕ) → k < l.sector → flag_at l.unread k ≡ is_unread (state_of l.states.states k);
  left : (k : ℕ) → l.sector ≤ k → flag_at l.unread k ≡ flag_at l.fn.unread k;
}
