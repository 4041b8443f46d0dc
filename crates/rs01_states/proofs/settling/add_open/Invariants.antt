use Rattle.std.proofs.Common.{◌≡◌, ◌<◌, ℕ, length, slice_index}
use Rattle.std.specs.List.{range_with_len, count_by}
use Rattle.rs01_states.specs.Sparing.{lacks}
use Rattle.rs01_states.proofs.settling.add_open.Given as goal

-- each layer's count is right for the sectors that were looked at
abbrev pub invariant-loop-sector : goal.invariant-loop-sector
invariant-loop-sector l = record {
  len : length l.counts ≡ l.layers;
  right : (k : ℕ) → k < l.layers → slice_index l.counts k ≡ count_by (lacks l.layers k l.states) (range_with_len 0 l.sector);
}
