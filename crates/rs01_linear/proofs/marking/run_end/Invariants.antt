use Rattle.std.proofs.Common.{◌≡◌, ℕ, ◌<◌, ◌≤◌, true, Some}
use Rattle.std.specs.Prelude.{slice_get}
use Rattle.std.specs.Option.{option_map}
use Rattle.rs01_linear.specs.Marking.{is_left_out}
use Rattle.rs01_linear.proofs.marking.run_end.Given as goal

abbrev pub invariant-loop-sector : goal.invariant-loop-sector
invariant-loop-sector l = (k : ℕ) → l.first ≤ k → k < l.sector → option_map is_left_out (slice_get l.fates k) ≡ Some true
