use Rattle.std.proofs.Common.{◌≤◌}
use Rattle.rs01_erase_tests.proofs.tests.random_places.Given as goal

abbrev pub invariant-loop-place : goal.invariant-loop-place
invariant-loop-place l = l.count ≤ l.most
