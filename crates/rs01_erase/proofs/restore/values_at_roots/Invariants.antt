use Rattle.std.proofs.Common.{◌≡◌, ℕ, ◌<◌, get_or}
use Rattle.rs01_poly.specs.Polynomial.{value_at}
use Rattle.rs01_poly.specs.Code.{root}
use Rattle.rs01_erase.proofs.restore.values_at_roots.Given as goal

abbrev pub invariant-loop-j : goal.invariant-loop-j
invariant-loop-j l = (i : ℕ) → i < l.j → get_or l.values i 0 ≡ value_at l.word (root i)
