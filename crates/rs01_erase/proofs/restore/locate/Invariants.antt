use Rattle.std.proofs.Common.{◌≡◌, ℕ, ◌<◌, get_or}
use Rattle.rs01_erase.specs.PowerSums.{locator}
use Rattle.rs01_erase.proofs.restore.locate.Given as goal

abbrev pub invariant-loop-k : goal.invariant-loop-k
invariant-loop-k l = (j : ℕ) → j < l.k → get_or l.locators j 0 ≡ locator (get_or l.erased j 0)
