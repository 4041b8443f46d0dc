use Rattle.std.proofs.Common.{length}
use Rattle.rs01_erase.proofs.power_sums.+solve.Given as goal

abbrev pub decreases-solve : goal.decreases-solve
decreases-solve l = length l.locators.now
