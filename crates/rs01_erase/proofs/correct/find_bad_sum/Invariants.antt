use Rattle.std.proofs.Common.{◌≡◌, ℕ, ◌<◌, get_or}
use Rattle.rs01_sums.specs.Crc.{crc}
use Rattle.rs01_erase.specs.Restoring.{block_in}
use Rattle.rs01_erase.proofs.correct.find_bad_sum.Given as goal

-- the blocks so far have their checksums
abbrev pub invariant-loop-k : goal.invariant-loop-k
invariant-loop-k l = (j : ℕ) → j < l.k → crc (block_in l.restored j) ≡ get_or l.sums (get_or l.erased j 0) 0
