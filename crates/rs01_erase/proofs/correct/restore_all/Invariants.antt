use Rattle.std.proofs.Common.{◌≡◌, ℕ, ◌<◌, length}
use Rattle.rs01_erase.specs.Restoring.{HoldsCodeword}
use Rattle.rs01_erase.proofs.correct.restore_all.Given as goal

-- the codewords so far are completed, and their bytes stored
abbrev pub invariant-loop-codeword : goal.invariant-loop-codeword
invariant-loop-codeword l = record {
  room : length l.restored ≡ length l.initial.restored;
  held : (b : ℕ) → b < l.codeword → HoldsCodeword l.input l.erased l.restored b;
}
