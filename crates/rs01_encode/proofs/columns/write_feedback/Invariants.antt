use Rattle.std.proofs.Common.{◌≡◌, ℕ, ◌+◌, ◌<◌, get_or, bit_xor, length}
use Rattle.rs01_encode.proofs.columns.write_feedback.Given as goal

abbrev pub invariant-loop-l : goal.invariant-loop-l
invariant-loop-l l = record {
  long : length l.feedback ≡ length l.initial.feedback;
  done : (m : ℕ) → m < l.l → get_or l.feedback m 0 ≡ bit_xor (get_or l.blocks (l.at + m) 0) (get_or l.columns m 0);
}
