use Rattle.std.proofs.Common.{◌≡◌, ◌≢◌, ℕ, ◌+◌, ◌*◌, ◌<◌, get_or}
use Rattle.rs01_erase.proofs.correct.store.Given as goal

-- the bytes of the places so far are stored, and all other bytes are as before
abbrev pub invariant-loop-k : goal.invariant-loop-k
invariant-loop-k l = record {
  here : (j : ℕ) → j < l.k → get_or l.restored (2048 * j + l.codeword) 0 ≡ get_or l.word (get_or l.erased j 0) 0;
  others : (j b : ℕ) → b < 2048 → b ≢ l.codeword → get_or l.restored (2048 * j + b) 0 ≡ get_or l.initial.restored (2048 * j + b) 0;
}
