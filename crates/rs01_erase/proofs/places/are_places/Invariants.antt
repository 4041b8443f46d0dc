use Rattle.std.proofs.Common.{ℕ, ◌+◌, ◌<◌, get_or}
use Rattle.rs01_erase.proofs.places.are_places.Given as goal

-- the places seen so far are below 255, and rise
abbrev pub invariant-loop-k : goal.invariant-loop-k
invariant-loop-k l = record {
  below : (j : ℕ) → j < l.k → get_or l.erased j 0 < 255;
  rising : (j : ℕ) → j + 1 < l.k → get_or l.erased j 0 < get_or l.erased (j + 1) 0;
}
