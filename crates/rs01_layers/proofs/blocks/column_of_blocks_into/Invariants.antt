use Rattle.std.proofs.Common.{◌≡◌, ℕ, ◌+◌, ◌*◌, ◌<◌, get_or}
use Rattle.rs01_layers.proofs.blocks.column_of_blocks_into.Given as goal

-- the places so far have their bytes of the blocks
abbrev pub invariant-loop-place : goal.invariant-loop-place
invariant-loop-place l = (k : ℕ) → k < l.place → get_or l.into k 0 ≡ get_or l.blocks (2048 * k + l.codeword) 0
