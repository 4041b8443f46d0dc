use Rattle.std.proofs.Common.{◌≡◌, ℕ, ◌+◌, ◌*◌, ◌<◌, List, length, get_or, arith, ◌∙◌, sym}
use Rattle.std.proofs.lemmas.List.{ext_get_or}
use Rattle.rs01_layers.specs.Layer.{column}
use Rattle.rs01_layers.specs.Blocks.{blocks_of}
use Rattle.rs01_layers.proofs.BlockLemmas.{length-column, length-blocks_of, get_or-column-blocks_of}
use Rattle.rs01_layers.proofs.blocks.column_of_blocks_into.Goals as goal

-- a list with the byte of each block is the codeword's data
column_is : (blocks into : List ℕ) (n b : ℕ) → b < 2048 → length into ≡ n
    → ((k : ℕ) → k < length into → get_or into k 0 ≡ get_or blocks (2048 * k + b) 0)
    → into ≡ column (blocks_of n blocks) b
column_is blocks into n b below room bytes =
    ext_get_or 0 into (column (blocks_of n blocks) b)
    (room ∙ sym (length-column (blocks_of n blocks) b ∙ length-blocks_of n blocks))
    (λ k h. bytes k h ∙ sym (get_or-column-blocks_of n blocks b k below (omega arith)))

pub returns : goal.returns
returns c =
    column_is c.args.blocks.now c.loop-place.into _ c.args.codeword c.requires.codeword (omega arith) (λ k h. c.loop-place.invariant k (omega arith))
