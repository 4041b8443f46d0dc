-- What encoding gives of a layer.
use Rattle.std.specs.Prelude.{ℕ, ◌-◌, List}
use Rattle.std.specs.List.{flat_map, range_with_len}
use Rattle.rs01_poly.specs.Code.{encode}
use Rattle.rs01_layers.specs.Layer.{column}
use Rattle.rs01_layers.specs.Blocks.{blocks_of}
use Rattle.rs01_layers.specs.declared.input.LayerInput.{LayerInput}
use Rattle.rs01_layers.specs.declared.task.LayerOut.{LayerOut}
use Rattle.rs01_layers.specs.declared.task.LayerOut.TheVariants.{Parity}

-- the parity of the first n codewords whose data lie in these blocks, by rising codeword
unfoldable pub parity_of : ℕ → List (List ℕ) → List ℕ
parity_of n blocks = flat_map (λ b. encode (column blocks b)) (range_with_len 0 n)

-- that of all 2048 codewords, of which r bytes are parity, and whose blocks stand one after the other
abbrev pub layer_parity : ℕ → List ℕ → List ℕ
layer_parity r blocks = parity_of 2048 (blocks_of (255 - r) blocks)

-- that of a layer
unfoldable pub encoded : LayerInput → LayerOut
encoded input = Parity (layer_parity input.parity_count input.data_)
