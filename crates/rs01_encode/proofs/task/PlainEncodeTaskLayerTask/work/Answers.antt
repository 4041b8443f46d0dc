use Rattle.std.proofs.Common.{◌≡◌, List, ℕ, ap, ◌∙◌}
use Rattle.rs01_layers.specs.declared.input.LayerInput.{LayerInput}
use Rattle.rs01_layers.specs.declared.task.LayerOut.TheVariants.{Parity}
use Rattle.rs01_encode.specs.Task.{encoded, layer_parity}
use Rattle.rs01_encode.proofs.task.PlainEncodeTaskLayerTask.work.Goals as goal

whole : (input : LayerInput) (bytes : List ℕ) → bytes ≡ layer_parity input.parity_count input.data_ → Parity bytes ≡ encoded input
unfolding encoded
whole input bytes made = ap Parity made

pub returns : goal.returns
returns c = whole c.args.input.now _ (c.of.ensures ∙ c.in_ok-bytes.ensures)
