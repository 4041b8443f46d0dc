use Rattle.std.proofs.Common.{◌≡◌, ℕ, List, ap, ◌∙◌}
use Rattle.rs01_layers.specs.declared.input.LayerInput.{LayerInput}
use Rattle.rs01_layers.specs.declared.task.LayerOut.TheVariants.{Parity}
use Rattle.rs01_encode.specs.Task.{encoded, layer_parity}
use Rattle.rs01_encode.proofs.task.work_by_columns.Goals as goal

whole : (input : LayerInput) (r : ℕ) (items bytes : List ℕ) → items ≡ input.data_ → r ≡ input.parity_count
    → bytes ≡ layer_parity r items → Parity bytes ≡ encoded input
unfolding encoded
whole input r items bytes same count made = ap Parity (made ∙ (λ i. layer_parity (count i) (same i)))

pub returns : goal.returns
returns c =
    whole c.args.input.now c.args.encoder.now _ _ c.items.ensures c.requires (c.of.ensures ∙ c.in_ok-parity.ensures)
