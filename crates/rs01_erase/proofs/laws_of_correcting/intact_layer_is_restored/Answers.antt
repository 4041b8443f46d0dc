use Rattle.std.proofs.Common.{◌≡◌, ℕ, ◌≤◌, List, [], length, get_or, arith}
use Rattle.rs01_layers.specs.declared.input.LayerInput.{LayerInput}
use Rattle.rs01_layers.specs.declared.task.LayerOut.TheVariants.{Restored}
use Rattle.rs01_erase.specs.LayerValue.{erased_places, placed}
use Rattle.rs01_erase.specs.Correcting.{IsIntact, blocks_in, correct}
use Rattle.rs01_erase.proofs.LayerValueLemmas.{intact_layer_is_restored}
use Rattle.rs01_erase.proofs.laws_of_correcting.intact_layer_is_restored.Goals as goal

restored : (input : LayerInput) (original : List (List ℕ)) → IsIntact original (blocks_in input) input.erased input.sums input.parity input.parity_count
    → length (erased_places input.erased) ≤ input.parity_count
    → correct input ≡ Restored (placed (λ p. get_or original p []) (erased_places input.erased))
unfolding correct
restored input original intact few =
    intact_layer_is_restored original (blocks_in input) input.erased input.sums input.parity input.parity_count intact (omega (arith, input.most)) few

pub returns : goal.returns
returns c = restored c.args.input.now
