use Rattle.std.proofs.Common.{◌≡◌, List}
use Rattle.rs01_layers.specs.declared.input.LayerInput.{LayerInput}
use Rattle.rs01_layers.specs.declared.lists.Placed.{Placed}
use Rattle.rs01_layers.specs.declared.task.LayerOut.TheVariants.{Restored}
use Rattle.rs01_erase.specs.Correcting.{blocks_in, correct}
use Rattle.rs01_erase.proofs.LayerValueLemmas.{IsRestored, correct_of-restored, IsRestored-places, IsRestored-blocks, IsRestored-sums}
use Rattle.rs01_erase.proofs.laws_of_correcting.erased_places_are_restored.Goals as goal

restored_list : (input : LayerInput) (list : List Placed) → correct input ≡ Restored list
    → IsRestored (blocks_in input) input.erased input.sums input.parity input.parity_count list
unfolding correct
restored_list input list e = correct_of-restored (blocks_in input) input.erased input.sums input.parity input.parity_count list e

pub returns : goal.returns
returns c = λ list e.
    let done = restored_list c.args.input.now list e in
    record {
      places = IsRestored-places _ _ _ _ _ list done;
      blocks = IsRestored-blocks _ _ _ _ _ list done;
      sums = IsRestored-sums _ _ _ _ _ list done;
    }
