use Rattle.std.proofs.Common.{◌≡◌, ◌-◌, length, sym, ap, ◌∙◌}
use Rattle.rs01_layers.specs.declared.input.LayerInput.{LayerInput}
use Rattle.rs01_layers.proofs.BlockLemmas.{length-blocks_of}
use Rattle.rs01_erase.specs.LayerValue.{correct_of}
use Rattle.rs01_erase.specs.Correcting.{SameForCorrecting, blocks_in, correct}
use Rattle.rs01_erase.proofs.LayerValueLemmas.{correct_of-same}
use Rattle.rs01_erase.proofs.laws_of_correcting.lost_blocks_say_nothing.Goals as goal

same_answer : (one other : LayerInput) → SameForCorrecting one other → correct one ≡ correct other
unfolding correct
same_answer one other same =
    let count : length (blocks_in one) ≡ 255 - one.parity_count = length-blocks_of (255 - one.parity_count) one.data_ in
    let other_count : length (blocks_in other) ≡ 255 - other.parity_count = length-blocks_of (255 - other.parity_count) other.data_ in
    correct_of-same (blocks_in one) (blocks_in other) one.erased one.sums other.sums one.parity one.parity_count
    (count ∙ ap (λ r. 255 - r) same.parity_count ∙ sym other_count) (one.erased_len ∙ sym count) same.blocks same.sums
    ∙ (λ i. correct_of (blocks_in other) (same.erased i) other.sums (same.parity i) (same.parity_count i))

pub returns : goal.returns
returns c = same_answer c.args.one.now c.args.other.now
