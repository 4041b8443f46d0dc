-- The blocks of the file that is left.
use Rattle.std.proofs.Common.{◌≡◌, ℕ, ◌<◌, ◌≤◌, ⊎_elim, List, length, get_or, refl, ap, subst, ◌∙◌, Bool, true, false, cond}
use Rattle.std.specs.Prelude.{◌&&◌, IfSome, Option, Some, None}
use Rattle.std.specs.Option.{unwrap_or}
use Rattle.std.proofs.lemmas.Bool.{cases_Bool}
use Rattle.std.proofs.lemmas.Option.{cond_some, option_and_then_some}
use Rattle.rs01_layers.specs.Layout.{layer_of, place_of}
use Rattle.rs01_layers.specs.declared.task.LayerOut.{LayerOut}
use Rattle.rs01_sums.specs.Marker.{marker}
use Rattle.rs01_sums.proofs.MarkerLemmas.{length-marker}
use Rattle.rs01_states.specs.Sparing.{is_within}
use Rattle.rs01_repair.specs.Inputs.{answer_of, flags_at}
use Rattle.rs01_repair.specs.Restored.{IsBlockWhere, is_restored, restored_at}
use Rattle.rs01_repair.proofs.CorrectLemmas.{answer_has_blocks}
use Rattle.rs01_adaptive.specs.Putting.{HasWhole}
use Rattle.rs01_adaptive.specs.Whole.{Whole, block_by, block_left, end_in, good_block, is_open_in, known_in, restored_block, value_by, value_in}
use Rattle.rs01_adaptive.proofs.BlockLemmas.{good_own}
use Rattle.rs01_adaptive.proofs.GoingLemmas.{closed_left}
use Rattle.rs01_adaptive.proofs.PuttingLemmas.{whole_long}

pub whole_where : (w : Bool) (o : Option (List ℕ)) → IsBlockWhere w o → IfSome o (λ b. length b ≡ 2048)
whole_where true (Some b) is = is
whole_where true None is = absurd is
whole_where false (Some b) is = absurd is
whole_where false None is = tt

value_whole : (w : Whole) (l : ℕ) (answer : LayerOut) → value_in w l ≡ Some answer → HasWhole answer
unfolding value_in
value_whole w l answer e =
    option_and_then_some (λ c. value_by w c l) w.medium.opened answer e
    (λ c there is. subst HasWhole (cond_some (is_within w.shape l (end_in w).states) (answer_of c (good_block w) (is_open_in w) l) answer is).1
    (λ p. whole_where (get_or (flags_at c.fields (is_open_in w) l) p false && is_restored (answer_of c (good_block w) (is_open_in w) l)) (restored_at (answer_of c (good_block w) (is_open_in w) l) p)
    (answer_has_blocks c (good_block w) (is_open_in w) l p)))

restored_long : (w : Whole) (k : ℕ) (block : List ℕ) → restored_block w k ≡ Some block → length block ≡ 2048
unfolding restored_block
restored_long w k block e =
    option_and_then_some (λ c. block_by w c k) w.medium.opened block e
    (λ c there of. option_and_then_some (λ answer. restored_at answer (place_of c.fields.sectors c.fields.parity k)) (value_in w (layer_of c.fields.sectors c.fields.parity k)) block of
    (λ answer value is. whole_long (restored_at answer (place_of c.fields.sectors c.fields.parity k)) block (value_whole w (layer_of c.fields.sectors c.fields.parity k) answer value (place_of c.fields.sectors c.fields.parity k)) is))

choice_long : (o : Option (List ℕ)) (k : ℕ) → ((block : List ℕ) → o ≡ Some block → length block ≡ 2048) → length (unwrap_or o (marker k)) ≡ 2048
choice_long None k long = length-marker k
choice_long (Some block) k long = long block refl

-- each sector has a whole block
pub left_long : (w : Whole) (k : ℕ) → k < (known_in w).sectors → (known_in w).last_bytes ≤ 2048 → length (block_left w k) ≡ 2048
unfolding block_left
left_long w k below few = ⊎_elim
    (λ opened.
    ap (λ (b : Bool). length (cond b (unwrap_or (restored_block w k) (marker k)) (good_block w k))) opened
    ∙ choice_long (restored_block w k) k (restored_long w k))
    (λ closed. ap length (closed_left w k closed) ∙ (good_own w k below few closed).1)
    (cases_Bool (is_open_in w k))
