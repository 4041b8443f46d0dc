use Rattle.std.proofs.Common.{◌∙◌, sym, ap, length}
use Rattle.rs01_erase.specs.LayerValue.{erased_places}
use Rattle.rs01_erase.proofs.RestoringLemmas.{correct-beyond}
use Rattle.rs01_erase.proofs.by_columns.work_by_columns.Goals as goal

pub returns-then-count-input : goal.returns-then-count-input
returns-then-count-input c =
    sym (correct-beyond c.args.input.now c.places_of-count.result
    (c.places_of-count.ensures.count ∙ ap (λ flags. length (erased_places flags)) c.items.ensures) c.if-count-input.true)
