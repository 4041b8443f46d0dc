use Rattle.std.proofs.Common.{◌∙◌, ap, sym}
use Rattle.std.specs.Prelude.{◌||◌, not, Some}
use Rattle.rs01_sums.specs.Usable.{is_usable}
use Rattle.rs01_repair.specs.Finding.{is_erased_by}
use Rattle.rs01_repair.proofs.part.takes_for_erased.Goals as goal

pub returns-then-is_absent : goal.returns-then-is_absent
unfolding is_erased_by
returns-then-is_absent c =
    let found = c.args.found.now in
    c.if-is_absent.true
    ∙ sym (ap (λ b. b || not (is_usable (Some found.ecc.sums.list) c.args.sector c.args.block.now)) (sym c.is_absent.ensures ∙ c.if-is_absent.true))

pub returns-else-is_absent : goal.returns-else-is_absent
unfolding is_erased_by
returns-else-is_absent c =
    let found = c.args.found.now in
    ap not (c.usable.ensures ∙ (λ i. is_usable (Some (c.sums.ensures.sums i).list) c.args.sector c.args.block.now))
    ∙ sym (ap (λ b. b || not (is_usable (Some found.ecc.sums.list) c.args.sector c.args.block.now)) (sym c.is_absent.ensures ∙ c.if-is_absent.false))
