use Rattle.std.proofs.Common.{◌≤◌, ◌∙◌, List, ℕ, ap, length, subst, sym}
use Rattle.std.specs.Prelude.{IsTrue}
use Rattle.std.specs.Str.{bytes_eq}
use Rattle.rs01_outside.specs.Files.{Files, bytes_of}
use Rattle.rs01_demo.specs.Plan.{original}
use Rattle.rs01_demo.proofs.ToldLemmas.{has_header, told_is}
use Rattle.rs01_demo.proofs.telling.tell.Goals as goal

pub returns-clause-told : goal.returns-clause-told
returns-clause-told g c = λ t repaired found.
    let told = subst IsTrue (sym c.in_ok-body_sum.ensures.reads.tells) t in
    told_is c.args.plan c.args.image.now c.args.ecc.now (g.D.Desk.state c.args.desk.now).files c.args.image_sum c.in_ok-body_sum.body_sum c.args.fixed.now repaired _ _ _ _ found
    (c.in_ok-body_sum.ensures.sum t (has_header c.args.plan (g.D.Desk.state c.args.desk.now).files c.args.ecc.now found.ecc_is))
    (λ few. c.count_of.ensures (subst (λ (xs : List ℕ). length xs ≤ 65536) (sym c.items.ensures) few) ∙ ap length c.items.ensures)
    (λ few. c.count_of-2.ensures (subst (λ (xs : List ℕ). length xs ≤ 65536) (sym c.items-2.ensures) few) ∙ ap length c.items-2.ensures)
    (c.in_ok-original.ensures.same told
    ∙ ap (λ (files : Files). bytes_eq (bytes_of files c.args.image.now) (original c.args.plan)) (c.in_ok-body_sum.ensures.reads.unchanged t))
    c.is_whole.ensures
