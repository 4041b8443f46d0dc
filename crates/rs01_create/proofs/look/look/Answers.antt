use Rattle.std.proofs.Common.{◌∙◌, ap, refl, subst, sym}
use Rattle.std.specs.Prelude.{IsTrue}
use Rattle.std.specs.Option.{option_map}
use Rattle.std.proofs.lemmas.Result.{err_from_is_err_and}
use Rattle.rs01_create.specs.declared.refusal.CreateRefusal.TheVariants.{Marker}
use Rattle.rs01_create.proofs.Looks.{accepted, looks_measured, seen_under, summed}
use Rattle.rs01_create.proofs.look.look.Goals as goal

pub returns-in_err-plan-clause-answer : goal.returns-in_err-plan-clause-answer
returns-in_err-plan-clause-answer g c = λ t.
    let p = err_from_is_err_and c.from_residual.result c.from_residual.ensures.1 in
    looks_measured _ c.in-Ok-Some.size c.args.parity _ p.0 _ p.1 p.2 (sym c.in-Ok-Some.field-0-is ∙ c.in-Ok-Some.ensures.size t) c.in_err-plan.ensures

pub returns-in-Some-clause-answer : goal.returns-in-Some-clause-answer
returns-in-Some-clause-answer g c = λ t.
    let size = c.in-Ok-Some.ensures in
    (seen_under (g.D.Desk.state c.args.desk.now).files _ c.args.name.now c.in-Ok-Some.size c.args.parity c.in_ok-plan.plan c.in_ok-seen.seen
    (sym c.in-Ok-Some.field-0-is ∙ size.size t) (size.reads.unchanged t) c.in_ok-plan.ensures (c.in_ok-seen.ensures.seen (subst IsTrue (sym size.reads.tells) t))).refusal
    ∙ ap (option_map Marker) c.in-Some.is

pub returns-in-None-clause-answer : goal.returns-in-None-clause-answer
returns-in-None-clause-answer g c = λ t.
    let size = c.in-Ok-Some.ensures in
    accepted _ c.in-Ok-Some.size c.in_ok-plan.plan c.in_ok-seen.seen _
    (seen_under (g.D.Desk.state c.args.desk.now).files _ c.args.name.now c.in-Ok-Some.size c.args.parity c.in_ok-plan.plan c.in_ok-seen.seen
    (sym c.in-Ok-Some.field-0-is ∙ size.size t) (size.reads.unchanged t) c.in_ok-plan.ensures (c.in_ok-seen.ensures.seen (subst IsTrue (sym size.reads.tells) t)))
    c.in-None.is refl refl c.finalize-image_sum.ensures

pub returns-in-None-clause-sums : goal.returns-in-None-clause-sums
returns-in-None-clause-sums g c = λ t.
    let size = c.in-Ok-Some.ensures in
    summed _ c.in-Ok-Some.size c.in_ok-plan.plan c.in_ok-seen.seen
    (seen_under (g.D.Desk.state c.args.desk.now).files _ c.args.name.now c.in-Ok-Some.size c.args.parity c.in_ok-plan.plan c.in_ok-seen.seen
    (sym c.in-Ok-Some.field-0-is ∙ size.size t) (size.reads.unchanged t) c.in_ok-plan.ensures (c.in_ok-seen.ensures.seen (subst IsTrue (sym size.reads.tells) t)))
