use Rattle.std.proofs.Common.{◌≡◌, ◌∙◌, ℕ, List, ap, refl, sym, subst, length}
use Rattle.std.specs.Prelude.{IsTrue, Option, Some, None}
use Rattle.std.specs.Option.{option_map}
use Rattle.std.proofs.lemmas.Result.{err_from_is_err_and}
use Rattle.rs01_outside.specs.Files.{Files, bytes_of}
use Rattle.rs01_ecchead.specs.Opened.{opened_as}
use Rattle.rs01_fix.proofs.FileLemmas.{by_no_image, found_unopened}
use Rattle.rs01_fix.proofs.find.find.Goals as goal

pub returns-in_err-opened-clause-answer : goal.returns-in_err-opened-clause-answer
returns-in_err-opened-clause-answer g c = λ t.
    let p = err_from_is_err_and c.from_residual.result c.from_residual.ensures.1 in
    found_unopened _ _ _ _ p.0 p.1 p.2 (c.in_err-opened.ensures.answer t)

not_there : (o : Option (List ℕ)) → None ≡ option_map length o → o ≡ None
not_there None e = refl
not_there (Some y) e = absurd (let h : ⊥ = cc in h)

pub returns-in-Ok-None-clause-answer : goal.returns-in-Ok-None-clause-answer
returns-in-Ok-None-clause-answer g c = λ t cut of.
    let f0 = (g.D.Desk.state c.args.desk.now).files in
    let size = c.in-Ok-None.ensures.size (subst IsTrue (sym c.in_ok-opened.ensures.reads.tells) t) in
    by_no_image (f0 c.args.ecc.now) (f0 c.args.image.now) cut (opened_as c.in_ok-opened.opened (bytes_of f0 c.args.ecc.now)) (c.in_ok-opened.ensures.answer t)
    (ap (λ (f : Files). f c.args.image.now) (sym (c.in_ok-opened.ensures.reads.unchanged t)) ∙ not_there _ (sym c.in-Ok-None.field-0-is ∙ size))
