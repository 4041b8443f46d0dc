use Rattle.std.proofs.Common.{◌≡◌, ◌∙◌, ap, length, subst, sym}
use Rattle.std.specs.Prelude.{IsTrue, Some}
use Rattle.std.specs.Option.{option_map}
use Rattle.std.proofs.lemmas.Result.{err_from_is_err_and}
use Rattle.rs01_outside.specs.Files.{Files, bytes_of}
use Rattle.rs01_ecchead.specs.Opened.{opened_as}
use Rattle.rs01_verify.specs.Report.{report_of}
use Rattle.rs01_verify.proofs.AnswerLemmas.{by_ecc, by_no_image, by_report, size_then}
use Rattle.rs01_verify.proofs.verifying.verify.Goals as goal

pub returns-in_err-open_ecc-clause-answer : goal.returns-in_err-open_ecc-clause-answer
returns-in_err-open_ecc-clause-answer g c = λ t.
    let p = err_from_is_err_and c.from_residual.result c.from_residual.ensures.1 in
    by_ecc _ _ _ p.0 _ p.1 p.2 (c.in_err-open_ecc.ensures.answer t)

pub returns-in_default-clause-answer : goal.returns-in_default-clause-answer
returns-in_default-clause-answer g c = λ t _.
    let told = subst IsTrue (sym c.in_ok-open_ecc.ensures.reads.tells) t in
    by_no_image _ _ _ c.in_ok-size.field-0 (c.in_ok-open_ecc.ensures.answer t) c.in_default.not-Some
    (c.in_ok-size.ensures.size told ∙ ap (λ (f : Files). option_map length (f c.args.image.now)) (c.in_ok-open_ecc.ensures.reads.unchanged t))

pub returns-clause-answer : goal.returns-clause-answer
returns-clause-answer g c = λ t.
    let f0 = (g.D.Desk.state c.args.desk.now).files in
    let name = c.args.image.now in
    let ecc = c.in_ok-open_ecc.field-0 in
    let told = subst IsTrue (sym c.in_ok-open_ecc.ensures.reads.tells) t in
    let still = subst IsTrue (sym c.in_ok-size.ensures.reads.tells) told in
    let same = c.in_ok-size.ensures.reads.unchanged told ∙ c.in_ok-open_ecc.ensures.reads.unchanged t in
    let size : Some c.in-Some.size ≡ option_map length (f0 name) =
    sym c.in-Some.is ∙ c.in_ok-size.ensures.size told ∙ ap (λ (f : Files). option_map length (f name)) (c.in_ok-open_ecc.ensures.reads.unchanged t) in
    let long = size_then f0 _ name c.in-Some.size same size in
    let file = bytes_of f0 c.args.ecc.now in
    by_report _ _ (opened_as ecc file) c.in-Some.size c.report.result (c.in_ok-open_ecc.ensures.answer t) size
    (c.report.ensures _ file long (c.in_ok-survey.ensures.surveyed still long)
    ∙ ap (λ (f : Files). report_of (opened_as ecc file) (bytes_of f name)) same)
