use Rattle.std.proofs.lemmas.Result.{err_from_is_err_and}
use Rattle.rs01_linear.proofs.AnswerLemmas.{answers_done, answers_unopened, answers_work}
use Rattle.rs01_verify.proofs.ScanAnswers.{answer_all, answer_none, answer_stopped, scans_all, scans_stopped}
use Rattle.rs01_verify.proofs.scanning.scan.Goals as goal

pub returns-in_err-medium-clause-answer : goal.returns-in_err-medium-clause-answer
returns-in_err-medium-clause-answer g c = λ told tell.
    let p = err_from_is_err_and c.from_residual.result c.from_residual.ensures.1 in
    answer_none _ _ p.0 c.in_err-medium.field-0.0 _ _ p.1 p.2 (c.in_err-medium.ensures.told told tell) (c.in_err-medium.ensures.asked.same tell)

pub returns-in_err-tally-clause-asked : goal.returns-in_err-tally-clause-asked
returns-in_err-tally-clause-asked g c =
    let p = err_from_is_err_and c.from_residual-in_err-tally.result c.from_residual-in_err-tally.ensures.1 in
    scans_stopped _ p.0 c.in_ok-medium.medium _ _ _ p.1 p.2 c.in_ok-medium.ensures.asked c.in_err-tally.ensures

pub returns-in_err-tally-clause-answer : goal.returns-in_err-tally-clause-answer
returns-in_err-tally-clause-answer g c = λ told tell.
    let p = err_from_is_err_and c.from_residual-in_err-tally.result c.from_residual-in_err-tally.ensures.1 in
    answer_stopped _ _ p.0 c.in_ok-medium.medium _ _ _ p.1 p.2 c.in_ok-medium.ensures.asked c.in_err-tally.ensures tell (c.in_ok-medium.ensures.told told)

pub returns-clause-asked : goal.returns-clause-asked
returns-clause-asked g c =
    scans_all c.in_ok-medium.medium c.report.result c.in_ok-tally.tally _ _ _ c.in_ok-medium.ensures.asked c.in_ok-tally.ensures c.report.ensures.unreadable

pub returns-clause-answer : goal.returns-clause-answer
returns-clause-answer g c = λ told tell.
    answer_all _ c.in_ok-medium.medium c.report.result c.in_ok-tally.tally _ _ _ c.in_ok-medium.ensures.asked c.in_ok-tally.ensures tell
    (c.in_ok-medium.ensures.told told) (λ f views now is kept. c.report.ensures.told _ f views now is kept)

pub returns-in_err-medium-clause-answers : goal.returns-in_err-medium-clause-answers
returns-in_err-medium-clause-answers g c =
    answers_unopened (g.D.Desk.state c.args.desk.now) c.args.ecc c.from_residual.result _ c.from_residual.ensures.1 c.in_err-medium.ensures.answers

pub returns-in_err-tally-clause-answers : goal.returns-in_err-tally-clause-answers
returns-in_err-tally-clause-answers g c =
    answers_work (g.D.Desk.state c.args.desk.now) c.args.ecc c.in_ok-medium.medium c.from_residual-in_err-tally.result _ c.from_residual-in_err-tally.ensures.1
    tt c.in_ok-medium.ensures.answers

pub returns-clause-answers : goal.returns-clause-answers
returns-clause-answers g c = answers_done (g.D.Desk.state c.args.desk.now) c.args.ecc c.in_ok-medium.medium c.report.result c.in_ok-medium.ensures.answers
