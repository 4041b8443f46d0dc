use Rattle.std.proofs.lemmas.Result.{err_from_is_err_and}
use Rattle.rs01_linear.proofs.AnswerLemmas.{answers_no_number, answers_number, answers_opening}
use Rattle.rs01_linear.proofs.MediumLemmas.{finds_no_number, finds_number}
use Rattle.rs01_linear.proofs.opening.open_medium.Goals as goal

pub returns-in_err-number-clause-asked : goal.returns-in_err-number-clause-asked
returns-in_err-number-clause-asked g c =
    let p = err_from_is_err_and c.from_residual-in_err-number.result c.from_residual-in_err-number.ensures.1 in
    finds_no_number _ p.0 _ _ _ p.1 p.2 c.args.rack.now.counted c.in_err-number.ensures.asked c.in_err-number.ensures.cause

pub returns-clause-asked : goal.returns-clause-asked
returns-clause-asked g c =
    finds_number _ _ _ _ _ c.medium_of.ensures c.args.rack.now.counted c.in_ok-number.ensures.asked c.in_ok-number.ensures.cause

pub returns-in_err-opened-clause-answers : goal.returns-in_err-opened-clause-answers
returns-in_err-opened-clause-answers g c =
    let p = err_from_is_err_and c.from_residual.result c.from_residual.ensures.1 in
    answers_opening (g.D.Desk.state c.args.desk.now) c.args.ecc _ p.0 _ p.1 p.2 c.in_err-opened.ensures.told c.in_err-opened.ensures.causes

pub returns-in_err-number-clause-answers : goal.returns-in_err-number-clause-answers
returns-in_err-number-clause-answers g c =
    let p = err_from_is_err_and c.from_residual-in_err-number.result c.from_residual-in_err-number.ensures.1 in
    answers_no_number (g.D.Desk.state c.args.desk.now) c.args.ecc _ _ p.0 _ p.1 p.2 c.in_ok-opened.ensures.told

pub returns-clause-answers : goal.returns-clause-answers
returns-clause-answers g c = answers_number (g.D.Desk.state c.args.desk.now) c.args.ecc _ _ _ c.in_ok-opened.ensures.told c.in_ok-opened.ensures.given c.medium_of.ensures
