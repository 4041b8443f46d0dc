use Rattle.rs01_linear.proofs.AnswerLemmas.{answers_done, answers_unopened, answers_work, numbered}
use Rattle.rs01_linear.proofs.LastingLemmas.{lasts_then}
use Rattle.rs01_linear.proofs.RoseLemmas.{rose_after}
use Rattle.rs01_adaptive.proofs.BroughtBack.{back_read, none_back}
use Rattle.rs01_adaptive.proofs.OpenedLemmas.{
  can_begin,
  stays_read,
  stays_unopened,
  stays_unprepared,
  told_left,
  told_read,
  told_unopened,
  told_unprepared,
}
use Rattle.rs01_adaptive.proofs.adaptive.read_adaptive.Goals as goal

pub read_prepared-requires-clause-can : goal.read_prepared-requires-clause-can
read_prepared-requires-clause-can g c κs within =
    can_begin _ c.in_ok-prepared.prepared _ _ c.requires.tries.0 c.in_ok-medium.ensures.given c.requires.names c.in_ok-prepared.ensures.works c.in_ok-prepared.ensures.told

pub returns-in_err-read_prepared-clause-lasts : goal.returns-in_err-read_prepared-clause-lasts
returns-in_err-read_prepared-clause-lasts g c = lasts_then _ _ _ c.in_ok-medium.ensures.asked.lasts c.in_err-read_prepared.ensures.lasts

pub returns-clause-lasts : goal.returns-clause-lasts
returns-clause-lasts g c = lasts_then _ _ _ c.in_ok-medium.ensures.asked.lasts c.in_ok-read_prepared.ensures.lasts

pub returns-clause-unreadable : goal.returns-clause-unreadable
returns-clause-unreadable g c = rose_after _ _ _ _ c.in_ok-medium.ensures.asked.lasts c.in_ok-read_prepared.ensures.unreadable

pub returns-in_err-medium-clause-told : goal.returns-in_err-medium-clause-told
returns-in_err-medium-clause-told g c =
    let o = c.in_err-medium.ensures in
    told_unopened c.args.ecc _ c.args.image.now _ _ _ _ _ c.from_residual.result _ c.from_residual.ensures.1 o.causes o.reads o.asked o.told

pub returns-in_err-prepared-clause-told : goal.returns-in_err-prepared-clause-told
returns-in_err-prepared-clause-told g c =
    let o = c.in_ok-medium.ensures in
    let p = c.in_err-prepared.ensures in
    told_unprepared c.args.ecc _ c.args.image.now c.in_ok-medium.medium _ _ _ _ _ _ _ c.from_residual-in_err-prepared.result _ p.works c.from_residual-in_err-prepared.ensures.1
    p.causes o.reads o.asked o.told p.told

pub returns-in_err-read_prepared-clause-told : goal.returns-in_err-read_prepared-clause-told
returns-in_err-read_prepared-clause-told g c =
    let o = c.in_ok-medium.ensures in
    let p = c.in_ok-prepared.ensures in
    let r = c.in_err-read_prepared.ensures in
    told_left _ _ _ _ _ _ _ _ _ c.from_residual-in_err-read_prepared.result _ r.told r.lasts c.from_residual-in_err-read_prepared.ensures.1 r.causes
    o.reads o.asked o.told p.works p.told c.requires.names

pub returns-clause-told : goal.returns-clause-told
returns-clause-told g c =
    let o = c.in_ok-medium.ensures in
    let p = c.in_ok-prepared.ensures in
    let r = c.in_ok-read_prepared.ensures in
    told_read _ _ _ _ _ _ _ _ _ _ r.told r.lasts o.reads o.asked o.told p.works p.told c.requires.names

pub returns-in_err-medium-clause-comes_back : goal.returns-in_err-medium-clause-comes_back
returns-in_err-medium-clause-comes_back g c = λ t tell image file r says given protects has gives. none_back c.from_residual.result _ _ c.from_residual.ensures.1

pub returns-in_err-prepared-clause-comes_back : goal.returns-in_err-prepared-clause-comes_back
returns-in_err-prepared-clause-comes_back g c = λ t tell image file r says given protects has gives. none_back c.from_residual-in_err-prepared.result _ _ c.from_residual-in_err-prepared.ensures.1

pub returns-in_err-read_prepared-clause-comes_back : goal.returns-in_err-read_prepared-clause-comes_back
returns-in_err-read_prepared-clause-comes_back g c = λ t tell image file r says given protects has gives. none_back c.from_residual-in_err-read_prepared.result _ _ c.from_residual-in_err-read_prepared.ensures.1

pub returns-clause-comes_back : goal.returns-clause-comes_back
returns-clause-comes_back g c =
    back_read _ _ _ _ _ _ _ _ _ _ c.in_ok-read_prepared.ensures.told c.in_ok-medium.ensures.reads c.in_ok-medium.ensures.asked (returns-clause-told g c)

pub returns-in_err-medium-clause-stays : goal.returns-in_err-medium-clause-stays
returns-in_err-medium-clause-stays g c = stays_unopened c.args.ecc c.args.image.now _ _ _ _ _ c.in_err-medium.ensures.reads

pub returns-in_err-prepared-clause-stays : goal.returns-in_err-prepared-clause-stays
returns-in_err-prepared-clause-stays g c =
    let o = c.in_ok-medium.ensures in
    let p = c.in_err-prepared.ensures in
    stays_unprepared c.args.ecc c.args.image.now c.in_ok-medium.medium _ _ _ _ _ _ _ p.works o.reads o.told o.opened o.given o.asked c.args.rack.now.counted p.told

pub returns-in_err-read_prepared-clause-stays : goal.returns-in_err-read_prepared-clause-stays
returns-in_err-read_prepared-clause-stays g c =
    let o = c.in_ok-medium.ensures in
    let p = c.in_ok-prepared.ensures in
    let r = c.in_err-read_prepared.ensures in
    stays_read _ _ _ _ _ _ _ _ _ _ r.told r.lasts o.reads o.told o.opened o.given o.asked p.works p.told

pub returns-clause-stays : goal.returns-clause-stays
returns-clause-stays g c =
    let o = c.in_ok-medium.ensures in
    let p = c.in_ok-prepared.ensures in
    let r = c.in_ok-read_prepared.ensures in
    stays_read _ _ _ _ _ _ _ _ _ _ r.told r.lasts o.reads o.told o.opened o.given o.asked p.works p.told

pub returns-in_err-medium-clause-answers : goal.returns-in_err-medium-clause-answers
returns-in_err-medium-clause-answers g c =
    answers_unopened (g.D.Desk.state c.args.desk.now) c.args.ecc c.from_residual.result _ c.from_residual.ensures.1 c.in_err-medium.ensures.answers

pub returns-in_err-prepared-clause-answers : goal.returns-in_err-prepared-clause-answers
returns-in_err-prepared-clause-answers g c =
    answers_work (g.D.Desk.state c.args.desk.now) c.args.ecc c.in_ok-medium.medium c.from_residual-in_err-prepared.result _ c.from_residual-in_err-prepared.ensures.1
    c.in_err-prepared.ensures.causes c.in_ok-medium.ensures.answers

pub returns-in_err-read_prepared-clause-answers : goal.returns-in_err-read_prepared-clause-answers
returns-in_err-read_prepared-clause-answers g c =
    answers_work (g.D.Desk.state c.args.desk.now) c.args.ecc c.in_ok-medium.medium c.from_residual-in_err-read_prepared.result _ c.from_residual-in_err-read_prepared.ensures.1
    c.in_err-read_prepared.ensures.causes c.in_ok-medium.ensures.answers

pub returns-clause-answers : goal.returns-clause-answers
returns-clause-answers g c =
    answers_done (g.D.Desk.state c.args.desk.now) c.args.ecc c.in_ok-medium.medium c.in_ok-read_prepared.field-0 c.in_ok-medium.ensures.answers

pub returns-clause-refused : goal.returns-clause-refused
returns-clause-refused g c = numbered c.in_ok-medium.medium _ _ _ c.in_ok-medium.ensures.asked c.in_ok-read_prepared.ensures.lasts
