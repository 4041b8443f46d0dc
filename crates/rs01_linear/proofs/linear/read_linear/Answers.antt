use Rattle.std.proofs.Common.{◌∙◌, ap, inl, sym, subst}
use Rattle.std.specs.Prelude.{Err, IsTrue}
use Rattle.std.proofs.lemmas.Result.{err_from_is_err_and}
use Rattle.rs01_outside.specs.Files.{Files}
use Rattle.rs01_linear.specs.Medium.{known_of}
use Rattle.rs01_linear.specs.Refusal.{IsOfWork}
use Rattle.rs01_linear.proofs.AnswerLemmas.{answers_done, answers_unopened, answers_work, numbered, plain_numbered, still_lasts}
use Rattle.rs01_linear.proofs.EndLemmas.{ends_left, ends_read, ends_unopened, ends_unprepared}
use Rattle.rs01_linear.proofs.LastingLemmas.{lasts_then, told_before}
use Rattle.rs01_linear.proofs.MarkLemmas.{sized_by}
use Rattle.rs01_linear.proofs.StayLemmas.{guards_prepared, spared, spared_unprepared}
use Rattle.rs01_linear.proofs.RoseLemmas.{rose_after}
use Rattle.rs01_linear.proofs.linear.read_linear.Goals as goal

pub returns-in_err-read_prepared-clause-lasts : goal.returns-in_err-read_prepared-clause-lasts
returns-in_err-read_prepared-clause-lasts g c = lasts_then _ _ _ c.in_ok-medium.ensures.asked.lasts c.in_err-read_prepared.ensures.lasts

pub returns-clause-lasts : goal.returns-clause-lasts
returns-clause-lasts g c = lasts_then _ _ _ c.in_ok-medium.ensures.asked.lasts c.in_ok-read_prepared.ensures.lasts

pub returns-in_err-prepared-clause-told : goal.returns-in_err-prepared-clause-told
returns-in_err-prepared-clause-told g c = λ t tell.
    let p = err_from_is_err_and c.from_residual-in_err-prepared.result c.from_residual-in_err-prepared.ensures.1 in
    let t1 = subst IsTrue (sym c.in_ok-medium.ensures.reads.tells) t in
    let still = ap (λ (f : Files). f c.args.image.now) (c.in_ok-medium.ensures.reads.unchanged t) in
    ends_unprepared _ _ c.in_ok-medium.medium _ _ _ _ _ c.from_residual-in_err-prepared.result p.0 p.1 (subst IsOfWork (sym p.2) c.in_err-prepared.ensures.causes)
    (c.in_ok-medium.ensures.told t tell) (c.in_ok-medium.ensures.asked.same tell) still (c.in_err-prepared.ensures.told t1)

pub returns-in_err-read_prepared-clause-told : goal.returns-in_err-read_prepared-clause-told
returns-in_err-read_prepared-clause-told g c = λ t tell.
    let p = err_from_is_err_and c.from_residual-in_err-read_prepared.result c.from_residual-in_err-read_prepared.ensures.1 in
    let t1 = subst IsTrue (sym c.in_ok-medium.ensures.reads.tells) t in
    let t2 = subst IsTrue (sym c.in_ok-prepared.ensures.works.tells) t1 in
    let tell1 = told_before _ _ c.in_err-read_prepared.ensures.lasts tell in
    let still = ap (λ (f : Files). f c.args.image.now) (c.in_ok-medium.ensures.reads.unchanged t) in
    ends_left _ _ c.in_ok-medium.medium _ _ _ _ _ _ c.from_residual-in_err-read_prepared.result p.0 p.1 (subst IsOfWork (sym p.2) c.in_err-read_prepared.ensures.causes)
    (c.in_ok-medium.ensures.told t tell1) (c.in_ok-medium.ensures.asked.same tell1) still
    (c.in_err-read_prepared.ensures.told.reads _ t2 tell (c.in_ok-prepared.ensures.told t1))

pub returns-clause-told : goal.returns-clause-told
returns-clause-told g c = λ t tell.
    let t1 = subst IsTrue (sym c.in_ok-medium.ensures.reads.tells) t in
    let t2 = subst IsTrue (sym c.in_ok-prepared.ensures.works.tells) t1 in
    let tell1 = told_before _ _ c.in_ok-read_prepared.ensures.lasts tell in
    let still = ap (λ (f : Files). f c.args.image.now) (c.in_ok-medium.ensures.reads.unchanged t) in
    ends_read _ _ c.in_ok-medium.medium _ _ _ _ _ _ c.in_ok-read_prepared.field-0
    (c.in_ok-medium.ensures.told t tell1) (c.in_ok-medium.ensures.asked.same tell1) c.in_ok-medium.ensures.asked.asks still
    (c.in_ok-read_prepared.ensures.told.reads _ t2 tell (c.in_ok-prepared.ensures.told t1))

pub returns-clause-unreadable : goal.returns-clause-unreadable
returns-clause-unreadable g c = rose_after _ _ _ _ c.in_ok-medium.ensures.asked.lasts c.in_ok-read_prepared.ensures.unreadable

pub returns-in_err-medium-clause-told : goal.returns-in_err-medium-clause-told
returns-in_err-medium-clause-told g c = λ t tell.
    let p = err_from_is_err_and c.from_residual.result c.from_residual.ensures.1 in
    let still = ap (λ (f : Files). f c.args.image.now) (c.in_err-medium.ensures.reads.unchanged t) in
    ends_unopened _ _ _ _ _ _ _ c.from_residual.result _ (p.1 ∙ ap Err p.2) c.in_err-medium.ensures.causes
    (c.in_err-medium.ensures.told t tell) (c.in_err-medium.ensures.asked.same tell) still

pub returns-in_err-medium-clause-stays : goal.returns-in_err-medium-clause-stays
returns-in_err-medium-clause-stays g c = λ t. inl (ap (λ (f : Files). f c.args.image.now) (c.in_err-medium.ensures.reads.unchanged t))

pub returns-in_err-prepared-clause-stays : goal.returns-in_err-prepared-clause-stays
returns-in_err-prepared-clause-stays g c = λ t.
    let t1 = subst IsTrue (sym c.in_ok-medium.ensures.reads.tells) t in
    let still = ap (λ (f : Files). f c.args.image.now) (c.in_ok-medium.ensures.reads.unchanged t) in
    spared_unprepared _ c.in_ok-medium.medium _ _ _ _ _ still (c.in_err-prepared.ensures.told t1) (c.in_ok-medium.ensures.opened t)
    (plain_numbered (g.D.Desk.state c.args.desk.now) c.args.ecc c.in_ok-medium.medium _ _ _ c.in_ok-medium.ensures.given c.in_ok-medium.ensures.asked (still_lasts c.in_ok-medium.medium _ _ c.args.rack.now.counted c.in_ok-medium.ensures.asked))
    (c.in_ok-medium.ensures.told t)

pub returns-in_err-read_prepared-clause-stays : goal.returns-in_err-read_prepared-clause-stays
returns-in_err-read_prepared-clause-stays g c = λ t.
    let t1 = subst IsTrue (sym c.in_ok-medium.ensures.reads.tells) t in
    let t2 = subst IsTrue (sym c.in_ok-prepared.ensures.works.tells) t1 in
    let still = ap (λ (f : Files). f c.args.image.now) (c.in_ok-medium.ensures.reads.unchanged t) in
    spared _ c.in_ok-medium.medium _ _ _ _ _ still
    (c.in_err-read_prepared.ensures.told.stays _ t2
    (guards_prepared (known_of c.in_ok-medium.medium) _ _ c.in_ok-prepared.prepared (sized_by c.in_ok-medium.medium.extent _) (c.in_ok-prepared.ensures.told t1)))
    (c.in_ok-medium.ensures.opened t)
    (plain_numbered (g.D.Desk.state c.args.desk.now) c.args.ecc c.in_ok-medium.medium _ _ _ c.in_ok-medium.ensures.given c.in_ok-medium.ensures.asked c.in_err-read_prepared.ensures.lasts)
    (λ tell. c.in_ok-medium.ensures.told t (told_before _ _ c.in_err-read_prepared.ensures.lasts tell))

pub returns-clause-stays : goal.returns-clause-stays
returns-clause-stays g c = λ t.
    let t1 = subst IsTrue (sym c.in_ok-medium.ensures.reads.tells) t in
    let t2 = subst IsTrue (sym c.in_ok-prepared.ensures.works.tells) t1 in
    let still = ap (λ (f : Files). f c.args.image.now) (c.in_ok-medium.ensures.reads.unchanged t) in
    spared _ c.in_ok-medium.medium _ _ _ _ _ still
    (c.in_ok-read_prepared.ensures.told.stays _ t2
    (guards_prepared (known_of c.in_ok-medium.medium) _ _ c.in_ok-prepared.prepared (sized_by c.in_ok-medium.medium.extent _) (c.in_ok-prepared.ensures.told t1)))
    (c.in_ok-medium.ensures.opened t)
    (plain_numbered (g.D.Desk.state c.args.desk.now) c.args.ecc c.in_ok-medium.medium _ _ _ c.in_ok-medium.ensures.given c.in_ok-medium.ensures.asked c.in_ok-read_prepared.ensures.lasts)
    (λ tell. c.in_ok-medium.ensures.told t (told_before _ _ c.in_ok-read_prepared.ensures.lasts tell))

pub returns-in_err-medium-clause-answers : goal.returns-in_err-medium-clause-answers
returns-in_err-medium-clause-answers g c =
    answers_unopened (g.D.Desk.state c.args.desk.now) c.args.ecc c.from_residual.result _ c.from_residual.ensures.1 c.in_err-medium.ensures.answers

pub returns-in_err-prepared-clause-answers : goal.returns-in_err-prepared-clause-answers
returns-in_err-prepared-clause-answers g c =
    answers_work (g.D.Desk.state c.args.desk.now) c.args.ecc c.in_ok-medium.medium c.from_residual-in_err-prepared.result _ c.from_residual-in_err-prepared.ensures.1
    c.in_err-prepared.ensures.causes c.in_ok-medium.ensures.answers

pub returns-in_err-read_prepared-clause-answers : goal.returns-in_err-read_prepared-clause-answers
returns-in_err-read_prepared-clause-answers g c =
    answers_work (g.D.Desk.state c.args.desk.now) c.args.ecc c.in_ok-medium.medium c.from_residual-in_err-read_prepared.result _ c.from_residual-in_err-read_prepared.ensures.1
    c.in_err-read_prepared.ensures.causes c.in_ok-medium.ensures.answers

pub returns-clause-answers : goal.returns-clause-answers
returns-clause-answers g c =
    answers_done (g.D.Desk.state c.args.desk.now) c.args.ecc c.in_ok-medium.medium c.in_ok-read_prepared.field-0 c.in_ok-medium.ensures.answers

pub returns-clause-refused : goal.returns-clause-refused
returns-clause-refused g c = numbered c.in_ok-medium.medium _ _ _ c.in_ok-medium.ensures.asked c.in_ok-read_prepared.ensures.lasts
