use Rattle.std.proofs.Common.{◌≡◌, ◌∙◌, ap, sym, subst}
use Rattle.std.specs.Prelude.{Err, Ok, IsTrue}
use Rattle.std.proofs.lemmas.Result.{err_from_is_err_and}
use Rattle.rs01_layers.specs.Layout.{file_size}
use Rattle.rs01_ecchead.specs.declared.opened.EccRefusal.TheVariants.{Size}
use Rattle.rs01_ecchead.specs.Head.{fields_of}
use Rattle.rs01_ecchead.proofs.OpenedLemmas.{too_short, header_refuses, bad_size, body_then, head_then, judged_so}
use Rattle.rs01_ecchead.proofs.opening.open_ecc.Goals as goal

pub returns-then-have-lt4096-clause-answer : goal.returns-then-have-lt4096-clause-answer
returns-then-have-lt4096-clause-answer g c = λ t _. too_short _ _ (sym c.in-Some.is ∙ c.in_ok-have.ensures.size t) c.if-have-lt4096.true

pub returns-in_err-head-clause-answer : goal.returns-in_err-head-clause-answer
returns-in_err-head-clause-answer g c = λ t.
    let p = err_from_is_err_and c.from_residual-in_err-head.result c.from_residual-in_err-head.ensures.1 in
    header_refuses (g.D.Desk.state c.args.desk.now).files _ c.args.name.now c.in-Some.have _ p.0 _ p.1 p.2
    (sym c.in-Some.is ∙ c.in_ok-have.ensures.size t) (c.in_ok-have.ensures.reads.unchanged t) c.if-have-lt4096.false c.in_err-head.ensures.causes
    (c.in_err-head.ensures.header (subst IsTrue (sym c.in_ok-have.ensures.reads.tells) t))

pub returns-then-have-want-clause-answer : goal.returns-then-have-want-clause-answer
returns-then-have-want-clause-answer g c = λ t _.
    let size = sym c.in-Some.is ∙ c.in_ok-have.ensures.size t in
    let told = subst IsTrue (sym c.in_ok-have.ensures.reads.tells) t in
    let head = head_then _ _ c.args.name.now _ (Ok (fields_of c.in_ok-head.head)) size (c.in_ok-have.ensures.reads.unchanged t) c.if-have-lt4096.false (c.in_ok-head.ensures.header told) in
    let wanted : c.file_size-want.result ≡ file_size c.in_ok-head.head.sectors c.in_ok-head.head.parity =
    c.file_size-want.ensures ∙ (λ i. file_size (c.shape-shape.ensures.sectors i) (c.shape-shape.ensures.parity i)) in
    bad_size _ _ (fields_of c.in_ok-head.head) size c.if-have-lt4096.false head (λ e. c.if-have-want.true (e ∙ sym wanted))
    ∙ ap (λ n. Err (Size c.in-Some.have n)) (sym wanted)

pub returns-clause-answer : goal.returns-clause-answer
returns-clause-answer g c = λ t.
    let size = sym c.in-Some.is ∙ c.in_ok-have.ensures.size t in
    let told = subst IsTrue (sym c.in_ok-have.ensures.reads.tells) t in
    let still = subst IsTrue (sym c.in_ok-head.ensures.reads.tells) told in
    let same = c.in_ok-head.ensures.reads.unchanged told ∙ c.in_ok-have.ensures.reads.unchanged t in
    let head = head_then _ _ c.args.name.now _ (Ok (fields_of c.in_ok-head.head)) size (c.in_ok-have.ensures.reads.unchanged t) c.if-have-lt4096.false (c.in_ok-head.ensures.header told) in
    let wanted : file_size c.shape-shape.result.sectors c.shape-shape.result.parity ≡ file_size c.in_ok-head.head.sectors c.in_ok-head.head.parity =
    λ i. file_size (c.shape-shape.ensures.sectors i) (c.shape-shape.ensures.parity i) in
    let right = c.if-have-want.false ∙ c.file_size-want.ensures in
    judged_so _ _ c.in_ok-head.head c.in_ok-body.body c.judge_body.result c.judge_body.ensures.judged size c.if-have-lt4096.false head (right ∙ wanted)
    (body_then _ _ c.args.name.now _ _ c.in_ok-body.body c.shape-shape.result.sectors _ size same right c.shape-shape.ensures.sectors (c.in_ok-body.ensures.body still))
