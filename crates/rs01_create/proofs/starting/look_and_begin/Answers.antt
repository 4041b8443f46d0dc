use Rattle.std.proofs.Common.{List, ℕ, ◌++◌, ◌∙◌, ap, subst}
use Rattle.rs01_lists.specs.Bytes.{zeros}
use Rattle.rs01_outside.specs.Files.{Becomes}
use Rattle.rs01_create.specs.Beginning.{IsStart}
use Rattle.rs01_create.specs.declared.plan.Plan.{Plan}
use Rattle.rs01_create.proofs.Ends.{is_started, lacking, let_go, refused}
use Rattle.rs01_create.proofs.starting.look_and_begin.Goals as goal

pub returns-in-Ok-begin-clause-started : goal.returns-in-Ok-begin-clause-started
returns-in-Ok-begin-clause-started g c =
    is_started c.args.image.now c.args.ecc.now c.args.parity (g.D.Desk.state c.args.desk.now) (g.D.Desk.state c.look.new.desk) (g.D.Desk.state c.begin.new.desk)
    c.let_go.result c.in-Ok.found.sums.items c.in-Ok-begin.course c.requires.differ c.in-Ok.ensures.reads (let_go (g.D.Desk.state c.args.desk.now) c.args.image.now c.in-Ok.found c.let_go.result c.in-Ok.ensures.answer c.let_go.ensures.plan c.let_go.ensures.image_sum c.let_go.ensures.fingerprint)
    c.in-Ok.ensures.sums (ap (λ (p : Plan). p.shape.parity) c.let_go.ensures.plan ∙ c.in-Ok.ensures.parity) c.in-Ok-begin.ensures.changes
    (λ t. subst (λ (xs : List ℕ). Becomes c.args.ecc.now (zeros 4096 ++ xs) (g.D.Desk.state c.look.new.desk).files (g.D.Desk.state c.begin.new.desk).files) c.deref.ensures.value
    (c.in-Ok-begin.ensures.begun t))
    (subst (λ (xs : List ℕ). IsStart xs c.in-Ok-begin.course) c.deref.ensures.value c.in-Ok-begin.ensures.start)

pub returns-in_default-clause-refused : goal.returns-in_default-clause-refused
returns-in_default-clause-refused g c = lacking c.args.image.now c.args.ecc.now c.args.parity _ _ c.in-Ok.ensures.reads

pub returns-in-Err-clause-refused : goal.returns-in-Err-clause-refused
returns-in-Err-clause-refused g c =
    refused c.args.image.now c.args.ecc.now c.args.parity _ _ c.in-Err.why c.in-Err.ensures.reads c.in-Err.ensures.answer c.in-Err.ensures.many c.in-Err.ensures.never
