use Rattle.std.proofs.Common.{◌≡◌, ◌∙◌, ap, sym, subst}
use Rattle.rs01_repair.specs.Given.{IsReady}
use Rattle.rs01_repair.specs.declared.batch.Batch.{Batch}
use Rattle.rs01_repair.proofs.GivenLemmas.{gives_next}
use Rattle.rs01_repair.proofs.given.next_input.Goals.{then-batch-len+else-batch-layers+in_ok-refill, else-batch-len}
use Rattle.rs01_repair.proofs.given.next_input.Goals as goal

pub returns-clause-given : goal.returns-clause-given
returns-clause-given g c =
    let found = c.args.found.now in
    let image = c.args.image.now in
    let ecc = c.args.ecc.now in
    let state = g.D.Desk.state c.if-batch-len.desk in
    let batch = c.if-batch-len.batch in
    let ready : IsReady found image ecc state batch = elim c.if-batch-len.branch [
      | then-batch-len+else-batch-layers+in_ok-refill w ↦
          subst (λ d. IsReady found image ecc (g.D.Desk.state d) batch) (sym w.desk-is)
          (subst (λ (b : Batch). IsReady found image ecc (g.D.Desk.state w.refill.new.desk) b) (sym w.batch-is) w.in_ok-refill.ensures.ready)
      | else-batch-len w ↦
          subst (λ d. IsReady found image ecc (g.D.Desk.state d) batch) (sym w.desk-is)
          (subst (λ (b : Batch). IsReady found image ecc (g.D.Desk.state c.args.desk.now) b) (sym w.batch-is) c.requires)
    ] in
    let same : batch.next ≡ c.args.batch.now.next = elim c.if-batch-len.branch [
      | then-batch-len+else-batch-layers+in_ok-refill w ↦ ap (λ (b : Batch). b.next) w.batch-is ∙ w.in_ok-refill.ensures.next
      | else-batch-len w ↦ ap (λ (b : Batch). b.next) w.batch-is
    ] in
    gives_next found image ecc state c.args.batch.now batch c.take_next.new.batch c.in_ok-take_next.field-0 ready same
    c.in_ok-take_next.ensures.layer c.in_ok-take_next.ensures.next c.in_ok-take_next.ensures.shape c.in_ok-take_next.ensures.held
    c.in_ok-take_next.ensures.told c.in_ok-take_next.ensures.these
