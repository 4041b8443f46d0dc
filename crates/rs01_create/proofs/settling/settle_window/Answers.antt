use Rattle.std.proofs.Common.{ℕ, List, ◌++◌, ◌∙◌, refl, subst, sym}
use Rattle.md5.specs.Md5.{Holds}
use Rattle.rs01_create.proofs.Settlings.{all_parity, settled, stopped}
use Rattle.rs01_create.proofs.settling.settle_window.Goals as goal

pub parity_of-requires : goal.parity_of-requires
parity_of-requires g c = all_parity c.args.results.now.inputs c.args.results.now.outs c.requires.worked.values

pub returns-in-Ok-clause-settles : goal.returns-in-Ok-clause-settles
returns-in-Ok-clause-settles g c =
    settled (g.D.Desk.state c.args.desk.now) (g.D.Desk.state c.write_at.new.self) c.args.image.now c.args.ecc.now c.args.plan.now c.args.kept.now c.args.course.now _
    c.args.results.now _ _ c.requires.work c.requires.worked (c.deref.ensures.value ∙ c.in_ok-parity.ensures) c.parity_offset-at.ensures
    c.in-Ok.ensures.changes c.in-Ok.ensures.written
    (λ m h. subst (λ (xs : List ℕ). Holds c.update.new.self (m ++ xs)) (sym c.deref.ensures.value) (c.update.ensures m h)) refl refl refl

pub returns-clause-stops : goal.returns-clause-stops
returns-clause-stops g c =
    stopped (g.D.Desk.state c.args.desk.now) (g.D.Desk.state c.write_at.new.self) c.args.image.now c.args.ecc.now c.args.plan.now c.args.kept.now c.args.course.now
    c.args.results.now _ _ c.requires.work c.requires.worked c.parity_offset-at.ensures c.in-Err.ensures.changes c.in-Err.ensures.written
