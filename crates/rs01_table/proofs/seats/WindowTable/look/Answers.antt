use Rattle.std.proofs.Common.{arith, ◌≡◌, ℕ, ◌<◌, ◌/◌, ◌∷◌, List, Some, get_or, ap, sym, subst, ◌∙◌}
use Rattle.rs01_table.specs.declared.given.Given.TheVariants.{Left}
use Rattle.rs01_table.specs.Views.{after_got}
use Rattle.rs01_table.proofs.KeepLemmas.{looks}
use Rattle.rs01_table.proofs.seats.WindowTable.look.Goals as goal

pub load-requires : goal.load-requires
load-requires g c = (c.requires.mine, omega arith, looks g.T.LayerTask.fit g.T.LayerTask.value c.args.self.now.table.shared.table_id.slots c.args.seat.now.id c.args.seat.now.me c.args.ticket c.requires.works.0 c.requires.works.1 c.requires.held c.requires.empty c.requires.going)

pub returns-clause-came : goal.returns-clause-came
returns-clause-came g c below =
    let v = c.args.seat.now.me.0 in
    let word = c.load.result in
    let ticket : get_or v.held 0 0 ≡ c.args.ticket = ap (λ (l : List ℕ). get_or l 0 0) c.requires.held in
    let r = c.load.ensures.2.0 (subst (λ k. k < word / 2) (sym ticket) below) in
    (r.0, r.1, r.2 ∙ ap (λ (k : ℕ). (after_got v word record { ticket = k; input = r.0 }, (k, Some (Left r.0)) ∷ c.args.seat.now.me.1)) ticket)
