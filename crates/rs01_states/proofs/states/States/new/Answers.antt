use Rattle.std.proofs.Common.{◌≡◌, ◌∙◌, ℕ, ap, sym, subst, length, arith}
use Rattle.rs01_states.specs.Sparing.{spared_all}
use Rattle.rs01_states.specs.Tally.{AreCounts}
use Rattle.rs01_layers.specs.Layout.{layers_of}
use Rattle.rs01_states.proofs.StateLemmas.{length-found}
use Rattle.rs01_states.proofs.TallyLemmas.{tally-started}
use Rattle.rs01_states.proofs.states.States.new.Goals as goal

pub invariant_of-result-in-Some : goal.invariant_of-result-in-Some
invariant_of-result-in-Some c =
    let layers : c.layers-layers.result ≡ layers_of c.in-Some.given.sectors c.in-Some.given.parity = c.layers-layers.ensures.value in
    let counted = subst (λ (m : ℕ). AreCounts m c.deref.result.now c.in_ok-counts-in-Some.counts.items) layers c.in_ok-counts-in-Some.ensures in
    let all = c.spare_all.ensures
    ∙ ap (λ (m : ℕ). spared_all m c.parity.result c.deref_mut.result.now) layers
    ∙ ap (λ (b : ℕ). spared_all (layers_of c.in-Some.given.sectors c.in-Some.given.parity) b c.deref_mut.result.now) c.parity.ensures in
    tally-started _ _ _ _ _ _ _ _ _
    (omega (arith, ap length c.in_ok-states.ensures, length-found c.args.good.now, c.requires.flags))
    c.deref.ensures.value counted c.deref_mut.ensures.value all (sym c.in_ok-states.states.ok.0)
