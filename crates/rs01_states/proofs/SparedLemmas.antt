-- Who is spared, and what is left.
use Rattle.std.proofs.Common.{◌≡◌, ℕ, ◌%◌, List, refl, sym, ap, ◌∙◌}
use Rattle.std.specs.Prelude.{Some, None, Bool, true, false, nat_le}
use Rattle.std.proofs.lemmas.Bool.{false≢true}
use Rattle.rs01_layers.specs.Layout.{layers_of}
use Rattle.rs01_states.specs.declared.state.State.{State}
use Rattle.rs01_states.specs.declared.state.State.TheVariants.{Spared}
use Rattle.rs01_states.specs.Sparing.{is_unread, state_of, within_bound, spared_where, spared_all}
use Rattle.rs01_states.specs.SparingLaws.{NoneIsLeft, SparedLieWithin, OthersStay}
use Rattle.rs01_states.proofs.StateLemmas.{unread-after, matters-if-unread, not-enough, spared-at, open-after}

-- a layer is within its bound afterwards where it was before
within-stays : (layers bound l : ℕ) (states : List State) → within_bound layers bound l (spared_all layers bound states) ≡ within_bound layers bound l states
unfolding within_bound
within-stays layers bound l states = ap (λ (n : ℕ). nat_le n bound) (open-after layers bound l states)

pub none-is-left : NoneIsLeft
none-is-left None states s u = refl
none-is-left (Some shape) states s u =
    let layers = layers_of shape.sectors shape.parity in
    within-stays layers shape.parity (s % layers) states
    ∙ unread-after (state_of states s) (within_bound layers shape.parity (s % layers) states) (ap is_unread (sym (spared-at layers shape.parity states s)) ∙ u)

-- an unread state that became spared was to be
spared-enough : (x : State) (enough : Bool) → is_unread x ≡ true → spared_where x enough ≡ Spared → enough ≡ true
unfolding spared_where
spared-enough x true u e = refl
spared-enough x false u e = absurd (false≢true (ap is_unread (sym e) ∙ u))

pub spared-lie-within : SparedLieWithin
spared-lie-within None states s u e = absurd (false≢true (ap is_unread (sym e) ∙ u))
spared-lie-within (Some shape) states s u e =
    let layers = layers_of shape.sectors shape.parity in
    within-stays layers shape.parity (s % layers) states
    ∙ spared-enough (state_of states s) (within_bound layers shape.parity (s % layers) states) u (sym (spared-at layers shape.parity states s) ∙ e)

pub others-stay : OthersStay
others-stay None states s n = refl
others-stay (Some shape) states s n =
    let layers = layers_of shape.sectors shape.parity in
    spared-at layers shape.parity states s
    ∙ matters-if-unread (state_of states s) (within_bound layers shape.parity (s % layers) states) false (λ u. absurd (false≢true (sym n ∙ u)))
    ∙ not-enough (state_of states s)
