-- The tally is kept, and leaves the states that the definition asks for.
use Rattle.std.proofs.Common.{◌≡◌, ℕ, ◌+◌, ◌-◌, ◌%◌, ◌^◌, ◌<◌, ◌≤◌, ⊎_elim, List, ◌++◌, length, take, drop, get_or, refl, sym, ap, subst, ◌∙◌, arith}
use Rattle.std.specs.Prelude.{Option, Some, None, Bool, true, false, ◌≢◌, ◌==◌, ◌&&◌, not, nat_le}
use Rattle.std.specs.List.{range_with_len, count_by}
use Rattle.std.proofs.Math.ListN.{set}
use Rattle.std.proofs.lemmas.List.{take_all, take-append-le, length-set, get_or-set_same, get_or-set_other}
use Rattle.std.proofs.lemmas.Bool.{cases_eq, eq-eqb, ne_eqb, false≢true}
use Rattle.rs01_layers.specs.Layout.{layers_of}
use Rattle.rs01_layers.specs.declared.shape.Shape.{Shape}
use Rattle.rs01_states.specs.Sparing.{IsUnread, Survey, survey_of, state_of, is_unread, is_open, lacks, open_count, within_bound, spared_where, spared_all}
use Rattle.rs01_states.specs.Tally.{AreCounts, IsTally, IsKept, GoodIsMarked, spared_in_layer}
use Rattle.rs01_states.specs.declared.state.State.{State}
use Rattle.rs01_states.specs.declared.state.State.TheVariants.{Good, Failed}
use Rattle.rs01_states.proofs.RangeLemmas.{agree, one-fewer}
use Rattle.rs01_states.proofs.StateLemmas.{unread-is-open, not-enough, unread-after, matters-if-unread, set-here, set-elsewhere, unread-inside, same-open, is-beyond, is-inside, beyond-bound, length-spared, spared-at, all-are-spared, open-after}
use Rattle.rs01_states.proofs.LayerLemmas.{layer-below}

-- after the sparing, right counts are a tally
pub tally-after : (layers bound : ℕ) (states : List State) (counts : List ℕ) → length states < 2 ^ 32 → AreCounts layers states counts → IsTally layers bound (spared_all layers bound states) counts
tally-after layers bound states counts few t = record {
  few = omega (arith, length-spared layers bound states);
  counted = record {
    some = t.some;
    len = t.len;
    right = λ l below. t.right l below ∙ sym (open-after layers bound l states);
  };
  beyond = λ s unread.
      let out = unread-after (state_of states s) (within_bound layers bound (s % layers) states) (ap is_unread (sym (spared-at layers bound states s)) ∙ unread) in
      omega (arith, beyond-bound layers bound (s % layers) states out, open-after layers bound (s % layers) states);
}

-- sector s becomes good

own-count : (layers s : ℕ) (states : List State) → IsUnread states s → open_count layers (s % layers) states ≡ open_count layers (s % layers) (set states s Good) + 1
unfolding open_count
own-count layers s states u =
    let h = unread-inside states s u in
    let o = unread-is-open (state_of states s) u in
    let before : lacks layers (s % layers) states s ≡ true = ap (λ (b : Bool). b && is_open (state_of states s)) (eq-eqb (s % layers) (s % layers) refl) ∙ o in
    let after : lacks layers (s % layers) (set states s Good) s ≡ false = ap (λ (b : Bool). b && is_open (state_of (set states s Good) s)) (eq-eqb (s % layers) (s % layers) refl) ∙ ap is_open (set-here states s Good h) in
    one-fewer (lacks layers (s % layers) states) (lacks layers (s % layers) (set states s Good)) 0 (length states) s (omega arith) (omega arith) before after
    (λ k n. ap (λ (x : State). (k % layers == s % layers) && is_open x) (sym (set-elsewhere states s k Good n)))
    ∙ ap (λ (n : ℕ). count_by (lacks layers (s % layers) (set states s Good)) (range_with_len 0 n) + 1) (sym (length-set states s Good))

other-count : (layers l s : ℕ) (states : List State) → l ≢ s % layers → open_count layers l (set states s Good) ≡ open_count layers l states
unfolding open_count
other-count layers l s states n =
    agree (lacks layers l (set states s Good)) (lacks layers l states) 0 (length (set states s Good))
    (λ k low high. ⊎_elim
    (λ e. let elsewhere : (k % layers == l) ≡ false = ne_eqb (k % layers) l (λ w. n (sym w ∙ ap (λ (m : ℕ). m % layers) e)) in
    ap (λ (b : Bool). b && is_open (state_of (set states s Good) k)) elsewhere ∙ sym (ap (λ (b : Bool). b && is_open (state_of states k)) elsewhere))
    (λ d. ap (λ (x : State). (k % layers == l) && is_open x) (set-elsewhere states s k Good d))
    (cases_eq k s))
    ∙ ap (λ (m : ℕ). count_by (lacks layers l states) (range_with_len 0 m)) (length-set states s Good)

counts-after : (layers bound s n : ℕ) (states : List State) (counts : List ℕ) → IsTally layers bound states counts → IsUnread states s
    → n + 1 ≡ get_or counts (s % layers) 0 → AreCounts layers (set states s Good) (set counts (s % layers) n)
counts-after layers bound s n states counts t u is = record {
  some = t.counted.some;
  len = length-set counts (s % layers) n ∙ t.counted.len;
  right = λ l below. ⊎_elim
      (λ e.
      ap (λ (m : ℕ). get_or (set counts (s % layers) n) m 0) e
      ∙ get_or-set_same counts (s % layers) n 0 (omega (arith, t.counted.len, layer-below s layers t.counted.some))
      ∙ omega (arith, t.counted.right (s % layers) (layer-below s layers t.counted.some), own-count layers s states u)
      ∙ ap (λ (m : ℕ). open_count layers m (set states s Good)) (sym e))
      (λ d. get_or-set_other counts (s % layers) l n 0 d ∙ t.counted.right l below ∙ sym (other-count layers l s states d))
      (cases_eq l (s % layers));
}

-- an unread sector of another layer is as far from being spared as before
still-beyond : (layers bound s k : ℕ) (states : List State) (counts : List ℕ) → IsTally layers bound states counts
    → is_unread (state_of (set states s Good) k) ≡ true → k % layers ≢ s % layers → within_bound layers bound (k % layers) (set states s Good) ≡ false
still-beyond layers bound s k states counts t v n =
    let apart : k ≢ s = λ e. n (ap (λ (m : ℕ). m % layers) e) in
    let before : is_unread (state_of states k) ≡ true = ap is_unread (sym (set-elsewhere states s k Good apart)) ∙ v in
    is-beyond layers bound (k % layers) (set states s Good) (omega (arith, t.beyond k before, other-count layers (k % layers) s states n))

-- where `came` tells whether the layer of s is within its bound now, sparing in that layer alone is all the sparing there is
spared-as-defined : (layers bound s : ℕ) (states new : List State) (counts : List ℕ) (came : Bool) → IsTally layers bound states counts
    → within_bound layers bound (s % layers) (set states s Good) ≡ came → length new ≡ length (set states s Good)
    → ((k : ℕ) → state_of new k ≡ spared_where (state_of (set states s Good) k) ((k % layers == s % layers) && came))
    → new ≡ spared_all layers bound (set states s Good)
spared-as-defined layers bound s states new counts came t w len same =
    all-are-spared layers bound (set states s Good) new len (λ k below.
    same k
    ∙ matters-if-unread (state_of (set states s Good) k) ((k % layers == s % layers) && came) (within_bound layers bound (k % layers) (set states s Good)) (λ v. ⊎_elim
    (λ e. ap (λ (b : Bool). b && came) (eq-eqb (k % layers) (s % layers) e)
    ∙ sym (ap (λ (m : ℕ). within_bound layers bound m (set states s Good)) e ∙ w))
    (λ d. ap (λ (b : Bool). b && came) (ne_eqb (k % layers) (s % layers) d) ∙ sym (still-beyond layers bound s k states counts t v d))
    (cases_eq (k % layers) (s % layers))))

and-true : (b : Bool) → (b && true) ≡ b
and-true true = refl
and-true false = refl

and-false : (b : Bool) → (b && false) ≡ false
and-false true = refl
and-false false = refl

-- an unread sector's layer wasn't within its bound before
came-now : (layers bound s : ℕ) (states new : List State) (counts : List ℕ) (came : Bool) → IsTally layers bound states counts → IsUnread states s
    → new ≡ spared_all layers bound (set states s Good) → within_bound layers bound (s % layers) (set states s Good) ≡ came
    → came ≡ (within_bound layers bound (s % layers) new && not (within_bound layers bound (s % layers) states))
unfolding within_bound
came-now layers bound s states new counts came t u e w =
    let before : within_bound layers bound (s % layers) states ≡ false = is-beyond layers bound (s % layers) states (t.beyond s u) in
    let after : within_bound layers bound (s % layers) new ≡ came =
    ap (λ (xs : List State). within_bound layers bound (s % layers) xs) e
    ∙ ap (λ (n : ℕ). nat_le n bound) (open-after layers bound (s % layers) (set states s Good)) ∙ w in
    sym (ap (λ (x : Bool). x && not (within_bound layers bound (s % layers) states)) after ∙ ap (λ (x : Bool). came && not x) before ∙ and-true came)

marked : (layers bound s n : ℕ) (states new : List State) (counts : List ℕ) (came : Bool) → IsTally layers bound states counts → IsUnread states s
    → n + 1 ≡ get_or counts (s % layers) 0 → within_bound layers bound (s % layers) (set states s Good) ≡ came → new ≡ spared_all layers bound (set states s Good)
    → GoodIsMarked layers bound s states new (set counts (s % layers) n) came
marked layers bound s n states new counts came t u is w same = record {
  tally = subst (λ (xs : List State). IsTally layers bound xs (set counts (s % layers) n)) (sym same)
      (tally-after layers bound (set states s Good) (set counts (s % layers) n) (omega (arith, t.few, length-set states s Good)) (counts-after layers bound s n states counts t u is));
  states_are = same;
  came_is = came-now layers bound s states new counts came t u same w;
}

count-is : (layers bound s n : ℕ) (states : List State) (counts : List ℕ) → IsTally layers bound states counts → IsUnread states s
    → n + 1 ≡ get_or counts (s % layers) 0 → n ≡ open_count layers (s % layers) (set states s Good)
count-is layers bound s n states counts t u is =
    omega (arith, is, t.counted.right (s % layers) (layer-below s layers t.counted.some), own-count layers s states u)

-- there is one to take away, since the layer is beyond its bound
one-less : (layers bound s : ℕ) (states : List State) (counts : List ℕ) → IsTally layers bound states counts → IsUnread states s → get_or counts (s % layers) 0 - 1 + 1 ≡ get_or counts (s % layers) 0
one-less layers bound s states counts t u = omega (arith, t.beyond s u, t.counted.right (s % layers) (layer-below s layers t.counted.some))

read-back : (layers bound s n : ℕ) (states : List State) (counts : List ℕ) → IsTally layers bound states counts → get_or (set counts (s % layers) n) (s % layers) 0 ≡ n
read-back layers bound s n states counts t = get_or-set_same counts (s % layers) n 0 (omega (arith, t.counted.len, layer-below s layers t.counted.some))

-- its layer is still beyond the bound
pub marked-beyond : (layers bound s : ℕ) (states : List State) (counts : List ℕ) → IsTally layers bound states counts → IsUnread states s
    → bound < get_or (set counts (s % layers) (get_or counts (s % layers) 0 - 1)) (s % layers) 0
    → GoodIsMarked layers bound s states (set states s Good) (set counts (s % layers) (get_or counts (s % layers) 0 - 1)) false
marked-beyond layers bound s states counts t u more =
    let n : ℕ = get_or counts (s % layers) 0 - 1 in
    let is = one-less layers bound s states counts t u in
    let count = count-is layers bound s n states counts t u is in
    let out : within_bound layers bound (s % layers) (set states s Good) ≡ false = is-beyond layers bound (s % layers) (set states s Good) (omega (arith, more, count, read-back layers bound s n states counts t)) in
    marked layers bound s n states (set states s Good) counts false t u is out
    (spared-as-defined layers bound s states (set states s Good) counts false t out refl
    (λ k. sym (not-enough (state_of (set states s Good) k)) ∙ ap (λ (b : Bool). spared_where (state_of (set states s Good) k) b) (sym (and-false (k % layers == s % layers)))))

-- its layer came within the bound, and its unread sectors were spared
pub marked-within : (layers bound s : ℕ) (states new : List State) (counts : List ℕ) → IsTally layers bound states counts → IsUnread states s
    → get_or (set counts (s % layers) (get_or counts (s % layers) 0 - 1)) (s % layers) 0 ≤ bound → length new ≡ length (set states s Good)
    → ((k : ℕ) → state_of new k ≡ spared_in_layer layers (s % layers) (set states s Good) k)
    → GoodIsMarked layers bound s states new (set counts (s % layers) (get_or counts (s % layers) 0 - 1)) true
marked-within layers bound s states new counts t u few len at =
    let n : ℕ = get_or counts (s % layers) 0 - 1 in
    let is = one-less layers bound s states counts t u in
    let count = count-is layers bound s n states counts t u is in
    let enough : within_bound layers bound (s % layers) (set states s Good) ≡ true = is-inside layers bound (s % layers) (set states s Good) (omega (arith, few, count, read-back layers bound s n states counts t)) in
    marked layers bound s n states new counts true t u is enough
    (spared-as-defined layers bound s states new counts true t enough len
    (λ k. at k ∙ ap (λ (b : Bool). spared_where (state_of (set states s Good) k) b) (sym (and-true (k % layers == s % layers)))))

-- sector s fails: it stays open, and no other is touched

tally-failed : (layers bound s : ℕ) (states : List State) (counts : List ℕ) → IsTally layers bound states counts → IsUnread states s → IsTally layers bound (set states s Failed) counts
tally-failed layers bound s states counts t u =
    let h = unread-inside states s u in
    let alike : (k : ℕ) → is_open (state_of (set states s Failed) k) ≡ is_open (state_of states k) = λ k. ⊎_elim
    (λ e. ap (λ (m : ℕ). is_open (state_of (set states s Failed) m)) e ∙ ap is_open (set-here states s Failed h) ∙ sym (unread-is-open (state_of states s) u) ∙ ap (λ (m : ℕ). is_open (state_of states m)) (sym e))
    (λ n. ap is_open (set-elsewhere states s k Failed n))
    (cases_eq k s) in
    let count : (l : ℕ) → open_count layers l (set states s Failed) ≡ open_count layers l states = λ l. same-open layers l (set states s Failed) states (length-set states s Failed) alike in
    record {
      few = omega (arith, t.few, length-set states s Failed);
      counted = record {
        some = t.counted.some;
        len = t.counted.len;
        right = λ l below. t.counted.right l below ∙ sym (count l);
      };
      beyond = λ k v. ⊎_elim
          (λ e. absurd (false≢true (sym (ap (λ (m : ℕ). is_unread (state_of (set states s Failed) m)) e ∙ ap is_unread (set-here states s Failed h)) ∙ v)))
          (λ n. omega (arith, count (k % layers), t.beyond k (sym (ap is_unread (set-elsewhere states s k Failed n)) ∙ v)))
          (cases_eq k s);
    }

-- with a shape, or without

pub kept-failed : (shape : Option Shape) (states : List State) (counts : List ℕ) (view : Survey) (s : ℕ) → IsKept shape states counts → survey_of shape states ≡ view
    → IsUnread view.states s → IsKept shape (set states s Failed) counts
kept-failed None states counts view s t e u = omega (arith, t, length-set states s Failed)
kept-failed (Some shape) states counts view s t e u =
    let same : states ≡ view.states = ap (λ (v : Survey). v.states) e in
    tally-failed (layers_of shape.sectors shape.parity) shape.parity s states counts t (subst (λ (xs : List State). IsUnread xs s) (sym same) u)

-- the start: the vector holds what was written to it as a slice
pub tally-started : (layers bound n : ℕ) (states lent counted new rest : List State) (counts : List ℕ) → length states < 2 ^ 32
    → counted ≡ states → AreCounts layers counted counts
    → lent ≡ states → new ≡ spared_all layers bound lent → length states ≡ n → IsTally layers bound (take n (new ++ drop (length new) rest)) counts
tally-started layers bound n states lent counted new rest counts few c t l is count =
    let new_is : new ≡ spared_all layers bound states = is ∙ ap (λ (xs : List State). spared_all layers bound xs) l in
    let long : length new ≡ n = ap length new_is ∙ length-spared layers bound states ∙ count in
    let back : take n (new ++ drop (length new) rest) ≡ spared_all layers bound states =
    take-append-le n new (drop (length new) rest) (omega arith) ∙ take_all n new (omega arith) ∙ new_is in
    subst (λ (xs : List State). IsTally layers bound xs counts) (sym back)
    (tally-after layers bound states counts few (subst (λ (xs : List State). AreCounts layers xs counts) c t))
