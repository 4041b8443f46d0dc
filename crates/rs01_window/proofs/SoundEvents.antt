-- Each event keeps what holds of each state.
use Rattle.std.proofs.Common.{◌≡◌, ◌≢◌, ℕ, zero, suc, ◌+◌, ◌<◌, ◌≤◌, true, false, List, [], ◌∷◌, ◌++◌, length, set, sym, refl, ap, ◌∙◌, arith, ⊎_elim, subst, slice_get, Option, Some, None, replicate, length-set, length-append}
use Rattle.std.proofs.lemmas.Bool.{cases_lt, cases_eq}
use Rattle.rs01_layers.specs.declared.input.LayerInput.{LayerInput}
use Rattle.rs01_layers.specs.declared.task.LayerOut.{LayerOut}
use Rattle.rs01_window.specs.declared.events.CoreGiven.{CoreGiven}
use Rattle.rs01_window.specs.declared.events.CoreGiven.TheVariants.{Done}
use Rattle.rs01_window.specs.declared.status.Status.{Status}
use Rattle.rs01_window.specs.declared.status.Status.TheVariants.{Idle, Waits, Holds, Over}
use Rattle.rs01_window.specs.Machine.{Machine, fresh, with_status, with_posted, when_closed, with_drawn, with_given, input_of, input_at, MayGive, IsValueOf, IsValueAt, IsOver}
use Rattle.rs01_window.specs.Soundness.{total, same_test, tickets_of, busy, filled, filled_at, times_known, IsSound}
use Rattle.rs01_window.proofs.ListLemmas.{some_same, at_set, set_here, set_else, at_snoc, within, there, total-set, total-snoc, total-one, total-few, busy_le, filled_le, same_self, same_other, idle_total, result_snoc}

module _ (value : LayerInput → LayerOut) where
  pub sound_fresh : (n k : ℕ) → IsSound value (fresh n k)
  sound_fresh n k = record {
    long = refl;
    fits = omega arith;
    once = λ x. omega (arith, idle_total (tickets_of x) refl k);
    undrawn = λ x h. omega (arith, idle_total (tickets_of x) refl k);
    count = omega (arith, idle_total busy refl k);
    holds = λ w t e. absurd (no_hold k w t e);
    values = λ k' i g e e'. absurd cc;
    while_open = λ e x h. absurd (omega arith);
    posted_known = λ x h h'. absurd (omega arith);
    over = λ w e. absurd (no_over k w e);
  }
    where
      no_hold : (k w t : ℕ) → slice_get (replicate k Idle) w ≡ Some (Holds t) → ⊥
      no_hold zero w t e = cc
      no_hold (suc k) zero t e = cc
      no_hold (suc k) (suc w) t e = no_hold k w t e

      no_over : (k w : ℕ) → slice_get (replicate k Idle) w ≡ Some Over → ⊥
      no_over zero w e = cc
      no_over (suc k) zero e = cc
      no_over (suc k) (suc w) e = no_over k w e

  module _ (m : Machine) (r : IsSound value m) where
    pub few : m.next ≤ m.slots + length m.workers
    few = omega (arith, r.count, r.fits, r.long, total-few filled m.results filled_le, total-few busy m.workers busy_le)

    pub sound_post : (i : LayerInput) → m.closed ≡ false → length m.posted < m.slots → IsSound value (with_posted m i)
    sound_post i going room =
        let m' : Machine = with_posted m i in
        let same : (x : ℕ) → times_known m' x ≡ times_known m x = (λ x. omega (arith, result_snoc m.results x)) in
        let longer : length (m.posted ++ i ∷ []) ≡ length m.posted + 1 = length-append m.posted (i ∷ []) in
        record {
          long = omega (arith, longer, r.long, length-append m.results (None ∷ []));
          fits = omega arith;
          once = λ x. omega (arith, same x, r.once x);
          undrawn = λ x h. same x ∙ r.undrawn x h;
          count = omega (arith, r.count, total-snoc filled m.results None);
          holds = λ w t e. omega (arith, r.holds w t e);
          values = λ k j g e e'. ⊎_elim
              (λ old. ⊎_elim
              (λ old'. r.values k j g old old')
              (λ new. absurd (omega (arith, within m.posted k j old, r.long)))
              (at_snoc m.results None (Some g) k e'))
              (λ new. ⊎_elim
              (λ old'. absurd (omega (arith, within m.results k (Some g) old', r.long)))
              (λ new'. absurd cc)
              (at_snoc m.results None (Some g) k e'))
              (at_snoc m.posted i j k e);
          while_open = λ e x h. same x ∙ r.while_open e x h;
          posted_known = λ x h h'. same x ∙ r.while_open going x h;
          over = λ w e. let o = r.over w e in let no : false ≡ true = sym going ∙ o.0 in absurd cc;
        }

    pub sound_close : IsSound value (when_closed m)
    sound_close = record {
      long = r.long;
      fits = r.fits;
      once = r.once;
      undrawn = r.undrawn;
      count = r.count;
      holds = r.holds;
      values = r.values;
      while_open = λ e x h. absurd cc;
      posted_known = r.posted_known;
      over = λ w e. (refl, (r.over w e).1);
    }

    module _ (w : ℕ) (s s' : Status) (at : slice_get m.workers w ≡ Some s) where
      changed : (x : ℕ) → total (tickets_of x) (set m.workers w s') + tickets_of x s ≡ total (tickets_of x) m.workers + tickets_of x s'
      changed x = total-set (tickets_of x) m.workers w s s' at

      busier : total busy (set m.workers w s') + busy s ≡ total busy m.workers + busy s'
      busier = total-set busy m.workers w s s' at

    pub sound_draw : (w : ℕ) → slice_get m.workers w ≡ Some Idle → IsSound value (with_drawn m w)
    sound_draw w at =
        let n : ℕ = m.next in
        let m' : Machine = with_drawn m w in
        let here : times_known m' n ≡ 1 = omega (arith, changed w Idle (Waits n) at n, same_self n, r.undrawn n (omega arith)) in
        let else : (x : ℕ) → x ≢ n → times_known m' x ≡ times_known m x = (λ x ne. omega (arith, changed w Idle (Waits n) at x, same_other x n ne)) in
        record {
          long = r.long;
          fits = r.fits;
          once = λ x. ⊎_elim (λ e. subst (λ y. times_known m' y ≤ 1) (sym e) (omega (arith, here))) (λ ne. omega (arith, else x ne, r.once x)) (cases_eq x n);
          undrawn = λ x h. else x (λ e. omega arith) ∙ r.undrawn x (omega arith);
          count = omega (arith, r.count, busier w Idle (Waits n) at);
          holds = λ k t e. ⊎_elim (λ h. absurd (let f = h.1 in cc)) (λ h. r.holds k t h.1) (at_set m.workers w k (Waits n) (Holds t) e);
          values = r.values;
          while_open = λ e x h. ⊎_elim (λ same. ap (times_known m') same ∙ here) (λ ne. else x ne ∙ r.while_open e x (omega arith)) (cases_eq x n);
          posted_known = λ x h h'. ⊎_elim (λ same. ap (times_known m') same ∙ here) (λ ne. else x ne ∙ r.posted_known x (omega arith) h') (cases_eq x n);
          over = λ k e. ⊎_elim (λ h. absurd (let f = h.1 in cc)) (λ h. let o = r.over k h.1 in (o.0, omega arith)) (at_set m.workers w k (Waits n) Over e);
        }

    pub sound_got : (w t : ℕ) → slice_get m.workers w ≡ Some (Waits t) → t < length m.posted → IsSound value (with_status m w (Holds t))
    sound_got w t at below =
        let m' : Machine = with_status m w (Holds t) in
        let same : (x : ℕ) → times_known m' x ≡ times_known m x = (λ x. omega (arith, changed w (Waits t) (Holds t) at x)) in
        record {
          long = r.long;
          fits = r.fits;
          once = λ x. omega (arith, same x, r.once x);
          undrawn = λ x h. same x ∙ r.undrawn x h;
          count = omega (arith, r.count, busier w (Waits t) (Holds t) at);
          holds = λ k u e. ⊎_elim (λ h. subst (λ z. z < length m.posted) (held_same t u h.1) below) (λ h. r.holds k u h.1) (at_set m.workers w k (Holds t) (Holds u) e);
          values = r.values;
          while_open = λ e x h. same x ∙ r.while_open e x h;
          posted_known = λ x h h'. same x ∙ r.posted_known x h h';
          over = λ k e. ⊎_elim (λ h. absurd (let f = h.1 in cc)) (λ h. r.over k h.1) (at_set m.workers w k (Holds t) Over e);
        }
      where
        ticket_in : Status → ℕ
        ticket_in (Holds a) = a
        ticket_in (Waits a) = 0
        ticket_in Idle = 0
        ticket_in Over = 0

        held_same : (a b : ℕ) → Holds a ≡ Holds b → a ≡ b
        held_same a b e = ap ticket_in e

    pub sound_over : (w t : ℕ) → slice_get m.workers w ≡ Some (Waits t) → length m.posted ≤ t → m.closed ≡ true → IsSound value (with_status m w Over)
    sound_over w t at beyond shut =
        let m' : Machine = with_status m w Over in
        let less : (x : ℕ) → times_known m' x + same_test x t ≡ times_known m x = (λ x. omega (arith, changed w (Waits t) Over at x)) in
        let one : times_known m' t + 1 ≡ times_known m t = omega (arith, less t, same_self t) in
        let drawn : t < m.next = ⊎_elim (λ l. l) (λ g. absurd (omega (arith, r.undrawn t g))) (cases_lt t m.next) in
        record {
          long = r.long;
          fits = r.fits;
          once = λ x. omega (arith, less x, r.once x);
          undrawn = λ x h. omega (arith, less x, r.undrawn x h);
          count = omega (arith, r.count, busier w (Waits t) Over at);
          holds = λ k u e. ⊎_elim (λ h. absurd (let f = h.1 in cc)) (λ h. r.holds k u h.1) (at_set m.workers w k Over (Holds u) e);
          values = r.values;
          while_open = λ e x h. let no : false ≡ true = sym e ∙ shut in absurd cc;
          posted_known = λ x h h'. omega (arith, less x, same_other x t (λ e. omega arith), r.posted_known x h h');
          over = λ k e. (shut, omega arith);
        }

    value_of_posted : (w t : ℕ) (i : LayerInput) (g : CoreGiven) → slice_get m.workers w ≡ Some (Holds t) → slice_get m.posted t ≡ Some i → MayGive value m w g → IsValueOf value i g
    value_of_posted w t i g at there can =
        let had : input_of m w ≡ Some i = ap (input_at m) at ∙ there in
        subst (λ o. IsValueAt value o g) had can

    pub sound_give : (w t : ℕ) (g : CoreGiven) → slice_get m.workers w ≡ Some (Holds t) → MayGive value m w g → IsSound value (with_given m w g t)
    sound_give w t g at can =
        let m' : Machine = with_given m w g t in
        let below : t < length m.results = omega (arith, r.holds w t at, r.long) in
        let slot = there m.results t below in
        let mine : same_test t t ≤ total (tickets_of t) m.workers = total-one (tickets_of t) m.workers w (Holds t) at in
        let was : filled_at (slice_get m.results t) ≡ filled slot.0 = ap filled_at slot.1 in
        let empty : filled slot.0 ≡ 0 = omega (arith, same_self t, r.once t) in
        let now : filled_at (slice_get m'.results t) ≡ 1 = ap filled_at (set_here m.results t (Some g) below) in
        let here : times_known m' t ≡ times_known m t = omega (arith, changed w (Holds t) Idle at t, same_self t) in
        let else : (x : ℕ) → x ≢ t → times_known m' x ≡ times_known m x
        = (λ x ne. let e : filled_at (slice_get m'.results x) ≡ filled_at (slice_get m.results x) = ap filled_at (set_else m.results t x (Some g) ne) in omega (arith, changed w (Holds t) Idle at x, same_other x t ne)) in
        let same : (x : ℕ) → times_known m' x ≡ times_known m x = (λ x. ⊎_elim (λ e. ap (times_known m') e ∙ here ∙ ap (times_known m) (sym e)) (λ ne. else x ne) (cases_eq x t)) in
        record {
          long = length-set m.results t (Some g) ∙ r.long;
          fits = r.fits;
          once = λ x. omega (arith, same x, r.once x);
          undrawn = λ x h. same x ∙ r.undrawn x h;
          count = omega (arith, r.count, busier w (Holds t) Idle at, total-set filled m.results t slot.0 (Some g) slot.1);
          holds = λ k u e. ⊎_elim (λ h. absurd (let f = h.1 in cc)) (λ h. r.holds k u h.1) (at_set m.workers w k Idle (Holds u) e);
          values = λ k i h e e'. ⊎_elim
              (λ now. subst (IsValueOf value i) (some_same g h now.1) (value_of_posted w t i g at (ap (slice_get m.posted) (sym now.0) ∙ e) can))
              (λ was. r.values k i h e was.1)
              (at_set m.results t k (Some g) (Some h) e');
          while_open = λ e x h. same x ∙ r.while_open e x h;
          posted_known = λ x h h'. same x ∙ r.posted_known x h h';
          over = λ k e. ⊎_elim (λ h. absurd (let f = h.1 in cc)) (λ h. r.over k h.1) (at_set m.workers w k Idle Over e);
        }

  only_over : (f : Status → ℕ) → f Over ≡ 0 → (l : List Status) → ((w : ℕ) (status : Status) → slice_get l w ≡ Some status → status ≡ Over) → total f l ≡ 0
  only_over f e [] h = refl
  only_over f e (y ∷ l) h =
      let one : f y ≡ f Over = ap f (h 0 y refl) in
      let r = only_over f e l (λ w. h (suc w)) in
      omega arith

  pub every_result : (m : Machine) → IsSound value m → 0 < length m.workers → IsOver m
      → (k : ℕ) → k < length m.posted → (g : CoreGiven) × (slice_get m.results k ≡ Some (Some g))
  every_result m r some_worker end k below =
      let first = there m.workers 0 some_worker in
      let over : slice_get m.workers 0 ≡ Some Over = first.1 ∙ ap (λ s. Some s) (end.workers 0 first.0 first.1) in
      let drawn = (r.over 0 over).1 in
      let one : times_known m k ≡ 1 = r.posted_known k (omega arith) below in
      let none_has : total (tickets_of k) m.workers ≡ 0 = only_over (tickets_of k) refl m.workers end.workers in
      let slot = there m.results k (omega (arith, r.long)) in
      let is : filled_at (slice_get m.results k) ≡ filled slot.0 = ap filled_at slot.1 in
      let g = full slot.0 (omega arith) in
      (g.0, slot.1 ∙ ap (λ z. Some z) g.1)
    where
      full : (o : Option CoreGiven) → filled o ≡ 1 → (g : CoreGiven) × (o ≡ Some g)
      full None e = absurd (omega arith)
      full (Some g) e = (g, refl)
