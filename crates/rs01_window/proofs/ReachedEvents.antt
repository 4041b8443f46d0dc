-- Each event leads on, and one more worker may have been there from the start.
use Rattle.std.proofs.Common.{◌≡◌, ℕ, zero, suc, ◌+◌, ◌<◌, ◌≤◌, cond, nat_lt, Bool, true, false, List, [], ◌∷◌, ◌++◌, length, set, sym, refl, ap, ◌∙◌, arith, subst, ⊎_elim, slice_get, Option, Some, None, replicate, Ok}
use Rattle.std.proofs.lemmas.Bool.Decides.{nat_tests}
use Rattle.rs01_layers.specs.declared.input.LayerInput.{LayerInput}
use Rattle.rs01_layers.specs.declared.task.LayerOut.{LayerOut}
use Rattle.rs01_window.specs.declared.events.CoreGiven.{CoreGiven}
use Rattle.rs01_window.specs.declared.status.Status.{Status}
use Rattle.rs01_window.specs.declared.status.Status.TheVariants.{Idle, Waits, Holds, Over}
use Rattle.rs01_window.specs.declared.events.Event.{Event}
use Rattle.rs01_window.specs.declared.events.Event.TheVariants.{Post, Close, Draw, Take, Give}
use Rattle.rs01_window.specs.declared.events.Seen.{Seen}
use Rattle.rs01_window.specs.declared.events.Seen.TheVariants.{Slot, Closed as NowClosed, Ticket, Took, Given}
use Rattle.rs01_window.specs.declared.events.PostRefusal.TheVariants.{Closed, Full}
use Rattle.rs01_window.specs.declared.events.TakeSeen.TheVariants.{Got, NotYet, Over as SawEnd}
use Rattle.rs01_window.specs.Machine.{Machine, Answer, Outcome, fresh, after, draw, take, look, give, with_status, with_posted, when_closed, with_drawn, with_given, refused, input_at, input_of, IsValueAt, MayGive, KeepsToTask}
use Rattle.rs01_window.specs.Reached.{Reached, start, next}
use Rattle.rs01_window.proofs.ListLemmas.{within, at_snoc}

abbrev pub more : Machine → Machine
more m = record m { workers = m.workers ++ Idle ∷ [] }

if_true : {A : Type 0} (b : Bool) (x y : A) → b ≡ true → cond b x y ≡ x
if_true b x y e = ap (λ z. cond z x y) e

if_false : {A : Type 0} (b : Bool) (x y : A) → b ≡ false → cond b x y ≡ y
if_false b x y e = ap (λ z. cond z x y) e

below_is : (x n : ℕ) → x < n → nat_lt x n ≡ true
below_is x n h = grind (arith, nat_tests)

beyond_is : (x n : ℕ) → n ≤ x → nat_lt x n ≡ false
beyond_is x n h = grind (arith, nat_tests)

module _ (value : LayerInput → LayerOut) where
  -- what an event comes to is reached
  leads : (m m' : Machine) (e : Event) (seen : Seen) → Reached value m → KeepsToTask value m e → after m e ≡ (m', Ok seen) → Reached value m'
  leads m m' e seen r can is = subst (Reached value) (ap (λ (z : Outcome). z.0) is) (next m e seen r (ap (λ (z : Outcome). z.1) is) can)

  pub reached_post : (m : Machine) (i : LayerInput) → Reached value m → m.closed ≡ false → length m.posted < m.slots → Reached value (with_posted m i)
  reached_post m i r going room = leads m (with_posted m i) (Post i) (Slot (length m.posted)) r tt
      (if_false m.closed _ _ going ∙ if_true (nat_lt (length m.posted) m.slots) _ _ (below_is (length m.posted) m.slots room))

  pub reached_close : (m : Machine) → Reached value m → Reached value (when_closed m)
  reached_close m r = leads m (when_closed m) Close NowClosed r tt refl

  pub reached_draw : (m : Machine) (w : ℕ) → Reached value m → slice_get m.workers w ≡ Some Idle → Reached value (with_drawn m w)
  reached_draw m w r at = leads m (with_drawn m w) (Draw w) (Ticket m.next) r tt (ap (draw m w) at)

  pub reached_got : (m : Machine) (w t : ℕ) → Reached value m → slice_get m.workers w ≡ Some (Waits t) → t < length m.posted → Reached value (with_status m w (Holds t))
  reached_got m w t r at below = leads m (with_status m w (Holds t)) (Take w) (Took Got) r tt
      (ap (take m w) at ∙ if_true (nat_lt t (length m.posted)) _ _ (below_is t (length m.posted) below))

  pub reached_over : (m : Machine) (w t : ℕ) → Reached value m → slice_get m.workers w ≡ Some (Waits t) → length m.posted ≤ t → m.closed ≡ true → Reached value (with_status m w Over)
  reached_over m w t r at beyond shut = leads m (with_status m w Over) (Take w) (Took SawEnd) r tt
      (ap (take m w) at ∙ if_false (nat_lt t (length m.posted)) _ _ (beyond_is t (length m.posted) beyond) ∙ if_true m.closed _ _ shut)

  pub reached_give : (m : Machine) (w t : ℕ) (g : CoreGiven) → Reached value m → slice_get m.workers w ≡ Some (Holds t) → MayGive value m w g → Reached value (with_given m w g t)
  reached_give m w t g r at can = leads m (with_given m w g t) (Give w g) Given r can (ap (give m w g) at)

  -- one worker more

  set_more : (l k : List Status) (i : ℕ) (s : Status) → i < length l → set (l ++ k) i s ≡ set l i s ++ k
  set_more [] k i s h = absurd (omega arith)
  set_more (x ∷ xs) k zero s h = refl
  set_more (x ∷ xs) k (suc i) s h = ap (λ l. x ∷ l) (set_more xs k i s (omega arith))

  get_more : (l k : List Status) (i : ℕ) (s : Status) → slice_get l i ≡ Some s → slice_get (l ++ k) i ≡ Some s
  get_more [] k i s e = absurd cc
  get_more (x ∷ xs) k zero s e = e
  get_more (x ∷ xs) k (suc i) s e = get_more xs k i s e

  more_fresh : (k : ℕ) → replicate (suc k) Idle ≡ replicate k Idle ++ Idle ∷ []
  more_fresh zero = refl
  more_fresh (suc k) = ap (λ l. Idle ∷ l) (more_fresh k)

  abbrev grown : Outcome → Outcome
  grown z = (more z.0, z.1)

  cond_grown : (b : Bool) (x y : Outcome) → grown (cond b x y) ≡ cond b (grown x) (grown y)
  cond_grown true x y = refl
  cond_grown false x y = refl

  cond_same : (b : Bool) (x x' y y' : Outcome) → x ≡ x' → y ≡ y' → cond b x y ≡ cond b x' y'
  cond_same b x x' y y' e e' = λ i. cond b (e i) (e' i)

  more_draw : (m : Machine) (w : ℕ) (seen : Seen) (o : Option Status) → slice_get m.workers w ≡ o → (draw m w o).1 ≡ Ok seen → draw (more m) w (slice_get (more m).workers w) ≡ grown (draw m w o)
  more_draw m w seen (Some Idle) at e = ap (draw (more m) w) (get_more m.workers (Idle ∷ []) w Idle at)
      ∙ ap (λ (l : List Status). (record m { next = m.next + 1; workers = l }, Ok (Ticket m.next))) (set_more m.workers (Idle ∷ []) w (Waits m.next) (within m.workers w Idle at))
  more_draw m w seen (Some (Waits t)) at e = absurd cc
  more_draw m w seen (Some (Holds t)) at e = absurd cc
  more_draw m w seen (Some Over) at e = absurd cc
  more_draw m w seen None at e = absurd cc

  more_take : (m : Machine) (w : ℕ) (seen : Seen) (o : Option Status) → slice_get m.workers w ≡ o → (take m w o).1 ≡ Ok seen → take (more m) w (slice_get (more m).workers w) ≡ grown (take m w o)
  more_take m w seen (Some (Waits t)) at e =
      let b : Bool = nat_lt t (length m.posted) in
      let x : Outcome = (record m { workers = set m.workers w (Holds t) }, Ok (Took Got)) in
      let y : Outcome = (record m { workers = set m.workers w Over }, Ok (Took SawEnd)) in
      let z : Outcome = (m, Ok (Took NotYet)) in
      let put : (s : Status) → set (m.workers ++ Idle ∷ []) w s ≡ set m.workers w s ++ Idle ∷ [] = (λ s. set_more m.workers (Idle ∷ []) w s (within m.workers w (Waits t) at)) in
      ap (take (more m) w) (get_more m.workers (Idle ∷ []) w (Waits t) at)
      ∙ cond_same b (record m { workers = set (m.workers ++ Idle ∷ []) w (Holds t) }, Ok (Took Got)) (grown x) (cond m.closed (record m { workers = set (m.workers ++ Idle ∷ []) w Over }, Ok (Took SawEnd)) (grown z)) (cond m.closed (grown y) (grown z))
      (ap (λ (l : List Status). (record m { workers = l }, Ok (Took Got))) (put (Holds t)))
      (cond_same m.closed (record m { workers = set (m.workers ++ Idle ∷ []) w Over }, Ok (Took SawEnd)) (grown y) (grown z) (grown z) (ap (λ (l : List Status). (record m { workers = l }, Ok (Took SawEnd))) (put Over)) refl)
      ∙ cond_same b (grown x) (grown x) (cond m.closed (grown y) (grown z)) (grown (cond m.closed y z)) refl (sym (cond_grown m.closed y z))
      ∙ sym (cond_grown b x (cond m.closed y z))
  more_take m w seen (Some Idle) at e = absurd cc
  more_take m w seen (Some (Holds t)) at e = absurd cc
  more_take m w seen (Some Over) at e = absurd cc
  more_take m w seen None at e = absurd cc

  more_give : (m : Machine) (w : ℕ) (g : CoreGiven) (seen : Seen) (o : Option Status) → slice_get m.workers w ≡ o → (give m w g o).1 ≡ Ok seen → give (more m) w g (slice_get (more m).workers w) ≡ grown (give m w g o)
  more_give m w g seen (Some (Holds t)) at e = ap (give (more m) w g) (get_more m.workers (Idle ∷ []) w (Holds t) at)
      ∙ ap (λ (l : List Status). (record m { workers = l; results = set m.results t (Some g) }, Ok Given)) (set_more m.workers (Idle ∷ []) w Idle (within m.workers w (Holds t) at))
  more_give m w g seen (Some Idle) at e = absurd cc
  more_give m w g seen (Some (Waits t)) at e = absurd cc
  more_give m w g seen (Some Over) at e = absurd cc
  more_give m w g seen None at e = absurd cc

  more_after : (m : Machine) (e : Event) (seen : Seen) → (after m e).1 ≡ Ok seen → after (more m) e ≡ grown (after m e)
  more_after m (Post i) seen h =
      let x : Outcome = (with_posted m i, Ok (Slot (length m.posted))) in
      let y : Outcome = refused m Full i in
      let z : Outcome = refused m Closed i in
      let b : Bool = nat_lt (length m.posted) m.slots in
      cond_same m.closed (grown z) (grown z) (cond b (grown x) (grown y)) (grown (cond b x y)) refl (sym (cond_grown b x y)) ∙ sym (cond_grown m.closed z (cond b x y))
  more_after m Close seen h = refl
  more_after m (Draw w) seen h = more_draw m w seen (slice_get m.workers w) refl h
  more_after m (Take w) seen h = more_take m w seen (slice_get m.workers w) refl h
  more_after m (Give w g) seen h = more_give m w g seen (slice_get m.workers w) refl h

  more_may : (m : Machine) (w : ℕ) (g : CoreGiven) (seen : Seen) (o : Option Status) → slice_get m.workers w ≡ o → (give m w g o).1 ≡ Ok seen → MayGive value m w g → MayGive value (more m) w g
  more_may m w g seen (Some (Holds t)) at e may =
      let now : input_of (more m) w ≡ slice_get m.posted t = ap (input_at (more m)) (get_more m.workers (Idle ∷ []) w (Holds t) at) in
      let was : input_of m w ≡ slice_get m.posted t = ap (input_at m) at in
      subst (λ o. IsValueAt value o g) (was ∙ sym now) may
  more_may m w g seen (Some Idle) at e may = absurd cc
  more_may m w g seen (Some (Waits t)) at e may = absurd cc
  more_may m w g seen (Some Over) at e may = absurd cc
  more_may m w g seen None at e may = absurd cc

  more_keeps : (m : Machine) (e : Event) (seen : Seen) → (after m e).1 ≡ Ok seen → KeepsToTask value m e → KeepsToTask value (more m) e
  more_keeps m (Post i) seen h keeps = tt
  more_keeps m Close seen h keeps = tt
  more_keeps m (Draw w) seen h keeps = tt
  more_keeps m (Take w) seen h keeps = tt
  more_keeps m (Give w g) seen h keeps = more_may m w g seen (slice_get m.workers w) refl h keeps

  pub reached_more : {m : Machine} → Reached value m → Reached value (more m)
  reached_more (start n k) = subst (λ (l : List Status). Reached value (record (fresh n k) { workers = l })) (more_fresh k) (start n (suc k))
  reached_more (next m e seen r is keeps) =
      let step = more_after m e seen is in
      leads (more m) (more (after m e).0) e seen (reached_more r) (more_keeps m e seen is keeps) (step ∙ ap (λ (a : Answer). (more (after m e).0, a)) is)
