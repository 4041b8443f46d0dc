-- What holds after any list of events.
use Rattle.std.proofs.Common.{◌≡◌, ℕ, zero, suc, ◌+◌, ◌-◌, ◌<◌, ◌≤◌, ◌⊎◌, ⊎_elim, inl, inr, cond, nat_lt, Bool, true, false, List, [], ◌∷◌, ◌++◌, length, sym, refl, ap, ◌∙◌, arith, subst, slice_get, Option, Some, None, Ok, flat_map, length-set, replicate}
use Rattle.std.proofs.lemmas.List.{length-replicate}
use Rattle.std.specs.List.{range_with_len}
use Rattle.std.proofs.lemmas.List.Concat.{flat_map-cons}
use Rattle.rs01_lists.proofs.Ranges.{range_with_len-append}
use Rattle.rs01_layers.specs.declared.input.LayerInput.{LayerInput}
use Rattle.rs01_layers.specs.declared.task.LayerOut.{LayerOut}
use Rattle.rs01_window.specs.declared.events.CoreGiven.{CoreGiven}
use Rattle.rs01_window.specs.declared.status.Status.{Status}
use Rattle.rs01_window.specs.declared.status.Status.TheVariants.{Idle, Waits, Holds, Over}
use Rattle.rs01_window.specs.declared.events.Event.{Event}
use Rattle.rs01_window.specs.declared.events.Event.TheVariants.{Post, Close, Draw, Take, Give}
use Rattle.rs01_window.specs.declared.events.Seen.TheVariants.{Slot, Took}
use Rattle.rs01_window.specs.declared.events.TakeSeen.TheVariants.{Got, NotYet, Over as SawEnd}
use Rattle.rs01_window.specs.declared.events.PostRefusal.TheVariants.{Closed, Full}
use Rattle.rs01_window.specs.Machine.{Machine, Outcome, fresh, after, draw, take, give, with_status, with_posted, refused, input_of, input_at, given_for, given_in}
use Rattle.rs01_window.specs.Replay.{replay, ticket_in, AllKeepToTask}
use Rattle.rs01_window.specs.Soundness.{IsSound}
use Rattle.rs01_window.specs.WindowLaws.{KeepsOrder, TicketsAreDrawnOnce, RunsKeepOrder}
use Rattle.rs01_window.proofs.ListLemmas.{some_same, there}
use Rattle.rs01_window.proofs.SoundEvents.{sound_fresh, every_result}
use Rattle.rs01_window.proofs.ReachedSounds.{sound_after}

-- how an event may change the next ticket and the count of workers
record Goes (m : Machine) (z : Outcome) : Type 0 where
  next : z.0.next ≡ m.next + length (ticket_in z.1)
  drawn : ticket_in z.1 ≡ range_with_len m.next (length (ticket_in z.1))
  staff : length z.0.workers ≡ length m.workers

stays : (m : Machine) (z : Outcome) → z.0.next ≡ m.next → ticket_in z.1 ≡ [] → length z.0.workers ≡ length m.workers → Goes m z
stays m z e none same = record {
  next = omega (arith, ap (λ (l : List ℕ). length l) none);
  drawn = none ∙ sym (ap (λ (l : List ℕ). range_with_len m.next (length l)) none);
  staff = same;
}

module _ (m : Machine) where
  goes_post : (i : LayerInput) (b c : Bool)
      → Goes m (cond b (refused m Closed i) (cond c (with_posted m i, Ok (Slot (length m.posted))) (refused m Full i)))
  goes_post i true c = stays m _ refl refl refl
  goes_post i false true = stays m _ refl refl refl
  goes_post i false false = stays m _ refl refl refl

  goes_draw : (w : ℕ) (o : Option Status) → Goes m (draw m w o)
  goes_draw w (Some Idle) = record { next = refl; drawn = refl; staff = length-set m.workers w (Waits m.next) }
  goes_draw w (Some (Waits t)) = stays m _ refl refl refl
  goes_draw w (Some (Holds t)) = stays m _ refl refl refl
  goes_draw w (Some Over) = stays m _ refl refl refl
  goes_draw w None = stays m _ refl refl refl

  goes_look : (w t : ℕ) (b c : Bool)
      → Goes m (cond b (with_status m w (Holds t), Ok (Took Got)) (cond c (with_status m w Over, Ok (Took SawEnd)) (m, Ok (Took NotYet))))
  goes_look w t true c = stays m _ refl refl (length-set m.workers w (Holds t))
  goes_look w t false true = stays m _ refl refl (length-set m.workers w Over)
  goes_look w t false false = stays m _ refl refl refl

  goes_take : (w : ℕ) (o : Option Status) → Goes m (take m w o)
  goes_take w (Some (Waits t)) = goes_look w t (nat_lt t (length m.posted)) m.closed
  goes_take w (Some Idle) = stays m _ refl refl refl
  goes_take w (Some (Holds t)) = stays m _ refl refl refl
  goes_take w (Some Over) = stays m _ refl refl refl
  goes_take w None = stays m _ refl refl refl

  goes_give : (w : ℕ) (g : CoreGiven) (o : Option Status) → Goes m (give m w g o)
  goes_give w g (Some (Holds t)) = stays m _ refl refl (length-set m.workers w Idle)
  goes_give w g (Some Idle) = stays m _ refl refl refl
  goes_give w g (Some (Waits t)) = stays m _ refl refl refl
  goes_give w g (Some Over) = stays m _ refl refl refl
  goes_give w g None = stays m _ refl refl refl

  goes : (e : Event) → Goes m (after m e)
  goes (Post i) = goes_post i m.closed (nat_lt (length m.posted) m.slots)
  goes Close = stays m _ refl refl refl
  goes (Draw w) = goes_draw w (slice_get m.workers w)
  goes (Take w) = goes_take w (slice_get m.workers w)
  goes (Give w g) = goes_give w g (slice_get m.workers w)

-- how far a list of events goes on
record Went (m : Machine) (events : List Event) : Type 0 where
  count : ℕ
  next : (replay m events).0.next ≡ m.next + count
  drawn : flat_map ticket_in (replay m events).1 ≡ range_with_len m.next count
  staff : length (replay m events).0.workers ≡ length m.workers

went : (m : Machine) (events : List Event) → Went m events
went m [] = record { count = 0; next = omega arith; drawn = refl; staff = refl }
went m (e ∷ es) =
    let n : Machine = (after m e).0 in
    let g = goes m e in
    let k : ℕ = length (ticket_in (after m e).1) in
    let r = went n es in
    record {
      count = k + r.count;
      next = omega (arith, g.next, r.next);
      drawn = flat_map-cons ticket_in (after m e).1 (replay n es).1 ∙ (λ i. g.drawn i ++ r.drawn i) ∙ ap (λ x. range_with_len m.next k ++ range_with_len x r.count) g.next ∙ sym (range_with_len-append m.next k r.count);
      staff = r.staff ∙ g.staff;
    }

pub tickets_once : TicketsAreDrawnOnce
tickets_once slots workers events =
    let r = went (fresh slots workers) events in
    let all : r.count ≡ (replay (fresh slots workers) events).0.next = omega (arith, r.next) in
    r.drawn ∙ ap (λ n. range_with_len 0 n) all

module _ (value : LayerInput → LayerOut) where
  sound_run : (m : Machine) (events : List Event) → IsSound value m → AllKeepToTask value m events → IsSound value (replay m events).0
  sound_run m [] r keep = r
  sound_run m (e ∷ es) r keep = sound_run (after m e).0 es (sound_after value m r e keep.0) keep.1

  pub order_of : (m : Machine) → IsSound value m → 0 < length m.workers → KeepsOrder value m
  order_of m r some_worker = record {
    once = r.once;
    taken = λ w t at. let input = there m.posted t (r.holds w t at) in (input.0, input.1, ap (input_at m) at ∙ input.1);
    values = λ slot input given is there. r.values slot input given is (given_there (slice_get m.results slot) given there);
    given = λ over slot below. let given = every_result value m r some_worker over slot below in (given.0, ap given_in given.1);
  }
    where
      given_there : (o : Option (Option CoreGiven)) (given : CoreGiven) → given_in o ≡ Some given → o ≡ Some (Some given)
      given_there None given e = absurd cc
      given_there (Some o) given e = ap (λ x. Some x) e

  pub runs_in_order : RunsKeepOrder value
  runs_in_order slots workers events some_worker keep =
      let m : Machine = fresh slots workers in
      let r = went m events in
      order_of (replay m events).0 (sound_run m events (sound_fresh value slots workers) keep) (omega (arith, r.staff, length-replicate workers Idle))
