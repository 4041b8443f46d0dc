-- What holds of a state holds after each event that keeps to the task, and so of each state that is reached.
use Rattle.std.proofs.Common.{◌≡◌, ℕ, ◌<◌, ◌≤◌, cond, nat_lt, Bool, true, false, List, ◌∷◌, [], ◌++◌, length, sym, refl, ap, ◌∙◌, arith, slice_get, Option, Some, None, Ok}
use Rattle.std.proofs.lemmas.Bool.Decides.{nat_tests}
use Rattle.rs01_layers.specs.declared.input.LayerInput.{LayerInput}
use Rattle.rs01_layers.specs.declared.task.LayerOut.{LayerOut}
use Rattle.rs01_window.specs.declared.events.CoreGiven.{CoreGiven}
use Rattle.rs01_window.specs.declared.status.Status.{Status}
use Rattle.rs01_window.specs.declared.status.Status.TheVariants.{Idle, Waits, Holds, Over}
use Rattle.rs01_window.specs.declared.events.Event.{Event}
use Rattle.rs01_window.specs.declared.events.Event.TheVariants.{Post, Close, Draw, Take, Give}
use Rattle.rs01_window.specs.declared.events.Seen.{Seen}
use Rattle.rs01_window.specs.declared.events.Seen.TheVariants.{Slot, Took}
use Rattle.rs01_window.specs.declared.events.TakeSeen.TheVariants.{Got, NotYet, Over as SawEnd}
use Rattle.rs01_window.specs.declared.events.PostRefusal.TheVariants.{Closed, Full}
use Rattle.rs01_window.specs.Machine.{Machine, Outcome, after, draw, take, give, with_status, with_posted, refused, MayGive, KeepsToTask}
use Rattle.rs01_window.specs.Soundness.{IsSound}
use Rattle.rs01_window.specs.Reached.{Reached, start, next}
use Rattle.rs01_window.proofs.SoundEvents.{sound_fresh, sound_post, sound_close, sound_draw, sound_got, sound_over, sound_give}

below_by : (x n : ℕ) → nat_lt x n ≡ true → x < n
below_by x n e = grind (arith, nat_tests)

beyond_by : (x n : ℕ) → nat_lt x n ≡ false → n ≤ x
beyond_by x n e = grind (arith, nat_tests)

module _ (value : LayerInput → LayerOut) where
  module _ (m : Machine) (r : IsSound value m) where
    by_post : (i : LayerInput) (b : Bool) → m.closed ≡ b → (c : Bool) → nat_lt (length m.posted) m.slots ≡ c
        → let z : Outcome = cond b (refused m Closed i) (cond c (with_posted m i, Ok (Slot (length m.posted))) (refused m Full i)) in IsSound value z.0
    by_post i true e c e' = r
    by_post i false e true e' = sound_post value m r i e (below_by (length m.posted) m.slots e')
    by_post i false e false e' = r

    by_draw : (w : ℕ) (o : Option Status) → slice_get m.workers w ≡ o → IsSound value (draw m w o).0
    by_draw w (Some Idle) at = sound_draw value m r w at
    by_draw w (Some (Waits t)) at = r
    by_draw w (Some (Holds t)) at = r
    by_draw w (Some Over) at = r
    by_draw w None at = r

    by_look : (w t : ℕ) → slice_get m.workers w ≡ Some (Waits t) → (b : Bool) → nat_lt t (length m.posted) ≡ b → (c : Bool) → m.closed ≡ c
        → let z : Outcome = cond b (with_status m w (Holds t), Ok (Took Got)) (cond c (with_status m w Over, Ok (Took SawEnd)) (m, Ok (Took NotYet))) in IsSound value z.0
    by_look w t at true e c e' = sound_got value m r w t at (below_by t (length m.posted) e)
    by_look w t at false e true e' = sound_over value m r w t at (beyond_by t (length m.posted) e) e'
    by_look w t at false e false e' = r

    by_take : (w : ℕ) (o : Option Status) → slice_get m.workers w ≡ o → IsSound value (take m w o).0
    by_take w (Some (Waits t)) at = by_look w t at (nat_lt t (length m.posted)) refl m.closed refl
    by_take w (Some Idle) at = r
    by_take w (Some (Holds t)) at = r
    by_take w (Some Over) at = r
    by_take w None at = r

    by_give : (w : ℕ) (g : CoreGiven) → MayGive value m w g → (o : Option Status) → slice_get m.workers w ≡ o → IsSound value (give m w g o).0
    by_give w g may (Some (Holds t)) at = sound_give value m r w t g at may
    by_give w g may (Some Idle) at = r
    by_give w g may (Some (Waits t)) at = r
    by_give w g may (Some Over) at = r
    by_give w g may None at = r

    pub sound_after : (e : Event) → KeepsToTask value m e → IsSound value (after m e).0
    sound_after (Post i) keeps = by_post i m.closed refl (nat_lt (length m.posted) m.slots) refl
    sound_after Close keeps = sound_close value m r
    sound_after (Draw w) keeps = by_draw w (slice_get m.workers w) refl
    sound_after (Take w) keeps = by_take w (slice_get m.workers w) refl
    sound_after (Give w g) keeps = by_give w g keeps (slice_get m.workers w) refl

  pub reached_sound : {m : Machine} → Reached value m → IsSound value m
  reached_sound (start n k) = sound_fresh value n k
  reached_sound (next m e seen r is keeps) = sound_after m (reached_sound r) e keeps
