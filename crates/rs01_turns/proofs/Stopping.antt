-- What a reader has done, wherever it stops.
use Rattle.std.proofs.Common.{inl, inr, ◌≡◌, ℕ, ⊎_elim, List, length, take, get_or, refl, sym, ap, subst, ◌∙◌}
use Rattle.std.specs.Prelude.{◌⊎◌, Bool, if◌then◌else◌, is_some, IsTrue, IsSomeAnd, Option, Some, None, slice_get}
use Rattle.std.specs.Option.{option_map_or}
use Rattle.std.proofs.lemmas.Bool.{cases_Bool}
use Rattle.rs01_outside.specs.Causes.{Rose}
use Rattle.rs01_rack.specs.Rack.{AllTell}
use Rattle.rs01_states.specs.declared.state.State.{State}
use Rattle.rs01_states.specs.declared.state.State.TheVariants.{Unread, Good, Failed, Spared}
use Rattle.rs01_states.specs.Sparing.{state_of}
use Rattle.rs01_linear.specs.Asking.{Asking, kind_of}
use Rattle.rs01_linear.specs.Course.{fate_of}
use Rattle.rs01_linear.specs.declared.asking.Asked.{Asked}
use Rattle.rs01_linear.specs.declared.asking.Asked.TheVariants as asked
use Rattle.rs01_turns.specs.Turns.{Reading}
use Rattle.rs01_turns.specs.Moments.{Moment, asking_of, bytes_at, fate_at, length_at, reading_at, rest_of, terms_of, unread_at}
use Rattle.rs01_turns.specs.Leads.{Became, IsBlend, IsWritten}
use Rattle.rs01_turns.specs.Ends.{IsStateBy, state_by}
use Rattle.rs01_turns.specs.Stops.{IsOnTheWay, SectorsAreDone, WhereStopped, bytes_by, fate_by}
use Rattle.rs01_turns.proofs.Ending.{unread-ends}
use Rattle.rs01_turns.proofs.Times.{asks-few, ends-all}
use Rattle.rs01_turns.proofs.Whole.{whole-reading, wholly-written}

-- a block that was written, or in part
blend-of : (f g : Moment) (s : ℕ) (block : List ℕ) → IsWritten f g s block → IsBlend (bytes_at g s) (bytes_at f s) (take (length_at f s) block)
blend-of f g s block written i = ⊎_elim
    (λ same. inr (ap (λ (xs : List ℕ). get_or xs i 0) same))
    (λ part. part.1 i)
    written

sofar : (f g : Moment) (s : ℕ) (x : State) → Became f g s x → AllTell g.rack → IsTrue f.desk.tells → (bytes_at g s ≡ bytes_at f s) ⊎ IsOnTheWay f g s
sofar f g s Unread b t it = inl (b.bytes_same it)
sofar f g s Good b t it =
    let told = b.told t in
    inr (record { block = told.0; read = told.1.read; bytes = blend-of f g s told.0 (told.1.written it) })
sofar f g s Failed b t it = inl (b.bytes_same it)
sofar f g s Spared b t it = inl (b.bytes_same it)

pub where-stopped : WhereStopped
where-stopped f g leads t =
    let end : rest_of g ≡ rest_of f = (leads.rest t).end in
    record {
      number = sym (ends-all (terms_of g) (reading_at g)).drives ∙ ap (λ (r : Reading). length r.views) end;
      asked = λ k start now all from was is.
          let grew = leads.drives.asked t k start now from was in
          let on = asks-few (terms_of g) (reading_at g) k now all was (ap (λ (r : Reading). slice_get r.views k) end ∙ is) in
          record { done = grew.0; more = on.more; sofar_is = grew.1; all_is = on.asked };
      sectors = λ it s. ⊎_elim
          (λ unread. sofar f g s (state_of g.states s) (leads.became s unread) t it)
          (λ not_. inl ((leads.stays s not_).same.bytes_same it))
          (cases_Bool (unread_at f s));
    }

-- the end

-- no block is read where the answer says so
no-block : (read : Option (List ℕ)) (answered : Bool) (kind : Asked) → (if is_some read then asked.Read else if answered then asked.Altered else asked.Unreadable) ≡ kind → (kind ≡ asked.Read → ⊥) → read ≡ None
no-block None answered kind is none = refl
no-block (Some block) answered kind is none = absurd (none (sym is))

altered-not : asked.Altered ≡ asked.Read → ⊥
altered-not e = cc

unreadable-not : asked.Unreadable ≡ asked.Read → ⊥
unreadable-not e = cc

record HasCome (f g : Moment) (s : ℕ) (o : Option Asking) : Type 0 where
  fate : fate_at g s ≡ fate_by o (fate_at f s)
  bytes : IsTrue f.desk.tells → (Rose f.desk.write_faults g.desk.write_faults → ⊥) → bytes_at g s ≡ bytes_by o (length_at f s) (bytes_at f s)

failed-come : (f g : Moment) (s : ℕ) (a : Asking) → asking_of f s ≡ Some a → a.read ≡ None → AllTell g.rack → Became f g s Failed → HasCome f g s (Some a)
failed-come f g s a at none t b = record {
  fate = subst (λ (o : Option Asking). IsSomeAnd o (λ x. fate_at g s ≡ fate_by (Some x) (fate_at f s))) at (b.told t);
  bytes = λ it no. b.bytes_same it ∙ ap (λ (o : Option (List ℕ)). option_map_or (λ block. take (length_at f s) block) o (bytes_at f s)) (sym none);
}

asked-come : (f g : Moment) (s : ℕ) (a : Asking) (kind : Asked) → kind_of a ≡ kind → asking_of f s ≡ Some a → AllTell g.rack → Became f g s (state_by kind) → HasCome f g s (Some a)
asked-come f g s a asked.Read is at t b =
    let told = b.told t in
    let read : a.read ≡ Some told.0 = subst (λ (o : Option Asking). IsSomeAnd o (λ x. x.read ≡ Some told.0)) at told.1.read in
    record {
      fate = b.fate_is ∙ ap fate_of (sym is);
      bytes = λ it no.
          wholly-written f g s told.0 no (told.1.written it)
          ∙ ap (λ (o : Option (List ℕ)). option_map_or (λ block. take (length_at f s) block) o (bytes_at f s)) (sym read);
    }
asked-come f g s a asked.Unreadable is at t b = failed-come f g s a at (no-block a.read a.answered asked.Unreadable is unreadable-not) t b
asked-come f g s a asked.Altered is at t b = failed-come f g s a at (no-block a.read a.answered asked.Altered is altered-not) t b

come-by : (f g : Moment) (s : ℕ) (o : Option Asking) → asking_of f s ≡ o → IsStateBy o (state_of g.states s) → AllTell g.rack → Became f g s (state_of g.states s) → HasCome f g s o
come-by f g s None at is t b =
    let same : Became f g s Spared = subst (λ (x : State). Became f g s x) is b in
    record { fate = same.fate_same; bytes = λ it no. same.bytes_same it }
come-by f g s (Some a) at is t b = asked-come f g s a (kind_of a) refl at t (subst (λ (x : State). Became f g s x) is b)

pub sectors-are-done : SectorsAreDone
sectors-are-done f g leads none t s was =
    let end = (whole-reading f g leads none t).end_is in
    let comes : IsStateBy (asking_of f s) (state_of g.states s) =
    subst (λ (r : Reading). IsStateBy (asking_of f s) (state_of r.states s)) (sym end) (unread-ends (terms_of f) (reading_at f) s was) in
    let come = come-by f g s (asking_of f s) refl comes t (leads.became s was) in
    record { state_is = comes; fate_is = come.fate; bytes_are = come.bytes }
