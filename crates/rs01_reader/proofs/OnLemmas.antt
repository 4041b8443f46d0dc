-- Reading on until a layer is settled.
use Rattle.std.proofs.Common.{inl, inr, ◌≡◌, ℕ, ◌+◌, ◌%◌, ◌^◌, ◌<◌, ◌≤◌, ⊎_elim, List, refl, sym, ap, subst, ◌∙◌, arith}
use Rattle.std.specs.Prelude.{◌⊎◌, ◌&&◌, not, Bool, true, false, if◌then◌else◌, IfSome, Option, Some, None, Ok}
use Rattle.std.specs.Option.{unwrap_or}
use Rattle.std.proofs.Math.ListN.{set}
use Rattle.std.proofs.lemmas.Bool.{cases_eq, cases_Bool, false≢true, false_from_ne_true}
use Rattle.std.proofs.lemmas.Option.{none-some}
use Rattle.rs01_layers.specs.Layout.{layers_of}
use Rattle.rs01_layers.specs.declared.shape.Shape.{Shape}
use Rattle.rs01_outside.specs.Causes.{Rose}
use Rattle.rs01_outside.specs.DeskState.{DeskState}
use Rattle.rs01_rack.specs.Rack.{RackState}
use Rattle.rs01_states.specs.Sparing.{IsUnread, is_within, layer_count, newly_within, settled}
use Rattle.rs01_states.specs.declared.state.State.{State}
use Rattle.rs01_states.specs.declared.state.State.TheVariants.{Good}
use Rattle.rs01_states.proofs.SparedLemmas.{none-is-left}
use Rattle.rs01_linear.specs.declared.asking.Asked.{Asked}
use Rattle.rs01_linear.specs.declared.asking.Asked.TheVariants.{Altered, Read, Unreadable}
use Rattle.rs01_turns.specs.Leads.{Leads}
use Rattle.rs01_turns.specs.Turns.{next_sector, states_after}
use Rattle.rs01_turns.proofs.Layering.{within-goes-on}
use Rattle.rs01_turns.proofs.Leading.{leads-on, look-leads}
use Rattle.rs01_turns.proofs.Turning.{next-none, next-unread}
use Rattle.rs01_turns.proofs.Unreads.{after-less, unreads}
use Rattle.rs01_reader.specs.Courses.{CourseSeen, IsSpared, settled_after}
use Rattle.rs01_reader.specs.Settled.{moment}
use Rattle.rs01_reader.specs.Steps.{Counts, Ends, OnlyAsked, Settles, Went, WithinStay, WriteFailed}
use Rattle.rs01_reader.specs.declared.stop.Stop.{Stop}
use Rattle.rs01_reader.specs.declared.setup.Setup.{Setup}
use Rattle.rs01_reader.proofs.CountLemmas.{counts-as, counts-start, counts-then}
use Rattle.rs01_reader.proofs.SpareLemmas.{failed-spared, failed-within, other-within, spared-within}
use Rattle.rs01_reader.proofs.WholeLemmas.{newly-there}

-- no layer was settled so far
pub record ReadingOn (setup : Setup) (old now : CourseSeen) (desk desk' : DeskState) (rack rack' : RackState) : Type 0 where
  pub leads : Leads (moment setup old rack desk) (moment setup now rack' desk')
  pub counts : Counts {T = Unit {0}} setup desk desk' (Ok tt) rack rack'
  pub only : OnlyAsked old now
  pub spared : IsSpared now.shape now.states
  pub others : WithinStay old now (λ l. ⊥)

pub only-then : (a b c : CourseSeen) → OnlyAsked a b → OnlyAsked b c → OnlyAsked a c
only-then a b c one two = record {
  shape_same = two.shape_same ∙ one.shape_same;
  given_same = two.given_same ∙ one.given_same;
  first_same = two.first_same ∙ one.first_same;
  reads_same = two.reads_same ∙ one.reads_same;
  writes_same = two.writes_same ∙ one.writes_same;
}

-- the sparing after an answer
pub spared-after : (shape : Option Shape) (xs : List State) (s : ℕ) (a : Asked) → IsUnread xs s → IsSpared shape xs → IsSpared shape (states_after shape xs s a)
unfolding states_after
spared-after shape xs s Read was spared = none-is-left shape (set xs s Good)
spared-after shape xs s Unreadable was spared = failed-spared shape xs s was spared
spared-after shape xs s Altered was spared = failed-spared shape xs s was spared

by-tests : (b c : Bool) (l : ℕ) → b ≡ true → c ≡ false → (if b && not c then Some l else None) ≡ Some l
by-tests true false l e f = refl
by-tests false c l e f = absurd (false≢true e)
by-tests true true l e f = absurd (false≢true (sym f))

from-tests : (b c : Bool) (l m : ℕ) → (if b && not c then Some l else None) ≡ Some m → (b ≡ true) × (c ≡ false) × (l ≡ m)
from-tests true false l m e = (refl, refl, ap (λ (o : Option ℕ). unwrap_or o 0) e)
from-tests true true l m e = absurd (none-some m e)
from-tests false c l m e = absurd (none-some m e)

-- a layer that is within its bound after a read was so before, or came within it by the read
read-stay : (shape : Option Shape) (xs : List State) (s l : ℕ) → is_within shape l (settled shape (set xs s Good)) ≡ true
    → (is_within shape l xs ≡ true) ⊎ (newly_within shape s xs (settled shape (set xs s Good)) ≡ Some l)
read-stay None xs s l within = absurd (false≢true within)
read-stay (Some h) xs s l within =
    let layers = layers_of h.sectors h.parity in
    let zs = set xs s Good in
    ⊎_elim
    (λ e. ⊎_elim
    (λ was. inl was)
    (λ not_.
    inr (subst (λ (m : ℕ). newly_within (Some h) s xs (settled (Some h) zs) ≡ Some m) (sym e)
    (by-tests (is_within (Some h) (s % layers) (settled (Some h) zs)) (is_within (Some h) (s % layers) xs) (s % layers)
    (ap (λ (m : ℕ). is_within (Some h) m (settled (Some h) zs)) (sym e) ∙ within) (ap (λ (m : ℕ). is_within (Some h) m xs) (sym e) ∙ not_))))
    (cases_Bool (is_within (Some h) l xs)))
    (λ d. inl (sym (spared-within layers h.parity l zs ∙ other-within layers h.parity l s xs d) ∙ within))
    (cases_eq l (s % layers))

stay-after : (shape : Option Shape) (xs : List State) (s l : ℕ) (a : Asked) → IsUnread xs s → is_within shape l (states_after shape xs s a) ≡ true
    → (is_within shape l xs ≡ true) ⊎ (settled_after shape s a xs (states_after shape xs s a) ≡ Some l)
unfolding states_after
stay-after shape xs s l Read was within = read-stay shape xs s l within
stay-after shape xs s l Unreadable was within = inl (sym (failed-within shape l s xs was) ∙ within)
stay-after shape xs s l Altered was within = inl (sym (failed-within shape l s xs was) ∙ within)

some-there : (o : Option ℕ) (l n : ℕ) → o ≡ Some l → IfSome o (λ layer. layer < n) → l < n
some-there o l n e h = subst (λ (x : Option ℕ). IfSome x (λ layer. layer < n)) e h

read-settles : (shape : Option Shape) (xs : List State) (s l : ℕ) → newly_within shape s xs (settled shape (set xs s Good)) ≡ Some l
    → (is_within shape l (settled shape (set xs s Good)) ≡ true) × (is_within shape l xs ≡ false) × (l < layer_count shape)
read-settles shape xs s l e =
    let ys = settled shape (set xs s Good) in
    let f = from-tests (is_within shape (s % layer_count shape) ys) (is_within shape (s % layer_count shape) xs) (s % layer_count shape) l e in
    (subst (λ (m : ℕ). is_within shape m ys ≡ true) f.2 f.0, subst (λ (m : ℕ). is_within shape m xs ≡ false) f.2 f.1, some-there (newly_within shape s xs ys) l (layer_count shape) e (newly-there shape s xs ys))

-- the answer that settled a layer was a read
settles-after : (shape : Option Shape) (xs : List State) (s l : ℕ) (a : Asked) → settled_after shape s a xs (states_after shape xs s a) ≡ Some l
    → (is_within shape l (states_after shape xs s a) ≡ true) × (is_within shape l xs ≡ false) × (l < layer_count shape)
unfolding states_after
settles-after shape xs s l Read e = read-settles shape xs s l e
settles-after shape xs s l Unreadable e = absurd (none-some l e)
settles-after shape xs s l Altered e = absurd (none-some l e)

-- one more ask, from the start of the reading on

went-states : (c new : CourseSeen) (s : ℕ) (r : Option ℕ) (w : Went c new s r) → new.states ≡ states_after c.shape c.states s w.asked
went-states c new s r w = ap (λ (v : CourseSeen). v.states) w.course_is

went-settled : (c new : CourseSeen) (s : ℕ) (r : Option ℕ) (w : Went c new s r) → r ≡ settled_after c.shape s w.asked c.states (states_after c.shape c.states s w.asked)
went-settled c new s r w = w.settled_is ∙ ap (λ (xs : List State). settled_after c.shape s w.asked c.states xs) (went-states c new s r w)

pub went-less : (c new : CourseSeen) (s : ℕ) (r : Option ℕ) → next_sector c.states c.place ≡ Some s → Went c new s r → unreads new.states + 1 ≤ unreads c.states
went-less c new s r next w =
    subst (λ (xs : List State). unreads xs + 1 ≤ unreads c.states) (sym (went-states c new s r w)) (after-less c.shape c.states s w.asked (next-unread c.states c.place s next))

went-spared : (c new : CourseSeen) (s : ℕ) (r : Option ℕ) → next_sector c.states c.place ≡ Some s → Went c new s r → IsSpared c.shape c.states → IsSpared new.shape new.states
went-spared c new s r next w sp =
    subst (λ (v : CourseSeen). IsSpared v.shape v.states) (sym w.course_is) (spared-after c.shape c.states s w.asked (next-unread c.states c.place s next) sp)

went-stay : (c new : CourseSeen) (s : ℕ) (r : Option ℕ) → next_sector c.states c.place ≡ Some s → Went c new s r → WithinStay c new (λ l. r ≡ Some l)
went-stay c new s r next w l within =
    let within0 : is_within c.shape l (states_after c.shape c.states s w.asked) ≡ true =
    (λ i. is_within ((ap (λ (v : CourseSeen). v.shape) (sym w.course_is)) i) l ((sym (went-states c new s r w)) i)) ∙ within in
    ⊎_elim (λ old. inl old) (λ now. inr (went-settled c new s r w ∙ now)) (stay-after c.shape c.states s l w.asked (next-unread c.states c.place s next) within0)

stay-then : (a b c : CourseSeen) (Other Last : ℕ → Type 0) → WithinStay a b (λ l. ⊥) → WithinStay b c Other → ((l : ℕ) → Other l → Last l) → WithinStay a c Last
stay-then a b c Other Last one two on l within = ⊎_elim (λ mid. ⊎_elim (λ old. inl old) (λ no. absurd no) (one l mid)) (λ other. inr (on l other)) (two l within)

pub rose-from : (a b c : ℕ) → a ≤ b → Rose b c → Rose a c
rose-from a b c le rose = omega (arith, le, rose)

-- nothing was asked for yet
pub on-start : (setup : Setup) (c : CourseSeen) (desk : DeskState) (rack : RackState) → rack.asks < 2 ^ 128 → IsSpared c.shape c.states → ReadingOn setup c c desk desk rack rack
on-start setup c desk rack small spared = record {
  leads = look-leads (moment setup c rack desk) c.first;
  counts = counts-start setup desk rack tt small;
  only = record { shape_same = refl; given_same = refl; first_same = refl; reads_same = refl; writes_same = refl };
  spared = spared;
  others = λ l within. inl within;
}

-- one more ask that settled no layer
pub on-more :
    (setup : Setup) (i c new : CourseSeen) (di dc dn : DeskState) (ri rc rn : RackState) (s : ℕ) → next_sector c.states c.place ≡ Some s
    → ReadingOn setup i c di dc ri rc → Leads (moment setup c rc dc) (moment setup new rn dn) → Counts {T = Option ℕ} setup dc dn (Ok None) rc rn → OnlyAsked c new
    → Went c new s None → ReadingOn setup i new di dn ri rn
on-more setup i c new di dc dn ri rc rn s next on leads counts only w = record {
  leads = leads-on (moment setup i ri di) (moment setup c rc dc) (moment setup new rn dn) on.leads leads;
  counts = counts-as setup di dn ri rn None tt (counts-then setup di dc dn ri rc rn tt (Ok None) on.counts counts);
  only = only-then i c new on.only only;
  spared = went-spared c new s None next w on.spared;
  others = stay-then i c new (λ l. None ≡ Some l) (λ l. ⊥) on.others (went-stay c new s None next w) (λ l e. none-some l e);
}

-- one more ask, and a layer is settled
pub on-settles :
    (setup : Setup) (i c new : CourseSeen) (di dc dn : DeskState) (ri rc rn : RackState) (s layer : ℕ) → next_sector c.states c.place ≡ Some s
    → ReadingOn setup i c di dc ri rc → Went c new s (Some layer) → Settles setup i new di dn ri rn layer
on-settles setup i c new di dc dn ri rc rn s layer next on w =
    let f = settles-after c.shape c.states s layer w.asked (sym (went-settled c new s (Some layer) w)) in
    let shape : new.shape ≡ c.shape = ap (λ (v : CourseSeen). v.shape) w.course_is in
    let spared = went-spared c new s (Some layer) next w on.spared in
    let within : is_within new.shape layer new.states ≡ true = (λ j. is_within (shape j) layer (went-states c new s (Some layer) w j)) ∙ f.0 in
    record {
      settled = record {
        there = subst (λ (h : Option Shape). layer < layer_count h) (sym shape) f.2;
        within = within;
        read = λ k at. false_from_ne_true _ (λ unread. false≢true (sym (spared k unread) ∙ ap (λ (l : ℕ). is_within new.shape l new.states) at ∙ within));
      };
      fresh = λ was. false≢true (sym f.1 ∙ within-goes-on (moment setup i ri di) (moment setup c rc dc) layer on.leads was.within);
      others = stay-then i c new (λ l. Some layer ≡ Some l) (λ l. l ≡ layer) on.others (went-stay c new s (Some layer) next w) (λ l e. sym (ap (λ (o : Option ℕ). unwrap_or o 0) e));
    }

pub on-spared : (setup : Setup) (i c new : CourseSeen) (di dc : DeskState) (ri rc : RackState) (s : ℕ) (r : Option ℕ) → next_sector c.states c.place ≡ Some s
    → ReadingOn setup i c di dc ri rc → Went c new s r → IsSpared new.shape new.states
on-spared setup i c new di dc ri rc s r next on w = went-spared c new s r next w on.spared

pub on-ends : (setup : Setup) (i c : CourseSeen) (di dc : DeskState) (ri rc : RackState) → next_sector c.states c.place ≡ None → ReadingOn setup i c di dc ri rc → Ends i c
on-ends setup i c di dc ri rc next on = record { none_unread = next-none c.states c.place next; others = on.others }

pub on-fails : (setup : Setup) (i c : CourseSeen) (di dc dn : DeskState) (ri rc : RackState) (stop : Stop) → ReadingOn setup i c di dc ri rc → WriteFailed dc dn stop → WriteFailed di dn stop
on-fails setup i c di dc dn ri rc stop on failed = record {
  stop_is = failed.stop_is;
  rose = rose-from di.write_faults dc.write_faults dn.write_faults on.leads.desk.writes_rise failed.rose;
}
