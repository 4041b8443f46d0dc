-- Each kind is an event of the machine, or shows the state that was shown before.
use Rattle.std.proofs.Common.{◌≡◌, ◌≢◌, ℕ, zero, suc, ◌+◌, ◌%◌, ◌<◌, ◌≤◌, Bool, true, false, eqb, cond, List, [], ◌∷◌, ◌++◌, length, set, sym, refl, ap, ◌∙◌, arith, ⊎_elim, subst, slice_get, Some, None, length-set, length-append}
use mathlib.Core.Option.{some, some-injective, some-ne-none}
use lib.ListN.{get_elem?}
use Rattle.atomic_table.proofs.Lists.{at_set, at_snoc}
use Rattle.std.proofs.lemmas.Bool.{cases_lt}
use Rattle.rs01_layers.specs.declared.input.LayerInput.{LayerInput}
use Rattle.rs01_layers.specs.declared.task.LayerOut.{LayerOut}
use Rattle.rs01_window.specs.declared.status.Status.{Status}
use Rattle.rs01_window.specs.declared.status.Status.TheVariants.{Idle, Waits, Holds, Over}
use Rattle.rs01_window.specs.Machine.{Machine, fresh, with_status, with_posted, when_closed, with_drawn, with_given, input_at, IsValueAt, IsValueOf}
use Rattle.rs01_window.specs.Reached.{start}
use Rattle.rs01_window.proofs.ListLemmas.{set_here, set_else, within}
use Rattle.rs01_window.proofs.ReachedEvents.{more, reached_post, reached_close, reached_draw, reached_got, reached_over, reached_give, reached_more}
use Rattle.rs01_table.specs.declared.views.View.{View}
use Rattle.rs01_table.specs.declared.views.Hold.{Hold}
use Rattle.rs01_table.specs.declared.views.Gave.{Gave}
use Rattle.rs01_table.specs.declared.given.Given.{Given}
use Rattle.rs01_table.specs.declared.given.Given.TheVariants.{Done, Left}
use Rattle.rs01_window.specs.Soundness.{total, same_test}
use Rattle.rs01_table.specs.Rule.{times_in, gots, below_test, Core}
use Rattle.rs01_table.specs.Views.{times_given, Answers, after_claim, after_draw, after_got, after_not, after_give, after_post, after_close, hires, hired, poster_first}
use Rattle.rs01_table.specs.Showing.{core_of, waiting, holding, status, Shows, Shown}
use Rattle.rs01_table.proofs.SumLemmas.{total-two, total-set, total-kept, total-snoc, same_self, same_other, below_le}
use Rattle.rs01_table.proofs.PartLemmas.{position}
use Rattle.rs01_table.proofs.CoreLemmas.{closed_odd, my_slot}
use Rattle.rs01_table.proofs.SlotLemmas.{got_once, not_given}

head_is : (a b : ℕ) (l : List ℕ) → l ≡ a ∷ [] → l ≡ b ∷ [] → a ≡ b
head_is a b l e e' = ap first (sym e ∙ e')
  where
    first : List ℕ → ℕ
    first [] = 0
    first (x ∷ xs) = x

pub only_one : (l : List ℕ) → length l ≡ 1 → (w : ℕ) × (l ≡ w ∷ [])
only_one [] e = absurd (omega arith)
only_one (w ∷ []) e = (w, refl)
only_one (w ∷ x ∷ l) e = absurd (omega arith)

-- the two ways to read a list
pub read : {A : Type 0} (l : List A) (k : ℕ) (a : A) → get_elem? l k ≡ some a → slice_get l k ≡ Some a
read [] k a e = absurd (some-ne-none a (sym e))
read (x ∷ xs) zero a e = ap (λ z. Some z) (some-injective x a e)
read (x ∷ xs) (suc k) a e = read xs k a e

last_is : {A : Type 0} (l : List A) (a : A) (n : ℕ) → length l ≡ n → slice_get (l ++ a ∷ []) n ≡ Some a
last_is [] a zero e = refl
last_is [] a (suc n) e = absurd (omega arith)
last_is (x ∷ xs) a zero e = absurd (omega arith)
last_is (x ∷ xs) a (suc n) e = last_is xs a n (omega arith)

status_is : (v : View) (over : Bool) (held : List ℕ) (got : List Hold) → v.over ≡ over → v.held ≡ held → v.got ≡ got → status v ≡ cond over Over (holding held got)
status_is v over held got e e' e'' = λ i. cond (e i) Over (holding (e' i) (e'' i))

longer_get : {A : Type 0} (l k : List A) (i : ℕ) (s : A) → slice_get l i ≡ Some s → slice_get (l ++ k) i ≡ Some s
longer_get [] k i s e = absurd cc
longer_get (x ∷ xs) k zero s e = e
longer_get (x ∷ xs) k (suc i) s e = longer_get xs k i s e

module _ (fit : LayerInput → Type 0) (value : LayerInput → LayerOut) where
  module _ (p : View) (n w0 w1 w2 : ℕ) (vs : List View) (id : ℕ) (v : View) (at : get_elem? vs id ≡ some v) (works : v.posts ≡ false) (one : length v.numbers ≡ 1) (c : Core fit value p n w0 w1 w2 vs) where
    -- two workers have two numbers
    apart : (w : ℕ) → v.numbers ≡ w ∷ [] → (i : ℕ) (u : View) → get_elem? vs i ≡ some u → i ≢ id → (k : ℕ) → u.numbers ≡ k ∷ [] → k ≢ w
    apart w mine i u e ne k other same =
        let sum : times_in w v.numbers + times_in w u.numbers ≤ total (λ (z : View). times_in w z.numbers) vs = total-two (λ (z : View). times_in w z.numbers) vs id i v u at e ne in
        let once : total (λ (z : View). times_in w z.numbers) vs ≡ below_test w p.workers = c.numbers.each w in
        let one : times_in w v.numbers ≡ same_test w w + 0 = ap (times_in w) mine in
        let two : times_in w u.numbers ≡ same_test w k + 0 = ap (times_in w) other in
        let here : same_test w k ≡ same_test w w = ap (same_test w) same in
        absurd (omega (arith, below_le w p.workers, same_self w))

    -- a worker's view changes, and gives nothing: the statuses that are shown are the machine's
    shows_with : (m : Machine) (workers : List Status) (v' : View) → v'.given ≡ v.given → length workers ≡ p.workers
        → ((i : ℕ) (u : View) → get_elem? (set vs id v') i ≡ some u → u.posts ≡ false → (k : ℕ) → u.numbers ≡ k ∷ [] → slice_get workers k ≡ Some (status u))
        → (ticket : ℕ) → Shows m p n ticket vs → Shows (record m { workers = workers }) p n ticket (set vs id v')
    shows_with m workers v' given staff shown ticket r = record {
      slots = r.slots;
      posted = r.posted;
      closed = r.closed;
      next = r.next;
      staff = staff;
      workers = shown;
      long = r.long;
      back = λ i u e j g e'. ⊎_elim
          (λ h. r.back id v at j g (ap (λ (l : List Gave). get_elem? l j) (sym given ∙ ap (λ (z : View). z.given) h.1) ∙ e'))
          (λ h. r.back i u h.1 j g e')
          (at_set vs id i v' u e);
      open_yet = λ k below h. r.open_yet k below (sym (total-kept (λ (z : View). times_given k z.given) vs id v v' at (ap (times_given k) given)) ∙ h);
    }

    -- and has another status
    shows_worker : (m : Machine) (w : ℕ) (x : Status) (v' : View) → v.numbers ≡ w ∷ [] → v'.numbers ≡ v.numbers → v'.given ≡ v.given → status v' ≡ x → (ticket : ℕ) → Shows m p n ticket vs
        → Shows (record m { workers = set m.workers w x }) p n ticket (set vs id v')
    shows_worker m w x v' mine named given is ticket r =
        shows_with m (set m.workers w x) v' given (length-set m.workers w x ∙ r.staff)
        (λ i u e working k number. ⊎_elim
        (λ h.
        let numbers : v'.numbers ≡ u.numbers = ap (λ (z : View). z.numbers) h.1 in
        let same : k ≡ w = head_is k w u.numbers number (sym numbers ∙ named ∙ mine) in
        ap (slice_get (set m.workers w x)) same ∙ set_here m.workers w x (within m.workers w (status v) (r.workers id v at works w mine)) ∙ ap (λ s. Some s) (sym is ∙ ap status h.1))
        (λ h. set_else m.workers w k x (apart w mine i u h.1 h.0 k number) ∙ r.workers i u h.1 working k number)
        (at_set vs id i v' u e))
        ticket r

    -- or the status that it had
    shows_same : (m : Machine) (v' : View) → v'.posts ≡ false → v'.numbers ≡ v.numbers → v'.given ≡ v.given → status v' ≡ status v → (ticket : ℕ) → Shows m p n ticket vs → Shows m p n ticket (set vs id v')
    shows_same m v' working' named given is ticket r =
        shows_with m m.workers v' given r.staff
        (λ i u e working k number. ⊎_elim
        (λ h. r.workers id v at works k (sym named ∙ ap (λ (z : View). z.numbers) h.1 ∙ number) ∙ ap (λ s. Some s) (sym is ∙ ap status h.1))
        (λ h. r.workers i u h.1 working k number)
        (at_set vs id i v' u e))
        ticket r

    pub shown_draw : v.held ≡ [] → v.got ≡ [] → v.over ≡ false → Shown value p n w1 vs → Shown value p n (w1 + 1) (set vs id (after_draw v w1))
    shown_draw free empty going z =
        let m = z.0 in let r = z.2 in
        let w = only_one v.numbers one in
        let idle : slice_get m.workers w.0 ≡ Some Idle = r.workers id v at works w.0 w.1 ∙ ap (λ s. Some s) (status_is v false [] [] going free empty) in
        let s = shows_worker m w.0 (Waits m.next) (after_draw v w1) w.1 refl refl (ap (λ t. Waits t) (sym r.next)) w1 r in (
          with_drawn m w.0,
          reached_draw value m w.0 z.1 idle,
          record { slots = s.slots; posted = s.posted; closed = s.closed; next = ap (λ k. k + 1) r.next; staff = s.staff; workers = s.workers; long = s.long; back = s.back; open_yet = s.open_yet },
        )

    waits : (m : Machine) (w t : ℕ) → v.numbers ≡ w ∷ [] → v.held ≡ t ∷ [] → v.got ≡ [] → v.over ≡ false → Shows m p n w1 vs → slice_get m.workers w ≡ Some (Waits t)
    waits m w t mine held empty going r = r.workers id v at works w mine ∙ ap (λ s. Some s) (status_is v false (t ∷ []) [] going held empty)

    pub shown_got : (g : Hold) → v.held ≡ g.ticket ∷ [] → v.got ≡ [] → v.over ≡ false → g.ticket < length p.posted → Shown value p n w1 vs → Shown value p n w1 (set vs id (after_got v w0 g))
    shown_got g held empty going below z =
        let m = z.0 in let r = z.2 in
        let w = only_one v.numbers one in (
          with_status m w.0 (Holds g.ticket),
          reached_got value m w.0 g.ticket z.1 (waits m w.0 g.ticket w.1 held empty going r) (subst (λ (l : List LayerInput). g.ticket < length l) (sym r.posted) below),
          shows_worker m w.0 (Holds g.ticket) (after_got v w0 g) w.1 refl refl refl w1 r,
        )

    pub shown_not : (t : ℕ) → v.held ≡ t ∷ [] → v.got ≡ [] → v.over ≡ false → length p.posted ≤ t → Shown value p n w1 vs → Shown value p n w1 (set vs id (after_not v w0))
    shown_not t held empty going beyond z = by (eqb (w0 % 2) 1) refl
      where
        by : (b : Bool) → eqb (w0 % 2) 1 ≡ b → Shown value p n w1 (set vs id (after_not v w0))
        by true e =
            let m = z.0 in let r = z.2 in
            let w = only_one v.numbers one in (
              with_status m w.0 Over,
              reached_over value m w.0 t z.1 (waits m w.0 t w.1 held empty going r) (subst (λ (l : List LayerInput). length l ≤ t) (sym r.posted) beyond) (r.closed ∙ closed_odd fit value p n w0 w1 w2 vs id v at works c e),
              shows_worker m w.0 Over (after_not v w0) w.1 refl refl (ap (λ b. cond b Over (waiting v.held)) e) w1 r,
            )
        by false e =
            (z.0, z.1, shows_same z.0 (after_not v w0) works refl refl (ap (λ b. cond b Over (waiting v.held)) e ∙ ap waiting held ∙ sym (status_is v false (t ∷ []) [] going held empty)) w1 z.2)

    -- what is given comes to the ticket's slot
    pub shown_give : (g : Hold) (what : Given) → v.got ≡ g ∷ [] → Answers value g.input what → Shown value p n w1 vs
        → Shown value p n w1 (set vs id (after_give v (record { ticket = g.ticket; what = what } ∷ [])))
    shown_give g what got right z =
        let m = z.0 in let r = z.2 in
        let w = only_one v.numbers one in
        let t : ℕ = g.ticket in
        let back : Gave = record { ticket = t; what = what } in
        let v' : View = after_give v (back ∷ []) in
        let got_one : gots t v ≡ 1 = ap (total (λ (z : Hold). same_test t z.ticket)) got ∙ one_time t in
        let nobody = (got_once fit value p n w0 w1 w2 vs id v at c t got_one).1 in
        let slot = my_slot fit value p n w0 w1 w2 vs id v at works c g got in
        let holds : slice_get m.workers w.0 ≡ Some (Holds t) = r.workers id v at works w.0 w.1 ∙ ap (λ s. Some s) (status_is v v.over v.held (g ∷ []) refl refl got ∙ not_over g got) in
        let below : t < length m.results = omega (arith, r.long, position fit value p.posted t g.input slot.2) in
        let there : slice_get m.posted t ≡ Some g.input = ap (λ (l : List LayerInput). slice_get l t) r.posted ∙ read p.posted t g.input slot.2 in
        let old : (i : ℕ) (u : View) → get_elem? vs i ≡ some u → (j : ℕ) (z : Gave) → get_elem? u.given j ≡ some z → slice_get (set m.results t (Some (core_of what))) z.ticket ≡ Some (Some (core_of z.what))
        = (λ i u e j z e'. set_else m.results t z.ticket (Some (core_of what)) (not_given fit value p n w0 w1 w2 vs id v at c t nobody i u e j z e') ∙ r.back i u e j z e') in (
          with_given m w.0 (core_of what) t,
          reached_give value m w.0 t (core_of what) z.1 holds
              (subst (λ o. IsValueAt value o (core_of what)) (sym (ap (input_at m) holds ∙ there)) (value_is what g.input right)),
          record {
            slots = r.slots;
            posted = r.posted;
            closed = r.closed;
            next = r.next;
            staff = length-set m.workers w.0 Idle ∙ r.staff;
            workers = λ i u e working k number. ⊎_elim
                (λ h.
                let numbers : v'.numbers ≡ u.numbers = ap (λ (z : View). z.numbers) h.1 in
                let same : k ≡ w.0 = head_is k w.0 u.numbers number (sym numbers ∙ w.1) in
                ap (slice_get (set m.workers w.0 Idle)) same ∙ set_here m.workers w.0 Idle (within m.workers w.0 (Holds t) holds) ∙ ap (λ s. Some s) (ap status h.1))
                (λ h. set_else m.workers w.0 k Idle (apart w.0 w.1 i u h.1 h.0 k number) ∙ r.workers i u h.1 working k number)
                (at_set vs id i v' u e);
            long = length-set m.results t (Some (core_of what)) ∙ r.long;
            back = λ i u e j z e'. ⊎_elim
                (λ h. ⊎_elim
                (λ before. old id v at j z before)
                (λ last. subst (λ (y : Gave). slice_get (set m.results t (Some (core_of what))) y.ticket ≡ Some (Some (core_of y.what))) last (set_here m.results t (Some (core_of what)) below))
                (at_snoc v.given back z j (ap (λ (y : View). get_elem? y.given j) h.1 ∙ e')))
                (λ h. old i u h.1 j z e')
                (at_set vs id i v' u e);
            open_yet = λ k inside h.
                let sum = total-set (λ (z : View). times_given k z.given) vs id v v' at in
                let more = total-snoc (λ (z : Gave). same_test k z.ticket) v.given back in
                let ne : k ≢ t = (λ same. let one : same_test k t ≡ 1 = ap (λ z. same_test z t) same ∙ same_self t in absurd (omega arith)) in
                set_else m.results t k (Some (core_of what)) ne ∙ r.open_yet k inside (omega (arith, same_other k t ne));
          },
        )
      where
        one_time : (t : ℕ) → same_test t t + 0 ≡ 1
        one_time t = omega (arith, same_self t)

        value_is : (what : Given) (i : LayerInput) → Answers value i what → IsValueOf value i (core_of what)
        value_is (Left i') i right = tt
        value_is (Done i' o) i right = right.1 ∙ ap value right.0

        not_over : (g : Hold) → v.got ≡ g ∷ [] → cond v.over Over (Holds g.ticket) ≡ Holds g.ticket
        not_over g e = by v.over refl
          where
            by : (b : Bool) → v.over ≡ b → cond b Over (Holds g.ticket) ≡ Holds g.ticket
            by false h = refl
            by true h =
                let over = (c.fine id v at).over h in
                let slot = my_slot fit value p n w0 w1 w2 vs id v at works c g e in
                let same : over.0 ≡ g.ticket = head_is over.0 g.ticket v.held over.1 slot.0 in
                absurd (omega (arith, over.2, slot.1))

  -- the poster's view changes, and what the workers know stays
  module _ (p p' : View) (n ticket id : ℕ) (vs : List View) (at : get_elem? vs id ≡ some p) (is : p.posts ≡ true) (is' : p'.posts ≡ true) (given : p'.given ≡ p.given) where
    poster_workers : (m : Machine) → Shows m p n ticket vs → (i : ℕ) (u : View) → get_elem? (set vs id p') i ≡ some u → u.posts ≡ false → (w : ℕ) → u.numbers ≡ w ∷ [] → slice_get m.workers w ≡ Some (status u)
    poster_workers m r i u e working k number = ⊎_elim
        (λ h. let yes_posts : u.posts ≡ true = ap (λ (z : View). z.posts) (sym h.1) ∙ is' in absurd cc)
        (λ h. r.workers i u h.1 working k number)
        (at_set vs id i p' u e)

    poster_back : (m : Machine) → Shows m p n ticket vs → (i : ℕ) (u : View) → get_elem? (set vs id p') i ≡ some u → (j : ℕ) (g : Gave) → get_elem? u.given j ≡ some g → slice_get m.results g.ticket ≡ Some (Some (core_of g.what))
    poster_back m r i u e j g e' = ⊎_elim
        (λ h. r.back id p at j g (ap (λ (l : List Gave). get_elem? l j) (sym given ∙ ap (λ (z : View). z.given) h.1) ∙ e'))
        (λ h. r.back i u h.1 j g e')
        (at_set vs id i p' u e)

    poster_sum : (k : ℕ) → total (λ (z : View). times_given k z.given) (set vs id p') ≡ total (λ (z : View). times_given k z.given) vs
    poster_sum k = total-kept (λ (z : View). times_given k z.given) vs id p p' at (ap (times_given k) given)

    -- nothing of the machine changes
    poster_shows : (m : Machine) → p'.posted ≡ p.posted → p'.closed ≡ p.closed → p'.workers ≡ p.workers → Shows m p n ticket vs → Shows m p' n ticket (set vs id p')
    poster_shows m posted closed count r = record {
      slots = r.slots;
      posted = r.posted ∙ sym posted;
      closed = r.closed ∙ sym closed;
      next = r.next;
      staff = r.staff ∙ sym count;
      workers = poster_workers m r;
      long = r.long ∙ sym (ap length posted);
      back = poster_back m r;
      open_yet = λ k below h. r.open_yet k (subst (λ (l : List LayerInput). k < length l) posted below) (sym (poster_sum k) ∙ h);
    }

  module _ (p : View) (n ticket id : ℕ) (vs : List View) (at : get_elem? vs id ≡ some p) (is : p.posts ≡ true) where
    pub shown_claim : Shown value p n ticket vs → Shown value (after_claim p) n ticket (set vs id (after_claim p))
    shown_claim z = (z.0, z.1, poster_shows p (after_claim p) n ticket id vs at is is refl z.0 refl refl refl z.2)

    pub shown_close : Shown value p n ticket vs → Shown value (after_close p) n ticket (set vs id (after_close p))
    shown_close z =
        let r = z.2 in (
          when_closed z.0,
          reached_close value z.0 z.1,
          record {
            slots = r.slots;
            posted = r.posted;
            closed = refl;
            next = r.next;
            staff = r.staff;
            workers = poster_workers p (after_close p) n ticket id vs at is is refl z.0 r;
            long = r.long;
            back = poster_back p (after_close p) n ticket id vs at is is refl z.0 r;
            open_yet = λ k below h. r.open_yet k below (sym (poster_sum p (after_close p) n ticket id vs at is is refl k) ∙ h);
          },
        )

    pub shown_post : (i : LayerInput) → p.closed ≡ false → length p.posted < n → Shown value p n ticket vs → Shown value (after_post p (i ∷ [])) n ticket (set vs id (after_post p (i ∷ [])))
    shown_post i going room z =
        let m = z.0 in let r = z.2 in
        let w : View = after_post p (i ∷ []) in
        let same : length m.posted ≡ length p.posted = ap length r.posted in (
          with_posted m i,
          reached_post value m i z.1 (r.closed ∙ going) (omega (arith, r.slots)),
          record {
            slots = r.slots;
            posted = ap (λ l. l ++ i ∷ []) r.posted;
            closed = r.closed ∙ going;
            next = r.next;
            staff = r.staff;
            workers = poster_workers p w n ticket id vs at is is refl m r;
            long = omega (arith, length-append m.results (None ∷ []), length-append p.posted (i ∷ []), r.long);
            back = λ k u e j g e'. longer_get m.results (None ∷ []) g.ticket (Some (core_of g.what)) (poster_back p w n ticket id vs at is is refl m r k u e j g e');
            open_yet = λ k below h. ⊎_elim
                (λ old. longer_get m.results (None ∷ []) k None (r.open_yet k old (sym (poster_sum p w n ticket id vs at is is refl k) ∙ h)))
                (λ new. last_is m.results None k (omega (arith, r.long, length-append p.posted (i ∷ []))))
                (cases_lt k (length p.posted));
          },
        )

    -- one worker more
    pub shown_split : Shown value p n ticket vs → Shown value (hires p) n ticket (set vs id (hires p) ++ hired p ∷ [])
    shown_split z =
        let m = z.0 in let r = z.2 in
        let w : View = hires p in let u : View = hired p in (
          more m,
          reached_more value z.1,
          record {
            slots = r.slots;
            posted = r.posted;
            closed = r.closed;
            next = r.next;
            staff = omega (arith, r.staff, length-append m.workers (Idle ∷ []));
            workers = λ i y e working k number. ⊎_elim
                (λ old. longer_get m.workers (Idle ∷ []) k (status y) (poster_workers p w n ticket id vs at is is refl m r i y old working k number))
                (λ new.
                let here : k ≡ length m.workers = sym (head_is p.workers k y.numbers (sym (ap (λ (q : View). q.numbers) new)) number) ∙ sym r.staff in
                last_is m.workers Idle k (sym here) ∙ ap (λ q. Some q) (ap status new))
                (at_snoc (set vs id w) u y i e);
            long = r.long;
            back = λ i y e j g e'. ⊎_elim
                (λ old. poster_back p w n ticket id vs at is is refl m r i y old j g e')
                (λ new. absurd (some-ne-none g (sym e' ∙ ap (λ (q : View). get_elem? q.given j) (sym new))))
                (at_snoc (set vs id w) u y i e);
            open_yet = λ k below h.
                let sum = total-snoc (λ (q : View). times_given k q.given) (set vs id w) u in
                r.open_yet k below (sym (poster_sum p w n ticket id vs at is is refl k) ∙ omega arith);
          },
        )

  pub shown_first : (n : ℕ) → Shown value poster_first n 0 (poster_first ∷ [])
  shown_first n = (
    fresh n 0,
    start n 0,
    record {
      slots = refl;
      posted = refl;
      closed = refl;
      next = refl;
      staff = refl;
      workers = λ i u e working k number. absurd (none_works i u e working);
      long = refl;
      back = λ i u e j g e'. absurd (none_gave i u e j g e');
      open_yet = λ k below h. absurd (omega arith);
    },
  )
    where
      none_works : (i : ℕ) (u : View) → get_elem? (poster_first ∷ []) i ≡ some u → u.posts ≡ false → ⊥
      none_works zero u e working = let yes_posts : u.posts ≡ true = ap (λ (z : View). z.posts) (sym (some-injective poster_first u e)) in cc
      none_works (suc i) u e working = some-ne-none u (sym e)

      none_gave : (i : ℕ) (u : View) → get_elem? (poster_first ∷ []) i ≡ some u → (j : ℕ) (g : Gave) → get_elem? u.given j ≡ some g → ⊥
      none_gave zero u e j g e' = some-ne-none g (sym e' ∙ ap (λ (z : View). get_elem? z.given j) (sym (some-injective poster_first u e)))
      none_gave (suc i) u e j g e' = some-ne-none u (sym e)
