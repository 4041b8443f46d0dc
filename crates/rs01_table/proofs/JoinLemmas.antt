-- The poster takes over a worker that has no slot.
use Rattle.std.proofs.Common.{◌≡◌, ◌≢◌, ℕ, zero, suc, ◌+◌, Bool, true, false, List, [], ◌∷◌, ◌++◌, length, get_or, set, sym, refl, ap, ◌∙◌, arith, ⊎_elim, inl, inr, length-append, ◌⊎◌, ◌≤◌, subst, append_assoc, append-nil}
use mathlib.Core.Option.{some, some-ne-none, Option as Home}
use lib.ListN.{get_elem?}
use Rattle.atomic_table.specs.Table.{Joins}
use Rattle.atomic_table.proofs.Lists.{set_else, at_set, at_snoc}
use Rattle.rs01_table.specs.declared.views.View.{View}
use Rattle.rs01_layers.specs.declared.input.LayerInput.{LayerInput}
use Rattle.rs01_table.specs.declared.views.Gave.{Gave}
use Rattle.rs01_table.specs.declared.views.Hold.{Hold}
use Rattle.rs01_table.specs.declared.views.Gone.{Gone}
use Rattle.rs01_window.specs.Soundness.{total, same_test}
use Rattle.rs01_table.specs.Rule.{is_zero, times_in, tickets, gots, Fine, Roles, Core, Slots, Records, gone_numbers, gone_held, gone_given, Rule}
use Rattle.rs01_table.specs.Views.{times_given, both, spent, Slot, gone_as}
use Rattle.rs01_table.specs.Showing.{Shown}
use Rattle.rs01_table.proofs.SumLemmas.{total-set, total-append}
use Rattle.rs01_table.proofs.PartLemmas.{is_poster, roles_worker, roles_poster, fine_set}
use Rattle.rs01_table.proofs.SlotLemmas.{kept_set}
use Rattle.rs01_table.proofs.KeepLemmas.{mine}
use Rattle.rs01_layers.specs.declared.task.LayerOut.{LayerOut}

module _ (fit : LayerInput → Type 0) (value : LayerInput → LayerOut) where
  -- an element of two lists, one behind the other
  pub at_append : {A : Type 0} (l m : List A) (j : ℕ) (a : A) → get_elem? (l ++ m) j ≡ some a → (get_elem? l j ≡ some a) ⊎ ((k : ℕ) × (get_elem? m k ≡ some a))
  at_append [] m j a e = inr (j, e)
  at_append (x ∷ xs) m zero a e = inl e
  at_append (x ∷ xs) m (suc j) a e = at_append xs m j a e

  module _ (vs : List View) (id other : ℕ) (v w : View) (at : get_elem? vs id ≡ some v) (apart : other ≢ id) (at' : get_elem? (set vs id (both v w)) other ≡ some w) where
    abbrev joined : List View
    joined = set (set vs id (both v w)) other spent

    pub there : get_elem? vs other ≡ some w
    there = sym (set_else vs id other (both v w) apart) ∙ at'

    total-joined : (f : View → ℕ) → f (both v w) ≡ f v + f w → f spent ≡ 0 → total f joined ≡ total f vs
    total-joined f e n = omega (arith, total-set f vs id v (both v w) at, total-set f (set vs id (both v w)) other w spent at')

    roles_joined : Roles v vs → v.posts ≡ true → Roles (both v w) joined
    roles_joined r is =
        let first : id ≡ 0 = is_poster fit value v vs id v r at is in
        let not : w.posts ≡ false = r.others other w there ∙ later other (λ e. apart (e ∙ sym first)) in
        roles_worker fit value (both v w) (set vs id (both v w)) other w spent (roles_poster fit value v vs id v (both v w) r at is is) at' not refl
      where
        later : (k : ℕ) → k ≢ 0 → is_zero k ≡ false
        later zero ne = absurd (ne refl)
        later (suc k) ne = refl

    fine_spent : (posted : List LayerInput) (closed : Bool) → Fine value posted closed spent
    fine_spent posted closed = record { few = omega arith; seen = omega arith; seen_closed = λ e. absurd cc; got = tt; over = λ e. absurd cc; given = λ j g e. absurd (some-ne-none g (sym e)); named = λ e. refl }

    fine_both : (posted : List LayerInput) (closed : Bool) → Fine value posted closed v → Fine value posted closed w → Fine value posted closed (both v w)
    fine_both posted closed f g = record {
      few = omega (arith, length-append v.held w.held, length-append v.numbers w.numbers, f.few, g.few);
      seen = f.seen;
      seen_closed = f.seen_closed;
      got = tt;
      over = λ e. absurd cc;
      given = λ j z e. ⊎_elim (λ h. f.given j z h) (λ h. g.given h.0 z h.1) (at_append v.given w.given j z e);
      named = λ e. omega (arith, length-append v.numbers w.numbers, length-append v.given w.given, f.named, g.named);
    }

    core_joined : (n w0 w1 w2 : ℕ) → Core fit value v n w0 w1 w2 vs → v.posts ≡ true → Core fit value (both v w) n w0 w1 w2 joined
    core_joined n w0 w1 w2 c is = record {
      roles = roles_joined c.roles is;
      fits = c.fits;
      word = record { is = c.word.is; fits = c.word.fits; small = c.word.small };
      tickets = record {
        each = λ x. total-joined (tickets x) (omega (arith, total-append (same_test x) v.held w.held, total-append (λ (g : Gave). same_test x g.ticket) v.given w.given)) (omega arith) ∙ c.tickets.each x;
        all = rw (total-joined (λ (u : View). length u.held) (length-append v.held w.held) refl) c.tickets.all;
        back = rw (total-joined (λ (u : View). length u.given) (length-append v.given w.given) refl) c.tickets.back;
      };
      fine = fine_set fit value v.posted v.closed (set vs id (both v w)) other spent
          (fine_set fit value v.posted v.closed vs id (both v w) c.fine (fine_both v.posted v.closed (c.fine id v at) (c.fine other w there)))
          (fine_spent v.posted v.closed);
      numbers = record {
        each = λ x. total-joined (λ (u : View). times_in x u.numbers) (total-append (same_test x) v.numbers w.numbers) refl ∙ c.numbers.each x;
        all = total-joined (λ (u : View). length u.numbers) (length-append v.numbers w.numbers) refl ∙ c.numbers.all;
        few = c.numbers.few;
      };
    }

    slots_joined : (posted : List LayerInput) (claimed : Bool) (homes : List (Home Slot)) → v.got ≡ [] → w.got ≡ [] → Slots posted claimed homes vs → Slots posted claimed homes joined
    slots_joined posted claimed homes none_v none_w r =
        let gots_same : (k : ℕ) → total (gots k) joined ≡ total (gots k) vs
        = (λ k. let e : gots k v ≡ 0 = ap (total (λ (g : Hold). same_test k g.ticket)) none_v in let e' : gots k w ≡ 0 = ap (total (λ (g : Hold). same_test k g.ticket)) none_w in
        total-joined (gots k) (omega arith) refl) in
        let givens_same : (k : ℕ) → total (λ (u : View). times_given k u.given) joined ≡ total (λ (u : View). times_given k u.given) vs
        = (λ k. total-joined (λ (u : View). times_given k u.given) (total-append (λ (g : Gave). same_test k g.ticket) v.given w.given) refl) in
        record {
          claim = r.claim;
          next = r.next;
          later = r.later;
          out = λ k l h. r.out k l (omega (arith, gots_same k));
          laid = λ k i e g t. r.laid k i e (sym (gots_same k) ∙ g) (sym (givens_same k) ∙ t);
          kept = kept_set fit value homes (set vs id (both v w)) other spent
              (kept_set fit value homes vs id (both v w) r.kept
              (λ j g e. ⊎_elim (λ h. r.kept id v at j g h) (λ h. r.kept other w there h.0 g h.1) (at_append v.given w.given j g e)))
              (λ j g e. absurd (some-ne-none g (sym e)));
        }

    shown_joined : (n ticket : ℕ) → v.posts ≡ true → Shown value v n ticket vs → Shown value (both v w) n ticket joined
    shown_joined n ticket is z =
        let m = z.0 in let r = z.2 in (
          m,
          z.1,
          record {
            slots = r.slots;
            posted = r.posted;
            closed = r.closed;
            next = r.next;
            staff = r.staff;
            workers = λ i u e working k number. ⊎_elim
                (λ h. absurd (nil-cons k (ap (λ (q : View). q.numbers) h.1 ∙ number)))
                (λ h. ⊎_elim
                (λ h'. let yes_posts : u.posts ≡ true = ap (λ (q : View). q.posts) (sym h'.1) ∙ is in absurd cc)
                (λ h'. r.workers i u h'.1 working k number)
                (at_set vs id i (both v w) u h.1))
                (at_set (set vs id (both v w)) other i spent u e);
            long = r.long;
            back = λ i u e j g e'. ⊎_elim
                (λ h. absurd (some-ne-none g (sym e' ∙ ap (λ (q : View). get_elem? q.given j) (sym h.1))))
                (λ h. ⊎_elim
                (λ h'. ⊎_elim (λ mine. r.back id v at j g mine) (λ theirs. r.back other w there theirs.0 g theirs.1) (at_append v.given w.given j g (ap (λ (q : View). get_elem? q.given j) h'.1 ∙ e')))
                (λ h'. r.back i u h'.1 j g e')
                (at_set vs id i (both v w) u h.1))
                (at_set (set vs id (both v w)) other i spent u e);
            open_yet = λ k below h. r.open_yet k below (sym (total-joined (λ (u : View). times_given k u.given) (total-append (λ (g : Gave). same_test k g.ticket) v.given w.given) refl) ∙ h);
          },
        )
      where
        nil-cons : (k : ℕ) → [] ≡ k ∷ [] → ⊥
        nil-cons k e = cc

  numbers_more : (l : List Gone) (g : Gone) → gone_numbers (l ++ g ∷ []) ≡ gone_numbers l ++ g.number ∷ []
  numbers_more [] g = refl
  numbers_more (x ∷ l) g = ap (λ (r : List ℕ). x.number ∷ r) (numbers_more l g)

  held_more : (l : List Gone) (g : Gone) → gone_held (l ++ g ∷ []) ≡ gone_held l ++ g.held
  held_more [] g = append-nil g.held
  held_more (x ∷ l) g = ap (λ (r : List ℕ). x.held ++ r) (held_more l g) ∙ sym (append_assoc x.held (gone_held l) g.held)

  given_more : (l : List Gone) (g : Gone) → gone_given (l ++ g ∷ []) ≡ gone_given l ++ g.given
  given_more [] g = append-nil g.given
  given_more (x ∷ l) g = ap (λ (r : List Gave). x.given ++ r) (given_more l g) ∙ sym (append_assoc x.given (gone_given l) g.given)

  one_number : (l : List ℕ) → length l ≡ 1 → l ≡ get_or l 0 0 ∷ []
  one_number [] e = absurd (omega arith)
  one_number (x ∷ []) e = refl
  one_number (x ∷ y ∷ l) e = absurd (omega arith)

  records_both : (v w : View) → Records v → length w.numbers ≡ 1 → length w.held ≤ length w.numbers → Records (both v w)
  records_both v w r one few = record {
    numbers = ap (λ (l : List ℕ). l ++ w.numbers) r.numbers ∙ ap (λ (l : List ℕ). gone_numbers v.gone ++ l) (one_number w.numbers one) ∙ sym (numbers_more v.gone (gone_as w));
    held = ap (λ (l : List ℕ). l ++ w.held) r.held ∙ sym (held_more v.gone (gone_as w));
    given = ap (λ (l : List Gave). l ++ w.given) r.given ∙ sym (given_more v.gone (gone_as w));
    few = λ j g e. ⊎_elim (λ old. r.few j g old) (λ new. subst (λ (z : Gone). length z.held ≤ 1) new (omega arith)) (at_snoc v.gone (gone_as w) g j e);
  }

  pub joins : (id : ℕ) (v : View) (other : ℕ) (w : View) → v.posts ≡ true → v.got ≡ [] → w.got ≡ [] → length w.numbers ≡ 1 → Joins (Rule fit value) id v other w (both v w) spent
  joins id v other w is none_v none_w one s r at apart at' =
      let m = mine fit value s id v r at is in (
        both v w,
        (m.0.0, core_joined s.views id other v w at apart at' (length s.homes) (get_or s.words 0 0) (get_or s.words 1 0) (get_or s.words 2 0) m.0.1 is),
        slots_joined s.views id other v w at apart at' v.posted v.claimed s.homes none_v none_w m.1,
        shown_joined s.views id other v w at apart at' (length s.homes) (get_or s.words 1 0) is m.2,
        records_both v w m.3 one (m.0.1.fine other w (there s.views id other v w at apart at')).few,
      )
