-- How each part of the rule stands when one view changes, or one comes.
use Rattle.std.proofs.Common.{◌≡◌, ◌≢◌, ℕ, zero, suc, ◌+◌, ◌<◌, ◌≤◌, Bool, true, false, List, [], ◌∷◌, ◌++◌, length, set, sym, refl, ap, ◌∙◌, arith, ⊎_elim, subst, length-append}
use mathlib.Core.Option.{some, some-injective, some-ne-none}
use lib.ListN.{get_elem?}
use Rattle.atomic_table.proofs.Lists.{at_set, set_else, at_longer, at_snoc}
use Rattle.rs01_table.specs.declared.views.View.{View}
use Rattle.rs01_layers.specs.declared.input.LayerInput.{LayerInput}
use Rattle.rs01_table.specs.declared.views.Gave.{Gave}
use Rattle.rs01_table.specs.declared.views.Hold.{Hold}
use Rattle.rs01_table.specs.Rule.{is_zero, below_test, times_in, tickets, GotFine, Fine, AllFine, Roles, Tickets, Numbers, Core}
use Rattle.rs01_window.specs.Soundness.{total}
use Rattle.rs01_table.specs.Views.{times_given}
use Rattle.rs01_table.proofs.SumLemmas.{total-kept, total-le, below_le, spread, spread-le, spread-lists}
use Rattle.rs01_layers.specs.declared.task.LayerOut.{LayerOut}

module _ (fit : LayerInput → Type 0) (value : LayerInput → LayerOut) where
  -- who has which role

  pub is_poster : (p : View) (vs : List View) (id : ℕ) (v : View) → Roles p vs → get_elem? vs id ≡ some v → v.posts ≡ true → id ≡ 0
  is_poster p vs zero v r at posts = refl
  is_poster p vs (suc id) v r at posts = absurd (true-false (sym posts ∙ r.others (suc id) v at))
    where
      true-false : true ≡ false → ⊥
      true-false e = cc

  pub the_poster : (p : View) (vs : List View) (id : ℕ) (v : View) → Roles p vs → get_elem? vs id ≡ some v → v.posts ≡ true → p ≡ v
  the_poster p vs id v r at posts = some-injective p v (sym r.first ∙ ap (get_elem? vs) (sym (is_poster p vs id v r at posts)) ∙ at)

  pub not_poster : (p : View) (vs : List View) (id : ℕ) (v : View) → Roles p vs → get_elem? vs id ≡ some v → v.posts ≡ false → 0 ≢ id
  not_poster p vs id v r at not e = let yes : v.posts ≡ true = r.others id v at ∙ sym (ap is_zero e) in cc

  pub roles_worker : (p : View) (vs : List View) (id : ℕ) (v w : View) → Roles p vs → get_elem? vs id ≡ some v → v.posts ≡ false → w.posts ≡ false → Roles p (set vs id w)
  roles_worker p vs id v w r at not not' = record {
    first = set_else vs id 0 w (not_poster p vs id v r at not) ∙ r.first;
    others = λ i u e. ⊎_elim
        (λ h. ap (λ (z : View). z.posts) (sym h.1) ∙ not' ∙ sym not ∙ r.others id v at ∙ ap is_zero (sym h.0))
        (λ h. r.others i u h.1)
        (at_set vs id i w u e);
  }

  pub roles_poster : (p : View) (vs : List View) (id : ℕ) (v w : View) → Roles p vs → get_elem? vs id ≡ some v → v.posts ≡ true → w.posts ≡ true → Roles w (set vs id w)
  roles_poster p [] id v w r at is is' = absurd (some-ne-none p (sym r.first))
  roles_poster p (y ∷ vs) id v w r at is is' =
      let zero_id : id ≡ 0 = is_poster p (y ∷ vs) id v r at is in
      record {
        first = rw zero_id refl;
        others = λ i u e. ⊎_elim
            (λ h. ap (λ (z : View). z.posts) (sym h.1) ∙ is' ∙ sym is ∙ r.others id v at ∙ ap is_zero (sym h.0))
            (λ h. r.others i u h.1)
            (at_set (y ∷ vs) id i w u e);
      }

  pub roles_more : (p : View) (vs : List View) (w : View) → Roles p vs → w.posts ≡ false → Roles p (vs ++ w ∷ [])
  roles_more p [] w r not = absurd (some-ne-none p (sym r.first))
  roles_more p (y ∷ vs) w r not = record {
    first = r.first;
    others = λ i u e. newer i u e;
  }
    where
      newer : (i : ℕ) (u : View) → get_elem? ((y ∷ vs) ++ w ∷ []) i ≡ some u → u.posts ≡ is_zero i
      newer zero u e = r.others zero u e
      newer (suc i) u e = ⊎_elim (λ h. r.others (suc i) u h) (λ h. ap (λ (z : View). z.posts) (sym h) ∙ not) (at_snoc vs w u i e)

  -- what holds of each view

  pub fine_set : (posted : List LayerInput) (closed : Bool) (vs : List View) (id : ℕ) (w : View) → AllFine value posted closed vs → Fine value posted closed w → AllFine value posted closed (set vs id w)
  fine_set posted closed vs id w f g i u e = ⊎_elim (λ h. subst (Fine value posted closed) h.1 g) (λ h. f i u h.1) (at_set vs id i w u e)

  pub fine_more : (posted : List LayerInput) (closed : Bool) (vs : List View) (w : View) → AllFine value posted closed vs → Fine value posted closed w → AllFine value posted closed (vs ++ w ∷ [])
  fine_more posted closed vs w f g i u e = ⊎_elim (λ h. f i u h) (λ h. subst (Fine value posted closed) h g) (at_snoc vs w u i e)

  got_longer : (posted : List LayerInput) (i : LayerInput) (seen : ℕ) (held : List ℕ) (got : List Hold) → GotFine posted seen held got → GotFine (posted ++ i ∷ []) seen held got
  got_longer posted i seen held [] f = tt
  got_longer posted i seen held (g ∷ gs) f = (f.0, f.1, f.2, at_longer posted (i ∷ []) g.ticket g.input f.3)

  -- one more is posted, where the window is open
  pub fine_posted : (posted : List LayerInput) (i : LayerInput) (v : View) → Fine value posted false v → Fine value (posted ++ i ∷ []) false v
  fine_posted posted i v f = record {
    few = f.few;
    seen = omega (arith, length-append posted (i ∷ []), f.seen);
    seen_closed = λ c. let no : false ≡ true = (f.seen_closed c).0 in absurd cc;
    got = got_longer posted i v.seen v.held v.got f.got;
    over = f.over;
    given = λ j g e. let h = f.given j g e in (h.0, at_longer posted (i ∷ []) g.ticket h.0 h.1, h.2);
    named = f.named;
  }

  pub fine_closed : (posted : List LayerInput) (closed : Bool) (v : View) → Fine value posted closed v → Fine value posted true v
  fine_closed posted closed v f = record { few = f.few; seen = f.seen; seen_closed = λ c. (refl, (f.seen_closed c).1); got = f.got; over = f.over; given = f.given; named = f.named }

  -- the counts

  pub tickets_kept : (a b : ℕ) (vs : List View) (id : ℕ) (v w : View) → get_elem? vs id ≡ some v
      → w.held ≡ v.held → w.given ≡ v.given → Tickets a b vs → Tickets a b (set vs id w)
  tickets_kept a b vs id v w at held given r = record {
    each = λ x. total-kept (tickets x) vs id v w at (λ i. times_in x (held i) + times_given x (given i)) ∙ r.each x;
    all = rw (total-kept (λ (u : View). length u.held) vs id v w at (ap length held)) r.all;
    back = rw (total-kept (λ (u : View). length u.given) vs id v w at (ap length given)) r.back;
  }

  pub numbers_kept : (n : ℕ) (vs : List View) (id : ℕ) (v w : View) → get_elem? vs id ≡ some v → w.numbers ≡ v.numbers → Numbers n vs → Numbers n (set vs id w)
  numbers_kept n vs id v w at same r = record {
    each = λ x. total-kept (λ (u : View). times_in x u.numbers) vs id v w at (ap (times_in x) same) ∙ r.each x;
    all = total-kept (λ (u : View). length u.numbers) vs id v w at (ap length same) ∙ r.all;
    few = r.few;
  }

  -- no count is large

  pub position : {A : Type 0} (l : List A) (k : ℕ) (a : A) → get_elem? l k ≡ some a → k < length l
  position [] k a e = absurd (some-ne-none a (sym e))
  position (x ∷ xs) zero a e = omega arith
  position (x ∷ xs) (suc k) a e = let r = position xs k a e in omega arith

  pub few_given : (p : View) (n w0 w1 w2 : ℕ) (vs : List View) → Core fit value p n w0 w1 w2 vs → w2 ≤ length p.posted
  few_given p n w0 w1 w2 vs c =
      let m : ℕ = length p.posted in
      let is = spread-lists (λ (v : View). v.given) (λ (g : Gave). g.ticket) m vs (λ i v e j g e'. let h = (c.fine i v e).given j g e' in position p.posted g.ticket h.0 h.1) in
      let once : spread (λ x. total (λ (v : View). times_given x v.given) vs) m ≤ m = spread-le (λ x. total (λ (v : View). times_given x v.given) vs) m
      (λ x.
      let part : total (λ (v : View). times_given x v.given) vs ≤ total (tickets x) vs = total-le (λ (v : View). times_given x v.given) (tickets x) vs (λ i v e. omega arith) in
      let each : total (tickets x) vs ≡ below_test x w1 = c.tickets.each x in
      omega (arith, below_le x w1)) in
      let back = c.tickets.back in
      omega arith

  pub few_drawn : (p : View) (n w0 w1 w2 : ℕ) (vs : List View) → Core fit value p n w0 w1 w2 vs → w1 ≤ n + p.workers
  few_drawn p n w0 w1 w2 vs c =
      let given : w2 ≤ length p.posted = few_given p n w0 w1 w2 vs c in
      let held : total (λ (v : View). length v.held) vs ≤ total (λ (v : View). length v.numbers) vs
      = total-le (λ (v : View). length v.held) (λ (v : View). length v.numbers) vs (λ i v e. (c.fine i v e).few) in
      let all = c.tickets.all in
      let count = c.numbers.all in
      let fits = c.word.fits in
      omega arith
