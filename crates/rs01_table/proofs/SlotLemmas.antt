-- Each kind keeps the part of the rule that says how the slots stand.
use Rattle.std.proofs.Common.{◌≡◌, ◌≢◌, ℕ, zero, suc, ◌+◌, ◌<◌, ◌≤◌, Bool, true, false, List, [], ◌∷◌, ◌++◌, length, set, sym, refl, ap, ◌∙◌, arith, length-set, ⊎_elim, subst, length-append, Some}
use mathlib.Core.Option.{none, some, some-injective, some-ne-none, Option as Home}
use lib.ListN.{get_elem?}
use Rattle.atomic_table.proofs.Lists.{at_set, set_else, set_here, at_snoc, at_last}
use Rattle.std.proofs.lemmas.Bool.{cases_lt, cases_eq}
use Rattle.rs01_table.specs.declared.views.View.{View}
use Rattle.rs01_layers.specs.declared.input.LayerInput.{LayerInput}
use Rattle.rs01_table.specs.declared.given.Given.{Given}
use Rattle.rs01_table.specs.declared.given.Given.TheVariants.{Left}
use Rattle.rs01_table.specs.declared.views.Gave.{Gave}
use Rattle.rs01_table.specs.declared.views.Hold.{Hold}
use Rattle.rs01_window.specs.Soundness.{total, same_test}
use Rattle.rs01_table.specs.Rule.{below_test, times_in, tickets, gots, GotFine, Core, Kept, Slots}
use Rattle.rs01_table.specs.Views.{times_given, Slot, after_claim, after_post, after_got, after_give}
use Rattle.rs01_table.proofs.SumLemmas.{total-set, total-kept, total-le, total-one, total-less, total-snoc, same_self, same_other, below_le}
use Rattle.rs01_table.proofs.PartLemmas.{position}
use Rattle.rs01_layers.specs.declared.task.LayerOut.{LayerOut}

module _ (fit : LayerInput → Type 0) (value : LayerInput → LayerOut) where
  -- a slot got is the view's ticket
  got_held : (posted : List LayerInput) (seen : ℕ) (held : List ℕ) (got : List Hold) (k : ℕ) → GotFine posted seen held got → total (λ (g : Hold). same_test k g.ticket) got ≤ times_in k held
  got_held posted seen held [] k f = omega arith
  got_held posted seen held (g ∷ gs) k f =
      let one : times_in k held ≡ same_test k g.ticket + 0 = ap (times_in k) f.1 in
      let none_more : total (λ (z : Hold). same_test k z.ticket) gs ≡ 0 = ap (total (λ (z : Hold). same_test k z.ticket)) f.0 in
      omega arith

  -- and below the number posted
  got_posted : (posted : List LayerInput) (seen : ℕ) (held : List ℕ) (got : List Hold) (k : ℕ) → GotFine posted seen held got → seen ≤ length posted → length posted ≤ k → total (λ (g : Hold). same_test k g.ticket) got ≡ 0
  got_posted posted seen held [] k f s h = refl
  got_posted posted seen held (g ∷ gs) k f s h =
      let none_more : total (λ (z : Hold). same_test k z.ticket) gs ≡ 0 = ap (total (λ (z : Hold). same_test k z.ticket)) f.0 in
      let below : g.ticket < seen = f.2 in
      let apart : same_test k g.ticket ≡ 0 = same_other k g.ticket (λ e. omega arith) in
      omega arith

  total-none : (f : View → ℕ) (vs : List View) → ((i : ℕ) (v : View) → get_elem? vs i ≡ some v → f v ≡ 0) → total f vs ≡ 0
  total-none f [] h = refl
  total-none f (y ∷ vs) h = let one = h zero y refl in let more = total-none f vs (λ i v e. h (suc i) v e) in omega arith

  pub kept_set : (homes : List (Home Slot)) (vs : List View) (id : ℕ) (w : View) → ((i : ℕ) (v : View) → get_elem? vs i ≡ some v → Kept homes v) → Kept homes w
      → (i : ℕ) (v : View) → get_elem? (set vs id w) i ≡ some v → Kept homes v
  kept_set homes vs id w h k i u e = ⊎_elim (λ z. subst (Kept homes) z.1 k) (λ z. h i u z.1) (at_set vs id i w u e)

  -- a step that neither takes nor gives
  pub slots_kept : (posted : List LayerInput) (claimed : Bool) (homes : List (Home Slot)) (vs : List View) (id : ℕ) (v w : View) → get_elem? vs id ≡ some v
      → w.got ≡ v.got → w.given ≡ v.given → Slots posted claimed homes vs → Slots posted claimed homes (set vs id w)
  slots_kept posted claimed homes vs id v w at got given r = record {
    claim = r.claim;
    next = r.next;
    later = r.later;
    out = λ k l h. r.out k l (omega (arith, gots_same k));
    laid = λ k i e g t. r.laid k i e (sym (gots_same k) ∙ g) (sym (givens_same k) ∙ t);
    kept = kept_set homes vs id w r.kept (λ j g e. r.kept id v at j g (ap (λ l. get_elem? l j) (sym given) ∙ e));
  }
    where
      gots_same : (k : ℕ) → total (gots k) (set vs id w) ≡ total (gots k) vs
      gots_same k = total-kept (gots k) vs id v w at (ap (total (λ (g : Hold). same_test k g.ticket)) got)

      givens_same : (k : ℕ) → total (λ (u : View). times_given k u.given) (set vs id w) ≡ total (λ (u : View). times_given k u.given) vs
      givens_same k = total-kept (λ (u : View). times_given k u.given) vs id v w at (ap (times_given k) given)

  -- a new view with no ticket
  pub slots_more : (posted : List LayerInput) (claimed : Bool) (homes : List (Home Slot)) (vs : List View) (w : View) → w.got ≡ [] → w.given ≡ [] → Slots posted claimed homes vs → Slots posted claimed homes (vs ++ w ∷ [])
  slots_more posted claimed homes vs w got given r = record {
    claim = r.claim;
    next = r.next;
    later = r.later;
    out = λ k l h. r.out k l (omega (arith, gots_same k));
    laid = λ k i e g t. r.laid k i e (sym (gots_same k) ∙ g) (sym (givens_same k) ∙ t);
    kept = λ i u e. ⊎_elim (λ h. r.kept i u h) (λ h. subst (Kept homes) h (λ j g e'. absurd (some-ne-none g (sym e' ∙ ap (λ l. get_elem? l j) given)))) (at_snoc vs w u i e);
  }
    where
      gots_same : (k : ℕ) → total (gots k) (vs ++ w ∷ []) ≡ total (gots k) vs
      gots_same k = let nothing : gots k w ≡ 0 = ap (total (λ (g : Hold). same_test k g.ticket)) got in omega (arith, total-snoc (gots k) vs w)

      givens_same : (k : ℕ) → total (λ (u : View). times_given k u.given) (vs ++ w ∷ []) ≡ total (λ (u : View). times_given k u.given) vs
      givens_same k = let nothing : times_given k w.given ≡ 0 = ap (times_given k) given in omega (arith, total-snoc (λ (u : View). times_given k u.given) vs w)

  module _ (p : View) (n w0 w1 w2 : ℕ) (vs : List View) (id : ℕ) (v : View) (at : get_elem? vs id ≡ some v) (c : Core fit value p n w0 w1 w2 vs) where
    once : (k : ℕ) → total (tickets k) vs ≤ 1
    once k = let e : total (tickets k) vs ≡ below_test k w1 = c.tickets.each k in omega (arith, below_le k w1)

    abbrev used : ℕ → View → ℕ
    used k u = gots k u + times_given k u.given

    used_le : (k i : ℕ) (u : View) → get_elem? vs i ≡ some u → used k u ≤ tickets k u
    used_le k i u e = let h = got_held p.posted u.seen u.held u.got k (c.fine i u e).got in omega arith

    -- who holds a ticket and has got no slot: nobody got the ticket's slot, or gave the ticket
    pub unused : (t : ℕ) → times_in t v.held ≡ 1 → gots t v ≡ 0 → (total (gots t) vs ≡ 0) × (total (λ (u : View). times_given t u.given) vs ≡ 0)
    unused t held empty =
        let sum = total-less (used t) (tickets t) vs id v at (used_le t) in
        let one : total (tickets t) vs ≤ 1 = once t in
        let part : total (gots t) vs ≤ total (used t) vs = total-le (gots t) (used t) vs (λ i u e. omega arith) in
        let part' : total (λ (u : View). times_given t u.given) vs ≤ total (used t) vs = total-le (λ (u : View). times_given t u.given) (used t) vs (λ i u e. omega arith) in
        (omega arith, omega arith)

    -- who has got a slot: nobody else got it, and nobody gave its ticket
    pub got_once : (t : ℕ) → gots t v ≡ 1 → (total (gots t) vs ≡ 1) × (total (λ (u : View). times_given t u.given) vs ≡ 0)
    got_once t got =
        let one : total (tickets t) vs ≤ 1 = once t in
        let le : total (used t) vs ≤ total (tickets t) vs = total-le (used t) (tickets t) vs (used_le t) in
        let here : gots t v ≤ total (gots t) vs = total-one (gots t) vs id v at in
        let both : total (used t) vs ≡ total (gots t) vs + total (λ (u : View). times_given t u.given) vs = total-add vs in
        (omega arith, omega arith)
      where
        total-add : (l : List View) → total (used t) l ≡ total (gots t) l + total (λ (u : View). times_given t u.given) l
        total-add [] = refl
        total-add (y ∷ l) = let r = total-add l in omega arith

    -- a ticket that nobody gave is in no list
    pub not_given : (t : ℕ) → total (λ (u : View). times_given t u.given) vs ≡ 0 → (i : ℕ) (u : View) → get_elem? vs i ≡ some u → (j : ℕ) (g : Gave) → get_elem? u.given j ≡ some g → g.ticket ≢ t
    not_given t nobody i u e j g e' same =
        let one : times_given t u.given ≤ total (λ (z : View). times_given t z.given) vs = total-one (λ (z : View). times_given t z.given) vs i u e in
        let mine : same_test t g.ticket ≤ times_given t u.given = total-one (λ (z : Gave). same_test t z.ticket) u.given j g e' in
        let here : same_test t g.ticket ≡ 1 = ap (same_test t) same ∙ same_self t in
        absurd (omega arith)

    not_got : (k : ℕ) → length p.posted ≤ k → total (gots k) vs ≡ 0
    not_got k h = total-none (gots k) vs (λ i u e. let f = c.fine i u e in got_posted p.posted u.seen u.held u.got k f.got f.seen h)

    given_below : (i : ℕ) (u : View) → get_elem? vs i ≡ some u → (j : ℕ) (g : Gave) → get_elem? u.given j ≡ some g → g.ticket < length p.posted
    given_below i u e j g e' = let h = (c.fine i u e).given j g e' in position fit value p.posted g.ticket h.0 h.1

    module _ (homes : List (Home Slot)) where
      -- the worker takes its ticket's slot
      pub slots_got : (word : ℕ) (g : Hold) → v.held ≡ g.ticket ∷ [] → v.got ≡ [] → g.ticket < length p.posted → length p.posted ≤ length homes → Slots p.posted p.claimed homes vs
          → Slots p.posted p.claimed (set homes g.ticket none) (set vs id (after_got v word g))
      slots_got word g held empty below fits r =
          let t : ℕ = g.ticket in
          let w : View = after_got v word g in
          let long = length-set homes t none in
          let was = unused t (ap (times_in t) held ∙ let s = same_self t in omega arith) (ap (total (λ (z : Hold). same_test t z.ticket)) empty) in
          let change : (k : ℕ) → total (gots k) (set vs id w) ≡ total (gots k) vs + same_test k t
          = (λ k. let sum = total-set (gots k) vs id v w at in let nothing : gots k v ≡ 0 = ap (total (λ (z : Hold). same_test k z.ticket)) empty in omega arith) in
          let given_same : (k : ℕ) → total (λ (u : View). times_given k u.given) (set vs id w) ≡ total (λ (u : View). times_given k u.given) vs
          = (λ k. total-kept (λ (u : View). times_given k u.given) vs id v w at refl) in
          record {
            claim = λ e. omega (arith, r.claim e);
            next = λ h. set_else homes t (length p.posted) none (λ e. omega arith) ∙ r.next (omega arith);
            later = λ k h h'. set_else homes t k none (λ e. omega arith) ∙ r.later k h (omega arith);
            out = λ k l h. ⊎_elim
                (λ e. subst (λ z. get_elem? (set homes t none) z ≡ some none) (sym e) (set_here homes t none (omega arith)))
                (λ ne. set_else homes t k none ne ∙ r.out k l (omega (arith, change k, same_other k t ne)))
                (cases_eq k t);
            laid = λ k i e h h'.
                let ne : k ≢ t = (λ same. let one : same_test k t ≡ 1 = ap (λ z. same_test z t) same ∙ same_self t in absurd (omega (arith, change k))) in
                set_else homes t k none ne ∙ r.laid k i e (omega (arith, change k)) (sym (given_same k) ∙ h');
            kept =
                let old : (i : ℕ) (u : View) → get_elem? vs i ≡ some u → Kept (set homes t none) u
                = (λ i u e j z e'. set_else homes t z.ticket none (not_given t was.1 i u e j z e') ∙ r.kept i u e j z e') in
                kept_set (set homes t none) vs id w old (old id v at);
          }

      -- the worker's slot goes home with what is given
      pub slots_given : (g : Hold) (what : Given) → v.got ≡ g ∷ [] → g.ticket < length p.posted → length p.posted ≤ length homes → Slots p.posted p.claimed homes vs
          → Slots p.posted p.claimed (set homes g.ticket (some (Some what))) (set vs id (after_give v (record { ticket = g.ticket; what = what } ∷ [])))
      slots_given g what got below fits r =
          let t : ℕ = g.ticket in
          let back : Gave = record { ticket = t; what = what } in
          let h_new : Home Slot = some (Some what) in
          let w : View = after_give v (back ∷ []) in
          let long = length-set homes t h_new in
          let mine : (k : ℕ) → gots k v ≡ same_test k t = (λ k. let e : gots k v ≡ same_test k t + 0 = ap (total (λ (z : Hold). same_test k z.ticket)) got in omega arith) in
          let was = got_once t (mine t ∙ same_self t) in
          let change : (k : ℕ) → total (gots k) (set vs id w) + same_test k t ≡ total (gots k) vs
          = (λ k. let sum = total-set (gots k) vs id v w at in let e = mine k in omega arith) in
          let given_more : (k : ℕ) → total (λ (u : View). times_given k u.given) (set vs id w) ≡ total (λ (u : View). times_given k u.given) vs + same_test k t
          = (λ k. let sum = total-set (λ (u : View). times_given k u.given) vs id v w at in let more = total-snoc (λ (z : Gave). same_test k z.ticket) v.given back in omega arith) in
          record {
            claim = λ e. omega (arith, r.claim e);
            next = λ h. set_else homes t (length p.posted) h_new (λ e. omega arith) ∙ r.next (omega arith);
            later = λ k h h'. set_else homes t k h_new (λ e. omega arith) ∙ r.later k h (omega arith);
            out = λ k l h.
                let ne : k ≢ t = (λ same. let one : same_test k t ≡ 1 = ap (λ z. same_test z t) same ∙ same_self t in
                let all : total (gots k) vs ≡ 1 = ap (λ z. total (gots z) vs) same ∙ was.0 in absurd (omega (arith, change k))) in
                set_else homes t k h_new ne ∙ r.out k l (omega (arith, change k));
            laid = λ k i e h h'.
                let ne : k ≢ t = (λ same. let one : same_test k t ≡ 1 = ap (λ z. same_test z t) same ∙ same_self t in absurd (omega (arith, given_more k))) in
                let none_now = same_other k t ne in
                set_else homes t k h_new ne ∙ r.laid k i e (omega (arith, change k)) (omega (arith, given_more k));
            kept =
                let old : (i : ℕ) (u : View) → get_elem? vs i ≡ some u → Kept (set homes t h_new) u
                = (λ i u e j z e'. set_else homes t z.ticket h_new (not_given t was.1 i u e j z e') ∙ r.kept i u e j z e') in
                kept_set (set homes t h_new) vs id w old
                (λ j z e. ⊎_elim (λ h. old id v at j z h)
                (λ h. subst (λ (y : Gave). get_elem? (set homes t h_new) y.ticket ≡ some (some (Some y.what))) h (set_here homes t h_new (omega arith)))
                (at_snoc v.given back z j e));
          }

      -- the poster takes the next slot
      pub slots_claimed : length p.posted < length homes → Slots p.posted p.claimed homes vs → let w : View = after_claim v in Slots p.posted true (set homes (length p.posted) none) (set vs id w)
      slots_claimed room r =
          let t : ℕ = length p.posted in
          let long = length-set homes t none in
          let fresh : Slots p.posted true (set homes t none) vs = record {
            claim = λ e. omega arith;
            next = λ h. set_here homes t none room;
            later = λ k h h'. set_else homes t k none (λ e. omega arith) ∙ r.later k h (omega arith);
            out = λ k l h. set_else homes t k none (λ e. omega arith) ∙ r.out k l h;
            laid = λ k i e h h'. let l = position fit value p.posted k i e in set_else homes t k none (λ z. omega arith) ∙ r.laid k i e h h';
            kept = λ i u e j z e'. let l = given_below i u e j z e' in set_else homes t z.ticket none (λ y. omega arith) ∙ r.kept i u e j z e';
          } in
          slots_kept p.posted true (set homes t none) vs id v (after_claim v) at refl refl fresh

      -- the poster's slot goes home with an input
      pub slots_posted : (i : LayerInput) → length p.posted < length homes → Slots p.posted p.claimed homes vs
          → Slots (p.posted ++ i ∷ []) false (set homes (length p.posted) (some (Some (Left i)))) (set vs id (after_post v (i ∷ [])))
      slots_posted i room r =
          let t : ℕ = length p.posted in
          let h_new : Home Slot = some (Some (Left i)) in
          let long = length-set homes t h_new in
          let filled : LayerInput → Home (Home Slot) = (λ z. some (some (Some (Left z)))) in
          let longer : length (p.posted ++ i ∷ []) ≡ t + 1 = length-append p.posted (i ∷ []) in
          let fresh : Slots (p.posted ++ i ∷ []) false (set homes t h_new) vs = record {
            claim = λ e. absurd cc;
            next = λ h. set_else homes t (length (p.posted ++ i ∷ [])) h_new (λ e. omega arith) ∙ r.later (length (p.posted ++ i ∷ [])) (omega arith) (omega arith);
            later = λ k h h'. set_else homes t k h_new (λ e. omega arith) ∙ r.later k (omega arith) (omega arith);
            out = λ k l h. ⊎_elim
                (λ below. set_else homes t k h_new (λ e. omega arith) ∙ r.out k below h)
                (λ beyond. absurd (omega (arith, not_got k beyond)))
                (cases_lt k t);
            laid = λ k i' e h h'. ⊎_elim
                (λ below. set_else homes t k h_new (λ z. omega arith) ∙ r.laid k i' (sym (at_shorter p.posted (i ∷ []) k below) ∙ e) h h')
                (λ beyond.
                let here : k ≡ t = omega (arith, position fit value (p.posted ++ i ∷ []) k i' e) in
                let is : i ≡ i' = some-injective i i' (sym (at_last p.posted i t refl) ∙ ap (get_elem? (p.posted ++ i ∷ [])) (sym here) ∙ e) in
                ap (get_elem? (set homes t h_new)) here ∙ set_here homes t h_new room ∙ ap filled is)
                (cases_lt k t);
            kept = λ k u e j z e'. let l = given_below k u e j z e' in set_else homes t z.ticket h_new (λ y. omega arith) ∙ r.kept k u e j z e';
          } in
          slots_kept (p.posted ++ i ∷ []) false (set homes t h_new) vs id v (after_post v (i ∷ [])) at refl refl fresh
        where
          at_shorter : (l m : List LayerInput) (k : ℕ) → k < length l → get_elem? (l ++ m) k ≡ get_elem? l k
          at_shorter [] m k h = absurd (omega arith)
          at_shorter (x ∷ xs) m zero h = refl
          at_shorter (x ∷ xs) m (suc k) h = at_shorter xs m k (omega arith)
