-- What the slots have when the window ends.
use Rattle.std.proofs.Common.{◌≡◌, ◌≢◌, ℕ, zero, suc, ◌<◌, ◌≤◌, true, false, List, [], ◌∷◌, length, sym, refl, ap, ◌∙◌, arith, map, ⊎_elim, subst, Some, None, replicate}
use mathlib.Core.Option.{some, some-injective, some-ne-none, Option as Home}
use lib.ListN.{get_elem?}
use Rattle.std.proofs.lemmas.Bool.{cases_lt}
use Rattle.atomic_table.specs.Table.{Final, Seen, opening}
use Rattle.rs01_table.specs.declared.views.View.{View}
use Rattle.rs01_layers.specs.declared.input.LayerInput.{LayerInput}
use Rattle.rs01_table.specs.declared.given.Given.{Given}
use Rattle.rs01_table.specs.declared.given.Given.TheVariants.{Left}
use Rattle.rs01_table.specs.declared.views.Gave.{Gave}
use Rattle.rs01_table.specs.declared.views.Hold.{Hold}
use Rattle.rs01_window.specs.Soundness.{total, same_test}
use Rattle.rs01_table.specs.Views.{times_given, Answers, Slot, poster_first}
use Rattle.rs01_table.specs.Rule.{gots, GotFine, Fine, AllFine, Kept, Rule, is_zero}
use Rattle.rs01_table.specs.Showing.{Shown}
use Rattle.rs01_table.proofs.SumLemmas.{total-two, total-some, total-only, times_le, same_yes, below_none}
use Rattle.rs01_table.proofs.PartLemmas.{position}
use Rattle.rs01_table.proofs.KeepLemmas.{mine}
use Rattle.rs01_table.proofs.ShownLemmas.{shown_first}
use Rattle.rs01_layers.specs.declared.task.LayerOut.{LayerOut}

module _ (fit : LayerInput → Type 0) (value : LayerInput → LayerOut) where
  got_len : (posted : List LayerInput) (seen : ℕ) (held : List ℕ) (got : List Hold) → GotFine posted seen held got → length got ≤ length held
  got_len posted seen held [] f = omega arith
  got_len posted seen held (g ∷ gs) f = let e : length held ≡ 1 = ap length f.1 in let e' : length gs ≡ 0 = ap length f.0 in omega arith

  -- what the slots have in the end: the inputs with what was given, or alone
  pub record EndsIn (posted : List LayerInput) (given : List Gave) (xs : List Slot) : Type 0 where
    pub each : (k : ℕ) (i : LayerInput) → get_elem? posted k ≡ some i → (what : Given) × (get_elem? xs k ≡ some (Some what)) × Answers value i what
    pub back : (j : ℕ) (g : Gave) → get_elem? given j ≡ some g → get_elem? xs g.ticket ≡ some (Some g.what)
    pub left : (k : ℕ) (i : LayerInput) → get_elem? posted k ≡ some i → times_given k given ≡ 0 → get_elem? xs k ≡ some (Some (Left i))
    pub fits : length posted ≤ length xs
    pub within : (j : ℕ) (g : Gave) → get_elem? given j ≡ some g → g.ticket < length posted

  pub ends : (id : ℕ) (v : View) (ws : List ℕ) (xs : List Slot) → v.posts ≡ true → v.got ≡ [] → length v.numbers ≡ v.workers → Final (Seen (Rule fit value) id v) ws xs → EndsIn v.posted v.given xs
  ends id v ws xs is none_v all f =
      let s = f.0 in let r = f.1.0 in let at = f.1.1 in
      let m = mine fit value s id v r at is in let c = m.0.1 in
      let home : (k : ℕ) (y : Slot) → get_elem? s.homes k ≡ some (some y) → get_elem? xs k ≡ some y = f.4 in
      let others : (j : ℕ) (u : View) → get_elem? s.views j ≡ some u → j ≢ id → length u.numbers ≡ 0
      = (λ j u e ne. omega (arith, total-two (λ (z : View). length z.numbers) s.views id j v u at e ne, c.numbers.all)) in
      let nobody_got : (k : ℕ) → total (gots k) s.views ≡ 0
      = (λ k.
      let zero_v : gots k v ≡ 0 = ap (total (λ (g : Hold). same_test k g.ticket)) none_v in
      total-only (gots k) s.views id v at
      (λ j u e ne. omega (arith, times_le (λ (g : Hold). g.ticket) k u.got, got_len v.posted u.seen u.held u.got (c.fine j u e).got, (c.fine j u e).few, others j u e ne))
      ∙ zero_v) in
      let given_mine : (k : ℕ) → total (λ (u : View). times_given k u.given) s.views ≡ times_given k v.given
      = (λ k. total-only (λ (u : View). times_given k u.given) s.views id v at
      (λ j u e ne. let none_given : length u.given ≡ 0 = (c.fine j u e).named (others j u e ne) in omega (arith, times_le (λ (g : Gave). g.ticket) k u.given))) in
      let left_here : (k : ℕ) (i : LayerInput) → get_elem? v.posted k ≡ some i → times_given k v.given ≡ 0 → get_elem? xs k ≡ some (Some (Left i))
      = (λ k i e h. home k (Some (Left i)) (m.1.laid k i e (nobody_got k) (given_mine k ∙ h))) in
      let back_here : (j : ℕ) (g : Gave) → get_elem? v.given j ≡ some g → get_elem? xs g.ticket ≡ some (Some g.what)
      = (λ j g e. home g.ticket (Some g.what) (m.1.kept id v at j g e)) in
      record {
        each = λ k i e. ⊎_elim
            (λ some_given.
            let z = total-some (λ (g : Gave). same_test k g.ticket) v.given some_given in
            let g : Gave = z.1 in
            let here : k ≡ g.ticket = same_yes k g.ticket z.3 in
            let h = (c.fine id v at).given z.0 g z.2 in
            let same : h.0 ≡ i = some-injective h.0 i (sym h.1 ∙ ap (get_elem? v.posted) (sym here) ∙ e) in
            (g.what, ap (get_elem? xs) here ∙ back_here z.0 g z.2, subst (λ (y : LayerInput). Answers value y g.what) same h.2))
            (λ none_given. (Left i, left_here k i e (omega arith), (refl, tt)))
            (cases_lt 0 (times_given k v.given));
        back = back_here;
        left = left_here;
        fits = omega (arith, c.word.fits);
        within = λ j g e. let h = (c.fine id v at).given j g e in position fit value v.posted g.ticket h.0 h.1;
      }

  -- the window at the start

  abbrev vacant : ℕ → List Slot
  vacant n = replicate n None

  all_none : (n k : ℕ) → k < n → get_elem? (map some (vacant n)) k ≡ some (some None)
  all_none zero k h = absurd (omega arith)
  all_none (suc n) zero h = refl
  all_none (suc n) (suc k) h = all_none n k (omega arith)

  long : (n : ℕ) → length (map some (vacant n)) ≡ n
  long zero = refl
  long (suc n) = let r = long n in omega arith

  pub opens : (n : ℕ) → n < 4294967296 → Rule fit value (opening (0 ∷ 0 ∷ 0 ∷ []) (replicate n None) poster_first)
  opens n small =
      let homes : List (Home Slot) = map some (vacant n) in
      let is_long : length homes ≡ n = long n in (
        poster_first,
        (
          refl,
          record {
            roles = record { first = refl; others = only };
            fits = λ k i e. absurd (some-ne-none i (sym e));
            word = record { is = refl; fits = omega arith; small = omega arith };
            tickets = record { each = λ x. sym (below_none x); all = refl; back = refl };
            fine = fine_only;
            numbers = record { each = λ x. sym (below_none x); all = refl; few = omega arith };
          },
        ),
        record {
          claim = λ e. absurd cc;
          next = λ h. all_none n 0 (omega arith);
          later = λ k h h'. all_none n k (omega arith);
          out = λ k l h. absurd (omega arith);
          laid = λ k i e g t. absurd (some-ne-none i (sym e));
          kept = kept_only homes;
        },
        subst (λ k. Shown value poster_first k 0 (poster_first ∷ [])) (sym is_long) (shown_first fit value n),
        record { numbers = refl; held = refl; given = refl; few = λ j g e. absurd (some-ne-none g (sym e)) },
      )
    where
      only : (i : ℕ) (v : View) → get_elem? (poster_first ∷ []) i ≡ some v → v.posts ≡ is_zero i
      only zero v e = ap (λ (z : View). z.posts) (sym (some-injective poster_first v e))
      only (suc i) v e = absurd (some-ne-none v (sym e))

      first_fine : Fine value [] false poster_first
      first_fine = record { few = omega arith; seen = omega arith; seen_closed = λ e. absurd cc; got = tt; over = λ e. absurd cc; given = λ j g e. absurd (some-ne-none g (sym e)); named = λ e. refl }

      fine_only : AllFine value [] false (poster_first ∷ [])
      fine_only zero v e = subst (Fine value [] false) (some-injective poster_first v e) first_fine
      fine_only (suc i) v e = absurd (some-ne-none v (sym e))

      kept_only : (homes : List (Home Slot)) (i : ℕ) (v : View) → get_elem? (poster_first ∷ []) i ≡ some v → Kept homes v
      kept_only homes zero v e = subst (Kept homes) (some-injective poster_first v e) (λ j g e'. absurd (some-ne-none g (sym e')))
      kept_only homes (suc i) v e = absurd (some-ne-none v (sym e))
