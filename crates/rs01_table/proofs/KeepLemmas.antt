-- Each kind of step keeps the rule.
use Rattle.std.proofs.Common.{◌≡◌, ℕ, zero, suc, ◌+◌, ◌*◌, ◌/◌, ◌%◌, ◌^◌, ◌<◌, ◌≤◌, Bool, true, false, List, [], ◌∷◌, length, get_or, set, sym, refl, ap, ◌∙◌, arith, Some, None, length-set, ⊎_elim, subst}
use mathlib.Core.Option.{none, some, Option as Home}
use lib.ListN.{get_elem?}
use Rattle.std.specs.Prelude.{bit_or}
use Rattle.std.proofs.lemmas.Nat.{or_block, or_shifted}
use Rattle.std.proofs.lemmas.Bool.{cases_lt}
use Rattle.atomic_table.specs.Table.{State, Me, step, keeps, takes, gives, Allows, Splits}
use Rattle.rs01_table.specs.declared.views.View.{View}
use Rattle.rs01_layers.specs.declared.input.LayerInput.{LayerInput}
use Rattle.rs01_table.specs.declared.given.Given.{Given}
use Rattle.rs01_table.specs.declared.given.Given.TheVariants.{Left}
use Rattle.rs01_table.specs.declared.views.Gave.{Gave}
use Rattle.rs01_table.specs.declared.views.Hold.{Hold}
use Rattle.rs01_window.specs.Soundness.{total, same_test}
use Rattle.rs01_table.specs.Rule.{times_in, bit, Core, CoreAt, Rule, Records, Slots, next_home}
use Rattle.rs01_table.specs.Views.{Answers, Slot, after_claim, after_post, after_close, after_draw, after_got, after_not, after_give, hires, hired}
use Rattle.rs01_table.specs.Showing.{Shown}
use Rattle.rs01_table.specs.Plays.{Claims, Posts, Closes, Draws, Looks, Gives}
use Rattle.rs01_table.proofs.SumLemmas.{same_self}
use Rattle.rs01_table.proofs.PartLemmas.{position, the_poster, few_given, few_drawn}
use Rattle.rs01_table.proofs.SlotLemmas.{slots_kept, slots_more, slots_claimed, slots_posted, slots_got, slots_given, unused}
use Rattle.rs01_table.proofs.ShownLemmas.{shown_claim, shown_post, shown_close, shown_split, shown_draw, shown_got, shown_not, shown_give}
use Rattle.rs01_table.proofs.CoreLemmas.{bit_le, posted_half, core_claim, core_post, core_close, core_split, core_draw, core_look_got, core_look_not, core_give, my_slot}
use Rattle.rs01_layers.specs.declared.task.LayerOut.{LayerOut}

module _ (fit : LayerInput → Type 0) (value : LayerInput → LayerOut) where
  put0 : (p : View) (n : ℕ) (words : List ℕ) (vs : List View) (y : ℕ) → length words ≡ 3 → Core fit value p n y (get_or words 1 0) (get_or words 2 0) vs → CoreAt fit value p n (set words 0 y) vs
  put0 p n [] vs y e r = absurd (omega arith)
  put0 p n (a ∷ []) vs y e r = absurd (omega arith)
  put0 p n (a ∷ b ∷ []) vs y e r = absurd (omega arith)
  put0 p n (a ∷ b ∷ c ∷ []) vs y e r = (e, r)
  put0 p n (a ∷ b ∷ c ∷ d ∷ l) vs y e r = absurd (omega arith)

  put1 : (p : View) (n : ℕ) (words : List ℕ) (vs : List View) (y : ℕ) → length words ≡ 3 → Core fit value p n (get_or words 0 0) y (get_or words 2 0) vs → CoreAt fit value p n (set words 1 y) vs
  put1 p n [] vs y e r = absurd (omega arith)
  put1 p n (a ∷ []) vs y e r = absurd (omega arith)
  put1 p n (a ∷ b ∷ []) vs y e r = absurd (omega arith)
  put1 p n (a ∷ b ∷ c ∷ []) vs y e r = (e, r)
  put1 p n (a ∷ b ∷ c ∷ d ∷ l) vs y e r = absurd (omega arith)

  put2 : (p : View) (n : ℕ) (words : List ℕ) (vs : List View) (y : ℕ) → length words ≡ 3 → Core fit value p n (get_or words 0 0) (get_or words 1 0) y vs → CoreAt fit value p n (set words 2 y) vs
  put2 p n [] vs y e r = absurd (omega arith)
  put2 p n (a ∷ []) vs y e r = absurd (omega arith)
  put2 p n (a ∷ b ∷ []) vs y e r = absurd (omega arith)
  put2 p n (a ∷ b ∷ c ∷ []) vs y e r = (e, r)
  put2 p n (a ∷ b ∷ c ∷ d ∷ l) vs y e r = absurd (omega arith)

  -- the ticket's word, where another word is put, or it itself
  ticket0 : (words : List ℕ) (y : ℕ) → length words ≡ 3 → get_or (set words 0 y) 1 0 ≡ get_or words 1 0
  ticket0 [] y e = absurd (omega arith)
  ticket0 (a ∷ l) y e = refl

  ticket1 : (words : List ℕ) (y : ℕ) → length words ≡ 3 → get_or (set words 1 y) 1 0 ≡ y
  ticket1 [] y e = absurd (omega arith)
  ticket1 (a ∷ []) y e = absurd (omega arith)
  ticket1 (a ∷ b ∷ l) y e = refl

  ticket2 : (words : List ℕ) (y : ℕ) → length words ≡ 3 → get_or (set words 2 y) 1 0 ≡ get_or words 1 0
  ticket2 [] y e = absurd (omega arith)
  ticket2 (a ∷ []) y e = absurd (omega arith)
  ticket2 (a ∷ b ∷ l) y e = refl

  -- with as many slots, and the ticket's word as it is
  shown_at : (p : View) (n n' t t' : ℕ) (vs : List View) → n' ≡ n → t' ≡ t → Shown value p n t vs → Shown value p n' t' vs
  shown_at p n n' t t' vs e e' z = subst (λ (k : ℕ × ℕ). Shown value p k.0 k.1 vs) (λ i. (sym e i, sym e' i)) z

  or_one : (k : ℕ) (b : Bool) → bit_or (2 * k + bit b) 1 ≡ 2 * k + 1
  or_one k false = let e = or_shifted k 1 1 (omega arith) in let same : k * 2 ^ 1 ≡ 2 * k + 0 = omega arith in ap (λ y. bit_or y 1) (sym same) ∙ e ∙ omega arith
  or_one k true =
      let e : bit_or (k * 2 ^ 1 + 1) (0 * 2 ^ 1 + 1) ≡ bit_or k 0 * 2 ^ 1 + bit_or 1 1 = or_block 1 k 0 1 1 (omega arith) (omega arith) in
      let none_more : bit_or (k * 2 ^ 0) 0 ≡ k * 2 ^ 0 + 0 = or_shifted k 0 0 (omega arith) in
      let one : k * 2 ^ 0 ≡ k = omega arith in
      let kept : bit_or k 0 ≡ k = ap (λ y. bit_or y 0) (sym one) ∙ none_more ∙ omega arith in
      let same : k * 2 ^ 1 + 1 ≡ 2 * k + 1 = omega arith in
      ap (λ y. bit_or y 1) (sym same) ∙ e ∙ ap (λ y. y * 2 ^ 1 + 1) kept ∙ same

  at_below : {A : Type 0} (l : List A) (k : ℕ) → k < length l → (a : A) × (get_elem? l k ≡ some a)
  at_below [] k h = absurd (omega arith)
  at_below (x ∷ xs) zero h = (x, refl)
  at_below (x ∷ xs) (suc k) h = at_below xs k (omega arith)

  abbrev Carried : Type 0
  Carried = List (ℕ × Slot)

  abbrev RuleAt : View → State Slot View → Type 0
  RuleAt p s = CoreAt fit value p (length s.homes) s.words s.views × Slots p.posted p.claimed s.homes s.views × Shown value p (length s.homes) (get_or s.words 1 0) s.views × Records p

  -- the poster's view is the rule's
  pub mine : (s : State Slot View) (id : ℕ) (v : View) → Rule fit value s → get_elem? s.views id ≡ some v → v.posts ≡ true → RuleAt v s
  mine s id v r at posts = subst (λ p. RuleAt p s) (the_poster fit value r.0 s.views id v r.1.1.roles at posts) (r.1, r.2, r.3, r.4)

  -- the number of slots stays
  core_long : (p : View) (n : ℕ) (homes : List (Home Slot)) (words : List ℕ) (vs : List View) → length homes ≡ n → CoreAt fit value p n words vs → CoreAt fit value p (length homes) words vs
  core_long p n homes words vs e c = subst (λ k. CoreAt fit value p k words vs) (sym e) c

  pub claims : (slots id : ℕ) (me : Me Slot View) → me.0.posts ≡ true → me.0.claimed ≡ false → length me.0.posted < slots
      → Allows (Rule fit value) slots id me 0 (λ n. n) (Claims (step slots 0 0 0 none) me)
  claims slots id me is unclaimed room s r homes at small =
      let m = mine s id me.0 r at is in let n : ℕ = length s.homes in
      let w1 : ℕ = get_or s.words 1 0 in let w2 : ℕ = get_or s.words 2 0 in
      let x : ℕ = get_or s.words 0 0 in
      let t : ℕ = length me.0.posted in
      let w : View = after_claim me.0 in
      let here : t < n = omega arith in (
        w,
        takes t None,
        m.1.next here ∙ ap (λ b. some (next_home b)) unclaimed,
        (
          w,
          core_long w n (set s.homes t none) (set s.words 0 x) (set s.views id w) (length-set s.homes t none)
              (put0 w n s.words (set s.views id w) x m.0.0 (core_claim fit value n x w1 w2 s.views id me.0 at is m.0.1)),
          slots_claimed fit value me.0 n x w1 w2 s.views id me.0 at m.0.1 s.homes here m.1,
          shown_at w n (length (set s.homes t none)) w1 (get_or (set s.words 0 x) 1 0) (set s.views id w) (length-set s.homes t none) (ticket0 s.words x m.0.0) (shown_claim fit value me.0 n w1 id s.views at is m.2),
          record { numbers = m.3.numbers; held = m.3.held; given = m.3.given; few = m.3.few },
        ),
        refl,
      )

  posts_from : (slots id : ℕ) (v : View) (i : LayerInput) (others : Carried) → fit i → v.posts ≡ true → v.closed ≡ false → v.claimed ≡ true
      → let me : Me Slot View = (v, (length v.posted, Some (Left i)) ∷ others) in Allows (Rule fit value) slots id me 0 (λ n. (n + 2) % 2 ^ 64) (Posts (step slots 0 2 0 none) me)
  posts_from slots id v i others good is open_yet claimed s r homes at small =
      let m = mine s id v r at is in let n : ℕ = length s.homes in
      let w1 : ℕ = get_or s.words 1 0 in let w2 : ℕ = get_or s.words 2 0 in
      let x : ℕ = get_or s.words 0 0 in
      let t : ℕ = length v.posted in
      let w : View = after_post v (i ∷ []) in
      let room : t < n = m.1.claim claimed in
      let word : x ≡ 2 * length v.posted + bit v.closed = m.0.1.word.is in
      let b = bit_le fit value v.closed in
      let fits = m.0.1.word.fits in let narrow = m.0.1.word.small in
      let sum : x + 2 ≡ (x + 2) % 2 ^ 64 = omega arith in
      let homes' : List (Home Slot) = set s.homes t (some (Some (Left i))) in (
        w,
        gives,
        tt,
        (
          w,
          core_long w n homes' (set s.words 0 ((x + 2) % 2 ^ 64)) (set s.views id w) (length-set s.homes t (some (Some (Left i))))
              (put0 w n s.words (set s.views id w) ((x + 2) % 2 ^ 64) m.0.0
              (subst (λ y. Core fit value w n y w1 w2 (set s.views id w)) sum (core_post fit value n x w1 w2 s.views id v at is m.0.1 i good open_yet room))),
          slots_posted fit value v n x w1 w2 s.views id v at m.0.1 s.homes i room m.1,
          shown_at w n (length homes') w1 (get_or (set s.words 0 ((x + 2) % 2 ^ 64)) 1 0) (set s.views id w) (length-set s.homes t (some (Some (Left i)))) (ticket0 s.words ((x + 2) % 2 ^ 64) m.0.0) (shown_post fit value v n w1 id s.views at is i open_yet room m.2),
          record { numbers = m.3.numbers; held = m.3.held; given = m.3.given; few = m.3.few },
        ),
        refl,
      )

  pub posts : (slots id : ℕ) (me : Me Slot View) (i : LayerInput) (others : Carried) → fit i → me.1 ≡ (length me.0.posted, Some (Left i)) ∷ others → me.0.posts ≡ true → me.0.closed ≡ false → me.0.claimed ≡ true
      → Allows (Rule fit value) slots id me 0 (λ n. (n + 2) % 2 ^ 64) (Posts (step slots 0 2 0 none) me)
  posts slots id me i others good has is open_yet claimed =
      subst (λ (c : Carried). Allows (Rule fit value) slots id (me.0, c) 0 (λ n. (n + 2) % 2 ^ 64) (Posts (step slots 0 2 0 none) (me.0, c))) (sym has) (posts_from slots id me.0 i others good is open_yet claimed)

  pub closes : (slots id : ℕ) (me : Me Slot View) → me.0.posts ≡ true → Allows (Rule fit value) slots id me 0 (λ n. bit_or n 1) (Closes (step slots 0 1 0 none) me)
  closes slots id me is s r homes at small =
      let m = mine s id me.0 r at is in let n : ℕ = length s.homes in
      let w1 : ℕ = get_or s.words 1 0 in let w2 : ℕ = get_or s.words 2 0 in
      let x : ℕ = get_or s.words 0 0 in
      let w : View = after_close me.0 in
      let sum : 2 * length me.0.posted + 1 ≡ bit_or x 1 = sym (ap (λ y. bit_or y 1) m.0.1.word.is ∙ or_one (length me.0.posted) me.0.closed) in (
        w,
        keeps,
        tt,
        (
          w,
          put0 w n s.words (set s.views id w) (bit_or x 1) m.0.0 (subst (λ y. Core fit value w n y w1 w2 (set s.views id w)) sum (core_close fit value n x w1 w2 s.views id me.0 at is m.0.1)),
          slots_kept fit value me.0.posted me.0.claimed s.homes s.views id me.0 w at refl refl m.1,
          shown_at w n n w1 (get_or (set s.words 0 (bit_or x 1)) 1 0) (set s.views id w) refl (ticket0 s.words (bit_or x 1) m.0.0) (shown_close fit value me.0 n w1 id s.views at is m.2),
          record { numbers = m.3.numbers; held = m.3.held; given = m.3.given; few = m.3.few },
        ),
        refl,
      )

  pub draws : (slots id : ℕ) (me : Me Slot View) → me.0.posts ≡ false → length me.0.numbers ≡ 1 → me.0.held ≡ [] → me.0.got ≡ [] → me.0.over ≡ false
      → Allows (Rule fit value) slots id me 1 (λ n. (n + 1) % 2 ^ 64) (Draws (step slots 1 1 0 none) me)
  draws slots id me works number free empty going s r homes at small =
      let p = r.0 in let c = r.1 in let n : ℕ = length s.homes in
      let w0 : ℕ = get_or s.words 0 0 in let w2 : ℕ = get_or s.words 2 0 in
      let x : ℕ = get_or s.words 1 0 in
      let w : View = after_draw me.0 x in
      let few : x ≤ n + p.workers = few_drawn fit value p n w0 x w2 s.views c.1 in
      let narrow = c.1.word.small in let staff = c.1.numbers.few in
      let sum : x + 1 ≡ (x + 1) % 2 ^ 64 = omega arith in (
        w,
        keeps,
        tt,
        (
          p,
          put1 p n s.words (set s.views id w) ((x + 1) % 2 ^ 64) c.0
              (subst (λ y. Core fit value p n w0 y w2 (set s.views id w)) sum (core_draw fit value p n w0 x w2 s.views id me.0 at works c.1 x refl number free empty going)),
          slots_kept fit value p.posted p.claimed s.homes s.views id me.0 w at (sym empty) refl r.2,
          shown_at p n n (x + 1) (get_or (set s.words 1 ((x + 1) % 2 ^ 64)) 1 0) (set s.views id w) refl (ticket1 s.words ((x + 1) % 2 ^ 64) c.0 ∙ sym sum) (shown_draw fit value p n w0 x w2 s.views id me.0 at works number c.1 free empty going r.3),
          r.4,
        ),
        refl,
      )

  pub looks : (slots id : ℕ) (me : Me Slot View) (t : ℕ) → me.0.posts ≡ false → length me.0.numbers ≡ 1 → me.0.held ≡ t ∷ [] → me.0.got ≡ [] → me.0.over ≡ false
      → Allows (Rule fit value) slots id me 0 (λ n. n) (Looks fit value (step slots 0 0 0 none) me)
  looks slots id me t works number held empty going s r homes at small =
      let p = r.0 in let c = r.1 in let n : ℕ = length s.homes in
      let w1 : ℕ = get_or s.words 1 0 in let w2 : ℕ = get_or s.words 2 0 in
      let x : ℕ = get_or s.words 0 0 in
      let ticket : get_or me.0.held 0 0 ≡ t = ap {A = List ℕ} {B = ℕ} (λ v. get_or v 0 0) held in
      ⊎_elim
      (λ l.
      let below : t < length p.posted = omega (arith, posted_half fit value p n x w1 w2 s.views id me.0 at works c.1) in
      let there = at_below p.posted t below in
      let i = there.0 in
      let g : Hold = record { ticket = t; input = i } in
      let w : View = after_got me.0 x g in
      let was = unused fit value p n x w1 w2 s.views id me.0 at c.1 t (ap (times_in t) held ∙ one_time t) (ap (total (λ (z : Hold). same_test t z.ticket)) empty) in (
        w,
        takes t (Some (Left i)),
        r.2.laid t i there.1 was.0 was.1,
        (
          p,
          core_long p n (set s.homes t none) (set s.words 0 x) (set s.views id w) (length-set s.homes t none)
              (put0 p n s.words (set s.views id w) x c.0 (core_look_got fit value p n x w1 w2 s.views id me.0 at works c.1 t i held empty going l there.1)),
          slots_got fit value p n x w1 w2 s.views id me.0 at c.1 s.homes x g held empty below c.1.word.fits r.2,
          shown_at p n (length (set s.homes t none)) w1 (get_or (set s.words 0 x) 1 0) (set s.views id w) (length-set s.homes t none) (ticket0 s.words x c.0) (shown_got fit value p n x w1 w2 s.views id me.0 at works number c.1 g held empty going below r.3),
          r.4,
        ),
        ((λ _. (i, c.1.fits t i there.1, ap (λ (k : ℕ). (after_got me.0 x record { ticket = k; input = i }, (k, Some (Left i)) ∷ me.1)) (sym ticket))), (λ h. absurd (omega arith))),
      ))
      (λ h.
      let w : View = after_not me.0 x in (
        w,
        keeps,
        tt,
        (
          p,
          put0 p n s.words (set s.views id w) x c.0 (core_look_not fit value p n x w1 w2 s.views id me.0 at works c.1 t held empty h),
          slots_kept fit value p.posted p.claimed s.homes s.views id me.0 w at (sym empty) refl r.2,
          shown_at p n n w1 (get_or (set s.words 0 x) 1 0) (set s.views id w) refl (ticket0 s.words x c.0) (shown_not fit value p n x w1 w2 s.views id me.0 at works number c.1 t held empty going (omega (arith, posted_half fit value p n x w1 w2 s.views id me.0 at works c.1)) r.3),
          r.4,
        ),
        ((λ l. absurd (omega arith)), (λ _. refl)),
      ))
      (cases_lt t (x / 2))
    where
      one_time : (k : ℕ) → times_in k (k ∷ []) ≡ 1
      one_time k = let s = same_self k in omega arith

  gives_from : (slots id : ℕ) (v : View) (g : Hold) (what : Given) (others : Carried) → v.posts ≡ false → length v.numbers ≡ 1 → v.got ≡ g ∷ [] → Answers value g.input what
      → let me : Me Slot View = (v, (g.ticket, Some what) ∷ others) in Allows (Rule fit value) slots id me 2 (λ n. (n + 1) % 2 ^ 64) (Gives (step slots 2 1 0 none) me)
  gives_from slots id v g what others works number got right s r homes at small =
      let p = r.0 in let c = r.1 in let n : ℕ = length s.homes in
      let w0 : ℕ = get_or s.words 0 0 in let w1 : ℕ = get_or s.words 1 0 in
      let x : ℕ = get_or s.words 2 0 in
      let back : Gave = record { ticket = g.ticket; what = what } in
      let w : View = after_give v (back ∷ []) in
      let few : x ≤ length p.posted = few_given fit value p n w0 w1 x s.views c.1 in
      let fits = c.1.word.fits in let narrow = c.1.word.small in
      let slot = my_slot fit value p n w0 w1 x s.views id v at works c.1 g got in
      let below : g.ticket < length p.posted = position fit value p.posted g.ticket g.input slot.2 in
      let sum : x + 1 ≡ (x + 1) % 2 ^ 64 = omega arith in (
        w,
        gives,
        tt,
        (
          p,
          core_long p n (set s.homes g.ticket (some (Some what))) (set s.words 2 ((x + 1) % 2 ^ 64)) (set s.views id w) (length-set s.homes g.ticket (some (Some what)))
              (put2 p n s.words (set s.views id w) ((x + 1) % 2 ^ 64) c.0
              (subst (λ y. Core fit value p n w0 w1 y (set s.views id w)) sum (core_give fit value p n w0 w1 x s.views id v at works c.1 g what got right))),
          slots_given fit value p n w0 w1 x s.views id v at c.1 s.homes g what got below fits r.2,
          shown_at p n (length (set s.homes g.ticket (some (Some what)))) w1 (get_or (set s.words 2 ((x + 1) % 2 ^ 64)) 1 0) (set s.views id w) (length-set s.homes g.ticket (some (Some what))) (ticket2 s.words ((x + 1) % 2 ^ 64) c.0) (shown_give fit value p n w0 w1 x s.views id v at works number c.1 g what got right r.3),
          r.4,
        ),
        refl,
      )

  pub returns : (slots id : ℕ) (me : Me Slot View) (g : Hold) (what : Given) (others : Carried) → me.1 ≡ (g.ticket, Some what) ∷ others → me.0.posts ≡ false → length me.0.numbers ≡ 1 → me.0.got ≡ g ∷ [] → Answers value g.input what
      → Allows (Rule fit value) slots id me 2 (λ n. (n + 1) % 2 ^ 64) (Gives (step slots 2 1 0 none) me)
  returns slots id me g what others has works number got right =
      subst (λ (c : Carried). Allows (Rule fit value) slots id (me.0, c) 2 (λ n. (n + 1) % 2 ^ 64) (Gives (step slots 2 1 0 none) (me.0, c))) (sym has) (gives_from slots id me.0 g what others works number got right)

  pub splits : (id : ℕ) (v : View) → v.posts ≡ true → v.workers + 1 < 4294967296 → Splits (Rule fit value) id v (hires v) (hired v)
  splits id v is room s r at =
      let m = mine s id v r at is in (
        hires v,
        (m.0.0, core_split fit value (length s.homes) (get_or s.words 0 0) (get_or s.words 1 0) (get_or s.words 2 0) s.views id v at is m.0.1 room),
        slots_more fit value v.posted v.claimed s.homes (set s.views id (hires v)) (hired v) refl refl (slots_kept fit value v.posted v.claimed s.homes s.views id v (hires v) at refl refl m.1),
        shown_split fit value v (length s.homes) (get_or s.words 1 0) id s.views at is m.2,
        record { numbers = m.3.numbers; held = m.3.held; given = m.3.given; few = m.3.few },
      )
