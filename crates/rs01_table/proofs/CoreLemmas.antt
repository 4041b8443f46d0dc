-- Each kind keeps the part of the rule that doesn't see the slots.
use Rattle.std.proofs.Common.{◌≡◌, ℕ, ◌+◌, ◌*◌, ◌/◌, ◌%◌, ◌<◌, ◌≤◌, Bool, true, false, eqb, List, [], ◌∷◌, ◌++◌, length, set, sym, refl, ap, ◌∙◌, arith, ⊎_elim, subst, length-append}
use mathlib.Core.Option.{some, some-ne-none}
use lib.ListN.{get_elem?}
use Rattle.atomic_table.proofs.Lists.{at_snoc}
use Rattle.std.proofs.lemmas.Bool.{eqb-true}
use Rattle.rs01_table.specs.declared.views.View.{View}
use Rattle.rs01_layers.specs.declared.input.LayerInput.{LayerInput}
use Rattle.rs01_table.specs.declared.given.Given.{Given}
use Rattle.rs01_table.specs.declared.views.Gave.{Gave}
use Rattle.rs01_table.specs.declared.views.Hold.{Hold}
use Rattle.rs01_window.specs.Soundness.{same_test}
use Rattle.rs01_table.specs.Rule.{bit, times_in, tickets, GotFine, GivenFine, AllFine, Core, Fine}
use Rattle.rs01_table.specs.Views.{Answers, after_claim, after_post, after_close, after_draw, after_got, after_not, after_give, hires, hired}
use Rattle.rs01_table.proofs.SumLemmas.{total-set, total-kept, total-snoc, below_more}
use Rattle.rs01_table.proofs.PartLemmas.{roles_worker, roles_poster, roles_more, fine_set, fine_more, fine_posted, fine_closed, tickets_kept, numbers_kept}
use Rattle.rs01_layers.specs.declared.task.LayerOut.{LayerOut}

module _ (fit : LayerInput → Type 0) (value : LayerInput → LayerOut) where
  pub bit_le : (b : Bool) → bit b ≤ 1
  bit_le true = omega arith
  bit_le false = omega arith

  bit_one : (b : Bool) → 1 ≤ bit b → b ≡ true
  bit_one true h = refl
  bit_one false h = absurd (omega arith)

  -- the poster's steps, at its own view

  module _ (n w0 w1 w2 : ℕ) (vs : List View) (id : ℕ) (v : View) (at : get_elem? vs id ≡ some v) (posts : v.posts ≡ true) where
    pub core_post : Core fit value v n w0 w1 w2 vs → (i : LayerInput) → fit i → v.closed ≡ false → length v.posted < n
        → let w : View = after_post v (i ∷ []) in Core fit value w n (w0 + 2) w1 w2 (set vs id w)
    core_post c i good open_yet room =
        let w : View = after_post v (i ∷ []) in
        let fine_now : AllFine value v.posted false vs = subst (λ b. AllFine value v.posted b vs) open_yet c.fine in
        let longer : AllFine value (v.posted ++ i ∷ []) false vs = (λ k u e. fine_posted fit value v.posted i u (fine_now k u e)) in
        let mine = longer id v at in
        let no : bit v.closed ≡ 0 = ap bit open_yet in
        record {
          roles = roles_poster fit value v vs id v w c.roles at posts posts;
          fits = λ k j e. ⊎_elim (λ h. c.fits k j h) (λ h. subst fit h good) (at_snoc v.posted i j k e);
          word = record {
            is = omega (arith, c.word.is, length-append v.posted (i ∷ []));
            fits = omega (arith, length-append v.posted (i ∷ []));
            small = c.word.small;
          };
          tickets = tickets_kept fit value w1 w2 vs id v w at refl refl c.tickets;
          fine = fine_set fit value (v.posted ++ i ∷ []) false vs id w longer
              record { few = mine.few; seen = mine.seen; seen_closed = mine.seen_closed; got = mine.got; over = mine.over; given = mine.given; named = mine.named };
          numbers = numbers_kept fit value v.workers vs id v w at refl c.numbers;
        }

    pub core_claim : Core fit value v n w0 w1 w2 vs → Core fit value (after_claim v) n w0 w1 w2 (set vs id (after_claim v))
    core_claim c =
        let w : View = after_claim v in
        let mine = c.fine id v at in
        record {
          roles = roles_poster fit value v vs id v w c.roles at posts posts;
          fits = c.fits;
          word = record { is = c.word.is; fits = c.word.fits; small = c.word.small };
          tickets = tickets_kept fit value w1 w2 vs id v w at refl refl c.tickets;
          fine = fine_set fit value v.posted v.closed vs id w c.fine
              record { few = mine.few; seen = mine.seen; seen_closed = mine.seen_closed; got = mine.got; over = mine.over; given = mine.given; named = mine.named };
          numbers = numbers_kept fit value v.workers vs id v w at refl c.numbers;
        }

    pub core_close : Core fit value v n w0 w1 w2 vs
        → let w : View = after_close v in Core fit value w n (2 * length v.posted + 1) w1 w2 (set vs id w)
    core_close c =
        let w : View = after_close v in
        let later : AllFine value v.posted true vs = (λ k u e. fine_closed fit value v.posted v.closed u (c.fine k u e)) in
        let mine = later id v at in
        record {
          roles = roles_poster fit value v vs id v w c.roles at posts posts;
          fits = c.fits;
          word = record { is = refl; fits = c.word.fits; small = c.word.small };
          tickets = tickets_kept fit value w1 w2 vs id v w at refl refl c.tickets;
          fine = fine_set fit value v.posted true vs id w later
              record { few = mine.few; seen = mine.seen; seen_closed = mine.seen_closed; got = mine.got; over = mine.over; given = mine.given; named = mine.named };
          numbers = numbers_kept fit value v.workers vs id v w at refl c.numbers;
        }

    pub core_split : Core fit value v n w0 w1 w2 vs → v.workers + 1 < 4294967296 → Core fit value (hires v) n w0 w1 w2 (set vs id (hires v) ++ hired v ∷ [])
    core_split c room =
        let w : View = hires v in let u : View = hired v in
        let mine = c.fine id v at in
        let t = tickets_kept fit value w1 w2 vs id v w at refl refl c.tickets in
        record {
          roles = roles_more fit value w (set vs id w) u (roles_poster fit value v vs id v w c.roles at posts posts) refl;
          fits = c.fits;
          word = record { is = c.word.is; fits = c.word.fits; small = c.word.small };
          tickets = record {
            each = λ x. total-snoc (tickets x) (set vs id w) u ∙ omega (arith, t.each x);
            all = omega (arith, total-snoc (λ (z : View). length z.held) (set vs id w) u, t.all);
            back = omega (arith, total-snoc (λ (z : View). length z.given) (set vs id w) u, t.back);
          };
          fine = fine_more fit value v.posted v.closed (set vs id w) u
              (fine_set fit value v.posted v.closed vs id w c.fine record { few = mine.few; seen = mine.seen; seen_closed = mine.seen_closed; got = mine.got; over = mine.over; given = mine.given; named = mine.named })
              record {
                few = omega arith;
                seen = omega arith;
                seen_closed = λ e. absurd cc;
                got = tt;
                over = λ e. absurd cc;
                given = λ j g e. absurd (some-ne-none g (sym e));
                named = λ e. refl;
              };
          numbers = record {
            each = λ x.
                let kept = total-kept (λ (z : View). times_in x z.numbers) vs id v w at refl in
                let last = total-snoc (λ (z : View). times_in x z.numbers) (set vs id w) u in
                let before = c.numbers.each x in
                let one = below_more x v.workers in
                omega arith;
            all = omega (arith, total-kept (λ (z : View). length z.numbers) vs id v w at refl, total-snoc (λ (z : View). length z.numbers) (set vs id w) u, c.numbers.all);
            few = room;
          };
        }

  -- the workers' steps

  module _ (p : View) (n w0 w1 w2 : ℕ) (vs : List View) (id : ℕ) (v : View) (at : get_elem? vs id ≡ some v) (works : v.posts ≡ false) (c : Core fit value p n w0 w1 w2 vs) where
    pub core_draw : (x : ℕ) → x ≡ w1 → length v.numbers ≡ 1 → v.held ≡ [] → v.got ≡ [] → v.over ≡ false
        → let w : View = after_draw v x in Core fit value p n w0 (w1 + 1) w2 (set vs id w)
    core_draw x same number free empty going =
        let w : View = after_draw v x in
        let mine = c.fine id v at in
        record {
          roles = roles_worker fit value p vs id v w c.roles at works works;
          fits = c.fits;
          word = c.word;
          tickets = record {
            each = λ y.
                let sum = total-set (tickets y) vs id v w at in
                let nothing : times_in y v.held ≡ 0 = ap (times_in y) free in
                let before = c.tickets.each y in
                let after = below_more y w1 in
                let here : same_test y x ≡ same_test y w1 = ap (same_test y) same in
                omega arith;
            all = (let nothing : length v.held ≡ 0 = ap length free in omega (arith, total-set (λ (z : View). length z.held) vs id v w at, c.tickets.all));
            back = omega (arith, total-kept (λ (z : View). length z.given) vs id v w at refl, c.tickets.back);
          };
          fine = fine_set fit value p.posted p.closed vs id w c.fine record {
            few = omega arith;
            seen = mine.seen;
            seen_closed = mine.seen_closed;
            got = tt;
            over = λ e. absurd cc;
            given = mine.given;
            named = mine.named;
          };
          numbers = numbers_kept fit value p.workers vs id v w at refl c.numbers;
        }

    pub posted_half : w0 / 2 ≡ length p.posted
    posted_half = let e = c.word.is in let b = bit_le p.closed in omega arith

    pub closed_odd : eqb (w0 % 2) 1 ≡ true → p.closed ≡ true
    closed_odd e = bit_one p.closed (let odd = eqb-true (w0 % 2) 1 e in let is = c.word.is in let b = bit_le p.closed in omega arith)

    -- a look leaves what the worker holds, gave and is called
    core_look : (w : View) → w.posts ≡ false → w.held ≡ v.held → w.given ≡ v.given → w.numbers ≡ v.numbers
        → Fine value p.posted p.closed w → Core fit value p n w0 w1 w2 (set vs id w)
    core_look w working held given numbers fine = record {
      roles = roles_worker fit value p vs id v w c.roles at works working;
      fits = c.fits;
      word = c.word;
      tickets = tickets_kept fit value w1 w2 vs id v w at held given c.tickets;
      fine = fine_set fit value p.posted p.closed vs id w c.fine fine;
      numbers = numbers_kept fit value p.workers vs id v w at numbers c.numbers;
    }

    pub core_look_got : (t : ℕ) (i : LayerInput) → v.held ≡ t ∷ [] → v.got ≡ [] → v.over ≡ false → t < w0 / 2 → get_elem? p.posted t ≡ some i
        → let w : View = after_got v w0 record { ticket = t; input = i } in Core fit value p n w0 w1 w2 (set vs id w)
    core_look_got t i held empty going below there =
        let w : View = after_got v w0 record { ticket = t; input = i } in
        let mine = c.fine id v at in
        core_look w works refl refl refl record {
          few = mine.few;
          seen = omega (arith, posted_half);
          seen_closed = λ e. (closed_odd e, posted_half);
          got = (refl, held, below, there);
          over = λ e. absurd cc;
          given = mine.given;
          named = mine.named;
        }

    pub core_look_not : (t : ℕ) → v.held ≡ t ∷ [] → v.got ≡ [] → w0 / 2 ≤ t
        → let w : View = after_not v w0 in Core fit value p n w0 w1 w2 (set vs id w)
    core_look_not t held empty beyond =
        let w : View = after_not v w0 in
        let mine = c.fine id v at in
        core_look w works refl refl refl record {
          few = mine.few;
          seen = omega (arith, posted_half);
          seen_closed = λ e. (closed_odd e, posted_half);
          got = tt;
          over = λ e. (t, held, beyond, e);
          given = mine.given;
          named = mine.named;
        }

    -- what the rule says of a worker's slot
    pub my_slot : (g : Hold) → v.got ≡ g ∷ [] → (v.held ≡ g.ticket ∷ []) × (g.ticket < v.seen) × (get_elem? p.posted g.ticket ≡ some g.input)
    my_slot g got = let f : GotFine p.posted v.seen v.held (g ∷ []) = subst (GotFine p.posted v.seen v.held) got (c.fine id v at).got in (f.1, f.2, f.3)

    pub core_give : (g : Hold) (what : Given) → v.got ≡ g ∷ [] → Answers value g.input what
        → let w : View = after_give v (record { ticket = g.ticket; what = what } ∷ []) in Core fit value p n w0 w1 (w2 + 1) (set vs id w)
    core_give g what got right =
        let back : Gave = record { ticket = g.ticket; what = what } in
        let w : View = after_give v (back ∷ []) in
        let mine = c.fine id v at in
        let slot = my_slot g got in
        let longer : length w.given ≡ length v.given + 1 = omega (arith, length-append v.given (back ∷ [])) in
        let one : length v.held ≡ 1 = ap length slot.0 in
        record {
          roles = roles_worker fit value p vs id v w c.roles at works works;
          fits = c.fits;
          word = c.word;
          tickets = record {
            each = λ y. total-kept (tickets y) vs id v w at
                (let mine_held : times_in y v.held ≡ same_test y g.ticket + 0 = ap (times_in y) slot.0 in
                let more = total-snoc (λ (z : Gave). same_test y z.ticket) v.given back in omega arith) ∙ c.tickets.each y;
            all = omega (arith, total-set (λ (z : View). length z.held) vs id v w at, c.tickets.all);
            back = omega (arith, total-set (λ (z : View). length z.given) vs id v w at, c.tickets.back);
          };
          fine = fine_set fit value p.posted p.closed vs id w c.fine record {
            few = omega arith;
            seen = mine.seen;
            seen_closed = mine.seen_closed;
            got = tt;
            over = λ e. absurd cc;
            given = λ j z e. ⊎_elim (λ h. mine.given j z h) (λ h. subst (GivenFine value p.posted) h (g.input, slot.2, right)) (at_snoc v.given back z j e);
            named = λ e. absurd (omega (arith, mine.few));
          };
          numbers = numbers_kept fit value p.workers vs id v w at refl c.numbers;
        }
