-- How often drives are asked for a sector.
use Rattle.std.proofs.Common.{◌≡◌, ℕ, zero, suc, ◌+◌, ◌≤◌, ⊎_elim, List, [], ◌∷◌, ◌++◌, length, refl, sym, ap, subst, ◌∙◌, arith, cond, replicate}
use Rattle.std.specs.Prelude.{◌≢◌, ◌==◌, Bool, true, false, if◌then◌else◌, is_some, Option, Some, None, slice_get}
use Rattle.std.specs.Fn.{iterate}
use Rattle.std.proofs.lemmas.Bool.{cases_eq, eq-eqb, ne_eqb}
use Rattle.std.proofs.lemmas.Option.{slice_get_within}
use Rattle.std.proofs.lemmas.List.{append-nil, append_assoc}
use Rattle.std.proofs.lemmas.List.Sums.{sum_by-append, sum_by-cons}
use Rattle.rs01_outside.specs.DriveView.{DriveView, answer_at, ask}
use Rattle.rs01_rack.specs.Asking.{Tried, once_more, try_drive}
use Rattle.rs01_ecchead.specs.Erased.{Known}
use Rattle.rs01_linear.specs.Asking.{Asking, after_vain, ask_drives, is_good}
use Rattle.rs01_turns.specs.Turns.{Reading, Terms, after_ask, asking_at, asking_for, asking_within, next_of, rest, step}
use Rattle.rs01_turns.specs.Ends.{AsksFew, EndsAll, times_of}
use Rattle.rs01_turns.proofs.Unreads.{unreads, unreads-few}
use Rattle.rs01_turns.proofs.Turning.{ask-marks, asking-here, asking-later, cases-next, next-none, none-next, none-still, some-steps, step-less}
use Rattle.rs01_turns.proofs.Ending.{left-within, none-within}

-- how often a number stands in lists

abbrev pub counted : Bool → ℕ
counted is = cond is 1 0

times-cons : (s k : ℕ) (ks : List ℕ) → times_of s (k ∷ ks) ≡ counted (k == s) + times_of s ks
times-cons s k ks = sum_by-cons (λ (j : ℕ). counted (j == s)) k ks

times-append : (s : ℕ) (xs ys : List ℕ) → times_of s (xs ++ ys) ≡ times_of s xs + times_of s ys
times-append s xs ys = sum_by-append (λ (j : ℕ). counted (j == s)) xs ys

times-same : (s count : ℕ) → times_of s (replicate count s) ≡ count
times-same s zero = refl
times-same s (suc count) =
    let one : counted (s == s) ≡ 1 = ap counted (eq-eqb s s refl) in
    omega (arith, times-cons s s (replicate count s), one, times-same s count)

times-other : (s k count : ℕ) → k ≢ s → times_of s (replicate count k) ≡ 0
times-other s k zero d = refl
times-other s k (suc count) d =
    let none : counted (k == s) ≡ 0 = ap counted (ne_eqb k s d) in
    omega (arith, times-cons s k (replicate count k), none, times-other s k count d)

-- a drive was asked for a sector so many times at most
pub record AskedTimes (s tries : ℕ) (one other : DriveView) : Type 0 where
  pub count : ℕ
  pub asked : other.asked ≡ one.asked ++ replicate count s
  few : count ≤ tries

never-asked : (s tries : ℕ) (one other : DriveView) → other ≡ one → AskedTimes s tries one other
never-asked s tries one other same = record {
  count = 0;
  asked = ap (λ (v : DriveView). v.asked) same ∙ sym (append-nil one.asked);
  few = omega arith;
}

try-more : (b : Bool) (view : DriveView) (s tries : ℕ) (later : Tried) → AskedTimes s tries (ask view s) later.view
    → AskedTimes s (suc tries) view (if b then record { view = ask view s; block = answer_at view s; count = 1 } else once_more later).view
try-more true view s tries later more = record { count = 1; asked = refl; few = omega arith }
try-more false view s tries later more = record {
  count = suc more.count;
  asked = more.asked ∙ append_assoc view.asked (s ∷ []) (replicate more.count s);
  few = omega (arith, more.few);
}

try-times : (view : DriveView) (s tries : ℕ) → AskedTimes s tries view (try_drive view s tries).view
unfolding try_drive
try-times view s zero = never-asked s zero view view refl
try-times view s (suc tries) = try-more (is_some (answer_at view s)) view s tries (try_drive (ask view s) s tries) (try-times (ask view s) s tries)

-- the drive at a place among others, after they were asked
pub record AskedAt (s tries : ℕ) (views : List DriveView) (j : ℕ) (one : DriveView) : Type 0 where
  pub other : DriveView
  pub there : slice_get views j ≡ Some other
  pub times : AskedTimes s tries one other

none-there : (views : List DriveView) (j : ℕ) (one : DriveView) → views ≡ [] → slice_get views j ≡ Some one → ⊥
none-there views j one none h =
    let inside = slice_get_within views j one h in
    omega (arith, inside, ap length none)

some-view : (a b : DriveView) → Some a ≡ Some b → a ≡ b
some-view a b e = cc

front-at : (b : Bool) (s tries : ℕ) (view : DriveView) (views : List DriveView) (tried : Tried) (read : Option (List ℕ)) (later : Asking) (j : ℕ) (one : DriveView)
    → AskedTimes s tries view tried.view → ((i : ℕ) (two : DriveView) → slice_get views i ≡ Some two → AskedAt s tries later.views i two) → slice_get (view ∷ views) j ≡ Some one
    → AskedAt s tries (if b then record { views = tried.view ∷ views; read = read; answered = true } else after_vain tried later).views j one
front-at true s tries view views tried read later zero one here rest was = record {
  other = tried.view;
  there = refl;
  times = subst (λ (v : DriveView). AskedTimes s tries v tried.view) (some-view view one was) here;
}
front-at true s tries view views tried read later (suc j) one here rest was = record {
  other = one;
  there = was;
  times = never-asked s tries one one refl;
}
front-at false s tries view views tried read later zero one here rest was = record {
  other = tried.view;
  there = refl;
  times = subst (λ (v : DriveView). AskedTimes s tries v tried.view) (some-view view one was) here;
}
front-at false s tries view views tried read later (suc j) one here rest was =
    let at = rest j one was in
    record { other = at.other; there = at.there; times = at.times }

pub ask-at : (known : Known) (s tries : ℕ) (views : List DriveView) (j : ℕ) (one : DriveView) → slice_get views j ≡ Some one → AskedAt s tries (ask_drives known s tries views).views j one
unfolding ask_drives
ask-at known s tries [] j one was = absurd (none-there [] j one refl was)
ask-at known s tries (view ∷ views) j one was =
    front-at (is_good known s (try_drive view s tries).block) s tries view views (try_drive view s tries) _ (ask_drives known s tries views) j one
    (try-times view s tries) (λ i two there. ask-at known s tries views i two there) was

-- within some asks

record AskedWithin (terms : Terms) (n : ℕ) (now : Reading) (one other : DriveView) : Type 0 where
  more : List ℕ
  asked : other.asked ≡ one.asked ++ more
  few : (s : ℕ) → times_of s more ≤ terms.tries
  unasked : (s : ℕ) → asking_within terms n now s ≡ None → times_of s more ≡ 0

some-asking : (asking : Asking) → Some asking ≡ None → ⊥
some-asking asking h = cc

pub same-drive : (views : List DriveView) (j : ℕ) (one other : DriveView) → slice_get views j ≡ Some one → slice_get views j ≡ Some other → other ≡ one
same-drive views j one other was is = some-view other one (sym is ∙ was)

ask-drive : (terms : Terms) (now : Reading) (k j : ℕ) (one : DriveView) → slice_get now.views j ≡ Some one → AskedAt k terms.tries (after_ask terms now k).views j one
unfolding after_ask
ask-drive terms now k j one was = ask-at terms.known k terms.tries now.views j one was

asked-within : (terms : Terms) (n : ℕ) (now : Reading) (j : ℕ) (one other : DriveView) → slice_get now.views j ≡ Some one → slice_get (iterate (step terms) n now).views j ≡ Some other
    → AskedWithin terms n now one other
asked-within terms zero now j one other was is = record {
  more = [];
  asked = ap (λ (v : DriveView). v.asked) (same-drive now.views j one other was is) ∙ sym (append-nil one.asked);
  few = λ s. omega arith;
  unasked = λ s h. refl;
}
asked-within terms (suc n) now j one other was is = ⊎_elim
    (λ h.
    let same : iterate (step terms) (suc n) now ≡ iterate (step terms) n now = ap (iterate (step terms) n) (none-still terms now h) in
    let later = asked-within terms n now j one other was (ap (λ (r : Reading). slice_get r.views j) (sym same) ∙ is) in
    record {
      more = later.more;
      asked = later.asked;
      few = later.few;
      unasked = λ s none. later.unasked s (sym (none-within terms n now s h) ∙ none);
    })
    (λ h.
    let k = h.0 in
    let next = after_ask terms now k in
    let at = ask-drive terms now k j one was in
    let same : iterate (step terms) (suc n) now ≡ iterate (step terms) n next = ap (iterate (step terms) n) (some-steps terms now k h.1) in
    let later = asked-within terms n next j at.other other at.there (ap (λ (r : Reading). slice_get r.views j) (sym same) ∙ is) in
    let gone : times_of k later.more ≡ 0 = later.unasked k (left-within terms n next k (ask-marks terms now k h.1).gone).unasked in
    record {
      more = replicate at.times.count k ++ later.more;
      asked =
          later.asked ∙ ap (λ (xs : List ℕ). xs ++ later.more) at.times.asked ∙ append_assoc one.asked (replicate at.times.count k) later.more;
      few = λ s. ⊎_elim
          (λ (e : k ≡ s). subst (λ (i : ℕ). times_of i (replicate at.times.count k ++ later.more) ≤ terms.tries) e
          (omega (arith, times-append k (replicate at.times.count k) later.more, times-same k at.times.count, gone, at.times.few)))
          (λ (d : k ≢ s). omega (arith, times-append s (replicate at.times.count k) later.more, times-other s k at.times.count d, later.few s))
          (cases_eq k s);
      unasked = λ s none. ⊎_elim
          (λ (e : k ≡ s). absurd (some-asking (asking_at terms now s) (sym (asking-here terms (suc n) now s (omega arith) (h.1 ∙ ap (λ (i : ℕ). Some i) e)) ∙ none)))
          (λ (d : k ≢ s). omega (arith, times-append s (replicate at.times.count k) later.more, times-other s k at.times.count d, later.unasked s (sym (asking-later terms n now k s h.1 d) ∙ none)))
          (cases_eq k s);
    })
    (cases-next (next_of now))

pub asks-few : AsksFew
unfolding asking_for rest
asks-few terms now j one other was is =
    let within = asked-within terms (length now.states) now j one other was is in
    record { more = within.more; asked = within.asked; few = within.few; unasked = within.unasked }

-- the end

long-drives : (b : Bool) (view : DriveView) (views : List DriveView) (tried : Tried) (read : Option (List ℕ)) (later : Asking) → length later.views ≡ length views
    → length (if b then record { views = tried.view ∷ views; read = read; answered = true } else after_vain tried later).views ≡ length (view ∷ views)
long-drives true view views tried read later long = refl
long-drives false view views tried read later long = omega (arith, long)

ask-long : (known : Known) (s tries : ℕ) (views : List DriveView) → length (ask_drives known s tries views).views ≡ length views
unfolding ask_drives
ask-long known s tries [] = refl
ask-long known s tries (view ∷ views) =
    long-drives (is_good known s (try_drive view s tries).block) view views (try_drive view s tries) _ (ask_drives known s tries views) (ask-long known s tries views)

after-long : (terms : Terms) (now : Reading) (k : ℕ) → length (after_ask terms now k).views ≡ length now.views
unfolding after_ask
after-long terms now k = ask-long terms.known k terms.tries now.views

record StepsTo (now end : Reading) : Type 0 where
  none : unreads end.states ≤ 0
  all : length end.states ≡ length now.states
  drives : length end.views ≡ length now.views

steps-end : (terms : Terms) (n : ℕ) (now : Reading) → unreads now.states ≤ n → StepsTo now (iterate (step terms) n now)
steps-end terms zero now few = record { none = few; all = refl; drives = refl }
steps-end terms (suc n) now few =
    let later = steps-end terms n (step terms now) (step-less terms now n few) in
    ⊎_elim
    (λ h.
    let same = none-still terms now h in
    record {
      none = later.none;
      all = later.all ∙ ap (λ (r : Reading). length r.states) same;
      drives = later.drives ∙ ap (λ (r : Reading). length r.views) same;
    })
    (λ h.
    let same = some-steps terms now h.0 h.1 in
    record {
      none = later.none;
      all = later.all ∙ ap (λ (r : Reading). length r.states) same ∙ (ask-marks terms now h.0 h.1).long;
      drives = later.drives ∙ ap (λ (r : Reading). length r.views) same ∙ after-long terms now h.0;
    })
    (cases-next (next_of now))

pub ends-all : EndsAll
unfolding rest
ends-all terms now =
    let end = steps-end terms (length now.states) now (unreads-few now.states) in
    let last = iterate (step terms) (length now.states) now in
    record {
      none = next-none last.states last.place (none-next terms last end.none);
      all = end.all;
      drives = end.drives;
    }
