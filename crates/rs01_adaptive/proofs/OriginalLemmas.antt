-- Drives whose usable answers are the original's sectors give no other blocks, however long they are asked.
use Rattle.std.proofs.Common.{inl, inr, ◌≡◌, ℕ, zero, suc, ◌<◌, ◌≤◌, ⊎_elim, List, [], ◌∷◌, length, drop, refl, sym, ap, ◌∙◌, arith, Bool, true, false, cond}
use Rattle.std.specs.Prelude.{◌⊎◌, ◌==◌, All, Contains, if◌then◌else◌, is_some, nat_lt, Option, Some, None, IsSomeAnd}
use Rattle.std.specs.Option.{option_map, unwrap_or}
use Rattle.std.proofs.lemmas.Bool.{cases_Bool, cases_lt, false≢true, lt-ltb, le-ltb}
use Rattle.std.proofs.lemmas.List.Elements.{All-nil, All-cons, All-head, All-tail}
use Rattle.rs01_layers.specs.Sectors.{sector}
use Rattle.rs01_outside.specs.DriveView.{Answer, DriveView, answer_at, ask, first_answer, use_up}
use Rattle.rs01_rack.specs.Asking.{Tried, once_more, try_drive}
use Rattle.rs01_ecchead.specs.Erased.{Known}
use Rattle.rs01_linear.specs.Asking.{Asking, after_vain, ask_drives, as_block, is_good}
use Rattle.rs01_turns.specs.Turns.{Reading, Terms, after_ask, after_next, asking_at, asking_for, asking_within, is_at, next_of, step}
use Rattle.rs01_adaptive.specs.ComesBack.{GivesOriginal, MayGive}

-- what a drive may give after an ask it might give before

contains-drop : (answers : List Answer) (a : Answer) → Contains (drop 1 answers) a → Contains answers a
contains-drop [] a has = has
contains-drop (x ∷ xs) a has = (suc has.0, omega (arith, has.1), has.2)

contains-used : (b : Bool) (answers : List Answer) (a : Answer) → Contains (if b then drop 1 answers else answers) a → Contains answers a
contains-used true answers a has = contains-drop answers a has
contains-used false answers a has = has

coming-before : (b : Bool) (coming : ℕ → List Answer) (k s : ℕ) (a : Answer) → Contains ((if b then use_up coming k else coming) s) a → Contains (coming s) a
coming-before true coming k s a has = contains-used (s == k) (coming s) a has
coming-before false coming k s a has = has

may-before : (view : DriveView) (k s : ℕ) (bytes : List ℕ) → MayGive (ask view k) s bytes → MayGive view s bytes
may-before view k s bytes may = (
  may.0,
  ⊎_elim
      (λ (has : Contains ((ask view k).coming s) (Some bytes)). inl (coming-before (nat_lt k view.number) view.coming k s (Some bytes) has))
      (λ (stays : view.steady s ≡ Some bytes). inr stays)
      may.1,
)

-- what it gives is what it may give

from-first : (answers : List Answer) (steady : Answer) (bytes : List ℕ) → first_answer answers steady ≡ Some bytes → Contains answers (Some bytes) ⊎ (steady ≡ Some bytes)
from-first [] steady bytes e = inr e
from-first (a ∷ answers) steady bytes e = inl (0, omega arith, e)

some-answer : (block : List ℕ) → None ≡ Some block → ⊥
some-answer block e = cc

may-answer : (view : DriveView) (s : ℕ) (bytes : List ℕ) → answer_at view s ≡ Some bytes → MayGive view s bytes
may-answer view s bytes e = ⊎_elim
    (λ (low : s < view.number). (
      low,
      from-first (view.coming s) (view.steady s) bytes (sym (ap (λ (b : Bool). cond b (first_answer (view.coming s) (view.steady s)) None) (lt-ltb s view.number low)) ∙ e),
    ))
    (λ (past : view.number ≤ s). absurd (some-answer bytes (sym (ap (λ (b : Bool). cond b (first_answer (view.coming s) (view.steady s)) None) (le-ltb s view.number past)) ∙ e)))
    (cases_lt s view.number)

may-try : (view : DriveView) (s tries : ℕ) (bytes : List ℕ) → (try_drive view s tries).block ≡ Some bytes → MayGive view s bytes
unfolding try_drive
may-try view s zero bytes e = absurd (some-answer bytes e)
may-try view s (suc tries) bytes e =
    let one : Tried = record { view = ask view s; block = answer_at view s; count = 1 } in
    let two : Tried = once_more (try_drive (ask view s) s tries) in
    ⊎_elim
    (λ gave. may-answer view s bytes (sym (ap (λ (b : Bool). (cond b one two).block) gave) ∙ e))
    (λ vain. may-before view s s bytes (may-try (ask view s) s tries bytes (sym (ap (λ (b : Bool). (cond b one two).block) vain) ∙ e)))
    (cases_Bool (is_some (answer_at view s)))

-- drives stay such drives

ask-original : (image : List ℕ) (known : Known) (view : DriveView) (k : ℕ) → GivesOriginal image known view → GivesOriginal image known (ask view k)
ask-original image known view k gives s bytes below may good = gives s bytes below (may-before view k s bytes may) good

tried-original : (image : List ℕ) (known : Known) (b : Bool) (view : DriveView) (s : ℕ) (later : Tried) → GivesOriginal image known (ask view s) → GivesOriginal image known later.view
    → GivesOriginal image known (if b then record { view = ask view s; block = answer_at view s; count = 1 } else once_more later).view
tried-original image known true view s later one other = one
tried-original image known false view s later one other = other

try-original : (image : List ℕ) (known : Known) (view : DriveView) (s tries : ℕ) → GivesOriginal image known view → GivesOriginal image known (try_drive view s tries).view
unfolding try_drive
try-original image known view s zero gives = gives
try-original image known view s (suc tries) gives =
    let asked = ask-original image known view s gives in
    tried-original image known (is_some (answer_at view s)) view s (try_drive (ask view s) s tries) asked (try-original image known (ask view s) s tries asked)

-- all of them
abbrev pub AllGive : List ℕ → Known → List DriveView → Type 0
AllGive image known views = All (GivesOriginal image known) views

front-original : (image : List ℕ) (known : Known) (b : Bool) (views : List DriveView) (tried : Tried) (read : Option (List ℕ)) (later : Asking) → GivesOriginal image known tried.view
    → AllGive image known views → AllGive image known later.views
    → AllGive image known (if b then record { views = tried.view ∷ views; read = read; answered = true } else after_vain tried later).views
front-original image known true views tried read later here behind rest = All-cons (GivesOriginal image known) tried.view views here behind
front-original image known false views tried read later here behind rest = All-cons (GivesOriginal image known) tried.view later.views here rest

drives-original : (image : List ℕ) (known : Known) (s tries : ℕ) (views : List DriveView) → AllGive image known views → AllGive image known (ask_drives known s tries views).views
unfolding ask_drives
drives-original image known s tries [] all = All-nil (GivesOriginal image known)
drives-original image known s tries (view ∷ views) all =
    let behind = All-tail (GivesOriginal image known) view views all in
    front-original image known (is_good known s (try_drive view s tries).block) views (try_drive view s tries) _ (ask_drives known s tries views)
    (try-original image known view s tries (All-head (GivesOriginal image known) view views all)) behind (drives-original image known s tries views behind)

next-original : (image : List ℕ) (terms : Terms) (now : Reading) (next : Option ℕ) → AllGive image terms.known now.views → AllGive image terms.known (after_next terms now next).views
unfolding after_ask
next-original image terms now None all = all
next-original image terms now (Some s) all = drives-original image terms.known s terms.tries now.views all

step-original : (image : List ℕ) (terms : Terms) (now : Reading) → AllGive image terms.known now.views → AllGive image terms.known (step terms now).views
unfolding step
step-original image terms now all = next-original image terms now (next_of now) all

-- the block that is read

by-answer : (image : List ℕ) (known : Known) (view : DriveView) (s : ℕ) (answer : Answer) (block : List ℕ) → GivesOriginal image known view → s < known.sectors
    → ((bytes : List ℕ) → answer ≡ Some bytes → MayGive view s bytes) → is_good known s answer ≡ true → option_map (as_block known s) answer ≡ Some block → block ≡ sector image s
by-answer image known view s None block gives below may good e = absurd (false≢true good)
by-answer image known view s (Some bytes) block gives below may good e =
    ap (λ (o : Option (List ℕ)). unwrap_or o []) (sym e) ∙ gives s bytes below (may bytes refl) good

read-original : (image : List ℕ) (known : Known) (s tries : ℕ) (views : List DriveView) (block : List ℕ) → s < known.sectors → AllGive image known views
    → (ask_drives known s tries views).read ≡ Some block → block ≡ sector image s
unfolding ask_drives
read-original image known s tries [] block below all e = absurd (some-answer block e)
read-original image known s tries (view ∷ views) block below all e =
    let tried = try_drive view s tries in
    let one : Asking = record { views = tried.view ∷ views; read = option_map (as_block known s) tried.block; answered = true } in
    let two : Asking = after_vain tried (ask_drives known s tries views) in
    ⊎_elim
    (λ good.
    by-answer image known view s tried.block block (All-head (GivesOriginal image known) view views all) below (λ bytes is. may-try view s tries bytes is) good
    (sym (ap (λ (b : Bool). (cond b one two).read) good) ∙ e))
    (λ bad. read-original image known s tries views block below (All-tail (GivesOriginal image known) view views all) (sym (ap (λ (b : Bool). (cond b one two).read) bad) ∙ e))
    (cases_Bool (is_good known s tried.block))

within-original : (image : List ℕ) (terms : Terms) (n : ℕ) (now : Reading) (s : ℕ) (a : Asking) (block : List ℕ) → s < terms.known.sectors → AllGive image terms.known now.views
    → asking_within terms n now s ≡ Some a → a.read ≡ Some block → block ≡ sector image s
unfolding asking_within
within-original image terms zero now s a block below all e is = cc
within-original image terms (suc n) now s a block below all e is =
    let one : Option Asking = Some (asking_at terms now s) in
    let two : Option Asking = asking_within terms n (step terms now) s in
    ⊎_elim
    (λ here.
    let same : asking_at terms now s ≡ a = ap (λ (o : Option Asking). unwrap_or o a) (sym (ap (λ (b : Bool). cond b one two) here) ∙ e) in
    read-original image terms.known s terms.tries now.views block below all (ap (λ (x : Asking). x.read) same ∙ is))
    (λ later.
    within-original image terms n (step terms now) s a block below (step-original image terms now all) (sym (ap (λ (b : Bool). cond b one two) later) ∙ e) is)
    (cases_Bool (is_at (next_of now) s))

-- a block that is read in the rest of a reading is the original's
pub asked-original : (image : List ℕ) (terms : Terms) (now : Reading) (s : ℕ) (o : Option Asking) (block : List ℕ) → s < terms.known.sectors → AllGive image terms.known now.views
    → asking_for terms now s ≡ o → IsSomeAnd o (λ a. a.read ≡ Some block) → block ≡ sector image s
unfolding asking_for
asked-original image terms now s None block below all e is = absurd is
asked-original image terms now s (Some a) block below all e is = within-original image terms (length now.states) now s a block below all e is
