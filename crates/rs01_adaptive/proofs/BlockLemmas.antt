-- The blocks that the drives give of sectors.
use Rattle.std.proofs.Common.{◌≡◌, ℕ, zero, suc, ◌+◌, ◌<◌, ◌≤◌, ⊎_elim, List, [], ◌∷◌, length, take, drop, ◌*◌, get_or, refl, sym, ap, subst, ◌∙◌, arith, Bool, true, false, cond, eqb}
use Rattle.std.specs.Prelude.{if◌then◌else◌, is_some, not, Option, Some, None, IsSomeAnd}
use Rattle.std.specs.List.{range_with_len}
use Rattle.std.specs.Option.{option_map, unwrap_or}
use Rattle.std.proofs.lemmas.Bool.{cases_Bool, cases_lt, cases_eq, cond-true, cond-false, eq-eqb, ne_eqb, false≢true}
use Rattle.std.proofs.lemmas.List.{ext_get_or, get_or-map, get_or-take, get_or_past, length-map, length-take, length-take-le}
use Rattle.std.proofs.lemmas.List.FromFn.{get_or-map-range_with_len, length-range_with_len}
use Rattle.rs01_lists.specs.Bytes.{padded, part}
use Rattle.rs01_lists.proofs.Padding.{get_or-padded, length-padded}
use Rattle.rs01_layers.specs.Sectors.{block}
use Rattle.rs01_outside.specs.DriveView.{DriveView}
use Rattle.rs01_rack.specs.Asking.{try_drive}
use Rattle.rs01_ecchead.specs.Erased.{Known, block_in}
use Rattle.rs01_states.specs.Sparing.{IsUnread, found, is_open, is_unread, state_of}
use Rattle.rs01_states.specs.declared.state.State.{State}
use Rattle.rs01_states.specs.declared.state.State.TheVariants as state
use Rattle.rs01_linear.specs.Asking.{Asking, after_vain, ask_drives, as_block, is_good, kind_of}
use Rattle.rs01_linear.specs.declared.asking.Asked.TheVariants as asked
use Rattle.rs01_turns.specs.Turns.{Reading, Terms, asking_at, asking_for, asking_within, is_at, next_of, step}
use Rattle.rs01_turns.specs.Ends.{IsStateBy, state_by}
use Rattle.rs01_turns.proofs.Ending.{others-are-left, settled-still, unread-ends}
use Rattle.rs01_adaptive.specs.Putting.{width_of}
use Rattle.rs01_adaptive.specs.Whole.{Whole, asking_in, block_read, end_in, good_block, good_flags, is_lacking, is_open_in, known_in, start_in, terms_in}

-- what a block is made of that drives gave

taken : (known : Known) (s : ℕ) (o : Option (List ℕ)) (block : List ℕ) → option_map (as_block known s) o ≡ Some block → (bytes : List ℕ) × (block ≡ as_block known s bytes)
taken known s None block e = cc
taken known s (Some bytes) block e = (bytes, ap (λ (o : Option (List ℕ)). unwrap_or o []) (sym e))

gave : (known : Known) (s tries : ℕ) (views : List DriveView) (block : List ℕ) → (ask_drives known s tries views).read ≡ Some block → (bytes : List ℕ) × (block ≡ as_block known s bytes)
unfolding ask_drives
gave known s tries [] block e = cc
gave known s tries (view ∷ views) block e =
    let tried = try_drive view s tries in
    let one : Asking = record { views = tried.view ∷ views; read = option_map (as_block known s) tried.block; answered = true } in
    let two : Asking = after_vain tried (ask_drives known s tries views) in
    ⊎_elim
    (λ good. taken known s tried.block block (sym (ap (λ (b : Bool). (cond b one two).read) good) ∙ e))
    (λ bad. gave known s tries views block (sym (ap (λ (b : Bool). (cond b one two).read) bad) ∙ e))
    (cases_Bool (is_good known s tried.block))

within : (terms : Terms) (n : ℕ) (now : Reading) (s : ℕ) (a : Asking) → asking_within terms n now s ≡ Some a → (views : List DriveView) × (a ≡ ask_drives terms.known s terms.tries views)
unfolding asking_within
within terms zero now s a e = cc
within terms (suc n) now s a e =
    let one : Option Asking = Some (asking_at terms now s) in
    let two : Option Asking = asking_within terms n (step terms now) s in
    ⊎_elim
    (λ here. (now.views, sym (ap (λ (o : Option Asking). unwrap_or o a) (sym (ap (λ (b : Bool). cond b one two) here) ∙ e))))
    (λ later. within terms n (step terms now) s a (sym (ap (λ (b : Bool). cond b one two) later) ∙ e))
    (cases_Bool (is_at (next_of now) s))

of_asking : (terms : Terms) (now : Reading) (s : ℕ) (o : Option Asking) (block : List ℕ) → asking_for terms now s ≡ o → IsSomeAnd o (λ a. a.read ≡ Some block)
    → (bytes : List ℕ) × (block ≡ as_block terms.known s bytes)
unfolding asking_for
of_asking terms now s None block e is = absurd is
of_asking terms now s (Some a) block e is =
    let by = within terms (length now.states) now s a e in
    gave terms.known s terms.tries by.0 block (sym (ap (λ (x : Asking). x.read) by.1) ∙ is)

pub read_is_block : (w : Whole) (k : ℕ) (block : List ℕ) → IsSomeAnd (asking_in w k) (λ a. a.read ≡ Some block) → (bytes : List ℕ) × (block ≡ as_block (known_in w) k bytes)
unfolding asking_in
read_is_block w k block is = of_asking (terms_in w) (start_in w) k (asking_in w k) block refl is

-- a block has its sector's own bytes, and zeros

pub own : (size n : ℕ) (xs : List ℕ) → length xs ≤ n → n ≤ size → padded size (take n (padded size xs)) ≡ padded size xs
own size n xs short few =
    let all = length-padded size xs (omega (arith, short, few)) in
    let cut : length (take n (padded size xs)) ≡ n = length-take-le n (padded size xs) (omega (arith, all, few)) in
    ext_get_or 0 (padded size (take n (padded size xs))) (padded size xs)
    (length-padded size (take n (padded size xs)) (omega (arith, cut, few)) ∙ sym all)
    (λ i below. get_or-padded size (take n (padded size xs)) i ∙ ⊎_elim
    (λ (low : i < n). get_or-take n (padded size xs) i 0 low)
    (λ (past : n ≤ i). get_or_past (take n (padded size xs)) i 0 (omega (arith, cut, past)) ∙ sym (get_or-padded size xs i ∙ get_or_past xs i 0 (omega (arith, short, past))))
    (cases_lt i n))

pub width_most : (known : Known) (s : ℕ) → known.last_bytes ≤ 2048 → width_of known s ≤ 2048
width_most known s few = ⊎_elim
    (λ e. omega (arith, few, cond-true (eqb (s + 1) known.sectors) known.last_bytes 2048 (eq-eqb (s + 1) known.sectors e)))
    (λ d. omega (arith, cond-false (eqb (s + 1) known.sectors) known.last_bytes 2048 (ne_eqb (s + 1) known.sectors d)))
    (cases_eq (s + 1) known.sectors)

short_part : (n : ℕ) (xs : List ℕ) → length (take n xs) ≤ n
short_part n xs = omega (arith, length-take n xs)

own_block : (known : Known) (s : ℕ) (bytes : List ℕ) → known.last_bytes ≤ 2048 → padded 2048 (take (width_of known s) (as_block known s bytes)) ≡ as_block known s bytes
own_block known s bytes few = own 2048 (width_of known s) (take (width_of known s) bytes) (short_part (width_of known s) bytes) (width_most known s few)

own_in_file : (known : Known) (y : List ℕ) (s : ℕ) → known.last_bytes ≤ 2048 → padded 2048 (take (width_of known s) (block_in known y s)) ≡ block_in known y s
unfolding block
own_in_file known y s few = own 2048 (width_of known s) (part y (2048 * s) (width_of known s)) (short_part (width_of known s) (drop (2048 * s) y)) (width_most known s few)

long_block : (known : Known) (s : ℕ) (bytes : List ℕ) → known.last_bytes ≤ 2048 → length (as_block known s bytes) ≡ 2048
long_block known s bytes few = length-padded 2048 (take (width_of known s) bytes) (omega (arith, short_part (width_of known s) bytes, width_most known s few))

long_in_file : (known : Known) (y : List ℕ) (s : ℕ) → known.last_bytes ≤ 2048 → length (block_in known y s) ≡ 2048
unfolding block
long_in_file known y s few = length-padded 2048 (part y (2048 * s) (width_of known s)) (omega (arith, short_part (width_of known s) (drop (2048 * s) y), width_most known s few))

-- a sector that is lacking at the start and good at the end was read

pub start_flag : (w : Whole) (k : ℕ) → k < (known_in w).sectors → get_or (good_flags w) k true ≡ not (is_lacking w k)
start_flag w k below = get_or-map-range_with_len (λ s. not (is_lacking w s)) 0 (known_in w).sectors k k true below (let z : 0 + k ≡ k = omega arith in z)

abbrev found_as : Bool → State
found_as good = if good then state.Good else state.Unread

found_unread : (w : Whole) (k : ℕ) → k < (known_in w).sectors → is_lacking w k ≡ true → IsUnread (found (good_flags w)) k
found_unread w k below lacks =
    let long : length (good_flags w) ≡ (known_in w).sectors = length-map (range_with_len 0 (known_in w).sectors) (λ s. not (is_lacking w s)) ∙ length-range_with_len 0 (known_in w).sectors in
    ap is_unread (get_or-map found_as (good_flags w) k true state.Good (omega (arith, long, below)) ∙ ap found_as (start_flag w k below ∙ ap not lacks))

read_by : (a : Asking) → is_open (state_by (kind_of a)) ≡ false → (block : List ℕ) × (a.read ≡ Some block)
read_by a closed = by_read a.read a.answered refl closed
  where
    by_read : (read : Option (List ℕ)) (answered : Bool) → a.read ≡ read
        → is_open (state_by (if is_some read then asked.Read else if answered then asked.Altered else asked.Unreadable)) ≡ false → (block : List ℕ) × (a.read ≡ Some block)
    by_read (Some block) answered e h = (block, e)
    by_read None true e h = absurd (false≢true (sym h))
    by_read None false e h = absurd (false≢true (sym h))

read_at_all : (o : Option Asking) (x : State) → IsStateBy o x → is_open x ≡ false → (block : List ℕ) × IsSomeAnd o (λ a. a.read ≡ Some block)
read_at_all None x is closed = absurd (false≢true (sym closed ∙ ap is_open is))
read_at_all (Some a) x is closed = read_by a (sym (ap is_open is) ∙ closed)

pub good_was_read : (w : Whole) (k : ℕ) → k < (known_in w).sectors → is_lacking w k ≡ true → is_open_in w k ≡ false
    → (block : List ℕ) × IsSomeAnd (asking_in w k) (λ a. a.read ≡ Some block)
unfolding asking_in end_in
good_was_read w k below lacks closed = ⊎_elim
    (λ unread. read_at_all (asking_in w k) (state_of (end_in w).states k) (unread-ends (terms_in w) (start_in w) k unread) closed)
    (λ (spared : state_of (start_in w).states k ≡ state.Spared).
    absurd (false≢true (sym closed ∙ ap is_open ((others-are-left (terms_in w) (start_in w) k (ap is_unread spared)).same ∙ spared))))
    (settled-still w.shape (found (good_flags w)) k (found_unread w k below lacks))

-- the block that is read, and the one of the file

pub read_good : (w : Whole) (k : ℕ) (block : List ℕ) → is_lacking w k ≡ true → IsSomeAnd (asking_in w k) (λ a. a.read ≡ Some block) → good_block w k ≡ block
unfolding good_block
read_good w k block lacks is =
    ap (λ (b : Bool). cond b (block_read (asking_in w k)) (block_in (known_in w) w.image k)) lacks ∙ by (asking_in w k) is
  where
    by : (o : Option Asking) → IsSomeAnd o (λ a. a.read ≡ Some block) → block_read o ≡ block
    by None is = absurd is
    by (Some a) is = ap (λ (o : Option (List ℕ)). unwrap_or o []) is

pub kept_good : (w : Whole) (k : ℕ) → is_lacking w k ≡ false → good_block w k ≡ block_in (known_in w) w.image k
unfolding good_block
kept_good w k has = ap (λ (b : Bool). cond b (block_read (asking_in w k)) (block_in (known_in w) w.image k)) has

pub good_own : (w : Whole) (k : ℕ) → k < (known_in w).sectors → (known_in w).last_bytes ≤ 2048 → is_open_in w k ≡ false
    → (padded 2048 (take (width_of (known_in w) k) (good_block w k)) ≡ good_block w k) × (length (good_block w k) ≡ 2048)
good_own w k below few closed = ⊎_elim
    (λ lacks.
    let was = good_was_read w k below lacks closed in
    let of = read_is_block w k was.0 was.1 in
    let is : good_block w k ≡ as_block (known_in w) k of.0 = read_good w k was.0 lacks was.1 ∙ of.1 in (
      subst (λ (b : List ℕ). padded 2048 (take (width_of (known_in w) k) b) ≡ b) (sym is) (own_block (known_in w) k of.0 few),
      ap length is ∙ long_block (known_in w) k of.0 few,
    ))
    (λ has.
    let is = kept_good w k has in (
      subst (λ (b : List ℕ). padded 2048 (take (width_of (known_in w) k) b) ≡ b) (sym is) (own_in_file (known_in w) w.image k few),
      ap length is ∙ long_in_file (known_in w) w.image k few,
    ))
    (cases_Bool (is_lacking w k))
