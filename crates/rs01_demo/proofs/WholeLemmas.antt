-- No sector is lost and no layer is strange exactly where the repaired image is the one that was made.
use Rattle.std.proofs.Common.{◌≡◌, ◌≤◌, ◌<◌, ◌+◌, ◌*◌, ◌-◌, ◌/◌, ◌%◌, ◌^◌, ◌++◌, ◌∷◌, ℕ, zero, suc, Bool, true, false, cond, List, [], length, take, drop, get_or, refl, sym, ap, subst, ◌∙◌, arith, ⊎_elim, eqb, append-nil}
use Rattle.std.specs.Prelude.{◌==◌, ◌&&◌, ◌||◌, IsOkAnd, Ok, Err, Result, Some, count_by, filter, nat_lt, not, slice_index}
use Rattle.std.specs.List.{flat_map, range_with_len}
use Rattle.std.specs.Str.{bytes_eq}
use Rattle.std.proofs.Math.Seq.{drop-append-add}
use Rattle.std.proofs.lemmas.Bool.{cases_Bool, cases_lt, false≢true, le-ltb}
use Rattle.std.proofs.lemmas.Bool.Decides.{Decides-eqb, same_from_decides}
use Rattle.std.proofs.lemmas.List.{drop-drop, ext_get_or, get_or-drop, get_or-take}
use Rattle.std.proofs.lemmas.List.Elements.{All-from_get_or}
use Rattle.std.proofs.lemmas.List.FromFn.{get_or-map-range_with_len}
use Rattle.std.proofs.lemmas.List.Sums.{length-filter}
use Rattle.std.proofs.lemmas.Slice.Eq.{bytes_eq-Decides}
use Rattle.rs01_lists.specs.Bytes.{padded, zeros}
use Rattle.rs01_layers.specs.Layout.{layer_of}
use Rattle.rs01_layers.specs.Sectors.{block, last_of, length_of, sector, sectors_of}
use Rattle.rs01_layers.proofs.BlockLemmas.{get_or-sector, length-block}
use Rattle.rs01_sums.specs.Crc.{crc}
use Rattle.rs01_sums.specs.Marker.{marker}
use Rattle.rs01_sums.specs.Usable.{is_usable}
use Rattle.rs01_sums.proofs.MarkerLemmas.{length-marker}
use Rattle.rs01_ecchead.specs.Erased.{block_in, count_in, is_absent, is_erased, known_by}
use Rattle.rs01_ecchead.specs.Opened.{Opened, opened}
use Rattle.rs01_ecchead.specs.ReadAgain.{IsOfImage}
use Rattle.rs01_ecchead.specs.declared.opened.EccRefusal.{EccRefusal}
use Rattle.rs01_ecchead.proofs.ReadAgain.{read_again}
use Rattle.rs01_repair.specs.Inputs.{layer_answer}
use Rattle.rs01_repair.specs.Intact.{HasTheOthers, IsProtected, gone_in, is_beyond, is_gone}
use Rattle.rs01_repair.proofs.Intact.{C, N, is_of_image}
use Rattle.rs01_fix.specs.Answer.{Repaired, answer_with, repaired}
use Rattle.rs01_fix.specs.ComesBack.{ComesBack}
use Rattle.rs01_fix.specs.Repair as repair
use Rattle.rs01_fix.proofs.ComesBack.{blocks_of, comes_back, is_image, mended_where}
use Rattle.rs01_fix.proofs.FixedLemmas.{after-same, fixed_is, length-fixed_by, not_mended}
use Rattle.rs01_demo.specs.Generator.{byte_at, next, value_at}
use Rattle.rs01_demo.specs.Plan.{IsInRange, damaged, is_whole, marked, original, outcome, protection}
use Rattle.rs01_demo.specs.declared.plan.Plan.{Plan}
use Rattle.rs01_demo.proofs.GeneratorLemmas.{get_or-image, length-image, value_more}
use Rattle.rs01_demo.proofs.NoMarkers.{differs, no_marker, not_true}
use Rattle.rs01_demo.proofs.PlanLemmas.{length-marked, length-markers, marker_part}

-- an image of n whole sectors
either : (b : Bool) (x y : ℕ) → x ≡ y → cond b x y ≡ y
either true x y e = e
either false x y e = refl

full : (image : List ℕ) (n s : ℕ) → 1 ≤ n → length image ≡ 2048 * n → length_of (N image) (last_of (length image)) s ≡ 2048
full image n s some long =
    let last : last_of (length image) ≡ 2048 = ap last_of long ∙ omega arith in
    either (eqb (s + 1) (N image)) (last_of (length image)) 2048 last

-- the blocks of a marked image
marked_block : (bytes : List ℕ) (lost s : ℕ) → s < lost → block (marked bytes lost) s 2048 ≡ marker s
unfolding block padded zeros
marked_block bytes lost s below =
    ap (λ xs. xs ++ zeros (2048 - length xs)) (marker_part bytes lost s below)
    ∙ ap (λ k. marker s ++ zeros k) (let e : 2048 - length (marker s) ≡ 0 = omega (arith, length-marker s) in e)
    ∙ append-nil (marker s)

other_block : (bytes : List ℕ) (lost s n : ℕ) → lost ≤ s → block (marked bytes lost) s n ≡ block bytes s n
unfolding block marked
other_block bytes lost s n behind =
    let markers : List ℕ = flat_map marker (range_with_len 0 lost) in
    let at : 2048 * s ≡ length markers + (2048 * s - 2048 * lost) = omega (arith, behind, length-markers lost) in
    let place : 2048 * lost + (2048 * s - 2048 * lost) ≡ 2048 * s = omega (arith, behind) in
    ap (λ xs. padded 2048 (take n xs))
    (ap (λ k. drop k (markers ++ drop (2048 * lost) bytes)) at
    ∙ drop-append-add markers (drop (2048 * lost) bytes) (2048 * s - 2048 * lost)
    ∙ drop-drop (2048 * s - 2048 * lost) (2048 * lost) bytes
    ∙ ap (λ k. drop k bytes) place)

-- what is filtered of neighbouring numbers
none_kept : (p : ℕ → Bool) (a n : ℕ) → ((k : ℕ) → k < a + n → p k ≡ false) → filter p (range_with_len a n) ≡ []
none_kept p a zero none = refl
none_kept p a (suc n) none = rw (none a (omega arith)) (none_kept p (a + 1) n (λ k h. none k (omega (arith, h))))

kept_none : (p : ℕ → Bool) (a n : ℕ) → filter p (range_with_len a n) ≡ [] → (k : ℕ) → a ≤ k → k < a + n → p k ≡ false
kept_none p a zero e k low high = absurd (omega (arith, low, high))
kept_none p a (suc n) e k low high =
    ⊎_elim
    (λ (yes_here : p a ≡ true). absurd (filled (ap (λ (b : Bool). cond b (a ∷ filter p (range_with_len (a + 1) n)) (filter p (range_with_len (a + 1) n))) (sym yes_here) ∙ e)))
    (λ (not_here : p a ≡ false).
    let rest : filter p (range_with_len (a + 1) n) ≡ [] =
    ap (λ (b : Bool). cond b (a ∷ filter p (range_with_len (a + 1) n)) (filter p (range_with_len (a + 1) n))) (sym not_here) ∙ e in
    ⊎_elim
    (λ (later : a < k). kept_none p (a + 1) n rest k (omega (arith, later)) (omega (arith, high)))
    (λ (here : k ≤ a). let same : k ≡ a = omega (arith, here, low) in ap p same ∙ not_here)
    (cases_lt a k))
    (cases_Bool (p a))
  where
    filled : {x : ℕ} {xs : List ℕ} → x ∷ xs ≡ [] → ⊥
    filled e = cc

and_left : (b c : Bool) → (b && c) ≡ false → c ≡ true → b ≡ false
and_left true c e d = sym d ∙ e
and_left false c e d = refl

and_none : (b : Bool) → (b && false) ≡ false
and_none true = refl
and_none false = refl

and_two : (b c : Bool) → (b && c) ≡ true → (b ≡ true) × (c ≡ true)
and_two true c e = (refl, e)
and_two false c e = absurd (false≢true e)

or_true : (b : Bool) → (b || true) ≡ true
or_true true = refl
or_true false = refl

-- all that is known of the demonstration
record Setting (plan : Plan) (c : Opened) : Type 0 where
  range : IsInRange plan
  of : IsOfImage (original plan) plan.parity c

abbrev I : Plan → List ℕ
I plan = original plan

abbrev D : Plan → Opened → Opened
D plan c = C (original plan) plan.parity c

long : (plan : Plan) → length (I plan) ≡ 2048 * plan.sectors
long plan = length-image plan.number plan.sectors

count : (plan : Plan) → N (I plan) ≡ plan.sectors
count plan = ap sectors_of (long plan) ∙ omega arith

low_byte : (v : ℕ) → (v % 2 ^ 64) / 2 ^ 56 < 2 ^ 8
low_byte v = omega arith

byte_low : (number i : ℕ) → byte_at number i < 2 ^ 8
unfolding next
byte_low number i =
    let e = value_more number i in
    subst (λ v. v / 2 ^ 56 < 2 ^ 8) (sym e) (low_byte (value_at number i * 6364136223846793005 + 1442695040888963407))

proper : (plan : Plan) → IsInRange plan → IsProtected (I plan) plan.parity
proper plan range = record {
  some_bytes = omega (arith, long plan, range.some_sectors);
  few_sectors = omega (arith, count plan, range.few_sectors);
  least_parity = range.least_parity;
  most_parity = range.most_parity;
  bytes = All-from_get_or (λ b. b < 2 ^ 8) (I plan) 0 (λ k h.
      subst (λ b. b < 2 ^ 8) (sym (get_or-image plan.number plan.sectors k (omega (arith, h, long plan)))) (byte_low plan.number k));
}

-- the block that the damaged image has of a sector
block_is : (plan : Plan) (c : Opened) (s : ℕ) → IsInRange plan → block_in (known_by (D plan c)) (damaged plan) s ≡ block (damaged plan) s 2048
block_is plan c s range = ap (block (damaged plan) s) (full (I plan) plan.sectors s range.some_sectors (long plan))

sector_is : (plan : Plan) (s : ℕ) → IsInRange plan → sector (I plan) s ≡ block (I plan) s 2048
sector_is plan s range = ap (block (I plan) s) (full (I plan) plan.sectors s range.some_sectors (long plan))

not_usable : (sums : List ℕ) (s : ℕ) (b : List ℕ) → b ≡ marker s → is_usable (Some sums) s b ≡ false
not_usable sums s b is = ap (λ (t : Bool). not t && (crc b == slice_index sums s)) ((bytes_eq-Decides b (marker s)).1 is)

gone_marked : (plan : Plan) (c : Opened) (s : ℕ) → IsInRange plan → s < plan.lost → is_gone (D plan c) (damaged plan) s ≡ true
unfolding is_erased
gone_marked plan c s range below =
    ap (λ (t : Bool). is_absent (known_by (D plan c)) (damaged plan) s || not t)
    (not_usable c.sums s (block_in (known_by (D plan c)) (damaged plan) s) (block_is plan c s range ∙ marked_block (I plan) plan.lost s below))
    ∙ or_true (is_absent (known_by (D plan c)) (damaged plan) s)

-- one of the others
same_block : (plan : Plan) (c : Opened) (s : ℕ) → IsInRange plan → plan.lost ≤ s → block_in (known_by (D plan c)) (damaged plan) s ≡ sector (I plan) s
same_block plan c s range behind =
    block_is plan c s range ∙ other_block (I plan) plan.lost s 2048 behind ∙ sym (sector_is plan s range)

there : (plan : Plan) (c : Opened) (s : ℕ) → IsInRange plan → s < plan.sectors → is_absent (known_by (D plan c)) (damaged plan) s ≡ false
there plan c s range below =
    le-ltb (length (damaged plan)) (2048 * s + length_of (N (I plan)) (last_of (length (I plan))) s)
    (omega (arith, below, range.lost_are_there, long plan, length-marked (I plan) plan.lost (omega (arith, range.lost_are_there, long plan)), full (I plan) plan.sectors s range.some_sectors (long plan)))

kept : (plan : Plan) (c : Opened) (s : ℕ) → Setting plan c → s < plan.sectors → plan.lost ≤ s → is_gone (D plan c) (damaged plan) s ≡ false
unfolding is_erased
kept plan c s set below behind =
    let b = block_in (known_by (D plan c)) (damaged plan) s in
    let same = same_block plan c s set.range behind in
    let own : bytes_eq b (marker s) ≡ false = differs b (marker s) (λ e. no_marker plan.number plan.sectors s below (sym same ∙ e)) in
    let sum : slice_index c.sums s ≡ crc (sector (I plan) s) =
    ap (λ (xs : List ℕ). get_or xs s 0) set.of.sums
    ∙ get_or-map-range_with_len (λ k. crc (sector (I plan) k)) 0 (N (I plan)) s s 0 (omega (arith, below, count plan)) (let e : 0 + s ≡ s = omega arith in e) in
    let fits : (crc b == slice_index c.sums s) ≡ true = (Decides-eqb (crc b) (slice_index c.sums s)).1 (ap crc same ∙ sym sum) in
    (λ i. there plan c s set.range below i || not (not (own i) && fits i))

others : (plan : Plan) (c : Opened) → Setting plan c → HasTheOthers (I plan) (D plan c) (damaged plan)
others plan c set s below good =
    ⊎_elim
    (λ (marked_one : s < plan.lost). absurd (false≢true (sym good ∙ gone_marked plan c s set.range marked_one)))
    (λ behind. same_block plan c s set.range behind)
    (cases_lt s plan.lost)

abbrev R : Plan → Opened → Repaired
R plan c = repaired (D plan c) (damaged plan) false

back : (plan : Plan) (c : Opened) → Setting plan c → ComesBack (I plan) (D plan c) (damaged plan) (R plan c)
back plan c set = comes_back (I plan) plan.parity c (damaged plan) false (proper plan set.range) set.of (others plan c set)

file_long : (plan : Plan) (c : Opened) → Setting plan c → length (R plan c).file ≡ 2048 * plan.sectors
unfolding repaired
file_long plan c set =
    let size = length-fixed_by (D plan c) (damaged plan) (layer_answer (D plan c) (damaged plan)) (is_image (I plan) plan.parity c (proper plan set.range)) (blocks_of (I plan) plan.parity c (damaged plan)) in
    omega (
      arith,
      size,
      set.range.some_sectors,
      set.range.lost_are_there,
      long plan,
      count plan,
      ap last_of (long plan),
      length-marked (I plan) plan.lost (omega (arith, set.range.lost_are_there, long plan)),
    )

-- where nothing is lost no layer is beyond its bound
within : (plan : Plan) (c : Opened) (s : ℕ) → ((t : ℕ) → t < N (I plan) → (is_gone (D plan c) (damaged plan) t && is_beyond (D plan c) (damaged plan) t) ≡ false)
    → is_beyond (D plan c) (damaged plan) s ≡ false
unfolding count_in
within plan c s none =
    ⊎_elim
    (λ (beyond : is_beyond (D plan c) (damaged plan) s ≡ true).
    let l = layer_of (N (I plan)) plan.parity s in
    let p : ℕ → Bool = λ t. is_gone (D plan c) (damaged plan) t && (layer_of (N (I plan)) plan.parity t == l) in
    let each : (t : ℕ) → t < 0 + N (I plan) → p t ≡ false = λ t h.
    ⊎_elim
    (λ (here : (layer_of (N (I plan)) plan.parity t == l) ≡ true).
    let same : layer_of (N (I plan)) plan.parity t ≡ l = (Decides-eqb (layer_of (N (I plan)) plan.parity t) l).0 here in
    let too : is_beyond (D plan c) (damaged plan) t ≡ true = ap (λ k. nat_lt plan.parity (gone_in (D plan c) (damaged plan) k)) same ∙ beyond in
    ap (λ b. b && (layer_of (N (I plan)) plan.parity t == l)) (and_left (is_gone (D plan c) (damaged plan) t) (is_beyond (D plan c) (damaged plan) t) (none t (omega (arith, h))) too))
    (λ (elsewhere : (layer_of (N (I plan)) plan.parity t == l) ≡ false).
    ap (λ b. is_gone (D plan c) (damaged plan) t && b) elsewhere ∙ and_none (is_gone (D plan c) (damaged plan) t))
    (cases_Bool (layer_of (N (I plan)) plan.parity t == l)) in
    let zero_is : count_by p (range_with_len 0 (N (I plan))) ≡ 0 =
    sym (length-filter p (range_with_len 0 (N (I plan)))) ∙ ap length (none_kept p 0 (N (I plan)) each) in
    ap (nat_lt plan.parity) zero_is ∙ le-ltb plan.parity 0 (omega arith))
    (λ fine. fine)
    (cases_Bool (is_beyond (D plan c) (damaged plan) s))

comes : (plan : Plan) (c : Opened) → Setting plan c → (R plan c).report.lost ≡ [] → (R plan c).file ≡ I plan
comes plan c set nothing =
    let it = back plan c set in
    let none : (t : ℕ) → t < N (I plan) → (is_gone (D plan c) (damaged plan) t && is_beyond (D plan c) (damaged plan) t) ≡ false =
    λ t h. kept_none (λ s. is_gone (D plan c) (damaged plan) s && is_beyond (D plan c) (damaged plan) s) 0 (N (I plan)) (sym it.lost ∙ nothing) t (omega arith) (omega (arith, h)) in
    ext_get_or 0 (R plan c).file (I plan) (file_long plan c set ∙ sym (long plan))
    (λ k h.
    let s = k / 2048 in
    let j = k % 2048 in
    let place : k ≡ 2048 * s + j = omega arith in
    let below : s < N (I plan) = omega (arith, h, file_long plan c set, count plan) in
    let size = full (I plan) plan.sectors s set.range.some_sectors (long plan) in
    let inside : j < length_of (N (I plan)) (last_of (length (I plan))) s = omega (arith, size) in
    let same = it.sectors s below (within plan c s none) in
    ap (λ n. get_or (R plan c).file n 0) place
    ∙ sym (get_or-take (length_of (N (I plan)) (last_of (length (I plan))) s) (drop (2048 * s) (R plan c).file) j 0 inside ∙ get_or-drop (2048 * s) (R plan c).file j 0)
    ∙ ap (λ (xs : List ℕ). get_or xs j 0) same
    ∙ get_or-take (length_of (N (I plan)) (last_of (length (I plan))) s) (drop (2048 * s) (I plan)) j 0 inside ∙ get_or-drop (2048 * s) (I plan) j 0
    ∙ ap (λ n. get_or (I plan) n 0) (sym place))

-- a lost sector keeps its marker
stays_marked : (plan : Plan) (c : Opened) (s j : ℕ) → Setting plan c → s < plan.lost → is_beyond (D plan c) (damaged plan) s ≡ true → j < 2048
    → get_or (R plan c).file (2048 * s + j) 0 ≡ get_or (marker s) j 0
unfolding repaired
stays_marked plan c s j set below beyond inside =
    let answers = layer_answer (D plan c) (damaged plan) in
    let number : s < N (I plan) = omega (arith, below, count plan, set.range.lost_are_there) in
    let gone = gone_marked plan c s set.range below in
    let mended : repair.is_mended (D plan c) answers s ≡ false =
    mended_where (I plan) plan.parity c (damaged plan) s (proper plan set.range) set.of (others plan c set) number ∙ (λ i. gone i && not (beyond i)) in
    let size = full (I plan) plan.sectors s set.range.some_sectors (long plan) in
    let fixed = fixed_is (D plan c) (damaged plan) answers false (is_image (I plan) plan.parity c (proper plan set.range)) (blocks_of (I plan) plan.parity c (damaged plan)) in
    fixed.bytes s j number (omega (arith, size, inside))
    ∙ ap (λ (xs : List ℕ). get_or xs j 0)
    (after-same (D plan c) (damaged plan) answers s (not_mended (D plan c) answers s mended) (there plan c s set.range (omega (arith, number, count plan)))
    ∙ block_is plan c s set.range ∙ marked_block (I plan) plan.lost s below)

nothing_lost : (plan : Plan) (c : Opened) → Setting plan c → (R plan c).file ≡ I plan → (R plan c).report.lost ≡ []
nothing_lost plan c set same =
    (back plan c set).lost
    ∙ none_kept (λ s. is_gone (D plan c) (damaged plan) s && is_beyond (D plan c) (damaged plan) s) 0 (N (I plan))
    (λ s h. not_true (is_gone (D plan c) (damaged plan) s && is_beyond (D plan c) (damaged plan) s) (λ lost.
    let two = and_two (is_gone (D plan c) (damaged plan) s) (is_beyond (D plan c) (damaged plan) s) lost in
    let number : s < plan.sectors = omega (arith, h, count plan) in
    ⊎_elim
    (λ (below : s < plan.lost).
    no_marker plan.number plan.sectors s number
    (ext_get_or 0 (sector (I plan) s) (marker s)
    (length-block (I plan) s (length_of (N (I plan)) (last_of (length (I plan))) s) (omega (arith, full (I plan) plan.sectors s set.range.some_sectors (long plan))) ∙ sym (length-marker s))
    (λ j inside.
    let low : j < 2048 = omega (arith, inside, length-block (I plan) s (length_of (N (I plan)) (last_of (length (I plan))) s) (omega (arith, full (I plan) plan.sectors s set.range.some_sectors (long plan)))) in
    get_or-sector (I plan) s j (omega (arith, number, count plan)) low
    ∙ ap (λ (xs : List ℕ). get_or xs (2048 * s + j) 0) (sym same)
    ∙ stays_marked plan c s j set below two.1 low)))
    (λ behind. false≢true (sym (kept plan c s set number behind) ∙ two.0))
    (cases_lt s plan.lost)))

empty : (xs : List ℕ) → length xs ≡ 0 → xs ≡ []
empty [] e = refl
empty (x ∷ xs) e = absurd (omega arith)

whole_is : (plan : Plan) (c : Opened) → Setting plan c → is_whole (R plan c).report ≡ bytes_eq (R plan c).file (I plan)
whole_is plan c set =
    let lost = (R plan c).report.lost in
    same_from_decides {P = (R plan c).file ≡ I plan} (is_whole (R plan c).report) (bytes_eq (R plan c).file (I plan)) (
      λ whole. comes plan c set (empty lost ((Decides-eqb (length lost) 0).0 (and_two (length lost == 0) (length (R plan c).report.strange == 0) whole).0)),
      λ same. (λ i. (length (nothing_lost plan c set same i) == 0) && (length ((back plan c set).strange i) == 0)),
    )
    (bytes_eq-Decides (R plan c).file (I plan))

by_answer : (answer : Result Opened EccRefusal) (plan : Plan) → IsInRange plan → IsOkAnd answer (IsOfImage (original plan) plan.parity)
    → IsOkAnd (answer_with answer (Some (damaged plan)) false) (λ x. is_whole x.report ≡ bytes_eq x.file (original plan))
unfolding answer_with
by_answer (Ok c) plan range of =
    subst (λ (d : Opened). is_whole (repaired d (damaged plan) false).report ≡ bytes_eq (repaired d (damaged plan) false).file (original plan))
    (sym (is_of_image (original plan) plan.parity c of)) (whole_is plan c (record { range = range; of = of }))
by_answer (Err why) plan range of = absurd of

pub whole_is_original : (plan : Plan) → IsInRange plan → IsOkAnd (outcome plan) (λ x. is_whole x.report ≡ bytes_eq x.file (original plan))
whole_is_original plan range =
    let is = proper plan range in
    by_answer (opened (protection plan)) plan range (read_again (original plan) plan.parity is.some_bytes is.few_sectors is.least_parity is.most_parity)
