-- Marking the sectors of a file that aren't good.
use Rattle.std.proofs.Common.{◌≡◌, ℕ, zero, suc, ◌+◌, ◌-◌, ◌*◌, ◌<◌, ◌≤◌, ◌∙◌, ap, arith, sym, refl, Bool, true, false, cond, List, [], ◌∷◌, ◌++◌, length, take, drop, ⊎_elim, append-nil}
use Rattle.std.specs.Prelude.{Err, IsTrue, Option, Some, not, ◌||◌, slice_get}
use Rattle.std.specs.List.{flat_map, range_with_len}
use Rattle.std.specs.Option.{option_map}
use Rattle.std.proofs.lemmas.Bool.{cases_lt, lt-ltb}
use Rattle.std.proofs.Math.Seq.{take-append_seam}
use Rattle.std.proofs.lemmas.List.{length-drop, length-take-le}
use Rattle.std.proofs.lemmas.List.Concat.{flat_map-append}
use Rattle.std.proofs.lemmas.List.FromFn.{get_or-map-range_with_len, length-map-range_with_len}
use Rattle.std.proofs.lemmas.Option.{slice_get-get_or}
use Rattle.rs01_layers.specs.Sectors.{block}
use Rattle.rs01_layers.proofs.BlockLemmas.{length-block}
use Rattle.rs01_lists.specs.Bytes.{padded, part, zeros}
use Rattle.rs01_lists.proofs.Ranges.{range_with_len_more}
use Rattle.rs01_sums.specs.Marker.{marker}
use Rattle.rs01_sums.specs.Usable.{is_usable}
use Rattle.rs01_sums.proofs.MarkerLemmas.{length-marker}
use Rattle.rs01_outside.specs.DeskState.{DeskState, WorksOn}
use Rattle.rs01_outside.specs.Files.{Files, Writes, WritesAt}
use Rattle.rs01_ecchead.specs.Erased.{Known, block_in, image_len, is_absent, is_erased}
use Rattle.rs01_layers.specs.declared.extent.Extent.{Extent}
use Rattle.rs01_linear.specs.Asking.{known_with}
use Rattle.rs01_linear.specs.Left.{first_fate, first_fates, marked, marked_sector, mixed}
use Rattle.rs01_linear.specs.Marking.{IsMixed, is_left_out, place}
use Rattle.rs01_linear.specs.declared.fate.Fate.{Fate}
use Rattle.rs01_linear.specs.declared.fate.Fate.TheVariants.{Kept, LeftOut}
use Rattle.rs01_linear.proofs.LaidLemmas.{Fills, Sized, laid, laid_long, laid_part, place_more, place_of, place_order, place_within, width, width_le}
use Rattle.rs01_linear.proofs.MixedLemmas.{extend, extend_failed, same_mixed}

-- the block that a sector has before anything is asked for
length-choice : (known : Known) (y : List ℕ) (s : ℕ) (erased : Bool) → Sized known → length (cond erased (marker s) (block_in known y s)) ≡ 2048
length-choice known y s true sized = length-marker s
length-choice known y s false sized = length-block y s (width known s) (width_le known s sized)

pub marked_fills : (known : Known) (y : List ℕ) → Sized known → Fills known (marked_sector known y)
marked_fills known y sized s below =
    length-take-le (width known s) (cond (is_erased known y s) (marker s) (block_in known y s)) (omega (arith, length-choice known y s (is_erased known y s) sized, width_le known s sized))

pub marked_is : (known : Known) (y : List ℕ) → marked known y ≡ laid known (marked_sector known y) y
unfolding marked
marked_is known y = refl

pub marked_part : (known : Known) (y : List ℕ) (at past : ℕ) → Sized known → at ≤ past → past ≤ known.sectors
    → part (marked known y) (place known at) (place known past - place known at) ≡ flat_map (marked_sector known y) (range_with_len at (past - at))
marked_part known y at past sized order inside =
    ap (λ xs. part xs (place known at) (place known past - place known at)) (marked_is known y)
    ∙ laid_part known (marked_sector known y) y at past sized (marked_fills known y sized) order inside

pub marked_long : (known : Known) (y : List ℕ) → Sized known → image_len known ≤ length (marked known y)
marked_long known y sized =
    let long = laid_long known (marked_sector known y) y sized (marked_fills known y sized) in
    omega (arith, long, ap length (marked_is known y))

-- one sector more behind neighbouring ones
pub one_more : (f : ℕ → List ℕ) (at s : ℕ) (old new : List ℕ) → at ≤ s → old ≡ flat_map f (range_with_len at (s - at)) → new ≡ old ++ f s
    → new ≡ flat_map f (range_with_len at (s + 1 - at))
one_more f at s old new order held put =
    let e : s + 1 - at ≡ suc (s - at) = omega (arith, order) in
    let last : at + (s - at) ≡ s = omega (arith, order) in
    put ∙ ap (λ xs. xs ++ f s) held
    ∙ sym (ap (λ n. flat_map f (range_with_len at n)) e
    ∙ ap (flat_map f) (range_with_len_more at (s - at) ∙ ap (λ k. range_with_len at (s - at) ++ k ∷ []) last)
    ∙ flat_map-append f (range_with_len at (s - at)) (s ∷ [])
    ∙ ap (λ xs. flat_map f (range_with_len at (s - at)) ++ xs) (append-nil (f s)))

-- what a sector's first fate says
pub fate_at : (known : Known) (y : List ℕ) (fates : List Fate) (s : ℕ) → fates ≡ first_fates known y → s < known.sectors → slice_get fates s ≡ Some (first_fate known y s)
fate_at known y fates s are below =
    ap (λ (f : List Fate). slice_get f s) are
    ∙ slice_get-get_or (first_fates known y) s LeftOut (omega (arith, below, length-map-range_with_len (first_fate known y) 0 known.sectors))
    ∙ ap Some (get_or-map-range_with_len (first_fate known y) 0 known.sectors s s LeftOut below (let e : 0 + s ≡ s = omega arith in e))

pub left_out_is : (erased : Bool) → is_left_out (cond erased LeftOut Kept) ≡ erased
left_out_is true = refl
left_out_is false = refl

pub erased_by : (known : Known) (y : List ℕ) (fates : List Fate) (s : ℕ) (b : Bool) → fates ≡ first_fates known y → s < known.sectors
    → option_map is_left_out (slice_get fates s) ≡ Some b → is_erased known y s ≡ b
erased_by known y fates s b are below is =
    let e : Some (is_erased known y s) ≡ Some b = ap Some (sym (left_out_is (is_erased known y s))) ∙ sym (ap (option_map is_left_out) (fate_at known y fates s are below)) ∙ is in
    cc

-- a sector that is good is there
present : (known : Known) (y : List ℕ) (s : ℕ) → is_erased known y s ≡ false → 2048 * s + width known s ≤ length y
unfolding is_erased
present known y s good =
    ⊎_elim
    (λ (short : length y < 2048 * s + width known s).
    let e : is_absent known y s ≡ true = lt-ltb (length y) (2048 * s + width known s) short in
    let bad : (absent usable : Bool) → (absent || usable) ≡ false → absent ≡ true → ⊥ = λ absent usable one two. by_cases absent usable one two in
    absurd (bad (is_absent known y s) (not (is_usable known.sums s (block_in known y s))) good e))
    (λ long. long)
    (cases_lt (length y) (2048 * s + width known s))
  where
    by_cases : (absent usable : Bool) → (absent || usable) ≡ false → absent ≡ true → ⊥
    by_cases true usable one two = cc
    by_cases false usable one two = cc

-- the first n bytes of a sector's block, where the file reaches so far
front_of_block : (file : List ℕ) (s n : ℕ) → 2048 * s + n ≤ length file → take n (block file s n) ≡ part file (2048 * s) n
unfolding block padded
front_of_block file s n fits =
    let bytes : List ℕ = take n (drop (2048 * s) file) in
    let long : length bytes ≡ n = length-take-le n (drop (2048 * s) file) (omega (arith, fits, length-drop (2048 * s) file)) in
    ap (λ k. take k (bytes ++ zeros (2048 - length bytes))) (sym long) ∙ take-append_seam bytes (zeros (2048 - length bytes))

-- its bytes are the file's
pub kept_part : (known : Known) (y : List ℕ) (s : ℕ) → Sized known → s < known.sectors → is_erased known y s ≡ false
    → marked_sector known y s ≡ part y (2048 * s) (width known s)
kept_part known y s sized below good =
    ap (λ b. take (width known s) (cond b (marker s) (block_in known y s))) good
    ∙ front_of_block y s (width known s) (present known y s good)

-- one sector of the marked file
pub marked_one : (known : Known) (y : List ℕ) (s : ℕ) → Sized known → s < known.sectors → part (marked known y) (place known s) (width known s) ≡ marked_sector known y s
marked_one known y s sized below =
    let next = place_more known s sized below in
    let n : place known (s + 1) - place known s ≡ width known s = omega (arith, next) in
    ap (λ k. part (marked known y) (place known s) k) (sym n)
    ∙ marked_part known y s (s + 1) sized (omega arith) (omega (arith, below))
    ∙ ap (λ k. flat_map (marked_sector known y) (range_with_len s k)) (let e : s + 1 - s ≡ 1 = omega arith in e)
    ∙ append-nil (marked_sector known y s)

-- a good sector is passed: as many first bytes more are marked ones
pub pass_good : (known : Known) (y : List ℕ) (s : ℕ) (file : Option (List ℕ)) → Sized known → s < known.sectors → is_erased known y s ≡ false
    → file ≡ Some (mixed (place known s) (marked known y) y) → file ≡ Some (mixed (place known (s + 1)) (marked known y) y)
pass_good known y s file sized below good is =
    let next = place_more known s sized below in
    let same : part (marked known y) (place known s) (width known s) ≡ part y (place known s) (width known s) =
    marked_one known y s sized below ∙ kept_part known y s sized below good ∙ ap (λ k. part y k (width known s)) (sym (place_of known s sized below)) in
    is ∙ ap Some (same_mixed (marked known y) y (place known s) (width known s) same ∙ ap (λ k. mixed k (marked known y) y) (sym next))

-- the markers of neighbouring sectors that aren't good
marker_run : (known : Known) (y : List ℕ) (at n : ℕ) → ((k : ℕ) → at ≤ k → k < at + n → is_erased known y k ≡ true)
    → flat_map (λ s. take (width known s) (marker s)) (range_with_len at n) ≡ flat_map (marked_sector known y) (range_with_len at n)
marker_run known y at zero erased = refl
marker_run known y at (suc n) erased =
    let here : take (width known at) (marker at) ≡ marked_sector known y at =
    ap (λ b. take (width known at) (cond b (marker at) (block_in known y at))) (sym (erased at (omega arith) (omega arith))) in
    (λ i. here i ++ marker_run known y (at + 1) n (λ k low high. erased k (omega (arith, low)) (omega (arith, high))) i)

pub run_bytes : (known : Known) (y : List ℕ) (fates : List Fate) (at past : ℕ) (bytes : List ℕ) → Sized known → fates ≡ first_fates known y → at ≤ past → past ≤ known.sectors
    → ((k : ℕ) → at ≤ k → k < past → option_map is_left_out (slice_get fates k) ≡ Some true)
    → bytes ≡ flat_map (λ s. take (width known s) (marker s)) (range_with_len at (past - at))
    → bytes ≡ part (marked known y) (place known at) (place known past - place known at)
run_bytes known y fates at past bytes sized are order inside left is =
    is
    ∙ marker_run known y at (past - at) (λ k low high.
    let below : k < past = omega (arith, high, order) in
    erased_by known y fates k true are (omega (arith, below, inside)) (left k low below))
    ∙ sym (marked_part known y at past sized order inside)

-- what an image's extent says of it
pub sized_by : (extent : Extent) (sums : Option (List ℕ)) → Sized (known_with extent sums)
sized_by extent sums = record { some = extent.some_sectors; some_last = extent.some_last_bytes; fits = extent.last_fits }

-- the sectors to a place lie in the file that is marked
pub run_within : (known : Known) (y : List ℕ) (at past : ℕ) → Sized known → at ≤ past → place known at + (place known past - place known at) ≤ length (marked known y)
run_within known y at past sized order =
    omega (arith, marked_long known y sized, place_within known past, place_order known at past order)

pub run_place : (known : Known) (at past : ℕ) → at ≤ past → place known at + (place known past - place known at) ≡ place known past
run_place known at past order = omega (arith, place_order known at past order)

-- the markers of a run, as they go out by one write: they are those that the marked file has at the first sector's place
pub record IsRun (known : Known) (y : List ℕ) (at past offset : ℕ) (bytes : List ℕ) : Type 0 where
  pub order : at ≤ past
  pub sized : Sized known
  pub here : offset ≡ place known at
  pub are : bytes ≡ part (marked known y) (place known at) (place known past - place known at)

pub is_run : (extent : Extent) (sums : Option (List ℕ)) (y : List ℕ) (fates : List Fate) (at past offset : ℕ) (bytes : List ℕ) → let known = known_with extent sums in
    fates ≡ first_fates known y → at < extent.sectors → at ≤ past → past ≤ extent.sectors
    → ((k : ℕ) → at ≤ k → k < past → option_map is_left_out (slice_get fates k) ≡ Some true)
    → offset ≡ 2048 * at → bytes ≡ flat_map (λ s. take (width known s) (marker s)) (range_with_len at (past - at)) → IsRun known y at past offset bytes
is_run extent sums y fates at past offset bytes are below order inside left here is =
    let known = known_with extent sums in
    let sized = sized_by extent sums in
    record {
      order = order;
      sized = sized;
      here = here ∙ sym (place_of known at sized below);
      are = run_bytes known y fates at past bytes sized are order inside left is;
    }

-- the file once such a run is written, and what stands where that failed
pub run_put : (known : Known) (y : List ℕ) (at past offset : ℕ) (bytes name : List ℕ) (old new : Files) → IsRun known y at past offset bytes
    → old name ≡ Some (mixed (place known at) (marked known y) y) → Writes old new name offset bytes → new name ≡ Some (mixed (place known past) (marked known y) y)
run_put known y at past offset bytes name old new run is written =
    extend old new name (marked known y) y bytes (place known at) (place known past - place known at) offset (run_within known y at past run.sized run.order) run.here run.are is written
    ∙ ap (λ n. Some (mixed n (marked known y) y)) (run_place known at past run.order)

pub run_failed : {E : Type 0} (known : Known) (y : List ℕ) (at past offset : ℕ) (bytes name : List ℕ) (old new : Files) (e : E) → IsRun known y at past offset bytes
    → old name ≡ Some (mixed (place known at) (marked known y) y) → WritesAt old new name offset bytes (Err e) → IsMixed (marked known y) y (new name)
run_failed known y at past offset bytes name old new e run is written =
    extend_failed old new name (marked known y) y bytes (place known at) (place known past - place known at) offset e (run_within known y at past run.sized run.order)
    run.here run.are is written

-- how far the marking has come
pub record IsMarking (extent : Extent) (fates : List Fate) (name : List ℕ) (first : ℕ) (old now : DeskState) : Type 0 where
  pub inside : first ≤ extent.sectors
  pub works : WorksOn name old now false false
  pub marked_so_far :
      (sums : Option (List ℕ)) (y : List ℕ) → let known = known_with extent sums in
      fates ≡ first_fates known y → IsTrue old.tells → old.files name ≡ Some (mixed 0 (marked known y) y)
      → now.files name ≡ Some (mixed (place known first) (marked known y) y)
