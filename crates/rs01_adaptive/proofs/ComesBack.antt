-- What reading by turns gives back where the error correction file is intact.
use Rattle.std.proofs.Common.{◌≡◌, ℕ, zero, suc, ◌+◌, ◌-◌, ◌*◌, ◌%◌, ◌<◌, ◌≤◌, ⊎_elim, List, [], ◌++◌, length, take, drop, get_or, refl, sym, ap, subst, ◌∙◌, arith, Bool, true, false, cond, mod-lt}
use Rattle.std.specs.Prelude.{◌&&◌, ◌==◌, All, is_none, is_some, not, count_by, filter, Option, Some, None}
use Rattle.std.specs.List.{flat_map, range_with_len}
use Rattle.std.specs.Option.{option_and_then, option_map_or}
use Rattle.std.proofs.lemmas.Bool.{cases_Bool, cases_lt, false≢true}
use Rattle.std.proofs.lemmas.List.{get_or-take, get_or-drop, length-map, length-take, length-take-le, length-drop}
use Rattle.std.proofs.lemmas.List.FromFn.{length-range_with_len}
use Rattle.std.proofs.lemmas.List.Sums.{length-filter}
use Rattle.std.proofs.lemmas.Grind.{same_number_lists}
use Rattle.rs01_lists.specs.Bytes.{part}
use Rattle.rs01_layers.specs.Sectors.{last_of, sector}
use Rattle.rs01_layers.specs.Layer.{layer}
use Rattle.rs01_layers.specs.Layout.{layer_of, layers_of, number_at, place_of}
use Rattle.rs01_layers.specs.declared.shape.Shape.{Shape}
use Rattle.rs01_layers.specs.declared.task.LayerOut.{LayerOut}
use Rattle.rs01_layers.specs.declared.task.LayerOut.TheVariants.{Restored}
use Rattle.rs01_layers.proofs.BlockLemmas.{block_at-sector, get_or-layer, get_or-sector, length-sector}
use Rattle.rs01_layers.proofs.PlaceLemmas.{each_sector_has_a_place, place_determines_sector, some_layer}
use Rattle.rs01_ecchead.specs.Erased.{Known, block_in, count_in, is_erased, known_by}
use Rattle.rs01_ecchead.specs.Opened.{Opened}
use Rattle.rs01_ecchead.specs.ReadAgain.{IsOfImage}
use Rattle.rs01_report.specs.declared.reports.Strange.{Strange}
use Rattle.rs01_erase.specs.LayerValue.{erased_places, placed}
use Rattle.rs01_erase.proofs.ErasedPlaces.{flagged_erased}
use Rattle.rs01_repair.specs.Inputs.{answer_of, flags_at}
use Rattle.rs01_repair.specs.Intact.{IsProtected}
use Rattle.rs01_repair.specs.Restored.{restored_at}
use Rattle.rs01_repair.proofs.CorrectLemmas.{placed_has}
use Rattle.rs01_repair.proofs.Counts.{same_kept}
use Rattle.rs01_repair.proofs.InputLemmas.{flag_of_sector}
use Rattle.rs01_repair.proofs.Intact.{C, N, is_of_image, protects_says, shape_of, within_answer}
use Rattle.rs01_states.specs.Sparing.{is_open, is_within, lacks, open_count, state_of, within_bound}
use Rattle.rs01_states.specs.declared.state.State.{State}
use Rattle.rs01_states.proofs.StateLemmas.{is-beyond}
use Rattle.rs01_linear.specs.Medium.{Found}
use Rattle.rs01_linear.proofs.LaidLemmas.{Sized, place_more, place_of as known_place, width, width_le}
use Rattle.rs01_turns.specs.Layers.{lies_within}
use Rattle.rs01_turns.proofs.Times.{ends-all}
use Rattle.rs01_fix.specs.ComesBack.{IsSectorOf}
use Rattle.rs01_fix.specs.Repair.{strange_in}
use Rattle.rs01_adaptive.specs.ComesBack.{BeginsSound, ComesBack, GivesOriginal, SettledComeBack, is_settled}
use Rattle.rs01_adaptive.specs.Whole.{IsShapeOf, Whole, asking_in, block_by, block_left, end_in, good_block, good_flags, image_left, is_lacking, is_lost_in, is_open_in, is_restored_in, known_in, report_of, restored_block, start_in, strange_by, strange_layers, terms_in, value_by, value_in}
use Rattle.rs01_adaptive.proofs.BlockLemmas.{good_was_read, kept_good, read_good}
use Rattle.rs01_adaptive.proofs.Finishing.{left-part}
use Rattle.rs01_adaptive.proofs.GoingLemmas.{closed_left}
use Rattle.rs01_adaptive.proofs.OriginalLemmas.{asked-original}
use Rattle.rs01_adaptive.proofs.ReadyLemmas.{fills_of}
use Rattle.rs01_adaptive.proofs.RestoringLemmas.{restored_is, restored_left}
use Rattle.rs01_adaptive.proofs.Starting.{length_start}

-- how many sectors of a layer aren't good

count-same : (f g : ℕ → Bool) (n : ℕ) → ((j : ℕ) → f j ≡ g j) → count_by f (range_with_len 0 n) ≡ count_by g (range_with_len 0 n)
count-same f g n same =
    sym (length-filter f (range_with_len 0 n)) ∙ ap length (same_kept f g 0 n (λ j low. same (0 + j))) ∙ length-filter g (range_with_len 0 n)

other-order : (a b : Bool) → (a && b) ≡ (b && a)
other-order true true = refl
other-order true false = refl
other-order false true = refl
other-order false false = refl

-- a layer within its bound lacks few
few-open : (layers bound l : ℕ) (states : List State) → within_bound layers bound l states ≡ true → open_count layers l states ≤ bound
few-open layers bound l states within = ⊎_elim
    (λ (over : bound < open_count layers l states). absurd (false≢true (sym (is-beyond layers bound l states over) ∙ within)))
    (λ (few : open_count layers l states ≤ bound). few)
    (cases_lt bound (open_count layers l states))

counted-open : (n r l : ℕ) (states : List State) → length states ≡ n → open_count (layers_of n r) l states ≡ count_in n r (λ s. is_open (state_of states s)) l
unfolding open_count count_in
counted-open n r l states long =
    ap (λ (k : ℕ). count_by (lacks (layers_of n r) l states) (range_with_len 0 k)) long
    ∙ count-same (lacks (layers_of n r) l states) (λ s. is_open (state_of states s) && (layer_of n r s == l)) n
    (λ s. other-order (s % layers_of n r == l) (is_open (state_of states s)))

few-within : (c : Opened) (shape : Option Shape) (states : List State) (l : ℕ) → IsShapeOf (Some c) shape → length states ≡ c.fields.sectors → is_within shape l states ≡ true
    → count_in c.fields.sectors c.fields.parity (λ s. is_open (state_of states s)) l ≤ c.fields.parity
few-within c None states l is long within = absurd is
few-within c (Some shape) states l is long within =
    let few = few-open (layers_of shape.sectors shape.parity) shape.parity l states within in
    let count = counted-open shape.sectors shape.parity l states (long ∙ sym is.0) in
    subst (λ (n : ℕ). count_in n c.fields.parity (λ s. is_open (state_of states s)) l ≤ c.fields.parity) is.0
    (subst (λ (r : ℕ). count_in shape.sectors r (λ s. is_open (state_of states s)) l ≤ r) is.1 (omega (arith, few, count)))

lies-in : (c : Opened) (shape : Option Shape) (states : List State) (s : ℕ) → IsShapeOf (Some c) shape
    → lies_within shape states s ≡ is_within shape (layer_of c.fields.sectors c.fields.parity s) states
lies-in c None states s is = absurd is
lies-in c (Some shape) states s is = λ i. is_within (Some shape) (s % layers_of (is.0 i) (is.1 i)) states

-- the reading of a medium with an intact file, whose fields are the image's

record IsSoundBy (image : List ℕ) (r : ℕ) (c : Opened) (w : Whole) : Type 0 where
  proper : IsProtected image r
  of : IsOfImage image r c
  known_is : known_in w ≡ known_by (C image r c)
  opened_is : w.medium.opened ≡ Some (C image r c)
  shape_is : IsShapeOf (Some (C image r c)) w.shape
  goods : (s : ℕ) → s < N image → is_open_in w s ≡ false → good_block w s ≡ sector image s

-- each sector that is good in the end is the original's
good-original : (image file : List ℕ) (r : ℕ) (c : Opened) (w : Whole) (s : ℕ) → BeginsSound image file r c w → s < c.fields.sectors → is_open_in w s ≡ false → good_block w s ≡ sector image s
unfolding asking_in
good-original image file r c w s begins below closed =
    let known : known_in w ≡ known_by c = ap (λ (f : Found). f.known) begins.medium_is in
    let inside : s < (known_in w).sectors = subst (λ (k : Known). s < k.sectors) (sym known) below in
    ⊎_elim
    (λ lacks.
    let was = good_was_read w s inside lacks closed in
    read_good w s was.0 lacks was.1
    ∙ asked-original image (terms_in w) (start_in w) s (asking_in w s) was.0 inside (subst (λ (k : Known). All (GivesOriginal image k) w.views) (sym known) begins.given) refl was.1)
    (λ there.
    kept_good w s there
    ∙ ap (λ (k : Known). block_in k w.image s) known
    ∙ begins.has s below (ap (λ (k : Known). is_erased k w.image s) (sym known) ∙ there))
    (cases_Bool (is_lacking w s))

sound-by : (image file : List ℕ) (r : ℕ) (c : Opened) (w : Whole) → BeginsSound image file r c w → IsSoundBy image r c w
sound-by image file r c w begins =
    let of = protects_says file image r c begins.protects in
    let e : c ≡ C image r c = is_of_image image r c of in
    record {
      proper = begins.protects.proper;
      of = of;
      known_is = ap (λ (f : Found). f.known) begins.medium_is ∙ ap known_by e;
      opened_is = ap (λ (f : Found). f.opened) begins.medium_is ∙ ap Some e;
      shape_is = subst (λ (d : Opened). IsShapeOf (Some d) w.shape) e begins.shape_is;
      goods = λ s below closed. good-original image file r c w s begins (subst (λ (d : Opened). s < d.fields.sectors) (sym e) below) closed;
    }

-- there is a state for each sector at the end
all-states : (w : Whole) → length (end_in w).states ≡ (known_in w).sectors
unfolding end_in
all-states w =
    (ends-all (terms_in w) (start_in w)).all
    ∙ length_start w.shape (good_flags w)
    ∙ length-map (range_with_len 0 (known_in w).sectors) (λ s. not (is_lacking w s))
    ∙ length-range_with_len 0 (known_in w).sectors

-- the answer to a layer that is settled
settled-value : (image : List ℕ) (r : ℕ) (c : Opened) (w : Whole) (l : ℕ) → IsSoundBy image r c w → l < layers_of (N image) r → is_within w.shape l (end_in w).states ≡ true
    → value_in w l ≡ Some (Restored (placed (λ p. get_or (layer image r l) p []) (erased_places (flags_at (C image r c).fields (is_open_in w) l))))
unfolding value_in
settled-value image r c w l is low within =
    let d = C image r c in
    let long : length (end_in w).states ≡ N image = all-states w ∙ ap (λ (k : Known). k.sectors) is.known_is in
    ap (λ (o : Option Opened). option_and_then (λ x. value_by w x l) o) is.opened_is
    ∙ ap (λ (b : Bool). cond b (Some (answer_of d (good_block w) (is_open_in w) l)) None) within
    ∙ ap Some (within_answer image r c (good_block w) (is_open_in w) l is.proper is.of is.goods low (few-within d w.shape (end_in w).states l is.shape_is long within))

-- and to one that isn't
beyond-value : (image : List ℕ) (r : ℕ) (c : Opened) (w : Whole) (l : ℕ) → IsSoundBy image r c w → is_within w.shape l (end_in w).states ≡ false → value_in w l ≡ None
unfolding value_in
beyond-value image r c w l is beyond =
    ap (λ (o : Option Opened). option_and_then (λ x. value_by w x l) o) is.opened_is
    ∙ ap (λ (b : Bool). cond b (Some (answer_of (C image r c) (good_block w) (is_open_in w) l)) None) beyond

-- the restored block of a sector that isn't good

layer-below : (image : List ℕ) (r s : ℕ) → IsProtected image r → layer_of (N image) r s < layers_of (N image) r
layer-below image r s is = mod-lt s (some_layer (N image) r (shape_of image r is))

restored-original : (image : List ℕ) (r : ℕ) (c : Opened) (w : Whole) (s : ℕ) → IsSoundBy image r c w → s < N image → is_settled w s ≡ true → is_open_in w s ≡ true
    → restored_block w s ≡ Some (sector image s)
restored-original image r c w s is below settles opened =
    let d = C image r c in
    let shape = shape_of image r is.proper in
    let l = layer_of (N image) r s in
    let p = place_of (N image) r s in
    let flags = flags_at d.fields (is_open_in w) l in
    let flag = flag_of_sector d.fields (is_open_in w) s shape below in
    let inside = (each_sector_has_a_place (N image) r s shape below).1 in
    let number : number_at (N image) r l p ≡ s = place_determines_sector (N image) r s shape in
    let within : is_within w.shape l (end_in w).states ≡ true = sym (lies-in d w.shape (end_in w).states s is.shape_is) ∙ settles in
    let among = flagged_erased flags p (flag ∙ opened) in
    let block : get_or (layer image r l) p [] ≡ sector image s =
    get_or-layer image r l p inside
    ∙ block_at-sector image r l p (let n = number in omega (arith, n, below))
    ∙ ap (sector image) number in
    restored_is w d l s _ (get_or (layer image r l) p []) is.opened_is (settled-value image r c w l is (layer-below image r s is.proper) within) refl
    (placed_has (λ q. get_or (layer image r l) q []) (erased_places flags) p among.0 among.1 among.2)
    ∙ ap Some block

unrestored : (image : List ℕ) (r : ℕ) (c : Opened) (w : Whole) (s : ℕ) → IsSoundBy image r c w → is_settled w s ≡ false → restored_block w s ≡ None
unfolding restored_block
unrestored image r c w s is beyond =
    let d = C image r c in
    let l = layer_of (N image) r s in
    let value = beyond-value image r c w l is (sym (lies-in d w.shape (end_in w).states s is.shape_is) ∙ beyond) in
    ap (λ (o : Option Opened). option_and_then (λ x. block_by w x s) o) is.opened_is
    ∙ ap (λ (o : Option LayerOut). option_and_then (λ a. restored_at a (place_of (N image) r s)) o) value

left-good : (image : List ℕ) (r : ℕ) (c : Opened) (w : Whole) (s : ℕ) → IsSoundBy image r c w → s < N image → is_open_in w s ≡ false → block_left w s ≡ sector image s
left-good image r c w s is below closed = closed_left w s closed ∙ is.goods s below closed

left-settled : (image : List ℕ) (r : ℕ) (c : Opened) (w : Whole) (s : ℕ) → IsSoundBy image r c w → s < N image → is_settled w s ≡ true → block_left w s ≡ sector image s
left-settled image r c w s is below settles = ⊎_elim
    (λ opened. restored_left w s (sector image s) opened (restored-original image r c w s is below settles opened))
    (λ closed. left-good image r c w s is below closed)
    (cases_Bool (is_open_in w s))

-- the bytes of a sector whose block is the original's

sized-of : (image : List ℕ) (r : ℕ) (c : Opened) → IsProtected image r → Sized (known_by (C image r c))
sized-of image r c is =
    let some = is.some_bytes in
    record { some = omega arith; some_last = omega arith; fits = omega arith }

own-bytes : (image : List ℕ) (r s n : ℕ) → s < N image → n ≤ 2048 → 2048 * s + n ≤ length image → take n (sector image s) ≡ part image (2048 * s) n
own-bytes image r s n below few fits =
    let one : length (take n (sector image s)) ≡ n = length-take-le n (sector image s) (omega (arith, few, length-sector image s)) in
    let other : length (part image (2048 * s) n) ≡ n = omega (arith, length-take n (drop (2048 * s) image), length-drop (2048 * s) image, fits) in
    same_number_lists (take n (sector image s)) (part image (2048 * s) n) (one ∙ sym other)
    (λ j inside.
    let low : j < n = omega (arith, one, inside) in
    get_or-take n (sector image s) j 0 low
    ∙ get_or-sector image s j below (omega (arith, low, few))
    ∙ sym (get_or-take n (drop (2048 * s) image) j 0 low ∙ get_or-drop (2048 * s) image j 0))

sector-of : (image : List ℕ) (r : ℕ) (c : Opened) (w : Whole) (s : ℕ) → IsSoundBy image r c w → s < N image → block_left w s ≡ sector image s → IsSectorOf image (C image r c) (image_left w) s
sector-of image r c w s is below block =
    let k = known_by (C image r c) in
    let sized : Sized k = sized-of image r c is.proper in
    let n = width k s in
    let some = is.proper.some_bytes in
    let whole : 2048 * (N image - 1) + last_of (length image) ≡ length image = omega arith in
    let more = place_more k s sized below in
    let at = known_place k s sized below in
    let ends : 2048 * s + n ≤ length image = omega (arith, more, at, whole) in
    let widths : width (known_in w) s ≡ n = ap (λ (x : Known). width x s) is.known_is in
    ap (part (image_left w) (2048 * s)) (sym widths)
    ∙ left-part w s (subst Sized (sym is.known_is) sized) (fills_of w (subst Sized (sym is.known_is) sized)) (subst (λ (x : Known). s < x.sectors) (sym is.known_is) below)
    ∙ (λ i. take (widths i) (block i))
    ∙ own-bytes image r s n below (width_le k s sized) ends

-- what is told

restored-where : (image : List ℕ) (r : ℕ) (c : Opened) (w : Whole) (s : ℕ) → IsSoundBy image r c w → s < N image → is_restored_in w s ≡ (is_open_in w s && is_settled w s)
restored-where image r c w s is below = ⊎_elim
    (λ opened. ⊎_elim
    (λ settles. ap (λ (o : Option (List ℕ)). is_open_in w s && is_some o) (restored-original image r c w s is below settles opened) ∙ ap (λ (b : Bool). is_open_in w s && b) (sym settles))
    (λ beyond. ap (λ (o : Option (List ℕ)). is_open_in w s && is_some o) (unrestored image r c w s is beyond) ∙ ap (λ (b : Bool). is_open_in w s && b) (sym beyond))
    (cases_Bool (is_settled w s)))
    (λ closed. ap (λ (b : Bool). b && is_some (restored_block w s)) closed ∙ ap (λ (b : Bool). b && is_settled w s) (sym closed))
    (cases_Bool (is_open_in w s))

lost-where : (image : List ℕ) (r : ℕ) (c : Opened) (w : Whole) (s : ℕ) → IsSoundBy image r c w → s < N image → is_lost_in w s ≡ (is_open_in w s && not (is_settled w s))
lost-where image r c w s is below = ⊎_elim
    (λ opened. ⊎_elim
    (λ settles. ap (λ (o : Option (List ℕ)). is_open_in w s && is_none o) (restored-original image r c w s is below settles opened) ∙ ap (λ (b : Bool). is_open_in w s && not b) (sym settles))
    (λ beyond. ap (λ (o : Option (List ℕ)). is_open_in w s && is_none o) (unrestored image r c w s is beyond) ∙ ap (λ (b : Bool). is_open_in w s && not b) (sym beyond))
    (cases_Bool (is_settled w s)))
    (λ closed. ap (λ (b : Bool). b && is_none (restored_block w s)) closed ∙ ap (λ (b : Bool). b && not (is_settled w s)) (sym closed))
    (cases_Bool (is_open_in w s))

kept-where : (f g : ℕ → Bool) (n : ℕ) → ((s : ℕ) → s < n → f s ≡ g s) → filter f (range_with_len 0 n) ≡ filter g (range_with_len 0 n)
kept-where f g n same = same_kept f g 0 n (λ s low. same (0 + s) (omega (arith, low)))

-- no piece is left of pieces that are all empty
all-empty : (f : ℕ → List Strange) (a n : ℕ) → ((j : ℕ) → j < n → f (a + j) ≡ []) → flat_map f (range_with_len a n) ≡ []
all-empty f a zero empty = refl
all-empty f a (suc n) empty =
    let here : f a ≡ [] = ap f (let e : a ≡ a + 0 = omega arith in e) ∙ empty 0 (omega arith) in
    let rest = all-empty f (a + 1) n (λ j l.
    let place : a + 1 + j ≡ a + suc j = omega arith in
    ap f place ∙ empty (suc j) (omega arith)) in
    λ i. here i ++ rest i

strange-none : (image : List ℕ) (r : ℕ) (c : Opened) (w : Whole) → IsSoundBy image r c w → strange_layers w ≡ []
strange-none image r c w is =
    let d = C image r c in
    let one = λ (l : ℕ). option_map_or (strange_in d.fields l) (value_in w l) [] in
    ap (λ (o : Option Opened). option_map_or (strange_by w) o []) is.opened_is
    ∙ all-empty one 0 (layers_of (N image) r) (λ l low. ⊎_elim
    (λ within. ap (λ (o : Option LayerOut). option_map_or (strange_in d.fields (0 + l)) o []) (settled-value image r c w (0 + l) is (omega (arith, low)) within))
    (λ beyond. ap (λ (o : Option LayerOut). option_map_or (strange_in d.fields (0 + l)) o []) (beyond-value image r c w (0 + l) is beyond))
    (cases_Bool (is_within w.shape (0 + l) (end_in w).states)))

by-sound : (image : List ℕ) (r : ℕ) (c : Opened) (w : Whole) (asked : ℕ) → IsSoundBy image r c w → ComesBack image (C image r c) w (image_left w) (report_of w asked)
unfolding report_of
by-sound image r c w asked is =
    let sectors : (known_in w).sectors ≡ N image = ap (λ (k : Known). k.sectors) is.known_is in
    record {
      settled = λ s below settles. sector-of image r c w s is below (left-settled image r c w s is below settles);
      good = λ s below closed. sector-of image r c w s is below (left-good image r c w s is below closed);
      restored =
          ap (λ (n : ℕ). filter (is_restored_in w) (range_with_len 0 n)) sectors
          ∙ kept-where (is_restored_in w) (λ s. is_open_in w s && is_settled w s) (N image) (λ s below. restored-where image r c w s is below);
      lost =
          ap (λ (n : ℕ). filter (is_lost_in w) (range_with_len 0 n)) sectors
          ∙ kept-where (is_lost_in w) (λ s. is_open_in w s && not (is_settled w s)) (N image) (λ s below. lost-where image r c w s is below);
      strange = strange-none image r c w is;
    }

pub settled-come-back : SettledComeBack
settled-come-back image file r c w asked begins =
    let is = sound-by image file r c w begins in
    subst (λ (d : Opened). ComesBack image d w (image_left w) (report_of w asked)) (sym (is_of_image image r c is.of)) (by-sound image r c w asked is)
