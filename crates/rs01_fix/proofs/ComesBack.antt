-- An image comes back where its error correction file is intact.
use Rattle.std.proofs.Common.{◌≡◌, ℕ, zero, suc, ◌+◌, ◌-◌, ◌*◌, ◌<◌, ◌≤◌, List, [], ◌++◌, length, drop, get_or, refl, sym, ap, subst, ◌∙◌, arith, Bool, true, false, ⊎_elim, mod-lt}
use Rattle.std.specs.Prelude.{nat_lt, not, ◌&&◌, Option, Some, Result, Ok, Err, IsOkAnd, IsSomeAnd}
use Rattle.std.specs.List.{flat_map, range_with_len}
use Rattle.std.proofs.lemmas.Bool.{cases_Bool, cases_lt, false≢true, le-ltb, lt-ltb}
use Rattle.std.proofs.lemmas.List.{get_or-take, get_or-drop, length-take, length-drop}
use Rattle.std.proofs.lemmas.Grind.{same_number_lists}
use Rattle.rs01_layers.specs.Sectors.{last_of, length_of, sector}
use Rattle.rs01_layers.specs.Layout.{layer_of, layers_of, number_at, place_of}
use Rattle.rs01_layers.specs.Layer.{layer}
use Rattle.rs01_layers.specs.declared.task.LayerOut.{LayerOut}
use Rattle.rs01_layers.proofs.BlockLemmas.{block_at-sector, get_or-layer, get_or-sector}
use Rattle.rs01_layers.proofs.PlaceLemmas.{each_sector_has_a_place, place_determines_sector, some_layer}
use Rattle.rs01_ecchead.specs.Erased.{known_by}
use Rattle.rs01_ecchead.specs.Opened.{Opened}
use Rattle.rs01_ecchead.specs.ReadAgain.{IsOfImage}
use Rattle.rs01_lists.specs.Bytes.{part}
use Rattle.rs01_outside.specs.Files.{Files}
use Rattle.rs01_report.specs.declared.reports.FixReport.{FixReport}
use Rattle.rs01_report.specs.declared.reports.Strange.{Strange}
use Rattle.rs01_erase.specs.LayerValue.{erased_places}
use Rattle.rs01_erase.proofs.ErasedPlaces.{flagged_erased}
use Rattle.rs01_repair.specs.Inputs.{flags_at, layer_answer}
use Rattle.rs01_repair.specs.Intact.{HasTheOthers, IsProtected, Protects, gone_in, is_beyond, is_gone}
use Rattle.rs01_repair.specs.Restored.{is_restored, restored_at}
use Rattle.rs01_repair.proofs.CorrectLemmas.{answer_has_blocks, placed_has}
use Rattle.rs01_repair.proofs.Counts.{same_kept}
use Rattle.rs01_repair.proofs.FoundLemmas.{present}
use Rattle.rs01_repair.proofs.InputLemmas.{flag_of_sector}
use Rattle.rs01_repair.proofs.Intact.{C, N, beyond_answer, is_of_image, protects_says, shape_of, within_answer}
use Rattle.rs01_fix.specs.declared.refusal.FixRefusal.{FixRefusal}
use Rattle.rs01_fix.specs.Answer.{Repaired, fix_answer, repaired}
use Rattle.rs01_fix.specs.ComesBack.{ComesBack, ImagesComeBack, IsSectorOf}
use Rattle.rs01_fix.specs.Outcome.{Repairs}
use Rattle.rs01_fix.specs.Repair.{HaveBlocks, after_by, fixed, is_lost, is_mended, lost_by, report_by, restored_by, strange_by, strange_in}
use Rattle.rs01_fix.proofs.FileLemmas.{by_both}
use Rattle.rs01_fix.proofs.FixedLemmas.{IsImage, after-same, after-some, fixed_is, mended_is, not_mended, sizes_of}
use Rattle.rs01_fix.proofs.ProgressLemmas.{ends_within}

pub is_image : (image : List ℕ) (r : ℕ) (c : Opened) → IsProtected image r → IsImage (C image r c)
is_image image r c is =
    let some = is.some_bytes in
    record { shape = shape_of image r is; some_last = omega arith; last_fits = omega arith }

-- the answer to each layer
abbrev answers : List ℕ → ℕ → Opened → List ℕ → ℕ → LayerOut
answers image r c y = layer_answer (C image r c) y

pub blocks_of : (image : List ℕ) (r : ℕ) (c : Opened) (y : List ℕ) → HaveBlocks (C image r c) y (answers image r c y)
blocks_of image r c y l = answer_has_blocks (C image r c) _ _ l

-- a layer is restored exactly where it isn't beyond
restored_or_not : (image : List ℕ) (r : ℕ) (c : Opened) (y : List ℕ) (l : ℕ) → IsProtected image r → IsOfImage image r c → HasTheOthers image (C image r c) y
    → l < layers_of (N image) r → is_restored (answers image r c y l) ≡ not (nat_lt r (gone_in (C image r c) y l))
restored_or_not image r c y l is of others low =
    let count = gone_in (C image r c) y l in
    ⊎_elim
    (λ many. ap is_restored (beyond_answer image r c _ (is_gone (C image r c) y) l is low many) ∙ sym (ap not (lt-ltb r count many)))
    (λ few. ap is_restored (within_answer image r c _ (is_gone (C image r c) y) l is of others low few) ∙ sym (ap not (le-ltb r count few)))
    (cases_lt r count)

nothing_strange : (image : List ℕ) (r : ℕ) (c : Opened) (y : List ℕ) (l : ℕ) → IsProtected image r → IsOfImage image r c → HasTheOthers image (C image r c) y
    → l < layers_of (N image) r → strange_in (C image r c).fields l (answers image r c y l) ≡ []
nothing_strange image r c y l is of others low =
    ⊎_elim
    (λ many. ap (strange_in (C image r c).fields l) (beyond_answer image r c _ (is_gone (C image r c) y) l is low many))
    (λ few. ap (strange_in (C image r c).fields l) (within_answer image r c _ (is_gone (C image r c) y) l is of others low few))
    (cases_lt r (gone_in (C image r c) y l))

layer_below : (image : List ℕ) (r s : ℕ) → IsProtected image r → layer_of (N image) r s < layers_of (N image) r
layer_below image r s is = mod-lt s (some_layer (N image) r (shape_of image r is))

pub mended_where : (image : List ℕ) (r : ℕ) (c : Opened) (y : List ℕ) (s : ℕ) → IsProtected image r → IsOfImage image r c → HasTheOthers image (C image r c) y → s < N image
    → is_mended (C image r c) (answers image r c y) s ≡ is_gone (C image r c) y s && not (is_beyond (C image r c) y s)
mended_where image r c y s is of others below =
    mended_is (C image r c) y (answers image r c y) s (shape_of image r is) (blocks_of image r c y) below
    ∙ ap (λ b. is_gone (C image r c) y s && b) (restored_or_not image r c y (layer_of (N image) r s) is of others (layer_below image r s is))

and_not_both : (e b : Bool) → e && not (e && not b) ≡ e && b
and_not_both true true = refl
and_not_both true false = refl
and_not_both false b = refl

lost_where : (image : List ℕ) (r : ℕ) (c : Opened) (y : List ℕ) (s : ℕ) → IsProtected image r → IsOfImage image r c → HasTheOthers image (C image r c) y → s < N image
    → is_lost (C image r c) y (answers image r c y) s ≡ is_gone (C image r c) y s && is_beyond (C image r c) y s
unfolding is_lost
lost_where image r c y s is of others below =
    ap (λ b. is_gone (C image r c) y s && not b) (mended_where image r c y s is of others below)
    ∙ and_not_both (is_gone (C image r c) y s) (is_beyond (C image r c) y s)

-- no piece is left of pieces that are all empty
all_empty : (f : ℕ → List Strange) (a n : ℕ) → ((j : ℕ) → j < n → f (a + j) ≡ []) → flat_map f (range_with_len a n) ≡ []
all_empty f a zero empty = refl
all_empty f a (suc n) empty =
    let here : f a ≡ [] = ap f (let e : a ≡ a + 0 = omega arith in e) ∙ empty 0 (omega arith) in
    let rest = all_empty f (a + 1) n (λ j l.
    let place : a + 1 + j ≡ a + suc j = omega arith in
    ap f place ∙ empty (suc j) (omega arith)) in
    λ i. here i ++ rest i

strange_none : (image : List ℕ) (r : ℕ) (c : Opened) (y : List ℕ) → IsProtected image r → IsOfImage image r c → HasTheOthers image (C image r c) y
    → strange_by (C image r c) (answers image r c y) ≡ []
unfolding strange_by
strange_none image r c y is of others =
    all_empty (λ l. strange_in (C image r c).fields l (answers image r c y l)) 0 (layers_of (N image) r)
    (λ l low. nothing_strange image r c y (0 + l) is of others (omega (arith, low)))

-- the block of a sector whose layer isn't beyond
after_is : (image : List ℕ) (r : ℕ) (c : Opened) (y : List ℕ) (s : ℕ) → IsProtected image r → IsOfImage image r c → HasTheOthers image (C image r c) y → s < N image
    → gone_in (C image r c) y (layer_of (N image) r s) ≤ r → after_by (C image r c) y (answers image r c y) s ≡ sector image s
after_is image r c y s is of others below few =
    let d = C image r c in
    let shape = shape_of image r is in
    let l = layer_of (N image) r s in
    let p = place_of (N image) r s in
    let flags = flags_at d.fields (is_gone d y) l in
    let flag = flag_of_sector d.fields (is_gone d y) s shape below in
    let inside = (each_sector_has_a_place (N image) r s shape below).1 in
    let number : number_at (N image) r l p ≡ s = place_determines_sector (N image) r s shape in
    ⊎_elim
    (λ erased.
    let among = flagged_erased flags p (flag ∙ erased) in
    after-some d y (answers image r c y) s (get_or (layer image r l) p [])
    (ap (λ (a : LayerOut). restored_at a p) (within_answer image r c _ (is_gone d y) l is of others (layer_below image r s is) few)
    ∙ placed_has (λ q. get_or (layer image r l) q []) (erased_places flags) p among.0 among.1 among.2)
    ∙ get_or-layer image r l p inside
    ∙ block_at-sector image r l p (let n = number in omega (arith, n, below))
    ∙ ap (sector image) number)
    (λ there.
    after-same d y (answers image r c y) s
    (not_mended d (answers image r c y) s (mended_where image r c y s is of others below ∙ ap (λ b. b && not (is_beyond d y s)) there))
    (present (known_by d) y s there)
    ∙ others s below there)
    (cases_Bool (is_gone d y s))

-- its bytes in the fixed file
sector_is : (image : List ℕ) (r : ℕ) (c : Opened) (y : List ℕ) (s : ℕ) (cut : Bool) → IsProtected image r → IsOfImage image r c → HasTheOthers image (C image r c) y
    → s < N image → is_beyond (C image r c) y s ≡ false → IsSectorOf image (C image r c) (fixed (C image r c) y cut) s
sector_is image r c y s cut is of others below within =
    let d = C image r c in
    let proper = is_image image r c is in
    let file = fixed d y cut in
    let size = length_of (N image) (last_of (length image)) s in
    let fixed_file = fixed_is d y (answers image r c y) cut proper (blocks_of image r c y) in
    let sizes = sizes_of d proper in
    let ends = ends_within (N image) (2048 * (N image - 1) + last_of (length image)) (length_of (N image) (last_of (length image))) sizes s below in
    let some = is.some_bytes in
    let whole : 2048 * (N image - 1) + last_of (length image) ≡ length image = omega arith in
    let long = fixed_file.long in
    let fits = sizes.fits s in
    let count = gone_in d y (layer_of (N image) r s) in
    let few : count ≤ r = ⊎_elim (λ many. absurd (false≢true (sym within ∙ lt-ltb r count many))) (λ h. h) (cases_lt r count) in
    let one : length (part file (2048 * s) size) ≡ size = omega (arith, length-take size (drop (2048 * s) file), length-drop (2048 * s) file, long, ends) in
    let other : length (part image (2048 * s) size) ≡ size = omega (arith, length-take size (drop (2048 * s) image), length-drop (2048 * s) image, whole, ends) in
    same_number_lists (part file (2048 * s) size) (part image (2048 * s) size) (one ∙ sym other)
    (λ j inside.
    let low : j < size = omega (arith, one, inside) in
    get_or-take size (drop (2048 * s) file) j 0 low ∙ get_or-drop (2048 * s) file j 0
    ∙ fixed_file.bytes s j below low
    ∙ ap (λ xs. get_or xs j 0) (after_is image r c y s is of others below few)
    ∙ get_or-sector image s j below (omega (arith, low, fits))
    ∙ sym (get_or-take size (drop (2048 * s) image) j 0 low ∙ get_or-drop (2048 * s) image j 0))

pub comes_back : (image : List ℕ) (r : ℕ) (c : Opened) (y : List ℕ) (cut : Bool) → IsProtected image r → IsOfImage image r c → HasTheOthers image (C image r c) y
    → ComesBack image (C image r c) y (repaired (C image r c) y cut)
unfolding repaired report_by restored_by lost_by
comes_back image r c y cut is of others = record {
  sectors = λ s below within. sector_is image r c y s cut is of others below within;
  restored = same_kept (is_mended (C image r c) (answers image r c y)) (λ s. is_gone (C image r c) y s && not (is_beyond (C image r c) y s)) 0 (N image)
      (λ s below. mended_where image r c y (0 + s) is of others (omega (arith, below)));
  lost = same_kept (is_lost (C image r c) y (answers image r c y)) (λ s. is_gone (C image r c) y s && is_beyond (C image r c) y s) 0 (N image)
      (λ s below. lost_where image r c y (0 + s) is of others (omega (arith, below)));
  strange = strange_none image r c y is of others;
}

-- the repaired image comes back
pub repaired_comes_back : (image file y : List ℕ) (r : ℕ) (c : Opened) (cut : Bool) → Protects file image r c → HasTheOthers image c y → ComesBack image c y (repaired c y cut)
repaired_comes_back image file y r c cut is others =
    let of = protects_says file image r c is in
    let e : c ≡ C image r c = is_of_image image r c of in
    subst (λ (d : Opened). ComesBack image d y (repaired d y cut)) (sym e)
    (comes_back image r c y cut is.proper of (subst (λ (d : Opened). HasTheOthers image d y) e others))

pub images_come_back : ImagesComeBack
images_come_back image file y r c cut is others =
    subst (λ (a : Result Repaired FixRefusal). IsOkAnd a (ComesBack image c y)) (sym (by_both (Some file) (Some y) cut c y is.says refl))
    (repaired_comes_back image file y r c cut is others)

-- one answer of which three things hold
joined : (R : Result Repaired FixRefusal) (image original y : List ℕ) (c : Opened) (old new : Files) (told : FixReport)
    → IsOkAnd R (ComesBack original c y) → IsOkAnd R (Repairs image old new told)
    → IsSomeAnd (new image) (λ file. ComesBack original c y (record { file = file; report = told }))
joined (Ok x) image original y c old new told back repairs =
    subst (λ (o : Option (List ℕ)). IsSomeAnd o (λ file. ComesBack original c y (record { file = file; report = told }))) (sym repairs.file.there)
    (subst (λ (report : FixReport). ComesBack original c y (record { file = x.file; report = report })) (sym repairs.report) back)
joined (Err why) image original y c old new told back repairs = absurd back

-- an image that was repaired by an intact error correction file
pub gives_back : (image ecc : List ℕ) (cut : Bool) (old new : Files) (told : FixReport) → IsOkAnd (fix_answer (old ecc) (old image) cut) (Repairs image old new told)
    → (original file y : List ℕ) (r : ℕ) (c : Opened) → old ecc ≡ Some file → old image ≡ Some y → Protects file original r c → HasTheOthers original c y
    → IsSomeAnd (new image) (λ now. ComesBack original c y (record { file = now; report = told }))
gives_back image ecc cut old new told repairs original file y r c e f is others =
    joined (fix_answer (old ecc) (old image) cut) image original y c old new told
    (subst (λ (a : Result Repaired FixRefusal). IsOkAnd a (ComesBack original c y)) (λ i. fix_answer (sym e i) (sym f i) cut) (images_come_back original file y r c cut is others))
    repairs
