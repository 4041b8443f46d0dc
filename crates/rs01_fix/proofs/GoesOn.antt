-- A repair that was interrupted goes on from what it left.
use Rattle.std.proofs.Common.{◌≡◌, ℕ, ◌+◌, ◌*◌, ◌<◌, ◌≤◌, List, length, take, drop, get_or, refl, sym, ap, subst, ◌∙◌, arith, Bool, false, ⊎_elim}
use Rattle.std.specs.Prelude.{not, ◌&&◌, ◌||◌, Some, Ok, Result, IsOkAnd}
use Rattle.std.proofs.lemmas.Bool.{cases_Bool, cases_lt, false≢true, le-ltb, lt-ltb}
use Rattle.std.proofs.lemmas.List.{get_or-take, get_or-drop, length-take, length-drop}
use Rattle.std.proofs.lemmas.Grind.{same_number_lists}
use Rattle.rs01_layers.specs.Sectors.{block, length_of}
use Rattle.rs01_layers.specs.Layout.{layer_of}
use Rattle.rs01_layers.proofs.BlockLemmas.{get_or-block}
use Rattle.rs01_lists.specs.Bytes.{padded}
use Rattle.rs01_sums.specs.Usable.{is_usable}
use Rattle.rs01_ecchead.specs.Erased.{Known, block_in, image_len, is_absent, is_erased, known_by}
use Rattle.rs01_ecchead.specs.Opened.{Opened}
use Rattle.rs01_repair.specs.Inputs.{layer_answer}
use Rattle.rs01_repair.specs.Intact.{Protects, gone_in, is_beyond, is_gone}
use Rattle.rs01_repair.specs.Restored.{is_restored}
use Rattle.rs01_repair.proofs.CorrectLemmas.{answer_has_blocks}
use Rattle.rs01_repair.proofs.Counts.{erased_less}
use Rattle.rs01_repair.proofs.FoundLemmas.{present, reaches}
use Rattle.rs01_repair.proofs.Intact.{is_of_image, protects_says}
use Rattle.rs01_fix.specs.Answer.{MayStand, Repaired, fix_answer, repaired}
use Rattle.rs01_fix.specs.Between.{IsBetween}
use Rattle.rs01_fix.specs.ComesBack.{RepairGoesOn, SectorsComeBack}
use Rattle.rs01_fix.specs.Repair.{after_by, fixed}
use Rattle.rs01_fix.specs.declared.refusal.FixRefusal.{FixRefusal}
use Rattle.rs01_fix.proofs.ComesBack.{is_image, repaired_comes_back}
use Rattle.rs01_fix.proofs.FileLemmas.{by_both}
use Rattle.rs01_fix.proofs.FixedLemmas.{IsImage, after-same, fixed_is, mended_is, not_mended, sizes_of}
use Rattle.rs01_fix.proofs.ProgressLemmas.{ends_within}

-- a file that goes on to a sector's end has it
there_still : (known : Known) (z : List ℕ) (s : ℕ) → 2048 * s + length_of known.sectors known.last_bytes s ≤ length z → is_absent known z s ≡ false
there_still known z s h = le-ltb (length z) (2048 * s + length_of known.sectors known.last_bytes s) h

pub same_block : (known : Known) (y z : List ℕ) (s : ℕ) → 2048 * s + length_of known.sectors known.last_bytes s ≤ length y
    → 2048 * s + length_of known.sectors known.last_bytes s ≤ length z
    → ((j : ℕ) → j < length_of known.sectors known.last_bytes s → get_or z (2048 * s + j) 0 ≡ get_or y (2048 * s + j) 0)
    → block_in known z s ≡ block_in known y s
unfolding block
same_block known y z s long also same =
    let size = length_of known.sectors known.last_bytes s in
    let one : length (take size (drop (2048 * s) z)) ≡ size = omega (arith, length-take size (drop (2048 * s) z), length-drop (2048 * s) z, also) in
    let other : length (take size (drop (2048 * s) y)) ≡ size = omega (arith, length-take size (drop (2048 * s) y), length-drop (2048 * s) y, long) in
    ap (padded 2048)
    (same_number_lists (take size (drop (2048 * s) z)) (take size (drop (2048 * s) y)) (one ∙ sym other)
    (λ j inside.
    let low : j < size = omega (arith, one, inside) in
    get_or-take size (drop (2048 * s) z) j 0 low ∙ get_or-drop (2048 * s) z j 0 ∙ same j low
    ∙ sym (get_or-take size (drop (2048 * s) y) j 0 low ∙ get_or-drop (2048 * s) y j 0)))

-- a sector that isn't erased stays as it is on the way
stays : (c : Opened) (y z : List ℕ) (cut : Bool) → IsImage c → IsBetween y (fixed c y cut) z
    → (s : ℕ) → s < c.fields.sectors → is_gone c y s ≡ false → is_gone c z s ≡ false
unfolding is_erased
stays c y z cut proper way s below there =
    let known = known_by c in
    let answers = layer_answer c y in
    let blocks = λ (l : ℕ). answer_has_blocks c (block_in known y) (is_gone c y) l in
    let file = fixed c y cut in
    let size = length_of c.fields.sectors c.fields.last_bytes s in
    let fixed_file = fixed_is c y answers cut proper blocks in
    let ends = ends_within c.fields.sectors (image_len known) (length_of c.fields.sectors c.fields.last_bytes) (sizes_of c proper) s below in
    let here = present known y s there in
    let long = reaches known y s here in
    let low = way.not_shorter in
    let whole = fixed_file.long in
    let also : 2048 * s + size ≤ length z = omega arith in
    let untouched : after_by c y answers s ≡ block_in known y s =
    after-same c y answers s
    (not_mended c answers s (mended_is c y answers s proper.shape blocks below ∙ ap (λ b. b && is_restored (answers (layer_of c.fields.sectors c.fields.parity s))) there)) here in
    let bytes : (j : ℕ) → j < size → get_or z (2048 * s + j) 0 ≡ get_or y (2048 * s + j) 0 = λ j inside.
    ⊎_elim
    (λ old. old)
    (λ new. new.1 ∙ fixed_file.bytes s j below inside ∙ ap (λ xs. get_or xs j 0) untouched ∙ get_or-block y s size j inside)
    (way.below (2048 * s + j) (omega arith) (omega arith)) in
    (λ i. (there_still known z s also ∙ sym here) i || not (is_usable known.sums s (same_block known y z s long also bytes i)))
    ∙ there

-- so a layer that wasn't beyond isn't
within_still : (c : Opened) (y z : List ℕ) (cut : Bool) → IsImage c → IsBetween y (fixed c y cut) z → (s : ℕ) → is_beyond c y s ≡ false → is_beyond c z s ≡ false
within_still c y z cut proper way s e =
    let n = c.fields.sectors in
    let r = c.fields.parity in
    let l = layer_of n r s in
    let few : gone_in c y l ≤ r = ⊎_elim (λ many. absurd (false≢true (sym e ∙ lt-ltb r (gone_in c y l) many))) (λ h. h) (cases_lt r (gone_in c y l)) in
    let less = erased_less n r l (is_gone c y) (is_gone c z) (λ t low erased.
    ⊎_elim (λ h. h) (λ there. absurd (false≢true (sym (stays c y z cut proper way t low there) ∙ erased))) (cases_Bool (is_gone c y t))) in
    le-ltb r (gone_in c z l) (omega (arith, few, less))

of_image : (image file : List ℕ) (r : ℕ) (c : Opened) → Protects file image r c → IsImage c
of_image image file r c is = subst IsImage (sym (is_of_image image r c (protects_says file image r c is))) (is_image image r c is.proper)

way_of : (c : Opened) (y z : List ℕ) (cut : Bool) (a : Result Repaired FixRefusal) → a ≡ Ok (repaired c y cut) → MayStand a (Some y) (Some z) → IsBetween y (fixed c y cut) z
unfolding repaired
way_of c y z cut a e stands = subst (λ (a : Result Repaired FixRefusal). MayStand a (Some y) (Some z)) e stands

pub repair_goes_on : RepairGoesOn
repair_goes_on image file y z r c cut again is others also stands =
    let way = way_of c y z cut (fix_answer (Some file) (Some y) cut) (by_both (Some file) (Some y) cut c y is.says refl) stands in
    let back = repaired_comes_back image file z r c again is also in
    subst (λ (a : Result Repaired FixRefusal). IsOkAnd a (SectorsComeBack image c y)) (sym (by_both (Some file) (Some z) again c z is.says refl))
    (λ s below e. back.sectors s below (within_still c y z cut (of_image image file r c is) way s e))
