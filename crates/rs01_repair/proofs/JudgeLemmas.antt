-- Layers that were judged by their blocks.
use Rattle.std.proofs.Common.{◌≡◌, ℕ, ◌+◌, ◌*◌, ◌<◌, List, ◌++◌, length, take, drop, get_or, sym, ap, ◌∙◌, arith, append-nil, Bool, true, false, ⊎_elim}
use Rattle.std.proofs.Math.Seq.{take-length}
use Rattle.std.proofs.lemmas.Bool.{cases_lt, false≢true}
use Rattle.std.proofs.lemmas.List.{drop_all, get_or_past}
use Rattle.std.proofs.lemmas.List.FromFn.{get_or-map-range_with_len, length-map-range_with_len}
use Rattle.rs01_layers.specs.Sectors.{length_of}
use Rattle.rs01_layers.proofs.BlockLemmas.{length-block}
use Rattle.rs01_lists.proofs.Flats.{flat_at}
use Rattle.rs01_lists.proofs.Ranges.{same_maps}
use Rattle.rs01_ecchead.specs.Erased.{block_in, known_of}
use Rattle.rs01_repair.specs.Finding.{fields_in, is_erased_by, is_erased_now, places_in}
use Rattle.rs01_repair.specs.Inputs.{block_at, flag_at, place_number}
use Rattle.rs01_repair.specs.Parts.{AreJudged, AreRead, AreReadFrom, HasBlocks, HasBlocksOf, HaveBlocks, HaveBlocksOf, IsJudged, IsRead, IsReadFrom, chunk, flag_in, judged}
use Rattle.rs01_repair.specs.declared.found.Found.{Found}
use Rattle.rs01_repair.specs.declared.part.Part.{Part}
use Rattle.rs01_repair.proofs.InputLemmas.{block_at-number, length-block_at, size_fits}
use Rattle.rs01_repair.proofs.PartLemmas.{flag_is_sector, same_flag}

-- a flag that is set is that of a sector
judged_sector : (found : Found) (l q : ℕ) (blocks : List ℕ) → get_or (judged found l blocks) q false ≡ true → place_number (fields_in found) l q < found.ecc.head.sectors
unfolding flag_in
judged_sector found l q blocks e =
    let f = fields_in found in
    ⊎_elim
    (λ low. flag_is_sector f (λ s. is_erased_by (known_of found.ecc) found.size s (chunk blocks q)) l q
    (sym (get_or-map-range_with_len (flag_in found l blocks) 0 (places_in found) q q false low (omega arith)) ∙ e))
    (λ past. absurd (false≢true (sym (get_or_past (judged found l blocks) q false (let t = length-map-range_with_len (flag_in found l blocks) 0 (places_in found) in omega arith)) ∙ e)))
    (cases_lt q (places_in found))

pub judged_read : (found : Found) (l : ℕ) (old new : Part) → HasBlocks found (places_in found) old → IsJudged found l old new → IsRead (fields_in found) l (places_in found) new
judged_read found l old new has is = record {
  blocks = ap length is.blocks ∙ has.blocks;
  erased = ap length is.erased ∙ length-map-range_with_len (flag_in found l old.blocks.items) 0 (places_in found);
  padding = λ q e. judged_sector found l q old.blocks.items (sym (ap (λ (xs : List Bool). get_or xs q false) is.erased) ∙ e);
}

-- the block of a sector among those of its layer
own_block : (found : Found) (file : List ℕ) (l q : ℕ) (blocks : List ℕ) (part : Part) → HasBlocksOf found file l (places_in found) part → blocks ≡ part.blocks.items → q < places_in found
    → place_number (fields_in found) l q < found.ecc.head.sectors → chunk blocks q ≡ block_in (known_of found.ecc) file (place_number (fields_in found) l q)
unfolding chunk
own_block found file l q blocks part has same low below =
    let f = fields_in found in
    let known = known_of found.ecc in
    let block : ℕ → List ℕ = block_in known file in
    let long : (s : ℕ) → length (block s) ≡ 2048 = λ s. length-block file s (length_of known.sectors known.last_bytes s) (size_fits known.sectors known.last_bytes s found.ecc.head.last_fits) in
    ap (λ (xs : List ℕ). take 2048 (drop (2048 * q) xs)) (same ∙ has)
    ∙ flat_at (block_at f block l) 2048 (places_in found) q (λ j _. length-block_at f block l j long) low
    ∙ block_at-number f block l q below

pub judged_from : (found : Found) (file : List ℕ) (l : ℕ) (old new : Part) → HasBlocksOf found file l (places_in found) old → IsJudged found l old new
    → IsReadFrom found file l (places_in found) new
unfolding flag_in
judged_from found file l old new has is =
    let f = fields_in found in
    let known = known_of found.ecc in
    record {
      blocks = is.blocks ∙ has;
      erased = is.erased ∙ same_maps (flag_in found l old.blocks.items) (flag_at f (is_erased_now known found.size file) l) (places_in found)
          (λ q low. same_flag f (λ s. is_erased_by known found.size s (chunk old.blocks.items q)) (is_erased_now known found.size file) l q
          (λ below. ap (is_erased_by known found.size (place_number f l q)) (own_block found file l q old.blocks.items old has (λ i. old.blocks.items) low below)));
    }

-- the same of all layers
pub all_read : (found : Found) (first : ℕ) (old new : List Part) → HaveBlocks found (places_in found) old → AreJudged found first old new → AreRead found first (places_in found) new
all_read found first old new have are = λ j d low.
    let inside : j < length old = omega (arith, low, are.len) in
    judged_read found (first + j) (get_or old j d) (get_or new j d) (have j d inside) (are.each j d inside)

pub all_read_from : (found : Found) (file : List ℕ) (first : ℕ) (old new : List Part) → HaveBlocksOf found file first (places_in found) old → AreJudged found first old new
    → AreReadFrom found file first (places_in found) new
all_read_from found file first old new have are = λ j d low.
    let inside : j < length old = omega (arith, low, are.len) in
    judged_from found file (first + j) (get_or old j d) (get_or new j d) (have j d inside) (are.each j d inside)

-- a list of which all was lent is what it was lent as
pub whole_again : (new old : List Part) (n : ℕ) → length new ≡ length old → n ≡ length new → take n (new ++ drop (length new) old) ≡ new
whole_again new old n same all =
    ap (λ (xs : List Part). take n (new ++ xs)) (drop_all (length new) old (omega (arith, same)))
    ∙ ap (take n) (append-nil new)
    ∙ ap (λ (k : ℕ). take k new) all
    ∙ take-length new
