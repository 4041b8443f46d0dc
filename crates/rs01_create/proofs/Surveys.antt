-- What is kept of an image once one more sector was seen.
use Rattle.std.proofs.Common.{◌≡◌, ℕ, ◌+◌, ◌-◌, ◌*◌, ◌/◌, ◌<◌, ◌≤◌, List, [], ◌∷◌, ◌++◌, length, min, sym, ap, subst, ◌∙◌, arith, Bool, true, add-one, cond, eqb, ⊎_elim}
use Rattle.std.specs.Prelude.{find, Some, None}
use Rattle.std.specs.Int.{to_le_bytes, w32}
use Rattle.std.specs.List.{flat_map, range_with_len}
use Rattle.std.specs.Option.{option_or}
use Rattle.std.specs.Str.{bytes_eq}
use Rattle.std.proofs.lemmas.Bool.{cases_eq, eq-eqb, ne_eqb, le-leb, cond-true, cond-false}
use Rattle.std.proofs.lemmas.List.Folds.{find-append}
use Rattle.md5.specs.Md5.{Holds, md5}
use Rattle.rs01_layers.specs.Extents.{IsExtentOf}
use Rattle.rs01_layers.specs.Sectors.{block, length_of, sector}
use Rattle.rs01_layers.specs.declared.extent.Extent.{Extent}
use Rattle.rs01_lists.proofs.Flats.{flat_more}
use Rattle.rs01_lists.proofs.Ranges.{range_with_len_more}
use Rattle.rs01_sums.specs.Crc.{crc}
use Rattle.rs01_sums.specs.Marker.{marker}
use Rattle.rs01_ecchead.specs.EccFile.{mark_sector_of}
use Rattle.rs01_ecchead.specs.Shown.{IsSector, Shown, shown_in}
use Rattle.rs01_ecchead.proofs.OwnBytes.{bytes_none, reaches}
use Rattle.rs01_create.specs.Surveyed.{IsNoted, Surveyed}
use Rattle.rs01_create.specs.declared.found.Noted.{Noted}
use Rattle.rs01_create.specs.declared.found.Seen.{Seen}

-- the first number that is found, among one more
find_more : (p : ℕ → Bool) (n : ℕ) → find p (range_with_len 0 (n + 1)) ≡ option_or (find p (range_with_len 0 n)) (cond (p n) (Some n) None)
find_more p n =
    ap (λ k. find p (range_with_len 0 k)) (add-one n)
    ∙ ap (find p) (range_with_len_more 0 n ∙ ap (λ k. range_with_len 0 n ++ k ∷ []) (let e : 0 + n ≡ n = omega arith in e))
    ∙ find-append p (range_with_len 0 n) (n ∷ [])

-- how many bytes an image of an extent has
pub extent_len : (image : List ℕ) (extent : Extent) → IsExtentOf image extent → 2048 * (extent.sectors - 1) + extent.last_bytes ≡ length image
extent_len image extent of =
    let some : 1 ≤ extent.sectors = extent.some_sectors in
    let last : 1 ≤ extent.last_bytes = extent.some_last_bytes in
    let n : extent.sectors ≡ (length image + 2047) / 2048 = of.sectors in
    let l : extent.last_bytes ≡ length image - 2048 * (extent.sectors - 1) = of.last ∙ ap (λ k. length image - 2048 * (k - 1)) (sym of.sectors) in
    omega (arith, some, last, n, l)

-- a block that is shown of a sector that is there is the sector
pub shows : (image : List ℕ) (extent : Extent) (shown : Shown) (s len : ℕ) (there : Bool) (b : List ℕ) → IsExtentOf image extent → s < extent.sectors
    → shown ≡ shown_in image extent.sectors extent.last_bytes (length image) → IsSector shown s there len b → b ≡ sector image s
shows image extent shown s len there b of below e is =
    let width = length_of extent.sectors extent.last_bytes s in
    let long : 2048 * (extent.sectors - 1) + extent.last_bytes ≤ length image = omega (arith, extent_len image extent of) in
    let all : 2048 * s + width ≤ length image = reaches s extent.sectors extent.last_bytes (length image) below extent.last_fits long in
    let found : there ≡ true = is.there ∙ ap (λ (i : Shown). i.there s) e ∙ le-leb (2048 * s + width) (length image) all in
    is.block_of found ∙ ap (λ (i : Shown). i.block_of s) e ∙ ap (block image s) (λ i. length_of (of.sectors i) (of.last i) s)

mark_kept : (mark s : ℕ) (before after : List ℕ) (b here : List ℕ) → (mark < s → before ≡ here) → (s ≡ mark → b ≡ here)
    → after ≡ cond (eqb s mark) b before → mark < s + 1 → after ≡ here
mark_kept mark s before after b here held taken put below =
    ⊎_elim
    (λ e. put ∙ cond-true (eqb s mark) b before (eq-eqb s mark e) ∙ taken e)
    (λ ne. put ∙ cond-false (eqb s mark) b before (ne_eqb s mark ne) ∙ held (omega (arith, below, ne)))
    (cases_eq s mark)

pub noted_more : (image : List ℕ) (extent : Extent) (s mark : ℕ) (b : List ℕ) (old new : Noted) → IsExtentOf image extent → b ≡ sector image s → mark ≡ min (extent.sectors - 1) 16
    → new.sums.items ≡ old.sums.items ++ to_le_bytes w32 (crc b) → new.fingerprint ≡ cond (eqb s mark) (md5 b) old.fingerprint
    → new.marked ≡ option_or old.marked (cond (bytes_eq b (marker s)) (Some s) None) → IsNoted image s old → IsNoted image (s + 1) new
noted_more image extent s mark b old new of is at sums fingerprint marked before =
    let place : mark ≡ mark_sector_of image =
    at ∙ (let g : min (extent.sectors - 1) 16 ≡ min 16 (extent.sectors - 1) = omega arith in g) ∙ ap (λ n. min 16 (n - 1)) of.sectors in
    record {
      sums =
          sums ∙ (λ i. before.sums i ++ to_le_bytes w32 (crc (is i)))
          ∙ sym (ap (λ k. flat_map (λ s. to_le_bytes w32 (crc (sector image s))) (range_with_len 0 k)) (add-one s) ∙ flat_more (λ s. to_le_bytes w32 (crc (sector image s))) s);
      fingerprint = λ passed.
          mark_kept (mark_sector_of image) s old.fingerprint new.fingerprint (md5 b) (md5 (sector image (mark_sector_of image)))
          before.fingerprint (λ same. ap md5 (is ∙ ap (sector image) same))
          (fingerprint ∙ ap (λ k. cond (eqb s k) (md5 b) old.fingerprint) place) passed;
      marked =
          marked ∙ (λ i. option_or (before.marked i) (cond (bytes_eq (is i) (marker s)) (Some s) None))
          ∙ sym (find_more (λ s. bytes_eq (sector image s) (marker s)) s);
    }

pub surveyed_none : (image : List ℕ) (seen : Seen) → seen.noted.sums.items ≡ [] → Holds seen.hasher [] → seen.noted.marked ≡ None → Surveyed image 0 seen
surveyed_none image seen sums held marked = record {
  noted = record { sums = sums; fingerprint = λ below. absurd (omega (arith, below)); marked = marked };
  held = subst (Holds seen.hasher) (bytes_none image (length image)) held;
}
