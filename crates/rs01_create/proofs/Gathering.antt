-- Neighbouring sectors whose blocks were gathered.
use Rattle.std.proofs.Common.{◌≡◌, ℕ, zero, suc, ◌+◌, ◌-◌, ◌*◌, ◌<◌, ◌≤◌, List, [], ◌++◌, length, take, min, sym, ap, ◌∙◌, arith, eqb, append_assoc, append-nil, subst, Bool, ⊎_elim}
use Rattle.std.specs.List.{flat_map, range_with_len}
use Rattle.std.proofs.lemmas.Bool.{cases_eq, cond-false, cond-true, eq-eqb, ne_eqb}
use Rattle.std.proofs.Math.Seq.{take-append-add, take-length}
use Rattle.rs01_layers.specs.Extents.{IsExtentOf}
use Rattle.rs01_layers.specs.Sectors.{block, length_of, sector}
use Rattle.rs01_layers.specs.declared.extent.Extent.{Extent}
use Rattle.rs01_layers.proofs.BlockLemmas.{length-sector}
use Rattle.rs01_lists.specs.Bytes.{part}
use Rattle.rs01_lists.proofs.Flats.{flat_at, flat_more, length-flat}
use Rattle.rs01_ecchead.specs.Shown.{IsSector, Shown, shown_in}
use Rattle.rs01_ecchead.proofs.OwnBytes.{bytes_more, front_of_block, reaches}
use Rattle.rs01_create.specs.Surveyed.{AreSectors, IsGathered, Surveyed}
use Rattle.rs01_create.specs.declared.found.Gathered.{Gathered}
use Rattle.rs01_create.specs.declared.found.Seen.{Seen}
use Rattle.rs01_create.proofs.Surveys.{extent_len, shows}

-- the blocks of neighbouring sectors
abbrev blocks_from : List ℕ → (first count : ℕ) → List ℕ
blocks_from image first count = flat_map (λ k. sector image (first + k)) (range_with_len 0 count)

pub own_block : (image : List ℕ) (first count k : ℕ) (blocks : List ℕ) → AreSectors image first count blocks → k < count → part blocks (2048 * k) 2048 ≡ sector image (first + k)
own_block image first count k blocks are low =
    ap (λ xs. part xs (2048 * k) 2048) are ∙ flat_at (λ k. sector image (first + k)) 2048 count k (λ j _. length-sector image (first + j)) low

-- one more sector was gathered
pub gathered_more : (image : List ℕ) (extent : Extent) (shown : Shown) (s len : ℕ) (there : Bool) (b : List ℕ) (kept new : Gathered) → IsExtentOf image extent → s < extent.sectors
    → shown ≡ shown_in image extent.sectors extent.last_bytes (length image) → IsSector shown s there len b → kept.first ≤ s
    → new.seen ≡ kept.seen → new.first ≡ kept.first → new.blocks.items ≡ kept.blocks.items ++ b → IsGathered image s kept → IsGathered image (s + 1) new
gathered_more image extent shown s len there b kept new of below e is from seen first put was =
    let count : ℕ = s - kept.first in
    let own : b ≡ sector image (kept.first + count) = shows image extent shown s len there b of below e is ∙ ap (sector image) (let at : s ≡ kept.first + count = omega (arith, from) in at) in
    record {
      seen = subst (λ (f : ℕ). Surveyed image f new.seen) (sym first) (subst (λ (x : Seen). Surveyed image kept.first x) (sym seen) was.seen);
      blocks = subst (λ (f : ℕ). AreSectors image f (s + 1 - f) new.blocks.items) (sym first)
          (subst (λ (n : ℕ). AreSectors image kept.first n new.blocks.items) (let more : suc count ≡ s + 1 - kept.first = omega (arith, from) in more)
          (put ∙ (λ i. was.blocks i ++ own i) ∙ sym (flat_more (λ k. sector image (kept.first + k)) count)));
    }

-- how far the sectors of an image go
width_is : (s n last : ℕ) → s < n → 1 ≤ last → last ≤ 2048 → 2048 * s + length_of n last s ≡ min (2048 * (s + 1)) (2048 * (n - 1) + last)
width_is s n last below some fits =
    ⊎_elim
    (λ e. ap (λ k. 2048 * s + k) (cond-true (eqb (s + 1) n) last 2048 (eq-eqb (s + 1) n e)) ∙ omega arith)
    (λ ne. ap (λ k. 2048 * s + k) (cond-false (eqb (s + 1) n) last 2048 (ne_eqb (s + 1) n ne)) ∙ omega arith)
    (cases_eq (s + 1) n)

-- a sector's own bytes are the first ones of its block
own_front : (image : List ℕ) (extent : Extent) (s : ℕ) → IsExtentOf image extent → s < extent.sectors
    → take (length_of extent.sectors extent.last_bytes s) (sector image s) ≡ part image (2048 * s) (length_of extent.sectors extent.last_bytes s)
own_front image extent s of below =
    let width = length_of extent.sectors extent.last_bytes s in
    let long : 2048 * (extent.sectors - 1) + extent.last_bytes ≤ length image = omega (arith, extent_len image extent of) in
    ap (take width) (sym (ap (block image s) (λ i. length_of (of.sectors i) (of.last i) s)))
    ∙ front_of_block image s width (reaches s extent.sectors extent.last_bytes (length image) below extent.last_fits long)

-- the bytes of the image up to below some sector, and those of the sectors behind it
pub bytes_on : (image : List ℕ) (extent : Extent) → IsExtentOf image extent → (first count : ℕ) → first + count ≤ extent.sectors
    → take (min (2048 * first) (length image)) image ++ take (min (2048 * count) (length image - 2048 * first)) (blocks_from image first count)
    ≡ take (min (2048 * (first + count)) (length image)) image
bytes_on image extent of first zero inside =
    ap (λ k. take (min (2048 * first) (length image)) image ++ take k []) (let e : min (2048 * 0) (length image - 2048 * first) ≡ 0 = omega arith in e)
    ∙ append-nil (take (min (2048 * first) (length image)) image)
    ∙ ap (λ k. take (min (2048 * k) (length image)) image) (let e : first ≡ first + 0 = omega arith in e)
bytes_on image extent of first (suc c) inside =
    let n = extent.sectors in
    let last = extent.last_bytes in
    let s : ℕ = first + c in
    let below : s < n = omega (arith, inside) in
    let all : 2048 * (n - 1) + last ≡ length image = extent_len image extent of in
    let w = length_of n last s in
    let before = take (min (2048 * first) (length image)) image in
    let flat = blocks_from image first c in
    let long : length flat ≡ 2048 * c = length-flat (λ k. sector image (first + k)) 2048 c (λ j _. length-sector image (first + j)) in
    let wide : 2048 * s + w ≡ min (2048 * (s + 1)) (2048 * (n - 1) + last) = width_is s n last below extent.some_last_bytes extent.last_fits in
    let own : min (2048 * suc c) (length image - 2048 * first) ≡ length flat + w = omega (arith, long, wide, all, below, extent.some_last_bytes, extent.last_fits) in
    let shorter : min (2048 * c) (length image - 2048 * first) ≡ length flat = omega (arith, long, all, below, extent.some_last_bytes) in
    (λ i. before ++ take (own i) (flat_more (λ k. sector image (first + k)) c i))
    ∙ ap (λ xs. before ++ xs) (take-append-add flat (sector image s) w)
    ∙ sym (append_assoc before flat (take w (sector image s)))
    ∙ (λ i. (before ++ (sym (take-length flat) ∙ ap (λ k. take k flat) (sym shorter)) i) ++ own_front image extent s of below i)
    ∙ ap (λ xs. xs ++ part image (2048 * s) w) (bytes_on image extent of first c (omega (arith, inside)) ∙ ap (λ k. take (min (2048 * s) k) image) (sym all))
    ∙ bytes_more image s n last below extent.last_fits (omega (arith, all))
    ∙ (λ i. take (min (2048 * (let e : s + 1 ≡ first + suc c = omega arith in e i)) (all i)) image)
