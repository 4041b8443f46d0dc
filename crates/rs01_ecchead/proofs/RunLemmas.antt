-- The blocks of neighbouring sectors in a buffer.
use Rattle.std.proofs.Common.{◌≡◌, ℕ, ◌+◌, ◌-◌, ◌*◌, ◌/◌, ◌%◌, ◌<◌, ◌≤◌, ⊎_elim, List, length, get_or, drop, sym, ap, ◌∙◌, arith, min, eqb, Bool, nat_le}
use Rattle.std.proofs.lemmas.List.{length-take, length-drop, get_or_past, get_or-take, get_or-drop}
use Rattle.std.proofs.lemmas.Bool.{cases_lt, eq-eqb, ne_eqb, cond-true, cond-false}
use Rattle.std.proofs.lemmas.Grind.{same_number_lists}
use Rattle.rs01_layers.specs.Sectors.{block, length_of}
use Rattle.rs01_layers.proofs.BlockLemmas.{length-block, get_or-block, get_or-block_past}
use Rattle.rs01_lists.specs.Bytes.{padded, part}
use Rattle.rs01_lists.proofs.Padding.{get_or-padded, length-padded}
use Rattle.rs01_ecchead.specs.Runs.{IsRun}
use Rattle.rs01_ecchead.specs.Shown.{IsSector, shown_in}

-- a byte of a part of bytes with zeros behind them, up to the width and past it
byte_in : (width at count j : ℕ) (file : List ℕ) → j < count → get_or (padded width (part file at count)) j 0 ≡ get_or file (at + j) 0
byte_in width at count j file h =
    get_or-padded width (part file at count) j ∙ get_or-take count (drop at file) j 0 h ∙ get_or-drop at file j 0

byte_past : (width at count j : ℕ) (file : List ℕ) → count ≤ j → get_or (padded width (part file at count)) j 0 ≡ 0
byte_past width at count j file h =
    get_or-padded width (part file at count) j ∙ get_or_past (part file at count) j 0 (omega (arith, h, length-take count (drop at file)))

-- 2048 of them, from where a sector begins, are its block, where the part ends as the sector does or behind it
block_at : (file : List ℕ) (width at count o s len : ℕ) → at + o ≡ 2048 * s → o + 2048 ≤ width → count ≤ width → len ≤ 2048
    → ((j : ℕ) → j < 2048 → o + j < count → j < len) → ((j : ℕ) → j < 2048 → count ≤ o + j → len ≤ j)
    → part (padded width (part file at count)) o 2048 ≡ block file s len
block_at file width at count o s len place fits room few inside past =
    let bytes = padded width (part file at count) in
    let whole : length bytes ≡ width = length-padded width (part file at count) (omega (arith, room, length-take count (drop at file))) in
    let long : length (part bytes o 2048) ≡ 2048 = omega (arith, fits, whole, length-take 2048 (drop o bytes), length-drop o bytes) in
    same_number_lists (part bytes o 2048) (block file s len) (long ∙ sym (length-block file s len few))
    (λ j l.
    let below : j < 2048 = omega (arith, l, long) in
    get_or-take 2048 (drop o bytes) j 0 below ∙ get_or-drop o bytes j 0
    ∙ ⊎_elim
    (λ h.
    byte_in width at count (o + j) file h
    ∙ ap (λ k. get_or file k 0) (let e : at + (o + j) ≡ 2048 * s + j = omega (arith, place) in e)
    ∙ sym (get_or-block file s len j (inside j below h)))
    (λ h. byte_past width at count (o + j) file h ∙ sym (get_or-block_past file s len j (past j below h)))
    (cases_lt (o + j) count))

-- a sector that isn't the last one is full
full : (n last s : ℕ) → s + 1 < n → length_of n last s ≡ 2048
full n last s h = cond-false (eqb (s + 1) n) last 2048 (ne_eqb (s + 1) n (omega (arith, h)))

last_one : (n last s : ℕ) → s + 1 ≡ n → length_of n last s ≡ last
last_one n last s h = cond-true (eqb (s + 1) n) last 2048 (eq-eqb (s + 1) n h)

-- the part that ends with the image or with the buffer holds the blocks of the sectors
pub part_is_run : (file buffer : List ℕ) (n last first at count width : ℕ) → at ≡ 2048 * first → last ≤ 2048 → width % 2048 ≡ 0
    → first + width / 2048 ≤ n → count ≡ min (2048 * (n - 1) + last - at) width → buffer ≡ padded width (part file at count)
    → length buffer ≡ width → IsRun file n last first buffer
part_is_run file buffer n last first at count width place few whole inside size read long k below =
    let within : k < width / 2048 = omega (arith, below, long) in
    let blocks : width ≡ 2048 * (width / 2048) = omega (arith, whole) in
    ap (λ xs. part xs (2048 * k) 2048) read
    ∙ ⊎_elim
    (λ before.
    block_at file width at count (2048 * k) (first + k) 2048 (omega (arith, place)) (omega (arith, within, blocks)) (omega (arith, size)) (omega arith)
    (λ j l h. l) (λ j l h. absurd (omega (arith, l, h, before, size, place, within, blocks)))
    ∙ ap (block file (first + k)) (sym (full n last (first + k) before)))
    (λ behind.
    let end : first + k + 1 ≡ n = omega (arith, behind, within, inside) in
    block_at file width at count (2048 * k) (first + k) last (omega (arith, place)) (omega (arith, within, blocks)) (omega (arith, size)) few
    (λ j l h. omega (arith, l, h, end, size, place, within, blocks, few)) (λ j l h. omega (arith, l, h, end, size, place, within, blocks, few))
    ∙ ap (block file (first + k)) (sym (last_one n last (first + k) end)))
    (cases_lt (first + k + 1) n)

-- a block of a run is what is shown of its sector
pub is_sector : (file run bytes : List ℕ) (n last first s size len : ℕ) (found : Bool) (at width : ℕ) → IsRun file n last first run → first ≤ s
    → s < first + length run / 2048 → len ≡ length_of n last s → found ≡ nat_le (2048 * s + len) size → bytes ≡ part run at width
    → at ≡ 2048 * (s - first) → width ≡ 2048 → IsSector (shown_in file n last size) s found len bytes
is_sector file run bytes n last first s size len found at width blocks from within own there read place room =
    let back : first + (s - first) ≡ s = omega (arith, from) in
    record {
      there = there ∙ ap (λ (k : ℕ). nat_le (2048 * s + k) size) own;
      own = own;
      block_of = λ h.
          read ∙ (λ i. part run (place i) (room i)) ∙ blocks (s - first) (omega (arith, from, within))
          ∙ ap (λ k. block file k (length_of n last k)) back;
    }
