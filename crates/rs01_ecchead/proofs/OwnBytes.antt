-- The bytes of an image file that are a sector's own.
use Rattle.std.proofs.Common.{◌≡◌, ℕ, ◌+◌, ◌-◌, ◌*◌, ◌<◌, ◌≤◌, List, [], ◌++◌, length, take, drop, min, sym, ap, ◌∙◌, arith, eqb, ⊎_elim, length-take, length-drop}
use Rattle.std.proofs.lemmas.Bool.{cases_eq, eq-eqb, ne_eqb, cond-true, cond-false}
use Rattle.std.proofs.Math.Seq.{take-add, take-append_seam}
use Rattle.rs01_layers.specs.Sectors.{block, length_of}
use Rattle.rs01_lists.specs.Bytes.{padded, part, zeros}

-- the first n bytes of a sector's block, where the file reaches so far
pub front_of_block : (file : List ℕ) (s n : ℕ) → 2048 * s + n ≤ length file → take n (block file s n) ≡ part file (2048 * s) n
unfolding block padded
front_of_block file s n fits =
    let bytes : List ℕ = take n (drop (2048 * s) file) in
    let long : length bytes ≡ n = simp (length-take, length-drop) (omega arith) in
    ap (λ k. take k (bytes ++ zeros (2048 - length bytes))) (sym long) ∙ take-append_seam bytes (zeros (2048 - length bytes))

-- the bytes of one more sector
pub bytes_more : (y : List ℕ) (s n last : ℕ) → s < n → last ≤ 2048 → 2048 * (n - 1) + last ≤ length y
    → take (min (2048 * s) (2048 * (n - 1) + last)) y ++ part y (2048 * s) (length_of n last s) ≡ take (min (2048 * (s + 1)) (2048 * (n - 1) + last)) y
bytes_more y s n last below fits long =
    let at : min (2048 * s) (2048 * (n - 1) + last) ≡ 2048 * s = omega arith in
    let to : 2048 * s + length_of n last s ≡ min (2048 * (s + 1)) (2048 * (n - 1) + last) =
    ⊎_elim
    (λ e. ap (λ k. 2048 * s + k) (cond-true (eqb (s + 1) n) last 2048 (eq-eqb (s + 1) n e)) ∙ omega arith)
    (λ ne. ap (λ k. 2048 * s + k) (cond-false (eqb (s + 1) n) last 2048 (ne_eqb (s + 1) n ne)) ∙ omega arith)
    (cases_eq (s + 1) n) in
    ap (λ k. take k y ++ part y (2048 * s) (length_of n last s)) at
    ∙ sym (take-add (2048 * s) (length_of n last s) y)
    ∙ ap (λ k. take k y) to

-- where the image is whole, each of its sectors is there
pub reaches : (s n last len : ℕ) → s < n → last ≤ 2048 → 2048 * (n - 1) + last ≤ len → 2048 * s + length_of n last s ≤ len
reaches s n last len below fits long =
    ⊎_elim
    (λ e. let l : length_of n last s ≡ last = cond-true (eqb (s + 1) n) last 2048 (eq-eqb (s + 1) n e) in omega (arith, l))
    (λ ne. let l : length_of n last s ≡ 2048 = cond-false (eqb (s + 1) n) last 2048 (ne_eqb (s + 1) n ne) in omega (arith, l))
    (cases_eq (s + 1) n)

-- before the first sector
pub bytes_none : (y : List ℕ) (len : ℕ) → [] ≡ take (min (2048 * 0) len) y
bytes_none y len = ap (λ k. take k y) (let e : 0 ≡ min (2048 * 0) len = omega arith in e)
