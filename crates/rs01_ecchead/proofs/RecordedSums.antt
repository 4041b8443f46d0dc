-- The recorded checksums, read piece by piece.
use Rattle.std.proofs.Common.{◌≡◌, ℕ, ◌+◌, ◌-◌, ◌*◌, ◌≤◌, List, ◌++◌, map, take, drop, sym, ap, ◌∙◌, arith}
use Rattle.std.specs.List.{range_with_len}
use Rattle.std.specs.Int.{from_le_bytes, w32}
use Rattle.std.proofs.lemmas.List.{drop-take, drop-drop, take-take, map-append}
use Rattle.rs01_ecchead.specs.Header.{number_at}
use Rattle.rs01_ecchead.specs.Recorded.{sum_in, sums_in}
use Rattle.rs01_lists.specs.Bytes.{part}
use Rattle.rs01_lists.proofs.Ranges.{map-range_with_len_moved, range_with_len-append}

-- a part of a part
pub part-part : (file : List ℕ) (at len from n : ℕ) → from + n ≤ len → part (part file at len) from n ≡ part file (at + from) n
part-part file at len from n fits =
    let split : len ≡ from + (len - from) = omega arith in
    ap (λ k. take n (drop from (take k (drop at file)))) split
    ∙ ap (take n) (drop-take from (len - from) (drop at file) ∙ ap (take (len - from)) (drop-drop from at file))
    ∙ take-take n (len - from) (drop (at + from) file) (omega arith)

-- the checksums in a piece are the next ones
pub sums_more : (file : List ℕ) (a b len : ℕ) → len ≡ 4 * b
    → sums_in file (a + b) ≡ sums_in file a ++ map (λ j. number_at (part file (4096 + 4 * a) len) (4 * j)) (range_with_len 0 b)
unfolding sums_in
sums_more file a b len e =
    ap (map (sum_in file)) (range_with_len-append 0 a b)
    ∙ map-append (sum_in file) (range_with_len 0 a) (range_with_len (0 + a) b)
    ∙ ap (λ k. map (sum_in file) (range_with_len 0 a) ++ map (sum_in file) (range_with_len k b)) (let z : 0 + a ≡ a = omega arith in z)
    ∙ ap (λ xs. map (sum_in file) (range_with_len 0 a) ++ xs)
    (map-range_with_len_moved (sum_in file) (λ j. number_at (part file (4096 + 4 * a) len) (4 * j)) a b
    (λ j l.
    let place : 4096 + 4 * (a + j) ≡ 4096 + 4 * a + 4 * j = omega arith in
    ap (number_at file) place ∙ sym (ap (from_le_bytes w32) (part-part file (4096 + 4 * a) len (4 * j) 4 (omega arith)))))
