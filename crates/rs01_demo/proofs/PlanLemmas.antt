-- Marked images, and what repairing one gives.
use Rattle.std.proofs.Common.{◌≡◌, ℕ, ◌*◌, ◌<◌, ◌≤◌, List, ◌++◌, length, take, drop, ap, arith, sym, ◌∙◌}
use Rattle.std.specs.List.{flat_map, range_with_len}
use Rattle.std.proofs.Math.Seq.{take-append_seam}
use Rattle.std.proofs.lemmas.List.{length-append, length-drop}
use Rattle.rs01_lists.specs.Bytes.{part}
use Rattle.rs01_lists.proofs.Flats.{flat_at, length-flat}
use Rattle.rs01_lists.proofs.Parts.{inside}
use Rattle.rs01_sums.specs.Marker.{marker}
use Rattle.rs01_sums.proofs.MarkerLemmas.{length-marker}
use Rattle.rs01_linear.specs.Left.{mixed}
use Rattle.rs01_demo.specs.Plan.{marked}

-- the markers alone
abbrev markers : ℕ → List ℕ
markers lost = flat_map marker (range_with_len 0 lost)

pub length-markers : (lost : ℕ) → length (markers lost) ≡ 2048 * lost
length-markers lost = length-flat marker 2048 lost (λ k h. length-marker k)

pub length-marked : (bytes : List ℕ) (lost : ℕ) → 2048 * lost ≤ length bytes → length (marked bytes lost) ≡ length bytes
unfolding marked
length-marked bytes lost fits =
    omega (arith, fits, length-append (markers lost) (drop (2048 * lost) bytes), length-markers lost, length-drop (2048 * lost) bytes)

-- one marker
pub marker_part : (bytes : List ℕ) (lost s : ℕ) → s < lost → part (marked bytes lost) (2048 * s) 2048 ≡ marker s
unfolding marked
marker_part bytes lost s below =
    inside (markers lost) (drop (2048 * lost) bytes) (2048 * s) 2048 (omega (arith, below, length-markers lost))
    ∙ flat_at marker 2048 lost s (λ k h. length-marker k) below

-- all of them
pub all_marked : (bytes : List ℕ) (lost : ℕ) → mixed (2048 * lost) (marked bytes lost) bytes ≡ marked bytes lost
unfolding marked
all_marked bytes lost =
    ap (λ xs. xs ++ drop (2048 * lost) bytes)
    (ap (λ n. take n (markers lost ++ drop (2048 * lost) bytes)) (sym (length-markers lost)) ∙ take-append_seam (markers lost) (drop (2048 * lost) bytes))
