-- A list that is put together from its parts again.
use Rattle.std.proofs.Common.{◌≡◌, ℕ, zero, suc, ◌+◌, ◌*◌, List, ◌++◌, length, take, sym, ap, ◌∙◌, arith}
use Rattle.std.specs.List.{flat_map, range_with_len}
use Rattle.std.proofs.Math.Seq.{take-length}
use Rattle.rs01_layers.specs.Layout.{parity_offset}
use Rattle.rs01_ecchead.specs.Recorded.{parity_in}
use Rattle.rs01_repair.specs.Inputs.{parity_at}
use Rattle.rs01_lists.specs.Bytes.{part}
use Rattle.rs01_lists.proofs.Flats.{flat_more}
use Rattle.rs01_lists.proofs.Parts.{part-add}

-- n parts of w bytes each, behind each other
pub joined : (file : List ℕ) (at w n : ℕ) → flat_map (λ k. part file (at + k * w) w) (range_with_len 0 n) ≡ part file at (n * w)
joined file at w zero = ap (part file at) (let e : 0 ≡ 0 * w = omega arith in e)
joined file at w (suc n) =
    flat_more (λ k. part file (at + k * w) w) n
    ∙ ap (λ xs. xs ++ part file (at + n * w) w) (joined file at w n)
    ∙ sym (part-add file at (n * w) w)
    ∙ ap (part file at) (let e : n * w + w ≡ suc n * w = omega arith in e)

-- the codewords' parity in a layer's
abbrev pub cut_in : List ℕ → ℕ → ℕ → ℕ → List ℕ
cut_in bytes r l b = part bytes (0 + b * r) r

pub recorded_is : (bytes : List ℕ) (r l : ℕ) → length bytes ≡ 2048 * r → bytes ≡ parity_at (cut_in bytes r) l
unfolding parity_at
recorded_is bytes r l long =
    sym (joined bytes 0 r 2048
    ∙ ap (λ n. take n bytes) (let e : 2048 * r ≡ length bytes = sym long in e)
    ∙ take-length bytes)

-- the parity of a layer in a file where it stands codeword by codeword
pub parity_is : (file : List ℕ) (n r l : ℕ) → part file (parity_offset n r l 0) (2048 * r) ≡ parity_at (parity_in file n r) l
unfolding parity_at
parity_is file n r l =
    sym (ap (λ (f : ℕ → List ℕ). flat_map f (range_with_len 0 2048))
    (λ i b. part file (let e : parity_offset n r l b ≡ parity_offset n r l 0 + b * r = omega arith in e i) r)
    ∙ joined file (parity_offset n r l 0) r 2048)
