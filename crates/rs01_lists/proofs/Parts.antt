-- Parts of a list that stand behind each other.
use Rattle.std.proofs.Common.{◌≡◌, ℕ, ◌+◌, ◌≤◌, List, ◌++◌, length, take, drop, sym, ap, ◌∙◌, arith}
use Rattle.std.proofs.Math.Seq.{take-add, take-append_seam, drop-append-add}
use Rattle.std.proofs.lemmas.List.{drop-drop, drop-append-le, take-append-le, length-drop}
use Rattle.rs01_lists.specs.Bytes.{part}

-- m bytes and then n more
pub part-add : (bytes : List ℕ) (from m n : ℕ) → part bytes from (m + n) ≡ part bytes from m ++ part bytes (from + m) n
part-add bytes from m n = take-add m n (drop from bytes) ∙ ap (λ xs. take m (drop from bytes) ++ take n xs) (drop-drop m from bytes)

-- past a piece of k bytes
pub skip : (a xs : List ℕ) (k m n : ℕ) → length a ≡ k → part (a ++ xs) (k + m) n ≡ part xs m n
skip a xs k m n e = ap (take n) ((λ i. drop (sym e i + m) (a ++ xs)) ∙ drop-append-add a xs m)

-- the piece of n bytes at the front
pub first : (a xs : List ℕ) (n : ℕ) → length a ≡ n → part (a ++ xs) 0 n ≡ a
first a xs n e = (λ i. take (sym e i) (a ++ xs)) ∙ take-append_seam a xs

-- a part that lies in the front one of two lists
pub inside : (a xs : List ℕ) (at n : ℕ) → at + n ≤ length a → part (a ++ xs) at n ≡ part a at n
inside a xs at n fits =
    ap (take n) (drop-append-le at a xs (omega arith)) ∙ take-append-le n (drop at a) xs (omega (arith, length-drop at a))
