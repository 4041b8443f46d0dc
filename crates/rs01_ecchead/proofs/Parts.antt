-- Parts of a file that stand behind each other.
use Rattle.std.proofs.Common.{◌≡◌, ℕ, ◌+◌, ◌-◌, ◌*◌, ◌≤◌, List, [], ◌++◌, length, take, drop, replicate, refl, sym, ap, subst, ◌∙◌, arith, append_assoc, append-nil, min}
use Rattle.std.specs.Prelude.{Option, Some, None}
use Rattle.std.specs.Option.{option_map, unwrap_or}
use Rattle.std.proofs.lemmas.List.{take_all, take_min, length-drop, length-take}
use Rattle.std.proofs.Math.ListN.{drop_of_length-le}
use Rattle.rs01_outside.specs.Files.{Files, ReadsBytes, bytes_of}
use Rattle.rs01_lists.proofs.Padding.{length-padded, zeros-add}
use Rattle.rs01_lists.proofs.Parts.{part-add}
use Rattle.rs01_ecchead.specs.Pieces.{IsPiece}
use Rattle.rs01_lists.specs.Bytes.{padded, part, zeros}

-- one more piece behind what was read
pub one_more_part : (file before piece : List ℕ) (from at count : ℕ) → from ≤ at → piece ≡ part file at count
    → (before ++ part file from (at - from)) ++ piece ≡ before ++ part file from (at + count - from)
one_more_part file before piece from at count order e =
    let place : from + (at - from) ≡ at = omega arith in
    let total : at - from + count ≡ at + count - from = omega arith in
    append_assoc before (part file from (at - from)) piece
    ∙ ap (λ xs. before ++ (part file from (at - from) ++ xs)) (e ∙ ap (λ k. part file k count) (sym place))
    ∙ ap (λ xs. before ++ xs) (sym (part-add file from (at - from) count) ∙ ap (part file from) total)

-- a buffer that was read into, once zeros stand behind what the read took
pub with_zeros : (file buffer rest : List ℕ) (at count len : ℕ) → length buffer ≡ len → ReadsBytes file at buffer count → rest ≡ zeros (len - count)
    → take count buffer ++ (rest ++ drop (length buffer - count) (drop count buffer)) ≡ padded len (part file at len)
unfolding padded
with_zeros file buffer rest at count len long read behind =
    let counted : count ≡ min len (length (drop at file)) = omega (arith, read.counted, long, length-drop at file) in
    let taken : take count buffer ≡ part file at len = read.filled ∙ ap (λ n. take n (drop at file)) counted ∙ take_min len (drop at file) in
    let few : count ≡ length (part file at len) = omega (arith, counted, length-take len (drop at file)) in
    let none : drop (length buffer - count) (drop count buffer) ≡ [] = drop_of_length-le (drop count buffer) (omega (arith, length-drop count buffer)) in
    let last : rest ++ drop (length buffer - count) (drop count buffer) ≡ zeros (len - length (part file at len)) =
    ap (λ xs. rest ++ xs) none ∙ append-nil rest ∙ behind ∙ ap (λ n. zeros (len - n)) few in
    λ i. taken i ++ last i

-- and it is a piece of the file
pub read_is_piece : (file buffer rest : List ℕ) (at count len : ℕ) → length buffer ≡ len → ReadsBytes file at buffer count → rest ≡ zeros (len - count)
    → IsPiece file at (take count buffer ++ (rest ++ drop (length buffer - count) (drop count buffer)))
read_is_piece file buffer rest at count len long read behind =
    let now = with_zeros file buffer rest at count len long read behind in
    let all : length (part file at len) ≤ len = omega (arith, length-take len (drop at file)) in
    let same : len ≡ length (take count buffer ++ (rest ++ drop (length buffer - count) (drop count buffer))) =
    sym (ap length now ∙ length-padded len (part file at len) all) in
    now ∙ (λ i. padded (same i) (part file at (same i)))

-- a piece in front, and zeros behind it
pub front_and_zeros : (file front rest : List ℕ) (at count width : ℕ) → count ≤ width → IsPiece file at front → length front ≡ count
    → rest ≡ zeros (width - count) → front ++ rest ≡ padded width (part file at count)
unfolding padded
front_and_zeros file front rest at count width fits piece long behind =
    let bytes = part file at count in
    let few : length bytes ≤ count = omega (arith, length-take count (drop at file)) in
    let sum : count - length bytes + (width - count) ≡ width - length bytes = omega (arith, few, fits) in
    (λ i. (piece ∙ (λ j. padded (long j) (part file at (long j)))) i ++ behind i)
    ∙ append_assoc bytes (zeros (count - length bytes)) (zeros (width - count))
    ∙ ap (λ xs. bytes ++ xs) (sym (zeros-add (count - length bytes) (width - count)) ∙ ap zeros sum)

-- a piece that the file has whole
pub whole_piece : (file into : List ℕ) (at len : ℕ) → length into ≡ len → IsPiece file at into → at + len ≤ length file → into ≡ part file at len
unfolding padded zeros
whole_piece file into at len long piece fits =
    let all : length (part file at (length into)) ≡ length into = omega (arith, long, length-take (length into) (drop at file), length-drop at file) in
    let none : length into - length (part file at (length into)) ≡ 0 = omega (arith, all) in
    piece
    ∙ ap (λ n. part file at (length into) ++ replicate n 0) none
    ∙ append-nil (part file at (length into))
    ∙ ap (part file at) long

-- all of a file
pub whole_file : (file into : List ℕ) → length into ≡ length file → IsPiece file 0 into → into ≡ file
whole_file file into long piece =
    whole_piece file into 0 (length file) long piece (omega arith) ∙ take_all (length file) file (omega arith)

-- all of a file that was found to have n bytes
pub whole_under : (o : Option (List ℕ)) (n : ℕ) (bytes : List ℕ) → Some n ≡ option_map length o → length bytes ≡ n → IsPiece (unwrap_or o []) 0 bytes
    → o ≡ Some bytes
whole_under None n bytes e long piece = cc
whole_under (Some file) n bytes e long piece =
    let same : length file ≡ n = cc in
    ap (λ (xs : List ℕ). Some xs) (sym (whole_file file bytes (long ∙ sym same) piece))

-- a piece that was read when the files were still the same
pub piece_then : (f0 f1 : Files) (name into : List ℕ) (at len : ℕ) → f1 ≡ f0 → length into ≡ len → IsPiece (bytes_of f1 name) at into
    → at + len ≤ length (bytes_of f0 name) → into ≡ part (bytes_of f0 name) at len
piece_then f0 f1 name into at len e long piece fits =
    whole_piece (bytes_of f0 name) into at len long (subst (λ (f : Files). IsPiece (bytes_of f name) at into) e piece) fits

-- what stands behind the header, read in two parts
pub two_parts : (f0 f1 : Files) (name : List ℕ) (n from to : ℕ) → f1 ≡ f0 → from ≡ 4096 + 4 * n → from ≤ to → length (bytes_of f0 name) ≡ to
    → ([] ++ part (bytes_of f0 name) 4096 (4 * n)) ++ part (bytes_of f1 name) from (to - from) ≡ drop 4096 (bytes_of f0 name)
two_parts f0 f1 name n from to e start order long =
    let file = bytes_of f0 name in
    let first : 4 * n ≡ from - 4096 = omega arith in
    let total : from + (to - from) - 4096 ≡ length file - 4096 = omega (arith, long) in
    (λ i. ([] ++ part file 4096 (first i)) ++ part (bytes_of (e i) name) from (to - from))
    ∙ one_more_part file [] (part file from (to - from)) 4096 from (to - from) (omega arith) refl
    ∙ ap (part file 4096) total
    ∙ take_all (length file - 4096) (drop 4096 file) (omega (arith, length-drop 4096 file))
