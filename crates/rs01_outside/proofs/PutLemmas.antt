-- Bytes that are put at a place of a file.
use Rattle.std.proofs.Common.{◌≡◌, ℕ, ◌+◌, ◌-◌, ◌<◌, ◌≤◌, List, ◌++◌, length, take, drop, get_or, ap, ◌∙◌, arith}
use Rattle.std.proofs.lemmas.List.{length-append, length-take, length-drop, get_or_append_left, get_or-append_right, get_or-take, get_or-drop}
use Rattle.rs01_lists.specs.Bytes.{padded, zeros}
use Rattle.rs01_lists.proofs.Padding.{get_or-padded, length-zeros}
use Rattle.rs01_outside.specs.Files.{over, put_at}

length-long : (old : List ℕ) (end : ℕ) → length (padded end old) ≡ length old + (end - length old)
unfolding padded
length-long old end = length-append old (zeros (end - length old)) ∙ ap (λ n. length old + n) (length-zeros (end - length old))

length-front : (old bytes : List ℕ) (at : ℕ) → at + length bytes ≤ length old → length (take at old ++ bytes) ≡ at + length bytes
length-front old bytes at room = length-append (take at old) bytes ∙ (let t = length-take at old in omega arith)

length-over : (old bytes : List ℕ) (at : ℕ) → at + length bytes ≤ length old → length (over old at bytes) ≡ length old
length-over old bytes at room =
    length-append (take at old ++ bytes) (drop (at + length bytes) old)
    ∙ (let front = length-front old bytes at room in let back = length-drop (at + length bytes) old in omega arith)

over-inside : (old bytes : List ℕ) (at i : ℕ) → at + length bytes ≤ length old → i < length bytes → get_or (over old at bytes) (at + i) 0 ≡ get_or bytes i 0
over-inside old bytes at i room h =
    let front = length-front old bytes at room in
    let t : length (take at old) ≡ at = omega (arith, length-take at old) in
    get_or_append_left (take at old ++ bytes) (drop (at + length bytes) old) 0 (at + i) (omega arith)
    ∙ get_or-append_right (take at old) bytes at (at + i) 0 t (omega arith)
    ∙ ap (λ k. get_or bytes k 0) (let e : at + i - at ≡ i = omega arith in e)

over-before : (old bytes : List ℕ) (at k : ℕ) → at + length bytes ≤ length old → k < at → get_or (over old at bytes) k 0 ≡ get_or old k 0
over-before old bytes at k room h =
    let front = length-front old bytes at room in
    let t : length (take at old) ≡ at = omega (arith, length-take at old) in
    get_or_append_left (take at old ++ bytes) (drop (at + length bytes) old) 0 k (omega arith)
    ∙ get_or_append_left (take at old) bytes 0 k (omega arith)
    ∙ get_or-take at old k 0 h

over-behind : (old bytes : List ℕ) (at k : ℕ) → at + length bytes ≤ length old → at + length bytes ≤ k → get_or (over old at bytes) k 0 ≡ get_or old k 0
over-behind old bytes at k room h =
    get_or-append_right (take at old ++ bytes) (drop (at + length bytes) old) (at + length bytes) k 0 (length-front old bytes at room) h
    ∙ get_or-drop (at + length bytes) old (k - (at + length bytes)) 0
    ∙ ap (λ i. get_or old i 0) (let e : at + length bytes + (k - (at + length bytes)) ≡ k = omega arith in e)

room_made : (old bytes : List ℕ) (at : ℕ) → at + length bytes ≤ length (padded (at + length bytes) old)
room_made old bytes at = omega (arith, length-long old (at + length bytes))

-- the file is as long as before, or ends with the bytes
pub length-put_at : (old bytes : List ℕ) (at : ℕ) → length (put_at old at bytes) ≡ length old + (at + length bytes - length old)
length-put_at old bytes at = length-over (padded (at + length bytes) old) bytes at (room_made old bytes at) ∙ length-long old (at + length bytes)

-- the bytes stand at their place
pub put_at-inside : (old bytes : List ℕ) (at i : ℕ) → i < length bytes → get_or (put_at old at bytes) (at + i) 0 ≡ get_or bytes i 0
put_at-inside old bytes at i h = over-inside (padded (at + length bytes) old) bytes at i (room_made old bytes at) h

-- and all else is as before, where a gap is zeros
pub put_at-before : (old bytes : List ℕ) (at k : ℕ) → k < at → get_or (put_at old at bytes) k 0 ≡ get_or old k 0
put_at-before old bytes at k h =
    over-before (padded (at + length bytes) old) bytes at k (room_made old bytes at) h ∙ get_or-padded (at + length bytes) old k

pub put_at-behind : (old bytes : List ℕ) (at k : ℕ) → at + length bytes ≤ k → get_or (put_at old at bytes) k 0 ≡ get_or old k 0
put_at-behind old bytes at k h =
    over-behind (padded (at + length bytes) old) bytes at k (room_made old bytes at) h ∙ get_or-padded (at + length bytes) old k
