-- The registers of a layer's codewords, as lists.
use Rattle.std.proofs.Common.{◌≡◌, ℕ, ◌+◌, ◌*◌, ◌^◌, ◌<◌, ◌≤◌, List, length, get_or, replicate, sym, ap, ◌∙◌, arith, bit_xor, ⊎_elim, below_more}
use Rattle.std.specs.List.{SameBelow, range_with_len}
use Rattle.std.specs.Int.Bits.{xor_zero_r}
use Rattle.std.proofs.lemmas.Bool.{cases_lt}
use Rattle.std.proofs.lemmas.Nat.{mul-le}
use Rattle.std.proofs.lemmas.List.{get_or-map, get_or-replicate, get_or_past, length-map, length-replicate}
use Rattle.std.proofs.lemmas.List.FromFn.{length-range_with_len, get_or-range_with_len}
use Rattle.std.proofs.lemmas.Grind.{same_number_lists}
use Rattle.rs01_gf256.specs.Field.{times}
use Rattle.rs01_gf256.proofs.Laws.{times-comm, times-zero}
use Rattle.rs01_encode.specs.Columns.{AreShifted, HoldsRow, HoldsRows, register}
use Rattle.rs01_encode.specs.Register.{IsShifted}

pub length-register : (columns : List ℕ) (r l : ℕ) → length (register columns r l) ≡ r
unfolding register
length-register columns r l = length-map (range_with_len 0 r) (λ k. get_or columns (2048 * k + l) 0) ∙ length-range_with_len 0 r

pub get_or-register : (columns : List ℕ) (r l k : ℕ) → k < r → get_or (register columns r l) k 0 ≡ get_or columns (2048 * k + l) 0
unfolding register
get_or-register columns r l k h =
    get_or-map (λ m. get_or columns (2048 * m + l) 0) (range_with_len 0 r) k 0 0 (omega (arith, length-range_with_len 0 r))
    ∙ ap (λ m. get_or columns (2048 * m + l) 0) (get_or-range_with_len 0 r k 0 h ∙ (let e : 0 + k ≡ k = omega arith in e))

past : (columns : List ℕ) (r l k : ℕ) → r ≤ k → get_or (register columns r l) k 0 ≡ 0
past columns r l k h = get_or_past (register columns r l) k 0 (omega (arith, length-register columns r l))

pub register-zeros : (columns : List ℕ) (r l : ℕ) → ((k : ℕ) → 0 ≤ k → get_or columns k 0 ≡ 0) → register columns r l ≡ replicate r 0
register-zeros columns r l zeros =
    same_number_lists (register columns r l) (replicate r 0) (length-register columns r l ∙ sym (length-replicate r 0))
    (λ k h.
    let inside : k < r = omega (arith, length-register columns r l) in
    get_or-register columns r l k inside ∙ zeros (2048 * k + l) (omega arith) ∙ sym (get_or-replicate r k 0 0 inside))

-- one step of all registers is one step of each
pub shifted : (old new low feedback : List ℕ) (r l b : ℕ) → 0 < r → l < 2048 → length old ≡ 2048 * r → length low ≡ r
    → ((k : ℕ) → get_or low k 0 < 2 ^ 8) → get_or feedback l 0 < 2 ^ 8 → get_or feedback l 0 ≡ bit_xor b (get_or old l 0)
    → AreShifted old new low feedback → IsShifted (register old r l) (register new r l) low b
shifted old new low feedback r l b some inside whole lows bytes hf fed step k =
    let f = get_or feedback l 0 in
    let first : get_or (register old r l) 0 0 ≡ get_or old l 0 =
    get_or-register old r l 0 some ∙ ap (λ m. get_or old m 0) (let e : 2048 * 0 + l ≡ l = omega arith in e) in
    let same : f ≡ bit_xor b (get_or (register old r l) 0 0) = fed ∙ ap (bit_xor b) (sym first) in
    ⊎_elim
    (λ (here : k < r).
    let next : get_or old (2048 * (k + 1) + l) 0 ≡ get_or (register old r l) (k + 1) 0 =
    ⊎_elim
    (λ (more : k + 1 < r). sym (get_or-register old r l (k + 1) more))
    (λ (none : r ≤ k + 1). get_or_past old (2048 * (k + 1) + l) 0 (omega arith) ∙ sym (past old r l (k + 1) none))
    (cases_lt (k + 1) r) in
    get_or-register new r l k here
    ∙ step k l (omega arith) inside
    ∙ (λ i. bit_xor (next i) ((times-comm (get_or low k 0) f (bytes k) hf ∙ ap (λ v. times v (get_or low k 0)) same) i)))
    (λ (out : r ≤ k).
    let f0 = bit_xor b (get_or (register old r l) 0 0) in
    past new r l k out
    ∙ sym ((λ i. bit_xor (past old r l (k + 1) (omega arith) i) (times f0 (get_or_past low k 0 (omega arith) i))) ∙ ap (bit_xor 0) (times-zero f0) ∙ xor_zero_r 0))
    (cases_lt k r)

-- a byte of an earlier codeword's parity lies before that of a later one
earlier_byte : (m l r j : ℕ) → m < l → j < r → m * r + j < l * r
earlier_byte m l r j earlier inside =
    let room : (m + 1) * r ≤ l * r = mul-le (m + 1) r l r (omega arith) (omega arith) in
    omega (arith, room)

-- one codeword more
pub one_row_more : (old new columns : List ℕ) (r n : ℕ) → HoldsRow new (n * r) columns n r → SameBelow old new (n * r)
    → HoldsRows old columns r n → HoldsRows new columns r (n + 1)
one_row_more old new columns r n here same before =
    below_more _ _ (λ b h j k. same (b * r + j) 0 (earlier_byte b n r j h k) ∙ before b h j k) here
