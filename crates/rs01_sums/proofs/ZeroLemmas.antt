-- A list's bits and what zero bits make of a number: the number after a list is that of the list's bits added
-- to the number before it, after as many zero bits.
use Rattle.std.proofs.Common.{◌≡◌, ℕ, zero, suc, ◌+◌, ◌*◌, ◌/◌, ◌%◌, ◌^◌, ◌<◌, ◌⊎◌, List, [], ◌∷◌, ◌++◌, length, get_or, ⊎_elim, inl, inr, cond, eqb, refl, sym, ap, ◌∙◌, arith, bit_xor}
use Rattle.std.proofs.Math.Nat.{pow-suc, mul_assoc}
use Rattle.std.proofs.lemmas.Bool.{cases_eq, cases_lt, eq-eqb, ne_eqb, cond-true, cond-false}
use Rattle.std.proofs.lemmas.Nat.{xor_comm, xor_shr, xor_mod}
use Rattle.std.proofs.lemmas.List.{ext_get_or}
use Rattle.std.specs.Int.Bits.{xor_assoc, xor_zero_r, xor_shifted}
use Rattle.rs01_sums.specs.Crc.{bits, after_bit, after_bits, after_zeros, after_bytes}

-- (a + b) + (c + d) is (a + c) + (b + d)
pub xor_swap : (a b c d : ℕ) → bit_xor (bit_xor a b) (bit_xor c d) ≡ bit_xor (bit_xor a c) (bit_xor b d)
xor_swap a b c d =
    xor_assoc a b (bit_xor c d)
    ∙ ap (bit_xor a) (sym (xor_assoc b c d) ∙ ap (λ x. bit_xor x d) (xor_comm b c) ∙ xor_assoc c b d)
    ∙ sym (xor_assoc a c (bit_xor b d))

-- (a + b) + c is (a + c) + b
pub xor_last : (a b c : ℕ) → bit_xor (bit_xor a b) c ≡ bit_xor (bit_xor a c) b
xor_last a b c = xor_assoc a b c ∙ ap (bit_xor a) (xor_comm b c) ∙ sym (xor_assoc a c b)

bit_cases : (b : ℕ) → b < 2 → (b ≡ 0) ⊎ (b ≡ 1)
bit_cases b h = ⊎_elim (λ e. inl (omega arith)) (λ e. inr (omega arith)) (cases_lt b 1)

-- what is added where two bits differ
abbrev added : ℕ → ℕ → ℕ
added a b = cond (eqb a b) 0 0xEDB88320

added-same : (a b : ℕ) → a ≡ b → added a b ≡ 0
added-same a b e = cond-true (eqb a b) 0 0xEDB88320 (eq-eqb a b e)

added-other : (a b : ℕ) → (a ≡ b → ⊥) → added a b ≡ 0xEDB88320
added-other a b e = cond-false (eqb a b) 0 0xEDB88320 (ne_eqb a b e)

after_bit-added : (s b : ℕ) → after_bit s b ≡ bit_xor (s / 2) (added (s % 2) b)
after_bit-added s b =
    ⊎_elim
    (λ e. cond-true (eqb (s % 2) b) (s / 2) (bit_xor (s / 2) 0xEDB88320) (eq-eqb (s % 2) b e) ∙ sym (ap (bit_xor (s / 2)) (added-same (s % 2) b e) ∙ xor_zero_r (s / 2)))
    (λ e. cond-false (eqb (s % 2) b) (s / 2) (bit_xor (s / 2) 0xEDB88320) (ne_eqb (s % 2) b e) ∙ sym (ap (bit_xor (s / 2)) (added-other (s % 2) b e)))
    (cases_eq (s % 2) b)

-- a bit that meets a zero bit, for a sum of two bits
added-meets : (a b : ℕ) → a < 2 → b < 2 → added (bit_xor a b) 0 ≡ added a b
added-meets a b ha hb =
    ⊎_elim
    (λ ea. ⊎_elim (λ eb. rw ea (rw eb refl)) (λ eb. rw ea (rw eb refl)) (bit_cases b hb))
    (λ ea. ⊎_elim (λ eb. rw ea (rw eb refl)) (λ eb. rw ea (rw eb refl)) (bit_cases b hb))
    (bit_cases a ha)

added-xor : (a b : ℕ) → a < 2 → b < 2 → added (bit_xor a b) 0 ≡ bit_xor (added a 0) (added b 0)
added-xor a b ha hb =
    ⊎_elim
    (λ ea. ⊎_elim (λ eb. rw ea (rw eb refl)) (λ eb. rw ea (rw eb refl)) (bit_cases b hb))
    (λ ea. ⊎_elim (λ eb. rw ea (rw eb refl)) (λ eb. rw ea (rw eb refl)) (bit_cases b hb))
    (bit_cases a ha)

half_of_sum : (s v : ℕ) → bit_xor s v / 2 ≡ bit_xor (s / 2) (v / 2)
half_of_sum s v = xor_shr s v 1

bit_of_sum : (s v : ℕ) → bit_xor s v % 2 ≡ bit_xor (s % 2) (v % 2)
bit_of_sum s v = xor_mod s v 1

-- a bit of a number may be added before
one_bit : (s v : ℕ) → after_bit (bit_xor s v) 0 ≡ bit_xor (after_bit s (v % 2)) (v / 2)
one_bit s v =
    after_bit-added (bit_xor s v) 0
    ∙ (λ i. bit_xor (half_of_sum s v i) ((ap (λ b. added b 0) (bit_of_sum s v) ∙ added-meets (s % 2) (v % 2) (omega arith) (omega arith)) i))
    ∙ xor_last (s / 2) (v / 2) (added (s % 2) (v % 2))
    ∙ ap (λ x. bit_xor x (v / 2)) (sym (after_bit-added s (v % 2)))

zero_bit-xor : (a b : ℕ) → after_bit (bit_xor a b) 0 ≡ bit_xor (after_bit a 0) (after_bit b 0)
zero_bit-xor a b =
    after_bit-added (bit_xor a b) 0
    ∙ (λ i. bit_xor (half_of_sum a b i) ((ap (λ c. added c 0) (bit_of_sum a b) ∙ added-xor (a % 2) (b % 2) (omega arith) (omega arith)) i))
    ∙ xor_swap (a / 2) (b / 2) (added (a % 2) 0) (added (b % 2) 0)
    ∙ (λ i. bit_xor (sym (after_bit-added a 0) i) (sym (after_bit-added b 0) i))

pub after_zeros-xor : (n a b : ℕ) → after_zeros n (bit_xor a b) ≡ bit_xor (after_zeros n a) (after_zeros n b)
unfolding after_zeros
after_zeros-xor zero a b = refl
after_zeros-xor (suc n) a b = ap (after_zeros n) (zero_bit-xor a b) ∙ after_zeros-xor n (after_bit a 0) (after_bit b 0)

pub after_zeros-add : (m n x : ℕ) → after_zeros (m + n) x ≡ after_zeros n (after_zeros m x)
unfolding after_zeros
after_zeros-add zero n x = ap (λ k. after_zeros k x) (let e : 0 + n ≡ n = omega arith in e)
after_zeros-add (suc m) n x =
    ap (λ k. after_zeros k x) (let e : suc m + n ≡ suc (m + n) = omega arith in e) ∙ after_zeros-add m n (after_bit x 0)

-- the bits of a number may be added before
pub after_bits-bits : (n s v : ℕ) → v < 2 ^ n → after_bits s (bits n v) ≡ after_zeros n (bit_xor s v)
unfolding bits after_bits after_zeros
after_bits-bits zero s v h =
    let none : v ≡ 0 = omega arith in
    sym (ap (bit_xor s) none ∙ xor_zero_r s)
after_bits-bits (suc n) s v h =
    let power : 2 ^ suc n ≡ 2 ^ n * 2 = rw pow-suc in
    after_bits-bits n (after_bit s (v % 2)) (v / 2) (omega arith) ∙ ap (after_zeros n) (sym (one_bit s v))

-- a zero bit below
double : (x : ℕ) → after_bit (x * 2) 0 ≡ x
double x =
    let even : x * 2 % 2 ≡ 0 = omega arith in
    let half : x * 2 / 2 ≡ x = omega arith in
    cond-true (eqb (x * 2 % 2) 0) (x * 2 / 2) (bit_xor (x * 2 / 2) 0xEDB88320) (eq-eqb (x * 2 % 2) 0 even) ∙ half

zero_bits_below : (n x : ℕ) → after_zeros n (x * 2 ^ n) ≡ x
unfolding after_zeros
zero_bits_below zero x = omega arith
zero_bits_below (suc n) x =
    let power : 2 ^ suc n ≡ 2 ^ n * 2 = rw pow-suc in
    let e : x * 2 ^ suc n ≡ x * 2 ^ n * 2 = ap (λ m. x * m) power ∙ sym (mul_assoc x (2 ^ n) 2) in
    ap (λ y. after_zeros n (after_bit y 0)) e ∙ ap (after_zeros n) (double (x * 2 ^ n)) ∙ zero_bits_below n x

-- the lowest bits of a number, and the others
after_zeros-split : (w n x y : ℕ) → x < 2 ^ w
    → after_zeros (w + n) (y * 2 ^ w + x) ≡ bit_xor (after_zeros (w + n) x) (after_zeros n y)
after_zeros-split w n x y h =
    let apart : bit_xor (y * 2 ^ w) x ≡ y * 2 ^ w + x = xor_shifted y w x h in
    ap (after_zeros (w + n)) (sym apart) ∙ after_zeros-xor (w + n) (y * 2 ^ w) x
    ∙ ap (λ z. bit_xor z (after_zeros (w + n) x)) (after_zeros-add w n (y * 2 ^ w) ∙ ap (after_zeros n) (zero_bits_below w y))
    ∙ xor_comm (after_zeros n y) (after_zeros (w + n) x)

-- what each byte of a list leads to by the list's end, added together
unfoldable pub gathered : List ℕ → ℕ
gathered [] = 0
gathered (byte ∷ more) = bit_xor (after_zeros (8 + 8 * length more) byte) (gathered more)

pub after_bytes-gathered : (bytes : List ℕ) (s : ℕ) → ((k : ℕ) → get_or bytes k 0 < 256)
    → after_bytes s bytes ≡ bit_xor (after_zeros (8 * length bytes) s) (gathered bytes)
unfolding after_bytes after_zeros gathered
after_bytes-gathered [] s small = sym (xor_zero_r s)
after_bytes-gathered (byte ∷ more) s small =
    let n : ℕ = 8 * length more in
    let e : 8 * suc (length more) ≡ 8 + n = omega arith in
    after_bytes-gathered more (after_bits s (bits 8 byte)) (λ k. small (suc k))
    ∙ ap (λ x. bit_xor (after_zeros n x) (gathered more)) (after_bits-bits 8 s byte (small 0))
    ∙ ap (λ x. bit_xor x (gathered more)) (sym (after_zeros-add 8 n (bit_xor s byte)) ∙ after_zeros-xor (8 + n) s byte)
    ∙ xor_assoc (after_zeros (8 + n) s) (after_zeros (8 + n) byte) (gathered more)
    ∙ ap (λ k. bit_xor (after_zeros k s) (bit_xor (after_zeros (8 + n) byte) (gathered more))) (sym e)

-- a number of four bytes after zero bits
pub four_bytes : (n a b c d : ℕ) → a < 256 → b < 256 → c < 256
    → after_zeros (8 + (8 + (8 + n))) (((d * 256 + c) * 256 + b) * 256 + a)
    ≡ bit_xor (after_zeros (8 + (8 + (8 + n))) a) (bit_xor (after_zeros (8 + (8 + n)) b) (bit_xor (after_zeros (8 + n) c) (after_zeros n d)))
four_bytes n a b c d ha hb hc =
    after_zeros-split 8 (8 + (8 + n)) a ((d * 256 + c) * 256 + b) ha
    ∙ ap (bit_xor (after_zeros (8 + (8 + (8 + n))) a)) (after_zeros-split 8 (8 + n) b (d * 256 + c) hb
    ∙ ap (bit_xor (after_zeros (8 + (8 + n)) b)) (after_zeros-split 8 n c d hc))

-- the number after eight bytes, from the two numbers that they make by fours
pub eight_bytes : (s b0 b1 b2 b3 b4 b5 b6 b7 : ℕ)
    → ((k : ℕ) → get_or (b0 ∷ b1 ∷ b2 ∷ b3 ∷ b4 ∷ b5 ∷ b6 ∷ b7 ∷ []) k 0 < 256)
    → bit_xor (after_zeros 64 (bit_xor s (((b3 * 256 + b2) * 256 + b1) * 256 + b0))) (after_zeros 32 (((b7 * 256 + b6) * 256 + b5) * 256 + b4))
    ≡ after_bytes s (b0 ∷ b1 ∷ b2 ∷ b3 ∷ b4 ∷ b5 ∷ b6 ∷ b7 ∷ [])
unfolding gathered
eight_bytes s b0 b1 b2 b3 b4 b5 b6 b7 small =
    let near : ℕ = ((b3 * 256 + b2) * 256 + b1) * 256 + b0 in
    let far : ℕ = ((b7 * 256 + b6) * 256 + b5) * 256 + b4 in
    let front : ℕ = bit_xor (after_zeros 64 b0) (bit_xor (after_zeros 56 b1) (bit_xor (after_zeros 48 b2) (after_zeros 40 b3))) in
    let back : ℕ = bit_xor (after_zeros 32 b4) (bit_xor (after_zeros 24 b5) (bit_xor (after_zeros 16 b6) (after_zeros 8 b7))) in
    let parts : bit_xor (after_zeros 64 near) (after_zeros 32 far) ≡ bit_xor front back =
    (λ i. bit_xor (four_bytes 40 b0 b1 b2 b3 (small 0) (small 1) (small 2) i) (four_bytes 8 b4 b5 b6 b7 (small 4) (small 5) (small 6) i)) in
    let nested : bit_xor front back ≡ gathered (b0 ∷ b1 ∷ b2 ∷ b3 ∷ b4 ∷ b5 ∷ b6 ∷ b7 ∷ []) =
    xor_assoc (after_zeros 64 b0) (bit_xor (after_zeros 56 b1) (bit_xor (after_zeros 48 b2) (after_zeros 40 b3))) back
    ∙ ap (bit_xor (after_zeros 64 b0)) (xor_assoc (after_zeros 56 b1) (bit_xor (after_zeros 48 b2) (after_zeros 40 b3)) back
    ∙ ap (bit_xor (after_zeros 56 b1)) (xor_assoc (after_zeros 48 b2) (after_zeros 40 b3) back))
    ∙ ap (λ x. bit_xor (after_zeros 64 b0) (bit_xor (after_zeros 56 b1) (bit_xor (after_zeros 48 b2) (bit_xor (after_zeros 40 b3)
    (bit_xor (after_zeros 32 b4) (bit_xor (after_zeros 24 b5) (bit_xor (after_zeros 16 b6) x))))))) (sym (xor_zero_r (after_zeros 8 b7))) in
    ap (λ x. bit_xor x (after_zeros 32 far)) (after_zeros-xor 64 s near)
    ∙ xor_assoc (after_zeros 64 s) (after_zeros 64 near) (after_zeros 32 far)
    ∙ ap (bit_xor (after_zeros 64 s)) (parts ∙ nested)
    ∙ sym (after_bytes-gathered (b0 ∷ b1 ∷ b2 ∷ b3 ∷ b4 ∷ b5 ∷ b6 ∷ b7 ∷ []) s small)

-- more zero bits
pub further : (m n p x : ℕ) → p ≡ n + m → after_zeros p x ≡ after_zeros m (after_zeros n x)
further m n p x e = ap (λ k. after_zeros k x) e ∙ after_zeros-add n m x

-- four numbers, added behind zero bits or before
pub sum_of_four : (m a b c d : ℕ)
    → bit_xor (after_zeros m a) (bit_xor (after_zeros m b) (bit_xor (after_zeros m c) (after_zeros m d)))
    ≡ after_zeros m (bit_xor a (bit_xor b (bit_xor c d)))
sum_of_four m a b c d =
    ap (λ y. bit_xor (after_zeros m a) (bit_xor (after_zeros m b) y)) (sym (after_zeros-xor m c d))
    ∙ ap (bit_xor (after_zeros m a)) (sym (after_zeros-xor m b (bit_xor c d)))
    ∙ sym (after_zeros-xor m a (bit_xor b (bit_xor c d)))

-- zero bits make nothing of zero
zeros_of_zero : (n : ℕ) → after_zeros n 0 ≡ 0
unfolding after_zeros
zeros_of_zero zero = refl
zeros_of_zero (suc n) = zeros_of_zero n

pub after_bytes-append : (xs ys : List ℕ) (s : ℕ) → after_bytes s (xs ++ ys) ≡ after_bytes (after_bytes s xs) ys
unfolding after_bytes
after_bytes-append [] ys s = refl
after_bytes-append (x ∷ xs) ys s = after_bytes-append xs ys (after_bits s (bits 8 x))

-- the number after one byte, from what its meeting with the lowest byte leads to
pub one_byte : (s byte entry : ℕ) → byte < 256 → entry ≡ after_zeros 8 (bit_xor (s % 256) byte) → bit_xor entry (s / 256) ≡ after_bits s (bits 8 byte)
unfolding after_zeros
one_byte s byte entry h e =
    let whole : s / 256 * 256 + s % 256 ≡ s = omega arith in
    ap (λ x. bit_xor x (s / 256)) (e ∙ after_zeros-xor 8 (s % 256) byte)
    ∙ xor_last (after_zeros 8 (s % 256)) (after_zeros 8 byte) (s / 256)
    ∙ ap (λ x. bit_xor x (after_zeros 8 byte)) (sym (after_zeros-split 8 0 (s % 256) (s / 256) (omega arith)) ∙ ap (after_zeros 8) whole)
    ∙ sym (after_zeros-xor 8 s byte) ∙ sym (after_bits-bits 8 s byte h)

-- a list of eight
pub eight_of : (xs : List ℕ) → length xs ≡ 8
    → xs ≡ get_or xs 0 0 ∷ get_or xs 1 0 ∷ get_or xs 2 0 ∷ get_or xs 3 0 ∷ get_or xs 4 0 ∷ get_or xs 5 0 ∷ get_or xs 6 0 ∷ get_or xs 7 0 ∷ []
eight_of xs h =
    ext_get_or 0 xs (get_or xs 0 0 ∷ get_or xs 1 0 ∷ get_or xs 2 0 ∷ get_or xs 3 0 ∷ get_or xs 4 0 ∷ get_or xs 5 0 ∷ get_or xs 6 0 ∷ get_or xs 7 0 ∷ []) h
    (λ k l. at k (omega arith))
  where
    at : (k : ℕ) → k < 8 → get_or xs k 0 ≡ get_or (get_or xs 0 0 ∷ get_or xs 1 0 ∷ get_or xs 2 0 ∷ get_or xs 3 0 ∷ get_or xs 4 0 ∷ get_or xs 5 0 ∷ get_or xs 6 0 ∷ get_or xs 7 0 ∷ []) k 0
    at zero h = refl
    at (suc zero) h = refl
    at (suc (suc zero)) h = refl
    at (suc (suc (suc zero))) h = refl
    at (suc (suc (suc (suc zero)))) h = refl
    at (suc (suc (suc (suc (suc zero))))) h = refl
    at (suc (suc (suc (suc (suc (suc zero)))))) h = refl
    at (suc (suc (suc (suc (suc (suc (suc zero))))))) h = refl
    at (suc (suc (suc (suc (suc (suc (suc (suc k)))))))) h = absurd (omega arith)

-- the number after two pieces, from what each leads to
pub two_pieces : (xs ys : List ℕ) (s : ℕ) → ((k : ℕ) → get_or ys k 0 < 256)
    → bit_xor (after_zeros (8 * length ys) (after_bytes s xs)) (after_bytes 0 ys) ≡ after_bytes s (xs ++ ys)
two_pieces xs ys s small =
    let alone : after_bytes 0 ys ≡ gathered ys =
    after_bytes-gathered ys 0 small ∙ ap (λ x. bit_xor x (gathered ys)) (zeros_of_zero (8 * length ys)) ∙ xor_zero_l (gathered ys) in
    ap (bit_xor (after_zeros (8 * length ys) (after_bytes s xs))) alone
    ∙ sym (after_bytes-gathered ys (after_bytes s xs) small) ∙ sym (after_bytes-append xs ys s)
  where
    xor_zero_l : (x : ℕ) → bit_xor 0 x ≡ x
    xor_zero_l x = xor_comm 0 x ∙ xor_zero_r x

-- the lowest four bits of a number, and what is known of the others
next_four : (n s t rest : ℕ) → s / 16 ≡ t → after_zeros n t ≡ rest
    → after_zeros (4 + n) s ≡ bit_xor (after_zeros (4 + n) (s % 16)) rest
next_four n s t rest e held =
    let parts : s ≡ s / 16 * 16 + s % 16 = omega arith in
    ap (after_zeros (4 + n)) parts ∙ after_zeros-split 4 n (s % 16) (s / 16) (omega arith)
    ∙ ap (bit_xor (after_zeros (4 + n) (s % 16))) (ap (after_zeros n) e ∙ held)

-- a number after 8192 zero bits, four of its bits at a time
pub by_fours : (s : ℕ)
    → bit_xor (after_zeros 8192 (s % 16)) (bit_xor (after_zeros 8188 (s / 16 % 16)) (bit_xor (after_zeros 8184 (s / 256 % 16))
    (bit_xor (after_zeros 8180 (s / 4096 % 16)) (bit_xor (after_zeros 8176 (s / 65536 % 16)) (bit_xor (after_zeros 8172 (s / 1048576 % 16))
    (bit_xor (after_zeros 8168 (s / 16777216 % 16)) (after_zeros 8164 (s / 268435456))))))))
    ≡ after_zeros 8192 s
by_fours s =
    let r1 : ℕ = after_zeros 8164 (s / 268435456) in
    let r2 : ℕ = bit_xor (after_zeros 8168 (s / 16777216 % 16)) r1 in
    let r3 : ℕ = bit_xor (after_zeros 8172 (s / 1048576 % 16)) r2 in
    let r4 : ℕ = bit_xor (after_zeros 8176 (s / 65536 % 16)) r3 in
    let r5 : ℕ = bit_xor (after_zeros 8180 (s / 4096 % 16)) r4 in
    let r6 : ℕ = bit_xor (after_zeros 8184 (s / 256 % 16)) r5 in
    let r7 : ℕ = bit_xor (after_zeros 8188 (s / 16 % 16)) r6 in
    sym (next_four 8188 s (s / 16) r7 refl
    (next_four 8184 (s / 16) (s / 256) r6 (omega arith)
    (next_four 8180 (s / 256) (s / 4096) r5 (omega arith)
    (next_four 8176 (s / 4096) (s / 65536) r4 (omega arith)
    (next_four 8172 (s / 65536) (s / 1048576) r3 (omega arith)
    (next_four 8168 (s / 1048576) (s / 16777216) r2 (omega arith)
    (next_four 8164 (s / 16777216) (s / 268435456) r1 (omega arith) refl)))))))
