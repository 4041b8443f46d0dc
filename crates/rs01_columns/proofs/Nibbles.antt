-- The products of the nibbles make the product.
use Rattle.std.proofs.Common.{◌≡◌, ℕ, ◌+◌, ◌*◌, ◌/◌, ◌%◌, ◌^◌, ◌<◌, List, get_or, sym, ap, ◌∙◌, arith, bit_xor}
use Rattle.std.proofs.lemmas.Nat.{xor_comm}
use Rattle.std.specs.Int.Bits.{xor_assoc, xor_shifted}
use Rattle.rs01_gf256.specs.Field.{times}
use Rattle.rs01_gf256.proofs.Laws.{times-xor_right}
use Rattle.rs01_columns.specs.Lanes.{HasLanes}

halves : (v : ℕ) → bit_xor (16 * (v / 16)) (v % 16) ≡ v
halves v =
    let e : bit_xor (v / 16 * 2 ^ 4) (v % 16) ≡ v / 16 * 2 ^ 4 + v % 16 = xor_shifted (v / 16) 4 (v % 16) (omega arith) in
    let m : v / 16 * 2 ^ 4 ≡ 16 * (v / 16) = omega arith in
    let s : v / 16 * 2 ^ 4 + v % 16 ≡ v = omega arith in
    rw m at (e ∙ s)

-- the products of both nibbles, added one after the other, are the product
pub by_nibbles : (low high : List ℕ) (c old v : ℕ) → v < 256 → HasLanes low (λ n. times c n) → HasLanes high (λ n. times c (16 * n))
    → bit_xor (bit_xor old (get_or low (v % 16) 0)) (get_or high (v / 16) 0) ≡ bit_xor old (times c v)
by_nibbles low high c old v h lows highs =
    let l : get_or low (v % 16) 0 ≡ times c (v % 16) = lows.each (v % 16) (omega arith) in
    let g : get_or high (v / 16) 0 ≡ times c (16 * (v / 16)) = highs.each (v / 16) (omega arith) in
    (λ i. bit_xor (bit_xor old (l i)) (g i))
    ∙ xor_assoc old (times c (v % 16)) (times c (16 * (v / 16)))
    ∙ ap (bit_xor old) (xor_comm (times c (v % 16)) (times c (16 * (v / 16))) ∙ sym (times-xor_right c (16 * (v / 16)) (v % 16)) ∙ ap (times c) (halves v))
