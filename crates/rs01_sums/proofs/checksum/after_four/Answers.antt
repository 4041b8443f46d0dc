use Rattle.std.proofs.Common.{◌≡◌, ℕ, ◌*◌, ◌+◌, ◌/◌, ◌%◌, bit_xor, arith, sym, ap, ◌∙◌}
use Rattle.rs01_sums.specs.Crc.{after_zeros}
use Rattle.rs01_sums.proofs.ZeroLemmas.{four_bytes, further, sum_of_four}
use Rattle.rs01_sums.proofs.checksum.after_four.Goals as goal

-- a number by its lowest three bytes and the rest
by_bytes : (s : ℕ) → s ≡ ((s / 16777216 * 256 + s / 65536 % 256) * 256 + s / 256 % 256) * 256 + s % 256
by_bytes s =
    let two : s / 65536 ≡ s / 256 / 256 = omega arith in
    let three : s / 16777216 ≡ s / 65536 / 256 = omega arith in
    omega arith

pub returns : goal.returns
returns c =
    let v : ℕ = c.args.four in
    let m : ℕ = 8 * c.args.row in
    (λ i. bit_xor ((c.entry-first.ensures ∙ further m 32 (8 * (c.args.row + 3 + 1)) (v % 256) (omega arith)) i)
    (bit_xor ((c.entry-second.ensures ∙ further m 24 (8 * (c.args.row + 2 + 1)) (v / 256 % 256) (omega arith)) i)
    (bit_xor ((c.entry-third.ensures ∙ further m 16 (8 * (c.args.row + 1 + 1)) (v / 65536 % 256) (omega arith)) i)
    ((c.entry-fourth.ensures ∙ further m 8 (8 * (c.args.row + 1)) (v / 16777216) (omega arith)) i))))
    ∙ sum_of_four m (after_zeros 32 (v % 256)) (after_zeros 24 (v / 256 % 256)) (after_zeros 16 (v / 65536 % 256)) (after_zeros 8 (v / 16777216))
    ∙ ap (after_zeros m) (sym (ap (after_zeros 32) (by_bytes v)
    ∙ four_bytes 8 (v % 256) (v / 256 % 256) (v / 65536 % 256) (v / 16777216) (omega arith) (omega arith) (omega arith)))
    ∙ sym (further m 32 (8 * (c.args.row + 4)) v (omega arith))
