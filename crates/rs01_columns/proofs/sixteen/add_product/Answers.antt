use Rattle.std.proofs.Common.{ℕ, ◌∙◌, arith, bit_xor, get_or, w8, Fits}
use Rattle.std.proofs.lemmas.Simd.{Each1-get_or}
use Rattle.rs01_columns.proofs.Nibbles.{by_nibbles}
use Rattle.rs01_columns.proofs.sixteen.add_product.Goals as goal

pub returns : goal.returns
returns c =
    let t = c.args.table in
    record {
      long = c.sum-2.ensures.long;
      each = λ k l.
          let v : ℕ = get_or c.args.v k 0 in
          let low = c.by_low.ensures.each k l in
          let high = c.by_high.ensures.each k l in
          c.sum-2.ensures.each k l
          ∙ (λ i. bit_xor ((c.sum.ensures.each k l ∙ (λ j. bit_xor (get_or c.args.old k 0) (low j))) i) (high i))
          ∙ by_nibbles t.low t.high t.factor (get_or c.args.old k 0) v (Each1-get_or (Fits w8) c.args.v k 0 (omega (arith, c.requires.v)) c.fits-v.1).fits t.low_products t.high_products;
    }
