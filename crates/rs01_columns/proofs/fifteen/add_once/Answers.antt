use Rattle.std.proofs.Common.{◌<◌, get_or, w8, Fits, bit_xor, sym, ap, ◌∙◌, arith}
use Rattle.std.proofs.lemmas.Simd.{Each1-get_or}
use Rattle.rs01_gf256.proofs.Laws.{one-times}
use Rattle.rs01_columns.proofs.fifteen.add_once.Goals as goal

pub returns : goal.returns
returns c = record {
  long = c.sum.ensures.long;
  each = λ k l.
      let small : get_or c.args.v k 0 < 256 = (Each1-get_or (Fits w8) c.args.v k 0 (omega (arith, c.requires.v)) c.fits-v.1).fits in
      c.sum.ensures.each k l ∙ ap (bit_xor (get_or c.args.old k 0)) (sym (one-times (get_or c.args.v k 0) small));
}
