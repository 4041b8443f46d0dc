use Rattle.std.proofs.Common.{◌∙◌, ap, arith, length}
use Rattle.rs01_repair.specs.Finding.{fields_in}
use Rattle.rs01_repair.proofs.GivenLemmas.{input_now}
use Rattle.rs01_repair.proofs.InputLemmas.{length-sums_at, parity_given, sums_are}
use Rattle.rs01_repair.proofs.given.layer_input.Goals as goal

pub invariant_of-result : goal.invariant_of-result
invariant_of-result c =
    let found = c.args.found.now in
    let f = fields_in found in
    let p = c.parity.ensures ∙ c.shape.ensures.parity in
    record {
      least = omega arith;
      most = omega arith;
      data_len = ap length c.of.ensures ∙ c.requires.read.blocks ∙ omega (arith, p);
      erased_len = ap length c.of-2.ensures ∙ c.requires.read.erased ∙ omega (arith, p);
      sums_len = ap length (c.of-3.ensures ∙ sums_are f found.ecc.sums.list c.args.layer _ c.in_ok-sums.ensures) ∙ length-sums_at f found.ecc.sums.list c.args.layer ∙ omega (arith, p);
      parity_len = parity_given _ _ (ap length (c.of-4.ensures ∙ c.in_ok-own.ensures) ∙ c.requires.parity ∙ omega (arith, p));
    }

pub returns-clause-told : goal.returns-clause-told
returns-clause-told c = λ e file same from.
    let found = c.args.found.now in
    input_now found e file c.args.layer c.args.part _ (c.parity.ensures ∙ c.shape.ensures.parity) c.of.ensures c.of-2.ensures
    (c.of-3.ensures ∙ sums_are (fields_in found) found.ecc.sums.list c.args.layer _ c.in_ok-sums.ensures)
    (c.of-4.ensures ∙ c.in_ok-own.ensures ∙ same) from
