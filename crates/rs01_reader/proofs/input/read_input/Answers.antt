use Rattle.std.proofs.Common.{◌∙◌, ap, arith, length}
use Rattle.rs01_ecchead.specs.Head.{fields_of}
use Rattle.rs01_repair.proofs.InputLemmas.{flags_are, length-flags_at, length-sums_at, parity_given, sums_are}
use Rattle.rs01_reader.specs.Inputs.{is_gone}
use Rattle.rs01_reader.proofs.ReadLemmas.{input_is, parity_after}
use Rattle.rs01_reader.proofs.input.read_input.Goals as goal

pub invariant_of-result : goal.invariant_of-result
invariant_of-result g c =
    let ecc = c.args.ecc.now in
    let f = fields_of ecc.head in
    let p = c.parity.ensures ∙ c.shape.ensures.parity in
    let blocks = ap length c.of.ensures in
    let parity = ap length c.of-4.ensures in
    record {
      least = omega (arith, p, ecc.head.least_parity);
      most = omega (arith, p, ecc.head.most_parity);
      data_len = omega (arith, p, blocks, c.in_ok-blocks.ensures.long);
      erased_len = ap length (c.of-2.ensures ∙ flags_are f (is_gone c.args.course.now) c.args.layer _ c.in_ok-erased.ensures) ∙ length-flags_at f (is_gone c.args.course.now) c.args.layer ∙ omega (arith, p);
      sums_len = ap length (c.of-3.ensures ∙ sums_are f ecc.sums.list c.args.layer _ c.in_ok-sums.ensures) ∙ length-sums_at f ecc.sums.list c.args.layer ∙ omega (arith, p);
      parity_len = parity_given (length c.of-4.result) c.parity.result (omega (arith, p, parity, c.in_ok-parity.ensures.long));
    }

pub returns-clause-built : goal.returns-clause-built
returns-clause-built g c =
    let ecc = c.args.ecc.now in
    let f = fields_of ecc.head in
    let p = c.parity.ensures ∙ c.shape.ensures.parity in
    let parity = ap length c.of-4.ensures in
    let erased = c.of-2.ensures ∙ flags_are f (is_gone c.args.course.now) c.args.layer _ c.in_ok-erased.ensures in
    let sums = c.of-3.ensures ∙ sums_are f ecc.sums.list c.args.layer _ c.in_ok-sums.ensures in
    record {
      parity_count = p;
      erased = erased;
      sums = sums;
      has_parity = omega (arith, p, parity, c.in_ok-parity.ensures.long);
      told = λ t whole.
          input_is ecc c.args.course.now _ _ c.args.layer _ p (c.of.ensures ∙ c.in_ok-blocks.ensures.blocks t) erased sums
          (c.of-4.ensures ∙ parity_after ecc c.args.name.now c.args.layer _ _ _ c.in_ok-blocks.ensures.reads t whole c.in_ok-parity.ensures.parity);
    }
