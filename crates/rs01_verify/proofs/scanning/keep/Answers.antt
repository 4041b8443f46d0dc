use Rattle.std.proofs.Common.{sym, ◌∙◌}
use Rattle.rs01_layers.specs.Layout.{layers_of}
use Rattle.rs01_verify.proofs.ScanLemmas.{there_is}
use Rattle.rs01_verify.proofs.scanning.keep.Goals as goal

pub add-requires-clause-counted : goal.add-requires-clause-counted
add-requires-clause-counted c =
    let counted = c.requires.counted c.in-Some.ecc.now (there_is _ _ _ c.ecc.ensures c.in-Some.is) in
    record {
      all = counted.all ∙ sym (λ i. layers_of (c.shape.ensures.sectors i) (c.shape.ensures.parity i));
      bound = counted.bound;
    }
