use Rattle.std.proofs.Common.{◌∙◌, ap}
use Rattle.rs01_layers.specs.Layout.{layers_of}
use Rattle.rs01_create.specs.Create.{report_of}
use Rattle.rs01_create.proofs.ending.report_on.Goals as goal

pub returns : goal.returns
unfolding report_of
returns c = λ image is.
    let plan = c.args.found.now.plan in
    λ i. record {
      sectors = is.extended.sectors i;
      layers = (c.layers.ensures.value ∙ ap (λ n. layers_of n plan.shape.parity) (plan.shaped ∙ is.extended.sectors)) i;
      parity = c.parity.ensures i;
      last_bytes = is.extended.last i;
      image_sum = is.image_sum i;
    }
