use Rattle.std.proofs.Common.{◌≡◌, ◌∙◌, ◌-◌, ap, arith, min}
use Rattle.rs01_ecchead.specs.EccFile.{head_fields, mark_sector_of}
use Rattle.rs01_create.proofs.ending.head_of.Goals as goal

pub returns : goal.returns
unfolding head_fields
returns c = λ image is digest.
    let extent = c.args.found.now.plan.extent in
    let of = is.extended in
    let mark : c.min.result ≡ mark_sector_of image =
    c.min.ensures
    ∙ (let e : min (extent.sectors - 1) 16 ≡ min 16 (extent.sectors - 1) = omega arith in e)
    ∙ ap (λ n. min 16 (n - 1)) of.sectors in
    λ i. record {
      flags = 0;
      fingerprint = is.fingerprint i;
      image_sum = is.image_sum i;
      body_sum = digest i;
      sectors = of.sectors i;
      parity = c.parity.ensures i;
      creator = 1;
      needed = 1;
      mark_sector = mark i;
      last_bytes = of.last i;
    }
