use Rattle.std.proofs.Common.{◌≡◌, ◌∙◌, ◌+◌, ◌*◌, ℕ, subst}
use Rattle.rs01_ecchead.specs.Runs.{IsRun}
use Rattle.rs01_outside.specs.Files.{bytes_of}
use Rattle.rs01_layers.specs.Layout.{layers_of}
use Rattle.rs01_repair.specs.Parts.{run_start}
use Rattle.rs01_repair.proofs.place.read_place.Goals as goal

pub returns-clause-told : goal.returns-clause-told
returns-clause-told g c = λ t.
    let found = c.args.found.now in
    let file = bytes_of (g.D.Desk.state c.args.desk.now).files c.args.image.now in
    let at : c.args.first + c.args.place * c.layers.result ≡ run_start found c.args.first c.args.place =
    (λ i. c.args.first + c.args.place * (c.layers.ensures.value ∙ (λ j. layers_of (c.shape-shape.ensures.sectors j) (c.shape-shape.ensures.parity j))) i) in
    c.in_ok-spread.ensures.told file
    (subst (λ (s : ℕ). IsRun file found.ecc.head.sectors found.ecc.head.last_bytes s c.read_sectors.new.into) at
    (subst (λ (n : ℕ). IsRun file n found.ecc.head.last_bytes (c.args.first + c.args.place * c.layers.result) c.read_sectors.new.into) c.extent.ensures.sectors
    (subst (λ (n : ℕ). IsRun file c.extent.result.sectors n (c.args.first + c.args.place * c.layers.result) c.read_sectors.new.into) c.extent.ensures.last
    (c.in_ok-read_sectors.ensures.blocks t))))
