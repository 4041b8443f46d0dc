use Rattle.std.proofs.Common.{◌*◌, ◌∙◌, ap, subst, sym}
use Rattle.std.specs.Prelude.{IsTrue, Some}
use Rattle.rs01_demo.specs.Generator.{image}
use Rattle.rs01_demo.proofs.GeneratorLemmas.{length-image}
use Rattle.rs01_demo.proofs.StepLemmas.{finished}
use Rattle.rs01_demo.proofs.making.make_image.Goals as goal

pub returns-in-Ok-write_image-clause-made : goal.returns-in-Ok-write_image-clause-made
returns-in-Ok-write_image-clause-made g c = λ t.
    c.in-Ok-write_image.ensures.written (subst IsTrue (sym c.in-Ok.ensures.changes.tells) t) (c.in-Ok.ensures.made t).there
    ∙ ap Some (finished (image c.args.number c.args.sectors) (2048 * c.args.sectors) (length-image c.args.number c.args.sectors))
