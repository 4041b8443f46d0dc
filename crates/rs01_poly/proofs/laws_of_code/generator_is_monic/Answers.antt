use Rattle.rs01_poly.proofs.CodeLaws.{length-generator, generator-monic}
use Rattle.rs01_poly.proofs.laws_of_code.generator_is_monic.Goals as goal

pub returns-clause-count : goal.returns-clause-count
returns-clause-count c = length-generator c.args.r

pub returns-clause-leading : goal.returns-clause-leading
returns-clause-leading c = generator-monic c.args.r
