use Rattle.rs01_poly.proofs.Division.{generator_vanishes}
use Rattle.rs01_poly.proofs.laws_of_code.generator_vanishes.Goals as goal

pub returns : goal.returns
returns c = λ h. generator_vanishes c.args.r c.args.j h
