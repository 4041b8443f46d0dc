use Rattle.rs01_poly.proofs.Linear.{remainder-add_front}
use Rattle.rs01_poly.proofs.laws_of_polynomials.remainder_of_sum.Goals as goal

pub returns : goal.returns
returns c = remainder-add_front c.args.n c.args.divisor.now c.args.one.now c.args.other.now
