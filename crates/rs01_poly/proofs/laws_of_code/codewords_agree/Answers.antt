use Rattle.rs01_poly.proofs.Difference.{codewords_agree}
use Rattle.rs01_poly.proofs.laws_of_code.codewords_agree.Goals as goal

pub returns : goal.returns
returns c = codewords_agree c.args.one.now c.args.other.now c.args.places.now c.args.r
