use Rattle.rs01_poly.proofs.Linear.{encode-add_front}
use Rattle.rs01_poly.proofs.laws_of_code.encoding_of_sum.Goals as goal

pub returns : goal.returns
returns c = encode-add_front c.args.one.now c.args.other.now
