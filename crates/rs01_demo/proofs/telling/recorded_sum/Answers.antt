use Rattle.rs01_demo.proofs.StepLemmas.{piece_is}
use Rattle.rs01_demo.proofs.telling.recorded_sum.Goals as goal

pub returns-clause-sum : goal.returns-clause-sum
returns-clause-sum g c = λ t fits. piece_is _ c.read_piece.new.into 52 16 c.read_piece.auto.into fits (c.in_ok-read_piece.ensures.filled t)
