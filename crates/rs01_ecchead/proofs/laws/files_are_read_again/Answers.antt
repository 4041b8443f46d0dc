use Rattle.rs01_ecchead.proofs.ReadAgain.{read_again}
use Rattle.rs01_ecchead.proofs.laws.files_are_read_again.Goals as goal

pub returns : goal.returns
returns c = read_again
