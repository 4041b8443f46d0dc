use Rattle.rs01_ecchead.proofs.RoundTrip.{reads_back}
use Rattle.rs01_ecchead.proofs.laws.headers_read_back.Goals as goal

pub returns : goal.returns
returns c = reads_back
