use Rattle.std.proofs.Common.{arith, length}
use Rattle.rs01_outside.specs.Files.{bytes_of}
use Rattle.rs01_ecchead.proofs.RunLemmas.{part_is_run}
use Rattle.rs01_ecchead.proofs.runs.read_run.Goals as goal

pub returns-clause-blocks : goal.returns-clause-blocks
returns-clause-blocks g c = λ t.
    part_is_run (bytes_of (g.D.Desk.state c.args.desk.now).files c.args.name.now) _ c.args.extent.now.sectors c.args.extent.now.last_bytes c.args.first _ _ (length c.args.into.now)
    (omega arith) c.args.extent.now.last_fits c.requires.whole c.requires.inside (omega arith) (c.in_ok-read_padded.ensures.bytes t) (omega arith)
