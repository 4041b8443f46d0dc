use Rattle.rs01_fix.proofs.Ends.{refused}
use Rattle.rs01_fix.proofs.find.begin.Goals as goal

pub returns-in-Err-clause-refused : goal.returns-in-Err-clause-refused
returns-in-Err-clause-refused g c = λ cut.
    refused c.args.image.now c.args.ecc.now cut _ _ c.in-Err.why c.in-Err.ensures.reads c.in-Err.ensures.answer c.in-Err.ensures.causes c.in-Err.ensures.differ
