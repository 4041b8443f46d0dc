use Rattle.std.proofs.Common.{arith}
use Rattle.rs01_words.specs.Line.{texts}
use Rattle.rs01_words.proofs.Answering.{enough_sectors}
use Rattle.rs01_words.proofs.read.command_of.Goals as goal

pub returns-in-Demo-clause-within : goal.returns-in-Demo-clause-within
returns-in-Demo-clause-within c =
    let enough = enough_sectors (texts c.args.words.now) (rw (← c.in-Demo.is) c.requires.clear.fits) in
    let lost = c.plain_number-in-Demo-3.ensures.value in
    let sectors = c.plain_number-in-Demo.ensures.value in
    (tt, tt, (λ i. tt), omega arith, (c.plain_number.ensures.range, (c.plain_number-in-Demo.ensures.range, (c.plain_number-in-Demo-2.ensures.range, ((omega arith, omega arith), tt)))))
