use Rattle.std.proofs.Common.{Err, ap, arith}
use Rattle.rs01_example_codeword.proofs.lose_and_restore.Goals as goal

-- no more than 32 places are lost here
pub returns-in-Err-Beyond-clause-done : goal.returns-in-Err-Beyond-clause-done
returns-in-Err-Beyond-clause-done c =
    let told = ap (λ why. Err why) c.in-Err-Beyond.field-0-is in
    let many = ((c.in-Err-Beyond.ensures.beyond c.in-Err-Beyond.field-0-0).0 told).0 in
    absurd (omega (arith, many, c.if-places-gt32.false))
