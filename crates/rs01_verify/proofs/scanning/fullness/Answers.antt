use Rattle.std.proofs.Common.{arith}
use Rattle.rs01_verify.proofs.ScanLemmas.{few_layers, some_layers, there_is}
use Rattle.rs01_verify.proofs.scanning.fullness.Goals as goal

pub fullest-requires-clause-some : goal.fullest-requires-clause-some
fullest-requires-clause-some c =
    let long = c.requires c.in-Some.ecc.now (there_is _ _ _ c.ecc.ensures c.in-Some.is) in
    omega (arith, long, some_layers c.in-Some.ecc.now)

pub fullest-requires-clause-fits : goal.fullest-requires-clause-fits
fullest-requires-clause-fits c =
    let long = c.requires c.in-Some.ecc.now (there_is _ _ _ c.ecc.ensures c.in-Some.is) in
    omega (arith, long, few_layers c.in-Some.ecc.now)
