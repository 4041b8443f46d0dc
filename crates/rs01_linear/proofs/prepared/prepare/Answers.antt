use Rattle.std.proofs.lemmas.Result.{err_from_is_err_and}
use Rattle.rs01_linear.specs.Medium.{known_of}
use Rattle.rs01_linear.proofs.PrepareLemmas.{not_started}
use Rattle.rs01_linear.proofs.prepared.prepare.Goals as goal

pub returns-in_err-size-clause-told : goal.returns-in_err-size-clause-told
returns-in_err-size-clause-told g c = λ t.
    let p = err_from_is_err_and c.from_residual.result c.from_residual.ensures.1 in
    not_started (known_of c.args.medium.now) _ _ c.from_residual.result p.0 p.1 (c.in_err-size.ensures.started t)
