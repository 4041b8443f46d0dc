use Rattle.std.proofs.Common.{◌*◌, ap}
use Rattle.rs01_demo.proofs.StepLemmas.{run_failed, run_written}
use Rattle.rs01_demo.proofs.making.write_run.Goals as goal

pub returns-in-Ok-clause-written : goal.returns-in-Ok-clause-written
returns-in-Ok-clause-written g c = λ number sectors e fits t stood.
    run_written _ _ c.args.name.now _ number sectors _ _ _ (ap (λ n. 2048 * n) c.from.ensures) (c.fill-last.ensures.bytes number _ e) fits stood (c.in-Ok.ensures.written t)

pub returns-in-Err-clause-written : goal.returns-in-Err-clause-written
returns-in-Err-clause-written g c = λ number sectors e fits t stood.
    run_failed _ _ c.args.name.now _ number sectors _ _ _ c.in-Err.field-0 (ap (λ n. 2048 * n) c.from.ensures) (c.fill-last.ensures.bytes number _ e) fits stood (c.in-Err.ensures.written t)
