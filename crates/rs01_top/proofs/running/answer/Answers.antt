use Rattle.std.proofs.Common.{sym}
use Rattle.rs01_top.proofs.Asks.{as_read, word_run}
use Rattle.rs01_top.proofs.Endings.{ends_by}
use Rattle.rs01_top.proofs.running.answer.Goals as goal

pub returns : goal.returns
returns g c = record { run = as_read _ _ _ _ _ _ c.in-Ok.ensures.answer c.command.ensures.run }

pub returns-in-Err : goal.returns-in-Err
returns-in-Err g c = record {
  run = word_run _ c.in-Err.refused _ _ _ _ _ _ (sym c.in-Err.ensures.answer) (ends_by _ _ _ _ _ c.word_fault.ensures c.fail.ensures);
}
