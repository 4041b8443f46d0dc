use Rattle.rs01_top.specs.Turned.{adaptive_work}
use Rattle.rs01_top.proofs.Asks.{as_adaptive, as_asked, by_name}
use Rattle.rs01_top.proofs.running.command_on_drives.Goals as goal

pub returns-then-adaptive : goal.returns-then-adaptive
returns-then-adaptive g c = record {
  run = as_asked _ _ _ _ _ _ c.in-Read.is
      (as_adaptive _ _ c.in-Read.drives _ _ _ _ _ _ _ _ c.if-adaptive.true
      (by_name (λ image ecc. adaptive_work image ecc c.in-Read.tries) _ _ _ _ _ _ _ c.word_at-image.ensures c.word_if-ecc.ensures c.run_adaptive.ensures.run));
}
