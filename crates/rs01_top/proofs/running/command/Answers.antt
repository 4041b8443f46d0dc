use Rattle.rs01_top.specs.Create.{create_work}
use Rattle.rs01_top.specs.Fix.{fix_work}
use Rattle.rs01_top.proofs.Asks.{as_asked, by_names}
use Rattle.rs01_top.proofs.running.command.Goals as goal

pub returns-in-Create : goal.returns-in-Create
returns-in-Create g c = record {
  run = as_asked _ _ _ _ _ _ c.in-Create.is
      (by_names (λ image ecc. create_work image ecc c.in-Create.parity) _ _ _ _ _ _ _ c.word_at-image.ensures c.word_at-ecc.ensures (c.run_create.ensures.run _));
}

pub returns-in-Fix : goal.returns-in-Fix
returns-in-Fix g c = record {
  run = as_asked _ _ _ _ _ _ c.in-Fix.is
      (by_names (λ image ecc. fix_work image ecc c.in-Fix.cut) _ _ _ _ _ _ _ c.word_at-image-in-Fix.ensures c.word_at-ecc-in-Fix.ensures (c.run_fix.ensures.run _));
}

pub returns-in-Demo : goal.returns-in-Demo
returns-in-Demo g c = record { run = as_asked _ _ _ _ _ _ c.in-Demo.is (c.run_demo.ensures.run _) }
