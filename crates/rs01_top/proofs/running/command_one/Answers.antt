use Rattle.rs01_top.specs.Create.{create_work}
use Rattle.rs01_top.specs.Fix.{fix_work}
use Rattle.rs01_top.specs.Turned.{adaptive_work}
use Rattle.rs01_top.specs.Verify.{verify_work}
use Rattle.rs01_top.proofs.Asks.{as_adaptive, as_asked, by_name, by_names}
use Rattle.rs01_top.proofs.running.command_one.Goals as goal

pub returns-in-Create : goal.returns-in-Create
returns-in-Create g c = record {
  run = as_asked _ _ _ _ _ _ c.in-Create.is
      (by_names (λ image ecc. create_work image ecc c.in-Create.parity) _ _ _ _ _ _ _ c.word_at.ensures c.word_at-in-Create.ensures (c.run_create_one.ensures.run _));
}

pub returns-in-Fix : goal.returns-in-Fix
returns-in-Fix g c = record {
  run = as_asked _ _ _ _ _ _ c.in-Fix.is
      (by_names (λ image ecc. fix_work image ecc c.in-Fix.cut) _ _ _ _ _ _ _ c.word_at-in-Fix.ensures c.word_at-in-Fix-2.ensures (c.run_fix_one.ensures.run _));
}

pub returns-in-Verify : goal.returns-in-Verify
returns-in-Verify g c = record {
  run = as_asked _ _ _ _ _ _ c.in-Verify.is
      (by_names verify_work _ _ _ _ _ _ _ c.word_at-in-Verify.ensures c.word_at-in-Verify-2.ensures (c.run_verify.ensures.run _));
}

pub returns-then-adaptive : goal.returns-then-adaptive
returns-then-adaptive g c = record {
  run = as_asked _ _ _ _ _ _ c.in-Read.is
      (as_adaptive _ _ c.in-Read.drives _ _ _ _ _ _ _ _ c.if-adaptive.true
      (by_name (λ image ecc. adaptive_work image ecc c.in-Read.tries) _ _ _ _ _ _ _ c.word_at-then-adaptive.ensures c.word_if-ecc.ensures c.run_adaptive_one.ensures.run));
}

pub returns-in-Demo : goal.returns-in-Demo
returns-in-Demo g c = record { run = as_asked _ _ _ _ _ _ c.in-Demo.is (c.run_demo_one.ensures.run _) }
