use Rattle.std.proofs.Common.{arith}
use Rattle.rs01_rack.proofs.Tries.{vain_end, vain_found, vain_on, vain_start}
use Rattle.rs01_rack.proofs.asking.try_box.Goals as goal

pub loop-failed-init : goal.loop-failed-init
loop-failed-init g c = vain_start _ _

pub returns-in-Ok : goal.returns-in-Ok
returns-in-Ok g c = vain_found _ _ _ _ _ _ _ _ c.loop-failed-test.true c.loop-failed.invariant c.in-Ok.ensures

pub loop-failed-preserved : goal.loop-failed-preserved
loop-failed-preserved g c = vain_on _ _ _ _ _ _ _ c.loop-failed.invariant c.in-Err.ensures

pub returns : goal.returns
returns g c =
    vain_end _ _ _ _ _ (omega (arith, c.loop-failed-test.false, c.loop-failed.auto.failed-end)) c.requires c.loop-failed.invariant
