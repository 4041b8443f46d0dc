use Rattle.std.proofs.Common.{◌≤◌, ◌+◌, arith, subst, sym}
use Rattle.std.specs.Prelude.{IsTrue}
use Rattle.std.proofs.lemmas.Result.{err_from_is_err_and}
use Rattle.rs01_linear.specs.Medium.{known_of}
use Rattle.rs01_linear.proofs.RoseLemmas.{keeps_then}
use Rattle.rs01_linear.proofs.RunLemmas.{ends_halted, ends_passed, ends_unwritten, so_far_halted, so_far_more}
use Rattle.rs01_linear.proofs.reading.read_sectors.Goals as goal

pub returns-in_err-pass_sector-clause-kept : goal.returns-in_err-pass_sector-clause-kept
returns-in_err-pass_sector-clause-kept g c = keeps_then _ _ _ _ _ _ c.loop-sector.invariant.kept c.in_err-pass_sector.ensures.kept

pub returns-in_err-pass_sector-clause-told : goal.returns-in_err-pass_sector-clause-told
returns-in_err-pass_sector-clause-told g c = record {
  stands = λ y views t tell st.
      let p = err_from_is_err_and c.from_residual.result c.from_residual.ensures.1 in
      let inside : c.loop-sector.sector + 1 ≤ c.args.medium.now.extent.sectors = omega (arith, c.loop-sector-test.true) in
      ends_halted (known_of c.args.medium.now) _ y views _ _ _ c.from_residual.result p.0 p.1
      (so_far_halted (known_of c.args.medium.now) _ c.args.name.now c.loop-sector.sector _ _ (g.D.Desk.state c.pass_sector.new.desk) _ _ _ _ _ c.loop-sector.invariant inside c.in_err-pass_sector.ensures.kept.lasts
      c.in_err-pass_sector.ensures.told.stands y views t tell st);
  stays = λ y t guards. c.in_err-pass_sector.ensures.told.stays y (subst IsTrue (sym c.loop-sector.invariant.works.tells) t) (c.loop-sector.invariant.stays y t guards);
}

pub loop-sector-preserved : goal.loop-sector-preserved
loop-sector-preserved g c =
    so_far_more (known_of c.args.medium.now) _ c.args.name.now c.loop-sector.sector _ _ _ _ _ _ _ _ _ c.loop-sector.invariant
    c.in_ok-pass_sector.ensures.writes.works c.in_ok-pass_sector.ensures.kept c.in_ok-pass_sector.ensures.told.stands c.in_ok-pass_sector.ensures.told.run c.in_ok-pass_sector.ensures.told.stays

pub returns-in_err-flush-clause-told : goal.returns-in_err-flush-clause-told
returns-in_err-flush-clause-told g c =
    let p = err_from_is_err_and c.from_residual-in_err-flush.result c.from_residual-in_err-flush.ensures.1 in
    ends_unwritten c.args.medium.now c.args.jump c.args.tries c.args.name.now c.loop-sector.sector _ _ _ _ _ _ _ _ c.from_residual-in_err-flush.result c.in_err-flush.field-0.0 p.0
    (omega (arith, c.loop-sector.auto.sector-end, c.loop-sector-test.false))
    c.loop-sector.invariant c.in_err-flush.ensures.put p.1

pub returns-clause-told : goal.returns-clause-told
returns-clause-told g c =
    ends_passed c.args.medium.now c.args.jump c.args.tries c.args.name.now c.loop-sector.sector _ _ _ _ _ _ _ _ _ (omega (arith, c.loop-sector.auto.sector-end, c.loop-sector-test.false)) c.loop-sector.invariant c.in_ok-flush.ensures.put c.in_ok-flush.ensures.fates
