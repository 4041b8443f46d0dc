use Rattle.std.proofs.Common.{refl}
use Rattle.std.proofs.lemmas.Result.{err_from_is_err_and}
use Rattle.rs01_linear.proofs.PassLemmas.{full_done, full_failed, gather_done, gathered, skip_done, skip_failed}
use Rattle.rs01_linear.proofs.reading.pass_sector.Goals as goal

pub returns-in_err-flush-clause-told : goal.returns-in_err-flush-clause-told
returns-in_err-flush-clause-told g c =
    let p = err_from_is_err_and c.from_residual.result c.from_residual.ensures.1 in
    skip_failed c.args.medium.now c.args.sector c.args.jump c.args.tries c.take_sector.new.block c.args.name.now _ _ c.args.reading.now c.take_sector.new.reading _ c.take_sector.result
    c.from_residual.result c.in_err-flush.field-0.0 p.0 _ _ c.requires.sector c.take_sector.ensures.told c.requires.run c.take_sector.ensures.kept.all c.in_err-flush.ensures.put p.1

pub returns-then-not-take_sector-clause-told : goal.returns-then-not-take_sector-clause-told
returns-then-not-take_sector-clause-told g c =
    skip_done c.args.medium.now c.args.sector c.args.jump c.args.tries c.take_sector.new.block c.args.name.now _ _ c.args.reading.now c.take_sector.new.reading c.flush.new.reading _ c.take_sector.result
    _ _ _ c.requires.sector c.take_sector.ensures.told c.if-not-take_sector.true c.requires.run c.take_sector.ensures.kept.all c.in_ok-flush.ensures.put c.in_ok-flush.ensures.fates
    c.in_ok-flush.ensures.begins refl refl refl refl

pub returns-then-len-lt-RUN_BYTES-clause-told : goal.returns-then-len-lt-RUN_BYTES-clause-told
returns-then-len-lt-RUN_BYTES-clause-told g c =
    gather_done c.args.medium.now c.args.sector c.args.jump c.args.tries c.args.name.now _ c.args.reading.now _ _ _ _
    (gathered c.args.medium.now c.args.sector c.args.jump c.args.tries c.take_sector.new.block _ c.args.reading.now c.take_sector.new.reading _ c.take_sector.result _ _
    c.requires.sector c.take_sector.ensures.told c.if-not-take_sector.false c.requires.run c.take_sector.ensures.kept.all c.take_sector.array_long refl refl refl c.in_ok-gather.ensures)

pub returns-in_err-flush-2-clause-told : goal.returns-in_err-flush-2-clause-told
returns-in_err-flush-2-clause-told g c =
    let p = err_from_is_err_and c.from_residual-in_err-flush-2.result c.from_residual-in_err-flush-2.ensures.1 in
    full_failed c.args.medium.now c.args.sector c.args.jump c.args.tries c.args.name.now _ _ c.args.reading.now
    (record { next = c.take_sector.new.reading.next; fates = c.take_sector.new.reading.fates; first = c.take_sector.new.reading.first; bytes = c.gather.new.bytes }) _ c.from_residual-in_err-flush-2.result c.in_err-flush-2.field-0.0 p.0 _ _ c.requires.sector
    (gathered c.args.medium.now c.args.sector c.args.jump c.args.tries c.take_sector.new.block _ c.args.reading.now c.take_sector.new.reading _ c.take_sector.result _ _
    c.requires.sector c.take_sector.ensures.told c.if-not-take_sector.false c.requires.run c.take_sector.ensures.kept.all c.take_sector.array_long refl refl refl c.in_ok-gather.ensures)
    c.in_err-flush-2.ensures.put p.1

pub returns-clause-told : goal.returns-clause-told
returns-clause-told g c =
    full_done c.args.medium.now c.args.sector c.args.jump c.args.tries c.args.name.now _ _ c.args.reading.now _ c.flush-2.new.reading _ _ _ c.requires.sector
    (gathered c.args.medium.now c.args.sector c.args.jump c.args.tries c.take_sector.new.block _ c.args.reading.now c.take_sector.new.reading _ c.take_sector.result _ _
    c.requires.sector c.take_sector.ensures.told c.if-not-take_sector.false c.requires.run c.take_sector.ensures.kept.all c.take_sector.array_long refl refl refl c.in_ok-gather.ensures)
    c.in_ok-flush-2.ensures.put c.in_ok-flush-2.ensures.fates c.in_ok-flush-2.ensures.begins
