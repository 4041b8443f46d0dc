use Rattle.std.proofs.Common.{refl}
use Rattle.rs01_adaptive.proofs.ReadyLemmas.{ended_few, may_begin, ready_nothing}
use Rattle.rs01_adaptive.proofs.adaptive.read_prepared_one.Goals as goal

pub work_windows_one-ended-requires : goal.work_windows_one-ended-requires
work_windows_one-ended-requires g c =
    may_begin c.args.setup c.args.prepared (g.D.Desk.state c.args.desk.now) c.in-Ok.field-0.course c.in-Ok.field-0.noted _ c.requires.can c.requires.fresh c.in-Ok.ensures

pub finish-requires : goal.finish-requires
finish-requires g c =
    ended_few c.args.setup c.in-Ok.field-0.course _ c.in-Ok.field-0.noted _ (g.D.Desk.state c.args.desk.now) _ c.work_windows_one-ended.result _ _
    (may_begin c.args.setup c.args.prepared (g.D.Desk.state c.args.desk.now) c.in-Ok.field-0.course c.in-Ok.field-0.noted _ c.requires.can c.requires.fresh c.in-Ok.ensures)
    c.work_windows_one-ended.ensures

pub returns-in-Ok : goal.returns-in-Ok
returns-in-Ok g c = c.finish.ensures c.args.prepared (g.D.Desk.state c.args.desk.now) (g.D.Desk.state c.work_windows_one-ended.new.desk) _ (record {
  can = c.requires.can;
  fresh = c.requires.fresh;
  size_is = refl;
  asks_are = c.asks-asks.ensures;
  begun_course = c.in-Ok.field-0.course;
  begun_noted = c.in-Ok.field-0.noted;
  begun = c.in-Ok.ensures;
  reads = c.work_windows_one-ended.ensures;
})

pub returns-in-Err : goal.returns-in-Err
returns-in-Err g c = ready_nothing c.args.setup c.args.prepared _ _ c.args.rack.now.counted
