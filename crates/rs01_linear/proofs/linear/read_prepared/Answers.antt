use Rattle.std.proofs.Common.{◌∙◌, ◌-◌, ◌^◌, ap, min, refl}
use Rattle.std.proofs.lemmas.Result.{err_from_is_err_and}
use Rattle.rs01_linear.specs.Medium.{known_of}
use Rattle.rs01_linear.specs.Report.{report_of}
use Rattle.rs01_linear.proofs.FlushLemmas.{guards_empty}
use Rattle.rs01_linear.proofs.LinearLemmas.{left_halted, left_lacking, left_unread, read_whole, stands_start}
use Rattle.rs01_linear.proofs.MarkLemmas.{sized_by}
use Rattle.rs01_linear.proofs.RoseLemmas.{rose_told}
use Rattle.rs01_linear.proofs.linear.read_prepared.Goals as goal

pub returns-in_err-read_sectors-clause-told : goal.returns-in_err-read_sectors-clause-told
returns-in_err-read_sectors-clause-told g c = record {
  reads = λ before t tell ready.
      let p = err_from_is_err_and c.from_residual-in_err-read_sectors.result c.from_residual-in_err-read_sectors.ensures.1 in
      left_halted (known_of c.args.medium.now) _ before _ _ _ c.from_residual-in_err-read_sectors.result p.0 p.1
      (c.in_err-read_sectors.ensures.told.stands _ _ t tell (stands_start (known_of c.args.medium.now) _ before _ _ c.args.prepared _ (sized_by c.args.medium.now.extent _) refl refl ready refl (c.in_ok-bytes.ensures.items)));
  stays = λ y t guards. c.in_err-read_sectors.ensures.told.stays y t (guards_empty (known_of c.args.medium.now) y 0 _ _ refl guards.erased guards.file_is);
}

pub returns-in_err-report-clause-told : goal.returns-in_err-report-clause-told
returns-in_err-report-clause-told g c = record {
  reads = λ before t tell ready.
      let p = err_from_is_err_and c.from_residual-in_err-report.result c.from_residual-in_err-report.ensures.1 in
      left_lacking (known_of c.args.medium.now) _ before _ _ _ _ c.from_residual-in_err-report.result p.0 p.1
      (c.in_ok-read_sectors.ensures.told.stands _ _ t tell (stands_start (known_of c.args.medium.now) _ before _ _ c.args.prepared _ (sized_by c.args.medium.now.extent _) refl refl ready refl (c.in_ok-bytes.ensures.items)));
  stays = λ y t guards. c.in_ok-read_sectors.ensures.told.stays y t (guards_empty (known_of c.args.medium.now) y 0 _ _ refl guards.erased guards.file_is);
}

pub returns-clause-told : goal.returns-clause-told
returns-clause-told g c = record {
  reads = λ before t tell ready.
      read_whole (known_of c.args.medium.now) _ before _ _ _ c.read_sectors.new.reading c.args.prepared _ _ _ (sized_by c.args.medium.now.extent _)
      (c.in_ok-read_sectors.ensures.told.stands _ _ t tell (stands_start (known_of c.args.medium.now) _ before _ _ c.args.prepared _ (sized_by c.args.medium.now.extent _) refl refl ready refl (c.in_ok-bytes.ensures.items)))
      (c.in_ok-report.ensures ∙ ap (λ xs. report_of xs c.asked_since-asked.result c.saturating_sub-surplus.result) c.deref.ensures.value)
      (c.asked_since-asked.ensures ∙ ap (λ n. min (c.read_sectors.new.rack.asks - n) (2 ^ 64 - 1)) c.asks-asks.ensures) ready.size_is (c.saturating_sub-surplus.ensures ∙ ap (λ n. c.args.prepared.size - n) c.image_len.ensures.value);
  stays = λ y t guards. c.in_ok-read_sectors.ensures.told.stays y t (guards_empty (known_of c.args.medium.now) y 0 _ _ refl guards.erased guards.file_is);
}

pub returns-clause-unreadable : goal.returns-clause-unreadable
returns-clause-unreadable g c =
    rose_told _ c.read_sectors.new.reading _ _ _ _ c.asked_since-asked.result c.saturating_sub-surplus.result c.in_ok-read_sectors.ensures.kept c.requires.fresh
    (c.in_ok-report.ensures ∙ ap (λ xs. report_of xs c.asked_since-asked.result c.saturating_sub-surplus.result) c.deref.ensures.value)

pub returns-in_err-bytes-clause-told : goal.returns-in_err-bytes-clause-told
returns-in_err-bytes-clause-told g c = record {
  reads = λ before t tell ready.
      let p = err_from_is_err_and c.from_residual.result c.from_residual.ensures.1 in
      left_unread (known_of c.args.medium.now) _ before _ _ c.args.prepared c.from_residual.result p.0 (sized_by c.args.medium.now.extent _) p.1 ready;
  stays = λ y t guards. guards.file_is;
}
