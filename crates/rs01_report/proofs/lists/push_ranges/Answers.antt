use Rattle.std.proofs.Common.{◌++◌, string_bytes, refl, sym, ap, ◌∙◌}
use Rattle.std.proofs.lemmas.Bool.{false≢true}
use Rattle.rs01_report.specs.Runs.{ranges_text}
use Rattle.rs01_report.proofs.RunLemmas.{gap_step, neighbour_step, last_step, text_is}
use Rattle.rs01_report.proofs.lists.push_ranges.Goals as goal
use Rattle.rs01_report.proofs.lists.push_ranges.Goals.{then-not-follows+in_ok-push_ended_run, else-not-follows}

pub loop-sector-preserved : goal.loop-sector-preserved
loop-sector-preserved c = elim c.if-not-follows.branch [
  | then-not-follows+in_ok-push_ended_run w ↦
      gap_step _ _ c.in-Some.later.now _ c.loop-sector.first c.loop-sector.last _ _ c.loop-sector.sector-index c.loop-sector-test.true w.first-is w.last-is
      (λ e. false≢true (w.if-not-follows.ensures.1 e))
      (ap string_bytes w.out-is ∙ w.in_ok-push_ended_run.ensures)
      c.loop-sector.invariant
  | else-not-follows w ↦
      neighbour_step _ _ c.in-Some.later.now _ c.loop-sector.first c.loop-sector.last _ _ c.loop-sector.sector-index c.loop-sector-test.true w.first-is w.last-is
      (w.if-not-follows.ensures.0 refl) (ap string_bytes w.out-is) c.loop-sector.invariant
]

pub returns : goal.returns
returns c =
    last_step _ _ c.in-Some.later.now _ c.loop-sector.first c.loop-sector.last c.loop-sector.sector-index c.loop-sector-test.false c.in_ok-push_run.ensures c.loop-sector.invariant
    ∙ ap (λ text. string_bytes c.args.out.now ++ text) (sym (text_is c.in-Some.start.now c.in-Some.later.now))
    ∙ ap (λ sectors. string_bytes c.args.out.now ++ ranges_text sectors) (sym c.in-Some.ensures.cases.0)
