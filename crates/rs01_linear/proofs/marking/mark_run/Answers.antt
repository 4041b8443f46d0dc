use Rattle.std.proofs.Common.{◌≡◌, ◌*◌, ◌≤◌, ◌∙◌, ap, arith, false}
use Rattle.rs01_linear.specs.Asking.{known_with}
use Rattle.rs01_linear.proofs.MarkLemmas.{erased_by, is_run, pass_good, run_failed, run_put, sized_by}
use Rattle.rs01_linear.proofs.marking.mark_run.Goals as goal

pub returns-then-past-first-clause-marked : goal.returns-then-past-first-clause-marked
returns-then-past-first-clause-marked g c = λ sums y are t is.
    let known = known_with c.args.extent.now sums in
    let here : c.run_end-past.result ≡ c.args.first = omega (arith, c.if-past-first.true) in
    pass_good known y c.args.first _ (sized_by c.args.extent.now sums) c.requires.first
    (erased_by known y c.args.fates.now c.args.first false are c.requires.first (c.run_end-past.ensures.none here)) is

pub returns-in-Ok-clause-marked : goal.returns-in-Ok-clause-marked
returns-in-Ok-clause-marked g c = λ sums y are t is.
    let run = c.run_end-past.ensures in
    let inside : c.run_end-past.result ≤ c.args.extent.now.sectors = omega (arith, run.inside, c.requires.all) in
    run_put (known_with c.args.extent.now sums) y c.args.first c.run_end-past.result _ _ c.args.name.now _ _
    (is_run c.args.extent.now sums y c.args.fates.now c.args.first _ _ _ are c.requires.first run.order inside run.all (ap (λ n. 2048 * n) c.from.ensures)
    (c.deref.ensures.value ∙ c.in_ok-fill_markers.ensures)) is (c.in-Ok.ensures.written t)

pub returns-in-Err-clause-marked : goal.returns-in-Err-clause-marked
returns-in-Err-clause-marked g c = λ sums y are t is.
    let run = c.run_end-past.ensures in
    let inside : c.run_end-past.result ≤ c.args.extent.now.sectors = omega (arith, run.inside, c.requires.all) in
    run_failed (known_with c.args.extent.now sums) y c.args.first c.run_end-past.result _ _ c.args.name.now _ _ c.in-Err.field-0
    (is_run c.args.extent.now sums y c.args.fates.now c.args.first _ _ _ are c.requires.first run.order inside run.all (ap (λ n. 2048 * n) c.from.ensures)
    (c.deref.ensures.value ∙ c.in_ok-fill_markers.ensures)) is (c.in-Err.ensures.written t)
