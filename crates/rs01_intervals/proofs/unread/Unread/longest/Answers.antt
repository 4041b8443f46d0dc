use Rattle.std.proofs.Common.{length, ◌∙◌, ap, sym, List, arith}
use Rattle.std.specs.Prelude.{Bool}
use Rattle.rs01_intervals.proofs.Better.{bounds-none, bounds-some}
use Rattle.rs01_intervals.proofs.Covering.{root-bounds, root-within}
use Rattle.rs01_intervals.proofs.unread.Unread.longest.Goals as goal

pub overflow_add-end : goal.overflow_add-end
overflow_add-end c = omega (arith, c.self.invariant.few, root-within _ _ _ _ c.self.invariant c.index.ensures)

pub overflow_cast-result : goal.overflow_cast-result
overflow_cast-result c = omega (arith, c.self.invariant.few, root-within _ _ _ _ c.self.invariant c.index.ensures)

pub overflow_cast-result-then-start-end : goal.overflow_cast-result-then-start-end
overflow_cast-result-then-start-end c =
    omega (arith, c.self.invariant.few, root-within _ _ _ _ c.self.invariant c.index.ensures)

pub returns-then-start-end-clause-value : goal.returns-then-start-end-clause-value
returns-then-start-end-clause-value c =
    sym (bounds-some _ (λ none. omega (arith, none, c.if-start-end.true)))
    ∙ root-bounds _ _ _ _ _ c.self.invariant c.index.ensures c.self.view_is

pub returns-then-start-end-clause-within : goal.returns-then-start-end-clause-within
returns-then-start-end-clause-within c =
    let all = ap (λ (flags : List Bool). length flags) c.self.view_is in
    (c.if-start-end.true, omega (arith, all, root-within _ _ _ _ c.self.invariant c.index.ensures))

pub returns-else-start-end-clause-value : goal.returns-else-start-end-clause-value
returns-else-start-end-clause-value c =
    sym (bounds-none c.index.result.now.best (omega (arith, c.if-start-end.false)))
    ∙ root-bounds _ _ _ _ _ c.self.invariant c.index.ensures c.self.view_is
