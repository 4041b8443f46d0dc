use Rattle.std.proofs.Common.{◌≡◌, []}
use Rattle.rs01_workers.proofs.beside.work_all.Given as goal

-- the windows so far were taken, and the next one is to begin
pub record Between (g : goal.Over) (l : goal.Live-loop-results g) : Type 0 where
  pub leads : g.W.Filler.leads l.initial.windows l.windows
  pub going : g.W.Filler.going l.windows
  pub none : g.W.Filler.gave l.windows ≡ []

abbrev pub invariant-loop-results : goal.invariant-loop-results
invariant-loop-results g l = Between g l

abbrev pub decreases-loop-results : goal.decreases-loop-results
decreases-loop-results g l = g.W.Windows.left l.windows
