use Rattle.std.proofs.Common.{◌≡◌}
use Rattle.rs01_workers.specs.Filling.{IsReady}
use Rattle.rs01_workers.proofs.beside.serve.Given as goal

-- the worker is of the window, and has no ticket
abbrev pub invariant-loop : goal.invariant-loop
invariant-loop g l =
    (goal.iterator-loop g).can_next l.iterator' × (goal.iterator-loop g).is_finite l.iterator' × IsReady l.table l.worker
