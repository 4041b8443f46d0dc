use Rattle.std.proofs.Common.{◌≡◌}
use Rattle.rs01_states.specs.Sparing.{next_unread}
use Rattle.rs01_states.proofs.states.States.first_unread_from.Given as goal

-- the sectors that were passed aren't unread
abbrev pub invariant-loop-at : goal.invariant-loop-at
invariant-loop-at l = next_unread l.self-inside.states.items l.fn.sector ≡ next_unread l.self-inside.states.items l.at
