use Rattle.std.proofs.Common.{◌≡◌, ◌++◌, length}
use Rattle.std.specs.Vec.Iter.{into_iter_items, into_iter_len}
use Rattle.rs01_window.specs.Replay.{replay, AllKeepToTask}
use Rattle.rs01_window.proofs.replays.replay.Given as goal

abbrev pub invariant-loop-event : goal.invariant-loop-event
invariant-loop-event g l =
    (into_iter_len l.event-iterator ≡ length (into_iter_items l.event-iterator))
    × AllKeepToTask g.T.LayerTask.value l.window (into_iter_items l.event-iterator)
    × ((replay l.initial.window (into_iter_items l.initial.event-iterator)).0 ≡ (replay l.window (into_iter_items l.event-iterator)).0)
    × ((replay l.initial.window (into_iter_items l.initial.event-iterator)).1 ≡ l.answers.items ++ (replay l.window (into_iter_items l.event-iterator)).1)
