use Rattle.std.proofs.Common.{◌≡◌, ℕ, ◌-◌, ◌<◌, ◌≤◌, false, get_or, length}
use Rattle.std.specs.Slots.{slots_items, slots_filled, slots_len}
use Rattle.std.specs.Slots.Ownership.{Filled}
use Rattle.rs01_table.specs.Ending.{AreCollected}
use Rattle.rs01_table.proofs.ending.collect.Given as goal

abbrev pub invariant-loop-i : goal.invariant-loop-i
invariant-loop-i l = Filled (slots_filled l.closed.slots) l.i (slots_len l.closed.slots) × ((k : ℕ) → k < l.i → get_or (slots_filled l.closed.slots) k false ≡ false)
    × (l.i ≤ l.count) × (l.count ≤ slots_len l.closed.slots) × (slots_items l.closed.slots ≡ slots_items l.fn.closed.slots) × (length l.results.items ≡ l.i) × AreCollected l.i (slots_items l.fn.closed.slots) l.results.items

abbrev pub decreases-loop-i : goal.decreases-loop-i
decreases-loop-i l = l.count - l.i
