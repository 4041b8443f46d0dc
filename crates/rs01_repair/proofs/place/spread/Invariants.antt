use Rattle.std.proofs.Common.{◌+◌, ◌<◌, ◌≤◌, ℕ, List, length, get_or}
use Rattle.rs01_repair.specs.Parts.{HasBlocks, HasBlocksOf, HaveBlocksOf, IsRunOf}
use Rattle.rs01_repair.specs.declared.part.Part.{Part}
use Rattle.rs01_repair.proofs.place.spread.Given as goal

abbrev pub invariant-loop-k : goal.invariant-loop-k
invariant-loop-k l = record {
  done : (j : ℕ) (d : Part) → j < l.k → HasBlocks l.found (l.place + 1) (get_or l.parts j d);
  left : (j : ℕ) (d : Part) → l.k ≤ j → j < length l.initial.parts → HasBlocks l.found l.place (get_or l.parts j d);
  told : (file : List ℕ) → IsRunOf l.found file l.first l.place l.run → HaveBlocksOf l.found file l.first l.place l.initial.parts
      → ((j : ℕ) (d : Part) → j < l.k → HasBlocksOf l.found file (l.first + j) (l.place + 1) (get_or l.parts j d))
      × ((j : ℕ) (d : Part) → l.k ≤ j → j < length l.initial.parts → HasBlocksOf l.found file (l.first + j) l.place (get_or l.parts j d));
}
