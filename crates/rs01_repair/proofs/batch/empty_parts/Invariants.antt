use Rattle.std.proofs.Common.{◌≡◌, ◌<◌, ℕ, [], length, get_or}
use Rattle.rs01_repair.specs.Finding.{places_in}
use Rattle.rs01_repair.specs.declared.part.Part.{Part}
use Rattle.rs01_repair.proofs.batch.empty_parts.Given as goal

abbrev pub invariant-loop-layer : goal.invariant-loop-layer
invariant-loop-layer l = record {
  len : length l.parts.items ≡ l._layer;
  none : (j : ℕ) (d : Part) → j < l._layer → (get_or l.parts.items j d).blocks.items ≡ [];
  flags : (j : ℕ) (d : Part) → j < l._layer → length (get_or l.parts.items j d).erased.items ≡ places_in l.found;
}
