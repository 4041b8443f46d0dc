use Rattle.std.proofs.Common.{◌≡◌, ◌<◌, ℕ, length, get_or, false}
use Rattle.rs01_repair.specs.Finding.{places_in}
use Rattle.rs01_repair.specs.Parts.{flag_in}
use Rattle.rs01_repair.proofs.part.judge_part.Given as goal

abbrev pub invariant-loop-place : goal.invariant-loop-place
invariant-loop-place l = record {
  blocks : l.part.blocks.items ≡ l.initial.part.blocks.items;
  len : length l.part.erased.items ≡ places_in l.found;
  done : (q : ℕ) → q < l.place → get_or l.part.erased.items q false ≡ flag_in l.found l.layer l.initial.part.blocks.items q;
}
