use Rattle.std.proofs.Common.{◌≡◌, ℕ, ◌<◌, get_or, length}
use Rattle.rs01_columns.specs.Lanes.{product_there}
use Rattle.rs01_columns.proofs.products.write_products.Given as goal

abbrev pub invariant-loop-place : goal.invariant-loop-place
invariant-loop-place l = record {
  long : length l.table ≡ length l.initial.table;
  held : (p : ℕ) → p < l.place → get_or l.table p 0 ≡ product_there p;
}
