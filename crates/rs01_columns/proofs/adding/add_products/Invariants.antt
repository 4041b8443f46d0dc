use Rattle.std.proofs.Common.{◌≡◌, ℕ, ◌*◌, ◌<◌, ◌≤◌, get_or, bit_xor}
use Rattle.rs01_gf256.specs.Field.{times}
use Rattle.rs01_columns.proofs.adding.add_products.Given as goal

abbrev pub invariant-loop-i : goal.invariant-loop-i
invariant-loop-i l = record {
  done : (k : ℕ) → k < l.i * 16 → get_or l.column k 0 ≡ bit_xor (get_or l.initial.column k 0) (times l.table.factor (get_or l.other k 0));
  left : (k : ℕ) → l.i * 16 ≤ k → get_or l.column k 0 ≡ get_or l.initial.column k 0;
}
