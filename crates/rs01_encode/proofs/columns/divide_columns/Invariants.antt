use Rattle.std.proofs.Common.{◌≡◌, ℕ, ◌-◌, ◌<◌, length, drop, ◌++◌, replicate}
use Rattle.rs01_poly.specs.Polynomial.{add_front, remainder}
use Rattle.rs01_poly.specs.Code.{encode}
use Rattle.rs01_columns.specs.Layer.{data_at}
use Rattle.rs01_encode.specs.Columns.{register}
use Rattle.rs01_encode.proofs.columns.divide_columns.Given as goal

abbrev pub invariant-loop-place : goal.invariant-loop-place
invariant-loop-place l = record {
  long : length l.columns ≡ length l.initial.columns;
  fed : length l.feedback ≡ length l.initial.feedback;
  held : (b : ℕ) → b < 2048 → remainder (length (data_at l.r l.blocks b) - l.place) l.low
      (add_front (register l.columns l.r b) (drop l.place (data_at l.r l.blocks b) ++ replicate (255 - length (data_at l.r l.blocks b)) 0))
      ≡ encode (data_at l.r l.blocks b);
}
