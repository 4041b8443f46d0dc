use Rattle.std.proofs.Common.{◌≡◌, map}
use Rattle.std.specs.List.{range_with_len}
use Rattle.rs01_ecchead.specs.Head.{fields_of}
use Rattle.rs01_repair.specs.Inputs.{sum_at}
use Rattle.rs01_reader.proofs.input.layer_sums.Given as goal

abbrev pub invariant-loop-place : goal.invariant-loop-place
invariant-loop-place l = l.sums.items ≡ map (sum_at (fields_of l.ecc.head) l.ecc.sums.list l.layer) (range_with_len 0 l.place)
