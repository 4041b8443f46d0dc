use Rattle.std.proofs.Common.{◌≡◌, map}
use Rattle.std.specs.List.{range_with_len}
use Rattle.rs01_ecchead.specs.Head.{fields_of}
use Rattle.rs01_repair.specs.Inputs.{flag_at}
use Rattle.rs01_reader.specs.Inputs.{is_gone}
use Rattle.rs01_reader.proofs.input.layer_flags.Given as goal

abbrev pub invariant-loop-place : goal.invariant-loop-place
invariant-loop-place l = l.flags.items ≡ map (flag_at (fields_of l.ecc.head) (is_gone l.course) l.layer) (range_with_len 0 l.place)
