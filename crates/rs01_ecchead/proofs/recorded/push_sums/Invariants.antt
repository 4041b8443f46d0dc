use Rattle.std.proofs.Common.{◌≡◌, ◌+◌, ◌*◌, length, ◌++◌, map}
use Rattle.std.specs.List.{range_with_len}
use Rattle.rs01_ecchead.specs.Header.{number_at}
use Rattle.rs01_ecchead.proofs.recorded.push_sums.Given as goal

abbrev pub invariant-loop-j : goal.invariant-loop-j
invariant-loop-j l = record {
  list : l.sums.list ≡ l.initial.sums.list ++ map (λ j. number_at l.piece (4 * j)) (range_with_len 0 l.j);
  counted : length l.sums.list ≡ length l.initial.sums.list + l.j;
  room : l.sums.room ≡ l.initial.sums.room;
}
