use Rattle.std.proofs.Common.{◌≡◌, ◌≤◌, take, count_by, nat_lt}
use Rattle.rs01_verify.proofs.fullest.above.Given as goal

abbrev pub invariant-loop-count : goal.invariant-loop-count
invariant-loop-count l = record {
  counted : l.found ≡ count_by (λ count. nat_lt l.bound count) (take l.count-index l.counts);
  fits : l.found ≤ l.count-index;
}
