use Rattle.std.proofs.Common.{◌≡◌, ◌≤◌, length, get_or, take, false}
use Rattle.std.specs.List.{filter, range_with_len}
use Rattle.rs01_erase.proofs.places.places_of.Given as goal

-- the first places are the erased ones among those seen so far
abbrev pub invariant-loop-place : goal.invariant-loop-place
invariant-loop-place l = record {
  long : length l.places ≡ 255;
  few : l.count ≤ l.place;
  found : take l.count l.places ≡ filter (λ p. get_or l.flags p false) (range_with_len 0 l.place);
}
