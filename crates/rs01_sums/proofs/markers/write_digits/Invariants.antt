use Rattle.std.proofs.Common.{◌≡◌, ◌++◌, length, drop}
use Rattle.rs01_sums.specs.Marker.{digits}
use Rattle.rs01_sums.proofs.markers.write_digits.Given as goal

-- the digits that are left, and those that stand
abbrev pub invariant-loop-place : goal.invariant-loop-place
invariant-loop-place l = digits (length l.into) l.number ≡ digits l.place l.rest ++ drop l.place l.into
