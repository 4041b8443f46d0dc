use Rattle.std.proofs.Common.{◌≡◌, drop}
use Rattle.rs01_help.specs.Reading.{after}
use Rattle.rs01_help.proofs.reading.after.Given as goal

abbrev pub invariant-loop-at : goal.invariant-loop-at
invariant-loop-at l = after l.text l.bytes ≡ after l.text (drop l.at l.bytes)
