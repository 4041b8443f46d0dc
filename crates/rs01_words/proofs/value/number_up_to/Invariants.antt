use Rattle.std.proofs.Common.{◌≡◌, ◌≤◌, take}
use Rattle.rs01_words.specs.Value.{number_of}
use Rattle.rs01_words.proofs.value.number_up_to.Given as goal

abbrev pub invariant-loop-digit : goal.invariant-loop-digit
invariant-loop-digit l = (l.number ≡ number_of (take l.digit-index l.digits)) × (l.number ≤ l.high)
