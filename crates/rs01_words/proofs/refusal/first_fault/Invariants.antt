use Rattle.std.proofs.Common.{◌≡◌, None}
use Rattle.std.specs.List.{find}
use Rattle.rs01_words.specs.Line.{places_below, texts, IsKnown}
use Rattle.rs01_words.specs.Refusal.{has_fault}
use Rattle.rs01_words.proofs.refusal.first_fault.Given as goal

abbrev pub invariant-loop-place : goal.invariant-loop-place
invariant-loop-place l = record {
  known : IsKnown l.verb (texts l.words) l.place l.before;
  passed : find (has_fault l.pass l.verb (texts l.words)) (places_below l.place) ≡ None;
}
