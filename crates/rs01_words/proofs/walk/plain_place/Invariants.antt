use Rattle.std.proofs.Common.{◌≤◌, length}
use Rattle.rs01_words.specs.Line.{plain_places, texts, IsKnown}
use Rattle.rs01_words.proofs.walk.plain_place.Given as goal

abbrev pub invariant-loop-place : goal.invariant-loop-place
invariant-loop-place l = record {
  known : IsKnown l.verb (texts l.words) l.place l.before;
  passed : length (plain_places l.verb (texts l.words) l.place) ≤ l.number;
}
