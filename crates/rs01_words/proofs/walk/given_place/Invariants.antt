use Rattle.std.proofs.Common.{◌≡◌, ◌≤◌, length}
use Rattle.rs01_words.specs.Line.{given_places, texts, IsKnown}
use Rattle.rs01_words.proofs.walk.given_place.Given as goal

abbrev pub invariant-loop-place : goal.invariant-loop-place
invariant-loop-place l = record {
  known : IsKnown l.verb (texts l.words) l.place l.before;
  counted : l.seen ≡ length (given_places l.verb (texts l.words) l.option l.place);
  passed : l.seen ≤ l.count;
}
