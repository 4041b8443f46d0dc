use Rattle.std.proofs.Common.{◌≡◌, None}
use Rattle.std.specs.List.{find}
use Rattle.rs01_words.specs.Line.{places_below, texts, IsKnown}
use Rattle.rs01_words.specs.Refusal.{clash}
use Rattle.rs01_words.proofs.refusal.repeats_name.Given as goal

abbrev pub invariant-loop-earlier : goal.invariant-loop-earlier
invariant-loop-earlier l = record {
  known : IsKnown l.verb (texts l.words) l.earlier l.before;
  passed : find (clash l.verb (texts l.words) l.place) (places_below l.earlier) ≡ None;
}
