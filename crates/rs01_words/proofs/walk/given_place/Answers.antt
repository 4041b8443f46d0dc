use Rattle.std.proofs.Common.{ap, arith, length, sym, ◌∙◌}
use Rattle.rs01_words.specs.Line.{is_given, texts}
use Rattle.rs01_words.proofs.PlaceLists.{count-keep, count-push, where-one, where_at, where_end}
use Rattle.rs01_words.proofs.Steps.{known_first}
use Rattle.rs01_words.proofs.walk.given_place.Goals as goal
use Rattle.rs01_words.proofs.walk.given_place.Goals.{then-is_given+else-seen-count, else-is_given}

pub loop-place-init : goal.loop-place-init
loop-place-init c = record {
  known = known_first _ _ _ c.start-before.ensures;
  counted = sym (ap length (where-one (is_given c.args.verb (texts c.args.words.now) c.args.option.now)));
  passed = omega arith;
}

pub returns-then-seen-count-clause-value : goal.returns-then-seen-count-clause-value
returns-then-seen-count-clause-value c =
    where_at _ _ _ _ c.loop-place.invariant.known.0 c.loop-place-test.true (sym c.is_given.ensures ∙ c.if-is_given.true)
    (sym c.if-seen-count.true ∙ c.loop-place.invariant.counted)

pub loop-place-preserved : goal.loop-place-preserved
loop-place-preserved c =
    let test = is_given c.args.verb (texts c.args.words.now) c.args.option.now in
    let i = c.loop-place.place in
    record {
      known = c.next-before.ensures;
      counted = elim c.if-is_given.branch [
        | then-is_given+else-seen-count w ↦ omega (arith, count-push test i c.loop-place.invariant.known.0 (sym c.is_given.ensures ∙ w.if-is_given.true))
        | else-is_given w ↦ omega (arith, count-keep test i c.loop-place.invariant.known.0 (sym c.is_given.ensures ∙ w.if-is_given.false))
      ];
      passed = elim c.if-is_given.branch [ then-is_given+else-seen-count w ↦ omega arith | else-is_given w ↦ omega arith ];
    }

pub returns-clause-value : goal.returns-clause-value
returns-clause-value c =
    where_end _ c.loop-place.place _ _ c.loop-place-test.false c.loop-place.auto.place-end (omega (arith, c.loop-place.invariant.counted, c.loop-place.invariant.passed))
