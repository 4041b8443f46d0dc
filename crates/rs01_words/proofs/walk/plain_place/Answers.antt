use Rattle.std.proofs.Common.{◌≡◌, ap, arith, sym, ◌∙◌, length}
use Rattle.rs01_words.specs.Line.{is_plain, plain_places, texts}
use Rattle.rs01_words.proofs.PlaceLists.{count-keep, count-most, where-one, where_at, where_end}
use Rattle.rs01_words.proofs.Steps.{known_first}
use Rattle.rs01_words.proofs.walk.plain_place.Goals as goal
use Rattle.rs01_words.proofs.walk.plain_place.Goals.{else-before-number-via-then-before-number+else-is_plain, else-before-number-via-else-before-number}

pub loop-place-init : goal.loop-place-init
loop-place-init c = record {
  known = known_first _ _ _ c.start-before.ensures;
  passed = omega (arith, ap length (where-one (is_plain c.args.verb (texts c.args.words.now))));
}

pub returns-then-is_plain-clause-value : goal.returns-then-is_plain-clause-value
returns-then-is_plain-clause-value c =
    where_at _ _ _ _ c.loop-place.invariant.known.0 c.loop-place-test.true (sym c.is_plain.ensures ∙ c.if-is_plain.true)
    (sym c.if-before-number.true ∙ ap (λ b. b.plain) c.loop-place.invariant.known.1)

pub loop-place-preserved : goal.loop-place-preserved
loop-place-preserved c =
    let texts = texts c.args.words.now in
    let i = c.loop-place.place in
    let known : c.loop-place.before.plain ≡ length (plain_places c.args.verb texts i) = ap (λ b. b.plain) c.loop-place.invariant.known.1 in
    record {
      known = c.next-before.ensures;
      passed = elim c.else-before-number.branch [
        | else-before-number-via-then-before-number+else-is_plain w ↦
            omega (arith, count-keep (is_plain c.args.verb texts) i c.loop-place.invariant.known.0 (sym w.is_plain.ensures ∙ w.if-is_plain.false))
        | else-before-number-via-else-before-number w ↦ omega (arith, count-most (is_plain c.args.verb texts) i c.loop-place.invariant.known.0)
      ];
    }

pub returns-clause-value : goal.returns-clause-value
returns-clause-value c =
    where_end _ c.loop-place.place _ _ c.loop-place-test.false c.loop-place.auto.place-end c.loop-place.invariant.passed
