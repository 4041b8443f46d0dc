use Rattle.std.proofs.Common.{arith, sym, ◌∙◌, string_bytes, refl}
use Rattle.std.proofs.lemmas.List.{length-map}
use Rattle.rs01_words.proofs.PlaceLists.{find-more, find_end}
use Rattle.rs01_words.proofs.Steps.{known_first}
use Rattle.rs01_words.proofs.Refusals.{first_fault-Some, first_fault-None, has_fault-no}
use Rattle.rs01_words.proofs.refusal.first_fault.Goals as goal

pub loop-place-init : goal.loop-place-init
loop-place-init c = record { known = known_first _ _ _ c.start-before.ensures; passed = refl }

pub returns-in-Some-clause-value : goal.returns-in-Some-clause-value
returns-in-Some-clause-value c =
    first_fault-Some _ _ _ _ _ c.loop-place.invariant.known.0 (omega (arith, length-map c.args.words.now string_bytes, c.loop-place-test.true)) (sym c.in-Some.is ∙ c.fault_in.ensures) c.loop-place.invariant.passed

pub loop-place-preserved : goal.loop-place-preserved
loop-place-preserved c = record {
  known = c.next-before.ensures;
  passed = find-more _ c.loop-place.place c.loop-place.invariant.known.0 (has_fault-no _ _ _ _ (sym c.in_default.is ∙ c.fault_in.ensures)) c.loop-place.invariant.passed;
}

pub returns : goal.returns
returns c =
    let long = length-map c.args.words.now string_bytes in
    record {
      value = first_fault-None _ _ _ c.loop-place.place (omega arith) (λ some. omega (arith, c.loop-place.auto.place-end)) c.loop-place.invariant.passed;
      clear = find_end _ c.loop-place.place _ (omega arith) (λ some. omega (arith, c.loop-place.auto.place-end)) c.loop-place.invariant.passed;
    }
