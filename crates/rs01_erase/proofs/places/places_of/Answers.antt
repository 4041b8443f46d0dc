use Rattle.std.proofs.Common.{get_or, length, ap, ◌∙◌, arith, false, subst, sym}
use Rattle.std.proofs.lemmas.List.{length-set, length-take}
use Rattle.rs01_erase.specs.Completion.{ArePlaces}
use Rattle.rs01_erase.proofs.ErasedPlaces.{flagged_are_places}
use Rattle.rs01_erase.proofs.RestoringLemmas.{one_more_found, none_more_found, all_found}
use Rattle.rs01_erase.proofs.places.places_of.Goals as goal
use Rattle.rs01_erase.proofs.places.places_of.Goals.{then-flag, else-flag}

pub loop-place-preserved : goal.loop-place-preserved
loop-place-preserved c =
    elim c.if-flag.branch [
      | then-flag w ↦ rw (w.places-is, w.count-is) (record {
        few = omega arith;
        long = length-set c.loop-place.places c.loop-place.count c.loop-place.place ∙ c.loop-place.invariant.long;
        found = one_more_found (λ p. get_or c.args.flags.now p false) c.loop-place.places c.loop-place.count c.loop-place.place (omega arith) w.if-flag.true c.loop-place.invariant.found;
      })
      | else-flag w ↦ rw (w.places-is, w.count-is) (record {
        few = omega arith;
        long = c.loop-place.invariant.long;
        found = none_more_found (λ p. get_or c.args.flags.now p false) c.loop-place.places c.loop-place.count c.loop-place.place w.if-flag.false c.loop-place.invariant.found;
      })
    ]

pub returns-clause-places : goal.returns-clause-places
returns-clause-places c = all_found c.args.flags.now c.loop-place.places c.loop-place.count c.loop-place.place (omega arith) c.loop-place.invariant.found

pub returns-clause-count : goal.returns-clause-count
returns-clause-count c =
    let found = all_found c.args.flags.now c.loop-place.places c.loop-place.count c.loop-place.place (omega arith) c.loop-place.invariant.found in
    omega (arith, length-take c.loop-place.count c.loop-place.places, ap length found)

pub returns-clause-sound : goal.returns-clause-sound
returns-clause-sound c =
    let found = all_found c.args.flags.now c.loop-place.places c.loop-place.count c.loop-place.place (omega arith) c.loop-place.invariant.found in
    subst ArePlaces (sym found) (flagged_are_places c.args.flags.now c.requires)
