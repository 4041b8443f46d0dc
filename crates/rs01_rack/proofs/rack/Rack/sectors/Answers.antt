use Rattle.std.proofs.Common.{Ok, Err, arith, refl}
use Rattle.rs01_rack.specs.declared.refusal.RackRefusal.TheVariants.{Differ, NoDrive}
use Rattle.rs01_rack.proofs.Places.{length_mapped}
use Rattle.rs01_rack.proofs.Numbers.{all_kept, count_failed, count_on, count_start, failed_rose, given, seen_none, seen_some}
use Rattle.rs01_rack.proofs.Told.{told_number}
use Rattle.rs01_rack.proofs.rack.Rack.sectors.Goals as goal

pub loop-place-init : goal.loop-place-init
loop-place-init g c = count_start _

pub loop-place-preserved : goal.loop-place-preserved
loop-place-preserved g c = count_on _ _ _ _ _ _ _ c.loop-place.invariant c.in-Ok.ensures refl c.and_then-seen.ensures

pub returns-in-Err : goal.returns-in-Err
returns-in-Err g c =
    let all = length_mapped (λ b. (goal.Drive-dyn g (b.vtable, b.value)).state b.value) c.args.self.now.drives.items c.len-place-end.result
    (omega (arith, c.len-place-end.ensures, c.args.self.now.drives.ok)) in
    let failed = count_failed _ _ _ _ _ _ c.loop-place.invariant (omega (arith, all, c.loop-place-test.true)) c.in-Err.ensures refl in
    record { asked = failed; cause = failed_rose _ _ _ failed; told = told_number _ _ _ failed }

pub returns-in-None-default : goal.returns-in-None-default
returns-in-None-default g c =
    let up = c.loop-place.invariant in
    let all = length_mapped (λ b. (goal.Drive-dyn g (b.vtable, b.value)).state b.value) c.args.self.now.drives.items c.len-place-end.result
    (omega (arith, c.len-place-end.ensures, c.args.self.now.drives.ok)) in
    let gives =
    given (Err NoDrive) _ _ _ _ up (omega (arith, all, up.long, c.loop-place-test.false, c.loop-place.auto.place-end), seen_none _ _ c.in-None-default.is-0 up.seen) in
    record { asked = gives; cause = all_kept _ _ _ gives.counted gives.ends.0; told = told_number _ _ _ gives }

pub returns-in-Some-None : goal.returns-in-Some-None
returns-in-Some-None g c =
    let up = c.loop-place.invariant in
    let all = length_mapped (λ b. (goal.Drive-dyn g (b.vtable, b.value)).state b.value) c.args.self.now.drives.items c.len-place-end.result
    (omega (arith, c.len-place-end.ensures, c.args.self.now.drives.ok)) in
    let gives =
    given (Ok c.in-Some-None.number) _ _ _ _ up (omega (arith, all, up.long, c.loop-place-test.false, c.loop-place.auto.place-end), seen_some _ _ _ _ c.in-Some-None.is-0 c.in-Some-None.is-1 up.seen) in
    record { asked = gives; cause = all_kept _ _ _ gives.counted gives.ends.0; told = told_number _ _ _ gives }

pub returns-in-Some-Some : goal.returns-in-Some-Some
returns-in-Some-Some g c =
    let up = c.loop-place.invariant in
    let all = length_mapped (λ b. (goal.Drive-dyn g (b.vtable, b.value)).state b.value) c.args.self.now.drives.items c.len-place-end.result
    (omega (arith, c.len-place-end.ensures, c.args.self.now.drives.ok)) in
    let gives =
    given (Err (Differ c.in-Some-Some.number c.in-Some-Some.other)) _ _ _ _ up (omega (arith, all, up.long, c.loop-place-test.false, c.loop-place.auto.place-end), seen_some _ _ _ _ c.in-Some-Some.is-0 c.in-Some-Some.is-1 up.seen) in
    record { asked = gives; cause = all_kept _ _ _ gives.counted gives.ends.0; told = told_number _ _ _ gives }
