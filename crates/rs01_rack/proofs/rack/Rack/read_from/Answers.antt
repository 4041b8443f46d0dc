use Rattle.std.proofs.Common.{arith}
use Rattle.rs01_rack.proofs.Places.{length_mapped}
use Rattle.rs01_rack.proofs.Walk.{none_rose, walk_end, walk_found, walk_on, walk_start}
use Rattle.rs01_rack.proofs.rack.Rack.read_from.Goals as goal

pub loop-place-init : goal.loop-place-init
loop-place-init g c = walk_start _ _ _ _ c.args.self.now.counted

pub returns-in-Ok-clause-asked : goal.returns-in-Ok-clause-asked
returns-in-Ok-clause-asked g c =
    let all = length_mapped (λ b. (goal.Drive-dyn g (b.vtable, b.value)).state b.value) c.args.self.now.drives.items c.len-place-end.result
    (omega (arith, c.len-place-end.ensures, c.args.self.now.drives.ok)) in
    walk_found _ _ _ _ c.in-Ok.count _ _ _ _ c.loop-place.invariant (omega (arith, all, c.loop-place-test.true)) c.in-Ok.ensures
    (omega (arith, c.saturating_add-self.ensures, c.from.ensures))

pub loop-place-preserved : goal.loop-place-preserved
loop-place-preserved g c =
    let all = length_mapped (λ b. (goal.Drive-dyn g (b.vtable, b.value)).state b.value) c.args.self.now.drives.items c.len-place-end.result
    (omega (arith, c.len-place-end.ensures, c.args.self.now.drives.ok)) in
    walk_on _ _ _ _ _ _ _ c.loop-place.invariant (omega (arith, all, c.loop-place-test.true)) c.in-Err.ensures
    (omega (arith, c.saturating_add-self-in-Err.ensures, c.from-in-Err.ensures))

pub returns : goal.returns
returns g c =
    let all = length_mapped (λ b. (goal.Drive-dyn g (b.vtable, b.value)).state b.value) c.args.self.now.drives.items c.len-place-end.result
    (omega (arith, c.len-place-end.ensures, c.args.self.now.drives.ok)) in
    let none =
    walk_end _ _ _ _ _ _ c.loop-place.invariant (omega (arith, all, c.loop-place-test.false))
    (λ low. let reached = c.loop-place.auto.place-end (omega (arith, all, low)) in omega (arith, all, reached)) in
    record { asked = none; cause = λ failed. none_rose _ _ _ _ _ c.requires none }
