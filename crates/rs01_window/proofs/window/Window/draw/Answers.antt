use Rattle.std.proofs.Common.{arith, ◌≡◌, ◌+◌, ◌≤◌, length, Some, slice_get, sym, subst, length-set, refl}
use Rattle.rs01_window.specs.Machine.{Machine, machine_of, IsIdle}
use Rattle.rs01_window.specs.declared.status.Status.TheVariants.{Idle, Waits}
use Rattle.rs01_window.proofs.SoundEvents.{few, sound_draw}
use Rattle.rs01_window.proofs.KeptLemmas.{kept_on}
use Rattle.rs01_window.proofs.window.Window.draw.Goals as goal

pub overflow_add-self : goal.overflow_add-self
overflow_add-self g c =
    let f = c.self.inside in
    let m : Machine = machine_of f.slots f.posted.items f.closed f.next f.workers.items f.results.items in
    let n : m.next ≤ m.slots + length m.workers = few g.T.LayerTask.value m c.self.invariant.sound in
    omega (arith, c.self.invariant.few_workers)

pub invariant_of-self : goal.invariant_of-self
invariant_of-self g c =
    let f = c.self.inside in
    let m : Machine = machine_of f.slots f.posted.items f.closed f.next f.workers.items f.results.items in
    let at : IsIdle m c.args.worker = subst (λ (z : Machine). IsIdle z c.args.worker) (sym c.self.view_is) c.requires in
    kept_on g.T.LayerTask.value m _ _ _ c.self.invariant refl (length-set f.workers.items c.args.worker (Waits f.next))
    (sound_draw g.T.LayerTask.value m c.self.invariant.sound c.args.worker at)
