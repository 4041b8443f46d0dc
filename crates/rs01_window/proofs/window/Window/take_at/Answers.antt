use Rattle.std.proofs.Common.{arith, rules, ◌≡◌, Some, slice_get, sym, subst, length-set, refl}
use Rattle.rs01_window.specs.Machine.{Machine, machine_of}
use Rattle.rs01_window.specs.declared.status.Status.TheVariants.{Waits, Holds, Over}
use Rattle.rs01_window.proofs.ListLemmas.{within}
use Rattle.rs01_window.proofs.SoundEvents.{sound_got, sound_over}
use Rattle.rs01_window.proofs.KeptLemmas.{kept_on}
use Rattle.rs01_window.proofs.window.Window.take_at.Goals as goal

pub invariant_of-self : goal.invariant_of-self
invariant_of-self g c =
    let f = c.self.inside in
    let w = c.args.worker in
    let m : Machine = machine_of f.slots f.posted.items f.closed f.next f.workers.items f.results.items in
    let at : slice_get m.workers w ≡ Some (Waits c.args.ticket) = subst (λ (z : Machine). slice_get z.workers w ≡ Some (Waits c.args.ticket)) (sym c.self.view_is) c.requires in
    kept_on g.T.LayerTask.value m _ _ _ c.self.invariant refl (length-set f.workers.items w (Holds c.args.ticket))
    (sound_got g.T.LayerTask.value m c.self.invariant.sound w c.args.ticket at (search rules))

pub index_mut-requires-then-self : goal.index_mut-requires-then-self
index_mut-requires-then-self g c =
    let f = c.self.inside in
    let w = c.args.worker in
    let at : slice_get f.workers.items w ≡ Some (Waits c.args.ticket) = subst (λ (z : Machine). slice_get z.workers w ≡ Some (Waits c.args.ticket)) (sym c.self.view_is) c.requires in
    let l = within f.workers.items w (Waits c.args.ticket) at in
    search rules

pub invariant_of-self-then-self : goal.invariant_of-self-then-self
invariant_of-self-then-self g c =
    let f = c.self.inside in
    let w = c.args.worker in
    let m : Machine = machine_of f.slots f.posted.items f.closed f.next f.workers.items f.results.items in
    let at : slice_get m.workers w ≡ Some (Waits c.args.ticket) = subst (λ (z : Machine). slice_get z.workers w ≡ Some (Waits c.args.ticket)) (sym c.self.view_is) c.requires in
    kept_on g.T.LayerTask.value m _ _ _ c.self.invariant refl (length-set f.workers.items w Over)
    (sound_over g.T.LayerTask.value m c.self.invariant.sound w c.args.ticket at (search rules) (search rules))
