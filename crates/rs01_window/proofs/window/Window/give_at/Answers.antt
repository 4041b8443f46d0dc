use Rattle.std.proofs.Common.{arith, ◌≡◌, Some, slice_get, sym, subst, length-set, refl}
use Rattle.rs01_window.specs.Machine.{Machine, machine_of, MayGive}
use Rattle.rs01_window.specs.declared.status.Status.TheVariants.{Idle, Holds}
use Rattle.rs01_window.proofs.SoundEvents.{sound_give}
use Rattle.rs01_window.proofs.KeptLemmas.{kept_on}
use Rattle.rs01_window.proofs.window.Window.give_at.Goals as goal

pub invariant_of-self : goal.invariant_of-self
invariant_of-self g c =
    let f = c.self.inside in
    let w = c.args.worker in
    let m : Machine = machine_of f.slots f.posted.items f.closed f.next f.workers.items f.results.items in
    let at : slice_get m.workers w ≡ Some (Holds c.args.ticket) = subst (λ (z : Machine). slice_get z.workers w ≡ Some (Holds c.args.ticket)) (sym c.self.view_is) c.requires.holds in
    let may : MayGive g.T.LayerTask.value m w c.args.given = subst (λ (z : Machine). MayGive g.T.LayerTask.value z w c.args.given) (sym c.self.view_is) c.requires.value in
    kept_on g.T.LayerTask.value m _ _ _ c.self.invariant refl (length-set f.workers.items w Idle)
    (sound_give g.T.LayerTask.value m c.self.invariant.sound w c.args.ticket c.args.given at may)
