use Rattle.std.proofs.Common.{◌≡◌, ap, subst, ◌∙◌}
use Rattle.std.specs.Prelude.{slice_get}
use Rattle.std.specs.Option.{option_copied}
use Rattle.rs01_window.specs.Machine.{Machine, machine_of, given_in, given_for}
use Rattle.rs01_window.specs.WindowLaws.{KeepsOrder}
use Rattle.rs01_window.proofs.ListLemmas.{some_copied}
use Rattle.rs01_window.proofs.RunLemmas.{order_of}
use Rattle.rs01_window.proofs.window.Window.result.Goals as goal

pub returns : goal.returns
returns g c =
    let f = c.self.inside in
    let m : Machine = machine_of f.slots f.posted.items f.closed f.next f.workers.items f.results.items in
    let now : Machine = c.args.self.now in
    let order : KeepsOrder g.T.LayerTask.value now = subst (KeepsOrder g.T.LayerTask.value) c.self.view_is (order_of g.T.LayerTask.value m c.self.invariant.sound c.self.invariant.some_worker) in
    let is : option_copied c.given_at.result ≡ given_for now c.args.slot
    = c.given_at.ensures ∙ ap (λ l. given_in (slice_get l c.args.slot)) c.deref.ensures.value ∙ ap (λ (z : Machine). given_for z c.args.slot) c.self.view_is in
    record {
      given = is;
      value = order.values c.args.slot;
      all = λ over below. let given = order.given over c.args.slot below in some_copied c.given_at.result given.0 (is ∙ given.1);
    }
