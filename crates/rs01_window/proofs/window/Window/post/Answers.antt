use Rattle.std.proofs.Common.{rules}
use Rattle.rs01_window.specs.Machine.{Machine, machine_of}
use Rattle.rs01_window.proofs.SoundEvents.{sound_post}
use Rattle.rs01_window.proofs.window.Window.post.Goals as goal

pub invariant_of-self : goal.invariant_of-self
invariant_of-self g c =
    let f = c.self.inside in
    let m : Machine = machine_of f.slots f.posted.items f.closed f.next f.workers.items f.results.items in
    let all = sound_post g.T.LayerTask.value m c.self.invariant.sound c.args.input c.if-self.false (search rules) in
    record {
      some_slot = c.self.invariant.some_slot;
      some_worker = c.self.invariant.some_worker;
      few_workers = c.self.invariant.few_workers;
      posted_fit = search rules;
      results_fit = search rules;
      sound = rw c.in-Ok.ensures.items (rw c.in-Ok-push.ensures.items all);
    }
