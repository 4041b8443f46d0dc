use Rattle.std.proofs.Common.{arith, rules, ◌≡◌, [], length, ap, ◌∙◌, replicate, false}
use Rattle.std.proofs.lemmas.List.{length-replicate}
use Rattle.rs01_window.specs.Machine.{machine_of}
use Rattle.rs01_window.specs.Soundness.{IsSound}
use Rattle.rs01_window.specs.declared.status.Status.TheVariants.{Idle}
use Rattle.rs01_window.proofs.SoundEvents.{sound_fresh}
use Rattle.rs01_window.proofs.window.Window.new.Goals as goal

pub invariant_of-result : goal.invariant_of-result
invariant_of-result g c =
    let idle : c.in_ok-workers.workers.items ≡ replicate c.args.workers Idle = c.in_ok-workers.ensures in
    let empty : c.in_ok-posted.posted.items ≡ [] = c.in_ok-posted.ensures.items in
    let empty' : c.in_ok-results.results.items ≡ [] = c.in_ok-results.ensures.items in
    let all : IsSound g.T.LayerTask.value (machine_of c.args.slots c.in_ok-posted.posted.items false 0 c.in_ok-workers.workers.items c.in_ok-results.results.items)
    = rw idle (rw empty (rw empty' (sound_fresh g.T.LayerTask.value c.args.slots c.args.workers))) in
    let long : length c.in_ok-workers.workers.items ≡ c.args.workers = ap length idle ∙ length-replicate c.args.workers Idle in
    record {
      some_slot = c.requires.slots;
      some_worker = omega (arith, c.requires.workers, long);
      few_workers = omega (arith, long);
      posted_fit = search rules;
      results_fit = search rules;
      sound = all;
    }
