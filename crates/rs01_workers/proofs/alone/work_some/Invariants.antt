use Rattle.std.proofs.Common.{◌≡◌, ◌-◌, ◌≤◌, ◌++◌, length, map}
use Rattle.std.specs.List.{All}
use Rattle.rs01_workers.specs.Work.{layers_in}
use Rattle.rs01_workers.proofs.alone.work_some.Given as goal

-- the filler gave these inputs, and each was worked
pub record Working (g : goal.Over) (l : goal.Live-loop-count g) : Type 0 where
  pub going : g.F.Filler.going l.fill
  pub leads : g.F.Filler.leads l.initial.fill l.fill
  pub grew : g.F.Filler.gave l.fill ≡ g.F.Filler.gave l.initial.fill ++ layers_in l.inputs.items
  pub fit : All (g.F.Filler.fits l.fill) l.inputs.items
  pub values : l.outs.items ≡ map g.T.LayerTask.value l.inputs.items
  pub long : length l.inputs.items ≡ l.count
  pub paired : length l.outs.items ≡ l.count
  pub small : l.count ≤ l.most

abbrev pub invariant-loop-count : goal.invariant-loop-count
invariant-loop-count g l = Working g l

abbrev pub decreases-loop-count : goal.decreases-loop-count
decreases-loop-count g l = l.most - l.count
