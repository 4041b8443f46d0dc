use Rattle.std.proofs.Common.{◌≡◌, ◌++◌, length, map}
use Rattle.std.specs.List.{All}
use Rattle.std.specs.Vec.Iter.{into_iter_items, into_iter_len}
use Rattle.rs01_table.specs.Views.{IsRight, source}
use Rattle.rs01_workers.proofs.finish.finish.Given as goal

-- the inputs so far have their values, and the others are still to come
pub record Finishing (g : goal.Over) (l : goal.Live-loop-one g) : Type 0 where
  pub rest : into_iter_len l.one-iterator ≡ length (into_iter_items l.one-iterator)
  pub inputs_are : l.inputs.items ++ map source (into_iter_items l.one-iterator) ≡ map source (into_iter_items l.initial.one-iterator)
  pub fit : All g.T.LayerTask.fit (map source (into_iter_items l.one-iterator))
  pub right : All (IsRight g.T.LayerTask.value) (into_iter_items l.one-iterator)
  pub values : l.outs.items ≡ map g.T.LayerTask.value l.inputs.items

abbrev pub invariant-loop-one : goal.invariant-loop-one
invariant-loop-one g l = Finishing g l
