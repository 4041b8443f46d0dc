use Rattle.std.proofs.Common.{◌≡◌, length}
use Rattle.rs01_create.specs.Windows.{AllLong}
use Rattle.rs01_create.proofs.window.empty_lists.Given as goal

pub record Emptying (l : goal.Live-loop) : Type 0 where
  pub count_is : length l.lists.items ≡ l.counter
  pub none : AllLong 0 l.lists.items

abbrev pub invariant-loop : goal.invariant-loop
invariant-loop l = Emptying l
