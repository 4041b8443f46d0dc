use Rattle.std.proofs.Common.{◌≡◌, ℕ, ◌-◌, ◌<◌, ◌≤◌, ◌++◌, length, get_or}
use Rattle.std.specs.Global.{Vec}
use Rattle.rs01_create.specs.Windows.{in_run}
use Rattle.rs01_create.proofs.window.push_place.Given as goal

-- the lists before this one have their piece
pub record Pushing (l : goal.Live-loop-i) : Type 0 where
  pub whole : l.count ≡ length l.initial.blocks-items
  pub same : length l.blocks-items ≡ length l.initial.blocks-items
  pub grown : (k : ℕ) (d : Vec ℕ) → k < l.i → (get_or l.blocks-items k d).items ≡ (get_or l.initial.blocks-items k d).items ++ in_run l.run (l.count - 1 - k)
  pub rest : (k : ℕ) (d : Vec ℕ) → l.i ≤ k → get_or l.blocks-items k d ≡ get_or l.initial.blocks-items k d

abbrev pub invariant-loop-i : goal.invariant-loop-i
invariant-loop-i l = Pushing l
