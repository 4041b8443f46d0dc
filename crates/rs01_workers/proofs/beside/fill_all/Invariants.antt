use Rattle.std.proofs.Common.{◌≡◌, ◌-◌, ◌≤◌, ◌++◌, length, false}
use Rattle.std.specs.List.{All}
use Rattle.rs01_table.specs.Seats.{IsPosterOf, is_closed, posted_by}
use Rattle.rs01_workers.specs.Filling.{KeepsPoster}
use Rattle.rs01_workers.specs.Work.{layers_in}
use Rattle.rs01_workers.proofs.beside.fill_all.Given as goal

-- what the filler gave is posted
pub record Posting (g : goal.Over) (l : goal.Live-loop-count g) : Type 0 where
  pub mine : IsPosterOf l.table l.poster
  pub keeps : KeepsPoster l.initial.poster l.poster
  pub is_open : is_closed l.poster ≡ false
  pub going : g.F.Filler.going l.fill
  pub leads : g.F.Filler.leads l.initial.fill l.fill
  pub grew : g.F.Filler.gave l.fill ≡ g.F.Filler.gave l.initial.fill ++ layers_in (posted_by l.poster)
  pub fit : All (g.F.Filler.fits l.fill) (posted_by l.poster)
  pub long : length (posted_by l.poster) ≡ l.count
  pub small : l.count ≤ 64

abbrev pub invariant-loop-count : goal.invariant-loop-count
invariant-loop-count g l = Posting g l

abbrev pub decreases-loop-count : goal.decreases-loop-count
decreases-loop-count g l = 64 - l.count
