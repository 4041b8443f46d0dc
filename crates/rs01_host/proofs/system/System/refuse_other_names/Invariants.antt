-- Nothing failed so far, and no file before the loop's place is the one that is to be changed, but for that one.
use Rattle.std.proofs.Common.{◌≡◌, ◌≢◌, ◌<◌, ℕ, slice_index_or}
use Rattle.rs01_host.specs.declared.system.Kept.{Kept}
use Rattle.rs01_host.proofs.system.System.refuse_other_names.Given as goal

abbrev pub invariant-loop-k : goal.invariant-loop-k
invariant-loop-k g l =
    (l.faults.count ≡ l.initial.faults.count) × ((j : ℕ) (d : Kept) → j < l.k → j ≢ l.place → (slice_index_or l.self.kept.items j d).opened.identity ≢ (slice_index_or l.self.kept.items l.place d).opened.identity)
