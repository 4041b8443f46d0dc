-- The files that a desk keeps open.
use Rattle.std.specs.Prelude.{ℕ, ◌<◌, ◌≢◌, List, length, slice_index_or}
use Rattle.rs01_host.specs.declared.system.Kept.{Kept}

-- no other open file is the one at a place
abbrev pub IsAlone : List Kept → ℕ → Type 0
IsAlone kept place = (k : ℕ) (d : Kept) → k < length kept → k ≢ place
    → (slice_index_or kept k d).opened.identity ≢ (slice_index_or kept place d).opened.identity
