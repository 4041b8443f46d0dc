-- A tree of summaries over the flags.
use Rattle.std.specs.Prelude.{◌≡◌, ◌≢◌, ℕ, ◌+◌, ◌-◌, ◌*◌, ◌^◌, ◌<◌, ◌≤◌, min, Bool, List, [], length, take, drop, slice_index_or}
use Rattle.std.specs.Int.{IsPowerOfTwo}
use Rattle.rs01_intervals.specs.Summaries.{summary_of, joined}
use Rattle.rs01_intervals.specs.declared.summary.Summary.{Summary}

-- the flags whose numbers lie from one up to below another
unfoldable pub between : List Bool → ℕ → ℕ → List Bool
between flags from to = take (to - from) (drop from flags)

-- what is known of the flags from one number up to another
abbrev pub summary_between : List Bool → ℕ → ℕ → Summary
summary_between flags from to = summary_of from (between flags from to)

-- the number of the first flag of a chunk; chunks past the flags are empty
abbrev pub chunk_from : List Bool → ℕ → ℕ
chunk_from flags chunk = min (64 * chunk) (length flags)

-- what is known of the flags from one chunk up to another
abbrev pub summary_of_chunks : List Bool → ℕ → ℕ → Summary
summary_of_chunks flags a b = summary_between flags (chunk_from flags a) (chunk_from flags b)

-- what is known of one chunk
unfoldable pub summary_of_chunk : List Bool → ℕ → Summary
summary_of_chunk flags chunk = summary_of_chunks flags chunk (chunk + 1)

-- the node with a number
abbrev pub node_at : List Summary → ℕ → Summary
node_at nodes j = slice_index_or nodes j (summary_of 0 [])

-- a node joins its two children
abbrev pub Joins : List Summary → ℕ → Type 0
Joins nodes j = node_at nodes j ≡ joined (node_at nodes (2 * j)) (node_at nodes (2 * j + 1))

-- each inner node joins its children, except perhaps one
abbrev pub AllJoinExcept : ℕ → ℕ → List Summary → Type 0
AllJoinExcept leaves stale nodes = (j : ℕ) → 1 ≤ j → j < leaves → j ≢ stale → Joins nodes j

-- the leaves stay
abbrev pub LeavesStay : ℕ → List Summary → List Summary → Type 0
LeavesStay leaves old new = (j : ℕ) → leaves ≤ j → node_at new j ≡ node_at old j

-- the nodes are a tree over the flags: a leaf for each chunk, and inner nodes that join
pub record IsTree (flags : List Bool) (leaves : ℕ) (nodes : List Summary) : Type 0 where
  pub few : length flags < 2 ^ 32
  pub power : IsPowerOfTwo leaves
  pub covers : length flags ≤ 64 * leaves
  pub count : length nodes ≡ 2 * leaves
  pub leaf : (c : ℕ) → c < leaves → node_at nodes (leaves + c) ≡ summary_of_chunk flags c
  pub inner : (j : ℕ) → 1 ≤ j → j < leaves → Joins nodes j
