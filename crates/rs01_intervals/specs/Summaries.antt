-- The runs in a part of the flags, as far as joining parts asks for them.
use Rattle.std.specs.Prelude.{ℕ, ◌+◌, ◌-◌, ◌==◌, ◌&&◌, if◌then◌else◌, Bool, List, [], ◌∷◌}
use Rattle.rs01_intervals.specs.Runs.{head_len, better, best_run, behind}
use Rattle.rs01_intervals.specs.declared.summary.Summary.{Summary}

-- how many flags lie before the run that the list ends with
unfoldable pub tail_from : List Bool → ℕ
tail_from [] = 0
tail_from (flag ∷ flags) = if (tail_from flags == 0) && flag then 0 else 1 + tail_from flags

-- what is known of these flags, of which the first is that with the number `from`
unfoldable pub summary_of : ℕ → List Bool → Summary
summary_of from flags = record {
  from = from;
  head_end = from + head_len flags;
  tail_start = from + tail_from flags;
  best = behind from (best_run flags);
}

-- a place, or, where it is the seam of two parts, how far the run there goes beyond
abbrev pub carried : ℕ → ℕ → ℕ → ℕ
carried place seam beyond = if place == seam then beyond else place

-- what is known of two parts together, the second of which begins where the first ends
unfoldable pub joined : Summary → Summary → Summary
joined left right = record {
  from = left.from;
  head_end = carried left.head_end right.from right.head_end;
  tail_start = carried right.tail_start right.from left.tail_start;
  best = better (better left.best (left.tail_start, right.head_end - left.tail_start)) right.best;
}
