-- How full the layers are of erased sectors.
use Rattle.std.specs.Prelude.{ℕ, nat_le, nat_lt, List, count_by, slice_index}
use Rattle.std.specs.List.{list_all, position_or_len}
use Rattle.rs01_report.specs.declared.reports.Fullest.{Fullest}

-- the first place of a list that no number of it is above
unfoldable pub first_largest : List ℕ → ℕ
first_largest counts = position_or_len (λ most. list_all (λ count. nat_le count most) counts) counts

-- the first of the layers with most erased sectors, and how many layers have more than r of them
unfoldable pub fullest_of : List ℕ → ℕ → Fullest
fullest_of counts r = record {
  layer = first_largest counts;
  erased = slice_index counts (first_largest counts);
  parity = r;
  beyond = count_by (λ count. nat_lt r count) counts;
}
