use Rattle.std.proofs.Common.{◌≡◌, map, get_or}
use Rattle.std.specs.List.{range_with_len}
use Rattle.rs01_erase.specs.Restoring.{block_in}
use Rattle.rs01_erase.proofs.correct.place_blocks.Given as goal

-- the list has the places so far with their blocks
abbrev pub invariant-loop-k : goal.invariant-loop-k
invariant-loop-k l =
    l.list.items ≡ map (λ j. record { place = get_or l.erased j 0; block = block_in l.restored j }) (range_with_len 0 l.k)
