-- Flags of the numbers from 0 on.
use Rattle.std.proofs.Common.{◌≡◌, ℕ, ◌+◌, ◌<◌, List, length, map, get_or, ap, ◌∙◌, arith, Bool}
use Rattle.std.specs.List.{range_with_len}
use Rattle.std.proofs.lemmas.List.FromFn.{length-range_with_len, get_or-map-range_with_len}
use Rattle.std.proofs.lemmas.List.{length-map}

pub all_flags : (f : ℕ → Bool) (flags : List Bool) (n : ℕ) → flags ≡ map f (range_with_len 0 n) → length flags ≡ n
all_flags f flags n e = ap length e ∙ length-map (range_with_len 0 n) f ∙ length-range_with_len 0 n

pub flag_of : (f : ℕ → Bool) (flags : List Bool) (n s : ℕ) (d : Bool) → flags ≡ map f (range_with_len 0 n) → s < n → get_or flags s d ≡ f s
flag_of f flags n s d e h = ap (λ xs. get_or xs s d) e ∙ get_or-map-range_with_len f 0 n s s d h (let z : 0 + s ≡ s = omega arith in z)
