-- The first of the largest numbers of a list.
use Rattle.std.proofs.Common.{◌≡◌, ℕ, suc, ◌<◌, ◌≤◌, List, [], ◌∷◌, length, get_or, refl, sym, arith, Bool, true}
use Rattle.std.specs.Prelude.{nat_le}
use Rattle.std.specs.List.{list_all}
use Rattle.std.proofs.lemmas.Bool.{and_from, le-leb, lt-leb}
use Rattle.std.proofs.lemmas.List.Folds.{list_all_at}
use Rattle.std.proofs.lemmas.List.Sums.{position_or_len_is}
use Rattle.rs01_verify.specs.Fullness.{first_largest}

-- all numbers are at most m
all_at_most : (xs : List ℕ) (m : ℕ) → ((k : ℕ) → k < length xs → get_or xs k 0 ≤ m) → list_all (λ x. nat_le x m) xs ≡ true
all_at_most [] m h = refl
all_at_most (x ∷ xs) m h =
    and_from (nat_le x m) (list_all (λ x. nat_le x m) xs) (le-leb x m (h 0 (omega arith)))
    (all_at_most xs m (λ k l. h (suc k) (omega arith)))

pub first_largest_is : (counts : List ℕ) (best : ℕ) → best ≤ length counts → (0 < length counts → best < length counts)
    → ((k : ℕ) → k < length counts → get_or counts k 0 ≤ get_or counts best 0)
    → ((k : ℕ) → k < best → get_or counts k 0 < get_or counts best 0)
    → best ≡ first_largest counts
unfolding first_largest
first_largest_is counts best le within below before =
    let test : ℕ → Bool = λ most. list_all (λ count. nat_le count most) counts in
    sym (position_or_len_is test counts best 0 le
    (λ k l. list_all_at (λ count. nat_le count (get_or counts k 0)) counts best 0 (within (omega arith)) (lt-leb (get_or counts best 0) (get_or counts k 0) (before k l)))
    (λ l. all_at_most counts (get_or counts best 0) below))
