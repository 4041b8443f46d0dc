-- Fifteen columns that are transformed together, and the steps that do it.
use Rattle.std.specs.Prelude.{◌≡◌, ◌≢◌, false, ℕ, ◌+◌, ◌*◌, ◌<◌, ◌≤◌, List, [], ◌∷◌, ◌++◌, drop, length, map, slice_index}
use Rattle.rs01_columns.specs.Bank.{lane}
use Rattle.rs01_columns.specs.Program.{meaning}
use Rattle.rs01_columns.specs.declared.program.Step.{Step}

-- adds a multiple of one column to another
abbrev pub step : ℕ → ℕ → ℕ → Step
step into from factor = record { into = into; from = from; factor = factor; fresh = false }

-- the transform of three columns
abbrev pub three_steps : ℕ → ℕ → ℕ → List Step
three_steps x y z = step y z 1 ∷ step x y 1 ∷ step z x 1 ∷ step z y 0xaa ∷ step y z 1 ∷ []

-- the two halves of the transform of five columns
abbrev pub sum_steps : ℕ → ℕ → ℕ → ℕ → ℕ → List Step
sum_steps x y z u v = step y v 1 ∷ step z u 1 ∷ step v u 1 ∷ step u x 1 ∷ step u v 0xab ∷ step u y 0x6c ∷ step u z 0x18 ∷ []

abbrev pub result_steps : ℕ → ℕ → ℕ → ℕ → ℕ → List Step
result_steps x y z u v =
    step v u 1 ∷ step v y 0x74 ∷ step v z 0xdf ∷ step x y 1 ∷ step x z 1 ∷ step z y 1 ∷ step y z 0xab ∷ step z y 1 ∷ step y v 1 ∷ step z u 1 ∷ []

abbrev pub five_steps : ℕ → ℕ → ℕ → ℕ → ℕ → List Step
five_steps x y z u v = sum_steps x y z u v ++ result_steps x y z u v

-- the transform of fifteen columns, first by threes and then by fives
abbrev pub fifteen_steps : List Step
fifteen_steps =
    three_steps 0 5 10
    ++ (three_steps 1 6 11
    ++ (three_steps 2 7 12
    ++ (three_steps 3 8 13 ++ (three_steps 4 9 14 ++ (five_steps 0 1 2 3 4 ++ (five_steps 5 6 7 8 9 ++ five_steps 10 11 12 13 14))))))

-- a step between these columns, by their numbers in a list
abbrev pub moved : List ℕ → Step → Step
moved columns s = record { into = slice_index columns s.into; from = slice_index columns s.from; factor = s.factor; fresh = s.fresh }

-- fifteen columns of a word, all different
pub record AreFifteen (columns : List ℕ) : Type 0 where
  pub long : length columns ≡ 15
  pub below : (i : ℕ) → i < 15 → slice_index columns i < 255
  pub differ : (i k : ℕ) → i < 15 → k < i → slice_index columns i ≢ slice_index columns k

-- lane l of fifteen times sixteen bytes
abbrev pub lane_of : List ℕ → ℕ → ℕ → ℕ
lane_of room l j = slice_index room (16 * j + l)

-- in each of the sixteen lanes the new bytes are what f makes of the old ones
abbrev pub LanesBecome : List ℕ → List ℕ → ((ℕ → ℕ) → ℕ → ℕ) → Type 0
LanesBecome old new f = (l : ℕ) → l < 16 → (j : ℕ) → lane_of new l j ≡ f (lane_of old l) j

-- the steps from `place` on begin with n that do what these do
abbrev pub BeginsWith : List Step → ℕ → ℕ → List Step → Type 0
BeginsWith steps place n p = (f : ℕ → ℕ) (j : ℕ) → meaning (drop (place + n) steps) (meaning p f) j ≡ meaning (drop place steps) f j

-- the first n columns of the fifteen times sixteen bytes are those of a bank, from lane `on` on
abbrev pub HasTaken : List ℕ → List ℕ → List ℕ → ℕ → ℕ → Type 0
HasTaken room bank columns on n = (l i : ℕ) → l < 16 → i < n → lane_of room l i ≡ lane bank (on + l) (slice_index columns i)

-- those of a bank are they
abbrev pub HasPut : List ℕ → List ℕ → List ℕ → ℕ → ℕ → Type 0
HasPut bank room columns on n = (l i : ℕ) → l < 16 → i < n → lane bank (on + l) (slice_index columns i) ≡ lane_of room l i

-- only in these sixteen lanes of the first n columns a bank may have changed
abbrev pub OnlyInThese : List ℕ → List ℕ → List ℕ → ℕ → ℕ → Type 0
OnlyInThese old new columns on n =
    (l j : ℕ) → l < 1024 → ((i : ℕ) → i < n → on ≤ l → l < on + 16 → j ≡ slice_index columns i → ⊥) → lane new l j ≡ lane old l j
