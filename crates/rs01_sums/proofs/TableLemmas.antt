-- The tables' rules: each is tested once over all its entries, and follows at each entry.
use Rattle.std.proofs.Common.{◌≡◌, ℕ, zero, suc, ◌+◌, ◌*◌, ◌<◌, Bool, true, false, List, [], ◌∷◌, length, get_or, drop, eqb, refl, sym, ap, ◌∙◌, arith}
use Rattle.std.specs.Prelude.{◌&&◌}
use Rattle.std.proofs.lemmas.Bool.{and_parts, eqb-true, false≢true}
use Rattle.rs01_sums.specs.declared.tables.TheConstants.{AFTER_HALF, AFTER_ZEROS}
use Rattle.rs01_sums.specs.Crc.{after_zeros}
use Rattle.rs01_sums.proofs.ZeroLemmas.{after_zeros-add}

-- a row from byte b on, after n zero bits
abbrev is_row : ℕ → ℕ → List ℕ → Bool
is_row n b [] = true
is_row n b (v ∷ later) = eqb v (after_zeros n b) && is_row n (suc b) later

-- the rows from this number of zero bits on, eight more in each
abbrev are_rows : ℕ → List (List ℕ) → Bool
are_rows n [] = true
are_rows n (row ∷ later) = is_row n 0 row && are_rows (8 + n) later

abbrev all_have : ℕ → List (List ℕ) → Bool
all_have width [] = true
all_have width (row ∷ later) = eqb (length row) width && all_have width later

rows_test : are_rows 8 AFTER_ZEROS ≡ true
unfolding after_zeros
rows_test = refl

width_test : all_have 256 AFTER_ZEROS ≡ true
width_test = refl

row_at : (n b : ℕ) (row : List ℕ) (k : ℕ) → is_row n b row ≡ true → k < length row → get_or row k 0 ≡ after_zeros n (b + k)
row_at n b [] k e h = absurd (omega arith)
row_at n b (v ∷ later) zero e h =
    let both = and_parts (eqb v (after_zeros n b)) (is_row n (suc b) later) e in
    eqb-true v (after_zeros n b) both.0 ∙ ap (after_zeros n) (let same : b ≡ b + 0 = omega arith in same)
row_at n b (v ∷ later) (suc k) e h =
    let both = and_parts (eqb v (after_zeros n b)) (is_row n (suc b) later) e in
    row_at n (suc b) later k both.1 (omega arith) ∙ ap (after_zeros n) (let same : suc b + k ≡ b + suc k = omega arith in same)

rows_at : (n : ℕ) (rows : List (List ℕ)) (i k : ℕ) → are_rows n rows ≡ true → all_have 256 rows ≡ true → i < length rows → k < 256
    → get_or (get_or rows i []) k 0 ≡ after_zeros (8 * i + n) k
rows_at n [] i k e w hi hk = absurd (omega arith)
rows_at n (row ∷ later) zero k e w hi hk =
    let both = and_parts (is_row n 0 row) (are_rows (8 + n) later) e in
    let wide = eqb-true (length row) 256 ((and_parts (eqb (length row) 256) (all_have 256 later) w).0) in
    row_at n 0 row k both.0 (omega arith) ∙ (λ j. after_zeros ((let a : n ≡ 8 * 0 + n = omega arith in a) j) ((let c : 0 + k ≡ k = omega arith in c) j))
rows_at n (row ∷ later) (suc i) k e w hi hk =
    let both = and_parts (is_row n 0 row) (are_rows (8 + n) later) e in
    let wide = and_parts (eqb (length row) 256) (all_have 256 later) w in
    rows_at (8 + n) later i k both.1 wide.1 (omega arith) hk ∙ ap (λ m. after_zeros m k) (let a : 8 * i + (8 + n) ≡ 8 * suc i + n = omega arith in a)

pub table_at : (i k : ℕ) → i < 16 → k < 256 → get_or (get_or AFTER_ZEROS i []) k 0 ≡ after_zeros (8 * (i + 1)) k
table_at i k hi hk = rows_at 8 AFTER_ZEROS i k rows_test width_test hi hk ∙ ap (λ m. after_zeros m k) (let a : 8 * i + 8 ≡ 8 * (i + 1) = omega arith in a)

-- each number of a row is what four zero bits make of the one in the row before
abbrev follows : List ℕ → List ℕ → Bool
follows [] later = true
follows (u ∷ us) [] = false
follows (u ∷ us) (v ∷ vs) = eqb v (after_zeros 4 u) && follows us vs

abbrev all_follow : List ℕ → List (List ℕ) → Bool
all_follow row [] = true
all_follow row (next ∷ later) = follows row next && all_follow next later

first_test : is_row 8164 0 (get_or AFTER_HALF 0 []) ≡ true
unfolding after_zeros
first_test = refl

follow_test : all_follow (get_or AFTER_HALF 0 []) (drop 1 AFTER_HALF) ≡ true
unfolding after_zeros
follow_test = refl

half_width_test : all_have 16 AFTER_HALF ≡ true
half_width_test = refl

follows_at : (us vs : List ℕ) (k : ℕ) → follows us vs ≡ true → k < length us → get_or vs k 0 ≡ after_zeros 4 (get_or us k 0)
follows_at [] vs k e h = absurd (omega arith)
follows_at (u ∷ us) [] k e h = absurd (false≢true e)
follows_at (u ∷ us) (v ∷ vs) zero e h = eqb-true v (after_zeros 4 u) ((and_parts (eqb v (after_zeros 4 u)) (follows us vs) e).0)
follows_at (u ∷ us) (v ∷ vs) (suc k) e h = follows_at us vs k ((and_parts (eqb v (after_zeros 4 u)) (follows us vs) e).1) (omega arith)

far_rows : (n : ℕ) (row : List ℕ) (rows : List (List ℕ)) (i k : ℕ) → all_follow row rows ≡ true → all_have 16 (row ∷ rows) ≡ true
    → get_or row k 0 ≡ after_zeros n k → i < length (row ∷ rows) → k < 16 → get_or (get_or (row ∷ rows) i []) k 0 ≡ after_zeros (n + 4 * i) k
far_rows n row rows zero k e w held hi hk = held ∙ ap (λ m. after_zeros m k) (let same : n ≡ n + 4 * 0 = omega arith in same)
far_rows n row [] (suc i) k e w held hi hk = absurd (omega arith)
far_rows n row (next ∷ later) (suc i) k e w held hi hk =
    let both = and_parts (follows row next) (all_follow next later) e in
    let wide = and_parts (eqb (length row) 16) (all_have 16 (next ∷ later)) w in
    let width = eqb-true (length row) 16 wide.0 in
    far_rows (n + 4) next later i k both.1 wide.1
    (follows_at row next k both.0 (omega arith) ∙ ap (after_zeros 4) held ∙ sym (after_zeros-add n 4 k)) (omega arith) hk
    ∙ ap (λ m. after_zeros m k) (let a : n + 4 + 4 * i ≡ n + 4 * suc i = omega arith in a)

pub far_at : (i k : ℕ) → i < 8 → k < 16 → get_or (get_or AFTER_HALF i []) k 0 ≡ after_zeros (8164 + 4 * i) k
far_at i k hi hk =
    far_rows 8164 (get_or AFTER_HALF 0 []) (drop 1 AFTER_HALF) i k follow_test half_width_test
    (row_at 8164 0 (get_or AFTER_HALF 0 []) k first_test hk ∙ ap (after_zeros 8164) (let same : 0 + k ≡ k = omega arith in same)) hi hk
