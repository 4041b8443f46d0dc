use Rattle.std.proofs.Common.{◌≡◌, ℕ, zero, suc, ◌+◌, ◌-◌, ◌^◌, ◌<◌, ◌≤◌, List, [], ◌∷◌, ◌++◌, length, get_or, set, take, drop, refl, sym, subst, ap, ◌∙◌, arith, bit_xor, All, Bool, IsTrue}
use Rattle.std.proofs.lemmas.List.{take_all, length-take-le}
use Rattle.std.proofs.lemmas.List.Elements.{All-get_or, All-from_get_or}
use Rattle.std.proofs.Math.Seq.{take-append_seam}
use Rattle.rs01_gf256.specs.Field.{times}
use Rattle.rs01_poly.proofs.Values.{AllBytes}
use Rattle.rs01_erase.specs.PowerSums.{power_sum, ArePowerSums, AreValues, Differ}
use Rattle.rs01_erase.proofs.Elimination.{empty_sum, products, length-products, AllBytes-products, still_sums, put_back, bytes_of_all}
use Rattle.rs01_erase.proofs.power_sums.+solve.Goals as goal

none : (xs : List ℕ) → length xs < 1 → xs ≡ []
none [] h = refl
none (x ∷ xs) h = absurd (omega arith)

single : (xs : List ℕ) → length xs ≡ 1 → xs ≡ get_or xs 0 0 ∷ []
single [] h = absurd (omega arith)
single (x ∷ xs) h = ap (λ ys. x ∷ ys) (none xs (omega arith))

first_and_others : (xs : List ℕ) → 1 ≤ length xs → xs ≡ get_or xs 0 0 ∷ take (length xs - 1) (drop 1 xs)
first_and_others [] h = absurd (omega arith)
first_and_others (x ∷ xs) h = ap (λ ys. x ∷ ys) (sym (take_all (suc (length xs) - 1) xs (omega arith)))

one_less : (xs : List ℕ) → 1 ≤ length xs → length (take (length xs - 1) (drop 1 xs)) + 1 ≡ length xs
one_less [] h = absurd (omega arith)
one_less (x ∷ xs) h = omega (arith, length-take-le (suc (length xs) - 1) xs (omega arith))

AllBytes-left : (xs ys : List ℕ) → AllBytes (xs ++ ys) → AllBytes xs
AllBytes-left [] ys h k = omega arith
AllBytes-left (x ∷ xs) ys h zero = h 0
AllBytes-left (x ∷ xs) ys h (suc k) = AllBytes-left xs ys (λ j. h (suc j)) k

bytes_along : (xs ys : List ℕ) → xs ≡ ys → AllBytes xs → AllBytes ys
bytes_along xs ys e h k = let P : List ℕ → Type 0 = λ zs. get_or zs k 0 < 2 ^ 8 in subst P e (h k)

joined : (sums head rest : List ℕ) → sums ≡ head ++ rest → length head ≡ 1 → sums ≡ get_or head 0 0 ∷ rest
joined sums head rest e one = e ∙ ap (λ h. h ++ rest) (single head one)

-- the first locator differs from the others
apart : (locs others : List ℕ) → locs ≡ get_or locs 0 0 ∷ others → Differ locs
    → (k : ℕ) → k < length others → get_or others k 0 ≡ get_or locs 0 0 → ⊥
apart locs others e differ k h same =
    let long : length locs ≡ suc (length others) = ap length e in
    differ 0 (suc k) (omega arith) (omega arith) (sym same ∙ sym (ap (λ l. get_or l (suc k) 0) e))

-- values of all sums give values of the sums without the first locator
without : (sums locs others head rest less : List ℕ) (b : Bool) → locs ≡ get_or locs 0 0 ∷ others → sums ≡ head ++ rest → length head ≡ 1
    → length less ≡ length rest → AllBytes locs
    → ((j : ℕ) → j < length rest → get_or less j 0 ≡ bit_xor (get_or rest j 0) (times (get_or locs 0 0) (get_or (get_or head 0 0 ∷ rest) j 0)))
    → ((vs : List ℕ) → AreValues less vs others → IsTrue b)
    → (vs : List ℕ) → AreValues sums vs locs → IsTrue b
without sums locs others head rest less b el es one same hl by found [] given =
    let long : length locs ≡ suc (length others) = ap length el in absurd (omega (arith, given.count))
without sums locs others head rest less b el es one same hl by found (v ∷ zs) given =
    let x = get_or locs 0 0 in
    let long : length locs ≡ suc (length others) = ap length el in
    let some : length sums ≡ suc (length rest) = ap length (joined sums head rest es one) in
    let bytes : AllBytes (v ∷ zs) = bytes_of_all (v ∷ zs) given.bytes in
    let all : AllBytes (x ∷ others) = bytes_along locs (x ∷ others) el hl in
    let lz : length zs ≡ length others = omega (arith, given.count) in
    found (products x zs others) (record {
      count = length-products x zs others lz;
      bytes = (All-from_get_or (λ v. v < 2 ^ 8) (products x zs others) 0 (λ k h. AllBytes-products x zs others (hl 0) (λ j. bytes (suc j)) (λ j. all (suc j)) k));
      sums_are = (still_sums x (get_or head 0 0) v rest less zs others (hl 0) (bytes 0) (λ j. bytes (suc j)) (λ j. all (suc j)) lz same by
          (λ j h. sym (ap (λ l. get_or l j 0) (joined sums head rest es one)) ∙ given.sums_are j (omega arith) ∙ ap (power_sum j (v ∷ zs)) el));
    })

-- the values of the sums without the first locator give the values of all
with_first : (sums locs others head rest less ys zs tail : List ℕ) (total : ℕ) → locs ≡ get_or locs 0 0 ∷ others → sums ≡ head ++ rest → length head ≡ 1
    → length less ≡ length rest → AllBytes locs → AllBytes (set head 0 (bit_xor (get_or head 0 0) total) ++ (zs ++ tail))
    → length ys ≡ length others → length zs ≡ length others
    → ((j : ℕ) → j < length rest → get_or less j 0 ≡ bit_xor (get_or rest j 0) (times (get_or locs 0 0) (get_or (get_or head 0 0 ∷ rest) j 0)))
    → ((k : ℕ) → k < length others → times (get_or zs k 0) (bit_xor (get_or others k 0) (get_or locs 0 0)) ≡ get_or ys k 0)
    → ((j : ℕ) → j < length less → get_or less j 0 ≡ power_sum j ys others)
    → total ≡ power_sum 0 zs others
    → (j : ℕ) → j < length sums → get_or sums j 0 ≡ power_sum j (take (length locs) (set head 0 (bit_xor (get_or head 0 0) total) ++ (zs ++ tail))) locs
with_first sums locs others head rest less ys zs tail total el es one same hl hf ly lz by each solved sum j h =
    let x = get_or locs 0 0 in
    let d = bit_xor (get_or head 0 0) total in
    let whole : sums ≡ get_or head 0 0 ∷ rest = joined sums head rest es one in
    let some : length sums ≡ suc (length rest) = ap length whole in
    let all : AllBytes (x ∷ others) = bytes_along locs (x ∷ others) el hl in
    let front : set head 0 d ++ (zs ++ tail) ≡ d ∷ (zs ++ tail) = ap (λ l. set l 0 d ++ (zs ++ tail)) (single head one) in
    let bytes : AllBytes (d ∷ (zs ++ tail)) = bytes_along (set head 0 d ++ (zs ++ tail)) (d ∷ (zs ++ tail)) front hf in
    let taken : take (length locs) (set head 0 d ++ (zs ++ tail)) ≡ d ∷ zs =
    (λ i. take (ap length el i) (front i)) ∙ ap (λ n. d ∷ take n (zs ++ tail)) (sym lz) ∙ ap (λ l. d ∷ l) (take-append_seam zs tail) in
    ap (λ l. get_or l j 0) whole
    ∙ put_back x (get_or head 0 0) d rest less ys zs others (hl 0) (bytes 0) (AllBytes-left zs tail (λ k. bytes (suc k))) (λ k. all (suc k)) ly lz each by
    (λ i l. solved i (omega arith)) (ap (bit_xor (get_or head 0 0)) sum) j (omega arith)
    ∙ (λ i. power_sum j (sym taken i) (sym el i))

-- with no locator every sum is 0
empty_solved : (sums locs : List ℕ) → length locs < 1 → All (λ s. s ≡ 0) sums
    → (j : ℕ) → j < length sums → get_or sums j 0 ≡ power_sum j (take (length locs) sums) locs
empty_solved sums locs h zeros j l =
    All-get_or (λ s. s ≡ 0) sums j 0 l zeros ∙ sym (empty_sum j [])
    ∙ (λ i. power_sum j (take (length (sym (none locs h) i)) sums) (sym (none locs h) i))

empty_zero : (sums locs values : List ℕ) → length locs < 1 → length values ≡ length locs → ArePowerSums sums values locs → All (λ s. s ≡ 0) sums
empty_zero sums locs values h lv eqs =
    All-from_get_or (λ s. s ≡ 0) sums 0 (λ j l. eqs j l ∙ ap (λ v. power_sum j v locs) (none values (omega arith)) ∙ empty_sum j locs)

pub returns-in-empty-clause-solved : goal.returns-in-empty-clause-solved
returns-in-empty-clause-solved t c = λ yes. empty_solved c.args.sums.now c.args.locators.now c.in-empty.len_below (c.all_zero.ensures.0 yes)

pub returns-in-empty-clause-found : goal.returns-in-empty-clause-found
returns-in-empty-clause-found t c = λ values given.
    c.all_zero.ensures.1 (empty_zero c.args.sums.now c.args.locators.now values c.in-empty.len_below given.count given.sums_are)

pub divide-requires-clause-apart : goal.divide-requires-clause-apart
divide-requires-clause-apart t c =
    apart c.args.locators.now _ (first_and_others c.args.locators.now c.in-len1-up.len_at_least) c.requires.differ

pub returns-then-not-solve-clause-found : goal.returns-then-not-solve-clause-found
returns-then-not-solve-clause-found t c =
    without c.args.sums.now c.args.locators.now _ c.split_at_mut-head.result.0.now c.split_at_mut-head.result.1.now c.eliminate.new.sums _
    (first_and_others c.args.locators.now c.in-len1-up.len_at_least) c.split_at_mut-head.ensures.value c.split_at_mut-head.ensures.front_len
    (omega arith) (λ k. (c.type_inv.locators k).fits) c.eliminate.ensures c.if-not-solve.ensures.found

pub returns-else-not-solve-clause-solved : goal.returns-else-not-solve-clause-solved
returns-else-not-solve-clause-solved t c = λ yes.
    let others : List ℕ = take (length c.args.locators.now - 1) (drop 1 c.args.locators.now) in
    let less : length others + 1 ≡ length c.args.locators.now = one_less c.args.locators.now c.in-len1-up.len_at_least in
    let given : length (take (length others) c.solve.new.sums) ≡ length others = length-take-le (length others) c.solve.new.sums (omega arith) in
    with_first c.args.sums.now c.args.locators.now others c.split_at_mut-head.result.0.now c.split_at_mut-head.result.1.now c.eliminate.new.sums
    (take (length others) c.solve.new.sums) c.divide.new.values (drop (length others) c.solve.new.sums) c.divide.result
    (first_and_others c.args.locators.now c.in-len1-up.len_at_least) c.split_at_mut-head.ensures.value c.split_at_mut-head.ensures.front_len
    (omega arith) (λ k. (c.type_inv.locators k).fits) (λ k. (c.type_inv.sums k).fits)
    given (omega arith)
    c.eliminate.ensures c.divide.ensures.quotients (c.if-not-solve.ensures.solved yes) c.divide.ensures.sum
