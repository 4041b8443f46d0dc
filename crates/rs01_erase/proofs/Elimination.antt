-- Power sums: what taking one locator away from them leaves, and that it can be undone.
use Rattle.std.proofs.Common.{◌≡◌, ℕ, zero, suc, ◌+◌, ◌^◌, ◌<◌, List, [], ◌∷◌, length, get_or, take, refl, sym, ap, ◌∙◌, arith, bit_xor, add-one, All, ⊎_elim}
use Rattle.std.proofs.lemmas.Bool.{cases_lt}
use Rattle.std.proofs.lemmas.List.{get_or_past}
use Rattle.std.proofs.lemmas.List.Elements.{All-get_or}
use Rattle.std.proofs.lemmas.Nat.{xor_lt}
use Rattle.std.specs.Int.Bits.{xor_assoc, xor_zero_r, xor_zero_l, xor_self}
use Rattle.rs01_gf256.specs.Field.{times, power}
use Rattle.rs01_gf256.proofs.Laws.{xor_swap, times-comm, times-assoc, times-xor_left, times-xor_right, times-zero}
use Rattle.rs01_gf256.proofs.Logarithms.{times_below, power_below}
use Rattle.rs01_poly.proofs.Values.{AllBytes, times-one}
use Rattle.rs01_erase.specs.PowerSums.{power_sum}

-- (a + b) + b is a
pub twice : (a b : ℕ) → bit_xor (bit_xor a b) b ≡ a
twice a b = xor_assoc a b b ∙ ap (bit_xor a) (xor_self b) ∙ xor_zero_r a

-- a summand moves to the other side
pub moved : (a b c : ℕ) → a ≡ bit_xor b c → b ≡ bit_xor a c
moved a b c e = sym (twice b c) ∙ ap (λ v. bit_xor v c) (sym e)

past : (y c p : ℕ) → y < 2 ^ 8 → c < 2 ^ 8 → p < 2 ^ 8 → times y (times c p) ≡ times c (times y p)
past y c p hy hc hp = sym (times-assoc y c p hy hc hp) ∙ ap (λ v. times v p) (times-comm y c hy hc) ∙ times-assoc c y p hc hy hp

-- y * (x + c) * p is y * (x * p) + c * (y * p)
one_term : (y x c p : ℕ) → y < 2 ^ 8 → x < 2 ^ 8 → c < 2 ^ 8 → p < 2 ^ 8
    → times (times y (bit_xor x c)) p ≡ bit_xor (times y (times x p)) (times c (times y p))
one_term y x c p hy hx hc hp =
    times-assoc y (bit_xor x c) p hy (xor_lt 8 x c hx hc) hp
    ∙ ap (times y) (times-xor_left x c p)
    ∙ times-xor_right y (times x p) (times c p)
    ∙ ap (bit_xor (times y (times x p))) (past y c p hy hc hp)

-- the sums of values that were multiplied by the sum of their locator and c
pub sum_of_products : (c j : ℕ) (ys zs xs : List ℕ) → c < 2 ^ 8 → AllBytes zs → AllBytes xs → length ys ≡ length xs → length zs ≡ length xs
    → ((k : ℕ) → k < length xs → times (get_or zs k 0) (bit_xor (get_or xs k 0) c) ≡ get_or ys k 0)
    → power_sum j ys xs ≡ bit_xor (power_sum (suc j) zs xs) (times c (power_sum j zs xs))
unfolding power_sum power
sum_of_products c j [] [] xs hc hz hx ly lz each = sym (times-zero c)
sum_of_products c j (y ∷ ys) [] xs hc hz hx ly lz each = absurd (omega arith)
sum_of_products c j [] (z ∷ zs) xs hc hz hx ly lz each = absurd (omega arith)
sum_of_products c j (y ∷ ys) (z ∷ zs) [] hc hz hx ly lz each = absurd (omega arith)
sum_of_products c j (y ∷ ys) (z ∷ zs) (x ∷ xs) hc hz hx ly lz each =
    let p = power x j in
    let hp : p < 2 ^ 8 = power_below x j (hx 0) in
    let here : times y p ≡ bit_xor (times z (times x p)) (times c (times z p)) =
    ap (λ v. times v p) (sym (each 0 (omega arith))) ∙ one_term z x c p (hz 0) (hx 0) hc hp in
    let later : power_sum j ys xs ≡ bit_xor (power_sum (suc j) zs xs) (times c (power_sum j zs xs)) =
    sum_of_products c j ys zs xs hc (λ k. hz (suc k)) (λ k. hx (suc k)) (omega arith) (omega arith) (λ k h. each (suc k) (omega arith)) in
    (λ i. bit_xor (here i) (later i))
    ∙ xor_swap (times z (times x p)) (times c (times z p)) (power_sum (suc j) zs xs) (times c (power_sum j zs xs))
    ∙ ap (bit_xor (bit_xor (times z (times x p)) (power_sum (suc j) zs xs))) (sym (times-xor_right c (times z p) (power_sum j zs xs)))

-- the next sum of all values, with the sum before it times the first locator: the first value is gone
pub without_first : (x j v : ℕ) (zs xs : List ℕ) → x < 2 ^ 8 → v < 2 ^ 8
    → bit_xor (power_sum (suc j) (v ∷ zs) (x ∷ xs)) (times x (power_sum j (v ∷ zs) (x ∷ xs)))
    ≡ bit_xor (power_sum (suc j) zs xs) (times x (power_sum j zs xs))
unfolding power_sum power
without_first x j v zs xs hx hv =
    let p = power x j in
    let hp : p < 2 ^ 8 = power_below x j hx in
    let t = times v (times x p) in
    ap (bit_xor (bit_xor t (power_sum (suc j) zs xs)))
    (times-xor_right x (times v p) (power_sum j zs xs) ∙ ap (λ w. bit_xor w (times x (power_sum j zs xs))) (sym (past v x p hv hx hp)))
    ∙ xor_swap t (power_sum (suc j) zs xs) t (times x (power_sum j zs xs))
    ∙ ap (λ w. bit_xor w (bit_xor (power_sum (suc j) zs xs) (times x (power_sum j zs xs)))) (xor_self t)
    ∙ xor_zero_l (bit_xor (power_sum (suc j) zs xs) (times x (power_sum j zs xs)))

-- the sums of all values, where the sums without the first are those of the products
pub put_back : (x s d : ℕ) (rest less ys zs xs : List ℕ) → x < 2 ^ 8 → d < 2 ^ 8 → AllBytes zs → AllBytes xs
    → length ys ≡ length xs → length zs ≡ length xs
    → ((k : ℕ) → k < length xs → times (get_or zs k 0) (bit_xor (get_or xs k 0) x) ≡ get_or ys k 0)
    → ((j : ℕ) → j < length rest → get_or less j 0 ≡ bit_xor (get_or rest j 0) (times x (get_or (s ∷ rest) j 0)))
    → ((j : ℕ) → j < length rest → get_or less j 0 ≡ power_sum j ys xs)
    → d ≡ bit_xor s (power_sum 0 zs xs)
    → (j : ℕ) → j < suc (length rest) → get_or (s ∷ rest) j 0 ≡ power_sum j (d ∷ zs) (x ∷ xs)
unfolding power_sum power
put_back x s d rest less ys zs xs hx hd hz hxs ly lz each by solved first zero h =
    moved d s (power_sum 0 zs xs) first ∙ ap (λ v. bit_xor v (power_sum 0 zs xs)) (sym (times-one d hd))
put_back x s d rest less ys zs xs hx hd hz hxs ly lz each by solved first (suc j) h =
    let before : get_or (s ∷ rest) j 0 ≡ power_sum j (d ∷ zs) (x ∷ xs) =
    put_back x s d rest less ys zs xs hx hd hz hxs ly lz each by solved first j (omega arith) in
    moved (get_or less j 0) (get_or rest j 0) (times x (get_or (s ∷ rest) j 0)) (by j (omega arith))
    ∙ (λ i. bit_xor ((solved j (omega arith) ∙ sum_of_products x j ys zs xs hx hz hxs ly lz each ∙ sym (without_first x j d zs xs hx hd)) i) (times x (before i)))
    ∙ twice (power_sum (suc j) (d ∷ zs) (x ∷ xs)) (times x (power_sum j (d ∷ zs) (x ∷ xs)))

-- each value times the sum of its locator and c
pub products : ℕ → List ℕ → List ℕ → List ℕ
products c [] xs = []
products c (z ∷ zs) [] = []
products c (z ∷ zs) (x ∷ xs) = times z (bit_xor x c) ∷ products c zs xs

pub length-products : (c : ℕ) (zs xs : List ℕ) → length zs ≡ length xs → length (products c zs xs) ≡ length xs
unfolding products
length-products c [] [] e = refl
length-products c [] (x ∷ xs) e = absurd (omega arith)
length-products c (z ∷ zs) [] e = absurd (omega arith)
length-products c (z ∷ zs) (x ∷ xs) e = ap suc (length-products c zs xs (omega arith))

product_at : (c : ℕ) (zs xs : List ℕ) → length zs ≡ length xs
    → (k : ℕ) → k < length xs → times (get_or zs k 0) (bit_xor (get_or xs k 0) c) ≡ get_or (products c zs xs) k 0
unfolding products
product_at c [] [] e k h = absurd (omega arith)
product_at c [] (x ∷ xs) e k h = absurd (omega arith)
product_at c (z ∷ zs) [] e k h = absurd (omega arith)
product_at c (z ∷ zs) (x ∷ xs) e zero h = refl
product_at c (z ∷ zs) (x ∷ xs) e (suc k) h = product_at c zs xs (omega arith) k (omega arith)

pub AllBytes-products : (c : ℕ) (zs xs : List ℕ) → c < 2 ^ 8 → AllBytes zs → AllBytes xs → AllBytes (products c zs xs)
unfolding products
AllBytes-products c [] xs hc hz hx k = omega arith
AllBytes-products c (z ∷ zs) [] hc hz hx k = omega arith
AllBytes-products c (z ∷ zs) (x ∷ xs) hc hz hx zero = times_below z (bit_xor x c) (hz 0) (xor_lt 8 x c (hx 0) hc)
AllBytes-products c (z ∷ zs) (x ∷ xs) hc hz hx (suc k) = AllBytes-products c zs xs hc (λ j. hz (suc j)) (λ j. hx (suc j)) k

-- where the sums are those of values, the sums without the first are those of the products
pub still_sums : (x s v : ℕ) (rest less zs xs : List ℕ) → x < 2 ^ 8 → v < 2 ^ 8 → AllBytes zs → AllBytes xs → length zs ≡ length xs
    → length less ≡ length rest
    → ((j : ℕ) → j < length rest → get_or less j 0 ≡ bit_xor (get_or rest j 0) (times x (get_or (s ∷ rest) j 0)))
    → ((j : ℕ) → j < suc (length rest) → get_or (s ∷ rest) j 0 ≡ power_sum j (v ∷ zs) (x ∷ xs))
    → (j : ℕ) → j < length less → get_or less j 0 ≡ power_sum j (products x zs xs) xs
still_sums x s v rest less zs xs hx hv hz hxs lz same by sums j h =
    by j (omega arith)
    ∙ (λ i. bit_xor (sums (suc j) (omega arith) i) (times x (sums j (omega arith) i)))
    ∙ without_first x j v zs xs hx hv
    ∙ sym (sum_of_products x j (products x zs xs) zs xs hx hz hxs (length-products x zs xs lz) lz (product_at x zs xs lz))

-- one more value in the sum
pub power_sum_more : (ys xs : List ℕ) (k : ℕ) → k < length ys → k < length xs → AllBytes ys
    → power_sum 0 (take (k + 1) ys) xs ≡ bit_xor (power_sum 0 (take k ys) xs) (get_or ys k 0)
unfolding power_sum power
power_sum_more [] xs k hy hx b = absurd (omega arith)
power_sum_more (y ∷ ys) [] k hy hx b = absurd (omega arith)
power_sum_more (y ∷ ys) (x ∷ xs) zero hy hx b = xor_zero_r (times y 1) ∙ times-one y (b 0)
power_sum_more (y ∷ ys) (x ∷ xs) (suc k) hy hx b =
    ap (λ n. power_sum 0 (take (n + 1) (y ∷ ys)) (x ∷ xs)) (sym (add-one k))
    ∙ ap (λ n. power_sum 0 (take n (y ∷ ys)) (x ∷ xs)) (add-one (k + 1))
    ∙ ap (bit_xor (times y 1)) (power_sum_more ys xs k (omega arith) (omega arith) (λ j. b (suc j)))
    ∙ sym (xor_assoc (times y 1) (power_sum 0 (take k ys) xs) (get_or ys k 0))

-- no values, no sum
pub empty_sum : (j : ℕ) (xs : List ℕ) → power_sum j [] xs ≡ 0
unfolding power_sum
empty_sum j xs = refl

-- the quotient by d, where i is the inverse of d
pub quotient : (v d i : ℕ) → v < 2 ^ 8 → d < 2 ^ 8 → i < 2 ^ 8 → times d i ≡ 1 → times (times v i) d ≡ v
quotient v d i hv hd hi e = times-assoc v i d hv hi hd ∙ ap (times v) (times-comm i d hi hd ∙ e) ∙ times-one v hv

pub bytes_of_all : (xs : List ℕ) → All (λ b. b < 2 ^ 8) xs → AllBytes xs
bytes_of_all xs h k =
    ⊎_elim (λ l. All-get_or (λ b. b < 2 ^ 8) xs k 0 l h) (λ g. rw (get_or_past xs k 0 g) (omega arith)) (cases_lt k (length xs))
