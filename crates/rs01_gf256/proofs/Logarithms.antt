-- The rule of the tables of powers and logarithms: each is tested once over all its entries, and the rule
-- follows at each entry. From it come inverses, zero products and the powers of 2 that differ.
use Rattle.std.proofs.Common.{◌≡◌, ◌⊎◌, inl, inr, ◌*◌, ℕ, zero, suc, ◌+◌, ◌-◌, ◌%◌, ◌^◌, ◌<◌, ◌≤◌, add_comm, true, refl, sym, ap, ◌∙◌, eqb, ltb, add-one, ⊎_elim, get_or, arith}
use Rattle.std.proofs.Math.Nat.{zero-add, mul-suc}
use Rattle.std.proofs.lemmas.Bool.{cases_lt}
use borrow.Author.Tests.{ltb-true, eqb-true}
use Rattle.rs01_gf256.specs.declared.tables.TheConstants.{EXP, LOG}
use Rattle.rs01_gf256.specs.Field.{product, reduce, times, power, inverse}
use Rattle.rs01_gf256.proofs.Laws.{each, each_at, times-comm, times-assoc, one-times, zero-times, times-zero}

exp_step_test : each (λ i. eqb (get_or EXP (i + 1) 0) (times 2 (get_or EXP i 0))) 510 ≡ true
unfolding times product reduce
exp_step_test = refl

exp_below_test : each (λ i. ltb (get_or EXP i 0) (2 ^ 8)) 511 ≡ true
exp_below_test = refl

log_test : each (λ x. eqb (get_or EXP (get_or LOG (x + 1) 0) 0) (x + 1)) 255 ≡ true
log_test = refl

exp_log_test : each (λ k. eqb (get_or LOG (get_or EXP k 0) 0) k) 255 ≡ true
exp_log_test = refl

log_below_test : each (λ x. ltb (get_or LOG (x + 1) 0) 255) 255 ≡ true
log_below_test = refl

pub exp_step : (i : ℕ) → i < 510 → get_or EXP (i + 1) 0 ≡ times 2 (get_or EXP i 0)
exp_step i h = eqb-true _ _ (each_at (λ i. eqb (get_or EXP (i + 1) 0) (times 2 (get_or EXP i 0))) 510 i exp_step_test h)

pub exp_below : (i : ℕ) → i < 511 → get_or EXP i 0 < 2 ^ 8
exp_below i h = ltb-true _ _ (each_at (λ i. ltb (get_or EXP i 0) (2 ^ 8)) 511 i exp_below_test h)

pub log_exp : (x : ℕ) → x < 255 → get_or EXP (get_or LOG (x + 1) 0) 0 ≡ x + 1
log_exp x h = eqb-true _ _ (each_at (λ x. eqb (get_or EXP (get_or LOG (x + 1) 0) 0) (x + 1)) 255 x log_test h)

pub log_below : (x : ℕ) → 0 < x → x < 256 → get_or LOG x 0 < 255
log_below x p h =
    let same : x - 1 + 1 ≡ x = omega arith in
    let low : get_or LOG (x - 1 + 1) 0 < 255 = ltb-true _ _ (each_at (λ x. ltb (get_or LOG (x + 1) 0) 255) 255 (x - 1) log_below_test (omega arith)) in
    rw same at low

-- each power below the 255th has its exponent as its logarithm
pub exp_log : (k : ℕ) → k < 255 → get_or LOG (get_or EXP k 0) 0 ≡ k
exp_log k h = eqb-true _ _ (each_at (λ k. eqb (get_or LOG (get_or EXP k 0) 0) k) 255 k exp_log_test h)

-- the power at the logarithm of an element is the element
pub exp_of_log : (x : ℕ) → 0 < x → x < 256 → get_or EXP (get_or LOG x 0) 0 ≡ x
exp_of_log x p h = let same : x - 1 + 1 ≡ x = omega arith in rw same at (log_exp (x - 1) (omega arith))

-- the sum of exponents is the product
pub exp_sum : (i j : ℕ) → i + j < 511 → get_or EXP (i + j) 0 ≡ times (get_or EXP i 0) (get_or EXP j 0)
exp_sum zero j h = rw zero-add (sym (one-times (get_or EXP j 0) (exp_below j (omega arith))))
exp_sum (suc i) j h =
    let step : get_or EXP (i + j + 1) 0 ≡ times 2 (get_or EXP (i + j) 0) = exp_step (i + j) (omega arith) in
    let here : get_or EXP (i + 1) 0 ≡ times 2 (get_or EXP i 0) = exp_step i (omega arith) in
    let same : suc i + j ≡ i + j + 1 = omega arith in
    rw (same)
    (step ∙ ap (times 2) (exp_sum i j (omega arith))
    ∙ sym (times-assoc 2 (get_or EXP i 0) (get_or EXP j 0) (omega arith) (exp_below i (omega arith)) (exp_below j (omega arith)))
    ∙ ap (λ v. times v (get_or EXP j 0)) (sym here ∙ ap (λ k. get_or EXP k 0) (add-one i)))

-- the product by logarithms
pub by_logs : (x y : ℕ) → 0 < x → 0 < y → x < 256 → y < 256 → get_or EXP (get_or LOG x 0 + get_or LOG y 0) 0 ≡ times x y
by_logs x y px py hx hy =
    exp_sum (get_or LOG x 0) (get_or LOG y 0) (omega (arith, log_below x px hx, log_below y py hy)) ∙ (λ i. times (exp_of_log x px hx i) (exp_of_log y py hy i))

-- the powers of 2, which come again after 255
pub exp_power : (n : ℕ) → power 2 n ≡ get_or EXP (n % 255) 0
unfolding power
exp_power zero = refl
exp_power (suc n) =
    let here : n % 255 < 255 = omega arith in
    let step : get_or EXP (n % 255 + 1) 0 ≡ times 2 (get_or EXP (n % 255) 0) = exp_step (n % 255) (omega arith) in
    let first : times 2 (power 2 n) ≡ get_or EXP (n % 255 + 1) 0 = ap (times 2) (exp_power n) ∙ sym step in
    ⊎_elim
    (λ l. let same : suc n % 255 ≡ n % 255 + 1 = omega arith in first ∙ ap (λ k. get_or EXP k 0) (sym same))
    (λ g.
    let last : n % 255 + 1 ≡ 255 = omega arith in
    let none : suc n % 255 ≡ 0 = omega arith in
    first ∙ ap (λ k. get_or EXP k 0) last ∙ ap (λ k. get_or EXP k 0) (sym none))
    (cases_lt (n % 255 + 1) 255)

-- the product of two bytes is a byte
pub times_below : (x y : ℕ) → x < 2 ^ 8 → y < 2 ^ 8 → times x y < 2 ^ 8
times_below x y hx hy =
    ⊎_elim
    (λ dx.
    ⊎_elim
    (λ dy. rw (sym (by_logs x y dx dy hx hy)) (exp_below (get_or LOG x 0 + get_or LOG y 0) (omega (arith, log_below x dx hx, log_below y dy hy))))
    (λ (ey : y ≤ 0). let none : y ≡ 0 = omega arith in rw (none, times-zero) (omega arith))
    (cases_lt 0 y))
    (λ (ex : x ≤ 0). let none : x ≡ 0 = omega arith in rw (none, zero-times) (omega arith))
    (cases_lt 0 x)

-- the power at 255 less the logarithm is an inverse
pub inverse_by_log : (x : ℕ) → 0 < x → x < 2 ^ 8 → times x (get_or EXP (255 - get_or LOG x 0) 0) ≡ 1
inverse_by_log x p h =
    let low : get_or LOG x 0 < 255 = log_below x p h in
    let whole : get_or LOG x 0 + (255 - get_or LOG x 0) ≡ 255 = omega arith in
    let last : get_or EXP 255 0 ≡ 1 = refl in
    sym (ap (λ v. times v (get_or EXP (255 - get_or LOG x 0) 0)) (exp_of_log x p h))
    ∙ sym (exp_sum (get_or LOG x 0) (255 - get_or LOG x 0) (omega arith))
    ∙ ap (λ k. get_or EXP k 0) whole ∙ last

-- a product is zero only where a factor is
pub zero_product : (x y : ℕ) → x < 2 ^ 8 → y < 2 ^ 8 → times x y ≡ 0 → (x ≡ 0) ⊎ (y ≡ 0)
zero_product x y hx hy e =
    ⊎_elim
    (λ p.
    let v = get_or EXP (255 - get_or LOG x 0) 0 in
    let vh : v < 2 ^ 8 = exp_below (255 - get_or LOG x 0) (omega arith) in
    let one : times v x ≡ 1 = times-comm v x vh hx ∙ inverse_by_log x p hx in
    inr (sym (one-times y hy) ∙ sym (ap (λ w. times w y) one) ∙ times-assoc v x y vh hx hy ∙ ap (times v) e ∙ times-zero v))
    (λ n. inl (omega arith))
    (cases_lt 0 x)

-- 116 times 11 is 1 more than a multiple of 255
divided : (i k : ℕ) → 11 * i % 255 ≡ k → 116 * k % 255 ≡ i % 255
divided i k e = omega arith

-- powers of a^11 are equal only where their exponents agree modulo 255
pub equal_roots : (i j : ℕ) → power 2 (11 * i) ≡ power 2 (11 * j) → i % 255 ≡ j % 255
equal_roots i j e =
    let here : 11 * i % 255 < 255 = omega arith in
    let there : 11 * j % 255 < 255 = omega arith in
    let same : 11 * i % 255 ≡ 11 * j % 255 =
    sym (exp_log (11 * i % 255) here)
    ∙ ap (λ v. get_or LOG v 0) (sym (exp_power (11 * i)) ∙ e ∙ exp_power (11 * j))
    ∙ exp_log (11 * j % 255) there in
    sym (divided i (11 * i % 255) refl) ∙ divided j (11 * i % 255) (sym same)

pub power_below : (x n : ℕ) → x < 2 ^ 8 → power x n < 2 ^ 8
unfolding power
power_below x zero h = omega arith
power_below x (suc n) h = times_below x (power x n) h (power_below x n h)

pub power-add : (x m n : ℕ) → x < 2 ^ 8 → power x (m + n) ≡ times (power x m) (power x n)
unfolding power
power-add x zero n h = rw zero-add (sym (one-times (power x n) (power_below x n h)))
power-add x (suc m) n h =
    let same : suc m + n ≡ suc (m + n) = omega arith in
    rw same
    (ap (times x) (power-add x m n h)
    ∙ sym (times-assoc x (power x m) (power x n) h (power_below x m h) (power_below x n h)))

pub power-power : (x m n : ℕ) → x < 2 ^ 8 → power (power x m) n ≡ power x (m * n)
unfolding power
power-power x m zero h = let none : m * 0 ≡ 0 = omega arith in rw none refl
power-power x m (suc n) h =
    let same : m * suc n ≡ m + m * n = mul-suc m n ∙ add_comm (m * n) m in
    rw same
    (ap (times (power x m)) (power-power x m n h) ∙ sym (power-add x m (m * n) h))

power-suc : (x n : ℕ) → power x (suc n) ≡ times x (power x n)
unfolding power
power-suc x n = refl

-- the 255th power of each element but 0 is 1
power-255 : (x : ℕ) → 0 < x → x < 2 ^ 8 → power x 255 ≡ 1
power-255 x p h =
    let k = get_or LOG x 0 in
    let low : k < 255 = log_below x p h in
    let itself : k % 255 ≡ k = omega arith in
    let none : k * 255 % 255 ≡ 0 = omega arith in
    let first : get_or EXP 0 0 ≡ 1 = refl in
    let element : power 2 k ≡ x = exp_power k ∙ ap (λ i. get_or EXP i 0) itself ∙ exp_of_log x p h in
    ap (λ v. power v 255) (sym element)
    ∙ power-power 2 k 255 (omega arith)
    ∙ exp_power (k * 255)
    ∙ ap (λ i. get_or EXP i 0) none ∙ first

-- an element that is not 0 times its inverse is 1
pub times-inverse : (x : ℕ) → 0 < x → x < 2 ^ 8 → times x (inverse x) ≡ 1
unfolding inverse
times-inverse x p h = sym (power-suc x 254) ∙ power-255 x p h

pub inverse_below : (x : ℕ) → x < 2 ^ 8 → inverse x < 2 ^ 8
unfolding inverse
inverse_below x h = power_below x 254 h

-- an element whose product with x is 1 is the inverse of x
pub inverse_is_unique : (x y : ℕ) → x < 2 ^ 8 → y < 2 ^ 8 → times x y ≡ 1 → y ≡ inverse x
inverse_is_unique x y hx hy e =
    ⊎_elim
    (λ p.
    let v = inverse x in
    let hv : v < 2 ^ 8 = inverse_below x hx in
    sym (one-times y hy)
    ∙ ap (λ w. times w y) (sym (times-inverse x p hx) ∙ times-comm x v hx hv)
    ∙ times-assoc v x y hv hx hy
    ∙ ap (times v) e
    ∙ times-comm v 1 hv (omega arith)
    ∙ one-times v hv)
    (λ (g : x ≤ 0).
    let none : x ≡ 0 = omega arith in
    let zero_product : times x y ≡ 0 = rw (none, zero-times) refl in
    absurd (omega arith))
    (cases_lt 0 x)
