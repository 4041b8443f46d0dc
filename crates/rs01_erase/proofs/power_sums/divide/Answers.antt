use Rattle.std.proofs.Common.{◌≡◌, ◌≢◌, ℕ, ◌+◌, ◌^◌, ◌<◌, ◌≤◌, List, length, get_or, set, take, refl, sym, ap, ◌∙◌, arith, bit_xor, ⊎_elim}
use Rattle.std.proofs.lemmas.Bool.{cases_lt}
use Rattle.std.proofs.lemmas.List.{get_or-set_same, get_or-set_other, length-set, take-set}
use Rattle.rs01_gf256.specs.Field.{times}
use Rattle.rs01_poly.proofs.Values.{AllBytes}
use Rattle.rs01_erase.specs.PowerSums.{power_sum}
use Rattle.rs01_erase.proofs.Elimination.{empty_sum, quotient, power_sum_more}
use Rattle.rs01_erase.proofs.PlaceLemmas.{AllBytes-set}
use Rattle.rs01_erase.proofs.power_sums.divide.Goals as goal

one_more : (old xs locs : List ℕ) (k q x : ℕ) → k < length locs → length xs ≡ length locs → times q (bit_xor (get_or locs k 0) x) ≡ get_or old k 0
    → ((j : ℕ) → j < k → times (get_or xs j 0) (bit_xor (get_or locs j 0) x) ≡ get_or old j 0)
    → (j : ℕ) → j < k + 1 → times (get_or (set xs k q) j 0) (bit_xor (get_or locs j 0) x) ≡ get_or old j 0
one_more old xs locs k q x l same here done j h =
    ⊎_elim
    (λ below. let ne : j ≢ k = omega arith in ap (λ v. times v (bit_xor (get_or locs j 0) x)) (get_or-set_other xs k j q 0 ne) ∙ done j below)
    (λ (above : k ≤ j).
    let e : j ≡ k = omega arith in
    rw e (ap (λ v. times v (bit_xor (get_or locs k 0) x)) (get_or-set_same xs k q 0 (omega arith)) ∙ here))
    (cases_lt j k)

one_added : (xs locs : List ℕ) (k q t : ℕ) → k < length locs → length xs ≡ length locs → AllBytes xs → q < 2 ^ 8
    → t ≡ power_sum 0 (take k xs) locs → bit_xor t q ≡ power_sum 0 (take (k + 1) (set xs k q)) locs
one_added xs locs k q t l same hx hq held =
    let long : k < length (set xs k q) = omega (arith, length-set xs k q) in
    (λ i. bit_xor ((held ∙ ap (λ ys. power_sum 0 ys locs) (sym (take-set xs k q))) i) (sym (get_or-set_same xs k q 0 (omega arith)) i))
    ∙ sym (power_sum_more (set xs k q) locs k long l (AllBytes-set xs k q hq hx))

pub loop-k-init : goal.loop-k-init
loop-k-init c = record {
  done = λ j h. absurd (omega arith);
  bytes = λ j. (c.type_inv.values j).fits;
  left = λ j h. refl;
  total = sym (empty_sum 0 c.args.locators.now);
}

-- the quotient of the value at k
value_divided : (xs locs old : List ℕ) (k a q i x : ℕ) → get_or xs k 0 < 2 ^ 8 → a < 2 ^ 8 → i < 2 ^ 8 → a ≡ bit_xor (get_or locs k 0) x
    → times a i ≡ 1 → q ≡ times (get_or xs k 0) i → get_or xs k 0 ≡ get_or old k 0 → times q (bit_xor (get_or locs k 0) x) ≡ get_or old k 0
value_divided xs locs old k a q i x hv ha hi ea ei eq same =
    (λ t. times (eq t) (sym ea t)) ∙ quotient (get_or xs k 0) a i hv ha hi ei ∙ same

pub loop-k-preserved : goal.loop-k-preserved
loop-k-preserved c =
    let k = c.loop-k.k in
    let q = c.mul-quotient.result.0 in
    let hq : q < 2 ^ 8 = omega arith in
    let now : times q (bit_xor (get_or c.args.locators.now k 0) c.args.x.0) ≡ get_or c.args.values.now k 0 =
    value_divided c.loop-k.values c.args.locators.now c.args.values.now k c.add.result.0 q c.inv.result.0 c.args.x.0
    (c.loop-k.invariant.bytes k) (omega arith) (omega arith) c.add.ensures c.inv.ensures c.mul-quotient.ensures (c.loop-k.invariant.left k (omega arith)) in
    record {
      done = one_more c.args.values.now c.loop-k.values c.args.locators.now k q c.args.x.0 (omega arith) (omega arith) now c.loop-k.invariant.done;
      bytes = AllBytes-set c.loop-k.values k q hq c.loop-k.invariant.bytes;
      left = λ j h. (let ne : j ≢ k = omega arith in get_or-set_other c.loop-k.values k j q 0 ne ∙ c.loop-k.invariant.left j (omega arith));
      total = one_added c.loop-k.values c.args.locators.now k q c.loop-k.total (omega arith) (omega arith) c.loop-k.invariant.bytes hq c.loop-k.invariant.total;
    }
