use Rattle.std.proofs.Common.{◌≡◌, ◌≢◌, ℕ, ◌+◌, ◌-◌, ◌*◌, ◌^◌, ◌<◌, ◌≤◌, List, length, get_or, set, map, sym, ap, ◌∙◌, arith, below_more}
use Rattle.std.proofs.lemmas.List.{get_or-set_same, get_or-set_other, get_or-map, length-map, get_or_default}
use Rattle.std.proofs.lemmas.List.Elements.{All-get_or, All-from_get_or}
use Rattle.std.proofs.lemmas.Grind.{same_number_lists}
use Rattle.std.proofs.Math.Nat.{mul_assoc}
use Rattle.rs01_gf256.specs.Field.{times, power}
use Rattle.rs01_gf256.proofs.Logarithms.{power-power}
use Rattle.rs01_poly.specs.Code.{AgreeOutside}
use Rattle.rs01_erase.specs.PowerSums.{locator, weighted}
use Rattle.rs01_erase.proofs.Elimination.{quotient}
use Rattle.rs01_erase.proofs.PlaceLemmas.{Rises, rises, power_some, AllBytes-set}
use Rattle.rs01_erase.proofs.restore.put.Goals as goal

-- the 112th power of a place's locator
weight : (p w : ℕ) → w ≡ power 2 (11 * ((254 - p) * 112)) → w ≡ power (locator p) 112
unfolding locator
weight p w e =
    e ∙ ap (power 2) (sym (mul_assoc 11 (254 - p) 112)) ∙ sym (power-power 2 (11 * (254 - p)) 112 (omega arith))

one_more : (xs places values : List ℕ) (k v w i : ℕ) → k < length places → length values ≡ length places → get_or places k 0 < length xs
    → Rises places → get_or values k 0 < 2 ^ 8 → w < 2 ^ 8 → i < 2 ^ 8 → w ≡ power (locator (get_or places k 0)) 112
    → times w i ≡ 1 → v ≡ times (get_or values k 0) i
    → ((j : ℕ) → j < k → times (get_or xs (get_or places j 0) 0) (power (locator (get_or places j 0)) 112) ≡ get_or values j 0)
    → (j : ℕ) → j < k + 1
    → times (get_or (set xs (get_or places k 0) v) (get_or places j 0) 0) (power (locator (get_or places j 0)) 112) ≡ get_or values j 0
one_more xs places values k v w i l same within rise hv hw hi ew ei ev done =
    let p = get_or places k 0 in
    below_more _ _
    (λ j h.
    let below : get_or places j 0 < p = rise j k h l in
    let ne : get_or places j 0 ≢ p = omega arith in
    ap (λ b. times b (power (locator (get_or places j 0)) 112)) (get_or-set_other xs p (get_or places j 0) v 0 ne) ∙ done j h)
    ((λ t. times ((get_or-set_same xs p v 0 within ∙ ev) t) (sym ew t)) ∙ quotient (get_or values k 0) w i hv hw hi ei)

outside_stays : (old xs places : List ℕ) (k v : ℕ) → k < length places → AgreeOutside xs old places
    → AgreeOutside (set xs (get_or places k 0) v) old places
outside_stays old xs places k v l agree q out =
    let ne : q ≢ get_or places k 0 = λ e. out (k, l, get_or_default places k q 0 l ∙ sym e) in
    get_or-set_other xs (get_or places k 0) q v 0 ne ∙ agree q out

all_put : (xs places values : List ℕ) (n : ℕ) → length values ≡ length places → length places ≤ n
    → ((j : ℕ) → j < n → times (get_or xs (get_or places j 0) 0) (power (locator (get_or places j 0)) 112) ≡ get_or values j 0)
    → weighted xs places ≡ values
unfolding weighted
all_put xs places values n same past done =
    let f : ℕ → ℕ = λ p. times (get_or xs p 0) (power (locator p) 112) in
    same_number_lists (map f places) values (length-map places f ∙ sym same)
    (λ k h. get_or-map f places k 0 0 (omega (arith, length-map places f)) ∙ done k (omega (arith, length-map places f)))

pub inv-requires : goal.inv-requires
inv-requires c = record { not_zero = λ e. power_some 2 _ (omega arith) (omega arith) (sym c.pow_root-weight.ensures ∙ e) }

pub loop-k-preserved : goal.loop-k-preserved
loop-k-preserved c =
    let k = c.loop-k.k in
    let p = get_or c.args.erased.now k 0 in
    let inside : p < length c.args.word.now = omega (arith, All-get_or (λ q. q < 255) c.args.erased.now k 0 (omega arith) c.requires.places.below) in
    record {
      done = one_more c.loop-k.word c.args.erased.now c.args.values.now k _ c.pow_root-weight.result.0 c.inv.result.0 (omega arith) c.requires.same (omega arith)
          (rises c.args.erased.now c.requires.places.rising) ((c.type_inv.values k).fits) (omega arith) (omega arith)
          (weight p c.pow_root-weight.result.0 (c.pow_root-weight.ensures ∙ ap (λ n. power 2 (11 * ((254 - n) * 112))) c.from.ensures))
          c.inv.ensures c.mul.ensures c.loop-k.invariant.done;
      bytes = AllBytes-set c.loop-k.word p c.mul.result.0 (omega arith) c.loop-k.invariant.bytes;
      others = outside_stays c.args.word.now c.loop-k.word c.args.erased.now k _ (omega arith) c.loop-k.invariant.others;
    }

pub returns-clause-values : goal.returns-clause-values
returns-clause-values c =
    all_put c.loop-k.word c.args.erased.now c.args.values.now c.loop-k.k c.requires.same (omega arith) c.loop-k.invariant.done

pub returns-clause-bytes : goal.returns-clause-bytes
returns-clause-bytes c = All-from_get_or (λ b. b < 2 ^ 8) c.loop-k.word 0 (λ k h. c.loop-k.invariant.bytes k)
