use Rattle.std.proofs.Common.{◌≡◌, ◌≢◌, ℕ, ◌+◌, ◌-◌, ◌*◌, ◌<◌, ◌≤◌, List, length, get_or, set, map, sym, ap, ◌∙◌, arith, below_more}
use Rattle.std.proofs.lemmas.List.{get_or-set_same, get_or-set_other, get_or-map, length-map}
use Rattle.std.proofs.lemmas.Grind.{same_number_lists}
use Rattle.rs01_gf256.specs.Field.{power}
use Rattle.rs01_erase.specs.PowerSums.{locator}
use Rattle.rs01_erase.proofs.restore.locate.Goals as goal

one_more : (xs places : List ℕ) (k v : ℕ) → k < length xs → v ≡ power 2 (11 * (254 - get_or places k 0))
    → ((j : ℕ) → j < k → get_or xs j 0 ≡ locator (get_or places j 0))
    → (j : ℕ) → j < k + 1 → get_or (set xs k v) j 0 ≡ locator (get_or places j 0)
unfolding locator
one_more xs places k v l e done =
    below_more _ _
    (λ j h. let ne : j ≢ k = omega arith in get_or-set_other xs k j v 0 ne ∙ done j h)
    (get_or-set_same xs k v 0 l ∙ e)

all_located : (xs places : List ℕ) (n : ℕ) → length xs ≡ length places → length places ≤ n
    → ((j : ℕ) → j < n → get_or xs j 0 ≡ locator (get_or places j 0)) → xs ≡ map locator places
all_located xs places n same past done =
    same_number_lists xs (map locator places) (same ∙ sym (length-map places locator))
    (λ k h. done k (omega arith) ∙ sym (get_or-map locator places k 0 0 (omega arith)))

pub loop-k-preserved : goal.loop-k-preserved
loop-k-preserved c =
    one_more c.loop-k.locators c.args.erased.now c.loop-k.k _ (omega arith)
    (c.pow_root.ensures ∙ ap (λ n. power 2 (11 * (254 - n))) c.from.ensures) c.loop-k.invariant

pub returns : goal.returns
returns c = all_located c.loop-k.locators c.args.erased.now c.loop-k.k (omega arith) (omega arith) c.loop-k.invariant
