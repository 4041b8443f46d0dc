use Rattle.std.proofs.Common.{◌≡◌, ◌≢◌, ℕ, ◌+◌, ◌-◌, ◌<◌, List, length, get_or, set, sym, ◌∙◌, arith, bit_xor, ⊎_elim}
use Rattle.std.proofs.lemmas.Bool.{cases_lt}
use Rattle.std.proofs.lemmas.List.{get_or-set_same, get_or-set_other, get_or_past}
use Rattle.rs01_gf256.specs.Field.{times}
use Rattle.rs01_gf256.proofs.Laws.{times-zero}
use Rattle.rs01_encode.proofs.register.shift.Goals as goal

-- all places but the last are done, and the last is written
last_place : (xs old low : List ℕ) (f v : ℕ) → 0 < length old → length xs ≡ length old → length low ≡ length old
    → ((k : ℕ) → k < length old - 1 → get_or xs k 0 ≡ bit_xor (get_or old (k + 1) 0) (times f (get_or low k 0)))
    → v ≡ times f (get_or low (length old - 1) 0)
    → (k : ℕ) → get_or (set xs (length old - 1) v) k 0 ≡ bit_xor (get_or old (k + 1) 0) (times f (get_or low k 0))
last_place xs old low f v some same lows done e k =
    ⊎_elim
    (λ l. let ne : k ≢ length old - 1 = omega arith in get_or-set_other xs (length old - 1) k v 0 ne ∙ done k l)
    (λ g.
    ⊎_elim
    (λ l.
    let here : k ≡ length old - 1 = omega arith in
    let past : get_or old (k + 1) 0 ≡ 0 = get_or_past old (k + 1) 0 (omega arith) in
    rw past (rw here (get_or-set_same xs (length old - 1) v 0 (omega arith) ∙ e)))
    (λ o.
    let ne : k ≢ length old - 1 = omega arith in
    let past : get_or old (k + 1) 0 ≡ 0 = get_or_past old (k + 1) 0 (omega arith) in
    let lowpast : get_or low k 0 ≡ 0 = get_or_past low k 0 (omega arith) in
    rw past (rw lowpast (get_or-set_other xs (length old - 1) k v 0 ne ∙ get_or_past xs k 0 (omega arith) ∙ sym (times-zero f))))
    (cases_lt k (length old)))
    (cases_lt k (length old - 1))

pub returns : goal.returns
returns c = last_place _ _ c.args.low.now _ _ c.requires.some c.loop-k.auto.register c.requires.same (λ k l. c.loop-k.invariant.done k (omega arith)) c.mul-2.ensures
