use Rattle.std.proofs.Common.{◌≡◌, ◌≢◌, ℕ, ◌+◌, ◌*◌, ◌<◌, List, length, get_or, set, ap, ◌∙◌, arith, below_more}
use Rattle.std.proofs.lemmas.List.{get_or-set_same, get_or-set_other}
use Rattle.rs01_gf256.specs.Field.{power}
use Rattle.rs01_poly.specs.Polynomial.{value_at}
use Rattle.rs01_poly.specs.Code.{root}
use Rattle.rs01_erase.proofs.restore.values_at_roots.Goals as goal

one_more : (xs word : List ℕ) (j z v : ℕ) → j < length xs → z ≡ power 2 (11 * (112 + j)) → v ≡ value_at word z
    → ((i : ℕ) → i < j → get_or xs i 0 ≡ value_at word (root i))
    → (i : ℕ) → i < j + 1 → get_or (set xs j v) i 0 ≡ value_at word (root i)
unfolding root
one_more xs word j z v l ez ev done =
    below_more _ _
    (λ i h. let ne : i ≢ j = omega arith in get_or-set_other xs j i v 0 ne ∙ done i h)
    (get_or-set_same xs j v 0 l ∙ ev ∙ ap (value_at word) ez)

pub loop-j-preserved : goal.loop-j-preserved
loop-j-preserved c = one_more c.loop-j.values c.args.word.now c.loop-j.j _ _ (omega arith) c.pow_root.ensures c.eval.ensures c.loop-j.invariant
