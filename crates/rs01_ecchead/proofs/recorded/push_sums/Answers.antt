use Rattle.std.proofs.Common.{◌≡◌, ◌∙◌, ◌+◌, ◌*◌, ◌++◌, [], ◌∷◌, ap, sym, List, length, map, arith, ℕ, append_assoc}
use Rattle.std.specs.List.{range_with_len}
use Rattle.std.proofs.lemmas.List.FromFn.{map-range_with_len_more}
use Rattle.std.proofs.lemmas.List.{length-append}
use Rattle.rs01_ecchead.specs.Header.{number_at}
use Rattle.rs01_ecchead.proofs.recorded.push_sums.Goals as goal

-- one more number behind those of the first n places
more : (f : ℕ → ℕ) (before now after : List ℕ) (n x : ℕ) → now ≡ before ++ map f (range_with_len 0 n) → after ≡ now ++ x ∷ [] → x ≡ f n
    → after ≡ before ++ map f (range_with_len 0 (n + 1))
more f before now after n x held put e =
    put ∙ (λ i. held i ++ e i ∷ []) ∙ append_assoc before (map f (range_with_len 0 n)) (f n ∷ [])
    ∙ ap (λ xs. before ++ xs) (sym (map-range_with_len_more f 0 n n (let z : 0 + n ≡ n = omega arith in z)))

pub loop-j-preserved : goal.loop-j-preserved
loop-j-preserved c = record {
  list = more (λ j. number_at c.args.piece.now (4 * j)) c.args.sums.now.list c.loop-j.sums.list _ c.loop-j.j _ c.loop-j.invariant.list c.push_reserved.ensures.list c.number.ensures;
  counted = ap length c.push_reserved.ensures.list ∙ length-append c.loop-j.sums.list (c.number.result ∷ []) ∙ omega arith;
  room = c.push_reserved.ensures.room ∙ c.loop-j.invariant.room;
}
