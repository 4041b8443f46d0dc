use Rattle.std.proofs.Common.{◌≡◌, ℕ, suc, ◌+◌, ◌-◌, ◌*◌, ◌<◌, List, ◌++◌, length, take, drop, set, replicate, sym, ap, ◌∙◌, arith, add-one}
use Rattle.std.proofs.lemmas.List.{take-append-drop}
use Rattle.std.proofs.Math.Seq.{take-append_seam, drop-append-add}
use Rattle.rs01_gf256.specs.Field.{power}
use Rattle.rs01_poly.specs.Polynomial.{times_linear}
use Rattle.rs01_poly.specs.Code.{generator, root}
use Rattle.rs01_poly.proofs.CodeLaws.{length-generator}
use Rattle.rs01_poly.proofs.generator.Goals as goal

one_fewer : (n j : ℕ) → j < n → n - j ≡ suc (n - (j + 1))
one_fewer n j h = omega arith

one_more : (old new : List ℕ) (j c : ℕ) → j < 100 → old ≡ generator j ++ replicate (100 - j) 0 → c ≡ power 2 (11 * (112 + j))
    → take (j + 1 + 1) new ≡ times_linear (take (j + 1) old) c → drop (j + 1 + 1) new ≡ drop (j + 1 + 1) old
    → new ≡ generator (j + 1) ++ replicate (100 - (j + 1)) 0
unfolding generator root
one_more old new j c h held e made rest =
    let zs : List ℕ = replicate (100 - j) 0 in
    let front : take (j + 1) old ≡ generator j =
    ap (take (j + 1)) held ∙ ap (λ n. take n (generator j ++ zs)) (sym (length-generator j)) ∙ take-append_seam (generator j) zs in
    let fewer : 100 - j ≡ suc (100 - (j + 1)) = one_fewer 100 j h in
    let back : drop (j + 1 + 1) old ≡ replicate (100 - (j + 1)) 0 =
    ap (drop (j + 1 + 1)) held ∙ ap (λ n. drop (n + 1) (generator j ++ zs)) (sym (length-generator j))
    ∙ drop-append-add (generator j) zs 1 ∙ ap (λ n. drop 1 (replicate n 0)) fewer in
    sym (take-append-drop (j + 1 + 1) new)
    ∙ (λ i. ((made ∙ (λ k. times_linear (front k) (e k)) ∙ ap generator (sym (add-one j))) i) ++ ((rest ∙ back) i))

one_first : (n m : ℕ) (xs : List ℕ) → xs ≡ replicate m 0 → m ≡ suc n → set xs 0 1 ≡ generator 0 ++ replicate n 0
unfolding generator
one_first n m xs zeros long = ap (λ ys. set ys 0 1) (zeros ∙ ap (λ k. replicate k 0) long)

pub loop-j-init : goal.loop-j-init
loop-j-init c = one_first 100 (length c.args.into.now) c.fill.new.self (c.fill.ensures.after (λ y h. h)) (omega arith)

pub loop-j-preserved : goal.loop-j-preserved
loop-j-preserved c =
    one_more _ _ c.loop-j.j _ (omega arith) c.loop-j.invariant c.pow_root.ensures c.times_linear.ensures.product c.times_linear.ensures.rest
