use Rattle.std.proofs.Common.{◌≡◌, ◌+◌, ◌∙◌, ap, sym, ℕ, List, arith}
use Rattle.std.specs.Prelude.{Bool}
use Rattle.rs01_intervals.specs.Summaries.{summary_of}
use Rattle.rs01_intervals.specs.Tree.{chunk_from, summary_between, summary_of_chunk}
use Rattle.rs01_intervals.proofs.Covering.{between-none, one-more}
use Rattle.rs01_intervals.proofs.tree.summary_of_chunk.Goals as goal

pub loop-place-init : goal.loop-place-init
loop-place-init c =
    let none = between-none c.args.flags.now c.min-from.result c.min-from.result (omega arith) in
    c.of_nothing-known.ensures ∙ sym (ap (λ (l : List Bool). summary_of c.min-from.result l) none)

pub loop-place-preserved : goal.loop-place-preserved
loop-place-preserved c =
    c.joined-known.ensures
    ∙ one-more c.args.flags.now _ _ _ _ (omega arith) (omega arith) c.loop-place.invariant c.of_flag.ensures

pub returns : goal.returns
unfolding summary_of_chunk
returns c =
    let flags = c.args.flags.now in
    let from : c.min-from.result ≡ chunk_from c.args.flags.now c.args.chunk = omega arith in
    let to : c.loop-place.place ≡ chunk_from c.args.flags.now (c.args.chunk + 1) = omega arith in
    c.loop-place.invariant
    ∙ ap (λ (n : ℕ). summary_between flags n c.loop-place.place) from
    ∙ ap (λ (n : ℕ). summary_between flags (chunk_from flags c.args.chunk) n) to
