use Rattle.std.proofs.Common.{◌≡◌, ◌%◌, ◌∙◌, ℕ, List, ap, sym, length, get_or, arith}
use Rattle.std.specs.List.{range_with_len, count_by}
use Rattle.rs01_states.specs.Sparing.{open_count, is_open, lacks}
use Rattle.rs01_states.proofs.RangeLemmas.{at-most}
use Rattle.rs01_states.proofs.StateLemmas.{read-of}
use Rattle.rs01_states.proofs.LayerLemmas.{layer-below, one-more, no-more}
use Rattle.rs01_states.proofs.settling.add_open.Goals as goal
use Rattle.rs01_states.proofs.settling.add_open.Goals.{then-is_open, else-is_open}

pub overflow_add-counts : goal.overflow_add-counts
overflow_add-counts c =
    let l = c.loop-sector.sector % c.args.layers in
    omega (arith, c.loop-sector.invariant.right l (layer-below c.loop-sector.sector c.args.layers c.requires.some), at-most (lacks c.args.layers l c.args.states.now) 0 c.loop-sector.sector, c.requires.few)

pub loop-sector-preserved : goal.loop-sector-preserved
loop-sector-preserved c = record {
  len = omega (arith, c.if-is_open.auto.counts, c.loop-sector.invariant.len);
  right = λ k below.
      let read = read-of c.args.states.now c.loop-sector.sector _ c.loop-sector-test.true in
      elim c.if-is_open.branch [
        | then-is_open w ↦
            ap (λ (xs : List ℕ). get_or xs k 0) w.counts-is
            ∙ one-more c.args.layers c.loop-sector.sector k c.args.states.now c.loop-sector.counts c.loop-sector.invariant.len c.requires.some below c.loop-sector.invariant.right
            (ap is_open (sym read) ∙ sym c.is_open.ensures ∙ w.if-is_open.true)
        | else-is_open w ↦
            ap (λ (xs : List ℕ). get_or xs k 0) w.counts-is
            ∙ no-more c.args.layers c.loop-sector.sector k _ c.args.states.now (c.loop-sector.invariant.right k below)
            (ap is_open (sym read) ∙ sym c.is_open.ensures ∙ w.if-is_open.false)
      ];
}

pub returns : goal.returns
unfolding open_count
returns c =
    let end : c.loop-sector.sector ≡ length c.args.states.now = omega arith in
    record {
      some = c.requires.some;
      len = c.loop-sector.invariant.len;
      right = λ k below. c.loop-sector.invariant.right k below ∙ ap (λ (n : ℕ). count_by (lacks c.args.layers k c.args.states.now) (range_with_len 0 n)) end;
    }
