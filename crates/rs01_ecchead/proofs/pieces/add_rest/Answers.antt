use Rattle.std.proofs.Common.{rules, ◌≡◌, ◌∙◌, subst, sym, length-take, arith}
use Rattle.std.specs.Prelude.{IsTrue}
use Rattle.std.proofs.lemmas.Grind.{common_steps}
use Rattle.md5.specs.Md5.{Holds}
use Rattle.rs01_outside.specs.Files.{bytes_of}
use Rattle.rs01_lists.specs.Bytes.{part}
use Rattle.rs01_ecchead.proofs.Parts.{one_more_part, piece_then}
use Rattle.rs01_ecchead.proofs.pieces.add_rest.Goals as goal

pub loop-at-preserved : goal.loop-at-preserved
loop-at-preserved g c = record {
  reads = search rules;
  low = omega arith;
  high = omega arith;
  wide = grind (arith, common_steps);
  fed = λ t fits m h.
      let file = bytes_of (g.D.Desk.state c.args.desk.now).files c.args.name.now in
      let read : c.add_piece.new.into ≡ part file c.loop-at.at c.piece_len-count.result =
      piece_then (g.D.Desk.state c.args.desk.now).files _ c.args.name.now _ c.loop-at.at _ (c.loop-at.invariant.reads.unchanged t)
      (c.add_piece.auto.into ∙ simp (length-take) (omega arith))
      (c.in_ok-add_piece.ensures.filled (subst IsTrue (sym c.loop-at.invariant.reads.tells) t)) (omega arith) in
      subst (Holds c.add_piece.new.hasher)
      (one_more_part file m c.add_piece.new.into c.args.from c.loop-at.at c.piece_len-count.result (omega arith) read)
      (c.in_ok-add_piece.ensures.held _ (c.loop-at.invariant.fed t fits m h));
}
