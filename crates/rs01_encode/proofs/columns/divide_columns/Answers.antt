use Rattle.std.proofs.Common.{◌≡◌, ℕ, ◌+◌, ◌-◌, ◌*◌, List, length, get_or, bit_xor, refl, sym, ap, ◌∙◌, arith}
use Rattle.rs01_layers.proofs.BlockLemmas.{get_or-column-blocks_of}
use Rattle.rs01_columns.specs.Layer.{data_at}
use Rattle.rs01_columns.proofs.Laid.{length-data}
use Rattle.rs01_encode.specs.Columns.{register}
use Rattle.rs01_encode.proofs.Division.{as_long, finish, start, step}
use Rattle.rs01_encode.proofs.Registers.{length-register, register-zeros, shifted}
use Rattle.rs01_encode.proofs.columns.divide_columns.Goals as goal

pub shift_columns-requires-clause-some : goal.shift_columns-requires-clause-some
shift_columns-requires-clause-some c = omega (arith, as_long c.args.low.now c.args.r c.requires.low.held, c.requires.low.least)

pub shift_columns-requires-clause-columns : goal.shift_columns-requires-clause-columns
shift_columns-requires-clause-columns c =
    omega (arith, as_long c.args.low.now c.args.r c.requires.low.held, c.loop-place.invariant.long, c.clear.auto.columns, c.requires.columns)

pub loop-place-init : goal.loop-place-init
loop-place-init c = record {
  long = refl;
  fed = refl;
  held = λ b h.
      let r : ℕ = c.args.r in
      let d : List ℕ = data_at r c.args.blocks.now b in
      start d c.args.low.now (register c.clear.new.columns r b) r (omega (arith, length-data r c.args.blocks.now b, c.requires.low.most))
      (register-zeros c.clear.new.columns r b c.clear.ensures.zeros) c.requires.low.held;
}

pub loop-place-preserved : goal.loop-place-preserved
loop-place-preserved c =
    let r : ℕ = c.args.r in
    let v = c.loop-place.invariant in
    let place : ℕ = c.loop-place.place in
    let low : List ℕ = c.args.low.now in
    let count : length low ≡ r = as_long low r c.requires.low.held in
    record {
      long = c.shift_columns.auto.columns ∙ v.long;
      fed = c.write_feedback.auto.feedback ∙ v.fed;
      held = λ b h.
          let d : List ℕ = data_at r c.args.blocks.now b in
          let long : length d ≡ 255 - r = length-data r c.args.blocks.now b in
          let old : List ℕ = register c.loop-place.columns r b in
          let new : List ℕ = register c.shift_columns.new.columns r b in
          let here : get_or d place 0 ≡ get_or c.args.blocks.now (2048 * place + b) 0 =
          get_or-column-blocks_of (255 - r) c.args.blocks.now b place h (omega arith) in
          let f : ℕ = get_or c.write_feedback.new.feedback b 0 in
          let fed : f ≡ bit_xor (get_or d place 0) (get_or c.loop-place.columns b 0) =
          c.write_feedback.ensures.sums b (omega arith) ∙ ap (λ x. bit_xor x (get_or c.loop-place.columns b 0)) (sym here) in
          step d old new low place _ (omega (arith, long, length-register c.loop-place.columns r b, c.requires.low.most))
          (omega (arith, length-register c.loop-place.columns r b, c.requires.low.least)) (omega (arith, long))
          (count ∙ sym (length-register c.loop-place.columns r b))
          (length-register c.shift_columns.new.columns r b ∙ sym (length-register c.loop-place.columns r b))
          (shifted c.loop-place.columns c.shift_columns.new.columns low c.write_feedback.new.feedback r b (get_or d place 0) (omega arith) h
          (v.long ∙ c.clear.auto.columns ∙ c.requires.columns) count (λ k. (c.type_inv.low k).fits) (c.write_feedback.ensures.bytes b) fed
          c.shift_columns.ensures)
          (v.held b h);
    }

pub returns : goal.returns
returns c = λ b h.
    let r : ℕ = c.args.r in
    let d : List ℕ = data_at r c.args.blocks.now b in
    let long : length d ≡ 255 - r = length-data r c.args.blocks.now b in
    finish d (register c.loop-place.columns r b) c.args.low.now c.loop-place.place _
    (omega (arith, long, length-register c.loop-place.columns r b, c.requires.low.most)) (omega (arith, long)) (c.loop-place.invariant.held b h)
