use Rattle.std.proofs.Common.{All, List, length, ◌≡◌, ℕ, ◌+◌, ◌^◌, ◌<◌, ◌∙◌, sym, arith}
use Rattle.rs01_poly.specs.Code.{root}
use Rattle.rs01_poly.specs.Polynomial.{value_at}
use Rattle.rs01_columns.specs.Bank.{lane}
use Rattle.rs01_columns.specs.Layer.{word_at}
use Rattle.rs01_columns.specs.Program.{meaning}
use Rattle.rs01_columns.proofs.Laid.{AllBytes-word, all_bytes, length-word}
use Rattle.rs01_columns.proofs.syndromes.count_part.Goals as goal

pub returns : goal.returns
returns c =
    let r : ℕ = c.args.kept.now.parity_count in
    let word : ℕ → List ℕ = λ l. word_at r c.args.blocks.now c.args.parity.now (c.args.first + l) in
    let long : (l : ℕ) → l < 1024 → length (word l) ≡ 255 = λ l h.
    length-word r c.args.blocks.now c.args.parity.now (c.args.first + l) (omega arith) (omega arith) c.requires.part.of_parity.whole in
    let bytes : (l : ℕ) → l < 1024 → All (λ x. x < 2 ^ 8) (word l) = λ l h.
    all_bytes (word l) (AllBytes-word r c.args.blocks.now c.args.parity.now (c.args.first + l) (omega arith) (λ n. (c.type_inv.blocks n).fits) (λ n. (c.type_inv.parity n).fits)) in
    let value : (l j : ℕ) → l < 1024 → j < r → lane c.run.new.bank l (255 + j) ≡ value_at (word l) (root j) = λ l j h k.
    c.run.ensures l h (255 + j)
    ∙ (λ t. meaning c.args.kept.now.program.steps.items (λ n. c.lay_words.ensures l h n t) (255 + j))
    ∙ c.requires.evaluator (word l) (long l h) (bytes l h) j k in
    record {
      most = c.count_zero_lanes.ensures.most;
      codewords = λ l h.
          let inside : l < 1024 = omega (arith, c.count_zero_lanes.ensures.most) in
          record { whole = long l inside; bytes = bytes l inside; vanishes = λ j k. sym (value l j inside k) ∙ c.count_zero_lanes.ensures.zero l h j k };
      next = λ h code. c.count_zero_lanes.ensures.next h (λ j k. value c.count_zero_lanes.result j h k ∙ code.vanishes j k);
    }
