use Rattle.std.proofs.Common.{◌+◌, ◌∙◌, arith}
use Rattle.rs01_columns.proofs.Laid.{word_laid}
use Rattle.rs01_columns.proofs.laying.lay_words.Goals as goal

pub returns : goal.returns
returns c = λ l h j.
    word_laid c.lay_parity.new.bank c.args.blocks.now c.args.parity.now c.args.r (c.args.first + l) l j (omega arith) (omega arith) c.requires.part.of_parity.whole
    (λ b. c.lay_parity.ensures.rest.front l j h b ∙ c.lay_blocks.ensures l h j)
    (λ m b. c.lay_parity.ensures.here l m h b)
    (λ b. c.lay_parity.ensures.rest.behind l j h b ∙ c.lay_blocks.ensures l h j)
