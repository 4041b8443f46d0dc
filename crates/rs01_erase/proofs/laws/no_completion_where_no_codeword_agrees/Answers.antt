use Rattle.std.proofs.Common.{◌<◌, arith}
use Rattle.std.proofs.lemmas.List.Elements.{All-get_or}
use Rattle.rs01_erase.proofs.Completions.{completion-none, none-agrees}
use Rattle.rs01_erase.proofs.laws.no_completion_where_no_codeword_agrees.Goals as goal

pub returns : goal.returns
returns c = λ below. (
  λ e d. none-agrees c.args.word.now c.args.erased.now c.args.r d (omega arith) (λ k l. All-get_or (λ p. p < 255) c.args.erased.now k 0 l below) e,
  completion-none c.args.word.now c.args.erased.now c.args.r,
)
