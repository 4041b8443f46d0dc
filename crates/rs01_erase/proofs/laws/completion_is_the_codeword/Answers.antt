use Rattle.std.proofs.Common.{◌<◌, arith}
use Rattle.std.proofs.lemmas.List.Elements.{All-get_or}
use Rattle.rs01_erase.proofs.Completions.{completion-completes, completion-is}
use Rattle.rs01_erase.proofs.laws.completion_is_the_codeword.Goals as goal

pub returns : goal.returns
returns c = λ rising below few. (
  λ e. (let done = completion-completes c.args.word.now c.args.erased.now c.args.r c.args.codeword.now e in (done.code, done.agree)),
  λ h. completion-is c.args.word.now c.args.erased.now c.args.r c.args.codeword.now (omega arith)
      (λ k l. All-get_or (λ p. p < 255) c.args.erased.now k 0 l below) rising few h.0 h.1,
)
