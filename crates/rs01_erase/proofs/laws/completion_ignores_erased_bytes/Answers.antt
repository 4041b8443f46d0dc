use Rattle.std.proofs.Common.{◌<◌, get_or, arith}
use Rattle.std.proofs.lemmas.List.Elements.{All-get_or}
use Rattle.rs01_erase.proofs.Completions.{completion-same}
use Rattle.rs01_erase.proofs.laws.completion_ignores_erased_bytes.Goals as goal

pub returns : goal.returns
returns c = λ below.
    completion-same c.args.word.now c.args.other.now c.args.erased.now c.args.r (omega arith)
    (λ k l.
    let place : get_or c.args.erased.now k 0 < 255 = All-get_or (λ p. p < 255) c.args.erased.now k 0 l below in
    omega arith)
