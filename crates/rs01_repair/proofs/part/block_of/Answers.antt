use Rattle.std.proofs.Common.{◌*◌, take, ap, ◌∙◌}
use Rattle.std.proofs.lemmas.List.{take_rest}
use Rattle.rs01_repair.specs.Parts.{chunk}
use Rattle.rs01_repair.proofs.part.block_of.Goals as goal

pub returns : goal.returns
unfolding chunk
returns c = c.in-Some.ensures.cases.same ∙ ap (take 2048) (take_rest c.args.run.now (2048 * c.args.k))
