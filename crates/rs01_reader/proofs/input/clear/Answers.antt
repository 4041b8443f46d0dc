use Rattle.std.proofs.Common.{◌∙◌}
use Rattle.rs01_lists.proofs.Padding.{filled}
use Rattle.rs01_reader.proofs.ReadLemmas.{none_padded}
use Rattle.rs01_reader.proofs.input.clear.Goals as goal

pub returns : goal.returns
returns c = filled c.fill.new.self _ 2048 c.told-block (c.fill.ensures.after (λ y same. same)) ∙ none_padded
