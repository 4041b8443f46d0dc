use Rattle.std.proofs.Common.{get_or, ap, ◌∙◌}
use Rattle.std.proofs.lemmas.Bool.{false≢true}
use Rattle.rs01_sums.proofs.MarkerLemmas.{first_of_marker}
use Rattle.rs01_sums.proofs.markers.is_marker.Goals as goal

pub returns-then-block-ne114 : goal.returns-then-block-ne114
returns-then-block-ne114 c = (λ no. absurd (false≢true no), λ same. absurd (c.if-block-ne114.true (ap (λ block. get_or block 0 0) same ∙ first_of_marker c.args.sector)))
