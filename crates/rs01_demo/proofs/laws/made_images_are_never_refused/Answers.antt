use Rattle.rs01_demo.proofs.NoMarkers.{never_refused}
use Rattle.rs01_demo.proofs.laws.made_images_are_never_refused.Goals as goal

pub returns : goal.returns
returns c = λ plan range. never_refused plan.number plan.sectors range.some_sectors range.few_sectors
