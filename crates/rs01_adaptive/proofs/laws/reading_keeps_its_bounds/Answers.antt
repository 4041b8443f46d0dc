use Rattle.rs01_adaptive.proofs.Bounds.{bounds-are-kept}
use Rattle.rs01_adaptive.proofs.laws.reading_keeps_its_bounds.Goals as goal

pub returns : goal.returns
returns c = bounds-are-kept
