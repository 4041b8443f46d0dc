use Rattle.std.proofs.Common.{List, ℕ, [], ◌∷◌, ◌++◌, ap}
use Rattle.std.specs.Prelude.{codes}
use Rattle.rs01_sums.specs.Marker.{marker_text}
use Rattle.rs01_sums.proofs.markers.text_of.Goals as goal

pub returns : goal.returns
unfolding marker_text
returns c = ap (λ (tens : List ℕ). codes "rs01 missing sector " ++ (tens ++ 10 ∷ [])) c.write_digits.ensures
