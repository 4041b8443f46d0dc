use Rattle.rs01_layers.proofs.PlaceLemmas as lemmas
use Rattle.rs01_layers.proofs.laws.place_determines_sector.Goals as goal

pub returns : goal.returns
returns c = lemmas.place_determines_sector
