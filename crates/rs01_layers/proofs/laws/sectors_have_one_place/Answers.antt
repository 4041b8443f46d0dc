use Rattle.rs01_layers.proofs.PlaceLemmas.{each_sector_has_a_place, each_sector_has_one_place}
use Rattle.rs01_layers.proofs.laws.sectors_have_one_place.Goals as goal

pub returns : goal.returns
returns c = record { there = each_sector_has_a_place; nowhere_else = each_sector_has_one_place }
