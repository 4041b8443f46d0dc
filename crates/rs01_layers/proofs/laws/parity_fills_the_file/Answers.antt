use Rattle.rs01_layers.proofs.PlaceLemmas.{parity_is_in_file, parity_stands_apart, parity_fills_file}
use Rattle.rs01_layers.proofs.laws.parity_fills_the_file.Goals as goal

pub returns : goal.returns
returns c = record { within = parity_is_in_file; apart = parity_stands_apart; whole = parity_fills_file }
