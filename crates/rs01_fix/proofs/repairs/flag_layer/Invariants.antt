use Rattle.std.proofs.Common.{◌≡◌, ◌≢◌, ◌<◌, ℕ, length, get_or, false}
use Rattle.rs01_layers.specs.Layout.{layer_of, place_of}
use Rattle.rs01_fix.proofs.repairs.flag_layer.Given as goal

abbrev pub invariant-loop-place : goal.invariant-loop-place
invariant-loop-place l = record {
  len : length l.erased ≡ length l.initial.erased;
  here : (s : ℕ) → s < l.found.ecc.head.sectors → layer_of l.found.ecc.head.sectors l.found.ecc.head.parity s ≡ l.layer
      → place_of l.found.ecc.head.sectors l.found.ecc.head.parity s < l.place
      → get_or l.erased s false ≡ get_or l.flags (place_of l.found.ecc.head.sectors l.found.ecc.head.parity s) false;
  others : (s : ℕ) → s < l.found.ecc.head.sectors → layer_of l.found.ecc.head.sectors l.found.ecc.head.parity s ≢ l.layer
      → get_or l.erased s false ≡ get_or l.initial.erased s false;
}
