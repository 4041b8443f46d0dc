-- What holds of an image that was found with its error correction file.
use Rattle.std.proofs.Common.{◌≡◌, ◌≤◌, ◌+◌, ◌*◌, ℕ, List, length, refl, sym, ◌∙◌, ⊎_elim, Bool, true, false}
use Rattle.std.specs.Prelude.{◌||◌, not}
use Rattle.std.proofs.lemmas.Bool.{cases_lt, false≢true, lt-ltb}
use Rattle.rs01_layers.specs.Sectors.{length_of}
use Rattle.rs01_sums.specs.Usable.{is_usable}
use Rattle.rs01_ecchead.specs.Erased.{Known, block_in, is_absent, is_erased}

-- a sector that isn't erased isn't absent
pub present : (known : Known) (y : List ℕ) (s : ℕ) → is_erased known y s ≡ false → is_absent known y s ≡ false
unfolding is_erased
present known y s there = before (is_absent known y s) (not (is_usable known.sums s (block_in known y s))) there
  where
    before : (a b : Bool) → a || b ≡ false → a ≡ false
    before true b e = e
    before false b e = refl

-- and the file goes on to its end
pub reaches : (known : Known) (y : List ℕ) (s : ℕ) → is_absent known y s ≡ false → 2048 * s + length_of known.sectors known.last_bytes s ≤ length y
reaches known y s there =
    let size = length_of known.sectors known.last_bytes s in
    ⊎_elim
    (λ short. absurd (false≢true (sym there ∙ lt-ltb (length y) (2048 * s + size) short)))
    (λ h. h)
    (cases_lt (length y) (2048 * s + size))
