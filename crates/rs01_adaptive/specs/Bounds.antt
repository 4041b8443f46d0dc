-- What bounds a whole reading keeps.
use Rattle.std.specs.Prelude.{ℕ, ◌≡◌, ◌<◌, ◌⊎◌, false, true, IsSome, None, Some, slice_get}
use Rattle.std.specs.Fn.{iterate}
use Rattle.rs01_outside.specs.DriveView.{DriveView}
use Rattle.rs01_turns.specs.Ends.{AskedOn, IsLeft}
use Rattle.rs01_turns.specs.Layers.{lies_within}
use Rattle.rs01_turns.specs.Turns.{Reading, rest, step}
use Rattle.rs01_adaptive.specs.Whole.{Whole, asking_in, end_in, is_lacking, known_in, start_in, terms_in}

-- the moment of the reading after so many steps
abbrev pub moment_in : Whole → ℕ → Reading
moment_in w n = iterate (step (terms_in w)) n (start_in w)

pub record KeepsBounds (w : Whole) : Type 0 where
  -- each drive is asked for a sector so many times at most, and never for one that isn't asked for
  pub few :
      (k : ℕ) (one other : DriveView) → slice_get w.views k ≡ Some one → slice_get (end_in w).views k ≡ Some other
      → AskedOn (terms_in w) (start_in w) one other
  -- a sector that the image file lacks and that is never asked for lies in a layer within its bound
  pub unasked :
      (s : ℕ) → s < (known_in w).sectors → is_lacking w s ≡ true → asking_in w s ≡ None → lies_within w.shape (end_in w).states s ≡ true
  -- in every other layer the image file has a sector, or it is asked for
  pub beyond :
      (s : ℕ) → s < (known_in w).sectors → lies_within w.shape (end_in w).states s ≡ false → (is_lacking w s ≡ false) ⊎ IsSome (asking_in w s)
  -- from the moment on when a layer is within its bound, none of its sectors is asked for, and each stays as it is to the end
  pub settled :
      (n s : ℕ) → lies_within w.shape (moment_in w n).states s ≡ true → IsLeft (terms_in w) (moment_in w n) s
  pub end_is : (n : ℕ) → rest (terms_in w) (moment_in w n) ≡ end_in w

abbrev pub BoundsAreKept : Type 0
BoundsAreKept = (w : Whole) → KeepsBounds w
