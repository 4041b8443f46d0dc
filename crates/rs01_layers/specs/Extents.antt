-- How far an image goes.
use Rattle.std.specs.Prelude.{ℕ, ◌≡◌, List, length}
use Rattle.rs01_layers.specs.Sectors.{last_of, sectors_of}
use Rattle.rs01_layers.specs.declared.extent.Extent.{Extent}

-- an extent is that of an image
pub record IsExtentOf (image : List ℕ) (extent : Extent) : Type 0 where
  pub sectors : extent.sectors ≡ sectors_of (length image)
  pub last : extent.last_bytes ≡ last_of (length image)
