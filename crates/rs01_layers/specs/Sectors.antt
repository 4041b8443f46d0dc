-- How an image is cut into sectors of 2048 bytes.
use Rattle.std.specs.Prelude.{ℕ, ◌+◌, ◌-◌, ◌*◌, ◌/◌, ◌==◌, if◌then◌else◌, List, length}
use Rattle.rs01_lists.specs.Bytes.{padded, part}

-- how many sectors an image of this many bytes has
abbrev pub sectors_of : ℕ → ℕ
sectors_of bytes = (bytes + 2047) / 2048

-- how many of its bytes the last sector has
abbrev pub last_of : ℕ → ℕ
last_of bytes = bytes - 2048 * (sectors_of bytes - 1)

-- how many bytes sector s has, where there are `count` sectors and the last one has `last` bytes
abbrev pub length_of : ℕ → ℕ → ℕ → ℕ
length_of count last s = if s + 1 == count then last else 2048

-- the n bytes of a file from the start of sector s on, fewer where the file ends, and then zeros up to 2048 bytes
unfoldable pub block : List ℕ → ℕ → ℕ → List ℕ
block file s n = padded 2048 (part file (2048 * s) n)

-- sector s of an image, as a block
abbrev pub sector : List ℕ → ℕ → List ℕ
sector image s = block image s (length_of (sectors_of (length image)) (last_of (length image)) s)
