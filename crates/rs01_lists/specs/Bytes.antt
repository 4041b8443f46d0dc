-- Words on lists of bytes.
use Rattle.std.specs.Prelude.{ℕ, ◌-◌, List, ◌++◌, length, take, drop, replicate}

-- n zeros
unfoldable pub zeros : ℕ → List ℕ
zeros n = replicate n 0

-- bytes, followed by zeros up to a width
unfoldable pub padded : ℕ → List ℕ → List ℕ
padded width bytes = bytes ++ zeros (width - length bytes)

-- n bytes from a place on, fewer where the list ends
abbrev pub part : List ℕ → ℕ → ℕ → List ℕ
part bytes from n = take n (drop from bytes)
