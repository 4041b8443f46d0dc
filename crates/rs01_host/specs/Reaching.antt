-- How far an opened drive reaches.
use Rattle.std.specs.Prelude.{ℕ, ◌+◌, ◌-◌, ◌*◌, ◌/◌, ◌^◌, ◌≡◌, ◌<◌, min, Option, IsSomeAnd}
use Rattle.rs01_host.specs.declared.opened.Opened.{Opened}

-- the number of sectors of so many bytes, up to the last value of a u32
abbrev pub sectors_in : ℕ → ℕ
sectors_in len = min ((len + 2047) / 2048) (2 ^ 32 - 1)

-- a drive that is open has this number of sectors, by the length that was found
abbrev pub HasSectors : ℕ → Option Opened → Type 0
HasSectors number opened = IsSomeAnd opened (λ file. number ≡ sectors_in file.len)

-- a drive that is open has a byte of this sector
abbrev pub Reaches : ℕ → Option Opened → Type 0
Reaches sector opened = IsSomeAnd opened (λ file. 2048 * sector < file.len)
