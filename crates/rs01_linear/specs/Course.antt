-- Reading the sectors of a medium in rising order into an image file y.
use Rattle.std.specs.Prelude.{ℕ, zero, suc, ◌≤◌, ◌+◌, ◌++◌, nat_lt, if◌then◌else◌, List, [], ◌∷◌, is_some, take}
use Rattle.std.specs.Option.{unwrap_or}
use Rattle.rs01_layers.specs.Sectors.{length_of}
use Rattle.rs01_sums.specs.Marker.{marker}
use Rattle.rs01_outside.specs.DriveView.{DriveView}
use Rattle.rs01_ecchead.specs.Erased.{Known, block_in, is_erased}
use Rattle.rs01_linear.specs.Asking.{Asking, ask_drives, kind_of}
use Rattle.rs01_linear.specs.declared.asking.Asked.{Asked}
use Rattle.rs01_linear.specs.declared.asking.Asked.TheVariants as asked
use Rattle.rs01_linear.specs.declared.fate.Fate.{Fate}
use Rattle.rs01_linear.specs.declared.fate.Fate.TheVariants.{Altered, Kept, LeftOut, Read, Unreadable}

-- how a sector is to be asked for: after one that wasn't read the next `jump - 1` are left out, and each drive is asked
-- `tries` times at most
pub record Manner : Type 0 where
  pub jump : ℕ
  pub tries : ℕ

abbrev pub manner_of : ℕ → ℕ → Manner
manner_of jump tries = record { jump = jump; tries = tries }

-- the manners that there are
pub record IsManner (jump tries : ℕ) : Type 0 where
  pub some_jump : 1 ≤ jump
  pub most_jump : jump ≤ 1048576
  pub some_tries : 1 ≤ tries
  pub most_tries : tries ≤ 16

-- how far a reading has come
pub record Course : Type 0 where
  -- the drives
  pub views : List DriveView
  -- the first sector that may be asked for
  pub next : ℕ
  -- what became of each sector that was passed
  pub fates : List Fate
  -- the bytes of these sectors
  pub image : List ℕ

-- a sector was passed, and this is its block from now on
abbrev pub passed : Known → ℕ → Fate → List ℕ → Course → Course
passed known s fate block course = record course {
  fates = course.fates ++ fate ∷ [];
  image = course.image ++ take (length_of known.sectors known.last_bytes s) block;
}

-- what becomes of a sector that was asked for
abbrev pub fate_of : Asked → Fate
fate_of asked.Read = Read
fate_of asked.Unreadable = Unreadable
fate_of asked.Altered = Altered

-- a sector was asked for: it has the block that was read, or its marker, and then others are left out
abbrev pub asked_for : Known → Manner → ℕ → Asking → Course → Course
asked_for known manner s asking course =
    passed known s (fate_of (kind_of asking)) (unwrap_or asking.read (marker s)) (record course {
      views = asking.views;
      next = if is_some asking.read then course.next else s + manner.jump;
    })

-- a sector that the image file doesn't have: it is left out and gets its marker, or it is asked for
abbrev pub asked_or_left : Known → Manner → ℕ → Course → Course
asked_or_left known manner s course =
    if nat_lt s course.next then passed known s LeftOut (marker s) course
    else asked_for known manner s (ask_drives known s manner.tries course.views) course

-- the next sector: one that the image file has isn't asked for
abbrev pub pass : Known → Manner → List ℕ → ℕ → Course → Course
pass known manner y s course =
    if is_erased known y s then asked_or_left known manner s course else passed known s Kept (block_in known y s) course

-- the first n sectors are passed
unfoldable pub read_to : Known → Manner → List ℕ → List DriveView → ℕ → Course
read_to known manner y views zero = record { views = views; next = 0; fates = []; image = [] }
read_to known manner y views (suc s) = pass known manner y s (read_to known manner y views s)

-- all of them
abbrev pub whole_reading : Known → Manner → List ℕ → List DriveView → Course
whole_reading known manner y views = read_to known manner y views known.sectors
