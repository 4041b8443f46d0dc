-- What is seen of a reader at a moment.
use Rattle.std.specs.Prelude.{ℕ, ◌≡◌, ◌≤◌, ◌*◌, ◌+◌, ◌-◌, Bool, IsTrue, List, Option, length, slice_index_or}
use Rattle.rs01_lists.specs.Bytes.{part}
use Rattle.rs01_layers.specs.Sectors.{length_of}
use Rattle.rs01_outside.specs.DeskState.{DeskState}
use Rattle.rs01_outside.specs.Files.{bytes_of}
use Rattle.rs01_rack.specs.Rack.{RackState, capped, views_of}
use Rattle.rs01_ecchead.specs.Erased.{Known, image_len}
use Rattle.rs01_ecchead.specs.declared.opened.Ecc.{Ecc}
use Rattle.rs01_states.specs.Sparing.{is_unread, state_of}
use Rattle.rs01_states.specs.declared.state.State.{State}
use Rattle.rs01_linear.specs.Asking.{Asking}
use Rattle.rs01_linear.specs.Lasting.{asks_in}
use Rattle.rs01_linear.specs.declared.fate.Fate.{Fate}
use Rattle.rs01_linear.specs.declared.fate.Fate.TheVariants.{LeftOut}
use Rattle.rs01_turns.specs.Turns.{Reading, Terms, asking_for, rest}

-- what a reader has from its start to its end: the terms, the image file's name, and the error correction file's name and
-- what was found in it, where one is given
pub record Setting : Type 0 where
  pub terms : Terms
  pub image : List ℕ
  pub ecc : Option (List ℕ)
  pub opened : Option Ecc

pub record Moment : Type 0 where
  pub setting : Setting
  -- each sector's state, and the sector behind the one that was read last, where none failed since
  pub states : List State
  pub place : Option ℕ
  -- what became of each sector so far: one that wasn't good and wasn't asked for is left out
  pub fates : List Fate
  -- the layers that were given, first to last
  pub given : List ℕ
  -- of the layers below, those that were within their bound at the start were given
  pub first : ℕ
  -- the desk's counts of faults when the reader was made
  pub kept_reads : ℕ
  pub kept_writes : ℕ
  -- the drives and the desk
  pub rack : RackState
  pub desk : DeskState

abbrev pub terms_of : Moment → Terms
terms_of m = m.setting.terms

abbrev pub known_at : Moment → Known
known_at m = m.setting.terms.known

-- the same moment of the reading, by what the drives mean
abbrev pub reading_at : Moment → Reading
reading_at m = record { views = views_of m.rack; states = m.states; place = m.place }

abbrev pub unread_at : Moment → ℕ → Bool
unread_at m s = is_unread (state_of m.states s)

abbrev pub fate_at : Moment → ℕ → Fate
fate_at m s = slice_index_or m.fates s LeftOut

-- the bytes of the image file
abbrev pub image_at : Moment → List ℕ
image_at m = bytes_of m.desk.files m.setting.image

-- how many bytes sector s has
abbrev pub length_at : Moment → ℕ → ℕ
length_at m s = length_of (known_at m).sectors (known_at m).last_bytes s

-- the bytes of sector s in the image file
abbrev pub bytes_at : Moment → ℕ → List ℕ
bytes_at m s = part (image_at m) (2048 * s) (length_at m s)

-- the end of the reading from this moment on
abbrev pub rest_of : Moment → Reading
rest_of m = rest (terms_of m) (reading_at m)

-- how sector s is asked for from this moment on, or none where it isn't
abbrev pub asking_of : Moment → ℕ → Option Asking
asking_of m s = asking_for (terms_of m) (reading_at m) s

-- the rack's count of asks at the end of the reading
abbrev pub asks_at_end : Moment → ℕ
asks_at_end m = capped (m.rack.asks + (asks_in (rest_of m).views - asks_in (views_of m.rack)))

-- a reader may ask for sectors: there is a state and a fate for each, and each has its place in the image file
pub record IsReady (m : Moment) : Type 0 where
  pub all : length m.states ≡ (known_at m).sectors
  pub fated : length m.fates ≡ (known_at m).sectors
  pub last_fits : (known_at m).last_bytes ≤ 2048
  pub places : IsTrue m.desk.tells → image_len (known_at m) ≤ length (image_at m)
