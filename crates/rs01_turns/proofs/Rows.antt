-- Whole readings of two small media, by computation. Of ten sectors without a file the fifth fails.
use Rattle.std.proofs.Common.{◌≡◌, ℕ, List, [], ◌∷◌, map, refl, arith}
use Rattle.std.specs.Prelude.{None, Some, false, replicate, if◌then◌else◌, ◌==◌}
use Rattle.rs01_lists.specs.Bytes.{padded, zeros}
use Rattle.rs01_layers.specs.declared.shape.Shape.{Shape}
use Rattle.rs01_sums.specs.Marker.{digits, marker, marker_text}
use Rattle.rs01_outside.specs.DriveView.{DriveView}
use Rattle.rs01_rack.specs.Asking.{try_drive}
use Rattle.rs01_intervals.specs.Runs.{best_run, better, longest}
use Rattle.rs01_states.specs.Sparing.{open_count, spared_all, spared_where, within_bound}
use Rattle.rs01_states.specs.declared.state.State.TheVariants.{Unread}
use Rattle.rs01_linear.specs.Asking.{ask_drives}
use Rattle.rs01_linear.specs.Medium.{plain}
use Rattle.rs01_turns.specs.Turns.{Reading, Terms, after_ask, new_turn, next_sector, place_after, rest, states_after, step}

drive : DriveView
drive = record {
  number = 10;
  unsized = false;
  coming = λ s. [];
  steady = λ s. if s == 4 then None else Some [];
  asked = [];
}

terms : Terms
terms = record { known = plain 10; shape = None; tries = 1 }

start : Reading
start = record { views = drive ∷ []; states = replicate 10 Unread; place = None }

asks : Reading → List (List ℕ)
asks now = map (λ (view : DriveView). view.asked) now.views

asks-of-ten : asks (rest terms start) ≡ (0 ∷ 1 ∷ 2 ∷ 3 ∷ 4 ∷ 7 ∷ 8 ∷ 9 ∷ 6 ∷ 5 ∷ []) ∷ []
unfolding drive terms start asks rest step after_ask place_after states_after next_sector new_turn longest best_run better ask_drives try_drive padded zeros marker marker_text digits
asks-of-ten = refl

-- twelve sectors in one layer with a parity of 8, of which sector 2 fails: four good ones are enough
file : Shape
file = record {
  sectors = 12;
  parity = 8;
  in_range = record { some_sectors = omega arith; not_too_many = omega arith; enough_parity = omega arith; not_too_much = omega arith };
}

twelve : DriveView
twelve = record drive { number = 12; steady = λ s. if s == 2 then None else Some [] }

with_file : Terms
with_file = record { known = plain 12; shape = Some file; tries = 1 }

start_of_twelve : Reading
start_of_twelve = record { views = twelve ∷ []; states = replicate 12 Unread; place = None }

asks-with-file : asks (rest with_file start_of_twelve) ≡ (0 ∷ 1 ∷ 2 ∷ 7 ∷ 8 ∷ []) ∷ []
unfolding drive twelve with_file file start_of_twelve asks rest step after_ask place_after states_after next_sector new_turn longest best_run better spared_all within_bound open_count spared_where ask_drives try_drive padded zeros marker marker_text digits
asks-with-file = refl
