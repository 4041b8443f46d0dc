-- Drives that stay the same ones over one call and the next.
use Rattle.std.proofs.Common.{◌≡◌, ℕ, ◌+◌, ◌^◌, ◌<◌, ◌∙◌, ap, arith, sym, refl, subst, List, Some, map, take, drop, length, get_or}
use Rattle.std.specs.Prelude.{slice_get}
use Rattle.std.proofs.lemmas.Option.{slice_get_within, slice_get-get_or}
use Rattle.std.proofs.lemmas.List.{map-append, take-append-drop}
use Rattle.std.proofs.lemmas.List.Sums.{sum_by-append}
use Rattle.rs01_outside.specs.DriveState.{DriveState}
use Rattle.rs01_outside.specs.DriveView.{DriveView}
use Rattle.rs01_rack.specs.Rack.{AllTell, RackState}
use Rattle.rs01_linear.specs.Lasting.{Lasts, RackLasts, asks_in}

abbrev pub views : List DriveState → List DriveView
views drives = map (λ drive. drive.view) drives

pub drive_lasts : (drive : DriveState) → Lasts drive drive
drive_lasts drive = record { told_before = λ t. t; later = omega arith }

-- a drive that is as before
pub same_lasts : (old new : List DriveState) (k : ℕ) (b a : DriveState) → slice_get new k ≡ slice_get old k → slice_get old k ≡ Some b → slice_get new k ≡ Some a → Lasts b a
same_lasts old new k b a same was is =
    let e : Some b ≡ Some a = sym was ∙ sym same ∙ is in
    let drive : b ≡ a = cc in
    subst (λ d. Lasts b d) drive (drive_lasts b)

-- there is a drive at each place below the number
pub drive_there : (one other : List DriveState) (k : ℕ) (d : DriveState) → length other ≡ length one → slice_get one k ≡ Some d → slice_get other k ≡ Some (get_or other k d)
drive_there one other k d same was = slice_get-get_or other k d (omega (arith, same, slice_get_within one k d was))

-- where all drives tell, they told before
pub told_before : (old new : RackState) → RackLasts old new → AllTell new → AllTell old
told_before old new lasts tell k drive was =
    let is = drive_there old.drives new.drives k drive lasts.number was in
    (lasts.each k drive (get_or new.drives k drive) was is).told_before (tell k (get_or new.drives k drive) is)

pub rack_lasts : (rack : RackState) → rack.asks < 2 ^ 128 → RackLasts rack rack
rack_lasts rack small = record {
  number = refl;
  each = λ k b a was is. same_lasts rack.drives rack.drives k b a refl was is;
  later = omega arith;
  asks = λ tell. record { more = 0; shown = omega arith; counted = omega (arith, small) };
}

pub lasts_then : (one two three : RackState) → RackLasts one two → RackLasts two three → RackLasts one three
lasts_then one two three first second = record {
  number = second.number ∙ first.number;
  each = λ k b a was is.
      let there = drive_there one.drives two.drives k b first.number was in
      let m = get_or two.drives k b in
      let early = first.each k b m was there in
      let late = second.each k m a there is in
      record { told_before = λ t. early.told_before (late.told_before t); later = omega (arith, early.later, late.later) };
  later = omega (arith, first.later, second.later);
  asks = λ tell.
      let late = second.asks tell in
      let early = first.asks (told_before two three second tell) in
      record { more = early.more + late.more; shown = omega (arith, early.shown, late.shown); counted = omega (arith, early.counted, late.counted) };
}

-- the asks of the first drives and of the others
pub split_asks : (m : ℕ) (drives : List DriveState) → asks_in (views drives) ≡ asks_in (views (take m drives)) + asks_in (views (drop m drives))
split_asks m drives =
    ap (λ (xs : List DriveState). asks_in (views xs)) (sym (take-append-drop m drives))
    ∙ ap asks_in (map-append (λ drive. drive.view) (take m drives) (drop m drives))
    ∙ sum_by-append (λ (v : DriveView). length v.asked) (views (take m drives)) (views (drop m drives))
