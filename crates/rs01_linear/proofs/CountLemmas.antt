-- Asking the drives for their number of sectors changes nothing but counts of faults.
use Rattle.std.proofs.Common.{◌≡◌, ℕ, zero, suc, ◌+◌, ◌^◌, ◌<◌, ◌≤◌, ◌∙◌, ap, arith, sym, refl, List, [], ◌∷◌, Some, length, ⊎_elim}
use Rattle.std.specs.Prelude.{slice_get, IsTrue, Result, Ok, Err}
use Rattle.std.proofs.lemmas.Bool.{cases_lt}
use Rattle.std.proofs.lemmas.Option.{slice_get_within}
use Rattle.rs01_outside.specs.DriveState.{Answers, DriveState}
use Rattle.rs01_rack.specs.Rack.{AllTell, AtDrive, RackState, views_of}
use Rattle.rs01_rack.specs.Counting.{AllCounted, GivesNumber}
use Rattle.rs01_rack.specs.declared.refusal.RackRefusal.{RackRefusal}
use Rattle.rs01_rack.specs.declared.refusal.RackRefusal.TheVariants.{Differ, Failed, NoDrive}
use Rattle.rs01_rack.proofs.Places.{same_from}
use Rattle.rs01_linear.specs.Lasting.{Lasts, RackLasts, asks_in}
use Rattle.rs01_linear.proofs.LastingLemmas.{same_lasts, views}

-- a drive that lasts, with the view that it had
pub record Stays (before after : DriveState) : Type 0 where
  pub lasts : Lasts before after
  pub view_is : IsTrue after.tells → after.view ≡ before.view

counted_stays : {failed : _} (before after : DriveState) → Answers before after before.view failed → Stays before after
counted_stays before after answers = record { lasts = record { told_before = answers.told_before; later = answers.later }; view_is = answers.view_is }

same_stays : (old new : List DriveState) (k : ℕ) (b a : DriveState) → slice_get new k ≡ slice_get old k → slice_get old k ≡ Some b → slice_get new k ≡ Some a → Stays b a
same_stays old new k b a same was is =
    let e : Some b ≡ Some a = sym was ∙ sym same ∙ is in
    let drive : b ≡ a = cc in
    record { lasts = same_lasts old new k b a same was is; view_is = λ t. ap (λ (d : DriveState). d.view) (sym drive) }

number_there : (numbers : List ℕ) (k : ℕ) → k < length numbers → (n : ℕ) × (slice_get numbers k ≡ Some n)
number_there [] k low = absurd (omega (arith, low))
number_there (n ∷ numbers) zero low = (n, refl)
number_there (n ∷ numbers) (suc k) low = number_there numbers k (omega (arith, low))

-- a drive that gave its number
low_stays : (numbers : List ℕ) (old new : RackState) → AllCounted numbers old.drives new.drives → (k : ℕ) → k < length numbers → AtDrive old.drives new.drives k Stays
low_stays numbers old new counted k low b a was is =
    let n = number_there numbers k low in
    counted_stays b a (counted k n.0 n.1 b a was is).state

all_stay : (numbers : List ℕ) (old new : RackState) → AllCounted numbers old.drives new.drives → length numbers ≡ length old.drives → (k : ℕ) → AtDrive old.drives new.drives k Stays
all_stay numbers old new counted all k b a was is = low_stays numbers old new counted k (omega (arith, all, slice_get_within old.drives k b was)) b a was is

pub drives_stay : (answer : Result ℕ RackRefusal) (old new : RackState) → GivesNumber answer old new → (k : ℕ) → AtDrive old.drives new.drives k Stays
drives_stay (Ok n) old new gives = all_stay gives.numbers old new gives.counted gives.ends.0
drives_stay (Err NoDrive) old new gives = all_stay gives.numbers old new gives.counted gives.ends.0
drives_stay (Err (Differ one other)) old new gives = all_stay gives.numbers old new gives.counted gives.ends.0
drives_stay (Err (Failed place)) old new gives = λ k b a was is.
    ⊎_elim
    (λ (low : k < place). low_stays gives.numbers old new gives.counted k (omega (arith, low, gives.ends.before)) b a was is)
    (λ (high : place ≤ k).
    ⊎_elim
    (λ (low : k < place + 1).
    let here : k ≡ place = omega (arith, low, high) in
    counted_stays b a (gives.ends.failed b a (ap (slice_get old.drives) (sym here) ∙ was) (ap (slice_get new.drives) (sym here) ∙ is)).state)
    (λ (past : place + 1 ≤ k). same_stays old.drives new.drives k b a (same_from new.drives old.drives (place + 1) k gives.ends.behind past) was is)
    (cases_lt k (place + 1)))
    (cases_lt k place)

same_views : (old new : List DriveState) → length new ≡ length old → ((k : ℕ) → AtDrive old new k Stays) → ((k : ℕ) (drive : DriveState) → slice_get new k ≡ Some drive → IsTrue drive.tells)
    → views new ≡ views old
same_views [] [] same stay tell = refl
same_views [] (x ∷ new) same stay tell = absurd (omega (arith, same))
same_views (o ∷ old) [] same stay tell = absurd (omega (arith, same))
same_views (o ∷ old) (x ∷ new) same stay tell =
    let here = (stay 0 o x refl refl).view_is (tell 0 x refl) in
    let later = same_views old new (omega (arith, same)) (λ k. stay (suc k)) (λ k. tell (suc k)) in
    λ i. here i ∷ later i

pub number_same : (answer : Result ℕ RackRefusal) (old new : RackState) → GivesNumber answer old new → AllTell new → views_of new ≡ views_of old
number_same answer old new gives tell = same_views old.drives new.drives gives.number (drives_stay answer old new gives) tell

pub number_lasts : (answer : Result ℕ RackRefusal) (old new : RackState) → old.asks < 2 ^ 128 → GivesNumber answer old new → RackLasts old new
number_lasts answer old new small gives = record {
  number = gives.number;
  each = λ k b a was is. (drives_stay answer old new gives k b a was is).lasts;
  later = omega (arith, gives.asks);
  asks = λ tell.
      record {
        more = 0;
        shown = omega (arith, ap asks_in (number_same answer old new gives tell));
        counted = omega (arith, gives.asks, small);
      };
}
