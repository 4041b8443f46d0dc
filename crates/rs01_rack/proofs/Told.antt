-- Where all drives tell, their views decide the number that is given.
use Rattle.std.proofs.Common.{◌≡◌, ℕ, suc, ◌+◌, ◌<◌, ◌∙◌, ap, arith, sym, refl, List, [], ◌∷◌, map, Some, None, true, false, cond, length, Result, Ok, Err}
use Rattle.std.specs.Prelude.{slice_get, IsTrue}
use Rattle.rs01_outside.specs.DriveState.{DriveState}
use Rattle.rs01_outside.specs.DriveView.{DriveView}
use Rattle.rs01_rack.specs.declared.refusal.RackRefusal.{RackRefusal}
use Rattle.rs01_rack.specs.declared.refusal.RackRefusal.TheVariants.{Differ, Failed, NoDrive}
use Rattle.rs01_rack.specs.Rack.{AllTell, RackState, views_of}
use Rattle.rs01_rack.specs.Counting.{AllCounted, GivesNumber, agreed, first_unsized, number_of, number_unless}

abbrev views : List DriveState → List DriveView
views drives = map (λ drive. drive.view) drives

abbrev Tell : List DriveState → Type 0
Tell drives = (k : ℕ) (drive : DriveState) → slice_get drives k ≡ Some drive → IsTrue drive.tells

-- all gave their number: the size call of none fails, and these are the numbers
pub record Sized (at : ℕ) (numbers : List ℕ) (old : List DriveState) : Type 0 where
  pub all : first_unsized at (views old) ≡ None
  pub are : map (λ view. view.number) (views old) ≡ numbers

sized : (at : ℕ) (numbers : List ℕ) (old new : List DriveState) → AllCounted numbers old new → Tell new → length numbers ≡ length old → length new ≡ length old
    → Sized at numbers old
sized at [] [] new counted tell long same = record { all = refl; are = refl }
sized at [] (o ∷ old) new counted tell long same = absurd (omega (arith, long))
sized at (n ∷ numbers) [] new counted tell long same = absurd (omega (arith, long))
sized at (n ∷ numbers) (o ∷ old) [] counted tell long same = absurd (omega (arith, same))
sized at (n ∷ numbers) (o ∷ old) (x ∷ new) counted tell long same =
    let told = (counted 0 n refl o x refl refl).told (tell 0 x refl) in
    let later = sized (at + 1) numbers old new (λ k. counted (suc k)) (λ k. tell (suc k)) (omega (arith, long)) (omega (arith, same)) in
    record {
      all = ap (λ b. cond b (Some at) (first_unsized (at + 1) (views old))) told.0 ∙ later.all;
      are = (λ i. sym told.1 i ∷ later.are i);
    }

-- the drive behind those that gave their number failed, and its size call is the first that does
unsized : (at : ℕ) (numbers : List ℕ) (old new : List DriveState) → AllCounted numbers old new → Tell new → length numbers < length old → length new ≡ length old
    → ((b a : DriveState) → slice_get old (length numbers) ≡ Some b → slice_get new (length numbers) ≡ Some a → IsTrue a.tells → b.view.unsized ≡ true)
    → first_unsized at (views old) ≡ Some (at + length numbers)
unsized at [] [] new counted tell inside same failed = absurd (omega (arith, inside))
unsized at [] (o ∷ old) [] counted tell inside same failed = absurd (omega (arith, same))
unsized at [] (o ∷ old) (x ∷ new) counted tell inside same failed =
    ap (λ b. cond b (Some at) (first_unsized (at + 1) (views old))) (failed o x refl refl (tell 0 x refl))
    ∙ ap Some (let e : at ≡ at + 0 = omega arith in e)
unsized at (n ∷ numbers) [] new counted tell inside same failed = absurd (omega (arith, inside))
unsized at (n ∷ numbers) (o ∷ old) [] counted tell inside same failed = absurd (omega (arith, same))
unsized at (n ∷ numbers) (o ∷ old) (x ∷ new) counted tell inside same failed =
    let told = (counted 0 n refl o x refl refl).told (tell 0 x refl) in
    ap (λ b. cond b (Some at) (first_unsized (at + 1) (views old))) told.0
    ∙ unsized (at + 1) numbers old new (λ k. counted (suc k)) (λ k. tell (suc k)) (omega (arith, inside)) (omega (arith, same)) (λ b a was is. failed b a was is)
    ∙ ap Some (let e : at + 1 + length numbers ≡ at + suc (length numbers) = omega arith in e)

by_views : (answer : Result ℕ RackRefusal) (numbers : List ℕ) (old new : RackState) → AllCounted numbers old.drives new.drives → AllTell new
    → length numbers ≡ length old.drives → length new.drives ≡ length old.drives → answer ≡ agreed numbers → answer ≡ number_of (views_of old)
by_views answer numbers old new counted tell long same is =
    let all = sized 0 numbers old.drives new.drives counted tell long same in
    is ∙ sym (ap (λ o. number_unless o (views_of old)) all.all ∙ ap agreed all.are)

pub told_number : (answer : Result ℕ RackRefusal) (old new : RackState) → GivesNumber answer old new → AllTell new → answer ≡ number_of (views_of old)
told_number (Ok n) old new gives tell = by_views (Ok n) gives.numbers old new gives.counted tell gives.ends.0 gives.number gives.ends.1
told_number (Err NoDrive) old new gives tell = by_views (Err NoDrive) gives.numbers old new gives.counted tell gives.ends.0 gives.number gives.ends.1
told_number (Err (Differ a b)) old new gives tell = by_views (Err (Differ a b)) gives.numbers old new gives.counted tell gives.ends.0 gives.number gives.ends.1
told_number (Err (Failed place)) old new gives tell =
    let before : length gives.numbers ≡ place = gives.ends.before in
    let first =
    unsized 0 gives.numbers old.drives new.drives gives.counted tell (omega (arith, before, gives.ends.inside)) gives.number
    (λ b a was is t.
    (gives.ends.failed b a (ap (slice_get old.drives) (sym before) ∙ was) (ap (slice_get new.drives) (sym before) ∙ is)).told t) in
    ap (λ p. Err (Failed p)) (let e : place ≡ 0 + length gives.numbers = omega (arith, before) in e)
    ∙ sym (ap (λ o. number_unless o (views_of old)) first)
