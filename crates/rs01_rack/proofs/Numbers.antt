-- The numbers of sectors that drives gave.
use Rattle.std.proofs.Common.{◌≡◌, ℕ, zero, suc, ◌+◌, ◌<◌, ◌∙◌, ap, arith, sym, refl, List, [], ◌∷◌, ◌++◌, Option, Some, None, Bool, true, false, not, cond, length, Result, Ok, Err, inl, inr, ◌⊎◌}
use Rattle.std.specs.Prelude.{slice_get, ◌==◌}
use Rattle.std.specs.Option.{option_or}
use Rattle.std.proofs.lemmas.Option.{slice_get_within}
use Rattle.std.proofs.lemmas.Bool.Decides.{nat_tests}
use Rattle.std.proofs.lemmas.List.Folds.{find-append}
use Rattle.rs01_outside.specs.DriveState.{DriveState}
use Rattle.rs01_outside.specs.declared.Failed as outside
use Rattle.rs01_rack.specs.declared.counting.Seen.{Seen}
use Rattle.rs01_rack.specs.declared.refusal.RackRefusal.{RackRefusal}
use Rattle.rs01_rack.specs.declared.refusal.RackRefusal.TheVariants.{Failed, NoDrive}
use Rattle.rs01_rack.specs.Rack.{AtDrive, ChangesAt, FaultsKept, FaultsRose, RackState, SameBefore, SameFrom}
use Rattle.rs01_rack.specs.Counting.{AllCounted, EndsAs, GivesNumber, IsCounted, agreed, agreed_on, other_number}
use Rattle.rs01_rack.specs.Seen.{IsSeen}
use Rattle.rs01_rack.proofs.Places.{at_same, drop_more, same_before, same_from}

-- the numbers so far, of the drives up to a place
pub record CountedUpTo (kept : Seen) (place : ℕ) (old now : RackState) : Type 0 where
  pub numbers : List ℕ
  pub long : length numbers ≡ place
  pub counted : AllCounted numbers old.drives now.drives
  pub seen : IsSeen kept numbers
  pub number : length now.drives ≡ length old.drives
  pub behind : SameFrom place now.drives old.drives
  pub asks : now.asks ≡ old.asks

nothing : (k n : ℕ) → slice_get {X = ℕ} [] k ≡ Some n → ⊥
nothing k n there = cc

pub count_start : (rack : RackState) → CountedUpTo (record { first = None; other = None }) 0 rack rack
count_start rack = record {
  numbers = [];
  long = refl;
  counted = λ k number there. absurd (nothing k number there);
  seen = record { first = refl; other = refl };
  number = refl;
  behind = refl;
  asks = refl;
}

same_number : (n : ℕ) → (n == n) ≡ true
same_number n = grind (arith, nat_tests)

-- the first number
pub seen_first : (number : ℕ) (seen : Seen) (numbers : List ℕ) → seen.first ≡ None → IsSeen seen numbers → IsSeen (record { first = Some number; other = None }) (numbers ++ number ∷ [])
seen_first number seen [] none is = record {
  first = refl;
  other = sym (ap (λ b. cond (not b) (Some number) None) (same_number number));
}
seen_first number seen (n ∷ numbers) none is = let e : None ≡ Some n = sym none ∙ is.first in cc

-- a further number
pub seen_more : (number first : ℕ) (seen : Seen) (numbers : List ℕ) → seen.first ≡ Some first → IsSeen seen numbers
    → IsSeen (record { first = Some first; other = option_or seen.other (cond (number == first) None (Some number)) }) (numbers ++ number ∷ [])
seen_more number first seen [] some is = let e : Some first ≡ None = sym some ∙ is.first in cc
seen_more number first seen (n ∷ numbers) some is =
    let e : Some first ≡ Some n = sym some ∙ is.first in
    let same : first ≡ n = cc in
    record {
      first = e;
      other =
          ap (λ o. option_or o (cond (number == first) None (Some number))) is.other ∙
          ap (option_or (other_number n (n ∷ numbers))) (one (number == first) ∙ ap (λ m. cond (not (number == m)) (Some number) None) same) ∙
          sym (find-append (λ m. not (m == n)) (n ∷ numbers) (number ∷ []));
    }
  where
    one : (b : Bool) → ◌≡◌ {A = Option ℕ} (cond b None (Some number)) (cond (not b) (Some number) None)
    one true = refl
    one false = refl

slice_get-push : (xs : List ℕ) (x k n : ℕ) → slice_get (xs ++ x ∷ []) k ≡ Some n → (slice_get xs k ≡ Some n) ⊎ ((k ≡ length xs) × (n ≡ x))
slice_get-push [] x zero n is = inr (refl, cc)
slice_get-push [] x (suc k) n is = cc
slice_get-push (y ∷ ys) x zero n is = inl is
slice_get-push (y ∷ ys) x (suc k) n is =
    elim (slice_get-push ys x k n is) [ inl before ↦ inl before | inr last ↦ inr (omega (arith, last.0), last.1) ]

length-push : (xs : List ℕ) (x : ℕ) → length (xs ++ x ∷ []) ≡ length xs + 1
length-push [] x = refl
length-push (y ∷ ys) x = omega (arith, length-push ys x)

-- the drives that were counted stay as they are
counted_before : (place : ℕ) (numbers : List ℕ) (old now new : List DriveState) → length numbers ≡ place → AllCounted numbers old now → SameBefore place new now
    → AllCounted numbers old new
counted_before place numbers old now new long so_far before k n there b a was is =
    let below : k < place = omega (arith, slice_get_within numbers k n there, long) in
    so_far k n there b a was (sym (same_before new now place k before below) ∙ is)

-- one drive more gave its number
counted_more : (place number : ℕ) (numbers : List ℕ) (old now new : List DriveState) → length numbers ≡ place → AllCounted numbers old now → SameFrom place now old
    → ChangesAt place (IsCounted (Ok number)) now new → AllCounted (numbers ++ number ∷ []) old new
counted_more place number numbers old now new long so_far behind changes k n there b a was is =
    elim (slice_get-push numbers number k n there) [
      | inl earlier ↦ counted_before place numbers old now new long so_far changes.before k n earlier b a was is
      | inr here ↦
          let e : k ≡ place = omega (arith, here.0, long) in
          let first : slice_get now place ≡ Some b = same_from now old place place behind (omega arith) ∙ ap (slice_get old) (sym e) ∙ was in
          rw here.1 (changes.here b a first (ap (slice_get new) (sym e) ∙ is))
    ]

pub count_on : (place number : ℕ) (kept next : Seen) (old now new : RackState) → (up : CountedUpTo kept place old now)
    → ChangesAt place (IsCounted (Ok number)) now.drives new.drives → new.asks ≡ now.asks
    → ((numbers : List ℕ) → IsSeen kept numbers → IsSeen next (numbers ++ number ∷ [])) → CountedUpTo next (place + 1) old new
count_on place number kept next old now new up changes asks seen = record {
  numbers = up.numbers ++ number ∷ [];
  long = length-push up.numbers number ∙ ap (λ n. n + 1) up.long;
  counted = counted_more place number up.numbers old.drives now.drives new.drives up.long up.counted up.behind changes;
  seen = seen up.numbers up.seen;
  number = changes.number ∙ up.number;
  behind = changes.behind ∙ drop_more now.drives old.drives (place + 1) place (omega arith) up.behind;
  asks = asks ∙ up.asks;
}

-- no number was seen
pub seen_none : (seen : Seen) (numbers : List ℕ) → seen.first ≡ None → IsSeen seen numbers → Err NoDrive ≡ agreed numbers
seen_none seen [] none is = refl
seen_none seen (n ∷ numbers) none is = let e : None ≡ Some n = sym none ∙ is.first in cc

-- the numbers that were seen are one, or two differ
pub seen_some : (seen : Seen) (numbers : List ℕ) (first : ℕ) (other : Option ℕ) → seen.first ≡ Some first → seen.other ≡ other → IsSeen seen numbers
    → agreed_on first other ≡ agreed numbers
seen_some seen [] first other some is_other is = let e : Some first ≡ None = sym some ∙ is.first in cc
seen_some seen (n ∷ numbers) first other some is_other is =
    let e : Some first ≡ Some n = sym some ∙ is.first in
    let same : first ≡ n = cc in
    let next : other_number n (n ∷ numbers) ≡ other_number n numbers = ap (λ b. cond (not b) (Some n) (other_number n numbers)) (same_number n) in
    (λ i. agreed_on (same i) ((sym is_other ∙ is.other ∙ next) i))

-- where all drives gave a number, no count changed
pub all_kept : (numbers : List ℕ) (old new : List DriveState) → AllCounted numbers old new → length numbers ≡ length old
    → (k : ℕ) → AtDrive old new k FaultsKept
all_kept numbers old new counted all k b a was is =
    let inside : k < length numbers = omega (arith, slice_get_within old k b was, all) in
    let (n, there) = some_at numbers k inside in
    (counted k n there b a was is).state.kept refl
  where
    some_at : (xs : List ℕ) (k : ℕ) → k < length xs → (n : ℕ) × (slice_get xs k ≡ Some n)
    some_at [] k inside = absurd (omega (arith, inside))
    some_at (x ∷ xs) zero inside = (x, refl)
    some_at (x ∷ xs) (suc k) inside = some_at xs k (omega (arith, inside))

-- how it ends, once the drives up to a place gave these numbers
pub given : (answer : Result ℕ RackRefusal) (kept : Seen) (place : ℕ) (old now : RackState) → (up : CountedUpTo kept place old now)
    → EndsAs answer up.numbers old.drives now.drives → GivesNumber answer old now
given answer kept place old now up ends = record {
  numbers = up.numbers;
  counted = up.counted;
  ends = ends;
  number = up.number;
  asks = up.asks;
}

-- the next drive failed
pub count_failed : (place : ℕ) (e : outside.Failed) (kept : Seen) (old now new : RackState) → CountedUpTo kept place old now → place < length old.drives
    → ChangesAt place (IsCounted (Err e)) now.drives new.drives → new.asks ≡ now.asks → GivesNumber (Err (Failed place)) old new
count_failed place e kept old now new up inside changes asks = record {
  numbers = up.numbers;
  counted = counted_before place up.numbers old.drives now.drives new.drives up.long up.counted changes.before;
  ends = record {
    before = up.long;
    inside = inside;
    failed = at_same old.drives now.drives new.drives place (IsCounted (Err e)) (same_from now.drives old.drives place place up.behind (omega arith)) changes.here;
    behind = changes.behind ∙ drop_more now.drives old.drives (place + 1) place (omega arith) up.behind;
  };
  number = changes.number ∙ up.number;
  asks = asks ∙ up.asks;
}

-- the count of the drive that failed rose
pub failed_rose : (place : ℕ) (old new : RackState) → GivesNumber (Err (Failed place)) old new → AtDrive old.drives new.drives place FaultsRose
failed_rose place old new gives b a was is = (gives.ends.failed b a was is).state.rose refl
