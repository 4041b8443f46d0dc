-- A repair that went on more than once went on.
use Rattle.std.specs.Prelude.{◌≡◌, List, ℕ, IsTrue, refl}
use Rattle.std.proofs.Common.{◌∙◌, arith, subst, sym}
use Rattle.rs01_outside.specs.DeskState.{DeskState}
use Rattle.rs01_repair.specs.declared.found.Found.{Found}
use Rattle.rs01_fix.specs.Windows.{GoesOn}
use Rattle.rs01_fix.specs.declared.course.Course.{Course}

-- no work
pub goes_same : (found : Found) (image ecc : List ℕ) (state : DeskState) (course : Course) → GoesOn found image ecc state course state course
goes_same found image ecc state course = record {
  tells = refl;
  elsewhere = λ t other apart. refl;
  reads_later = omega arith;
  writes_later = omega arith;
  reads_kept = refl;
  writes_kept = refl;
  start_later = omega arith;
  given_later = omega arith;
  ecc_stays = λ e has. has;
  story = λ e y size has up. up;
}

goes_then : (found : Found) (image ecc : List ℕ) (a : DeskState) (p : Course) (b : DeskState) (q : Course) (c : DeskState) (r : Course)
    → GoesOn found image ecc a p b q → GoesOn found image ecc b q c r → GoesOn found image ecc a p c r
goes_then found image ecc a p b q c r one other = record {
  tells = other.tells ∙ one.tells;
  elsewhere = λ t k apart. other.elsewhere (subst IsTrue (sym one.tells) t) k apart ∙ one.elsewhere t k apart;
  reads_later = omega (arith, one.reads_later, other.reads_later);
  writes_later = omega (arith, one.writes_later, other.writes_later);
  reads_kept = other.reads_kept ∙ one.reads_kept;
  writes_kept = other.writes_kept ∙ one.writes_kept;
  start_later = omega (arith, one.start_later, other.start_later);
  given_later = omega (arith, one.given_later, other.given_later);
  ecc_stays = λ e has. other.ecc_stays e (one.ecc_stays e has);
  story = λ e y size has up. other.story e y size (one.ecc_stays e has) (one.story e y size has up);
}

-- work after work
pub goes_on : (found found' : Found) (image image' ecc ecc' : List ℕ) → found' ≡ found → image' ≡ image → ecc' ≡ ecc
    → (a : DeskState) (p : Course) (b : DeskState) (q : Course) (c : DeskState) (r : Course)
    → GoesOn found image ecc a p b q → GoesOn found' image' ecc' b q c r → GoesOn found image ecc a p c r
goes_on found found' image image' ecc ecc' same_found same_image same_ecc a p b q c r one other =
    goes_then found image ecc a p b q c r one
    (subst (λ (f : Found). GoesOn f image ecc b q c r) same_found
    (subst (λ (n : List ℕ). GoesOn found' n ecc b q c r) same_image
    (subst (λ (n : List ℕ). GoesOn found' image' n b q c r) same_ecc other)))
