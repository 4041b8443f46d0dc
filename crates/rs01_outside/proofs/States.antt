-- What holds of one call after another: of a call behind one that succeeded.
use Rattle.std.proofs.Common.{◌≡◌, ◌≢◌, ◌≤◌, ℕ, Bool, false, true, List, ◌∙◌, subst, sym, arith, refl, ap}
use Rattle.std.specs.Prelude.{IsTrue, not}
use Rattle.rs01_outside.specs.Causes.{Rose}
use Rattle.rs01_outside.specs.Files.{Files, SameElsewhere}
use Rattle.rs01_outside.specs.DeskState.{DeskState, OnlyChanges, OnlyReads, WorksOn}

-- nothing was called yet
pub reads-start : (s : DeskState) → OnlyReads s s false
reads-start s = record { tells = refl; unchanged = λ t. refl; later = omega arith; rose = λ h. cc; kept = λ h. refl; writes = refl }

-- a reading call behind another that succeeded
pub reads-then : (a b c : DeskState) (failed : Bool) → OnlyReads a b false → OnlyReads b c failed → OnlyReads a c failed
reads-then a b c failed one other = record {
  tells = other.tells ∙ one.tells;
  unchanged = λ t. other.unchanged (subst IsTrue (sym one.tells) t) ∙ one.unchanged t;
  later = omega (arith, one.later, other.later);
  rose = λ h. subst (λ n. Rose n c.read_faults) (one.kept refl) (other.rose h);
  kept = λ h. other.kept h ∙ one.kept refl;
  writes = other.writes ∙ one.writes;
}

-- a changing call behind another that succeeded
pub changes-then : (name : List ℕ) (a b c : DeskState) (failed : Bool)
    → OnlyChanges name a b false → OnlyChanges name b c failed → OnlyChanges name a c failed
changes-then name a b c failed one other = record {
  tells = other.tells ∙ one.tells;
  elsewhere = λ t k ne. other.elsewhere (subst IsTrue (sym one.tells) t) k ne ∙ one.elsewhere t k ne;
  later = omega (arith, one.later, other.later);
  rose = λ h. subst (λ n. Rose n c.write_faults) (one.kept refl) (other.rose h);
  kept = λ h. other.kept h ∙ one.kept refl;
  reads = other.reads ∙ one.reads;
}

-- work that only reads, and work that only changes
pub works-reads : (name : List ℕ) (a b : DeskState) (failed : Bool) → OnlyReads a b failed → WorksOn name a b failed false
works-reads name a b failed one = record {
  tells = one.tells;
  elsewhere = λ t k ne. ap (λ (files : Files). files k) (one.unchanged t);
  reads_later = one.later;
  writes_later = omega (arith, one.writes);
  read_rose = one.rose;
  read_kept = one.kept;
  write_rose = λ h. cc;
  write_kept = λ h. one.writes;
}

pub works-changes : (name : List ℕ) (a b : DeskState) (failed : Bool) → OnlyChanges name a b failed → WorksOn name a b false failed
works-changes name a b failed one = record {
  tells = one.tells;
  elsewhere = one.elsewhere;
  reads_later = omega (arith, one.reads);
  writes_later = one.later;
  read_rose = λ h. cc;
  read_kept = λ h. one.reads;
  write_rose = one.rose;
  write_kept = one.kept;
}

-- work behind work that succeeded
pub works-then : (name : List ℕ) (a b c : DeskState) (reading writing : Bool)
    → WorksOn name a b false false → WorksOn name b c reading writing → WorksOn name a c reading writing
works-then name a b c reading writing one other = record {
  tells = other.tells ∙ one.tells;
  elsewhere = λ t k ne. other.elsewhere (subst IsTrue (sym one.tells) t) k ne ∙ one.elsewhere t k ne;
  reads_later = omega (arith, one.reads_later, other.reads_later);
  writes_later = omega (arith, one.writes_later, other.writes_later);
  read_rose = λ h. subst (λ n. Rose n c.read_faults) (one.read_kept refl) (other.read_rose h);
  read_kept = λ h. other.read_kept h ∙ one.read_kept refl;
  write_rose = λ h. subst (λ n. Rose n c.write_faults) (one.write_kept refl) (other.write_rose h);
  write_kept = λ h. other.write_kept h ∙ one.write_kept refl;
}
