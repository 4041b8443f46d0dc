-- Counts of faults, and the files that stay, over several steps.
use Rattle.std.proofs.Common.{ℕ, Bool, false, List, ◌∙◌, subst, sym, arith, refl}
use Rattle.std.specs.Prelude.{IsTrue}
use Rattle.rs01_outside.specs.Causes.{Rose}
use Rattle.rs01_outside.specs.DeskState.{DeskState, OnlyReads, WorksOn}
use Rattle.rs01_outside.proofs.States.{works-reads}
use Rattle.rs01_demo.specs.Faults.{CountsFaults, WorksOnTwo}

-- work on one name alone
pub counts : (name : List ℕ) (a b : DeskState) (reading writing : Bool) → WorksOn name a b reading writing → CountsFaults a b reading writing
counts name a b reading writing w = record {
  tells = w.tells;
  reads_later = w.reads_later;
  writes_later = w.writes_later;
  read_rose = w.read_rose;
  read_kept = w.read_kept;
  write_rose = w.write_rose;
  write_kept = w.write_kept;
}

-- as work on two
pub on_first : (one other : List ℕ) (a b : DeskState) (reading writing : Bool) → WorksOn one a b reading writing → WorksOnTwo one other a b reading writing
on_first one other a b reading writing w = record { counts = counts one a b reading writing w; elsewhere = λ t name first second. w.elsewhere t name first }

pub on_second : (one other : List ℕ) (a b : DeskState) (reading writing : Bool) → WorksOn other a b reading writing → WorksOnTwo one other a b reading writing
on_second one other a b reading writing w = record { counts = counts other a b reading writing w; elsewhere = λ t name first second. w.elsewhere t name second }

pub reads_two : (one other : List ℕ) (a b : DeskState) (failed : Bool) → OnlyReads a b failed → WorksOnTwo one other a b failed false
reads_two one other a b failed reads = on_first one other a b failed false (works-reads one a b failed reads)

-- work behind work that succeeded
pub two_then : (one other : List ℕ) (a b c : DeskState) (reading writing : Bool)
    → WorksOnTwo one other a b false false → WorksOnTwo one other b c reading writing → WorksOnTwo one other a c reading writing
two_then one other a b c reading writing first then = record {
  counts = record {
    tells = then.counts.tells ∙ first.counts.tells;
    reads_later = omega (arith, first.counts.reads_later, then.counts.reads_later);
    writes_later = omega (arith, first.counts.writes_later, then.counts.writes_later);
    read_rose = λ h. subst (λ n. Rose n c.read_faults) (first.counts.read_kept refl) (then.counts.read_rose h);
    read_kept = λ h. then.counts.read_kept h ∙ first.counts.read_kept refl;
    write_rose = λ h. subst (λ n. Rose n c.write_faults) (first.counts.write_kept refl) (then.counts.write_rose h);
    write_kept = λ h. then.counts.write_kept h ∙ first.counts.write_kept refl;
  };
  elsewhere = λ t name apart apart'. then.elsewhere (subst IsTrue (sym first.counts.tells) t) name apart apart' ∙ first.elsewhere t name apart apart';
}
