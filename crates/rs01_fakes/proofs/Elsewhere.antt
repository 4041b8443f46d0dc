-- A change of one file that failed, in a desk's own words.
use Rattle.std.proofs.Common.{◌≡◌, ◌≤◌, ℕ, true, List, Option, Some, None, ⊎_elim, ap, arith}
use Rattle.rs01_outside.specs.DeskState.{DeskState, OnlyChanges}
use Rattle.rs01_outside.specs.Files.{Files, SameElsewhere}
use Rattle.rs01_fakes.specs.Marks.{one_more}
use Rattle.rs01_fakes.specs.Stored.{KeepsPrefix}

-- nothing changed, so no other file did
pub same-elsewhere : (name : List ℕ) (old new : Files) → new ≡ old → SameElsewhere name old new
same-elsewhere name old new same other apart = ap (λ (files : Files). files other) same

-- a prefix was kept of one file, so no other file changed
pub kept-elsewhere : (kept : Option ℕ) (name : List ℕ) (at : ℕ) (bytes : List ℕ) (old new : Files)
    → KeepsPrefix kept name at bytes old new → SameElsewhere name old new
kept-elsewhere None name at bytes old new same = same-elsewhere name old new same
kept-elsewhere (Some count) name at bytes old new keeps = ⊎_elim (same-elsewhere name old new) (λ written. written.elsewhere) keeps.0

-- a failed change counts one write fault
pub failed-change : (name : List ℕ) (old new : DeskState) → new.tells ≡ old.tells → SameElsewhere name old.files new.files
    → new.write_faults ≡ one_more old.write_faults → old.write_faults ≤ new.write_faults → new.read_faults ≡ old.read_faults
    → OnlyChanges name old new true
failed-change name old new tells elsewhere counted later reads = record {
  tells = tells;
  elsewhere = λ t. elsewhere;
  later = later;
  rose = λ h. omega (arith, counted);
  kept = λ h. cc;
  reads = reads;
}
