-- What holds of an image that was found, and of one answer after another.
use Rattle.std.proofs.Common.{◌≡◌, ℕ, List, [], length, ap, subst, sym, ◌∙◌, Bool}
use Rattle.std.specs.Prelude.{IfSome, IsTrue, Option, Some, Result, Err}
use Rattle.std.specs.Option.{option_map, unwrap_or}
use Rattle.rs01_outside.specs.DeskState.{DeskState, OnlyReads, WorksOn}
use Rattle.rs01_ecchead.specs.Erased.{block_in, is_absent, known_by, known_of}
use Rattle.rs01_repair.specs.Finding.{HasEcc, Sources, answer_to, is_gone_in, is_past, said}
use Rattle.rs01_repair.specs.declared.found.Found.{Found}
use Rattle.rs01_repair.proofs.CorrectLemmas.{answer_has_blocks}
use Rattle.rs01_ecchead.proofs.Shapes.{is_shape}
use Rattle.rs01_fix.specs.Repair.{HaveBlocks}
use Rattle.rs01_fix.specs.Steps.{Leads}
use Rattle.rs01_fix.proofs.FixedLemmas.{IsImage}

-- an opened error correction file is one of an image that can be protected
pub is_image : (found : Found) (was : Sources found) → IsImage (said found was)
is_image found was = record { shape = is_shape found.ecc; some_last = found.ecc.head.some_last; last_fits = found.ecc.head.last_fits }

pub have_blocks : (found : Found) (was : Sources found) → HaveBlocks (said found was) was.image (answer_to found was)
have_blocks found was l = answer_has_blocks (said found was) (block_in (known_of found.ecc) was.image) (is_gone_in found was) l

-- the error correction file is still there after a call that only reads
pub ecc_read : (found : Found) (e : List ℕ) (a b : DeskState) (name : List ℕ) (failed : Bool) → OnlyReads a b failed → HasEcc found e a name → HasEcc found e b name
ecc_read found e a b name failed reads has = record {
  tells = subst IsTrue (sym reads.tells) has.tells;
  bytes = ap (λ (files : List ℕ → Option (List ℕ)). unwrap_or (files name) []) (reads.unchanged has.tells) ∙ has.bytes;
  whole = has.whole;
}

-- and after work on another file
pub ecc_worked : (found : Found) (e : List ℕ) (a b : DeskState) (image name : List ℕ) (reading writing : Bool) → (image ≡ name → ⊥)
    → WorksOn image a b reading writing → HasEcc found e a name → HasEcc found e b name
ecc_worked found e a b image name reading writing differ works has = record {
  tells = subst IsTrue (sym works.tells) has.tells;
  bytes = ap (λ (o : Option (List ℕ)). unwrap_or o []) (works.elsewhere has.tells name (λ same. differ (sym same))) ∙ has.bytes;
  whole = has.whole;
}

-- a restored block has 2048 bytes
pub found_long : {A : Type 0} (f : A → List ℕ) (o : Option A) (p : Option (List ℕ)) → option_map f o ≡ p → IfSome p (λ b. length b ≡ 2048)
    → (x : A) → o ≡ Some x → length (f x) ≡ 2048
found_long f o p e is x there = subst (λ (q : Option (List ℕ)). IfSome q (λ b. length b ≡ 2048)) (sym e ∙ ap (option_map f) there) is

-- whether a sector was absent, by how long the image file was
pub past : (found : Found) (was : Sources found) (s : ℕ) → is_absent (known_by (said found was)) was.image s ≡ is_past (known_of found.ecc) found.size s
past found was s = ap (λ n. is_past (known_of found.ecc) n s) was.size

-- a step that failed
pub leads_err : {T E : Type 0} (From To Else : Option (List ℕ) → Type 0) (name : List ℕ) (old new : DeskState) (result : Result T E) (why : E) → result ≡ Err why
    → (IsTrue old.tells → From (old.files name) → Else (new.files name)) → Leads From To Else name old new result
leads_err {T} {E} From To Else name old new result why e left = subst (λ (r : Result T E). Leads From To Else name old new r) (sym e) left
