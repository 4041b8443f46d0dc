-- What each step leaves of the files.
use Rattle.std.proofs.Common.{◌≡◌, ◌≢◌, ℕ, zero, suc, ◌+◌, ◌-◌, ◌*◌, ◌<◌, ◌≤◌, List, [], ◌++◌, length, take, drop, ap, arith, sym, ◌∙◌, refl, append-nil, Bool, true, false}
use Rattle.std.specs.Prelude.{◌==◌, IsTrue, Some, Err}
use Rattle.std.proofs.lemmas.Bool.Decides.{Decides-eqb}
use Rattle.std.specs.Str.{bytes_eq}
use Rattle.std.proofs.Math.Seq.{take-add}
use Rattle.std.proofs.lemmas.Bool.{false≢true}
use Rattle.std.proofs.lemmas.List.{length-append, length-drop, length-take-le, take_all}
use Rattle.std.proofs.lemmas.Slice.Eq.{bytes_eq-Decides}
use Rattle.rs01_lists.specs.Bytes.{padded, part, zeros}
use Rattle.rs01_ecchead.specs.Pieces.{IsPiece}
use Rattle.rs01_outside.proofs.States.{reads-start}
use Rattle.rs01_outside.specs.DeskState.{DeskState, InFile, OnlyChanges, OnlyReads}
use Rattle.rs01_outside.specs.Files.{Files, Writes, WritesAt, bytes_of}
use Rattle.rs01_linear.specs.Left.{mixed}
use Rattle.rs01_linear.specs.Marking.{IsMixed}
use Rattle.rs01_linear.proofs.MixedLemmas.{extend, extend_failed}
use Rattle.rs01_sums.specs.Marker.{marker}
use Rattle.rs01_demo.specs.Generator.{image, stretch, value_at}
use Rattle.rs01_demo.specs.Plan.{marked}
use Rattle.rs01_demo.proofs.GeneratorLemmas.{length-image, length-stretch, part-image}
use Rattle.rs01_demo.proofs.NoMarkers.{differs}
use Rattle.rs01_demo.proofs.PlanLemmas.{length-marked, marker_part}

true_false : true ≡ false → ⊥
true_false e = false≢true (sym e)

-- the first bytes of a file, and no others
nothing : (n : ℕ) → drop {A = ℕ} n [] ≡ []
nothing zero = refl
nothing (suc n) = refl

pub begun : (n : ℕ) (one : List ℕ) → mixed n one [] ≡ take n one
begun n one = ap (λ (xs : List ℕ). take n one ++ xs) (nothing n) ∙ append-nil (take n one)

pub finished : (one : List ℕ) (n : ℕ) → length one ≡ n → mixed n one [] ≡ one
finished one n long = begun n one ∙ take_all n one (omega (arith, long))

-- a run of the image was written, or some of it
pub run_written : (old new : Files) (name bytes : List ℕ) (number sectors at n offset : ℕ) → offset ≡ at → bytes ≡ stretch number at n → at + n ≤ 2048 * sectors
    → old name ≡ Some (mixed at (image number sectors) []) → Writes old new name offset bytes → new name ≡ Some (mixed (at + n) (image number sectors) [])
run_written old new name bytes number sectors at n offset place is fits stood written =
    extend old new name (image number sectors) [] bytes at n offset (omega (arith, fits, length-image number sectors)) place
    (is ∙ part-image number sectors at n fits) stood written

pub run_failed : {E : Type 0} (old new : Files) (name bytes : List ℕ) (number sectors at n offset : ℕ) (e : E) → offset ≡ at → bytes ≡ stretch number at n → at + n ≤ 2048 * sectors
    → old name ≡ Some (mixed at (image number sectors) []) → WritesAt old new name offset bytes (Err e) → IsMixed (image number sectors) [] (new name)
run_failed old new name bytes number sectors at n offset e place is fits stood written =
    extend_failed old new name (image number sectors) [] bytes at n offset e (omega (arith, fits, length-image number sectors)) place
    (is ∙ part-image number sectors at n fits) stood written

-- a marker was put in place, or some of it
pub marker_written : (old new : Files) (name block bytes : List ℕ) (lost s at : ℕ) → block ≡ marker s → at ≡ 2048 * s → s < lost → 2048 * lost ≤ length bytes
    → old name ≡ Some (mixed (2048 * s) (marked bytes lost) bytes) → Writes old new name at block → new name ≡ Some (mixed (2048 * (s + 1)) (marked bytes lost) bytes)
marker_written old new name block bytes lost s at is place below fits stood written =
    extend old new name (marked bytes lost) bytes block (2048 * s) 2048 at (omega (arith, below, fits, length-marked bytes lost fits)) place
    (is ∙ sym (marker_part bytes lost s below)) stood written
    ∙ ap (λ n. Some (mixed n (marked bytes lost) bytes)) (let e : 2048 * s + 2048 ≡ 2048 * (s + 1) = omega arith in e)

pub marker_failed : {E : Type 0} (old new : Files) (name block bytes : List ℕ) (lost s at : ℕ) (e : E) → block ≡ marker s → at ≡ 2048 * s → s < lost → 2048 * lost ≤ length bytes
    → old name ≡ Some (mixed (2048 * s) (marked bytes lost) bytes) → WritesAt old new name at block (Err e) → IsMixed (marked bytes lost) bytes (new name)
marker_failed old new name block bytes lost s at e is place below fits stood written =
    extend_failed old new name (marked bytes lost) bytes block (2048 * s) 2048 at e (omega (arith, below, fits, length-marked bytes lost fits)) place
    (is ∙ sym (marker_part bytes lost s below)) stood written

changes_start : (name : List ℕ) (state : DeskState) → OnlyChanges name state state false
changes_start name state = record { tells = refl; elsewhere = λ t other apart. refl; later = omega arith; rose = λ h. cc; kept = λ h. refl; reads = refl }

-- how far the image is made
pub record IsMaking (number sectors : ℕ) (name : List ℕ) (first value : ℕ) (old now : DeskState) : Type 0 where
  pub changes : OnlyChanges name old now false
  pub value_is : value ≡ value_at number (2048 * first)
  pub file_is : IsTrue old.tells → old.files name ≡ Some (mixed 0 (image number sectors) []) → now.files name ≡ Some (mixed (2048 * first) (image number sectors) [])

-- how far its first sectors are marked
pub record IsMarking (lost : ℕ) (name : List ℕ) (s : ℕ) (old now : DeskState) : Type 0 where
  pub changes : OnlyChanges name old now false
  pub file_is : (bytes : List ℕ) → IsTrue old.tells → 2048 * lost ≤ length bytes → old.files name ≡ Some bytes → now.files name ≡ Some (mixed (2048 * s) (marked bytes lost) bytes)

-- how far a file was compared
pub record IsComparing (number sectors : ℕ) (name : List ℕ) (first value : ℕ) (old now : DeskState) : Type 0 where
  pub reads : OnlyReads old now false
  pub value_is : value ≡ value_at number (2048 * first)
  pub same : InFile old name (λ file. length file ≡ 2048 * sectors → take (2048 * first) file ≡ take (2048 * first) (image number sectors))

-- a buffer whose front was filled anew is as long as before
pub as_long : (front old : List ℕ) (n : ℕ) → length front ≡ n → n ≤ length old → length (front ++ drop n old) ≡ length old
as_long front old n long fits = omega (arith, long, fits, length-append front (drop n old), length-drop n old)

-- the image's bytes so far, and then some more that a file has
pub same_more : (file made bytes : List ℕ) (m n : ℕ) → take m file ≡ take m made → bytes ≡ part made m n → bytes_eq (part file m n) bytes ≡ true → take (m + n) file ≡ take (m + n) made
same_more file made bytes m n so_far is same =
    take-add m n file
    ∙ (λ i. so_far i ++ ((bytes_eq-Decides (part file m n) bytes).0 same ∙ is) i)
    ∙ sym (take-add m n made)

-- all of them
pub same_all : (file made : List ℕ) (m n : ℕ) → m ≡ n → length file ≡ n → length made ≡ n → take m file ≡ take m made → bytes_eq file made ≡ true
same_all file made m n whole long long' same =
    (bytes_eq-Decides file made).1
    (sym (take_all m file (omega (arith, whole, long))) ∙ same ∙ take_all m made (omega (arith, whole, long')))

-- a file that has others isn't the image
pub not_same : (file made bytes : List ℕ) (m n : ℕ) → bytes ≡ part made m n → bytes_eq (part file m n) bytes ≡ false → bytes_eq file made ≡ false
not_same file made bytes m n is other =
    differs file made (λ e. true_false (sym ((bytes_eq-Decides (part file m n) bytes).1 (ap (λ xs. part xs m n) e ∙ sym is)) ∙ other))

-- nor is one of another length
pub not_as_long : (file made : List ℕ) → length file ≢ length made → bytes_eq file made ≡ false
not_as_long file made apart = differs file made (λ e. apart (ap length e))

-- nothing is made, or compared, yet
pub start_making : (number sectors : ℕ) (name : List ℕ) (state : DeskState) → IsMaking number sectors name 0 number state state
unfolding value_at
start_making number sectors name state = record { changes = changes_start name state; value_is = refl; file_is = λ t is. is }

pub start_comparing : (number sectors : ℕ) (name : List ℕ) (state : DeskState) → IsComparing number sectors name 0 number state state
unfolding value_at
start_comparing number sectors name state = record { reads = reads-start state; value_is = refl; same = λ t long. refl }

-- a piece that lies in the file
pub piece_is : (file buffer : List ℕ) (at n : ℕ) → length buffer ≡ n → at + n ≤ length file → IsPiece file at buffer → buffer ≡ part file at n
unfolding padded zeros
piece_is file buffer at n long fits is =
    let own : length (part file at n) ≡ n = length-take-le n (drop at file) (omega (arith, fits, length-drop at file)) in
    let none : n - length (part file at n) ≡ 0 = omega (arith, own) in
    is ∙ ap (λ k. padded k (part file at k)) long ∙ ap (λ k. part file at n ++ zeros k) none ∙ append-nil (part file at n)

-- what the comparison of a run tells of the file, when it was still the same
run_told : (f0 f1 : Files) (name made : List ℕ) (number sectors m n at : ℕ) (same : Bool) → f1 ≡ f0 → length (bytes_of f0 name) ≡ 2048 * sectors → m + n ≤ 2048 * sectors → at ≡ m
    → made ≡ stretch number m n → (at + length made ≤ length (bytes_of f1 name) → same ≡ bytes_eq (part (bytes_of f1 name) at (length made)) made)
    → bytes_eq (part (bytes_of f0 name) m n) made ≡ same
run_told f0 f1 name made number sectors m n at same unchanged long fits place is claim =
    let width : length made ≡ n = ap length is ∙ length-stretch number m n in
    let room : at + length made ≤ length (bytes_of f1 name) = omega (arith, width, fits, long, place, ap (λ (f : Files). length (bytes_of f name)) unchanged) in
    sym (claim room ∙ (λ i. bytes_eq (part (bytes_of (unchanged i) name) (place i) (width i)) made))

pub run_differs : (f0 f1 : Files) (name made : List ℕ) (number sectors m n at : ℕ) (same : Bool) → f1 ≡ f0 → length (bytes_of f0 name) ≡ 2048 * sectors → m + n ≤ 2048 * sectors → at ≡ m
    → made ≡ stretch number m n → (at + length made ≤ length (bytes_of f1 name) → same ≡ bytes_eq (part (bytes_of f1 name) at (length made)) made)
    → same ≡ false → bytes_eq (bytes_of f0 name) (image number sectors) ≡ false
run_differs f0 f1 name made number sectors m n at same unchanged long fits place is claim differs_here =
    not_same (bytes_of f0 name) (image number sectors) made m n (is ∙ part-image number sectors m n fits)
    (run_told f0 f1 name made number sectors m n at same unchanged long fits place is claim ∙ differs_here)

pub run_same : (f0 f1 : Files) (name made : List ℕ) (number sectors m n past at : ℕ) (same : Bool) → f1 ≡ f0 → length (bytes_of f0 name) ≡ 2048 * sectors → m + n ≤ 2048 * sectors → at ≡ m
    → made ≡ stretch number m n → (at + length made ≤ length (bytes_of f1 name) → same ≡ bytes_eq (part (bytes_of f1 name) at (length made)) made)
    → same ≡ true → m + n ≡ past → take m (bytes_of f0 name) ≡ take m (image number sectors) → take past (bytes_of f0 name) ≡ take past (image number sectors)
run_same f0 f1 name made number sectors m n past at same unchanged long fits place is claim so e before =
    ap (λ k. take k (bytes_of f0 name)) (sym e)
    ∙ same_more (bytes_of f0 name) (image number sectors) made m n before (is ∙ part-image number sectors m n fits)
    (run_told f0 f1 name made number sectors m n at same unchanged long fits place is claim ∙ so)
    ∙ ap (λ k. take k (image number sectors)) e

-- a file was found to have another length
pub found_long : (file : List ℕ) (number sectors len : ℕ) (fits : Bool) → len ≡ sectors → fits ≡ (length file == 2048 * len) → fits ≡ false → bytes_eq file (image number sectors) ≡ false
found_long file number sectors len fits same told other =
    not_as_long file (image number sectors)
    (λ e. true_false (sym (told ∙ (Decides-eqb (length file) (2048 * len)).1 (e ∙ length-image number sectors ∙ ap (λ n. 2048 * n) (sym same))) ∙ other))
