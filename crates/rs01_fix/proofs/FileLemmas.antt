-- What is answered, from what was found of the two files.
use Rattle.std.proofs.Common.{◌≡◌, ℕ, List, [], length, refl, sym, ap, subst, ◌∙◌, arith, inl, Bool, true, false, drop, take}
use Rattle.std.specs.Prelude.{Option, Some, None, Result, Ok, Err, IsOkAnd, IsOk, IsSomeAnd, IsTrue, nat_lt, not, ◌==◌, cond}
use Rattle.std.specs.Option.{option_map, unwrap_or}
use Rattle.std.specs.Str.{bytes_eq}
use Rattle.md5.specs.Md5.{md5}
use Rattle.std.proofs.lemmas.Bool.{eqb-true}
use Rattle.rs01_layers.specs.Layout.{file_size}
use Rattle.rs01_outside.specs.DeskState.{DeskState, OnlyReads}
use Rattle.rs01_outside.specs.Files.{Files, SameElsewhere, bytes_of}
use Rattle.rs01_ecchead.specs.Header.{Fields, head_of}
use Rattle.rs01_ecchead.specs.declared.head.HeadRefusal.{HeadRefusal}
use Rattle.rs01_ecchead.specs.Opened.{IsOfFile, Opened, opened, opened_as, opened_by, opened_file, opened_with}
use Rattle.rs01_ecchead.specs.declared.opened.EccRefusal.{EccRefusal}
use Rattle.rs01_ecchead.specs.declared.opened.EccRefusal.TheVariants as ecc
use Rattle.rs01_ecchead.specs.declared.opened.Which.TheVariants.{Image}
use Rattle.rs01_report.specs.declared.reports.FixReport.{FixReport}
use Rattle.rs01_ecchead.specs.declared.opened.Ecc.{Ecc}
use Rattle.rs01_repair.specs.declared.found.Found.{Found}
use Rattle.rs01_repair.specs.Finding.{HasEcc}
use Rattle.rs01_fix.specs.Steps.{IsFoundIn}
use Rattle.rs01_fix.specs.Between.{IsBetween}
use Rattle.rs01_fix.specs.Repair.{fixed, report_of}
use Rattle.rs01_fix.specs.Answer.{MayStand, Repaired, answer_with, fix_answer, refusal_of, repaired}
use Rattle.rs01_fix.specs.Outcome.{IsOfFiles, IsOfRepair, Refuses, Repairs}
use Rattle.rs01_fix.specs.declared.refusal.FixRefusal.{FixRefusal}
use Rattle.rs01_fix.specs.declared.refusal.FixRefusal.TheVariants.{NoFile, Head, Size, Body, ReadFault, WriteFault, OutOfMemory}

refused_with : (file image : Option (List ℕ)) (cut : Bool) (why : EccRefusal) (told : FixRefusal) → told ≡ refusal_of why → opened_file file ≡ Err why
    → fix_answer file image cut ≡ Err told
unfolding answer_with
refused_with file image cut why told e opened =
    ap (λ (o : Result Opened EccRefusal). answer_with o image cut) opened ∙ ap (λ (r : FixRefusal). Err r) (sym e)

-- the error correction file isn't opened
pub by_ecc : (file image : Option (List ℕ)) (cut : Bool) (why : EccRefusal) (told : FixRefusal) → told ≡ refusal_of why → IsOfFiles told
    → (IsOfFile why → opened_file file ≡ Err why) → fix_answer file image cut ≡ Err told
by_ecc file image cut ecc.NoFile told e of h = refused_with file image cut ecc.NoFile told e (h tt)
by_ecc file image cut (ecc.Head w) told e of h = refused_with file image cut (ecc.Head w) told e (h tt)
by_ecc file image cut (ecc.Size have want) told e of h = refused_with file image cut (ecc.Size have want) told e (h tt)
by_ecc file image cut (ecc.Body have want) told e of h = refused_with file image cut (ecc.Body have want) told e (h tt)
by_ecc file image cut ecc.ReadFault told e of h = absurd (subst IsOfFiles e of)
by_ecc file image cut ecc.OutOfMemory told e of h = absurd (subst IsOfFiles e of)

-- it is, and the image isn't there
pub by_no_image : (file image : Option (List ℕ)) (cut : Bool) (c : Opened) → opened_file file ≡ Ok c → image ≡ None → fix_answer file image cut ≡ Err (NoFile Image)
unfolding answer_with
by_no_image file image cut c opened e = λ i. answer_with (opened i) (e i) cut

-- both are there
pub by_both : (file image : Option (List ℕ)) (cut : Bool) (c : Opened) (y : List ℕ) → opened_file file ≡ Ok c → image ≡ Some y
    → fix_answer file image cut ≡ Ok (repaired c y cut)
unfolding answer_with
by_both file image cut c y opened there = λ i. answer_with (opened i) (there i) cut

-- an opened file is as long as its header asks for
size_by_tests : (size body : Bool) (n want : ℕ) (have sum : List ℕ) (c d : Opened)
    → cond (not size) (Err (ecc.Size n want)) (cond (not body) (Err (ecc.Body have sum)) (Ok d)) ≡ Ok c → (size ≡ true) × (d ≡ c)
size_by_tests true true n want have sum c d e = (refl, (let h : d ≡ c = cc in h))
size_by_tests true false n want have sum c d e = absurd (let h : ⊥ = cc in h)
size_by_tests false body n want have sum c d e = absurd (let h : ⊥ = cc in h)

size_by_head : (h : Result Fields HeadRefusal) (file : List ℕ) (c : Opened) → opened_with h file ≡ Ok c → length file ≡ file_size c.fields.sectors c.fields.parity
unfolding opened_with
size_by_head (Err why) file c e = absurd (let h : ⊥ = cc in h)
size_by_head (Ok g) file c e =
    let both = size_by_tests (length file == file_size g.sectors g.parity) (bytes_eq (md5 (drop 4096 file)) g.body_sum) (length file) (file_size g.sectors g.parity)
    (md5 (drop 4096 file)) g.body_sum c (opened_by g file) e in
    eqb-true (length file) (file_size g.sectors g.parity) both.0 ∙ (λ i. file_size (both.1 i).fields.sectors (both.1 i).fields.parity)

size_by_len : (b : Bool) (n : ℕ) (r : Result Opened EccRefusal) (c : Opened) → cond b (Err (ecc.Size n 4096)) r ≡ Ok c → r ≡ Ok c
size_by_len true n r c e = absurd (let h : ⊥ = cc in h)
size_by_len false n r c e = e

pub opened_size : (o : Option (List ℕ)) (c : Opened) → opened_file o ≡ Ok c → length (unwrap_or o []) ≡ file_size c.fields.sectors c.fields.parity
unfolding opened
opened_size None c e = absurd (let h : ⊥ = cc in h)
opened_size (Some file) c e =
    size_by_head (head_of (take 4096 file)) file c (size_by_len (nat_lt (length file) 4096) (length file) (opened_with (head_of (take 4096 file)) file) c e)

-- the error correction file is there after a call that only read, as it was when it was opened
pub ecc_is : (found : Found) (old new : DeskState) (name : List ℕ) → OnlyReads old new false → IsTrue old.tells
    → opened_file (old.files name) ≡ Ok (opened_as found.ecc (bytes_of old.files name)) → HasEcc found (bytes_of old.files name) new name
ecc_is found old new name reads t says = record {
  tells = subst IsTrue (sym reads.tells) t;
  bytes = ap (λ (f : Files). bytes_of f name) (reads.unchanged t);
  whole = opened_size (old.files name) (opened_as found.ecc (bytes_of old.files name)) says;
}

-- the file that wasn't changed may stand
old_between : (y fixed : List ℕ) → IsBetween y fixed y
old_between y fixed = record {
  not_shorter = omega arith;
  not_longer = omega arith;
  below = λ k inside l. inl refl;
  past = λ k inside l. absurd (omega arith);
}

stands_with : (o : Result Opened EccRefusal) (image : Option (List ℕ)) (cut : Bool) → MayStand (answer_with o image cut) image image
unfolding answer_with
stands_with (Err why) image cut = refl
stands_with (Ok c) None cut = refl
stands_with (Ok c) (Some y) cut = old_between y (repaired c y cut).file

old_may_stand : (file image now : Option (List ℕ)) (cut : Bool) → now ≡ image → MayStand (fix_answer file image cut) image now
old_may_stand file image now cut e =
    subst (λ (n : Option (List ℕ)). MayStand (fix_answer file image cut) image n) (sym e) (stands_with (opened_file file) image cut)

-- one on the way may stand
way_may_stand : (c : Opened) (y : List ℕ) (cut : Bool) (a : Result Repaired FixRefusal) (old new : Option (List ℕ)) → a ≡ Ok (repaired c y cut) → old ≡ Some y
    → IsSomeAnd new (IsBetween y (fixed c y cut)) → MayStand a old new
unfolding repaired
way_may_stand c y cut a old new ok there way =
    subst (λ (a : Result Repaired FixRefusal). MayStand a old new) (sym ok)
    (subst (λ (o : Option (List ℕ)). IsSomeAnd new (IsBetween (unwrap_or o []) (fixed c y cut))) (sym there) way)

of_repair : (why : FixRefusal) → IsOfRepair why → IsOfFiles why → ⊥
of_repair (NoFile which) is of = is
of_repair (Head why) is of = is
of_repair (Size have want) is of = is
of_repair (Body have want) is of = is
of_repair ReadFault is of = of
of_repair WriteFault is of = of
of_repair OutOfMemory is of = of

-- the ways that a repair ends: refused with no change, repaired, and ended underway
pub ends_refused : (image ecc : List ℕ) (cut : Bool) (old new : Files) (why : FixRefusal) → (IsOfFiles why → fix_answer (old ecc) (old image) cut ≡ Err why) → new ≡ old
    → Refuses image ecc cut old new why
ends_refused image ecc cut old new why refused unchanged = record {
  refused = refused;
  unchanged = λ of. unchanged;
  left = old_may_stand (old ecc) (old image) (new image) cut (ap (λ (f : Files). f image) unchanged);
}

pub ends_repaired : (image ecc : List ℕ) (cut : Bool) (old new : Files) (told : FixReport) (c : Opened) (y : List ℕ)
    → fix_answer (old ecc) (old image) cut ≡ Ok (repaired c y cut) → new image ≡ Some (fixed c y cut) → told ≡ report_of c y cut → SameElsewhere image old new
    → IsOkAnd (fix_answer (old ecc) (old image) cut) (Repairs image old new told)
unfolding repaired
ends_repaired image ecc cut old new told c y ok there report elsewhere =
    subst (λ (a : Result Repaired FixRefusal). IsOkAnd a (Repairs image old new told)) (sym ok)
    (record { file = record { there = there; elsewhere = elsewhere }; report = report })

pub ends_underway : (image ecc : List ℕ) (cut : Bool) (old new : Files) (why : FixRefusal) (c : Opened) (y : List ℕ) → IsOfRepair why
    → fix_answer (old ecc) (old image) cut ≡ Ok (repaired c y cut) → old image ≡ Some y → IsSomeAnd (new image) (IsBetween y (fixed c y cut)) → Refuses image ecc cut old new why
ends_underway image ecc cut old new why c y of ok there way = record {
  refused = λ is. absurd (of_repair why of is);
  unchanged = λ is. absurd (of_repair why of is);
  left = way_may_stand c y cut (fix_answer (old ecc) (old image) cut) (old image) (new image) ok there way;
}

pub is_ok_answer : (a : Result Repaired FixRefusal) (v : Repaired) → a ≡ Ok v → IsOk a
is_ok_answer a v e = subst (λ (a : Result Repaired FixRefusal). IsOk a) (sym e) refl

-- the ways that finding an image ends: the error correction file isn't opened, the image isn't measured or memory lacks,
-- and it is found
pub found_unopened : (ecc image : Option (List ℕ)) (result : Result Found FixRefusal) (why : EccRefusal) (told : FixRefusal) → result ≡ Err told → told ≡ refusal_of why
    → (IsOfFile why → opened_file ecc ≡ Err why) → IsFoundIn ecc image result
found_unopened ecc image result why told e same h =
    subst (λ (r : Result Found FixRefusal). IsFoundIn ecc image r) (sym e) (λ cut of. by_ecc ecc image cut why told same of h)

pub found_lacking : (ecc image : Option (List ℕ)) (result : Result Found FixRefusal) (told : FixRefusal) → result ≡ Err told → told ≡ OutOfMemory → IsFoundIn ecc image result
found_lacking ecc image result told e same =
    subst (λ (r : Result Found FixRefusal). IsFoundIn ecc image r) (sym (e ∙ ap (λ (w : FixRefusal). let r : Result Found FixRefusal = Err w in r) same)) (λ cut of. absurd of)

pub found_whole : (f0 f1 : Files) (ecc image : List ℕ) (found : Found) (opened : Ecc) (size : ℕ) → opened_file (f0 ecc) ≡ Ok (opened_as opened (unwrap_or (f0 ecc) []))
    → f1 ≡ f0 → Some size ≡ option_map length (f1 image) → found.ecc ≡ opened → found.size ≡ size
    → (opened_file (f0 ecc) ≡ Ok (opened_as found.ecc (unwrap_or (f0 ecc) []))) × (option_map length (f0 image) ≡ Some found.size)
found_whole f0 f1 ecc image found opened size says still there own same = (
  says ∙ (λ i. Ok (opened_as (sym own i) (unwrap_or (f0 ecc) []))),
  ap (λ (f : Files). option_map length (f image)) (sym still) ∙ sym there ∙ ap Some (sym same),
)

-- a file that was measured is there
pub measured : (o : Option (List ℕ)) (n : ℕ) → option_map length o ≡ Some n → (y : List ℕ) × (o ≡ Some y) × (length y ≡ n)
measured None n e = absurd (let h : ⊥ = cc in h)
measured (Some y) n e = (y, refl, (let h : length y ≡ n = cc in h))
