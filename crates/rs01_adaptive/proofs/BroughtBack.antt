-- A reading into a named image gives back what the whole reading does.
use Rattle.std.proofs.Common.{◌≡◌, ℕ, List, [], refl, sym, subst}
use Rattle.std.specs.Prelude.{IfOk, IsErrAnd, IsOkAnd, IsSomeAnd, Option, Some, Result, Ok, Err, false}
use Rattle.std.specs.Borrow.{Bor}
use Rattle.std.specs.Option.{unwrap_or}
use Rattle.rs01_outside.specs.DeskState.{DeskState, OnlyReads}
use Rattle.rs01_rack.specs.Counting.{number_of}
use Rattle.rs01_rack.specs.Rack.{RackState, views_of}
use Rattle.rs01_rack.specs.declared.refusal.RackRefusal.{RackRefusal}
use Rattle.rs01_report.specs.declared.reports.ReadReport.{ReadReport}
use Rattle.rs01_ecchead.specs.Opened.{Opened, opened}
use Rattle.rs01_ecchead.specs.declared.opened.EccRefusal.{EccRefusal}
use Rattle.rs01_linear.specs.Medium.{Finds, Found, found, found_in_file}
use Rattle.rs01_linear.specs.Outcome.{asked_since}
use Rattle.rs01_linear.specs.declared.prepared.Prepared.{Prepared}
use Rattle.rs01_reader.specs.declared.setup.Setup.{Setup}
use Rattle.rs01_adaptive.specs.ComesBack.{BringsBack, ComesBack, found_by}
use Rattle.rs01_adaptive.specs.Outcome.{IsReadInto, OfWhole, TellsReading, whole}
use Rattle.rs01_adaptive.specs.Preparing.{TellsPrepared}
use Rattle.rs01_adaptive.specs.Whole.{Whole, image_left}
use Rattle.rs01_adaptive.proofs.ComesBack.{settled-come-back}

-- what was found is the medium of the file that was opened
from-found : (o : Result Opened EccRefusal) (n : Result ℕ RackRefusal) (c : Opened) (P : Found → Type 0) → o ≡ Ok c → IsOkAnd (found_in_file o n) P → P (found_by c)
from-found (Err why) n c P e is = absurd is
from-found (Ok d) (Err why) c P e is = absurd is
from-found (Ok d) (Ok n) c P e is = subst (λ (x : Opened). P (found_by x)) (same d c e) is
  where
    same : (d c : Opened) → ◌≡◌ {A = Result Opened EccRefusal} (Ok d) (Ok c) → d ≡ c
    same d c e = cc

-- an answer
pub brought_back :
    (desk desk' : DeskState) (ecc : Option (Bor (List ℕ))) (tries : ℕ) (name : List ℕ) (told : ReadReport) (old new : RackState)
    → TellsReading desk desk' ecc tries name (Ok told) old new → BringsBack desk desk' ecc tries name (Ok told) old new
brought_back desk desk' ecc tries name told old new reads t tell image file r c given protects has gives =
    let before = desk.files name in
    let Fact : Whole → Type 0 = IsReadInto old new (desk'.files name) told in
    let P : Found → Type 0 = λ f. OfWhole f tries (unwrap_or before []) (views_of old) Fact in
    let found_is : IsOkAnd (found (Some (Some file)) (views_of old)) P = subst (λ (o : Option (Option (List ℕ))). IsOkAnd (found o (views_of old)) P) given (reads t tell) in
    let of : P (found_by c) = from-found (opened file) (number_of (views_of old)) c P protects.says found_is in
    let w = whole (found_by c) of.shape tries (unwrap_or before []) (views_of old) in
    let back : ComesBack image c w (image_left w) told =
    subst (λ (x : ReadReport). ComesBack image c w (image_left w) x) (sym of.fact.told_is)
    (settled-come-back image file r c w (asked_since old new) (record { protects = protects; medium_is = refl; shape_is = of.shape_is; has = has; given = gives })) in
    subst (λ (o : Option (List ℕ)). IsSomeAnd o (λ now. OfWhole (found_by c) tries (unwrap_or before []) (views_of old) (λ x. ComesBack image c x now told))) (sym of.fact.file_is)
    (record { shape = of.shape; shape_is = of.shape_is; fact = back })

-- the same, where the image file was got ready and the reading came to its end
pub back_read :
    (setup : Setup) (prepared : Prepared) (start one two desk : DeskState) (old mid new : RackState) (told : ReadReport)
    → TellsPrepared setup prepared two desk (Ok told) mid new → OnlyReads start one false → Finds (Ok setup.medium.now) old mid
    → TellsReading start desk setup.ecc setup.tries setup.image.now (Ok told) old new
    → BringsBack start desk setup.ecc setup.tries setup.image.now (Ok told) old new
back_read setup prepared start one two desk old mid new told ends reads finds is =
    brought_back start desk setup.ecc setup.tries setup.image.now told old new is

-- nothing is said of a refusal
pub none_back : {T E : Type 0} (result : Result T E) (P : E → Type 0) (Q : T → Type 0) → IsErrAnd result P → IfOk result Q
none_back (Ok x) P Q is = absurd is
none_back (Err why) P Q is = tt
