-- What a reading by turns leaves and tells, from the steps that it is made of: opening the medium, getting the image file
-- ready, and reading into that. It is the same however its windows are worked.
use Rattle.std.proofs.Common.{◌≡◌, ℕ, ◌<◌, ◌≤◌, ◌^◌, ◌∙◌, ap, inl, sym, subst, List}
use Rattle.std.proofs.lemmas.Result.{err_from_is_err_and}
use Rattle.std.specs.Prelude.{◌≢◌, Bool, IsErrAnd, IsTrue, Option, Some, Result, Ok, Err, false}
use Rattle.std.specs.Borrow.{Bor}
use Rattle.std.specs.Option.{ForSome}
use Rattle.rs01_outside.specs.DeskState.{DeskState, OnlyReads, WorksOn}
use Rattle.rs01_outside.specs.Files.{Files}
use Rattle.rs01_rack.specs.Rack.{RackState}
use Rattle.rs01_report.specs.declared.reports.ReadReport.{ReadReport}
use Rattle.rs01_linear.specs.Lasting.{RackLasts}
use Rattle.rs01_linear.specs.Linear.{TellsReady}
use Rattle.rs01_linear.specs.Medium.{Finds, IsGiven, TellsFound, TellsKnown, known_of}
use Rattle.rs01_linear.specs.Refusal.{IsOfReading, IsOfWork, WorksBy}
use Rattle.rs01_linear.specs.Spared.{StaysGood}
use Rattle.rs01_linear.specs.declared.medium.Medium.{Medium}
use Rattle.rs01_linear.specs.declared.prepared.Prepared.{Prepared}
use Rattle.rs01_linear.specs.declared.refusal.ReadRefusal.{ReadRefusal}
use Rattle.rs01_linear.specs.declared.refusal.ReadRefusal.TheVariants.{OutOfMemory}
use Rattle.rs01_linear.proofs.AnswerLemmas.{plain_numbered, still_lasts}
use Rattle.rs01_linear.proofs.EndLemmas.{ends_unopened}
use Rattle.rs01_linear.proofs.LastingLemmas.{told_before}
use Rattle.rs01_linear.proofs.MarkLemmas.{sized_by}
use Rattle.rs01_linear.proofs.StayLemmas.{spared, spared_unprepared}
use Rattle.rs01_reader.specs.declared.setup.Setup.{Setup}
use Rattle.rs01_adaptive.specs.Outcome.{TellsReading}
use Rattle.rs01_adaptive.specs.Preparing.{CanBegin, TellsPrepared}
use Rattle.rs01_adaptive.proofs.AloneLemmas.{turned_left, turned_read}
use Rattle.rs01_adaptive.proofs.Starting.{prepared_long}
use Rattle.rs01_adaptive.proofs.Unprepared.{found_as, named, turned_unprepared}

-- the image file of a desk that was only read from
same_image : (desk desk' : DeskState) (failed : Bool) (name : List ℕ) → OnlyReads desk desk' failed → IsTrue desk.tells → desk'.files name ≡ desk.files name
same_image desk desk' failed name reads t = ap (λ (files : Files). files name) (reads.unchanged t)

still_tells : (desk desk' : DeskState) (failed : Bool) → OnlyReads desk desk' failed → IsTrue desk.tells → IsTrue desk'.tells
still_tells desk desk' failed reads t = subst IsTrue (sym reads.tells) t

-- reading may be begun once the image file is ready
pub can_begin :
    (setup : Setup) (prepared : Prepared) (one two : DeskState)
    → 1 ≤ setup.tries → IsGiven setup.ecc setup.medium.now.ecc → ForSome setup.ecc (λ name. setup.image.now ≢ name.now)
    → WorksBy setup.image.now one two (Ok prepared) → TellsReady setup.medium.now setup.image.now one two (Ok prepared) → CanBegin setup two
can_begin setup prepared one two tries given apart works ready = record {
  tries = tries;
  named = named setup.medium.now.ecc setup.ecc setup.image.now given apart;
  places = λ t. prepared_long (known_of setup.medium.now) _ _ prepared (sized_by setup.medium.now.extent _) (ready (subst IsTrue works.tells t));
}

-- the medium wasn't opened
pub told_unopened :
    (ecc : Option (Bor (List ℕ))) (tries : ℕ) (name : List ℕ) (start desk : DeskState) (old new : RackState) (failed : Bool) (result : Result ReadReport ReadRefusal) (why : ReadRefusal)
    → IsErrAnd result (λ (w : ReadRefusal). w ≡ why) → IsOfReading why → OnlyReads start desk failed → Finds (Err why) old new → TellsFound start ecc (Err why) old new
    → TellsReading start desk ecc tries name result old new
told_unopened ecc tries name start desk old new failed result why is reading reads finds found = λ t tell.
    let p = err_from_is_err_and result is in
    ends_unopened _ _ _ _ _ _ _ result why (p.1 ∙ ap Err p.2) reading (found t tell) (finds.same tell) (same_image start desk failed name reads t)

pub stays_unopened :
    (ecc : Option (Bor (List ℕ))) (name : List ℕ) (start desk : DeskState) (old new : RackState) (failed : Bool) → OnlyReads start desk failed
    → StaysGood start desk ecc name old new
stays_unopened ecc name start desk old new failed reads = λ t. inl (same_image start desk failed name reads t)

-- it was, and its image file wasn't got ready
pub told_unprepared :
    (ecc : Option (Bor (List ℕ))) (tries : ℕ) (name : List ℕ) (medium : Medium) (start one desk : DeskState) (old new : RackState) (reading writing : Bool) (result : Result ReadReport ReadRefusal) (why : ReadRefusal)
    → WorksOn name one desk reading writing → IsErrAnd result (λ (w : ReadRefusal). w ≡ why) → IsOfWork why → OnlyReads start one false → Finds (Ok medium) old new → TellsFound start ecc (Ok medium) old new
    → TellsReady medium name one desk (Err why) → TellsReading start desk ecc tries name result old new
told_unprepared ecc tries name medium start one desk old new reading writing result why works is work reads finds found left = λ t tell.
    let p = err_from_is_err_and result is in
    turned_unprepared _ tries medium _ _ _ _ _ result why (p.1 ∙ ap Err p.2) work (found t tell) (finds.same tell) (same_image start one false name reads t)
    (left (still_tells start one false reads t))

pub stays_unprepared :
    (ecc : Option (Bor (List ℕ))) (name : List ℕ) (medium : Medium) (start one desk : DeskState) (old new : RackState) (reading writing : Bool)
    → WorksOn name one desk reading writing → OnlyReads start one false → TellsFound start ecc (Ok medium) old new → TellsKnown start ecc (Ok medium)
    → IsGiven ecc medium.ecc → Finds (Ok medium) old new → old.asks < 2 ^ 128 → TellsReady medium name one desk (Err OutOfMemory)
    → StaysGood start desk ecc name old new
stays_unprepared ecc name medium start one desk old new reading writing works reads found known given finds small left = λ t.
    spared_unprepared _ medium _ _ _ _ _ (same_image start one false name reads t) (left (still_tells start one false reads t)) (known t)
    (plain_numbered start ecc medium old new new given finds (still_lasts medium old new small finds)) (found t)

-- it was got ready, and the error correction file is still the same
kept :
    (setup : Setup) (prepared : Prepared) (start one two : DeskState) → OnlyReads start one false → WorksBy setup.image.now one two (Ok prepared)
    → ForSome setup.ecc (λ name. setup.image.now ≢ name.now) → IsTrue start.tells
    → (name : Bor (List ℕ)) → setup.ecc ≡ Some name → two.files name.now ≡ start.files name.now
kept setup prepared start one two reads works apart t name is =
    works.elsewhere (still_tells start one false reads t) name.now (λ e. apart name is (sym e)) ∙ same_image start one false name.now reads t

-- and the reading came to its end
pub told_read :
    (setup : Setup) (prepared : Prepared) (start one two desk : DeskState) (old mid new : RackState) (told : ReadReport)
    → TellsPrepared setup prepared two desk (Ok told) mid new → RackLasts mid new
    → OnlyReads start one false → Finds (Ok setup.medium.now) old mid → TellsFound start setup.ecc (Ok setup.medium.now) old mid
    → WorksBy setup.image.now one two (Ok prepared) → TellsReady setup.medium.now setup.image.now one two (Ok prepared)
    → ForSome setup.ecc (λ name. setup.image.now ≢ name.now) → TellsReading start desk setup.ecc setup.tries setup.image.now (Ok told) old new
told_read setup prepared start one two desk old mid new told ends lasts reads finds found works ready apart = λ t tell.
    let t1 = still_tells start one false reads t in
    let before = told_before mid new lasts tell in
    turned_read _ _ setup.medium.now _ _ _ _ _ _ told (found t before) (finds.same before) finds.asks (same_image start one false setup.image.now reads t)
    (λ f med. ends.reads f _ (subst IsTrue (sym works.tells) t1) tell
    (found_as setup start two _ f (kept setup prepared start one two reads works apart t) (found t before) med) (ready t1))

-- or it was left
pub told_left :
    (setup : Setup) (prepared : Prepared) (start one two desk : DeskState) (old mid new : RackState) (result : Result ReadReport ReadRefusal) (why : ReadRefusal)
    → TellsPrepared setup prepared two desk (Err why) mid new → RackLasts mid new → IsErrAnd result (λ (w : ReadRefusal). w ≡ why) → IsOfWork why
    → OnlyReads start one false → Finds (Ok setup.medium.now) old mid → TellsFound start setup.ecc (Ok setup.medium.now) old mid
    → WorksBy setup.image.now one two (Ok prepared) → TellsReady setup.medium.now setup.image.now one two (Ok prepared)
    → ForSome setup.ecc (λ name. setup.image.now ≢ name.now) → TellsReading start desk setup.ecc setup.tries setup.image.now result old new
told_left setup prepared start one two desk old mid new result why ends lasts is work reads finds found works ready apart = λ t tell.
    let p = err_from_is_err_and result is in
    let t1 = still_tells start one false reads t in
    let before = told_before mid new lasts tell in
    turned_left _ _ setup.medium.now _ _ _ _ _ _ result why (p.1 ∙ ap Err p.2) work (found t before) finds before (same_image start one false setup.image.now reads t)
    (λ f med. ends.reads f _ (subst IsTrue (sym works.tells) t1) tell
    (found_as setup start two _ f (kept setup prepared start one two reads works apart t) (found t before) med) (ready t1))

-- what is good stays in both cases
pub stays_read :
    (setup : Setup) (prepared : Prepared) (start one two desk : DeskState) (old mid new : RackState) (result : Result ReadReport ReadRefusal)
    → TellsPrepared setup prepared two desk result mid new → RackLasts mid new
    → OnlyReads start one false → TellsFound start setup.ecc (Ok setup.medium.now) old mid → TellsKnown start setup.ecc (Ok setup.medium.now)
    → IsGiven setup.ecc setup.medium.now.ecc → Finds (Ok setup.medium.now) old mid → WorksBy setup.image.now one two (Ok prepared) → TellsReady setup.medium.now setup.image.now one two (Ok prepared)
    → StaysGood start desk setup.ecc setup.image.now old new
stays_read setup prepared start one two desk old mid new result ends lasts reads found known given finds works ready = λ t.
    let t1 = still_tells start one false reads t in
    spared _ setup.medium.now _ _ _ _ _ (same_image start one false setup.image.now reads t) (ends.stays _ (subst IsTrue (sym works.tells) t1) (ready t1))
    (known t) (plain_numbered start setup.ecc setup.medium.now old mid new given finds lasts) (λ tell. found t (told_before mid new lasts tell))
