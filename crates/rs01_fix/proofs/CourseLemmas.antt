-- How a repair goes on.
use Rattle.std.proofs.Common.{◌≡◌, ℕ, suc, ◌+◌, ◌-◌, ◌<◌, ◌≤◌, List, [], ◌∷◌, ◌++◌, length, map, get_or, refl, sym, ap, ◌∙◌, subst, arith, Bool, false}
use Rattle.std.specs.Prelude.{All, IfNone, IfSome, IsTrue, Option, Some, None, slice_get}
use Rattle.std.specs.Option.{option_map, unwrap_or}
use Rattle.std.specs.List.{range_with_len}
use Rattle.std.proofs.lemmas.List.Elements.{All-get_or}
use Rattle.std.proofs.lemmas.List.FromFn.{get_or-range_with_len, length-range_with_len}
use Rattle.std.proofs.lemmas.List.{length-map}
use Rattle.std.proofs.lemmas.Option.{get_or_from_slice_get, slice_get-map, slice_get_within}
use Rattle.std.proofs.lemmas.Bool.{false≢true}
use Rattle.rs01_layers.specs.declared.input.LayerInput.{LayerInput}
use Rattle.rs01_layers.specs.declared.task.LayerOut.{LayerOut}
use Rattle.rs01_lists.proofs.Ranges.{range_with_len_more}
use Rattle.rs01_outside.specs.DeskState.{DeskState, OnlyChanges, OnlyReads}
use Rattle.rs01_outside.specs.Files.{Files, bytes_of}
use Rattle.rs01_erase.specs.Correcting.{correct}
use Rattle.rs01_workers.specs.Work.{Worked}
use Rattle.rs01_workers.specs.Work as work
use Rattle.rs01_repair.specs.Finding.{HasEcc, Sources, answer_to, layers_in, said}
use Rattle.rs01_repair.specs.Given.{Fits, GivesNext, HasNoNext, IsInputNow, IsReady}
use Rattle.rs01_repair.specs.declared.batch.Batch.{Batch}
use Rattle.rs01_repair.specs.declared.found.Found.{Found}
use Rattle.rs01_fix.specs.Steps.{AreKept, IsBefore, IsEitherWay, sources}
use Rattle.rs01_fix.specs.Windows.{AreAnswers, AreAnswersOf, GivesLayer, GoesOn, IsAnswerOf, IsDone, IsGoing, IsUpTo, IsWindow, given}
use Rattle.rs01_fix.specs.declared.course.Course.{Course}
use Rattle.rs01_fix.proofs.FoundLemmas.{ecc_read, have_blocks, is_image}
use Rattle.rs01_fix.proofs.Later.{answered_later}
use Rattle.rs01_fix.proofs.StandLemmas.{stands_on_the_way}

-- an input of a window
input_at : (xs : List LayerInput) (start n i : ℕ) (input : LayerInput) → range_with_len start n ≡ work.layers_in xs → slice_get xs i ≡ Some input → input.layer ≡ start + i
input_at xs start n i input all there =
    let low = slice_get_within xs i input there in
    let long : length xs ≡ n = sym (length-map xs (λ (x : LayerInput). x.layer)) ∙ ap length (sym all) ∙ length-range_with_len start n in
    let own : slice_get (work.layers_in xs) i ≡ Some input.layer = slice_get-map (λ (x : LayerInput). x.layer) xs i ∙ ap (option_map (λ (x : LayerInput). x.layer)) there in
    sym (get_or_from_slice_get (work.layers_in xs) i input.layer 0 own) ∙ ap (λ ns. get_or ns i 0) (sym all) ∙ get_or-range_with_len start n i 0 (omega (arith, low, long))

fits_at : (P : LayerInput → Type 0) (xs : List LayerInput) (i : ℕ) (input : LayerInput) → All P xs → slice_get xs i ≡ Some input → P input
fits_at P xs i input all there =
    subst P (get_or_from_slice_get xs i input input there) (All-get_or P xs i input (slice_get_within xs i input there) all)

some_same : {A : Type 0} (a b : A) → Some a ≡ Some b → a ≡ b
some_same a b e = cc

value_at : (xs : List LayerInput) (outs : List LayerOut) (i : ℕ) (input : LayerInput) (out : LayerOut) → outs ≡ map correct xs → slice_get xs i ≡ Some input → slice_get outs i ≡ Some out → out ≡ correct input
value_at xs outs i input out values there given =
    some_same out (correct input) (sym given ∙ ap (λ os. slice_get os i) values ∙ slice_get-map correct xs i ∙ ap (option_map correct) there)

-- the answers of a window
pub window_answers : (found : Found) (image ecc : List ℕ) (state : DeskState) (course : Course) (worked : Worked) → IsWindow found image ecc state course worked → AreAnswers found course.start worked
window_answers found image ecc state course worked window i input answer there given = record {
  layer = input_at worked.inputs course.start (course.batch.next - course.start) i input window.all there;
  shape = (fits_at (Fits found image ecc state) worked.inputs i input window.fit there).shape;
  value = value_at worked.inputs worked.outs i input answer window.values there given;
}

answer_later : (found : Found) (e y : List ℕ) (size : length y ≡ found.size) (l : ℕ) (o : Option (List ℕ)) (input : LayerInput) → IsBefore found (sources found e y size) l 0 o → l ≤ input.layer
    → input.layer < layers_in found → IsInputNow found e (unwrap_or o []) input → IsAnswerOf found (sources found e y size) input.layer input (correct input)
answer_later found e y size l None input before order low is = absurd before
answer_later found e y size l (Some file) input before order low is = answered_later found e y size l input.layer file input before order low is

-- they are those of the files as they were found
pub window_were : (found : Found) (image ecc : List ℕ) (state : DeskState) (course : Course) (worked : Worked) (e y : List ℕ) (size : length y ≡ found.size)
    → IsWindow found image ecc state course worked → HasEcc found e state ecc → IsBefore found (sources found e y size) course.start 0 (state.files image)
    → AreAnswersOf found (sources found e y size) course.start worked
window_were found image ecc state course worked e y size window has before i input answer there given =
    let was = sources found e y size in
    let layer : input.layer ≡ course.start + i = input_at worked.inputs course.start (course.batch.next - course.start) i input window.all there in
    let fits = fits_at (Fits found image ecc state) worked.inputs i input window.fit there in
    let value = value_at worked.inputs worked.outs i input answer window.values there given in
    subst (λ (l : ℕ). IsAnswerOf found was l input answer) layer
    (subst (λ (a : LayerOut). IsAnswerOf found was input.layer input a) (sym value)
    (answer_later found e y size course.start (state.files image) input before (omega (arith, layer)) fits.shape.layer (fits.told e has)))

-- how far it goes
pub window_ends : (found : Found) (image ecc : List ℕ) (state : DeskState) (course : Course) (worked : Worked) → IsWindow found image ecc state course worked
    → course.start + length worked.inputs ≡ course.batch.next
window_ends found image ecc state course worked window =
    let long : length worked.inputs ≡ course.batch.next - course.start =
    sym (length-map worked.inputs (λ (x : LayerInput). x.layer)) ∙ ap length (sym window.all) ∙ length-range_with_len course.start (course.batch.next - course.start) in
    omega (arith, long, window.going.order)

pub window_within : (found : Found) (image ecc : List ℕ) (state : DeskState) (course : Course) (worked : Worked) → IsWindow found image ecc state course worked
    → course.start + length worked.inputs ≤ layers_in found
window_within found image ecc state course worked window =
    omega (arith, window_ends found image ecc state course worked window, window.going.ready.held.up_to, window.going.ready.held.layers)

-- the error correction file stays where another file is changed
pub ecc_changed : (found : Found) (image ecc : List ℕ) (old new : DeskState) (failed : Bool) → (image ≡ ecc → ⊥) → OnlyChanges image old new failed
    → (e : List ℕ) → HasEcc found e old ecc → HasEcc found e new ecc
ecc_changed found image ecc old new failed differ changes e has = record {
  tells = subst IsTrue (sym changes.tells) has.tells;
  bytes = ap (λ (o : Option (List ℕ)). unwrap_or o []) (changes.elsewhere has.tells ecc (λ same. differ (sym same))) ∙ has.bytes;
  whole = has.whole;
}

-- work that changes the image file
pub goes_changed : (found : Found) (image ecc : List ℕ) (old new : DeskState) (before after : Course) (failed : Bool) → (image ≡ ecc → ⊥) → OnlyChanges image old new failed
    → after.reads ≡ before.reads → after.writes ≡ before.writes → before.start ≤ after.start → before.batch.next ≤ after.batch.next
    → ((e y : List ℕ) (size : length y ≡ found.size) → HasEcc found e old ecc → IsUpTo found (sources found e y size) image old before → IsUpTo found (sources found e y size) image new after)
    → GoesOn found image ecc old before new after
goes_changed found image ecc old new before after failed differ changes reads writes start given story = record {
  tells = changes.tells;
  elsewhere = changes.elsewhere;
  reads_later = omega (arith, changes.reads);
  writes_later = changes.later;
  reads_kept = reads;
  writes_kept = writes;
  start_later = start;
  given_later = given;
  ecc_stays = ecc_changed found image ecc old new failed differ changes;
  story = story;
}

-- work that reads the next layers
pub goes_read : (found : Found) (image ecc : List ℕ) (old new : DeskState) (course : Course) (batch : Batch) (failed : Bool) → OnlyReads old new failed → course.batch.next ≤ batch.next
    → GoesOn found image ecc old course new (record course { batch = batch })
goes_read found image ecc old new course batch failed reads next = record {
  tells = reads.tells;
  elsewhere = λ t other apart. ap (λ (f : Files). f other) (reads.unchanged t);
  reads_later = reads.later;
  writes_later = omega (arith, reads.writes);
  reads_kept = refl;
  writes_kept = refl;
  start_later = omega arith;
  given_later = next;
  ecc_stays = λ e has. ecc_read found e old new ecc failed reads has;
  story = λ e y size has up.
      let same : old.files image ≡ new.files image = ap (λ (f : Files). f image) (sym (reads.unchanged has.tells)) in
      let was = sources found e y size in
      record {
        underway = subst (IsEitherWay found was) same up.underway;
        stands = λ whole. subst (IsBefore found was course.start 0) same (up.stands whole);
        kept = up.kept;
      };
}

-- the list of given layers goes on
pub next_later : (found : Found) (image ecc : List ℕ) (state : DeskState) (old new : Batch) (next : Option LayerInput) → IfSome next (GivesNext found image ecc state old new)
    → IfNone next (HasNoNext found image ecc state old new) → old.next ≤ new.next
next_later found image ecc state old new (Some input) gives none = omega (arith, gives.next)
next_later found image ecc state old new None gives none = omega (arith, none.same)

-- an input that fits still does
pub fits_read : (found : Found) (image ecc : List ℕ) (old new : DeskState) (input : LayerInput) (failed : Bool) → OnlyReads old new failed → Fits found image ecc old input → Fits found image ecc new input
fits_read found image ecc old new input failed reads fits = record {
  shape = fits.shape;
  told = λ e has.
      let t : IsTrue old.tells = subst IsTrue reads.tells has.tells in
      let before : HasEcc found e old ecc = record { tells = t; bytes = ap (λ (f : Files). bytes_of f ecc) (sym (reads.unchanged t)) ∙ has.bytes; whole = has.whole } in
      subst (λ (f : Files). IsInputNow found e (bytes_of f image) input) (sym (reads.unchanged t)) (fits.told e before);
}

-- one more layer in the list
pub one_more_given : (start next : ℕ) → start ≤ next → range_with_len start (next + 1 - start) ≡ range_with_len start (next - start) ++ next ∷ []
one_more_given start next order =
    ap (range_with_len start) (let e : next + 1 - start ≡ suc (next - start) = omega arith in e)
    ∙ range_with_len_more start (next - start)
    ∙ ap (λ k. range_with_len start (next - start) ++ k ∷ []) (let e : start + (next - start) ≡ next = omega arith in e)

pub if_some : {A : Type 0} (o : Option A) (P Q : A → Type 0) → ((x : A) → P x → Q x) → IfSome o P → IfSome o Q
if_some None P Q h is = is
if_some (Some x) P Q h is = h x is

pub if_none : {A : Type 0} (o : Option A) (P Q : Type 0) → (P → Q) → IfNone o P → IfNone o Q
if_none None P Q h is = h is
if_none (Some x) P Q h is = is

-- work that only read leaves a course going, with a batch that is no further behind
going_on : (found : Found) (image ecc : List ℕ) (old new : DeskState) (course : Course) (batch : Batch) → IsGoing found image ecc old course
    → OnlyReads old new false → course.batch.next ≤ batch.next → IsReady found image ecc new batch → IsGoing found image ecc new (record course { batch = batch })
going_on found image ecc old new course batch going reads further ready = record {
  differ = going.differ;
  whole = going.whole;
  none = record { reads = reads.kept refl ∙ going.none.reads; writes = reads.writes ∙ going.none.writes };
  order = omega (arith, going.order, further);
  room = going.room;
  ready = ready;
}

-- the next layer was given, or none is left
pub gives_layer : (found : Found) (image ecc : List ℕ) (old new : DeskState) (course : Course) (batch : Batch) (input : LayerInput) → IsGoing found image ecc old course
    → OnlyReads old new false → GivesNext found image ecc new course.batch batch input → GivesLayer found image ecc new course (record course { batch = batch }) input
gives_layer found image ecc old new course batch input going reads gives = record {
  gave = ap (λ k. range_with_len course.start (k - course.start)) gives.next ∙ one_more_given course.start course.batch.next going.order
      ∙ ap (λ k. range_with_len course.start (course.batch.next - course.start) ++ k ∷ []) (sym gives.layer);
  fits = gives.fits;
  going = going_on found image ecc old new course batch going reads (omega (arith, gives.next)) gives.ready;
}

pub gives_none : (found : Found) (image ecc : List ℕ) (old new : DeskState) (course : Course) (batch : Batch) → IsGoing found image ecc old course → OnlyReads old new false
    → HasNoNext found image ecc new course.batch batch
    → (given (record course { batch = batch }) ≡ given course) × IsDone found image ecc new (record course { batch = batch })
gives_none found image ecc old new course batch going reads none = (
  ap (λ k. range_with_len course.start (k - course.start)) none.same,
  record {
    going = going_on found image ecc old new course batch going reads (omega (arith, none.same)) none.ready;
    all = none.same ∙ none.all;
  },
)

-- a window's sectors are in place, and it was settled
pub settled : (found : Found) (image ecc : List ℕ) (state : DeskState) (course after : Course) (worked : Worked) → IsWindow found image ecc state course worked
    → after.start ≡ course.batch.next → (e y : List ℕ) (size : length y ≡ found.size) → HasEcc found e state ecc → (o : Option (List ℕ))
    → IsBefore found (sources found e y size) (course.start + length worked.inputs) 0 o → AreKept found (sources found e y size) (course.start + length worked.inputs) after.repairs
    → (new : DeskState) → new.files image ≡ o → IsUpTo found (sources found e y size) image new after
settled found image ecc state course after worked window start e y size has o before kept new file =
    let was = sources found e y size in
    let at : course.start + length worked.inputs ≡ after.start = window_ends found image ecc state course worked window ∙ sym start in
    let there : IsBefore found was (course.start + length worked.inputs) 0 (new.files image) = subst (IsBefore found was (course.start + length worked.inputs) 0) (sym file) before in
    record {
      underway = λ cut. stands_on_the_way (said found was) y (answer_to found was) (course.start + length worked.inputs) 0 (new.files image) cut (is_image found was) (have_blocks found was) there;
      stands = λ whole. subst (λ (l : ℕ). IsBefore found was l 0 (new.files image)) at there;
      kept = λ whole. subst (λ (l : ℕ). AreKept found was l after.repairs) at kept;
    }

-- it isn't settled
pub unsettled : (found : Found) (was : Sources found) (image : List ℕ) (state : DeskState) (course : Course) → course.whole ≡ false → IsEitherWay found was (state.files image) → IsUpTo found was image state course
unsettled found was image state course broken way = record {
  underway = way;
  stands = λ whole. absurd (false≢true (sym broken ∙ whole));
  kept = λ whole. absurd (false≢true (sym broken ∙ whole));
}
