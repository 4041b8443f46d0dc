-- The answers of a window are taken, one after the other.
use Rattle.std.proofs.Common.{◌≡◌, ℕ, ◌+◌, ◌-◌, ◌%◌, ◌<◌, ◌≤◌, List, [], ◌∷◌, ◌++◌, length, map, take, drop, get_or, refl, sym, ap, subst, ◌∙◌, arith, Bool, true, false}
use Rattle.std.specs.Prelude.{◌&&◌, All, Contains, IsSomeAnd, IsTrue, Option, Some, None, Ok, Err, slice_get}
use Rattle.std.specs.Option.{option_map, unwrap_or}
use Rattle.std.proofs.lemmas.List.{get_or-drop, length-drop, length-map, length-set, take_more}
use Rattle.std.proofs.lemmas.Option.{get_or_from_slice_get, slice_get-map, slice_get_within}
use Rattle.rs01_layers.specs.Layout.{layers_of}
use Rattle.rs01_layers.specs.declared.input.LayerInput.{LayerInput}
use Rattle.rs01_layers.specs.declared.shape.Shape.{Shape}
use Rattle.rs01_layers.specs.declared.task.LayerOut.{LayerOut}
use Rattle.rs01_outside.specs.Causes.{Rose}
use Rattle.rs01_outside.specs.DeskState.{DeskState, OnlyChanges}
use Rattle.rs01_outside.specs.Files.{bytes_of}
use Rattle.rs01_rack.specs.Rack.{RackState}
use Rattle.rs01_ecchead.specs.Erased.{Known, image_len}
use Rattle.rs01_ecchead.specs.Erased as in_ecc
use Rattle.rs01_ecchead.specs.Head.{fields_of}
use Rattle.rs01_ecchead.specs.declared.opened.Ecc.{Ecc}
use Rattle.rs01_erase.specs.Correcting.{blocks_in, correct}
use Rattle.rs01_states.specs.Sparing.{layer_count}
use Rattle.rs01_repair.specs.Inputs.{flags_at}
use Rattle.rs01_repair.specs.Restored.{HasBlocks, NamesSector, is_restored, restored_at}
use Rattle.rs01_repair.proofs.CorrectLemmas.{bad_sum_flagged, correct_has_blocks, flagged_is_sector}
use Rattle.rs01_linear.specs.Medium.{known_of}
use Rattle.rs01_turns.specs.Leads.{SameDesk}
use Rattle.rs01_turns.specs.Moments.{Moment}
use Rattle.rs01_turns.proofs.Leading.{same-drives}
use Rattle.rs01_workers.specs.Work.{Worked, layers_in}
use Rattle.rs01_reader.specs.Courses.{CourseSeen}
use Rattle.rs01_reader.specs.Settled.{Fits, IsInputAt, IsShapeOf, gone_at, moment}
use Rattle.rs01_reader.specs.declared.setup.Setup.{Setup}
use Rattle.rs01_reader.specs.declared.stop.Stop.{Stop}
use Rattle.rs01_adaptive.specs.Noting.{HasLayers, Notes}
use Rattle.rs01_adaptive.specs.Putting.{HasPut, HasWhole, IsPutting, new_block}
use Rattle.rs01_adaptive.specs.AlongLaws.{along_same}
use Rattle.rs01_adaptive.specs.Settling.{CanSettle, CanTake, IsWorked, SettlesOne}
use Rattle.rs01_adaptive.specs.Sights.{Along, IsSound, Sight, Stands, settled_layers, sight_of, window_layers}
use Rattle.rs01_adaptive.specs.Whole.{Whole, value_in}
use Rattle.rs01_adaptive.specs.declared.noting.Noted.{Noted}
use Rattle.rs01_adaptive.proofs.AnswerLemmas.{count_is, value_of}
use Rattle.rs01_adaptive.proofs.LeftLemmas.{whole_where}
use Rattle.rs01_adaptive.proofs.SettleLemmas.{IsStep, all_is_some, guarded_put, known_same, stands_failed, stands_put}

-- what is known of an input that was given, and of its answer

input_erased : (m : Moment) (input : LayerInput) (ecc : Ecc) (o : Option Ecc) (name : Option (List ℕ)) → o ≡ Some ecc → IsSomeAnd o (λ e. IsSomeAnd name (λ n. IsInputAt m e n input))
    → input.erased ≡ flags_at (fields_of ecc.head) (gone_at m) input.layer
input_erased m input ecc None name e is = absurd is
input_erased m input ecc (Some x) None e is = absurd is
input_erased m input ecc (Some x) (Some n) e is =
    is.erased ∙ ap (λ (y : Ecc). flags_at (fields_of y.head) (gone_at m) input.layer) (ap (λ (o : Option Ecc). unwrap_or o x) e)

correct_blocks : (input : LayerInput) → HasBlocks input.erased (correct input)
unfolding correct
correct_blocks input = correct_has_blocks (blocks_in input) input.erased input.sums input.parity input.parity_count

pub step_is : (setup : Setup) (course : CourseSeen) (rack : RackState) (desk : DeskState) (noted : Noted) (window : ℕ) (ecc : Ecc) (input : LayerInput) → setup.medium.now.ecc ≡ Some ecc
    → IsSound (sight_of setup course rack desk noted window) → Fits (moment setup course rack desk) input → IsStep setup course ecc input.layer (correct input)
step_is setup course rack desk noted window ecc input opened sound fits =
    let m = moment setup course rack desk in
    let count : layer_count course.shape ≡ layers_of ecc.head.sectors ecc.head.parity = count_is ecc course.shape (subst (λ (o : Option Ecc). IsShapeOf o course.shape) opened sound.set_up.shape) in
    record {
      opened = opened;
      layer = subst (λ (n : ℕ). input.layer < n) count fits.settled.there;
      count = count;
      final = λ k here. fits.settled.read k (ap (λ (n : ℕ). k % n) count ∙ here);
      blocks = subst (λ (fl : List Bool). HasBlocks fl (correct input)) (input_erased m input ecc m.setting.opened m.setting.ecc opened fits.input_is) (correct_blocks input);
    }

-- one layer

pub layers_kept : (n l : ℕ) (ecc : Ecc) (answer : LayerOut) (old new : Noted) → HasLayers n old → Notes ecc l answer old new → HasLayers n new
layers_kept n l ecc answer old new has notes = record {
  restored = ap length notes.restored ∙ length-set old.restored.items l (is_restored answer) ∙ has.restored;
  strange = ap length notes.strange ∙ length-set old.strange.items l notes.why ∙ has.strange;
}

-- what a write may have made of the file, where the desk tells
abbrev Puts : Setup → (old new : DeskState) → (ℕ → Option (List ℕ)) → Type 0
Puts setup old new block = IsTrue old.tells → IsPutting (known_of setup.medium.now) block (bytes_of old.files setup.image.now) (bytes_of new.files setup.image.now)

sound_put : (setup : Setup) (course : CourseSeen) (rack : RackState) (desk desk' : DeskState) (noted noted' : Noted) (window window' : ℕ) (failed : Bool) (block : ℕ → Option (List ℕ))
    → IsSound (sight_of setup course rack desk noted window) → OnlyChanges setup.image.now desk desk' failed → Puts setup desk desk' block → HasLayers (layer_count course.shape) noted'
    → window' ≤ length course.given → IsSound (sight_of setup course rack desk' noted' window')
sound_put setup course rack desk desk' noted noted' window window' failed block sound changes put has fits = record {
  ready = record {
    all = sound.ready.all;
    fated = sound.ready.fated;
    last_fits = sound.ready.last_fits;
    places = λ t.
        let told : IsTrue desk.tells = subst (λ (b : Bool). IsTrue b) changes.tells t in
        omega (arith, sound.ready.places told, (put told).len);
  };
  set_up = sound.set_up;
  once = record { once = sound.once.once; there = sound.once.there };
  some_sectors = sound.some_sectors;
  some_last = sound.some_last;
  layers = has;
  window_fits = fits;
  reads_rise = omega (arith, sound.reads_rise, changes.reads);
  writes_rise = omega (arith, sound.writes_rise, changes.later);
}

desk_put : (setup : Setup) (course : CourseSeen) (rack : RackState) (first desk desk' : DeskState) (failed : Bool) (block : ℕ → Option (List ℕ)) → SameDesk (moment setup course rack first) (moment setup course rack desk)
    → OnlyChanges setup.image.now desk desk' failed → Puts setup desk desk' block → SameDesk (moment setup course rack first) (moment setup course rack desk')
desk_put setup course rack first desk desk' failed block was changes put = record {
  tells = changes.tells ∙ was.tells;
  reads_rise = omega (arith, was.reads_rise, changes.reads);
  writes_rise = omega (arith, was.writes_rise, changes.later);
  files = λ t.
      let told : IsTrue desk.tells = subst (λ (b : Bool). IsTrue b) (sym was.tells) t in
      let files = was.files t in
      record {
        len = (put told).len ∙ files.len;
        surplus = (put told).surplus ∙ files.surplus;
        elsewhere = λ other d. changes.elsewhere told other d ∙ files.elsewhere other d;
      };
}

-- what a step needs of the file
abbrev Room : Setup → Ecc → DeskState → Type 0
Room setup ecc desk = image_len (in_ecc.known_of ecc) ≤ length (bytes_of desk.files setup.image.now)

room : (setup : Setup) (course : CourseSeen) (rack : RackState) (desk : DeskState) (noted : Noted) (window : ℕ) (ecc : Ecc) → setup.medium.now.ecc ≡ Some ecc
    → IsSound (sight_of setup course rack desk noted window) → IsTrue desk.tells → Room setup ecc desk
room setup course rack desk noted window ecc opened sound t =
    subst (λ (n : Known). image_len n ≤ length (bytes_of desk.files setup.image.now)) (sym (known_same setup.medium.now ecc opened)) (sound.ready.places t)

-- the answers before were taken, and this is the next one's place
record IsAt (setup : Setup) (course : CourseSeen) (rack : RackState) (first desk : DeskState) (noted noted' : Noted) (begun window : ℕ) (ecc : Ecc) (input : LayerInput) : Type 0 where
  opened : setup.medium.now.ecc ≡ Some ecc
  sound : IsSound (sight_of setup course rack first noted begun)
  none_rose : Rose course.kept_writes first.write_faults → ⊥
  fits : Fits (moment setup course rack first) input
  along : Along (sight_of setup course rack first noted begun) (sight_of setup course rack desk noted' window)
  inside : window ≤ begun

-- sectors of its layer were put in place, or some of them, and what was noted fits
along_on : (setup : Setup) (course : CourseSeen) (rack : RackState) (first desk desk' : DeskState) (noted was is : Noted) (begun window window' : ℕ) (failed : Bool) (ecc : Ecc) (input : LayerInput)
    → IsAt setup course rack first desk noted was begun window ecc input → OnlyChanges setup.image.now desk desk' failed
    → Puts setup desk desk' (new_block ecc input.layer (correct input)) → HasLayers (layer_count course.shape) is → window' ≤ begun
    → ((w : Whole) (asks : ℕ) → IsTrue desk.tells → value_in w input.layer ≡ Some (correct input)
    → Stands w asks (sight_of setup course rack desk was window) → Stands w asks (sight_of setup course rack desk' is window'))
    → Along (sight_of setup course rack first noted begun) (sight_of setup course rack desk' is window')
along_on setup course rack first desk desk' noted was is begun window window' failed ecc input at changes puts layers less stands_on =
    let f = sight_of setup course rack first noted begun in
    let block = new_block ecc input.layer (correct input) in
    let step = step_is setup course rack first noted begun ecc input at.opened at.sound at.fits in
    let sound = at.along.sound at.sound in
    let told : IsTrue first.tells → IsTrue desk.tells = λ t. subst (λ (b : Bool). IsTrue b) (sym at.along.desk.tells) t in
    record {
      setting = refl;
      kept_reads = refl;
      kept_writes = refl;
      drives = same-drives (moment setup course rack first) (moment setup course rack desk') refl refl;
      asks = λ tell. record { more = 0; shown = omega arith; counted = omega arith };
      desk = desk_put setup course rack first desk desk' failed block at.along.desk changes puts;
      settled_rise = omega (arith, less);
      sound = λ s. sound_put setup course rack desk desk' was is window window' failed block sound changes puts layers (omega (arith, less, at.sound.window_fits));
      told = λ w asks t all stands.
          stands_on w asks (told t) (value_of w asks f input setup.medium.now.sectors stands at.sound at.none_rose t at.fits) (at.along.told w asks t all stands);
      stays = λ y t guarded.
          guarded_put y setup course rack desk desk' was is window window' ecc input.layer (correct input) step sound (puts (told t)) (at.along.stays y t guarded);
    }

along_put : (setup : Setup) (course : CourseSeen) (rack : RackState) (first desk desk' : DeskState) (noted was is : Noted) (begun window window' : ℕ) (ecc : Ecc) (input : LayerInput)
    → IsAt setup course rack first desk noted was begun window ecc input → OnlyChanges setup.image.now desk desk' false
    → (IsTrue desk.tells → Room setup ecc desk → HasPut (in_ecc.known_of ecc) (new_block ecc input.layer (correct input)) (bytes_of desk.files setup.image.now) (bytes_of desk'.files setup.image.now))
    → Notes ecc input.layer (correct input) was is → window ≡ window' + 1
    → settled_layers (sight_of setup course rack desk' is window') ≡ settled_layers (sight_of setup course rack desk was window) ++ input.layer ∷ []
    → Along (sight_of setup course rack first noted begun) (sight_of setup course rack desk' is window')
along_put setup course rack first desk desk' noted was is begun window window' ecc input at changes puts notes less more =
    let block = new_block ecc input.layer (correct input) in
    let step = step_is setup course rack first noted begun ecc input at.opened at.sound at.fits in
    let sound = at.along.sound at.sound in
    let put : IsTrue desk.tells → HasPut (known_of setup.medium.now) block (bytes_of desk.files setup.image.now) (bytes_of desk'.files setup.image.now) =
    λ t. subst (λ (n : Known). HasPut n block (bytes_of desk.files setup.image.now) (bytes_of desk'.files setup.image.now)) (known_same setup.medium.now ecc at.opened) (puts t (room setup course rack desk was window ecc at.opened sound t)) in
    along_on setup course rack first desk desk' noted was is begun window window' false ecc input at changes
    (λ t. all_is_some (known_of setup.medium.now) block (bytes_of desk.files setup.image.now) (bytes_of desk'.files setup.image.now) (put t))
    (layers_kept (layer_count course.shape) input.layer ecc (correct input) was is sound.layers notes) (omega (arith, at.inside, less))
    (λ w asks t value stands.
    stands_put w asks setup course rack desk desk' was is window window' ecc input.layer (correct input) step sound t changes (put t) notes more value stands)

along_failed : (setup : Setup) (course : CourseSeen) (rack : RackState) (first desk desk' : DeskState) (noted was is : Noted) (begun window : ℕ) (ecc : Ecc) (input : LayerInput)
    → IsAt setup course rack first desk noted was begun window ecc input → OnlyChanges setup.image.now desk desk' true
    → (IsTrue desk.tells → Room setup ecc desk → IsPutting (in_ecc.known_of ecc) (new_block ecc input.layer (correct input)) (bytes_of desk.files setup.image.now) (bytes_of desk'.files setup.image.now))
    → is ≡ was → Along (sight_of setup course rack first noted begun) (sight_of setup course rack desk' is begun)
along_failed setup course rack first desk desk' noted was is begun window ecc input at changes puts same =
    let block = new_block ecc input.layer (correct input) in
    let step = step_is setup course rack first noted begun ecc input at.opened at.sound at.fits in
    let sound = at.along.sound at.sound in
    let put : Puts setup desk desk' block =
    λ t. subst (λ (n : Known). IsPutting n block (bytes_of desk.files setup.image.now) (bytes_of desk'.files setup.image.now)) (known_same setup.medium.now ecc at.opened) (puts t (room setup course rack desk was window ecc at.opened sound t)) in
    along_on setup course rack first desk desk' noted was is begun window begun true ecc input at changes put
    (subst (λ (n : Noted). HasLayers (layer_count course.shape) n) (sym same) sound.layers) (omega arith)
    (λ w asks t value stands.
    stands_failed w asks setup course rack desk desk' was is window begun ecc input.layer (correct input) step sound t changes (put t) same at.inside value stands)

-- the window

pub window_is : (s : Sight) (inputs : List LayerInput) → s.window ≤ length s.moment.given → window_layers s ≡ layers_in inputs → length inputs ≡ s.window
window_is s inputs fits are =
    let one = length-drop (length s.moment.given - s.window) s.moment.given in
    let two = length-map inputs (λ (input : LayerInput). input.layer) in
    omega (arith, fits, one, two, ap length are)

-- the layer at a place of the window
layer_at : (given : List ℕ) (begun i : ℕ) (inputs : List LayerInput) (input : LayerInput) → drop (length given - begun) given ≡ layers_in inputs → slice_get inputs i ≡ Some input
    → get_or given (length given - begun + i) 0 ≡ input.layer
layer_at given begun i inputs input are is =
    sym (get_or-drop (length given - begun) given i 0)
    ∙ ap (λ (xs : List ℕ). get_or xs i 0) are
    ∙ get_or_from_slice_get (layers_in inputs) i input.layer 0 (slice_get-map (λ (x : LayerInput). x.layer) inputs i ∙ ap (option_map (λ (x : LayerInput). x.layer)) is)

settled_more : (given : List ℕ) (begun i l : ℕ) → begun ≤ length given → i < begun → get_or given (length given - begun + i) 0 ≡ l
    → take (length given - (begun - (i + 1))) given ≡ take (length given - (begun - i)) given ++ l ∷ []
settled_more given begun i l fits low is =
    let one : length given - (begun - (i + 1)) ≡ length given - begun + i + 1 = omega (arith, fits, low) in
    let two : length given - (begun - i) ≡ length given - begun + i = omega (arith, fits, low) in
    ap (λ (n : ℕ). take n given) one
    ∙ take_more given (length given - begun + i) 0 (omega (arith, fits, low))
    ∙ ap (λ (x : ℕ). take (length given - begun + i) given ++ x ∷ []) is
    ∙ ap (λ (n : ℕ). take n given ++ l ∷ []) (sym two)

-- what holds of the inputs of a window that was worked
fits_at : (P : LayerInput → Type 0) (xs : List LayerInput) (i : ℕ) (x : LayerInput) → All P xs → slice_get xs i ≡ Some x → P x
fits_at P xs i x all is = subst P (get_or_from_slice_get xs i x x is) (all i x (slice_get_within xs i x is))

answer_is : (worked : Worked) (i : ℕ) (input : LayerInput) (answer : LayerOut) → worked.outs ≡ map correct worked.inputs → slice_get worked.inputs i ≡ Some input → slice_get worked.outs i ≡ Some answer → answer ≡ correct input
answer_is worked i input answer are at is =
    ap (λ (o : Option LayerOut). unwrap_or o answer)
    (sym is ∙ ap (λ (xs : List LayerOut). slice_get xs i) are ∙ slice_get-map correct worked.inputs i ∙ ap (option_map correct) at)

-- the next answer of a window is taken

record IsNext (setup : Setup) (course : CourseSeen) (rack : RackState) (first desk : DeskState) (noted was : Noted) (begun i : ℕ) (worked : Worked) (ecc : Ecc) (input : LayerInput) (answer : LayerOut) : Type 0 where
  at : IsAt setup course rack first desk noted was begun (begun - i) ecc input
  answer_is : answer ≡ correct input
  low : i < begun
  layer : get_or course.given (length course.given - begun + i) 0 ≡ input.layer

next_is : (setup : Setup) (course : CourseSeen) (rack : RackState) (first desk : DeskState) (noted was : Noted) (begun i : ℕ) (worked : Worked) (ecc : Ecc) (input : LayerInput) (answer : LayerOut)
    → setup.medium.now.ecc ≡ Some ecc → IsWorked (sight_of setup course rack first noted begun) worked
    → Along (sight_of setup course rack first noted begun) (sight_of setup course rack desk was (begun - i))
    → slice_get worked.inputs i ≡ Some input → slice_get worked.outs i ≡ Some answer → IsNext setup course rack first desk noted was begun i worked ecc input answer
next_is setup course rack first desk noted was begun i worked ecc input answer opened is along at out =
    let f = sight_of setup course rack first noted begun in
    record {
      at = record {
        opened = opened;
        sound = is.sound;
        none_rose = is.none_rose;
        fits = fits_at (Fits f.moment) worked.inputs i input is.fit at;
        along = along;
        inside = omega arith;
      };
      answer_is = answer_is worked i input answer is.values at out;
      low = omega (arith, slice_get_within worked.inputs i input at, window_is f worked.inputs is.sound.window_fits is.layers);
      layer = layer_at course.given begun i worked.inputs input is.layers at;
    }

pub along_next : (setup : Setup) (course : CourseSeen) (rack : RackState) (first desk desk' : DeskState) (noted was is : Noted) (begun i : ℕ) (worked : Worked) (ecc : Ecc) (input : LayerInput) (answer : LayerOut) (u : Unit)
    → setup.medium.now.ecc ≡ Some ecc → IsWorked (sight_of setup course rack first noted begun) worked
    → Along (sight_of setup course rack first noted begun) (sight_of setup course rack desk was (begun - i))
    → slice_get worked.inputs i ≡ Some input → slice_get worked.outs i ≡ Some answer → SettlesOne ecc input.layer answer setup.image.now was is desk desk' (Ok u)
    → Along (sight_of setup course rack first noted begun) (sight_of setup course rack desk' is (begun - (i + 1)))
along_next setup course rack first desk desk' noted was is begun i worked ecc input answer u opened worked_is along at out one =
    let next = next_is setup course rack first desk noted was begun i worked ecc input answer opened worked_is along at out in
    let own : SettlesOne ecc input.layer (correct input) setup.image.now was is desk desk' (Ok u) = subst (λ (a : LayerOut). SettlesOne ecc input.layer a setup.image.now was is desk desk' (Ok u)) next.answer_is one in
    along_put setup course rack first desk desk' noted was is begun (begun - i) (begun - (i + 1)) ecc input next.at own.changes own.put own.noted_is (omega (arith, next.low))
    (settled_more course.given begun i input.layer worked_is.sound.window_fits next.low next.layer)

pub along_stop : (setup : Setup) (course : CourseSeen) (rack : RackState) (first desk desk' : DeskState) (noted was is : Noted) (begun i : ℕ) (worked : Worked) (ecc : Ecc) (input : LayerInput) (answer : LayerOut) (stop : Stop)
    → setup.medium.now.ecc ≡ Some ecc → IsWorked (sight_of setup course rack first noted begun) worked
    → Along (sight_of setup course rack first noted begun) (sight_of setup course rack desk was (begun - i))
    → slice_get worked.inputs i ≡ Some input → slice_get worked.outs i ≡ Some answer → SettlesOne ecc input.layer answer setup.image.now was is desk desk' (Err stop)
    → Along (sight_of setup course rack first noted begun) (sight_of setup course rack desk' is begun)
along_stop setup course rack first desk desk' noted was is begun i worked ecc input answer stop opened worked_is along at out one =
    let next = next_is setup course rack first desk noted was begun i worked ecc input answer opened worked_is along at out in
    let own : SettlesOne ecc input.layer (correct input) setup.image.now was is desk desk' (Err stop) = subst (λ (a : LayerOut). SettlesOne ecc input.layer a setup.image.now was is desk desk' (Err stop)) next.answer_is one in
    along_failed setup course rack first desk desk' noted was is begun (begun - i) ecc input next.at own.changes own.put own.noted_is.0

pub along_first : (f : Sight) → Along f (record f { window = f.window - 0 })
along_first f = subst (λ (n : ℕ). Along f (record f { window = n })) (let e : f.window ≡ f.window - 0 = omega arith in e) (along_same f)

-- all were taken
pub along_all : (setup : Setup) (course : CourseSeen) (rack : RackState) (first desk : DeskState) (noted is : Noted) (begun i : ℕ) (worked : Worked) → IsWorked (sight_of setup course rack first noted begun) worked
    → length worked.inputs ≤ i → Along (sight_of setup course rack first noted begun) (sight_of setup course rack desk is (begun - i))
    → Along (sight_of setup course rack first noted begun) (sight_of setup course rack desk is 0)
along_all setup course rack first desk noted is begun i worked worked_is all along =
    let f = sight_of setup course rack first noted begun in
    let none : begun - i ≡ 0 = omega (arith, all, window_is f worked.inputs worked_is.sound.window_fits worked_is.layers) in
    subst (λ (n : ℕ). Along f (sight_of setup course rack desk is n)) none along

-- without an error correction file there is no window
no_shape : (shape : Option Shape) → IsShapeOf None shape → layer_count shape ≡ 0
no_shape None is = refl
no_shape (Some sh) is = absurd is

no_layers : (given : List ℕ) (n : ℕ) → n ≡ 0 → ((l : ℕ) → Contains given l → l < n) → length given ≡ 0
no_layers [] n none there = refl
no_layers (l ∷ ls) n none there = absurd (omega (arith, none, there l (0, omega arith, refl)))

pub along_none : (setup : Setup) (course : CourseSeen) (rack : RackState) (desk : DeskState) (noted : Noted) (begun : ℕ) (worked : Worked) → setup.medium.now.ecc ≡ None
    → IsWorked (sight_of setup course rack desk noted begun) worked → Along (sight_of setup course rack desk noted begun) (sight_of setup course rack desk noted 0)
along_none setup course rack desk noted begun worked none worked_is =
    let f = sight_of setup course rack desk noted begun in
    let sound = worked_is.sound in
    let layers : layer_count course.shape ≡ 0 = no_shape course.shape (subst (λ (o : Option Ecc). IsShapeOf o course.shape) none sound.set_up.shape) in
    let empty = no_layers course.given (layer_count course.shape) layers sound.once.there in
    let zero_is : begun ≡ 0 = omega (arith, empty, sound.window_fits) in
    subst (λ (n : ℕ). Along f (sight_of setup course rack desk noted n)) zero_is (along_same f)

-- an answer that may be taken

has_whole : (input : LayerInput) → HasWhole (correct input)
has_whole input p = whole_where (get_or input.erased p false && is_restored (correct input)) (restored_at (correct input) p) (correct_blocks input p)

names : (ecc : Ecc) (gone : ℕ → Bool) (input : LayerInput) → input.erased ≡ flags_at (fields_of ecc.head) gone input.layer → NamesSector (fields_of ecc.head) input.layer (correct input)
unfolding correct
names ecc gone input erased p same =
    flagged_is_sector (fields_of ecc.head) gone input.layer p (sym (ap (λ (fl : List Bool). get_or fl p false) erased)
    ∙ bad_sum_flagged (blocks_in input) input.erased input.sums input.parity input.parity_count p same)

can_settle : (setup : Setup) (course : CourseSeen) (rack : RackState) (desk : DeskState) (noted : Noted) (begun i : ℕ) (worked : Worked) (ecc : Ecc) (input : LayerInput) (answer : LayerOut)
    → setup.medium.now.ecc ≡ Some ecc → IsWorked (sight_of setup course rack desk noted begun) worked → slice_get worked.inputs i ≡ Some input → slice_get worked.outs i ≡ Some answer → CanSettle ecc input.layer answer
can_settle setup course rack desk noted begun i worked ecc input answer opened is at out =
    let m = moment setup course rack desk in
    let fits = fits_at (Fits m) worked.inputs i input is.fit at in
    let step = step_is setup course rack desk noted begun ecc input opened is.sound fits in
    let erased = input_erased m input ecc m.setting.opened m.setting.ecc opened fits.input_is in
    subst (λ (a : LayerOut). CanSettle ecc input.layer a) (sym (answer_is worked i input answer is.values at out)) (record {
      layer = step.layer;
      whole = has_whole input;
      names = names ecc (gone_at m) input erased;
    })

pub can_take : (setup : Setup) (course : CourseSeen) (rack : RackState) (desk : DeskState) (noted : Noted) (begun : ℕ) (worked : Worked) → IsWorked (sight_of setup course rack desk noted begun) worked
    → CanTake setup.medium.now.ecc noted worked
can_take setup course rack desk noted begun worked is = by setup.medium.now.ecc refl
  where
    by : (o : Option Ecc) → setup.medium.now.ecc ≡ o → CanTake o noted worked
    by None e = tt
    by (Some ecc) e = record {
      layers = subst (λ (n : ℕ). HasLayers n noted) (count_is ecc course.shape (subst (λ (o : Option Ecc). IsShapeOf o course.shape) e is.sound.set_up.shape)) is.sound.layers;
      each = λ i input answer at out. can_settle setup course rack desk noted begun i worked ecc input answer e is at out;
    }
