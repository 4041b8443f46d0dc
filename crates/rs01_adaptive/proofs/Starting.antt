-- The start of a reading by turns: what holds of it once the image file is ready.
use Rattle.std.proofs.Common.{inl, inr, ◌≡◌, ℕ, zero, suc, ◌+◌, ◌*◌, ◌%◌, ◌<◌, ◌≤◌, ⊎_elim, List, [], ◌∷◌, ◌++◌, length, get_or, map, take, drop, refl, sym, ap, subst, ◌∙◌, arith}
use Rattle.std.specs.Prelude.{Bool, true, false, not, if◌then◌else◌, Contains, IsSomeAnd, IsTrue, Option, Some, None, replicate}
use Rattle.std.specs.List.{flat_map, range_with_len}
use Rattle.std.specs.Option.{option_map, unwrap_or}
use Rattle.std.proofs.Math.Seq.{drop-append_seam, take-append_seam}
use Rattle.std.proofs.lemmas.Bool.{false≢true}
use Rattle.std.proofs.lemmas.List.{get_or-map, length-map, length-replicate}
use Rattle.std.proofs.lemmas.List.FromFn.{get_or-map-range_with_len, length-map-range_with_len}
use Rattle.rs01_layers.specs.declared.shape.Shape.{Shape}
use Rattle.rs01_sums.specs.Marker.{marker}
use Rattle.rs01_outside.specs.DeskState.{DeskState}
use Rattle.rs01_outside.specs.Files.{bytes_of}
use Rattle.rs01_rack.specs.Rack.{RackState, views_of}
use Rattle.rs01_ecchead.specs.Erased.{Known, block_in, image_len, is_erased}
use Rattle.rs01_states.specs.Sparing.{at_start, found, is_open, is_unread, layer_count, settled, state_of}
use Rattle.rs01_states.specs.declared.state.State.{State}
use Rattle.rs01_states.specs.declared.state.State.TheVariants as state
use Rattle.rs01_states.proofs.SparedLemmas.{others-stay}
use Rattle.rs01_states.proofs.StateLemmas.{length-found, length-spared}
use Rattle.rs01_linear.specs.Asking.{Asking}
use Rattle.rs01_linear.specs.Left.{first_fate, first_fates, marked, marked_sector, mixed}
use Rattle.rs01_linear.specs.Linear.{IsPrepared}
use Rattle.rs01_linear.specs.Marking.{place}
use Rattle.rs01_linear.specs.Medium.{Found, known_of}
use Rattle.rs01_linear.specs.Spared.{Spares}
use Rattle.rs01_linear.specs.declared.fate.Fate.{Fate}
use Rattle.rs01_linear.specs.declared.fate.Fate.TheVariants.{Kept, LeftOut}
use Rattle.rs01_linear.specs.declared.prepared.Prepared.{Prepared}
use Rattle.rs01_linear.proofs.LaidLemmas.{Sized, place_end, place_of, width}
use Rattle.rs01_linear.proofs.LinearLemmas.{front_long}
use Rattle.rs01_linear.proofs.MarkLemmas.{marked_is, marked_long, marked_one, sized_by}
use Rattle.rs01_linear.proofs.StayLemmas.{guards_prepared, spares_marked}
use Rattle.rs01_lists.specs.Bytes.{part}
use Rattle.rs01_ecchead.specs.Opened.{Opened}
use Rattle.rs01_report.specs.declared.reports.Strange.{Strange}
use Rattle.rs01_turns.specs.Leads.{IsBlend}
use Rattle.rs01_turns.specs.Moments.{Moment, asks_at_end, bytes_at, image_at, reading_at, rest_of}
use Rattle.rs01_turns.specs.Turns.{Reading, asking_for, rest}
use Rattle.rs01_turns.proofs.Ending.{IsStill, others-are-left, settled-still}
use Rattle.rs01_turns.proofs.Layering.{start-is-sparing}
use Rattle.rs01_reader.specs.Courses.{is_kept, start_of}
use Rattle.rs01_reader.specs.Settled.{Going, IsNamed, IsShapeOf, moment}
use Rattle.rs01_reader.specs.declared.setup.Setup.{Setup}
use Rattle.rs01_adaptive.specs.Noting.{IsBlank, flag_of}
use Rattle.rs01_adaptive.specs.Outcome.{whole}
use Rattle.rs01_adaptive.specs.Preparing.{IsFoundAs, ecc_name}
use Rattle.rs01_adaptive.specs.Putting.{bytes_in}
use Rattle.rs01_adaptive.specs.Sights.{IsFileOf, IsGuarded, IsSound, MayGoOn, Sight, Stands, block_so_far, fate_by, sight_of}
use Rattle.rs01_adaptive.specs.Whole.{Whole, asking_in, end_in, fate_asked, good_block, known_in, sector_left, start_in, terms_in}
use Rattle.rs01_adaptive.specs.declared.noting.Noted.{Noted}

-- the flags of the good sectors

kept-not : (b : Bool) → is_kept (if b then LeftOut else Kept) ≡ not b
kept-not true = refl
kept-not false = refl

flags-by : (known : Known) (y : List ℕ) (xs : List ℕ) → map is_kept (map (first_fate known y) xs) ≡ map (λ s. not (is_erased known y s)) xs
flags-by known y [] = refl
flags-by known y (s ∷ xs) = λ i. kept-not (is_erased known y s) i ∷ flags-by known y xs i

pub good_are : (known : Known) (y : List ℕ) → map is_kept (first_fates known y) ≡ map (λ s. not (is_erased known y s)) (range_with_len 0 known.sectors)
good_are known y = flags-by known y (range_with_len 0 known.sectors)

-- what a sector is at the start: good where it was found so, and else still to be asked for or spared

abbrev pub IsStart : Bool → State → Type 0
IsStart true x = x ≡ state.Good
IsStart false x = IsStill x

abbrev found_state : Bool → State
found_state is_good = if is_good then state.Good else state.Unread

start-by : (shape : Option Shape) (xs : List State) (k : ℕ) (b : Bool) → state_of xs k ≡ found_state b → IsStart b (state_of (settled shape xs) k)
start-by shape xs k true e = others-stay shape xs k (ap is_unread e) ∙ e
start-by shape xs k false e = settled-still shape xs k (ap is_unread e)

pub start_state : (shape : Option Shape) (good : ℕ → Bool) (n k : ℕ) → k < n → IsStart (good k) (state_of (at_start shape (map good (range_with_len 0 n))).states k)
start_state shape good n k below =
    let flags = map good (range_with_len 0 n) in
    let there : k < length flags = omega (arith, below, length-map-range_with_len good 0 n) in
    let here : k ≡ 0 + k = omega arith in
    start-by shape (found flags) k (good k)
    (get_or-map found_state flags k false state.Good there ∙ ap found_state (get_or-map-range_with_len good 0 n k k false below (sym here)))

open-still : (x : State) → IsStill x → is_open x ≡ true
open-still state.Unread still = refl
open-still state.Good still = ⊎_elim (λ e. e) (λ e. ap is_open e) still
open-still state.Failed still = refl
open-still state.Spared still = refl

-- it isn't good exactly where it was found so
pub start_open : (b : Bool) (x : State) → IsStart (not b) x → is_open x ≡ b
start_open true x still = open-still x still
start_open false x is = ap is_open is

failed-not : state.Failed ≡ state.Spared → ⊥
failed-not e = cc

still-fate : (x : State) (last : Fate) → IsStill x → LeftOut ≡ fate_by x last
still-fate state.Unread last still = refl
still-fate state.Good last still = absurd (false≢true (open-still state.Good still))
still-fate state.Failed last still = ⊎_elim (λ e. absurd (false≢true e)) (λ e. absurd (failed-not e)) still
still-fate state.Spared last still = refl

-- what became of it
pub start_fate : (b : Bool) (asking : Option Asking) (x : State) → IsStart (not b) x → (if b then LeftOut else Kept) ≡ fate_by x (if b then fate_asked asking else Kept)
start_fate true asking x still = still-fate x (fate_asked asking) still
start_fate false asking x is = ap (λ (y : State). fate_by y Kept) (sym is)

length-settled : (shape : Option Shape) (xs : List State) → length (settled shape xs) ≡ length xs
length-settled None xs = refl
length-settled (Some shape) xs = length-spared _ shape.parity xs

pub length_start : (shape : Option Shape) (good : List Bool) → length (at_start shape good).states ≡ length good
length_start shape good = length-settled shape (found good) ∙ length-found good

-- the image file that is ready

prepared-mixed : (known : Known) (y : List ℕ) → Sized known → mixed (place known known.sectors) (marked known y) y ≡ marked known y
prepared-mixed known y sized =
    let front = flat_map (marked_sector known y) (range_with_len 0 known.sectors) in
    let rest = drop (image_len known) y in
    let long = place_end known sized ∙ sym (front_long known y sized) in
    (λ i. take (long i) (marked_is known y i) ++ drop (place_end known sized i) y)
    ∙ ap (λ xs. xs ++ rest) (take-append_seam front rest)
    ∙ sym (marked_is known y)

pub prepared_is : (known : Known) (before file : Option (List ℕ)) (prepared : Prepared) → Sized known → IsPrepared known before file prepared → file ≡ Some (marked known (unwrap_or before []))
prepared_is known before file prepared sized ready = ready.file_is ∙ ap Some (prepared-mixed known (unwrap_or before []) sized)

-- where it is as long as the image
pub prepared_long : (known : Known) (before file : Option (List ℕ)) (prepared : Prepared) → Sized known → IsPrepared known before file prepared → image_len known ≤ length (unwrap_or file [])
prepared_long known before file prepared sized ready =
    subst (λ (o : Option (List ℕ)). image_len known ≤ length (unwrap_or o [])) (sym (prepared_is known before file prepared sized ready)) (marked_long known (unwrap_or before []) sized)

-- past the image it is as before
pub marked_surplus : (known : Known) (y : List ℕ) → Sized known → drop (image_len known) (marked known y) ≡ drop (image_len known) y
marked_surplus known y sized =
    let front = flat_map (marked_sector known y) (range_with_len 0 known.sectors) in
    (λ i. drop (sym (front_long known y sized) i) (marked_is known y i)) ∙ drop-append_seam front (drop (image_len known) y)

-- what a reading by turns starts from: what is known of each sector, a drive that is asked at least once, the shape of the
-- error correction file and its name, and an image file as long as the image
pub record Starts (setup : Setup) (shape : Option Shape) (fates : List Fate) (desk : DeskState) : Type 0 where
  pub all : length fates ≡ setup.medium.now.extent.sectors
  pub tries : 1 ≤ setup.tries
  pub shape_is : IsShapeOf setup.medium.now.ecc shape
  pub named : IsNamed setup.medium.now.ecc (option_map (λ name. name.now) setup.ecc) setup.image.now
  pub places : IsTrue desk.tells → image_len (known_of setup.medium.now) ≤ length (bytes_of desk.files setup.image.now)

-- the moment at the start
abbrev pub start_moment : Setup → Option Shape → List Fate → RackState → DeskState → Moment
start_moment setup shape fates rack desk = moment setup (start_of shape fates desk.read_faults desk.write_faults) rack desk

abbrev pub start_sight : Setup → Option Shape → List Fate → RackState → DeskState → Noted → Sight
start_sight setup shape fates rack desk noted = sight_of setup (start_of shape fates desk.read_faults desk.write_faults) rack desk noted 0

none-given : (l : ℕ) → Contains [] l → ⊥
none-given l c = nothing c.0 c.1
  where
    nothing : (n : ℕ) → n < 0 → ⊥
    nothing n h = omega (arith, h)

nothing-below : (n : ℕ) → n < 0 → ⊥
nothing-below n h = omega (arith, h)

-- a reader may be asked
pub starts_going : (setup : Setup) (shape : Option Shape) (fates : List Fate) (rack : RackState) (desk : DeskState) → Starts setup shape fates desk → Going (start_moment setup shape fates rack desk)
starts_going setup shape fates rack desk st = record {
  ready = record {
    all = length_start shape (map is_kept fates) ∙ length-map fates is_kept ∙ st.all;
    fated = st.all;
    last_fits = setup.medium.now.extent.last_fits;
    places = st.places;
  };
  set_up = record { tries = st.tries; shape = st.shape_is; named = st.named };
  spared = (start-is-sparing shape (map is_kept fates)).unread;
  all_given = λ l there below within. absurd (nothing-below l below);
  given = λ l c. absurd (none-given l c);
  reads_rise = omega arith;
  writes_rise = omega arith;
}

-- and what holds of every moment holds
pub starts_sound :
    (setup : Setup) (shape : Option Shape) (fates : List Fate) (rack : RackState) (desk : DeskState) (noted : Noted) → Starts setup shape fates desk → IsBlank (layer_count shape) noted
    → IsSound (start_sight setup shape fates rack desk noted)
starts_sound setup shape fates rack desk noted st blank =
    let going = starts_going setup shape fates rack desk st in
    record {
      ready = going.ready;
      set_up = going.set_up;
      once = record { once = tt; there = λ l c. absurd (none-given l c) };
      some_sectors = setup.medium.now.extent.some_sectors;
      some_last = setup.medium.now.extent.some_last_bytes;
      layers = record {
        restored = ap length blank.restored ∙ length-replicate (layer_count shape) false;
        strange = ap length blank.strange ∙ length-replicate (layer_count shape) None;
      };
      window_fits = omega arith;
      reads_rise = going.reads_rise;
      writes_rise = going.writes_rise;
    }

pub starts_may : (setup : Setup) (shape : Option Shape) (fates : List Fate) (rack : RackState) (desk : DeskState) (noted : Noted) → Starts setup shape fates desk → IsBlank (layer_count shape) noted
    → MayGoOn (start_sight setup shape fates rack desk noted)
starts_may setup shape fates rack desk noted st blank = record {
  going = starts_going setup shape fates rack desk st;
  sound = starts_sound setup shape fates rack desk noted st blank;
  quiet = record { reads = refl; writes = refl };
}

-- where it stands in the whole reading

all-same : {A : Type 0} (d : A) (n k : ℕ) → get_or (replicate n d) k d ≡ d
all-same d zero k = refl
all-same d (suc n) zero = refl
all-same d (suc n) (suc k) = all-same d n k

unset : (flags : List Bool) (n k : ℕ) → flags ≡ replicate n false → flag_of flags k ≡ false
unset flags n k is = ap (λ (fs : List Bool). flag_of fs k) is ∙ all-same false n (k % length (replicate n false))

-- of the blocks that a sector may have, the one of the marked file
first-block : (b lacks flag : Bool) (restored mark read kept : List ℕ) → lacks ≡ b → flag ≡ false
    → (if b then mark else kept) ≡ (if lacks then (if flag then restored else mark) else (if b then read else kept))
first-block true lacks flag restored mark read kept e f = λ i. if sym e i then (if sym f i then restored else mark) else read
first-block false lacks flag restored mark read kept e f = λ i. if sym e i then (if flag then restored else mark) else kept

-- the whole reading by what was opened
abbrev whole_of : Setup → Option Opened → Option Shape → List ℕ → RackState → Whole
whole_of setup opened shape y rack = whole (record { known = known_of setup.medium.now; opened = opened }) shape setup.tries y (views_of rack)

-- a moment whose image file is on the way from the marked one to the one that is left
pub record IsOnTheWay (w : Whole) (m : Moment) : Type 0 where
  pub terms_are : m.setting.terms ≡ terms_in w
  pub end_is : rest_of m ≡ end_in w
  pub mixed : (k : ℕ) → k < (known_in w).sectors → IsBlend (bytes_at m k) (bytes_in (known_in w) (marked (known_in w) w.image) k) (sector_left w k)
  pub longer : length w.image ≤ length (image_at m)
  pub surplus : drop (image_len (known_in w)) (image_at m) ≡ drop (image_len (known_in w)) w.image

-- the moment of the reading that the start is
now-is : (setup : Setup) (opened : Option Opened) (shape : Option Shape) (y : List ℕ) (rack : RackState) (desk : DeskState)
    → reading_at (start_moment setup shape (first_fates (known_of setup.medium.now) y) rack desk) ≡ start_in (whole_of setup opened shape y rack)
now-is setup opened shape y rack desk i = record { views = views_of rack; states = (at_start shape (good_are (known_of setup.medium.now) y i)).states; place = None }

end-at : (setup : Setup) (opened : Option Opened) (shape : Option Shape) (y : List ℕ) (rack : RackState) (desk : DeskState)
    → rest_of (start_moment setup shape (first_fates (known_of setup.medium.now) y) rack desk) ≡ end_in (whole_of setup opened shape y rack)
unfolding end_in
end-at setup opened shape y rack desk = ap (λ (r : Reading). rest (terms_in (whole_of setup opened shape y rack)) r) (now-is setup opened shape y rack desk)

way-at :
    (setup : Setup) (opened : Option Opened) (shape : Option Shape) (y : List ℕ) (rack : RackState) (desk : DeskState) → Sized (known_of setup.medium.now)
    → bytes_of desk.files setup.image.now ≡ marked (known_of setup.medium.now) y
    → IsOnTheWay (whole_of setup opened shape y rack) (start_moment setup shape (first_fates (known_of setup.medium.now) y) rack desk)
way-at setup opened shape y rack desk sized image =
    let known = known_of setup.medium.now in
    record {
      terms_are = refl;
      end_is = end-at setup opened shape y rack desk;
      mixed = λ k below i. inl (ap (λ (xs : List ℕ). get_or (part xs (2048 * k) (width known k)) i 0) image);
      longer = subst (λ (xs : List ℕ). length y ≤ length xs) (prepared-mixed known y sized ∙ sym image) (spares_marked known y (place known known.sectors) sized).longer;
      surplus = ap (drop (image_len known)) image ∙ marked_surplus known y sized;
    }

stands-at :
    (setup : Setup) (opened : Option Opened) (shape : Option Shape) (y : List ℕ) (rack : RackState) (desk : DeskState) (noted : Noted) → Sized (known_of setup.medium.now)
    → IsFileOf opened setup.medium.now.ecc (bytes_of desk.files (ecc_name setup)) → bytes_of desk.files setup.image.now ≡ marked (known_of setup.medium.now) y → IsBlank (layer_count shape) noted
    → Stands (whole_of setup opened shape y rack) (asks_at_end (start_moment setup shape (first_fates (known_of setup.medium.now) y) rack desk))
    (start_sight setup shape (first_fates (known_of setup.medium.now) y) rack desk noted)
unfolding end_in asking_in block_so_far good_block
stands-at setup opened shape y rack desk noted sized file image blank =
    let known = known_of setup.medium.now in
    let w = whole_of setup opened shape y rack in
    let m = start_moment setup shape (first_fates known y) rack desk in
    let s = start_sight setup shape (first_fates known y) rack desk noted in
    let now = now-is setup opened shape y rack desk in
    let end = end-at setup opened shape y rack desk in
    let way = way-at setup opened shape y rack desk sized image in
    let starts : (k : ℕ) → k < known.sectors → IsStart (not (is_erased known y k)) (state_of m.states k) =
    λ k below. subst (λ (g : List Bool). IsStart (not (is_erased known y k)) (state_of (at_start shape g).states k)) (sym (good_are known y))
    (start_state shape (λ j. not (is_erased known y j)) known.sectors k below) in
    record {
      terms_are = refl;
      file_is = file;
      end_is = end;
      asks_are = refl;
      asking = λ k unread. ap (λ (r : Reading). asking_for (terms_in w) r k) now;
      last = λ k not_. ap (λ (r : Reading). state_of r.states k) (sym end) ∙ (others-are-left (terms_in w) (reading_at m) k not_).same;
      lacking = λ k below lacks. sym (start_open (is_erased known y k) (state_of m.states k) (starts k below)) ∙ lacks;
      fates = λ k below.
          get_or-map-range_with_len (first_fate known y) 0 known.sectors k k LeftOut below (let e : 0 + k ≡ k = omega arith in e)
          ∙ start_fate (is_erased known y k) (asking_in w k) (state_of m.states k) (starts k below);
      blocks = λ none k below.
          ap (λ (xs : List ℕ). part xs (2048 * k) (width known k)) image
          ∙ ap (λ at. part (marked known y) at (width known k)) (sym (place_of known k sized below))
          ∙ marked_one known y k sized below
          ∙ ap (take (width known k)) (first-block (is_erased known y k) (is_open (state_of m.states k)) (flag_of noted.restored.items k) _ (marker k) _ (block_in known y k)
          (start_open (is_erased known y k) (state_of m.states k) (starts k below)) (unset noted.restored.items (layer_count shape) k blank.restored));
      mixed = way.mixed;
      layers = λ l low. inr (record {
        flag_is = ap (λ (fs : List Bool). get_or fs l false) blank.restored ∙ all-same false (layer_count shape) l;
        strange_is = ap (λ (fs : List (Option Strange)). get_or fs l None) blank.strange ∙ all-same None (layer_count shape) l;
        open_yet = λ c. none-given l c;
      });
      longer = way.longer;
      surplus = way.surplus;
    }

-- from an image file that is ready, whatever it was before
pub starts_standing :
    (setup : Setup) (f : Found) (shape : Option Shape) (before : Option (List ℕ)) (prepared : Prepared) (rack : RackState) (desk : DeskState) (noted : Noted)
    → IsFoundAs setup desk f → IsPrepared (known_of setup.medium.now) before (desk.files setup.image.now) prepared → IsBlank (layer_count shape) noted
    → Stands (whole f shape setup.tries (unwrap_or before []) (views_of rack)) (asks_at_end (start_moment setup shape prepared.fates.items rack desk))
    (start_sight setup shape prepared.fates.items rack desk noted)
starts_standing setup f shape before prepared rack desk noted found ready blank =
    let known = known_of setup.medium.now in
    let y = unwrap_or before [] in
    let sized : Sized known = sized_by setup.medium.now.extent (option_map (λ ecc. ecc.sums.list) setup.medium.now.ecc) in
    let image : bytes_of desk.files setup.image.now ≡ marked known y = ap (λ (o : Option (List ℕ)). unwrap_or o []) (prepared_is known before (desk.files setup.image.now) prepared sized ready) in
    subst (λ (k : Known). Stands (whole (record { known = k; opened = f.opened }) shape setup.tries y (views_of rack)) (asks_at_end (start_moment setup shape prepared.fates.items rack desk))
    (start_sight setup shape prepared.fates.items rack desk noted)) (sym found.known_is)
    (subst (λ (fs : List Fate). Stands (whole_of setup f.opened shape y rack) (asks_at_end (start_moment setup shape fs rack desk)) (start_sight setup shape fs rack desk noted)) (sym ready.fates_are)
    (stands-at setup f.opened shape y rack desk noted sized found.opened_is image blank))

-- where nothing was asked for yet, the image file is the marked one
pub starts_on_the_way :
    (setup : Setup) (f : Found) (shape : Option Shape) (before : Option (List ℕ)) (prepared : Prepared) (rack : RackState) (desk : DeskState)
    → f.known ≡ known_of setup.medium.now → IsPrepared (known_of setup.medium.now) before (desk.files setup.image.now) prepared
    → IsOnTheWay (whole f shape setup.tries (unwrap_or before []) (views_of rack)) (start_moment setup shape prepared.fates.items rack desk)
starts_on_the_way setup f shape before prepared rack desk known_is ready =
    let known = known_of setup.medium.now in
    let y = unwrap_or before [] in
    let sized : Sized known = sized_by setup.medium.now.extent (option_map (λ ecc. ecc.sums.list) setup.medium.now.ecc) in
    let image : bytes_of desk.files setup.image.now ≡ marked known y = ap (λ (o : Option (List ℕ)). unwrap_or o []) (prepared_is known before (desk.files setup.image.now) prepared sized ready) in
    subst (λ (k : Known). IsOnTheWay (whole (record { known = k; opened = f.opened }) shape setup.tries y (views_of rack)) (start_moment setup shape prepared.fates.items rack desk)) (sym known_is)
    (subst (λ (fs : List Fate). IsOnTheWay (whole_of setup f.opened shape y rack) (start_moment setup shape fs rack desk)) (sym ready.fates_are)
    (way-at setup f.opened shape y rack desk sized image))

-- what is good in the image file is guarded
pub starts_guarded :
    (setup : Setup) (shape : Option Shape) (before : Option (List ℕ)) (prepared : Prepared) (rack : RackState) (desk : DeskState) (noted : Noted)
    → IsPrepared (known_of setup.medium.now) before (desk.files setup.image.now) prepared
    → IsGuarded (unwrap_or before []) (start_sight setup shape prepared.fates.items rack desk noted)
starts_guarded setup shape before prepared rack desk noted ready =
    let known = known_of setup.medium.now in
    let y = unwrap_or before [] in
    let sized : Sized known = sized_by setup.medium.now.extent (option_map (λ ecc. ecc.sums.list) setup.medium.now.ecc) in
    record {
      file_is = in_file (desk.files setup.image.now) (guards_prepared known before (desk.files setup.image.now) prepared sized ready).file_is;
      open_only = λ k below lacks.
          sym (start_open (is_erased known y k) (state_of (at_start shape (map is_kept (first_fates known y))).states k)
          (subst (λ (g : List Bool). IsStart (not (is_erased known y k)) (state_of (at_start shape g).states k)) (sym (good_are known y))
          (start_state shape (λ j. not (is_erased known y j)) known.sectors k below)))
          ∙ ap (λ (fs : List Fate). is_open (state_of (at_start shape (map is_kept fs)).states k)) (sym ready.fates_are)
          ∙ lacks;
    }
  where
    in_file : (file : Option (List ℕ)) → IsSomeAnd file (Spares (known_of setup.medium.now) (unwrap_or before [])) → Spares (known_of setup.medium.now) (unwrap_or before []) (unwrap_or file [])
    in_file (Some bytes) is = is
    in_file None is = absurd is
