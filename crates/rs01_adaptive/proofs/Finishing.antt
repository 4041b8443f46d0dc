-- The end of a reading by turns: what is left and told of it, and what is left where it stops.
use Rattle.std.proofs.Common.{inl, inr, ◌≡◌, ℕ, ◌+◌, ◌-◌, ◌*◌, ◌/◌, ◌^◌, ◌⊎◌, ◌<◌, ◌≤◌, ⊎_elim, List, length, take, get_or, refl, sym, ap, subst, ◌∙◌, arith, append-nil}
use Rattle.std.specs.Prelude.{◌&&◌, Bool, true, false, not, if◌then◌else◌, IsSomeAnd, Option, Some, None, filter, is_none, is_some, slice_get}
use Rattle.std.specs.List.{flat_map, range_with_len}
use Rattle.std.specs.Option.{option_map_or, unwrap_or}
use Rattle.std.proofs.lemmas.Bool.{cases_lt}
use Rattle.std.proofs.lemmas.List.{ext_get_or}
use Rattle.std.proofs.lemmas.List.FromFn.{get_or-map-range_with_len, length-map-range_with_len}
use Rattle.std.proofs.lemmas.Option.{slice_get-get_or}
use Rattle.rs01_lists.specs.Bytes.{part}
use Rattle.rs01_sums.specs.Marker.{marker}
use Rattle.rs01_rack.specs.Rack.{AllTell, RackState, capped, views_of}
use Rattle.rs01_report.specs.declared.reports.ReadReport.{ReadReport}
use Rattle.rs01_ecchead.specs.Erased.{Known, image_len}
use Rattle.rs01_repair.proofs.Counts.{same_kept}
use Rattle.rs01_states.specs.Sparing.{is_open, state_of}
use Rattle.rs01_linear.specs.Lasting.{CountsAsks, asks_in}
use Rattle.rs01_linear.specs.Left.{marked}
use Rattle.rs01_linear.specs.Outcome.{asked_since}
use Rattle.rs01_linear.specs.Report as report
use Rattle.rs01_linear.specs.declared.fate.Fate.{Fate}
use Rattle.rs01_linear.specs.declared.fate.Fate.TheVariants.{LeftOut}
use Rattle.rs01_linear.specs.declared.telling.Told.TheVariants as told
use Rattle.rs01_linear.specs.Marking.{place}
use Rattle.rs01_linear.proofs.LaidLemmas.{Fills, Sized, laid, laid_part, place_more, place_of, width}
use Rattle.rs01_turns.specs.Leads.{AllAskedOn}
use Rattle.rs01_turns.specs.Moments.{Moment, bytes_at, image_at, known_at, length_at, rest_of}
use Rattle.rs01_turns.specs.Turns.{Reading, Terms}
use Rattle.rs01_turns.proofs.Asking.{rest-grows}
use Rattle.rs01_turns.proofs.Leading.{look-leads}
use Rattle.rs01_turns.proofs.Stopping.{where-stopped}
use Rattle.rs01_turns.proofs.Times.{ends-all}
use Rattle.rs01_adaptive.specs.Noting.{flag_of, is_among, sectors_among, told_of}
use Rattle.rs01_adaptive.specs.Outcome.{IsBetween, IsLeftAt, IsReadInto}
use Rattle.rs01_adaptive.specs.Sights.{IsFinished, Sight, Stands, block_so_far, fate_by}
use Rattle.rs01_adaptive.specs.Whole.{Whole, block_left, end_in, fate_in, fates_in, good_block, image_left, is_lost_in, is_open_in, is_restored_in, known_in, report_of, restored_block, sector_left, start_in, terms_in}
use Rattle.rs01_adaptive.proofs.Ends.{fate_ends, lost_ends}
use Rattle.rs01_adaptive.proofs.Laying.{HasSectors, byte_in, byte_of, byte_past, image_there, laid_is}
use Rattle.rs01_adaptive.proofs.LayerEnds.{HasFile, block_flag, end_is, strange_tells}
use Rattle.rs01_adaptive.proofs.Starting.{IsOnTheWay}

-- the medium is the same
known-same : (w : Whole) (asks : ℕ) (s : Sight) → Stands w asks s → known_at s.moment ≡ known_in w
known-same w asks s st = ap (λ (t : Terms). t.known) st.terms_are

end-state : (w : Whole) (asks : ℕ) (s : Sight) (k : ℕ) → Stands w asks s → IsFinished s → state_of s.moment.states k ≡ state_of (end_in w).states k
end-state w asks s k st fin = ap (λ (r : Reading). state_of r.states k) (sym (end_is w asks s st fin.over.done.none_unread))

-- the image file

-- the block of a sector at the end, by whether it is good, has a restored block and has its layer's flag set
by-block : (lacks flag : Bool) (block : Option (List ℕ)) (mark good : List ℕ) → (lacks ≡ true → flag ≡ is_some block)
    → (if lacks then (if flag then unwrap_or block mark else mark) else good) ≡ (if lacks then unwrap_or block mark else good)
by-block false flag block mark good same = refl
by-block true flag (Some b) mark good same = ap (λ (f : Bool). if f then b else mark) (same refl)
by-block true flag None mark good same = ap (λ (f : Bool). if f then mark else mark) (same refl)

block-ends : (w : Whole) (asks : ℕ) (s : Sight) (k : ℕ) → Stands w asks s → IsFinished s → HasFile w → k < (known_in w).sectors → block_so_far w s k ≡ block_left w k
unfolding block_so_far block_left
block-ends w asks s k st fin file below =
    ap (λ (x : Bool). if x then (if flag_of s.noted.restored.items k then unwrap_or (restored_block w k) (marker k) else marker k) else good_block w k) (ap is_open (end-state w asks s k st fin))
    ∙ by-block (is_open_in w k) (flag_of s.noted.restored.items k) (restored_block w k) (marker k) (good_block w k) (λ lacks. block_flag w asks s k st fin file below lacks)

sectors-end : (w : Whole) (asks : ℕ) (s : Sight) → Stands w asks s → IsFinished s → HasFile w → HasSectors (known_in w) (sector_left w) (image_at s.moment)
sectors-end w asks s st fin file k below =
    let known = known-same w asks s st in
    let len : length_at s.moment k ≡ width (known_in w) k = ap (λ (n : Known). width n k) known in
    ap (λ n. part (image_at s.moment) (2048 * k) n) (sym len)
    ∙ st.blocks fin.none_rose.writes k below
    ∙ (λ i. take (len i) (block-ends w asks s k st fin file below i))

image-laid : (w : Whole) → image_left w ≡ laid (known_in w) (sector_left w) w.image
unfolding image_left
image-laid w = refl

image-ends : (w : Whole) (asks : ℕ) (s : Sight) → Sized (known_in w) → Stands w asks s → IsFinished s → HasFile w → image_at s.moment ≡ image_left w
image-ends w asks s sized st fin file =
    laid_is (known_in w) (sector_left w) w.image (image_at s.moment) sized (sectors-end w asks s st fin file) st.surplus
    ∙ sym (image-laid w)

-- what is told

fates-end : (w : Whole) (asks : ℕ) (s : Sight) → Stands w asks s → IsFinished s → length s.moment.fates ≡ (known_in w).sectors → s.moment.fates ≡ fates_in w
fates-end w asks s st fin all =
    let long = length-map-range_with_len (fate_in w) 0 (known_in w).sectors in
    ext_get_or LeftOut s.moment.fates (fates_in w) (all ∙ sym long) (λ k low.
    let below : k < (known_in w).sectors = omega (arith, low, all) in
    st.fates k below
    ∙ ap (λ x. fate_by x (fate_in w k)) (end-state w asks s k st fin)
    ∙ fate_ends w k below
    ∙ sym (get_or-map-range_with_len (fate_in w) 0 (known_in w).sectors k k LeftOut below (let e : 0 + k ≡ k = omega arith in e)))

lost-here : (w : Whole) (k : ℕ) → k < (known_in w).sectors → report.tells_of (fates_in w) told.Lost k ≡ is_open_in w k
lost-here w k below =
    ap (λ (o : Option Fate). option_map_or (report.is_told told.Lost) o false)
    (slice_get-get_or (fates_in w) k LeftOut (omega (arith, below, length-map-range_with_len (fate_in w) 0 (known_in w).sectors))
    ∙ ap Some (get_or-map-range_with_len (fate_in w) 0 (known_in w).sectors k k LeftOut below (let e : 0 + k ≡ k = omega arith in e)))
    ∙ lost_ends w k below

among-some : (lacks flag : Bool) (block : Option (List ℕ)) → (lacks ≡ true → flag ≡ is_some block) → (lacks && flag) ≡ (lacks && is_some block)
among-some true flag block same = same refl
among-some false flag block same = refl

among-none : (lacks flag : Bool) (block : Option (List ℕ)) → (lacks ≡ true → flag ≡ is_some block) → (lacks && not flag) ≡ (lacks && is_none block)
among-none true flag (Some b) same = ap not (same refl)
among-none true flag None same = ap not (same refl)
among-none false flag block same = refl

-- two tests that agree below a number
kept-same : (f g : ℕ → Bool) (n : ℕ) → ((j : ℕ) → j < n → f j ≡ g j) → filter f (range_with_len 0 n) ≡ filter g (range_with_len 0 n)
kept-same f g n same = same_kept f g 0 n (λ j low. let e : 0 + j ≡ j = omega arith in ap f e ∙ same j low ∙ ap g (sym e))

-- sectors that are told, by a test of each
among-end : (w : Whole) (s : Sight) (restored : Bool) (test : ℕ → Bool) → ((k : ℕ) → k < (known_in w).sectors → is_among (fates_in w) s.noted.restored.items restored k ≡ test k)
    → sectors_among (fates_in w) s.noted.restored.items restored ≡ filter test (range_with_len 0 (known_in w).sectors)
among-end w s restored test same =
    ap (λ n. filter (is_among (fates_in w) s.noted.restored.items restored) (range_with_len 0 n)) (length-map-range_with_len (fate_in w) 0 (known_in w).sectors)
    ∙ kept-same (is_among (fates_in w) s.noted.restored.items restored) test (known_in w).sectors same

restored-end : (w : Whole) (asks : ℕ) (s : Sight) → Stands w asks s → IsFinished s → HasFile w
    → sectors_among (fates_in w) s.noted.restored.items true ≡ filter (is_restored_in w) (range_with_len 0 (known_in w).sectors)
restored-end w asks s st fin file = among-end w s true (is_restored_in w) (λ k below.
    ap (λ (b : Bool). b && flag_of s.noted.restored.items k) (lost-here w k below)
    ∙ among-some (is_open_in w k) (flag_of s.noted.restored.items k) (restored_block w k) (λ lacks. block_flag w asks s k st fin file below lacks))

lost-end : (w : Whole) (asks : ℕ) (s : Sight) → Stands w asks s → IsFinished s → HasFile w
    → sectors_among (fates_in w) s.noted.restored.items false ≡ filter (is_lost_in w) (range_with_len 0 (known_in w).sectors)
lost-end w asks s st fin file = among-end w s false (is_lost_in w) (λ k below.
    ap (λ (b : Bool). b && not (flag_of s.noted.restored.items k)) (lost-here w k below)
    ∙ among-none (is_open_in w k) (flag_of s.noted.restored.items k) (restored_block w k) (λ lacks. block_flag w asks s k st fin file below lacks))

told-end : (w : Whole) (asks : ℕ) (s : Sight) (asked : ℕ) → Stands w asks s → IsFinished s → HasFile w → length s.moment.fates ≡ (known_in w).sectors
    → told_of s.moment.fates s.noted asked (length w.image - image_len (known_in w)) ≡ report_of w asked
unfolding told_of report_of
told-end w asks s asked st fin file all =
    let surplus = length w.image - image_len (known_in w) in
    ap (λ (fs : List Fate). told_of fs s.noted asked surplus) (fates-end w asks s st fin all)
    ∙ (λ i. record (report.report_of (fates_in w) asked surplus) {
      restored = restored-end w asks s st fin file i;
      lost = lost-end w asks s st fin file i;
      strange = strange_tells w asks s st fin file.shape i;
    })

-- the drives

asks-end : (w : Whole) (asks : ℕ) (s : Sight) (old : RackState) → Stands w asks s → IsFinished s → w.views ≡ views_of old
    → asks ≡ capped (old.asks + (asks_in (end_in w).views - asks_in (views_of old))) → s.moment.rack.asks < 2 ^ 128 → CountsAsks old s.moment.rack
unfolding end_in
asks-end w asks s old st fin views count small =
    let end = end_is w asks s st fin.over.done.none_unread in
    let rest_is = st.end_is ∙ end in
    let now : views_of s.moment.rack ≡ (end_in w).views = ap (λ (r : Reading). r.views) (sym end) in
    let grows : asks_in w.views ≤ asks_in (end_in w).views = rest-grows (terms_in w) (start_in w) in
    let started : asks_in w.views ≡ asks_in (views_of old) = ap asks_in views in
    let same : asks_in (rest_of s.moment).views ≡ asks_in (views_of s.moment.rack) = ap (λ (r : Reading). asks_in r.views) rest_is in
    let more = asks_in (end_in w).views - asks_in (views_of old) in
    let counted : capped (s.moment.rack.asks + (asks_in (rest_of s.moment).views - asks_in (views_of s.moment.rack))) ≡ asks = st.asks_are in
    record {
      more = more;
      shown = ap asks_in now ∙ (let e : asks_in (end_in w).views ≡ asks_in (views_of old) + more = omega (arith, grows, started) in e);
      counted = omega (arith, counted, same, count, small);
    }

-- a medium that was read to its end
pub finished_read :
    (w : Whole) (asks : ℕ) (s : Sight) (old : RackState) (told : ReadReport) → Sized (known_in w) → HasFile w → Stands w asks s → IsFinished s → w.views ≡ views_of old
    → asks ≡ capped (old.asks + (asks_in (end_in w).views - asks_in (views_of old))) → s.moment.rack.asks < 2 ^ 128 → image_len (known_in w) ≤ length (image_at s.moment)
    → told ≡ told_of s.moment.fates s.noted (asked_since old s.moment.rack) (length w.image - image_len (known_in w))
    → IsReadInto old s.moment.rack (s.moment.desk.files s.moment.setting.image) told w
finished_read w asks s old told sized file st fin views count small long is = record {
  file_is = image_there (known_in w) (s.moment.desk.files s.moment.setting.image) sized long ∙ ap Some (image-ends w asks s sized st fin file);
  views_are = ap (λ (r : Reading). r.views) (sym (end_is w asks s st fin.over.done.none_unread));
  told_is = is ∙ told-end w asks s (asked_since old s.moment.rack) st fin file (fin.over.sound.ready.fated ∙ ap (λ (n : Known). n.sectors) (known-same w asks s st));
  asks = asks-end w asks s old st fin views count small;
}

-- where it stops

-- the image file is on the way
pub on_the_way : (w : Whole) (asks : ℕ) (s : Sight) → Stands w asks s → IsOnTheWay w s.moment
on_the_way w asks s st = record { terms_are = st.terms_are; end_is = st.end_is; mixed = st.mixed; longer = st.longer; surplus = st.surplus }

-- a sector of the file that is left
pub left-part : (w : Whole) (s : ℕ) → Sized (known_in w) → Fills (known_in w) (sector_left w) → s < (known_in w).sectors → part (image_left w) (2048 * s) (width (known_in w) s) ≡ sector_left w s
left-part w s sized fills below =
    let known = known_in w in
    let n : place known (s + 1) - place known s ≡ width known s = omega (arith, place_more known s sized below) in
    (λ i. part (image-laid w i) (sym (place_of known s sized below) i) (sym n i))
    ∙ laid_part known (sector_left w) w.image s (s + 1) sized fills (omega arith) (omega (arith, below))
    ∙ ap (λ k. flat_map (sector_left w) (range_with_len s k)) (let e : s + 1 - s ≡ 1 = omega arith in e)
    ∙ append-nil (sector_left w s)

-- a byte of the image
byte-inside : (w : Whole) (m : Moment) (k : ℕ) → Sized (known_in w) → Fills (known_in w) (sector_left w) → IsOnTheWay w m → k < image_len (known_in w)
    → (get_or (image_at m) k 0 ≡ get_or (marked (known_in w) w.image) k 0) ⊎ (get_or (image_at m) k 0 ≡ get_or (image_left w) k 0)
byte-inside w m k sized fills way inside =
    let known = known_in w in
    let s = k / 2048 in
    let of = byte_of known k sized inside in
    let at : (xs : List ℕ) → get_or (part xs (2048 * s) (width known s)) (k - 2048 * s) 0 ≡ get_or xs k 0 = λ xs. byte_in xs (2048 * s) (width known s) k of.low of.high in
    let here : get_or (bytes_at m s) (k - 2048 * s) 0 ≡ get_or (image_at m) k 0 =
    ap (λ (t : Terms). get_or (part (image_at m) (2048 * s) (width t.known s)) (k - 2048 * s) 0) way.terms_are ∙ at (image_at m) in
    ⊎_elim
    (λ one. inl (sym here ∙ one ∙ at (marked known w.image)))
    (λ other. inr (sym here ∙ other ∙ sym (ap (λ (xs : List ℕ). get_or xs (k - 2048 * s) 0) (left-part w s sized fills of.below)) ∙ at (image_left w)))
    (way.mixed s of.below (k - 2048 * s))

-- the drives were asked for some first sectors, and the image file is on the way
pub is_left_at :
    (w : Whole) (m : Moment) (before : Option (List ℕ)) → Sized (known_in w) → Fills (known_in w) (sector_left w) → IsOnTheWay w m → AllAskedOn w.views (views_of m.rack) → AllTell m.rack → image_len (known_in w) ≤ length (image_at m)
    → IsLeftAt (views_of m.rack) before (m.desk.files m.setting.image) w
unfolding end_in
is_left_at w m before sized fills way on tell long =
    let part_of = where-stopped m m (look-leads m m.first) tell in
    record {
      number = part_of.number ∙ ap (λ (r : Reading). length r.views) way.end_is ∙ (ends-all (terms_in w) (start_in w)).drives;
      asked = λ k first one other start was is.
          let grew = on k first one start was in
          let rest = part_of.asked k one one other was was (ap (λ (r : Reading). slice_get r.views k) way.end_is ∙ is) in
          record { done = grew.0; more = rest.more; sofar_is = grew.1; all_is = rest.all_is };
      file_is = inr (subst (λ (o : Option (List ℕ)). IsSomeAnd o (IsBetween w (marked (known_in w) w.image) (image_left w))) (sym (image_there (known_in w) (m.desk.files m.setting.image) sized long))
          (record { longer = way.longer; surplus = way.surplus; bytes = λ k below inside. byte-inside w m k sized fills way inside }));
    }
