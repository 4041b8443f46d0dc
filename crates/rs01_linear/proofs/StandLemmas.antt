-- How a reading stands once one sector more was passed.
use Rattle.std.proofs.Common.{◌≡◌, ℕ, zero, suc, ◌+◌, ◌-◌, ◌<◌, ◌≤◌, ◌∙◌, ap, arith, sym, refl, subst, Bool, true, false, cond, List, [], ◌∷◌, ◌++◌, length, take, drop, get_or, append_assoc, add-one}
use Rattle.std.specs.Prelude.{Option, Some, None, is_some}
use Rattle.std.specs.Option.{unwrap_or}
use Rattle.std.proofs.Math.ListN.{set}
use Rattle.std.proofs.lemmas.Bool.{lt-ltb, le-ltb}
use Rattle.std.proofs.lemmas.List.{get_or-append_right, length-take-le}
use Rattle.std.proofs.lemmas.List.FromFn.{get_or-map-range_with_len, length-map-range_with_len}
use Rattle.rs01_lists.specs.Bytes.{part}
use Rattle.rs01_sums.specs.Marker.{marker}
use Rattle.rs01_outside.specs.DriveView.{DriveView}
use Rattle.rs01_rack.specs.Rack.{RackState, views_of}
use Rattle.rs01_ecchead.specs.Erased.{Known, block_in, is_erased}
use Rattle.rs01_layers.specs.declared.extent.Extent.{Extent}
use Rattle.rs01_linear.specs.Asking.{Asking, ComesTo, ask_drives, kind_of, known_with}
use Rattle.rs01_linear.specs.Course.{Course, Manner, asked_for, asked_or_left, fate_of, pass, passed, read_to}
use Rattle.rs01_linear.specs.Left.{first_fate, first_fates, image_left, marked, marked_sector}
use Rattle.rs01_linear.specs.Marking.{is_left_out, place}
use Rattle.rs01_linear.specs.Standing.{Follows, Taken}
use Rattle.rs01_linear.specs.declared.asking.Asked.{Asked}
use Rattle.rs01_linear.specs.declared.asking.Asked.TheVariants as asked
use Rattle.rs01_linear.specs.declared.fate.Fate.{Fate}
use Rattle.rs01_linear.specs.declared.fate.Fate.TheVariants.{Kept, LeftOut}
use Rattle.rs01_linear.specs.declared.reading.Reading.{Reading}
use Rattle.rs01_linear.proofs.CourseLemmas.{left_part, length-fates, to_next}
use Rattle.rs01_linear.proofs.LaidLemmas.{Sized, width, width_le}
use Rattle.rs01_linear.proofs.MarkLemmas.{left_out_is, marked_fills, marked_one}

-- by the course that the next sector leads to
pub follows_next : (known : Known) (manner : Manner) (y : List ℕ) (views : List DriveView) (s : ℕ) (rack : RackState) (reading : Reading) (next : Course)
    → pass known manner y s (read_to known manner y views s) ≡ next
    → views_of rack ≡ next.views → reading.next ≡ next.next → reading.fates.items ≡ next.fates ++ drop (s + 1) (first_fates known y)
    → Follows known manner y views (s + 1) rack reading
follows_next known manner y views s rack reading next is one two three =
    let e : read_to known manner y views (s + 1) ≡ next = ap (read_to known manner y views) (add-one s) ∙ to_next known manner y views s ∙ is in
    record {
      views_are = one ∙ sym (ap (λ (c : Course). c.views) e);
      next_is = two ∙ sym (ap (λ (c : Course). c.next) e);
      fates_are = three ∙ sym (ap (λ (c : Course). c.fates ++ drop (s + 1) (first_fates known y)) e);
    }

-- a list from a place on
drop_at : (xs : List Fate) (s : ℕ) (d : Fate) → s < length xs → drop s xs ≡ get_or xs s d ∷ drop (s + 1) xs
drop_at [] s d low = absurd (omega (arith, low))
drop_at (x ∷ xs) zero d low = refl
drop_at (x ∷ xs) (suc s) d low = drop_at xs s d (omega (arith, low)) ∙ ap (λ n. get_or xs s d ∷ drop n (x ∷ xs)) (let e : suc (s + 1) ≡ suc s + 1 = omega arith in e)

fates_from : (known : Known) (y : List ℕ) (s : ℕ) → s < known.sectors → drop s (first_fates known y) ≡ first_fate known y s ∷ drop (s + 1) (first_fates known y)
fates_from known y s below =
    drop_at (first_fates known y) s LeftOut (omega (arith, below, length-map-range_with_len (first_fate known y) 0 known.sectors))
    ∙ ap (λ f. f ∷ drop (s + 1) (first_fates known y)) (get_or-map-range_with_len (first_fate known y) 0 known.sectors s s LeftOut below (let e : 0 + s ≡ s = omega arith in e))

-- a sector's fate that stays as it was
fates_stay : (known : Known) (y : List ℕ) (s : ℕ) (fate : Fate) (before fates : List Fate) → s < known.sectors → first_fate known y s ≡ fate
    → fates ≡ before ++ drop s (first_fates known y) → fates ≡ (before ++ fate ∷ []) ++ drop (s + 1) (first_fates known y)
fates_stay known y s fate before fates below is are =
    are ∙ ap (λ xs. before ++ xs) (fates_from known y s below ∙ ap (λ f. f ∷ drop (s + 1) (first_fates known y)) is)
    ∙ sym (append_assoc before (fate ∷ []) (drop (s + 1) (first_fates known y)))

-- and one that is put in its place
set_behind : (before rest : List Fate) (s : ℕ) (old fate : Fate) → length before ≡ s → set (before ++ old ∷ rest) s fate ≡ before ++ fate ∷ rest
set_behind [] rest zero old fate long = refl
set_behind [] rest (suc s) old fate long = absurd (omega (arith, long))
set_behind (x ∷ before) rest zero old fate long = absurd (omega (arith, long))
set_behind (x ∷ before) rest (suc s) old fate long = ap (λ xs. x ∷ xs) (set_behind before rest s old fate (omega (arith, long)))

fates_put : (known : Known) (y : List ℕ) (s : ℕ) (fate : Fate) (before fates new : List Fate) → s < known.sectors → length before ≡ s
    → fates ≡ before ++ drop s (first_fates known y) → new ≡ set fates s fate → new ≡ (before ++ fate ∷ []) ++ drop (s + 1) (first_fates known y)
fates_put known y s fate before fates new below long are put =
    put ∙ ap (λ xs. set xs s fate) (are ∙ ap (λ xs. before ++ xs) (fates_from known y s below))
    ∙ set_behind before (drop (s + 1) (first_fates known y)) s (first_fate known y s) fate long
    ∙ sym (append_assoc before (fate ∷ []) (drop (s + 1) (first_fates known y)))

-- the bytes of a sector that stays marked, or is kept
piece_stays : (known : Known) (manner : Manner) (y : List ℕ) (views : List DriveView) (s : ℕ) (block : List ℕ) (next : Course) → Sized known → s < known.sectors
    → pass known manner y s (read_to known manner y views s) ≡ next → next.image ≡ (read_to known manner y views s).image ++ take (width known s) block
    → take (width known s) block ≡ marked_sector known y s → length (marked_sector known y s) ≡ width known s
    → part (image_left known manner y views) (place known s) (width known s) ≡ part (marked known y) (place known s) (width known s)
piece_stays known manner y views s block next sized below is image same wide =
    left_part known manner y views s (take (width known s) block) sized below (ap (λ (c : Course). c.image) is ∙ image) (ap length same ∙ wide)
    ∙ same ∙ sym (marked_one known y s sized below)

-- whether the next sector is erased, by its fate
pub erased_here : (known : Known) (y : List ℕ) (s : ℕ) (fate : Fate) (b : Bool) (before fates : List Fate) → s < known.sectors → length before ≡ s
    → fates ≡ before ++ drop s (first_fates known y) → fate ≡ get_or fates s fate → is_left_out fate ≡ b → is_erased known y s ≡ b
erased_here known y s fate b before fates below long are here is =
    let e : fate ≡ first_fate known y s =
    here ∙ ap (λ (xs : List Fate). get_or xs s fate) (are ∙ ap (λ xs. before ++ xs) (fates_from known y s below))
    ∙ get_or-append_right before (first_fate known y s ∷ drop (s + 1) (first_fates known y)) s s fate long (omega arith)
    ∙ ap (λ k. get_or (first_fate known y s ∷ drop (s + 1) (first_fates known y)) k fate) (let z : s - s ≡ 0 = omega arith in z) in
    sym (left_out_is (is_erased known y s)) ∙ ap is_left_out (sym e) ∙ is

-- what passing comes to, by what is known of the sector
pass_kept : (known : Known) (manner : Manner) (y : List ℕ) (s : ℕ) (course : Course) → is_erased known y s ≡ false
    → pass known manner y s course ≡ passed known s Kept (block_in known y s) course
pass_kept known manner y s course good = ap (λ b. cond b (asked_or_left known manner s course) (passed known s Kept (block_in known y s) course)) good

pass_left : (known : Known) (manner : Manner) (y : List ℕ) (s : ℕ) (course : Course) → is_erased known y s ≡ true → s < course.next
    → pass known manner y s course ≡ passed known s LeftOut (marker s) course
pass_left known manner y s course bad early =
    ap (λ b. cond b (asked_or_left known manner s course) (passed known s Kept (block_in known y s) course)) bad
    ∙ ap (λ b. cond b (passed known s LeftOut (marker s) course) (asked_for known manner s (ask_drives known s manner.tries course.views) course)) (lt-ltb s course.next early)

pass_asked : (known : Known) (manner : Manner) (y : List ℕ) (s : ℕ) (course : Course) → is_erased known y s ≡ true → course.next ≤ s
    → pass known manner y s course ≡ asked_for known manner s (ask_drives known s manner.tries course.views) course
pass_asked known manner y s course bad late =
    ap (λ b. cond b (asked_or_left known manner s course) (passed known s Kept (block_in known y s) course)) bad
    ∙ ap (λ b. cond b (passed known s LeftOut (marker s) course) (asked_for known manner s (ask_drives known s manner.tries course.views) course)) (le-ltb s course.next late)

marked_wide : (known : Known) (y : List ℕ) (s : ℕ) → Sized known → s < known.sectors → length (marked_sector known y s) ≡ width known s
marked_wide known y s sized below = marked_fills known y sized s below

-- a good sector
pub taken_kept : (known : Known) (manner : Manner) (y : List ℕ) (views : List DriveView) (s : ℕ) (rack : RackState) (reading : Reading) (fate : Fate) (block : List ℕ)
    → Sized known → s < known.sectors → fate ≡ get_or reading.fates.items s fate → is_left_out fate ≡ false
    → Follows known manner y views s rack reading → Taken known manner y views s rack reading block false
taken_kept known manner y views s rack reading fate block sized below here kept st =
    let course = read_to known manner y views s in
    let good = erased_here known y s fate false course.fates reading.fates.items below (length-fates known manner y views s sized) st.fates_are here kept in
    let is = pass_kept known manner y s course good in
    let same : take (width known s) (block_in known y s) ≡ marked_sector known y s =
    ap (λ b. take (width known s) (cond b (marker s) (block_in known y s))) (sym good) in
    record {
      follows =
          follows_next known manner y views s rack reading (passed known s Kept (block_in known y s) course) is st.views_are st.next_is
          (fates_stay known y s Kept course.fates reading.fates.items below (ap (λ b. cond b LeftOut Kept) good) st.fates_are);
      gives = piece_stays known manner y views s (block_in known y s) (passed known s Kept (block_in known y s) course) sized below is refl same (marked_wide known y s sized below);
    }

-- one that is left out
pub taken_left : (known : Known) (manner : Manner) (y : List ℕ) (views : List DriveView) (s : ℕ) (rack : RackState) (reading : Reading) (fate : Fate) (block : List ℕ)
    → Sized known → s < known.sectors → fate ≡ get_or reading.fates.items s fate → is_left_out fate ≡ true → s < reading.next
    → Follows known manner y views s rack reading → Taken known manner y views s rack reading block false
taken_left known manner y views s rack reading fate block sized below here left early st =
    let course = read_to known manner y views s in
    let bad = erased_here known y s fate true course.fates reading.fates.items below (length-fates known manner y views s sized) st.fates_are here left in
    let is = pass_left known manner y s course bad (omega (arith, early, st.next_is)) in
    let same : take (width known s) (marker s) ≡ marked_sector known y s =
    ap (λ b. take (width known s) (cond b (marker s) (block_in known y s))) (sym bad) in
    record {
      follows =
          follows_next known manner y views s rack reading (passed known s LeftOut (marker s) course) is st.views_are st.next_is
          (fates_stay known y s LeftOut course.fates reading.fates.items below (ap (λ b. cond b LeftOut Kept) bad) st.fates_are);
      gives = piece_stays known manner y views s (marker s) (passed known s LeftOut (marker s) course) sized below is refl same (marked_wide known y s sized below);
    }

not_read : (read : Option (List ℕ)) (answered : Bool) (kind : Asked) → kind ≡ cond (is_some read) asked.Read (cond answered asked.Altered asked.Unreadable) → (kind ≡ asked.Read → ⊥) → read ≡ None
not_read None answered kind is ne = refl
not_read (Some block) answered kind is ne = absurd (ne is)

-- what the drives were asked comes to what the course has
asked_so : (known : Known) (s tries : ℕ) (course : Course) (rack : RackState) → views_of rack ≡ course.views → ask_drives known s tries (views_of rack) ≡ ask_drives known s tries course.views
asked_so known s tries course rack same = ap (ask_drives known s tries) same

-- the asking of a sector beside a course, and the course behind it
abbrev asking_of : Known → Manner → ℕ → Course → Asking
asking_of known manner s course = ask_drives known s manner.tries course.views

abbrev asked_course : Known → Manner → ℕ → Course → Course
asked_course known manner s course = asked_for known manner s (asking_of known manner s course) course

-- a sector that was asked for: its answer is the course's, and so is what follows, by where asking goes on
record IsAsked (known : Known) (manner : Manner) (y : List ℕ) (views : List DriveView) (s : ℕ) (rack' : RackState) (reading' : Reading) (kind : Asked) : Type 0 where
  bad : is_erased known y s ≡ true
  is : pass known manner y s (read_to known manner y views s) ≡ asked_course known manner s (read_to known manner y views s)
  answer : kind ≡ kind_of (asking_of known manner s (read_to known manner y views s))
  goes_on : reading'.next ≡ (asked_course known manner s (read_to known manner y views s)).next → Follows known manner y views (s + 1) rack' reading'

is_asked : (known : Known) (manner : Manner) (y : List ℕ) (views : List DriveView) (s : ℕ) (rack rack' : RackState) (reading reading' : Reading) (fate : Fate) (kind : Asked)
    (block : List ℕ) → Sized known → s < known.sectors → fate ≡ get_or reading.fates.items s fate → is_left_out fate ≡ true → reading.next ≤ s
    → ComesTo (ask_drives known s manner.tries (views_of rack)) block kind (views_of rack') → reading'.fates.items ≡ set reading.fates.items s (fate_of kind)
    → Follows known manner y views s rack reading → IsAsked known manner y views s rack' reading' kind
is_asked known manner y views s rack rack' reading reading' fate kind block sized below here left late comes put st =
    let course = read_to known manner y views s in
    let so = asked_so known s manner.tries course rack st.views_are in
    let long = length-fates known manner y views s sized in
    let bad = erased_here known y s fate true course.fates reading.fates.items below long st.fates_are here left in
    let is = pass_asked known manner y s course bad (omega (arith, late, st.next_is)) in
    let answer : kind ≡ kind_of (asking_of known manner s course) = comes.answer ∙ ap kind_of so in
    record {
      bad = bad;
      is = is;
      answer = answer;
      goes_on = λ next.
          follows_next known manner y views s rack' reading' (asked_course known manner s course) is (comes.views_are ∙ ap (λ (a : Asking). a.views) so) next
          (fates_put known y s (fate_of (kind_of (asking_of known manner s course))) course.fates reading.fates.items reading'.fates.items below long st.fates_are
          (put ∙ ap (λ k. set reading.fates.items s (fate_of k)) answer));
    }

-- one that was asked for in vain
pub taken_vain : (known : Known) (manner : Manner) (y : List ℕ) (views : List DriveView) (s : ℕ) (rack rack' : RackState) (reading reading' : Reading)
    (fate : Fate) (kind : Asked) (block : List ℕ)
    → Sized known → s < known.sectors → fate ≡ get_or reading.fates.items s fate → is_left_out fate ≡ true → reading.next ≤ s
    → ComesTo (ask_drives known s manner.tries (views_of rack)) block kind (views_of rack') → (kind ≡ asked.Read → ⊥)
    → reading'.fates.items ≡ set reading.fates.items s (fate_of kind) → reading'.next ≡ s + manner.jump
    → Follows known manner y views s rack reading → Taken known manner y views s rack' reading' block false
taken_vain known manner y views s rack rack' reading reading' fate kind block sized below here left late comes vain put next st =
    let course = read_to known manner y views s in
    let asking = asking_of known manner s course in
    let found = is_asked known manner y views s rack rack' reading reading' fate kind block sized below here left late comes put st in
    let none : asking.read ≡ None = not_read asking.read asking.answered kind found.answer vain in
    let same : take (width known s) (unwrap_or asking.read (marker s)) ≡ marked_sector known y s =
    ap (λ (o : Option (List ℕ)). take (width known s) (unwrap_or o (marker s))) none
    ∙ ap (λ b. take (width known s) (cond b (marker s) (block_in known y s))) (sym found.bad) in
    record {
      follows = found.goes_on (next ∙ sym (ap (λ (o : Option (List ℕ)). cond (is_some o) course.next (s + manner.jump)) none));
      gives =
          piece_stays known manner y views s (unwrap_or asking.read (marker s)) (asked_course known manner s course) sized below found.is refl same
          (marked_wide known y s sized below);
    }

-- what is left has the block that was read
read_part : (known : Known) (manner : Manner) (y : List ℕ) (views : List DriveView) (s : ℕ) (asking : Asking) (block : List ℕ) → Sized known → s < known.sectors
    → pass known manner y s (read_to known manner y views s) ≡ asked_for known manner s asking (read_to known manner y views s)
    → asking.read ≡ Some block → length block ≡ 2048
    → take (width known s) block ≡ part (image_left known manner y views) (place known s) (width known s)
read_part known manner y views s asking block sized below is some whole =
    sym (left_part known manner y views s (take (width known s) block) sized below
    (ap (λ (c : Course). c.image) is ∙ ap (λ (o : Option (List ℕ)). (read_to known manner y views s).image ++ take (width known s) (unwrap_or o (marker s))) some)
    (length-take-le (width known s) block (omega (arith, whole, width_le known s sized))))

-- one that was read
pub taken_read : (known : Known) (manner : Manner) (y : List ℕ) (views : List DriveView) (s : ℕ) (rack rack' : RackState) (reading reading' : Reading)
    (fate : Fate) (kind : Asked) (block : List ℕ)
    → Sized known → s < known.sectors → fate ≡ get_or reading.fates.items s fate → is_left_out fate ≡ true → reading.next ≤ s
    → ComesTo (ask_drives known s manner.tries (views_of rack)) block kind (views_of rack') → kind ≡ asked.Read → length block ≡ 2048
    → reading'.fates.items ≡ set reading.fates.items s (fate_of kind) → reading'.next ≡ reading.next
    → Follows known manner y views s rack reading → Taken known manner y views s rack' reading' block true
taken_read known manner y views s rack rack' reading reading' fate kind block sized below here left late comes read whole put next st =
    let course = read_to known manner y views s in
    let asking = asking_of known manner s course in
    let so = asked_so known s manner.tries course rack st.views_are in
    let found = is_asked known manner y views s rack rack' reading reading' fate kind block sized below here left late comes put st in
    let some : asking.read ≡ Some block = sym (ap (λ (a : Asking). a.read) so) ∙ comes.block_is read in
    record {
      follows = found.goes_on (next ∙ st.next_is ∙ sym (ap (λ (o : Option (List ℕ)). cond (is_some o) course.next (s + manner.jump)) some));
      gives = sym (read_part known manner y views s asking block sized below found.is some whole);
    }

-- the same asking, by checksums that are the same
pub comes_with : (extent : Extent) (one other : Option (List ℕ)) (s tries : ℕ) (before : List DriveView) (block : List ℕ) (kind : Asked) (after : List DriveView) → one ≡ other
    → ComesTo (ask_drives (known_with extent one) s tries before) block kind after → ComesTo (ask_drives (known_with extent other) s tries before) block kind after
comes_with extent one other s tries before block kind after same comes =
    subst (λ (sums : Option (List ℕ)). ComesTo (ask_drives (known_with extent sums) s tries before) block kind after) same comes
