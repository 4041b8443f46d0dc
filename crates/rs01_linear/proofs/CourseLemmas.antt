-- What each sector that is passed adds to a reading.
use Rattle.std.proofs.Common.{◌≡◌, ℕ, zero, suc, ◌+◌, ◌-◌, ◌<◌, ◌≤◌, ◌∙◌, ap, arith, sym, refl, subst, Bool, true, false, cond, List, [], ◌∷◌, ◌++◌, length, take, drop, append_assoc, append-nil}
use Rattle.std.specs.Prelude.{Some, None, nat_lt}
use Rattle.std.specs.Option.{option_map, unwrap_or}
use Rattle.std.proofs.lemmas.List.{length-append, length-take-le, length-take}
use Rattle.rs01_layers.proofs.BlockLemmas.{length-block}
use Rattle.rs01_lists.specs.Bytes.{part}
use Rattle.rs01_lists.proofs.Padding.{length-padded}
use Rattle.rs01_lists.proofs.Parts.{first, skip}
use Rattle.rs01_sums.specs.Marker.{marker}
use Rattle.rs01_sums.proofs.MarkerLemmas.{length-marker}
use Rattle.rs01_outside.specs.DriveView.{Answer, DriveView}
use Rattle.rs01_rack.specs.Asking.{Tried, try_drive}
use Rattle.rs01_ecchead.specs.Erased.{Known, block_in, image_len, is_erased}
use Rattle.rs01_linear.specs.Asking.{Asking, after_vain, as_block, ask_drives, is_good, kind_of}
use Rattle.rs01_linear.specs.Course.{Course, Manner, asked_for, asked_or_left, fate_of, pass, passed, read_to}
use Rattle.rs01_linear.specs.Left.{image_left}
use Rattle.rs01_linear.specs.Marking.{place}
use Rattle.rs01_linear.specs.declared.fate.Fate.{Fate}
use Rattle.rs01_linear.specs.declared.fate.Fate.TheVariants.{Kept, LeftOut}
use Rattle.rs01_linear.proofs.LaidLemmas.{Sized, place_end, place_more, width, width_le}

-- the block that is read is a whole one, and so is the marker that stands where none is
whole_answer : (known : Known) (s : ℕ) (answer : Answer) → Sized known → length (unwrap_or (option_map (as_block known s) answer) (marker s)) ≡ 2048
whole_answer known s None sized = length-marker s
whole_answer known s (Some bytes) sized =
    length-padded 2048 (take (width known s) bytes) (omega (arith, length-take (width known s) bytes, width_le known s sized))

whole_choice : (known : Known) (s : ℕ) (good : Bool) (tried : Tried) (views : List DriveView) (rest : Asking) → Sized known
    → length (unwrap_or rest.read (marker s)) ≡ 2048
    → length (unwrap_or (cond good (record { views = tried.view ∷ views; read = option_map (as_block known s) tried.block; answered = true }) (after_vain tried rest)).read (marker s)) ≡ 2048
whole_choice known s true tried views rest sized later = whole_answer known s tried.block sized
whole_choice known s false tried views rest sized later = later

pub whole_read : (known : Known) (s tries : ℕ) (views : List DriveView) → Sized known → length (unwrap_or (ask_drives known s tries views).read (marker s)) ≡ 2048
unfolding ask_drives
whole_read known s tries [] sized = length-marker s
whole_read known s tries (view ∷ views) sized =
    whole_choice known s (is_good known s (try_drive view s tries).block) (try_drive view s tries) views (ask_drives known s tries views) sized (whole_read known s tries views sized)

-- one course is another with the bytes of a sector behind
pub record Adds (known : Known) (s : ℕ) (before after : Course) : Type 0 where
  pub block : List ℕ
  pub whole : length block ≡ 2048
  pub image_is : after.image ≡ before.image ++ take (width known s) block
  pub fate : Fate
  pub fates_are : after.fates ≡ before.fates ++ fate ∷ []

adds_either : (known : Known) (s : ℕ) (b : Bool) (before one other : Course) → Adds known s before one → Adds known s before other → Adds known s before (cond b one other)
adds_either known s true before one other yes_ no_ = yes_
adds_either known s false before one other yes_ no_ = no_

pub pass_adds : (known : Known) (manner : Manner) (y : List ℕ) (s : ℕ) (course : Course) → Sized known → Adds known s course (pass known manner y s course)
pass_adds known manner y s course sized =
    adds_either known s (is_erased known y s) course (asked_or_left known manner s course) (passed known s Kept (block_in known y s) course)
    (adds_either known s (nat_lt s course.next) course (passed known s LeftOut (marker s) course) (asked_for known manner s (ask_drives known s manner.tries course.views) course)
    (record { block = marker s; whole = length-marker s; image_is = refl; fate = LeftOut; fates_are = refl })
    (record { block = unwrap_or (ask_drives known s manner.tries course.views).read (marker s); whole = whole_read known s manner.tries course.views sized; image_is = refl; fate = fate_of (kind_of (ask_drives known s manner.tries course.views)); fates_are = refl }))
    (record { block = block_in known y s; whole = length-block y s (width known s) (width_le known s sized); image_is = refl; fate = Kept; fates_are = refl })

pub to_next : (known : Known) (manner : Manner) (y : List ℕ) (views : List DriveView) (s : ℕ) → read_to known manner y views (suc s) ≡ pass known manner y s (read_to known manner y views s)
unfolding read_to
to_next known manner y views s = refl

next_adds : (known : Known) (manner : Manner) (y : List ℕ) (views : List DriveView) (s : ℕ) → Sized known
    → Adds known s (read_to known manner y views s) (read_to known manner y views (suc s))
next_adds known manner y views s sized =
    subst (Adds known s (read_to known manner y views s)) (sym (to_next known manner y views s)) (pass_adds known manner y s (read_to known manner y views s) sized)

-- the bytes of the sectors that were passed are as many as they have
pub length-passed : (known : Known) (manner : Manner) (y : List ℕ) (views : List DriveView) (s : ℕ) → Sized known → s ≤ known.sectors
    → length (read_to known manner y views s).image ≡ place known s
unfolding read_to
length-passed known manner y views zero sized below = omega arith
length-passed known manner y views (suc s) sized below =
    let adds = next_adds known manner y views s sized in
    let before = length-passed known manner y views s sized (omega (arith, below)) in
    let wide = length-take-le (width known s) adds.block (omega (arith, adds.whole, width_le known s sized)) in
    let next = place_more known s sized (omega (arith, below)) in
    let one : place known (suc s) ≡ place known (s + 1) = ap (place known) (let e : suc s ≡ s + 1 = omega arith in e) in
    omega (arith, ap length adds.image_is, length-append (read_to known manner y views s).image (take (width known s) adds.block), before, wide, next, one)

-- later bytes stand behind
pub grows : (known : Known) (manner : Manner) (y : List ℕ) (views : List DriveView) (s more : ℕ) → Sized known
    → (rest : List ℕ) × ((read_to known manner y views (s + more)).image ≡ (read_to known manner y views s).image ++ rest)
grows known manner y views s zero sized =
    ([], ap (λ n. (read_to known manner y views n).image) (let e : s + 0 ≡ s = omega arith in e) ∙ sym (append-nil (read_to known manner y views s).image))
grows known manner y views s (suc more) sized =
    let before = grows known manner y views s more sized in
    let adds = next_adds known manner y views (s + more) sized in
    let piece = take (width known (s + more)) adds.block in (
      before.0 ++ piece,
      ap (λ n. (read_to known manner y views n).image) (let e : s + suc more ≡ suc (s + more) = omega arith in e)
          ∙ adds.image_is ∙ ap (λ xs. xs ++ piece) before.1 ∙ append_assoc (read_to known manner y views s).image before.0 piece,
    )

-- what is left has these bytes at the sector's place
pub left_part : (known : Known) (manner : Manner) (y : List ℕ) (views : List DriveView) (s : ℕ) (piece : List ℕ) → Sized known → s < known.sectors
    → (pass known manner y s (read_to known manner y views s)).image ≡ (read_to known manner y views s).image ++ piece → length piece ≡ width known s
    → part (image_left known manner y views) (place known s) (width known s) ≡ piece
unfolding image_left
left_part known manner y views s piece sized below is wide =
    let front = (read_to known manner y views s).image in
    let later = grows known manner y views (suc s) (known.sectors - suc s) sized in
    let all : suc s + (known.sectors - suc s) ≡ known.sectors = omega (arith, below) in
    let rest = later.0 ++ drop (image_len known) y in
    let whole : image_left known manner y views ≡ front ++ (piece ++ rest) =
    ap (λ n. (read_to known manner y views n).image ++ drop (image_len known) y) (sym all)
    ∙ ap (λ xs. xs ++ drop (image_len known) y) (later.1 ∙ ap (λ xs. xs ++ later.0) (ap (λ (c : Course). c.image) (to_next known manner y views s) ∙ is))
    ∙ append_assoc (front ++ piece) later.0 (drop (image_len known) y)
    ∙ append_assoc front piece rest in
    let zero_more : place known s ≡ place known s + 0 = omega arith in
    ap (λ xs. part xs (place known s) (width known s)) whole
    ∙ ap (λ k. part (front ++ (piece ++ rest)) k (width known s)) zero_more
    ∙ skip front (piece ++ rest) (place known s) 0 (width known s) (length-passed known manner y views s sized (omega (arith, below)))
    ∙ first piece rest (width known s) wide

pub left_long : (known : Known) (manner : Manner) (y : List ℕ) (views : List DriveView) → Sized known → image_len known ≤ length (image_left known manner y views)
unfolding image_left
left_long known manner y views sized =
    omega (
      arith,
      length-passed known manner y views known.sectors sized (omega arith),
      place_end known sized,
      length-append (read_to known manner y views known.sectors).image (drop (image_len known) y),
    )

-- there is a fate for each sector that was passed
pub length-fates : (known : Known) (manner : Manner) (y : List ℕ) (views : List DriveView) (s : ℕ) → Sized known → length (read_to known manner y views s).fates ≡ s
unfolding read_to
length-fates known manner y views zero sized = refl
length-fates known manner y views (suc s) sized =
    let adds = next_adds known manner y views s sized in
    omega (arith, ap length adds.fates_are, length-append (read_to known manner y views s).fates (adds.fate ∷ []), length-fates known manner y views s sized)
