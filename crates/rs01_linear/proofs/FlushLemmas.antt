-- The run of sectors that were read, and how it is written.
use Rattle.std.proofs.Common.{◌≡◌, ℕ, ◌+◌, ◌-◌, ◌*◌, ◌<◌, ◌≤◌, ◌∙◌, ap, arith, sym, subst, true, false, Some, List, [], ◌++◌, length, take, drop, ⊎_elim, inl, inr}
use Rattle.std.specs.Prelude.{Bool, IsSomeAnd, Option, Ok, Err}
use Rattle.std.proofs.Math.Seq.{take-add}
use Rattle.std.proofs.lemmas.Bool.{cases_lt}
use Rattle.std.proofs.lemmas.List.{drop-drop, length-append, length-take-le}
use Rattle.rs01_lists.specs.Bytes.{part}
use Rattle.rs01_outside.specs.DriveView.{DriveView}
use Rattle.rs01_outside.specs.Files.{Files}
use Rattle.rs01_ecchead.specs.Erased.{Known, is_erased}
use Rattle.rs01_linear.specs.Course.{Manner}
use Rattle.rs01_linear.specs.Left.{image_left, marked, mixed}
use Rattle.rs01_linear.specs.Marking.{IsMixed, place}
use Rattle.rs01_linear.specs.Spared.{AsksBad, GuardsRun, Spares}
use Rattle.rs01_linear.specs.Standing.{Gives, HasRun, PutsRun, Runs, TakesBad}
use Rattle.rs01_linear.specs.declared.reading.Reading.{Reading}
use Rattle.rs01_linear.specs.declared.refusal.ReadRefusal.{ReadRefusal}
use Rattle.rs01_linear.proofs.CourseLemmas.{left_long}
use Rattle.rs01_linear.proofs.LaidLemmas.{Sized, place_more, place_of, place_order, place_within, width, width_le}
use Rattle.rs01_linear.proofs.MixedLemmas.{extend, extend_failed, same_mixed}

-- the run was written
pub run_written : (known : Known) (manner : Manner) (y : List ℕ) (views : List DriveView) (past : ℕ) (reading : Reading) (old new : Files) (name : List ℕ) (u : Unit {0}) → Sized known
    → past ≤ known.sectors → HasRun known past reading → Runs known manner y views past reading (old name) → PutsRun old new name past reading (Ok u)
    → new name ≡ Some (mixed (place known past) (image_left known manner y views) (marked known y))
run_written known manner y views past reading old new name u sized within has runs (inl same) =
    ap (λ (f : Files). f name) same.1 ∙ runs.file_is
    ∙ ap (λ k. Some (mixed (place known k) (image_left known manner y views) (marked known y))) (let e : reading.first ≡ past = omega (arith, same.0, has.order) in e)
run_written known manner y views past reading old new name u sized within has runs (inr put) =
    let order = place_order known reading.first past has.order in
    extend old new name (image_left known manner y views) (marked known y) reading.bytes.items (place known reading.first) (place known past - place known reading.first) (2048 * reading.first)
    (omega (arith, left_long known manner y views sized, order, place_within known past))
    (sym (place_of known reading.first sized (omega (arith, put.0, within)))) runs.run_is runs.file_is put.1
    ∙ ap (λ n. Some (mixed n (image_left known manner y views) (marked known y)))
    (let e : place known reading.first + (place known past - place known reading.first) ≡ place known past = omega (arith, order) in e)

-- its writing failed
pub run_failed : (known : Known) (manner : Manner) (y : List ℕ) (views : List DriveView) (past : ℕ) (reading : Reading) (old new : Files) (name : List ℕ) (e : ReadRefusal) → Sized known
    → past ≤ known.sectors → HasRun known past reading → Runs known manner y views past reading (old name) → PutsRun old new name past reading (Err e)
    → IsMixed (image_left known manner y views) (marked known y) (new name)
run_failed known manner y views past reading old new name e sized within has runs (inl same) =
    (place known reading.first, ap (λ (f : Files). f name) same.1 ∙ runs.file_is)
run_failed known manner y views past reading old new name e sized within has runs (inr put) =
    extend_failed old new name (image_left known manner y views) (marked known y) reading.bytes.items (place known reading.first) (place known past - place known reading.first) (2048 * reading.first) e
    (omega (arith, left_long known manner y views sized, place_order known reading.first past has.order, place_within known past))
    (sym (place_of known reading.first sized (omega (arith, put.0, within)))) runs.run_is runs.file_is put.1

-- the same run
pub has_same : (known : Known) (s : ℕ) (one two : Reading) → length two.fates.items ≡ length one.fates.items → two.first ≡ one.first → two.bytes.items ≡ one.bytes.items
    → HasRun known s one → HasRun known s two
has_same known s one two all first bytes has = record {
  all = all ∙ has.all;
  order = omega (arith, first, has.order);
  long = ap length bytes ∙ has.long ∙ ap (λ k. place known s - place known k) (sym first);
}

pub runs_same : (known : Known) (manner : Manner) (y : List ℕ) (views : List DriveView) (s : ℕ) (one two : Reading) (file : Option (List ℕ)) → two.first ≡ one.first → two.bytes.items ≡ one.bytes.items
    → Runs known manner y views s one file → Runs known manner y views s two file
runs_same known manner y views s one two file first bytes runs = record {
  file_is = runs.file_is ∙ ap (λ k. Some (mixed (place known k) (image_left known manner y views) (marked known y))) (sym first);
  run_is = bytes ∙ runs.run_is ∙ ap (λ k. part (image_left known manner y views) (place known k) (place known s - place known k)) (sym first);
}

pub guards_same : (known : Known) (y : List ℕ) (s : ℕ) (one two : Reading) (file : Option (List ℕ)) → two.first ≡ one.first → AsksBad known y two.fates.items
    → GuardsRun known y s one file → GuardsRun known y s two file
guards_same known y s one two file first bad guards = record {
  guards = record { file_is = guards.guards.file_is; erased = bad };
  run = λ k low high. guards.run k (omega (arith, low, first)) high;
}

-- an empty run
pub has_empty : (known : Known) (s : ℕ) (reading : Reading) → length reading.fates.items ≡ known.sectors → reading.first ≡ s → reading.bytes.items ≡ [] → HasRun known s reading
has_empty known s reading all first empty = record {
  all = all;
  order = omega (arith, first);
  long =
      let z : place known s - place known reading.first ≡ 0 = omega (arith, ap (place known) first) in
      ap length empty ∙ sym z;
}

pub runs_empty : (known : Known) (manner : Manner) (y : List ℕ) (views : List DriveView) (s : ℕ) (reading : Reading) (file : Option (List ℕ)) → reading.first ≡ s → reading.bytes.items ≡ []
    → file ≡ Some (mixed (place known s) (image_left known manner y views) (marked known y)) → Runs known manner y views s reading file
runs_empty known manner y views s reading file first empty is = record {
  file_is = is ∙ ap (λ k. Some (mixed (place known k) (image_left known manner y views) (marked known y))) (sym first);
  run_is =
      let z : place known s - place known reading.first ≡ 0 = omega (arith, ap (place known) first) in
      empty ∙ sym (ap (part (image_left known manner y views) (place known reading.first)) z);
}

pub guards_empty : (known : Known) (y : List ℕ) (s : ℕ) (reading : Reading) (file : Option (List ℕ)) → reading.first ≡ s → AsksBad known y reading.fates.items → IsSomeAnd file (Spares known y)
    → GuardsRun known y s reading file
guards_empty known y s reading file first bad spares = record {
  guards = record { file_is = spares; erased = bad };
  run = λ k low high. absurd (omega (arith, first, low, high));
}

-- a sector that wasn't read has the same bytes in both files
pub place_skipped : (known : Known) (manner : Manner) (y : List ℕ) (views : List DriveView) (s : ℕ) (block : List ℕ) (file : Option (List ℕ)) → Sized known → s < known.sectors → Gives known manner y views s block false
    → file ≡ Some (mixed (place known s) (image_left known manner y views) (marked known y)) → file ≡ Some (mixed (place known (s + 1)) (image_left known manner y views) (marked known y))
place_skipped known manner y views s block file sized below gives is =
    is ∙ ap Some (same_mixed (image_left known manner y views) (marked known y) (place known s) (width known s) gives
    ∙ ap (λ k. mixed k (image_left known manner y views) (marked known y)) (sym (place_more known s sized below)))

-- one that was read goes behind
pub has_more : (known : Known) (s : ℕ) (one two : Reading) (block : List ℕ) → Sized known → s < known.sectors → length block ≡ 2048 → length two.fates.items ≡ length one.fates.items
    → two.first ≡ one.first → two.bytes.items ≡ one.bytes.items ++ take (width known s) block → HasRun known s one → HasRun known (s + 1) two
has_more known s one two block sized below whole all first bytes has = record {
  all = all ∙ has.all;
  order = omega (arith, first, has.order);
  long =
      let wide = length-take-le (width known s) block (omega (arith, whole, width_le known s sized)) in
      let order = place_order known one.first s has.order in
      let e : length one.bytes.items + length (take (width known s) block) ≡ place known (s + 1) - place known one.first =
      omega (arith, wide, order, has.long, place_more known s sized below) in
      ap length bytes ∙ length-append one.bytes.items (take (width known s) block) ∙ e ∙ ap (λ k. place known (s + 1) - place known k) (sym first);
}

parts : (xs : List ℕ) (p n w : ℕ) → part xs p n ++ part xs (p + n) w ≡ part xs p (n + w)
parts xs p n w = sym (take-add n w (drop p xs) ∙ ap (λ ys. take n (drop p xs) ++ take w ys) (drop-drop n p xs))

pub runs_more : (known : Known) (manner : Manner) (y : List ℕ) (views : List DriveView) (s : ℕ) (one two : Reading) (block : List ℕ) (file : Option (List ℕ)) → Sized known → s < known.sectors
    → two.first ≡ one.first → two.bytes.items ≡ one.bytes.items ++ take (width known s) block → HasRun known s one → Gives known manner y views s block true
    → Runs known manner y views s one file → Runs known manner y views (s + 1) two file
runs_more known manner y views s one two block file sized below first bytes has gives runs =
    let left = image_left known manner y views in
    let order = place_order known one.first s has.order in
    let here : place known one.first + (place known s - place known one.first) ≡ place known s = omega (arith, order) in
    let more : (place known s - place known one.first) + width known s ≡ place known (s + 1) - place known one.first = omega (arith, order, place_more known s sized below) in
    record {
      file_is = runs.file_is ∙ ap (λ k. Some (mixed (place known k) left (marked known y))) (sym first);
      run_is =
          bytes
          ∙ (λ i. runs.run_is i ++ (sym gives ∙ ap (λ p. part left p (width known s)) (sym here)) i)
          ∙ parts left (place known one.first) (place known s - place known one.first) (width known s)
          ∙ ap (part left (place known one.first)) more
          ∙ ap (λ k. part left (place known k) (place known (s + 1) - place known k)) (sym first);
    }

pub guards_more : (known : Known) (y : List ℕ) (s : ℕ) (one two : Reading) (read : Bool) (file : Option (List ℕ)) → two.first ≡ one.first → TakesBad known y s two.fates.items read → read ≡ true
    → GuardsRun known y s one file → GuardsRun known y (s + 1) two file
guards_more known y s one two read file first bad is guards = record {
  guards = record { file_is = guards.guards.file_is; erased = bad.later };
  run = λ k low high.
      ⊎_elim
      (λ (before : k < s). guards.run k (omega (arith, low, first)) before)
      (λ (past : s ≤ k). subst (λ n. is_erased known y n ≡ true) (let e : s ≡ k = omega (arith, past, high) in e) (bad.here is))
      (cases_lt k s);
}
