-- From an image file that is ready to what is left at the end.
use Rattle.std.proofs.Common.{◌≡◌, ℕ, ◌-◌, ◌∙◌, ap, arith, sym, refl, List, [], ◌++◌, length, take, drop, append-nil, inl, inr}
use Rattle.std.specs.Prelude.{Option, Some, Result, Err}
use Rattle.std.specs.List.{flat_map, range_with_len}
use Rattle.std.specs.Option.{unwrap_or}
use Rattle.std.proofs.Math.Seq.{take-append_seam, drop-append_seam}
use Rattle.std.proofs.lemmas.List.{drop_all}
use Rattle.std.proofs.lemmas.List.FromFn.{length-map-range_with_len}
use Rattle.rs01_lists.specs.Bytes.{part}
use Rattle.rs01_outside.specs.DriveView.{DriveView}
use Rattle.rs01_rack.specs.Rack.{RackState, views_of}
use Rattle.rs01_ecchead.specs.Erased.{Known, image_len}
use Rattle.rs01_report.specs.declared.reports.ReadReport.{ReadReport}
use Rattle.rs01_linear.specs.Course.{Manner, read_to, whole_reading}
use Rattle.rs01_linear.specs.Left.{first_fate, first_fates, image_left, marked, marked_sector, mixed}
use Rattle.rs01_linear.specs.Linear.{IsPrepared, ReadsPrepared}
use Rattle.rs01_linear.specs.Marking.{place}
use Rattle.rs01_linear.specs.Outcome.{IsReadInto, asked_since}
use Rattle.rs01_linear.specs.Report.{report_of}
use Rattle.rs01_linear.specs.Standing.{Halted, Passed, Stands}
use Rattle.rs01_linear.specs.declared.fate.Fate.{Fate}
use Rattle.rs01_linear.specs.declared.prepared.Prepared.{Prepared}
use Rattle.rs01_linear.specs.declared.reading.Reading.{Reading}
use Rattle.rs01_linear.specs.declared.refusal.ReadRefusal.{ReadRefusal}
use Rattle.rs01_linear.proofs.CourseLemmas.{length-passed}
use Rattle.rs01_linear.proofs.LaidLemmas.{Sized, length-front, place_end}
use Rattle.rs01_linear.proofs.MarkLemmas.{marked_fills}

mixed_seam : (front rest other : List ℕ) (m : ℕ) → length front ≡ m → mixed m (front ++ rest) other ≡ front ++ drop m other
mixed_seam front rest other m long = ap (λ k. take k (front ++ rest) ++ drop m other) (sym long) ∙ ap (λ xs. xs ++ drop m other) (take-append_seam front rest)

drop_seam : (front rest : List ℕ) (m : ℕ) → length front ≡ m → drop m (front ++ rest) ≡ rest
drop_seam front rest m long = ap (λ k. drop k (front ++ rest)) (sym long) ∙ drop-append_seam front rest

pub front_long : (known : Known) (y : List ℕ) → Sized known → length (flat_map (marked_sector known y) (range_with_len 0 known.sectors)) ≡ image_len known
front_long known y sized = length-front known (marked_sector known y) known.sectors sized (marked_fills known y sized) (omega arith) ∙ place_end known sized

-- once all sectors are marked, the file is the marked one
marked_whole : (known : Known) (y : List ℕ) → Sized known → mixed (place known known.sectors) (marked known y) y ≡ marked known y
unfolding marked
marked_whole known y sized =
    ap (λ k. mixed k (flat_map (marked_sector known y) (range_with_len 0 known.sectors) ++ drop (image_len known) y) y) (place_end known sized)
    ∙ mixed_seam (flat_map (marked_sector known y) (range_with_len 0 known.sectors)) (drop (image_len known) y) y (image_len known) (front_long known y sized)

-- once all sectors were passed, it is the one that is left
left_whole : (known : Known) (manner : Manner) (y : List ℕ) (views : List DriveView) → Sized known
    → mixed (place known known.sectors) (image_left known manner y views) (marked known y) ≡ image_left known manner y views
unfolding marked image_left
left_whole known manner y views sized =
    let front = (read_to known manner y views known.sectors).image in
    let rest = drop (image_len known) y in
    ap (λ k. mixed k (front ++ rest) (flat_map (marked_sector known y) (range_with_len 0 known.sectors) ++ rest)) (place_end known sized)
    ∙ mixed_seam front rest (flat_map (marked_sector known y) (range_with_len 0 known.sectors) ++ rest) (image_len known)
    (length-passed known manner y views known.sectors sized (omega arith) ∙ place_end known sized)
    ∙ ap (λ xs. front ++ xs) (drop_seam (flat_map (marked_sector known y) (range_with_len 0 known.sectors)) rest (image_len known) (front_long known y sized))

-- where nothing was asked for yet
pub stands_start : (known : Known) (manner : Manner) (before file : Option (List ℕ)) (rack : RackState) (prepared : Prepared) (reading : Reading) → Sized known
    → reading.next ≡ 0 → reading.fates.items ≡ prepared.fates.items → IsPrepared known before file prepared
    → reading.first ≡ 0 → reading.bytes.items ≡ [] → Stands known manner (unwrap_or before []) (views_of rack) 0 rack reading file
unfolding read_to
stands_start known manner before file rack prepared reading sized none same ready first empty =
    let y = unwrap_or before [] in
    let zero_place : place known 0 ≡ 0 = omega arith in
    let no_bytes : place known 0 - place known reading.first ≡ 0 = omega arith in
    record {
      follows = record { views_are = refl; next_is = none; fates_are = same ∙ ready.fates_are };
      runs = record {
        file_is =
            ready.file_is ∙ ap Some (marked_whole known y sized)
            ∙ ap (λ k. Some (mixed k (image_left known manner y (views_of rack)) (marked known y))) (sym (ap (place known) first ∙ zero_place));
        run_is = empty ∙ sym (ap (part (image_left known manner y (views_of rack)) (place known reading.first)) no_bytes);
      };
    }

-- where all was asked for
fates_whole : (known : Known) (manner : Manner) (y : List ℕ) (views : List DriveView) (fates : List Fate)
    → fates ≡ (read_to known manner y views known.sectors).fates ++ drop known.sectors (first_fates known y) → fates ≡ (whole_reading known manner y views).fates
fates_whole known manner y views fates are =
    are ∙ ap (λ xs. (read_to known manner y views known.sectors).fates ++ xs)
    (drop_all known.sectors (first_fates known y) (omega (arith, length-map-range_with_len (first_fate known y) 0 known.sectors)))
    ∙ append-nil (read_to known manner y views known.sectors).fates

pub read_whole : (known : Known) (manner : Manner) (before file : Option (List ℕ)) (old new : RackState) (reading : Reading) (prepared : Prepared) (told : ReadReport) (asked surplus : ℕ) → Sized known
    → Passed known manner (unwrap_or before []) (views_of old) new reading file
    → told ≡ report_of reading.fates.items asked surplus → asked ≡ asked_since old new → prepared.size ≡ length (unwrap_or before []) → surplus ≡ prepared.size - image_len known
    → IsReadInto known manner (unwrap_or before []) old new file told
read_whole known manner before file old new reading prepared told asked surplus sized st is asks size rest =
    let y = unwrap_or before [] in
    record {
      file_is = st.file_is ∙ ap Some (left_whole known manner y (views_of old) sized);
      views_are = st.views_are;
      told_is =
          is ∙ (λ i. report_of (fates_whole known manner y (views_of old) reading.fates.items st.fates_are i) (asks i) ((rest ∙ ap (λ k. k - image_len known) size) i));
    }

pub left_halted : (known : Known) (manner : Manner) (before file : Option (List ℕ)) (old new : RackState) (result : Result ReadReport ReadRefusal) (why : ReadRefusal) → result ≡ Err why
    → Halted known manner (unwrap_or before []) (views_of old) new file → ReadsPrepared known manner before old new file result
left_halted known manner before file old new result why is halted = rw is (record {
  passed = halted.passed;
  inside = halted.inside;
  views_are = halted.views_are;
  file_is = inr halted.file_is;
})

pub left_lacking : (known : Known) (manner : Manner) (before file : Option (List ℕ)) (old new : RackState) (reading : Reading) (result : Result ReadReport ReadRefusal) (why : ReadRefusal) → result ≡ Err why
    → Passed known manner (unwrap_or before []) (views_of old) new reading file → ReadsPrepared known manner before old new file result
left_lacking known manner before file old new reading result why is st = rw is (record {
  passed = known.sectors;
  inside = omega arith;
  views_are = st.views_are;
  file_is = inr (place known known.sectors, st.file_is);
})

-- want of memory before anything was asked for
pub left_unread : (known : Known) (manner : Manner) (before file : Option (List ℕ)) (rack : RackState) (prepared : Prepared) (result : Result ReadReport ReadRefusal) (why : ReadRefusal) → Sized known → result ≡ Err why
    → IsPrepared known before file prepared → ReadsPrepared known manner before rack rack file result
unfolding read_to
left_unread known manner before file rack prepared result why sized is ready = rw is (record {
  passed = 0;
  inside = omega arith;
  views_are = refl;
  file_is = inl (refl, inr (place known known.sectors, ready.file_is));
})
