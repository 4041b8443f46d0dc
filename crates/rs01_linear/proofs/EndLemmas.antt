-- What a reading comes to, from what was found, and from what became of the image file.
use Rattle.std.proofs.Common.{◌≡◌, ℕ, ◌-◌, ◌^◌, ◌∙◌, ap, arith, sym, refl, subst, List, [], min, inl, inr, ◌⊎◌, length}
use Rattle.std.specs.Prelude.{Option, Some, Result, Ok, Err, IsOk, IsOkAnd, IsTrue}
use Rattle.std.specs.Option.{unwrap_or}
use Rattle.rs01_outside.specs.DriveView.{DriveView}
use Rattle.rs01_rack.specs.Rack.{RackState, views_of}
use Rattle.rs01_ecchead.specs.Erased.{Known, image_len}
use Rattle.rs01_report.specs.declared.reports.ReadReport.{ReadReport}
use Rattle.rs01_linear.specs.Course.{Manner, read_to, whole_reading}
use Rattle.rs01_linear.specs.Left.{image_left, marked}
use Rattle.rs01_linear.specs.Marking.{IsMixed}
use Rattle.rs01_linear.specs.Medium.{Found, IsMedium, found, known_of}
use Rattle.rs01_linear.specs.Outcome.{IsLeftAt, IsOnTheWay, IsReadInto, Reads, ReadsBy}
use Rattle.rs01_linear.specs.Refusal.{IsOfMedium, IsOfReading, IsOfWork, writes_badly}
use Rattle.rs01_linear.specs.Report.{report_of}
use Rattle.rs01_linear.specs.declared.medium.Medium.{Medium}
use Rattle.rs01_linear.specs.declared.refusal.ReadRefusal.{ReadRefusal}
use Rattle.rs01_linear.specs.declared.refusal.ReadRefusal.TheVariants.{DriveSize, Ecc, OutOfMemory, Rack, ReadFault, WriteFault}

pub ok_and : (result : Result Found ReadRefusal) (P Q : Found → Type 0) → IsOkAnd result P → ((f : Found) → P f → Q f) → IsOkAnd result Q
ok_and (Ok f) P Q is more = more f is
ok_and (Err why) P Q is more = absurd is

work_only : (why : ReadRefusal) → IsOfWork why → IsOfMedium why → ⊥
work_only (Ecc why) work medium = work
work_only (Rack why) work medium = work
work_only (DriveSize n) work medium = work
work_only ReadFault work medium = medium
work_only WriteFault work medium = medium
work_only OutOfMemory work medium = medium

pub reads_only : (why : ReadRefusal) → IsOfReading why → IsTrue (writes_badly why) → ⊥
reads_only (Ecc why) reading writes = cc
reads_only (Rack why) reading writes = cc
reads_only (DriveSize n) reading writes = cc
reads_only ReadFault reading writes = cc
reads_only WriteFault reading writes = reading
reads_only OutOfMemory reading writes = cc

-- the same by drives with the same views, and by the same image file
left_from : (known known' : Known) (manner : Manner) (before before' file : Option (List ℕ)) (old old' new : RackState) → known' ≡ known → views_of old ≡ views_of old' → before ≡ before'
    → IsLeftAt known manner (unwrap_or before []) old new before file → IsLeftAt known' manner (unwrap_or before' []) old' new before' file
left_from known known' manner before before' file old old' new k v b left =
    let here : IsLeftAt known manner (unwrap_or before []) old' new before file =
    record {
      passed = left.passed;
      inside = left.inside;
      views_are = left.views_are ∙ ap (λ (vs : List DriveView). (read_to known manner (unwrap_or before []) vs left.passed).views) v;
      file_is =
          subst (λ (vs : List DriveView). IsOnTheWay left.passed (unwrap_or before []) (marked known (unwrap_or before [])) (image_left known manner (unwrap_or before []) vs) before file) v left.file_is;
    } in
    subst (λ (o : Option (List ℕ)). IsLeftAt known' manner (unwrap_or o []) old' new o file) b
    (subst (λ (n : Known). IsLeftAt n manner (unwrap_or before []) old' new before file) (sym k) here)

read_from : (known known' : Known) (manner : Manner) (before before' file : Option (List ℕ)) (old old' new : RackState) (told : ReadReport) → known' ≡ known → views_of old ≡ views_of old' → old.asks ≡ old'.asks
    → before ≡ before' → IsReadInto known manner (unwrap_or before []) old new file told → IsReadInto known' manner (unwrap_or before' []) old' new file told
read_from known known' manner before before' file old old' new told k v a b is =
    let y = unwrap_or before [] in
    let here : IsReadInto known manner y old' new file told =
    record {
      file_is = is.file_is ∙ ap (λ (vs : List DriveView). Some (image_left known manner y vs)) v;
      views_are = is.views_are ∙ ap (λ (vs : List DriveView). (whole_reading known manner y vs).views) v;
      told_is = is.told_is ∙ (λ i. report_of (whole_reading known manner y (v i)).fates (min (new.asks - a i) (2 ^ 64 - 1)) (length y - image_len known));
    } in
    subst (λ (o : Option (List ℕ)). IsReadInto known' manner (unwrap_or o []) old' new file told) b
    (subst (λ (n : Known). IsReadInto n manner y old' new file told) (sym k) here)

is_found : (result : Result Found ReadRefusal) (P : Found → Type 0) → IsOkAnd result P → IsOk result
is_found (Ok f) P is = refl
is_found (Err why) P is = absurd is

-- a reading that ended with a fault or want of memory, in whatever order its sectors are asked for
pub unread : (given : Option (Option (List ℕ))) (old new : RackState) (before file : Option (List ℕ)) (IsRead : ReadReport → Found → Type 0) (IsLeft : Found → Type 0)
    (result : Result ReadReport ReadRefusal) (why : ReadRefusal)
    → result ≡ Err why → IsOfWork why → IsOkAnd (found given (views_of old)) IsLeft → ReadsBy given old new before file IsRead IsLeft result
unread given old new before file IsRead IsLeft result why is work left = rw is (record {
  refused = λ medium. absurd (work_only why work medium);
  untouched = λ medium. absurd (work_only why work medium);
  write_fault_last = λ writes. is_found (found given (views_of old)) IsLeft left;
  left = inr left;
})

-- the medium wasn't opened
pub ends_unopened : (given : Option (Option (List ℕ))) (old new : RackState) (before file : Option (List ℕ)) (IsRead : ReadReport → Found → Type 0) (IsLeft : Found → Type 0)
    (result : Result ReadReport ReadRefusal) (why : ReadRefusal)
    → result ≡ Err why → IsOfReading why → (IsOfMedium why → found given (views_of old) ≡ Err why) → views_of new ≡ views_of old → file ≡ before
    → ReadsBy given old new before file IsRead IsLeft result
ends_unopened given old new before file IsRead IsLeft result why is reading first same still = rw is (record {
  refused = first;
  untouched = λ medium. record { views_are = same; file_is = still };
  write_fault_last = λ writes. absurd (reads_only why reading writes);
  left = inl (record { views_are = same; file_is = still });
})

left_at : (known : Known) (manner : Manner) (rack : RackState) (opened file : Option (List ℕ))
    → (file ≡ opened) ⊎ IsMixed (marked known (unwrap_or opened [])) (unwrap_or opened []) file → IsLeftAt known manner (unwrap_or opened []) rack rack opened file
unfolding read_to
left_at known manner rack opened file left = record {
  passed = 0;
  inside = omega arith;
  views_are = refl;
  file_is = inl (refl, left);
}

-- the image file wasn't got ready
pub ends_unprepared : (given : Option (Option (List ℕ))) (manner : Manner) (medium : Medium) (old new : RackState) (before opened file : Option (List ℕ)) (result : Result ReadReport ReadRefusal) (why : ReadRefusal)
    → result ≡ Err why → IsOfWork why → IsOkAnd (found given (views_of old)) (IsMedium given medium) → views_of new ≡ views_of old → opened ≡ before
    → (file ≡ opened) ⊎ IsMixed (marked (known_of medium) (unwrap_or opened [])) (unwrap_or opened []) file
    → Reads given manner old new before file result
ends_unprepared given manner medium old new before opened file result why is work was same still left =
    let here : IsLeftAt (known_of medium) manner (unwrap_or opened []) new new opened file =
    left_at (known_of medium) manner new opened file left in
    unread given old new before file (λ told f. IsReadInto f.known manner (unwrap_or before []) old new file told) (λ f. IsLeftAt f.known manner (unwrap_or before []) old new before file) result why is work
    (ok_and (found given (views_of old)) (IsMedium given medium) (λ f. IsLeftAt f.known manner (unwrap_or before []) old new before file) was
    (λ f med. left_from (known_of medium) f.known manner opened before file new old new med.known_is same still here))

-- the reading was left
pub ends_left : (given : Option (Option (List ℕ))) (manner : Manner) (medium : Medium) (old mid new : RackState) (before opened file : Option (List ℕ)) (result : Result ReadReport ReadRefusal) (why : ReadRefusal)
    → result ≡ Err why → IsOfWork why → IsOkAnd (found given (views_of old)) (IsMedium given medium) → views_of mid ≡ views_of old → opened ≡ before
    → IsLeftAt (known_of medium) manner (unwrap_or opened []) mid new opened file → Reads given manner old new before file result
ends_left given manner medium old mid new before opened file result why is work was same still left =
    unread given old new before file (λ told f. IsReadInto f.known manner (unwrap_or before []) old new file told) (λ f. IsLeftAt f.known manner (unwrap_or before []) old new before file) result why is work
    (ok_and (found given (views_of old)) (IsMedium given medium) (λ f. IsLeftAt f.known manner (unwrap_or before []) old new before file) was
    (λ f med. left_from (known_of medium) f.known manner opened before file mid old new med.known_is same still left))

-- it came to its end
pub ends_read : (given : Option (Option (List ℕ))) (manner : Manner) (medium : Medium) (old mid new : RackState) (before opened file : Option (List ℕ)) (told : ReadReport)
    → IsOkAnd (found given (views_of old)) (IsMedium given medium) → views_of mid ≡ views_of old → mid.asks ≡ old.asks → opened ≡ before
    → IsReadInto (known_of medium) manner (unwrap_or opened []) mid new file told
    → IsOkAnd (found given (views_of old)) (λ f. IsReadInto f.known manner (unwrap_or before []) old new file told)
ends_read given manner medium old mid new before opened file told was same asks still is =
    ok_and (found given (views_of old)) (IsMedium given medium) (λ f. IsReadInto f.known manner (unwrap_or before []) old new file told) was
    (λ f med. read_from (known_of medium) f.known manner opened before file mid old new told med.known_is same asks still is)
