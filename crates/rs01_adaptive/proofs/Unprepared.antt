-- A reading by turns whose image file wasn't got ready, and what was found of one that was.
use Rattle.std.proofs.Common.{◌≡◌, ℕ, ◌+◌, ◌-◌, ◌<◌, ◌≤◌, ◌∙◌, ap, arith, sym, refl, subst, List, [], length, take, drop, get_or, ⊎_elim, inl, inr, true, false}
use Rattle.std.specs.Prelude.{◌⊎◌, ◌≢◌, if◌then◌else◌, Bool, IsOkAnd, IsSomeAnd, Option, Some, None, Result, Ok, Err, slice_get}
use Rattle.std.specs.Borrow.{Bor}
use Rattle.std.specs.Option.{ForSome, option_map, unwrap_or}
use Rattle.std.proofs.lemmas.Bool.{cases_lt}
use Rattle.std.proofs.lemmas.List.{append-nil, get_or-append_right, get_or-drop, get_or-take, get_or_append_left, length-append, length-drop, length-take, length-take-le}
use Rattle.rs01_layers.specs.Layout.{file_size}
use Rattle.rs01_layers.specs.declared.shape.Shape.{Shape}
use Rattle.rs01_outside.specs.DeskState.{DeskState}
use Rattle.rs01_outside.specs.DriveView.{DriveView}
use Rattle.rs01_outside.specs.Files.{bytes_of}
use Rattle.rs01_rack.specs.Counting.{number_of}
use Rattle.rs01_rack.specs.Rack.{RackState, views_of}
use Rattle.rs01_rack.specs.declared.refusal.RackRefusal.{RackRefusal}
use Rattle.rs01_ecchead.specs.Erased.{Known}
use Rattle.rs01_ecchead.specs.Opened.{Opened, opened_as, opened_file}
use Rattle.rs01_ecchead.specs.declared.opened.Ecc.{Ecc}
use Rattle.rs01_ecchead.specs.declared.opened.EccRefusal.{EccRefusal}
use Rattle.rs01_fix.proofs.FileLemmas.{opened_size}
use Rattle.rs01_report.specs.declared.reports.ReadReport.{ReadReport}
use Rattle.rs01_linear.specs.Left.{marked, mixed}
use Rattle.rs01_linear.specs.Marking.{IsMixed}
use Rattle.rs01_linear.specs.Medium.{Found, IsGiven, IsMedium, file_given, found, found_in_drives, found_in_file, known_of, plain}
use Rattle.rs01_linear.specs.Refusal.{IsOfWork}
use Rattle.rs01_linear.specs.declared.medium.Medium.{Medium}
use Rattle.rs01_linear.specs.declared.refusal.ReadRefusal.{ReadRefusal}
use Rattle.rs01_linear.specs.declared.refusal.ReadRefusal.TheVariants.{DriveSize}
use Rattle.rs01_linear.proofs.LaidLemmas.{Sized}
use Rattle.rs01_linear.proofs.MarkLemmas.{sized_by}
use Rattle.rs01_linear.proofs.StayLemmas.{spares_marked}
use Rattle.rs01_turns.proofs.Times.{asks-few, same-drive}
use Rattle.rs01_reader.specs.Settled as reader
use Rattle.rs01_reader.specs.Settled.{IsNamed}
use Rattle.rs01_reader.specs.declared.setup.Setup.{Setup}
use Rattle.rs01_adaptive.specs.Outcome.{IsBetween, IsLeftAt, Reads, whole}
use Rattle.rs01_adaptive.specs.Preparing.{IsFoundAs}
use Rattle.rs01_adaptive.specs.Whole.{IsShapeOf, Whole, end_in, known_in, start_in, terms_in}
use Rattle.rs01_adaptive.proofs.AloneLemmas.{left_with, opened_found}

-- the shape that an error correction file tells
shape_in : Ecc → Shape
shape_in e = record {
  sectors = e.head.sectors;
  parity = e.head.parity;
  in_range = record { some_sectors = e.head.some_sectors; not_too_many = e.head.few_sectors; enough_parity = e.head.least_parity; not_too_much = e.head.most_parity };
}

pub shape_of : Option Ecc → Option Shape
shape_of ecc = option_map shape_in ecc

pub opened_shape : (ecc : Option Ecc) → reader.IsShapeOf ecc (shape_of ecc)
unfolding shape_in shape_of
opened_shape None = tt
opened_shape (Some e) = (refl, refl)

shape_is : (opened : Option Opened) (ecc : Option Ecc) (was : List ℕ) → opened ≡ option_map (λ e. opened_as e was) ecc → IsShapeOf opened (option_map shape_in ecc)
unfolding shape_in
shape_is opened ecc was is = subst (λ (o : Option Opened). IsShapeOf o (option_map shape_in ecc)) (sym is) (by ecc)
  where
    by : (ecc : Option Ecc) → IsShapeOf (option_map (λ e. opened_as e was) ecc) (option_map shape_in ecc)
    by None = tt
    by (Some e) = (refl, refl)

-- a byte of a file that was partly marked
marked_longer : (known : Known) (y : List ℕ) → Sized known → length y ≤ length (marked known y)
marked_longer known y sized =
    let m = marked known y in
    let n = length y + length m in
    let far = (spares_marked known y n sized).longer in
    omega (arith, far, length-append (take n m) (drop n y), length-take n m, length-drop n y)

mixed_byte : (n : ℕ) (one other : List ℕ) (k : ℕ) → k < length (mixed n one other) → length other ≤ length one
    → (get_or (mixed n one other) k 0 ≡ get_or other k 0) ⊎ (get_or (mixed n one other) k 0 ≡ get_or one k 0)
mixed_byte n one other k below longer =
    let front = length-take n one in
    let back = length-drop n other in
    let all = length-append (take n one) (drop n other) in
    ⊎_elim
    (λ (early : k < n). inr (get_or_append_left (take n one) (drop n other) 0 k (omega (arith, early, below, longer, front, back, all)) ∙ get_or-take n one k 0 early))
    (λ (late : n ≤ k). inl (get_or-append_right (take n one) (drop n other) n k 0 (length-take-le n one (omega (arith, late, below, longer, front, back, all))) late
    ∙ get_or-drop n other (k - n) 0
    ∙ ap (λ i. get_or other i 0) (let e : n + (k - n) ≡ k = omega (arith, late) in e)))
    (cases_lt k n)

between : (w : Whole) (n : ℕ) → Sized (known_in w) → IsBetween w w.image (marked (known_in w) w.image) (mixed n (marked (known_in w) w.image) w.image)
between w n sized = record {
  longer = (spares_marked (known_in w) w.image n sized).longer;
  surplus = (spares_marked (known_in w) w.image n sized).surplus;
  bytes = λ k below inside. mixed_byte n (marked (known_in w) w.image) w.image k below (marked_longer (known_in w) w.image sized);
}

-- no drive was asked
left_here : (w : Whole) (views : List DriveView) (before file : Option (List ℕ)) → Sized (known_in w) → w.views ≡ views
    → (file ≡ before) ⊎ IsMixed (marked (known_in w) w.image) w.image file → IsLeftAt views before file w
unfolding end_in
left_here w views before file sized same left = record {
  number = ap length (sym same);
  asked = λ k first one other start was is.
      let here = ap (λ (vs : List DriveView). slice_get vs k) same ∙ was in
      let on = asks-few (terms_in w) (start_in w) k one other here is in
      record {
        done = [];
        more = on.more;
        sofar_is = ap (λ (v : DriveView). v.asked) (same-drive w.views k first one start here) ∙ sym (append-nil first.asked);
        all_is = on.asked;
      };
  file_is = inl (record {
    views_are = sym same;
    file_is = elim left [
      | inl kept ↦ inl kept
      | inr mix ↦ inr (subst (λ (o : Option (List ℕ)). IsSomeAnd o (IsBetween w w.image (marked (known_in w) w.image))) (sym mix.1) (between w mix.0 sized))
    ];
  });
}

-- the image file wasn't got ready
pub turned_unprepared :
    (given : Option (Option (List ℕ))) (tries : ℕ) (medium : Medium) (old new : RackState) (before opened file : Option (List ℕ)) (result : Result ReadReport ReadRefusal) (why : ReadRefusal)
    → result ≡ Err why → IsOfWork why → IsOkAnd (found given (views_of old)) (IsMedium given medium) → views_of new ≡ views_of old → opened ≡ before
    → (file ≡ opened) ⊎ IsMixed (marked (known_of medium) (unwrap_or opened [])) (unwrap_or opened []) file → Reads given tries old new before file result
turned_unprepared given tries medium old new before opened file result why is work was same still left =
    left_with given tries medium old new new before opened file result why is work was same still
    (λ f med. record {
      shape = option_map shape_in medium.ecc;
      shape_is = shape_is f.opened medium.ecc (unwrap_or (unwrap_or given None) []) med.opened_is;
      fact = left_here (whole f (option_map shape_in medium.ecc) tries (unwrap_or opened []) (views_of new)) (views_of new) opened file
          (subst Sized (sym med.known_is) (sized_by medium.extent (option_map (λ ecc. ecc.sums.list) medium.ecc))) refl
          (subst (λ (k : Known). (file ≡ opened) ⊎ IsMixed (marked k (unwrap_or opened [])) (unwrap_or opened []) file) (sym med.known_is) left);
    })

-- an error correction file that was opened is as long as its header asks for
drives_none : (b : Bool) (n : ℕ) (P : Found → Type 0) → IsOkAnd (if b then Err (DriveSize n) else Ok (record { known = plain n; opened = None })) P → P (record { known = plain n; opened = None })
drives_none true n P is = absurd is
drives_none false n P is = is

none_opened : (ecc : Option Ecc) (was : List ℕ) (e : Ecc) → ecc ≡ Some e → None ≡ option_map (λ x. opened_as x was) ecc → ⊥
none_opened ecc was e is says =
    let both : None ≡ Some (opened_as e was) = says ∙ ap (option_map (λ x. opened_as x was)) is in cc

in_drives : (medium : Medium) (r : Result ℕ RackRefusal) (e : Ecc) → medium.ecc ≡ Some e → IsOkAnd (found_in_drives r) (IsMedium None medium) → ⊥
in_drives medium (Err why) e there is = absurd is
in_drives medium (Ok n) e there is = none_opened medium.ecc [] e there (drives_none _ n (IsMedium None medium) is).opened_is

in_file : (medium : Medium) (file : Option (List ℕ)) (o : Result Opened EccRefusal) (r : Result ℕ RackRefusal) (e : Ecc) → medium.ecc ≡ Some e → opened_file file ≡ o
    → IsOkAnd (found_in_file o r) (IsMedium (Some file) medium) → file_size e.head.sectors e.head.parity ≤ length (unwrap_or file [])
in_file medium file (Err why) r e there says is = absurd is
in_file medium file (Ok c) (Err why) e there says is = absurd is
in_file medium file (Ok c) (Ok n) e there says is =
    let both : Some c ≡ Some (opened_as e (unwrap_or file [])) = is.opened_is ∙ ap (option_map (λ x. opened_as x (unwrap_or file []))) there in
    let same : c ≡ opened_as e (unwrap_or file []) = cc in
    let long : length (unwrap_or file []) ≡ file_size c.fields.sectors c.fields.parity = opened_size file c says in
    let size : file_size c.fields.sectors c.fields.parity ≡ file_size e.head.sectors e.head.parity = ap (λ (x : Opened). file_size x.fields.sectors x.fields.parity) same in
    omega (arith, long, size)

ecc_long : (given : Option (Option (List ℕ))) (views : List DriveView) (medium : Medium) (e : Ecc) → medium.ecc ≡ Some e → IsOkAnd (found given views) (IsMedium given medium)
    → IsSomeAnd given (λ file. file_size e.head.sectors e.head.parity ≤ length (unwrap_or file []))
ecc_long None views medium e there is = in_drives medium (number_of views) e there is
ecc_long (Some file) views medium e there is = in_file medium file (opened_file file) (number_of views) e there refl is

-- and it is the same one later
same_file : (ecc : Option (Bor (List ℕ))) (desk later : DeskState) (size : ℕ) → ((name : Bor (List ℕ)) → ecc ≡ Some name → later.files name.now ≡ desk.files name.now)
    → IsSomeAnd (file_given desk ecc) (λ file. size ≤ length (unwrap_or file []))
    → (unwrap_or (unwrap_or (file_given desk ecc) None) [] ≡ bytes_of later.files (unwrap_or (option_map (λ (n : Bor (List ℕ)). n.now) ecc) []))
    × (size ≤ length (bytes_of later.files (unwrap_or (option_map (λ (n : Bor (List ℕ)). n.now) ecc) [])))
same_file None desk later size kept is = absurd is
same_file (Some name) desk later size kept is =
    let same : unwrap_or (desk.files name.now) [] ≡ bytes_of later.files name.now = ap (λ (o : Option (List ℕ)). unwrap_or o []) (sym (kept name refl)) in
    (same, subst (λ (xs : List ℕ). size ≤ length xs) same is)

-- what was found of the medium is what it was opened as
pub found_as :
    (setup : Setup) (desk later : DeskState) (views : List DriveView) (f : Found) → ((name : Bor (List ℕ)) → setup.ecc ≡ Some name → later.files name.now ≡ desk.files name.now)
    → IsOkAnd (found (file_given desk setup.ecc) views) (IsMedium (file_given desk setup.ecc) setup.medium.now)
    → IsMedium (file_given desk setup.ecc) setup.medium.now f → IsFoundAs setup later f
found_as setup desk later views f kept was med = record {
  known_is = med.known_is;
  opened_is = opened_found f.opened setup.medium.now.ecc (unwrap_or (unwrap_or (file_given desk setup.ecc) None) []) _ med.opened_is
      (λ e there. same_file setup.ecc desk later (file_size e.head.sectors e.head.parity) kept (ecc_long (file_given desk setup.ecc) views setup.medium.now e there was));
}

-- a file that was opened has another name than the image file
pub named : (opened : Option Ecc) (ecc : Option (Bor (List ℕ))) (image : List ℕ) → IsGiven ecc opened → ForSome ecc (λ name. image ≢ name.now)
    → IsNamed opened (option_map (λ (n : Bor (List ℕ)). n.now) ecc) image
named None ecc image given apart = tt
named (Some e) None image given apart = absurd given
named (Some e) (Some name) image given apart = λ same. apart name refl (sym same)
