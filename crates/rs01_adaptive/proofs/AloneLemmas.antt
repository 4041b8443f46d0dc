-- From the opened medium and the image file that is ready to what a reading by turns leaves and answers.
use Rattle.std.proofs.Common.{◌≡◌, ℕ, ◌+◌, ◌-◌, ◌^◌, ◌≤◌, ◌∙◌, ap, sym, refl, subst, List, [], min, length}
use Rattle.std.specs.Prelude.{IsOkAnd, Option, Some, None, Result, Ok, Err}
use Rattle.std.specs.Option.{option_map, unwrap_or}
use Rattle.rs01_layers.specs.Layout.{file_size}
use Rattle.rs01_outside.specs.DriveView.{DriveView}
use Rattle.rs01_rack.specs.Rack.{AllTell, RackState, capped, views_of}
use Rattle.rs01_ecchead.specs.Opened.{Opened, opened_as}
use Rattle.rs01_ecchead.specs.declared.opened.Ecc.{Ecc}
use Rattle.rs01_report.specs.declared.reports.ReadReport.{ReadReport}
use Rattle.rs01_linear.specs.Lasting.{CountsAsks, asks_in}
use Rattle.rs01_linear.specs.Medium.{Finds, Found, IsMedium, found}
use Rattle.rs01_linear.specs.Refusal.{IsOfWork}
use Rattle.rs01_linear.specs.declared.medium.Medium.{Medium}
use Rattle.rs01_linear.specs.declared.refusal.ReadRefusal.{ReadRefusal}
use Rattle.rs01_linear.proofs.EndLemmas.{ok_and, unread}
use Rattle.rs01_adaptive.specs.Outcome.{IsLeftAt, IsReadInto, OfWhole, Reads, whole}
use Rattle.rs01_adaptive.specs.Sights.{IsFileOf}
use Rattle.rs01_adaptive.specs.Whole.{Whole, report_of}

-- counts of asks from a rack with the same views and the same count
counts_from : (old mid new : RackState) → views_of mid ≡ views_of old → mid.asks ≡ old.asks → CountsAsks mid new → CountsAsks old new
counts_from old mid new v a counts = record {
  more = counts.more;
  shown = counts.shown ∙ ap (λ (vs : List DriveView). asks_in vs + counts.more) v;
  counted = counts.counted ∙ ap (λ n. capped (n + counts.more)) a;
}

read_from : (old mid new : RackState) (file : Option (List ℕ)) (told : ReadReport) (w : Whole) → views_of mid ≡ views_of old → mid.asks ≡ old.asks → IsReadInto mid new file told w → IsReadInto old new file told w
read_from old mid new file told w v a is = record {
  file_is = is.file_is;
  views_are = is.views_are;
  told_is = is.told_is ∙ ap (λ n. report_of w (min (new.asks - n) (2 ^ 64 - 1))) a;
  asks = counts_from old mid new v a is.asks;
}

-- the reading was left
left_turned :
    (f : Found) (tries : ℕ) (old mid new : RackState) (before opened file : Option (List ℕ)) → views_of mid ≡ views_of old → opened ≡ before
    → OfWhole f tries (unwrap_or opened []) (views_of mid) (IsLeftAt (views_of new) opened file) → OfWhole f tries (unwrap_or before []) (views_of old) (IsLeftAt (views_of new) before file)
left_turned f tries old mid new before opened file v b is =
    subst (λ (o : Option (List ℕ)). OfWhole f tries (unwrap_or o []) (views_of old) (IsLeftAt (views_of new) o file)) b
    (subst (λ (vs : List DriveView). OfWhole f tries (unwrap_or opened []) vs (IsLeftAt (views_of new) opened file)) v is)

-- it came to its end
read_turned :
    (f : Found) (tries : ℕ) (old mid new : RackState) (before opened file : Option (List ℕ)) (told : ReadReport) → views_of mid ≡ views_of old → mid.asks ≡ old.asks → opened ≡ before
    → OfWhole f tries (unwrap_or opened []) (views_of mid) (IsReadInto mid new file told) → OfWhole f tries (unwrap_or before []) (views_of old) (IsReadInto old new file told)
read_turned f tries old mid new before opened file told v a b is =
    let here : OfWhole f tries (unwrap_or opened []) (views_of mid) (IsReadInto old new file told) = record {
      shape = is.shape;
      shape_is = is.shape_is;
      fact = read_from old mid new file told (whole f is.shape tries (unwrap_or opened []) (views_of mid)) v a is.fact;
    } in
    subst (λ (o : Option (List ℕ)). OfWhole f tries (unwrap_or o []) (views_of old) (IsReadInto old new file told)) b
    (subst (λ (vs : List DriveView). OfWhole f tries (unwrap_or opened []) vs (IsReadInto old new file told)) v here)

pub left_with :
    (given : Option (Option (List ℕ))) (tries : ℕ) (medium : Medium) (old mid new : RackState) (before opened file : Option (List ℕ)) (result : Result ReadReport ReadRefusal) (why : ReadRefusal)
    → result ≡ Err why → IsOfWork why → IsOkAnd (found given (views_of old)) (IsMedium given medium) → views_of mid ≡ views_of old → opened ≡ before
    → ((f : Found) → IsMedium given medium f → OfWhole f tries (unwrap_or opened []) (views_of mid) (IsLeftAt (views_of new) opened file)) → Reads given tries old new before file result
left_with given tries medium old mid new before opened file result why is work was same still left =
    unread given old new before file (λ told f. OfWhole f tries (unwrap_or before []) (views_of old) (IsReadInto old new file told))
    (λ f. OfWhole f tries (unwrap_or before []) (views_of old) (IsLeftAt (views_of new) before file)) result why is work
    (ok_and (found given (views_of old)) (IsMedium given medium) (λ f. OfWhole f tries (unwrap_or before []) (views_of old) (IsLeftAt (views_of new) before file)) was
    (λ f med. left_turned f tries old mid new before opened file same still (left f med)))

-- after the medium was opened
pub turned_left :
    (given : Option (Option (List ℕ))) (tries : ℕ) (medium : Medium) (old mid new : RackState) (before opened file : Option (List ℕ)) (result : Result ReadReport ReadRefusal) (why : ReadRefusal)
    → result ≡ Err why → IsOfWork why → IsOkAnd (found given (views_of old)) (IsMedium given medium) → Finds (Ok medium) old mid → AllTell mid → opened ≡ before
    → ((f : Found) → IsMedium given medium f → OfWhole f tries (unwrap_or opened []) (views_of mid) (IsLeftAt (views_of new) opened file)) → Reads given tries old new before file result
turned_left given tries medium old mid new before opened file result why is work was finds tell still left =
    left_with given tries medium old mid new before opened file result why is work was (finds.same tell) still left

pub turned_read :
    (given : Option (Option (List ℕ))) (tries : ℕ) (medium : Medium) (old mid new : RackState) (before opened file : Option (List ℕ)) (told : ReadReport)
    → IsOkAnd (found given (views_of old)) (IsMedium given medium) → views_of mid ≡ views_of old → mid.asks ≡ old.asks → opened ≡ before
    → ((f : Found) → IsMedium given medium f → OfWhole f tries (unwrap_or opened []) (views_of mid) (IsReadInto mid new file told))
    → IsOkAnd (found given (views_of old)) (λ f. OfWhole f tries (unwrap_or before []) (views_of old) (IsReadInto old new file told))
turned_read given tries medium old mid new before opened file told was same asks still is =
    ok_and (found given (views_of old)) (IsMedium given medium) (λ f. OfWhole f tries (unwrap_or before []) (views_of old) (IsReadInto old new file told)) was
    (λ f med. read_turned f tries old mid new before opened file told same asks still (is f med))

-- what was opened is what was found
pub opened_found : (opened : Option Opened) (ecc : Option Ecc) (was now : List ℕ) → opened ≡ option_map (λ e. opened_as e was) ecc
    → ((e : Ecc) → ecc ≡ Some e → (was ≡ now) × (file_size e.head.sectors e.head.parity ≤ length now)) → IsFileOf opened ecc now
opened_found opened ecc was now is each = subst (λ (o : Option Opened). IsFileOf o ecc now) (sym is) (by ecc each)
  where
    by : (ecc : Option Ecc) → ((e : Ecc) → ecc ≡ Some e → (was ≡ now) × (file_size e.head.sectors e.head.parity ≤ length now)) → IsFileOf (option_map (λ e. opened_as e was) ecc) ecc now
    by None each = tt
    by (Some e) each = (ap (opened_as e) (each e refl).0, (each e refl).1)
