-- What is kept between two moments is kept along a chain.
use Rattle.std.proofs.Common.{zero, suc, inl, inr, get_or, ◌≡◌, ℕ, ◌*◌, ◌≤◌, ◌<◌, ⊎_elim, List, [], ◌∷◌, ◌++◌, length, take, drop, refl, sym, ap, subst, ◌∙◌, arith}
use Rattle.std.specs.Prelude.{◌⊎◌, ◌≢◌, Bool, Contains, true, false, IsTrue, IsSomeAnd, Option, Some, slice_get}
use Rattle.std.proofs.lemmas.List.{append-nil, append_assoc, length-map}
use Rattle.std.proofs.lemmas.List.Elements.{Contains-append_cases}
use Rattle.std.proofs.lemmas.Bool.{cases_Bool, false≢true}
use Rattle.std.proofs.lemmas.Option.{slice_get_within, slice_get-get_or}
use Rattle.rs01_lists.specs.Bytes.{part}
use Rattle.rs01_layers.specs.Sectors.{length_of}
use Rattle.rs01_outside.specs.Causes.{Rose}
use Rattle.rs01_outside.specs.DeskState.{DeskState}
use Rattle.rs01_outside.specs.DriveState.{DriveState}
use Rattle.rs01_outside.specs.DriveView.{DriveView}
use Rattle.rs01_outside.specs.Files.{Files, bytes_of}
use Rattle.rs01_rack.specs.Rack.{AllTell, RackState, views_of}
use Rattle.rs01_ecchead.specs.Erased.{image_len}
use Rattle.rs01_states.specs.declared.state.State.{State}
use Rattle.rs01_states.specs.declared.state.State.TheVariants.{Unread, Good, Failed, Spared}
use Rattle.rs01_states.specs.Sparing.{is_unread, layer_count, state_of}
use Rattle.rs01_linear.specs.Asking.{Asking, kind_of}
use Rattle.rs01_linear.specs.Course.{fate_of}
use Rattle.rs01_linear.specs.Report.{unread}
use Rattle.rs01_linear.specs.declared.fate.Fate.{Fate}
use Rattle.rs01_linear.specs.declared.fate.Fate.TheVariants as fate
use Rattle.rs01_linear.proofs.LastingLemmas.{drive_there, same_lasts}
use Rattle.rs01_linear.proofs.RoseLemmas.{same_rose}
use Rattle.rs01_turns.specs.Moments.{Moment, Setting, asking_of, bytes_at, fate_at, image_at, known_at, length_at, unread_at}
use Rattle.rs01_turns.specs.Leads.{Became, GivenOnce, GivesOn, IsOnce, IsBlend, IsWritten, Leads, SameAt, SameDesk, SameDrives, SameFiles, SameRest, Stays, unanswered}
use Rattle.rs01_turns.specs.Laws.{GiveLeads, LeadsOn, LookLeads, ReadLeads, ReadyOn}

-- the drives

pub told-before : (f g : Moment) → SameDrives f g → AllTell g.rack → AllTell f.rack
told-before f g same tell k drive was =
    let is = drive_there f.rack.drives g.rack.drives k drive same.number was in
    (same.each k drive (get_or g.rack.drives k drive) was is).told_before (tell k (get_or g.rack.drives k drive) is)

-- there is a view at each place of a rack with as many drives
view-there : (one two : RackState) (k : ℕ) (v : DriveView) → length two.drives ≡ length one.drives → slice_get (views_of one) k ≡ Some v
    → slice_get (views_of two) k ≡ Some (get_or (views_of two) k v)
view-there one two k v same was =
    slice_get-get_or (views_of two) k v
    (omega (arith, same, slice_get_within (views_of one) k v was, length-map one.drives (λ (d : DriveState). d.view), length-map two.drives (λ (d : DriveState). d.view)))

pub drives-on : (f g h : Moment) → SameDrives f g → SameDrives g h → SameDrives f h
drives-on f g h fg gh = record {
  number = gh.number ∙ fg.number;
  each = λ k b a was is.
      let there = drive_there f.rack.drives g.rack.drives k b fg.number was in
      let early = fg.each k b (get_or g.rack.drives k b) was there in
      let late = gh.each k (get_or g.rack.drives k b) a there is in
      record { told_before = λ t. early.told_before (late.told_before t); later = omega (arith, early.later, late.later) };
  asks_rise = omega (arith, fg.asks_rise, gh.asks_rise);
  rose = λ k b a was is.
      let there = drive_there f.rack.drives g.rack.drives k b fg.number was in
      let early = fg.rose k b (get_or g.rack.drives k b) was there in
      let late = gh.rose k (get_or g.rack.drives k b) a there is in
      omega (arith, early, late);
  asked = λ t k b a was is.
      let m = get_or (views_of g.rack) k b in
      let there = view-there f.rack g.rack k b fg.number was in
      let early = fg.asked (told-before g h gh t) k b m was there in
      let late = gh.asked t k m a there is in
      (early.0 ++ late.0, late.1 ∙ ap (λ (xs : List ℕ). xs ++ late.0) early.1 ∙ append_assoc b.asked early.0 late.0);
}

-- the desk

tells-on : (f g : Moment) → SameDesk f g → IsTrue f.desk.tells → IsTrue g.desk.tells
tells-on f g same t = subst (λ (b : Bool). IsTrue b) (sym same.tells) t

files-on : (f g h : Moment) → g.setting ≡ f.setting → SameFiles f g → SameFiles g h → SameFiles f h
files-on f g h same fg gh = record {
  len = gh.len ∙ fg.len;
  surplus =
      subst (λ (x : Setting). drop (image_len x.terms.known) (image_at h) ≡ drop (image_len x.terms.known) (image_at g)) same gh.surplus ∙ fg.surplus;
  elsewhere = λ other d. gh.elsewhere other (subst (λ (x : Setting). other ≢ x.image) (sym same) d) ∙ fg.elsewhere other d;
}

desk-on : (f g h : Moment) → g.setting ≡ f.setting → SameDesk f g → SameDesk g h → SameDesk f h
desk-on f g h same fg gh = record {
  tells = gh.tells ∙ fg.tells;
  reads_rise = omega (arith, fg.reads_rise, gh.reads_rise);
  writes_rise = omega (arith, fg.writes_rise, gh.writes_rise);
  files = λ t. files-on f g h same (fg.files t) (gh.files (tells-on f g fg t));
}

-- a block that was written

rose-before : (a b c : ℕ) → a ≤ b → Rose b c → Rose a c
rose-before a b c le rose = omega (arith, le, rose)

rose-after : (a b c : ℕ) → b ≤ c → Rose a b → Rose a c
rose-after a b c le rose = omega (arith, le, rose)

same-own : (f g : Moment) (s : ℕ) (block : List ℕ) → g.setting ≡ f.setting → take (length_at g s) block ≡ take (length_at f s) block
same-own f g s block same = ap (λ (x : Setting). take (length_of x.terms.known.sectors x.terms.known.last_bytes s) block) same

written-before : (f g h : Moment) (s : ℕ) (block : List ℕ) → g.setting ≡ f.setting → bytes_at g s ≡ bytes_at f s → f.desk.write_faults ≤ g.desk.write_faults → IsWritten g h s block → IsWritten f h s block
written-before f g h s block set_ same le written = ⊎_elim
    (λ e. inl (e ∙ same-own f g s block set_))
    (λ m. inr (
      rose-before f.desk.write_faults g.desk.write_faults h.desk.write_faults le m.0,
      subst (λ (old : List ℕ). IsBlend (bytes_at h s) old (take (length_at f s) block)) same
          (subst (λ (own : List ℕ). IsBlend (bytes_at h s) (bytes_at g s) own) (same-own f g s block set_) m.1),
    ))
    written

written-after : (f g h : Moment) (s : ℕ) (block : List ℕ) → bytes_at h s ≡ bytes_at g s → g.desk.write_faults ≤ h.desk.write_faults → IsWritten f g s block → IsWritten f h s block
written-after f g h s block same le written = ⊎_elim
    (λ e. inl (same ∙ e))
    (λ m. inr (
      rose-after f.desk.write_faults g.desk.write_faults h.desk.write_faults le m.0,
      subst (λ (new : List ℕ). IsBlend new (bytes_at f s) (take (length_at f s) block)) (sym same) m.1,
    ))
    written

-- one sector

at-on : (f g h : Moment) (s : ℕ) → SameDesk f g → SameAt f g s → SameAt g h s → SameAt f h s
at-on f g h s desk fg gh = record {
  fate_same = gh.fate_same ∙ fg.fate_same;
  bytes_same = λ t. gh.bytes_same (tells-on f g desk t) ∙ fg.bytes_same t;
}

-- a sector that is unread had the same before
pub still-same : (f g : Moment) (s : ℕ) (x : State) → is_unread x ≡ true → Became f g s x → SameAt f g s
still-same f g s Unread h b = b
still-same f g s Good h b = absurd (false≢true h)
still-same f g s Failed h b = absurd (false≢true h)
still-same f g s Spared h b = absurd (false≢true h)

-- unread until g
became-later : (f g h : Moment) (s : ℕ) (x : State) → Leads f g → Leads g h → SameAt f g s → (AllTell g.rack → asking_of g s ≡ asking_of f s) → Became g h s x → Became f h s x
became-later f g h s Unread fg gh same asking b = at-on f g h s fg.desk same b
became-later f g h s Good fg gh same asking b = record {
  fate_is = b.fate_is;
  told = λ t.
      let w = b.told t in (
        w.0,
        record {
          read = subst (λ (o : Option Asking). IsSomeAnd o (λ a. a.read ≡ Some w.0)) (asking (told-before g h gh.drives t)) w.1.read;
          written = λ it. written-before f g h s w.0 fg.start.setting (same.bytes_same it) fg.desk.writes_rise (w.1.written (tells-on f g fg.desk it));
        },
      );
}
became-later f g h s Failed fg gh same asking b = record {
  fate_is = b.fate_is;
  told = λ t. subst (λ (o : Option Asking). IsSomeAnd o (λ a. fate_at h s ≡ fate_of (kind_of a))) (asking (told-before g h gh.drives t)) (b.told t);
  bytes_same = λ t. b.bytes_same (tells-on f g fg.desk t) ∙ same.bytes_same t;
}
became-later f g h s Spared fg gh same asking b = at-on f g h s fg.desk same b

-- no more unread at g
became-before : (f g h : Moment) (s : ℕ) (x : State) → Leads f g → Leads g h → SameAt g h s → is_unread x ≡ false → Became f g s x → Became f h s x
became-before f g h s Unread fg gh same not_ b = absurd (false≢true (sym not_))
became-before f g h s Good fg gh same not_ b = record {
  fate_is = same.fate_same ∙ b.fate_is;
  told = λ t.
      let w = b.told (told-before g h gh.drives t) in (
        w.0,
        record {
          read = w.1.read;
          written = λ it. written-after f g h s w.0 (same.bytes_same (tells-on f g fg.desk it)) gh.desk.writes_rise (w.1.written it);
        },
      );
}
became-before f g h s Failed fg gh same not_ b = record {
  fate_is = subst (λ (x : Fate). (x ≡ fate.Unreadable) ⊎ (x ≡ fate.Altered)) (sym same.fate_same) b.fate_is;
  told = λ t. subst (λ (x : Fate). IsSomeAnd (asking_of f s) (λ a. x ≡ fate_of (kind_of a))) (sym same.fate_same) (b.told (told-before g h gh.drives t));
  bytes_same = λ t. same.bytes_same (tells-on f g fg.desk t) ∙ b.bytes_same t;
}
became-before f g h s Spared fg gh same not_ b = at-on f g h s fg.desk b same

became-on : (f g h : Moment) (s : ℕ) → Leads f g → Leads g h → unread_at f s ≡ true → Became f h s (state_of h.states s)
became-on f g h s fg gh was = ⊎_elim
    (λ unread. became-later f g h s (state_of h.states s) fg gh (still-same f g s (state_of g.states s) unread (fg.became s was))
    (λ t. (fg.rest t).asking s was unread) (gh.became s unread))
    (λ not_.
    let stay = gh.stays s not_ in
    subst (λ (x : State). Became f h s x) (sym stay.state_same) (became-before f g h s (state_of g.states s) fg gh stay.same not_ (fg.became s was)))
    (cases_Bool (unread_at g s))

stays-on : (f g h : Moment) (s : ℕ) → Leads f g → Leads g h → unread_at f s ≡ false → Stays f h s
stays-on f g h s fg gh was =
    let one = fg.stays s was in
    let two = gh.stays s (ap is_unread one.state_same ∙ was) in
    record { state_same = two.state_same ∙ one.state_same; same = at-on f g h s fg.desk one.same two.same }

-- unread at f and h, so at g
unread-between : (f g h : Moment) (s : ℕ) → Leads g h → unread_at h s ≡ true → unread_at g s ≡ true
unread-between f g h s gh is = ⊎_elim
    (λ unread. unread)
    (λ not_. absurd (false≢true (sym not_ ∙ sym (ap is_unread (gh.stays s not_).state_same) ∙ is)))
    (cases_Bool (unread_at g s))

rest-on : (f g h : Moment) → Leads f g → Leads g h → AllTell h.rack → SameRest f h
rest-on f g h fg gh t =
    let one = fg.rest (told-before g h gh.drives t) in
    let two = gh.rest t in
    record {
      end = two.end ∙ one.end;
      asks = two.asks ∙ one.asks;
      asking = λ s was is.
          let unread = unread-between f g h s gh is in
          two.asking s unread is ∙ one.asking s was unread;
    }

pub leads-on : LeadsOn
leads-on f g h fg gh = record {
  start = record {
    setting = gh.start.setting ∙ fg.start.setting;
    kept_reads = gh.start.kept_reads ∙ fg.start.kept_reads;
    kept_writes = gh.start.kept_writes ∙ fg.start.kept_writes;
    all = gh.start.all ∙ fg.start.all;
    fated = gh.start.fated ∙ fg.start.fated;
  };
  drives = drives-on f g h fg.drives gh.drives;
  desk = desk-on f g h fg.start.setting fg.desk gh.desk;
  rest = λ t. rest-on f g h fg gh t;
  stays = λ s was. stays-on f g h s fg gh was;
  became = λ s was. became-on f g h s fg gh was;
  gives_on = (fg.gives_on.0 ++ gh.gives_on.0, gh.gives_on.1 ∙ ap (λ (l : List ℕ). l ++ gh.gives_on.0) fg.gives_on.1 ∙ append_assoc f.given fg.gives_on.0 gh.gives_on.0);
  given_once = λ o. gh.given_once (fg.given_once o);
}

-- nothing but what is given, looked at or read changes

pub same-drives : (f g : Moment) → g.rack ≡ f.rack → g.fates ≡ f.fates → SameDrives f g
same-drives f g rack fates = record {
  number = ap (λ (r : RackState). length r.drives) rack;
  each = λ k b a was is. same_lasts f.rack.drives g.rack.drives k b a (ap (λ (r : RackState). slice_get r.drives k) rack) was is;
  asks_rise = omega (arith, ap (λ (r : RackState). r.asks) rack);
  rose = λ k b a was is.
      let rose = same_rose (slice_get f.rack.drives k) b a was (sym (ap (λ (r : RackState). slice_get r.drives k) rack) ∙ is) in
      let same : unanswered g ≡ unanswered f = ap unread fates in
      omega (arith, rose, same);
  asked = λ t k b a was is.
      let one : Some a ≡ Some b = sym is ∙ ap (λ (r : RackState). slice_get (views_of r) k) rack ∙ was in
      let same : a ≡ b = cc in
      ([], ap (λ (v : DriveView). v.asked) same ∙ sym (append-nil b.asked));
}

pub unread-same : (f g : Moment) (s : ℕ) (x : State) → is_unread x ≡ true → SameAt f g s → Became f g s x
unread-same f g s Unread h same = same
unread-same f g s Good h same = absurd (false≢true h)
unread-same f g s Failed h same = absurd (false≢true h)
unread-same f g s Spared h same = absurd (false≢true h)

same-files : (f g : Moment) → g.setting ≡ f.setting → g.desk.files ≡ f.desk.files → SameFiles f g
same-files f g set_ same =
    let image : image_at g ≡ image_at f =
    ap (λ (x : Setting). bytes_of g.desk.files x.image) set_ ∙ ap (λ (x : Files). bytes_of x f.setting.image) same in
    record {
      len = ap length image;
      surplus = ap (drop (image_len (known_at f))) image;
      elsewhere = λ other d. ap (λ (x : Files). x other) same;
    }

pub same-desk : (f g : Moment) → g.setting ≡ f.setting → g.desk ≡ f.desk → SameDesk f g
same-desk f g set_ same = record {
  tells = ap (λ (d : DeskState). d.tells) same;
  reads_rise = omega (arith, ap (λ (d : DeskState). d.read_faults) same);
  writes_rise = omega (arith, ap (λ (d : DeskState). d.write_faults) same);
  files = λ t. same-files f g set_ (ap (λ (d : DeskState). d.files) same);
}

-- a layer that is given

nothing-below : (n : ℕ) → n < 0 → ⊥
nothing-below n h = omega (arith, h)

one-at : (l k n : ℕ) → n < 1 → get_or (l ∷ []) n k ≡ k → k ≡ l
one-at l k zero below e = sym e
one-at l k (suc n) below e = absurd (nothing-below n (omega (arith, below)))

no-element : (l : ℕ) → Contains [] l → ⊥
no-element l c = nothing-below c.0 c.1

Contains-first : (k : ℕ) (ls : List ℕ) → Contains (k ∷ ls) k
Contains-first k ls = (0, omega arith, refl)

Contains-later : (k : ℕ) (ls : List ℕ) (l : ℕ) → Contains ls l → Contains (k ∷ ls) l
Contains-later k ls l c = (suc c.0, omega (arith, c.1), c.2)

pub one-element : (l k : ℕ) → Contains (l ∷ []) k → k ≡ l
one-element l k c = one-at l k c.0 c.1 c.2

once-push : (ls : List ℕ) (l : ℕ) → IsOnce ls → (Contains ls l → ⊥) → IsOnce (ls ++ l ∷ [])
once-push [] l once none = (λ c. no-element l c, tt)
once-push (k ∷ ls) l once none = (
  λ c. ⊎_elim
      (λ in_. once.0 in_)
      (λ at. none (subst (λ (j : ℕ). Contains (k ∷ ls) j) (one-element l k at) (Contains-first k ls)))
      (Contains-append_cases ls (l ∷ []) k c),
  once-push ls l once.1 (λ c. none (Contains-later k ls l c)),
)

-- where only given layers and the layers that were looked at change, it is those that count
only-given-leads : (f : Moment) (given : List ℕ) (first : ℕ) → GivesOn f.given given
    → (GivenOnce f → GivenOnce (record f { given = given; first = first })) → Leads f (record f { given = given; first = first })
only-given-leads f given first on once =
    let g : Moment = record f { given = given; first = first } in
    record {
      start = record { setting = refl; kept_reads = refl; kept_writes = refl; all = refl; fated = refl };
      drives = same-drives f g refl refl;
      desk = same-desk f g refl refl;
      rest = λ t. record { end = refl; asks = refl; asking = λ s a b. refl };
      stays = λ s h. record { state_same = refl; same = record { fate_same = refl; bytes_same = λ t. refl } };
      became = λ s h. unread-same f g s (state_of f.states s) h (record { fate_same = refl; bytes_same = λ t. refl });
      gives_on = on;
      given_once = once;
    }

pub give-leads : GiveLeads
give-leads f l there fresh =
    only-given-leads f (f.given ++ l ∷ []) f.first (l ∷ [], refl)
    (λ o. record {
      once = once-push f.given l o.once fresh;
      there = λ k c. ⊎_elim
          (λ in_. o.there k in_)
          (λ at. subst (λ (j : ℕ). j < layer_count f.setting.terms.shape) (sym (one-element l k at)) there)
          (Contains-append_cases f.given (l ∷ []) k c);
    })

pub look-leads : LookLeads
look-leads f first =
    only-given-leads f f.given first ([], sym (append-nil f.given))
    (λ o. record { once = o.once; there = o.there })

pub read-leads : ReadLeads
read-leads f desk failed only =
    let g : Moment = record f { desk = desk } in
    let bytes : (s : ℕ) → IsTrue f.desk.tells → bytes_at g s ≡ bytes_at f s =
    λ s t. ap (λ (x : Files). part (bytes_of x f.setting.image) (2048 * s) (length_at f s)) (only.unchanged t) in
    record {
      start = record { setting = refl; kept_reads = refl; kept_writes = refl; all = refl; fated = refl };
      drives = same-drives f g refl refl;
      desk = record {
        tells = only.tells;
        reads_rise = only.later;
        writes_rise = omega (arith, only.writes);
        files = λ t. same-files f g refl (only.unchanged t);
      };
      rest = λ t. record { end = refl; asks = refl; asking = λ s a b. refl };
      stays = λ s h. record { state_same = refl; same = record { fate_same = refl; bytes_same = bytes s } };
      became = λ s h. unread-same f g s (state_of f.states s) h (record { fate_same = refl; bytes_same = bytes s });
      gives_on = ([], sym (append-nil f.given));
      given_once = λ o. record { once = o.once; there = o.there };
    }

-- one that may ask for sectors still may

pub ready-on : ReadyOn
ready-on f g leads ready = record {
  all = leads.start.all ∙ ready.all ∙ ap (λ (x : Setting). x.terms.known.sectors) (sym leads.start.setting);
  fated = leads.start.fated ∙ ready.fated ∙ ap (λ (x : Setting). x.terms.known.sectors) (sym leads.start.setting);
  last_fits = subst (λ (x : Setting). x.terms.known.last_bytes ≤ 2048) (sym leads.start.setting) ready.last_fits;
  places = λ t.
      let told : IsTrue f.desk.tells = subst (λ (b : Bool). IsTrue b) leads.desk.tells t in
      let known : image_len (known_at g) ≡ image_len (known_at f) = ap (λ (x : Setting). image_len x.terms.known) leads.start.setting in
      omega (arith, known, ready.places told, (leads.desk.files told).len);
}
