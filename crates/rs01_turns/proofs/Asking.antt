-- One ask keeps what a reader keeps.
use Rattle.std.proofs.Common.{inl, inr, ◌≡◌, ℕ, zero, suc, ◌+◌, ◌-◌, ◌*◌, ◌<◌, ◌≤◌, ◌%◌, ⊎_elim, List, [], ◌∷◌, length, take, refl, sym, ap, subst, ◌∙◌, arith, replicate}
use Rattle.std.specs.Prelude.{◌≢◌, Bool, true, false, IsTrue, IsSomeAnd, is_err, Option, Some, None, Result, Ok, Err, if◌then◌else◌, slice_get}
use Rattle.std.specs.Fn.{iterate}
use Rattle.std.proofs.Math.ListN.{set}
use Rattle.std.proofs.lemmas.List.{append-nil, get_or-set_same, get_or-set_other, length-set, length-take, length-take-le}
use Rattle.std.proofs.lemmas.List.Sums.{sum_by-cons}
use Rattle.std.proofs.lemmas.Bool.{cases_eq, false≢true}
use Rattle.rs01_lists.specs.Bytes.{part}
use Rattle.rs01_layers.specs.Layout.{layers_of}
use Rattle.rs01_layers.specs.Sectors.{length_of}
use Rattle.rs01_layers.specs.declared.shape.Shape.{Shape}
use Rattle.rs01_outside.specs.DeskState.{DeskState, OnlyChanges}
use Rattle.rs01_outside.specs.DriveView.{DriveView}
use Rattle.rs01_outside.specs.Files.{WritesAt, bytes_of}
use Rattle.rs01_outside.specs.declared.Failed.{Failed}
use Rattle.rs01_rack.specs.Asking.{Tried, try_drive}
use Rattle.rs01_rack.specs.Rack.{AllRose, AllTell, RackState, capped, views_of}
use Rattle.rs01_ecchead.specs.Erased.{Known, image_len}
use Rattle.rs01_states.specs.declared.state.State.{State}
use Rattle.rs01_states.specs.declared.state.State.TheVariants as state
use Rattle.rs01_states.specs.Sparing.{is_unread, settled, spared_where, state_of, within_bound}
use Rattle.rs01_states.proofs.StateLemmas.{set-elsewhere, spared-at, unread-inside}
use Rattle.rs01_linear.specs.Asking.{Asking, Asks, ask_drives, after_vain, is_good, kind_of}
use Rattle.rs01_linear.specs.Course.{fate_of}
use Rattle.rs01_linear.specs.Lasting.{asks_in}
use Rattle.rs01_linear.specs.declared.asking.Asked.{Asked}
use Rattle.rs01_linear.specs.declared.asking.Asked.TheVariants.{Altered, Read, Unreadable}
use Rattle.rs01_linear.specs.declared.fate.Fate.TheVariants as fate
use Rattle.rs01_linear.proofs.AskLemmas.{asked_more}
use Rattle.rs01_linear.proofs.RoseLemmas.{rose_of, unread_set}
use Rattle.rs01_turns.specs.Turns.{Reading, Terms, after_ask, after_next, asking_at, asking_for, next_of, next_sector, place_after, rest, states_after, step}
use Rattle.rs01_turns.specs.Ends.{state_by}
use Rattle.rs01_turns.specs.Moments.{IsReady, Moment, Setting, asking_of, bytes_at, fate_at, image_at, known_at, length_at, reading_at, rest_of, terms_of}
use Rattle.rs01_turns.specs.Leads.{Became, IsBlend, IsWritten, Leads, SameAt, SameDesk, SameDrives, SameRest}
use Rattle.rs01_turns.specs.Laws.{AskLeads, KeepsRest, Puts, PutsIfRead}
use Rattle.rs01_turns.proofs.Unreads.{after-marks, unread-other}
use Rattle.rs01_turns.proofs.Turning.{next-unread, rest-of-next}
use Rattle.rs01_turns.proofs.Ending.{state-here}
use Rattle.rs01_turns.proofs.Times.{ask-at, same-drive}
use Rattle.rs01_turns.proofs.Leading.{same-desk, unread-same}
use Rattle.rs01_turns.proofs.Placing.{IsPlaced, WroteOver, drop-outside, part-blend, part-here, part-outside, placed, wrote-over}

-- the drives' lists of asks never get shorter

asks-cons : (view : DriveView) (views : List DriveView) → asks_in (view ∷ views) ≡ length view.asked + asks_in views
asks-cons view views = sum_by-cons (λ (v : DriveView). length v.asked) view views

drive-grows : (b : Bool) (view : DriveView) (views : List DriveView) (tried : Tried) (read : Option (List ℕ)) (later : Asking) → length view.asked ≤ length tried.view.asked → asks_in views ≤ asks_in later.views
    → asks_in (view ∷ views) ≤ asks_in (if b then record { views = tried.view ∷ views; read = read; answered = true } else after_vain tried later).views
drive-grows true view views tried read later more rest = omega (arith, more, asks-cons view views, asks-cons tried.view views)
drive-grows false view views tried read later more rest = omega (arith, more, rest, asks-cons view views, asks-cons tried.view later.views)

ask-grows : (known : Known) (s tries : ℕ) (views : List DriveView) → asks_in views ≤ asks_in (ask_drives known s tries views).views
unfolding ask_drives
ask-grows known s tries [] = omega arith
ask-grows known s tries (view ∷ views) =
    drive-grows (is_good known s (try_drive view s tries).block) view views (try_drive view s tries) _ (ask_drives known s tries views)
    (omega (arith, asked_more view s tries)) (ask-grows known s tries views)

next-grows : (terms : Terms) (now : Reading) (next : Option ℕ) → asks_in now.views ≤ asks_in (after_next terms now next).views
unfolding after_ask
next-grows terms now None = omega arith
next-grows terms now (Some s) = ask-grows terms.known s terms.tries now.views

steps-grow : (terms : Terms) (n : ℕ) (now : Reading) → asks_in now.views ≤ asks_in (iterate (step terms) n now).views
unfolding step
steps-grow terms zero now = omega arith
steps-grow terms (suc n) now = omega (arith, next-grows terms now (next_of now), steps-grow terms n (step terms now))

pub rest-grows : (terms : Terms) (now : Reading) → asks_in now.views ≤ asks_in (rest terms now).views
unfolding rest
rest-grows terms now = steps-grow terms (length now.states) now

-- the moment after an ask

abbrev after : Moment → ℕ → Asked → RackState → DeskState → Moment
after f s asked rack desk = record f {
  states = states_after f.setting.terms.shape f.states s asked;
  place = place_after s asked;
  fates = set f.fates s (fate_of asked);
  rack = rack;
  desk = desk;
}

-- the reading after the ask is that of the definition
same-reading : (f : Moment) (s : ℕ) (block : List ℕ) (asked : Asked) (rack : RackState) (desk : DeskState) → Asks (known_at f) s f.setting.terms.tries block asked f.rack rack → AllTell rack
    → reading_at (after f s asked rack desk) ≡ after_ask (terms_of f) (reading_at f) s
unfolding after_ask
same-reading f s block asked rack desk asks t =
    let told = asks.told t in
    ap (λ (v : List DriveView). record { views = v; states = states_after f.setting.terms.shape f.states s asked; place = place_after s asked }) told.views_are
    ∙ ap (λ (a : Asked). record { views = (asking_at (terms_of f) (reading_at f) s).views; states = states_after f.setting.terms.shape f.states s a; place = place_after s a }) told.answer

-- a count of asks at the end, before and after some more
end-counts : (a more b F G E : ℕ) → b ≡ capped (a + more) → G ≡ F + more → G ≤ E → capped (b + (E - G)) ≡ capped (a + (E - F))
end-counts a more b F G E counted shown grown = omega (arith, counted, shown, grown)

rest-after : (f : Moment) (s : ℕ) (block : List ℕ) (asked : Asked) (rack : RackState) (desk : DeskState) → next_sector f.states f.place ≡ Some s
    → Asks (known_at f) s f.setting.terms.tries block asked f.rack rack → AllTell rack → SameRest f (after f s asked rack desk)
rest-after f s block asked rack desk next asks t =
    let g = after f s asked rack desk in
    let law : KeepsRest (terms_of f) (reading_at f) s = rest-of-next (terms_of f) (reading_at f) s next in
    let same = same-reading f s block asked rack desk asks t in
    let end : rest_of g ≡ rest_of f = ap (rest (terms_of f)) same ∙ law.rest_is in
    let counts = asks.lasts.asks t in
    let grown : asks_in (views_of rack) ≤ asks_in (rest_of g).views = rest-grows (terms_of f) (reading_at g) in
    record {
      end = end;
      asks =
          end-counts f.rack.asks counts.more rack.asks (asks_in (views_of f.rack)) (asks_in (views_of rack)) (asks_in (rest_of g).views) counts.counted counts.shown grown
          ∙ ap (λ (r : Reading). capped (f.rack.asks + (asks_in r.views - asks_in (views_of f.rack)))) end;
      asking = λ k was is.
          ap (λ (r : Reading). asking_for (terms_of f) r k) same
          ∙ law.asking_other k (sym (ap (λ (r : Reading). is_unread (state_of r.states k)) same) ∙ is);
    }

drives-after : (f : Moment) (s : ℕ) (block : List ℕ) (asked : Asked) (rack : RackState) (desk : DeskState) → Asks (known_at f) s f.setting.terms.tries block asked f.rack rack
    → (asked ≡ Unreadable → AllRose 0 f.rack rack) → SameDrives f (after f s asked rack desk)
drives-after f s block asked rack desk asks cause = record {
  number = asks.lasts.number;
  each = asks.lasts.each;
  asks_rise = asks.lasts.later;
  rose = λ k b a was is.
      let rose = rose_of asked f.rack rack asks.lasts cause k b a was is in
      omega (arith, rose, unread_set f.fates s (fate_of asked));
  asked = λ t k b a was is.
      let at = ask-at (known_at f) s f.setting.terms.tries (views_of f.rack) k b was in
      let there = ap (λ (vs : List DriveView). slice_get vs k) (sym (asks.told t).views_are) ∙ is in (
        replicate at.times.count s,
        ap (λ (v : DriveView). v.asked) (same-drive (ask_drives (known_at f) s f.setting.terms.tries (views_of f.rack)).views k at.other a at.there there)
            ∙ at.times.asked,
      );
}

-- what was written

-- the sector's place has the block or the same bytes, by what was answered
abbrev HasPut : Moment → Moment → ℕ → List ℕ → Asked → Type 0
HasPut f g s block Read = IsTrue f.desk.tells → IsWritten f g s block
HasPut f g s block Unreadable = IsTrue f.desk.tells → bytes_at g s ≡ bytes_at f s
HasPut f g s block Altered = IsTrue f.desk.tells → bytes_at g s ≡ bytes_at f s

record DeskAfter (f g : Moment) (s : ℕ) (block : List ℕ) (asked : Asked) : Type 0 where
  same : SameDesk f g
  others : (k : ℕ) → k ≢ s → IsTrue f.desk.tells → bytes_at g k ≡ bytes_at f k
  here : HasPut f g s block asked

desk-kept : (f g : Moment) (s : ℕ) (block : List ℕ) → g.setting ≡ f.setting → g.desk ≡ f.desk → (k : ℕ) → bytes_at g k ≡ bytes_at f k
desk-kept f g s block setting desk k =
    ap (λ (x : Setting). part (bytes_of g.desk.files x.image) (2048 * k) (length_of x.terms.known.sectors x.terms.known.last_bytes k)) setting
    ∙ ap (λ (d : DeskState). part (bytes_of d.files f.setting.image) (2048 * k) (length_at f k)) desk

here-written : (f g : Moment) (s : ℕ) (block : List ℕ) (written : Result Unit Failed) → Puts f g s block written → length (take (length_at f s) block) ≡ length_at f s
    → 2048 * s + length_at f s ≤ length (image_at f) → g.setting ≡ f.setting
    → WroteOver (image_at f) (image_at g) (take (length_at f s) block) (2048 * s) written → IsWritten f g s block
here-written f g s block (Ok u) puts long fits setting wrote =
    let all = wrote.all u refl in
    inl (
    ap (λ (x : Setting). part (image_at g) (2048 * s) (length_of x.terms.known.sectors x.terms.known.last_bytes s)) setting
    ∙ part-here (image_at f) (image_at g) (2048 * s) (take wrote.kept (take (length_at f s) block)) (length_at f s) wrote.over (ap length all ∙ long) fits ∙ all
    )
here-written f g s block (Err e) puts long fits setting wrote =
    inr (
      puts.only.rose refl,
      subst (λ (x : Setting). IsBlend (part (image_at g) (2048 * s) (length_of x.terms.known.sectors x.terms.known.last_bytes s)) (bytes_at f s) (take (length_at f s) block)) (sym setting)
          (part-blend (image_at f) (image_at g) (2048 * s) (take (length_at f s) block) wrote.kept (length_at f s) wrote.over (omega (arith, long))),
    )

wrote-at : (f g : Moment) (s : ℕ) (block : List ℕ) (written : Result Unit Failed) → 2048 * s + length (take (length_at f s) block) ≤ length (image_at f) → g.setting ≡ f.setting → IsTrue f.desk.tells
    → Puts f g s block written → WroteOver (image_at f) (image_at g) (take (length_at f s) block) (2048 * s) written
wrote-at f g s block written fits setting t puts =
    subst (λ (x : Setting). WroteOver (image_at f) (bytes_of g.desk.files x.image) (take (length_at f s) block) (2048 * s) written) (sym setting)
    (wrote-over f.desk.files g.desk.files f.setting.image (take (length_at f s) block) (2048 * s) written fits (puts.put t))

desk-read : (f g : Moment) (s : ℕ) (block : List ℕ) (written : Result Unit Failed) → IsReady f → s < length f.states → length block ≡ 2048 → g.setting ≡ f.setting → Puts f g s block written
    → DeskAfter f g s block Read
desk-read f g s block written ready there len setting puts =
    let known = known_at f in
    let at : IsPlaced known.sectors known.last_bytes s = placed known.sectors known.last_bytes s ready.last_fits (omega (arith, there, ready.all)) in
    let n = length_at f s in
    let own = take n block in
    let long : length own ≡ n = length-take-le n block (omega (arith, at.most, len)) in
    let fits : IsTrue f.desk.tells → 2048 * s + n ≤ length (image_at f) = λ t. omega (arith, at.fits, ready.places t) in
    let wrote : IsTrue f.desk.tells → WroteOver (image_at f) (image_at g) own (2048 * s) written =
    λ t. wrote-at f g s block written (omega (arith, fits t, long)) setting t puts in
    record {
      same = record {
        tells = puts.only.tells;
        reads_rise = omega (arith, puts.only.reads);
        writes_rise = puts.only.later;
        files = λ t.
            let w = wrote t in
            record {
              len = w.over.len;
              surplus = drop-outside (image_at f) (image_at g) (2048 * s) (take w.kept own) (image_len known) w.over (omega (arith, at.fits, long, length-take w.kept own));
              elsewhere = puts.only.elsewhere t;
            };
      };
      others = λ k d t.
          let w = wrote t in
          ap (λ (x : Setting). part (image_at g) (2048 * k) (length_of x.terms.known.sectors x.terms.known.last_bytes k)) setting
          ∙ part-outside (image_at f) (image_at g) (2048 * s) (take w.kept own) (2048 * k) (length_at f k) w.over
          (⊎_elim (λ (before : 2048 * k + length_at f k ≤ 2048 * s). inl before) (λ (behind : 2048 * s + n ≤ 2048 * k). inr (omega (arith, behind, long, length-take w.kept own))) (at.apart k d));
      here = λ t. here-written f g s block written puts long (fits t) setting (wrote t);
    }

desk-after : (f g : Moment) (s : ℕ) (block : List ℕ) (asked : Asked) → IsReady f → s < length f.states → length block ≡ 2048 → g.setting ≡ f.setting → PutsIfRead f g s block asked
    → DeskAfter f g s block asked
desk-after f g s block Read ready there len setting puts = desk-read f g s block puts.0 ready there len setting puts.1
desk-after f g s block Unreadable ready there len setting puts = record {
  same = same-desk f g setting puts;
  others = λ k d t. desk-kept f g s block setting puts k;
  here = λ t. desk-kept f g s block setting puts s;
}
desk-after f g s block Altered ready there len setting puts = record {
  same = same-desk f g setting puts;
  others = λ k d t. desk-kept f g s block setting puts k;
  here = λ t. desk-kept f g s block setting puts s;
}

-- what it makes of another sector that is unread

unread-spared : (f g : Moment) (k : ℕ) (w : Bool) (x : State) → is_unread x ≡ true → SameAt f g k → Became f g k (spared_where x w)
unfolding spared_where
unread-spared f g k true state.Unread h same = same
unread-spared f g k false state.Unread h same = same
unread-spared f g k w state.Good h same = absurd (false≢true h)
unread-spared f g k w state.Failed h same = absurd (false≢true h)
unread-spared f g k w state.Spared h same = absurd (false≢true h)

settled-became : (f g : Moment) (shape : Option Shape) (xs : List State) (k : ℕ) → is_unread (state_of xs k) ≡ true → SameAt f g k → Became f g k (state_of (settled shape xs) k)
settled-became f g None xs k was same = unread-same f g k (state_of xs k) was same
settled-became f g (Some shape) xs k was same =
    let layers = layers_of shape.sectors shape.parity in
    subst (λ (x : State). Became f g k x) (sym (spared-at layers shape.parity xs k)) (unread-spared f g k (within_bound layers shape.parity (k % layers) xs) (state_of xs k) was same)

other-became : (f g : Moment) (shape : Option Shape) (xs : List State) (s k : ℕ) (asked : Asked) → k ≢ s → is_unread (state_of xs k) ≡ true → SameAt f g k
    → Became f g k (state_of (states_after shape xs s asked) k)
unfolding states_after
other-became f g shape xs s k Read d was same = settled-became f g shape (set xs s state.Good) k (ap is_unread (set-elsewhere xs s k state.Good d) ∙ was) same
other-became f g shape xs s k Unreadable d was same = unread-same f g k _ (ap is_unread (set-elsewhere xs s k state.Failed d) ∙ was) same
other-became f g shape xs s k Altered d was same = unread-same f g k _ (ap is_unread (set-elsewhere xs s k state.Failed d) ∙ was) same

-- what became of the sector
here-became : (f g : Moment) (s : ℕ) (block : List ℕ) (asked : Asked) → fate_at g s ≡ fate_of asked → (AllTell g.rack → asked ≡ kind_of (asking_at (terms_of f) (reading_at f) s))
    → (AllTell g.rack → asked ≡ Read → (asking_at (terms_of f) (reading_at f) s).read ≡ Some block) → asking_of f s ≡ Some (asking_at (terms_of f) (reading_at f) s) → HasPut f g s block asked
    → Became f g s (state_by asked)
here-became f g s block Read is kind block_is here put = record {
  fate_is = is;
  told = λ t. (
    block,
    record {
      read = subst (λ (o : Option Asking). IsSomeAnd o (λ a. a.read ≡ Some block)) (sym here) (block_is t refl);
      written = put;
    },
  );
}
here-became f g s block Unreadable is kind block_is here put = record {
  fate_is = inl is;
  told = λ t. subst (λ (o : Option Asking). IsSomeAnd o (λ a. fate_at g s ≡ fate_of (kind_of a))) (sym here) (is ∙ ap fate_of (kind t));
  bytes_same = put;
}
here-became f g s block Altered is kind block_is here put = record {
  fate_is = inr is;
  told = λ t. subst (λ (o : Option Asking). IsSomeAnd o (λ a. fate_at g s ≡ fate_of (kind_of a))) (sym here) (is ∙ ap fate_of (kind t));
  bytes_same = put;
}

-- all of it

lead-after : (f : Moment) (s : ℕ) (block : List ℕ) (asked : Asked) (rack : RackState) (desk : DeskState) → IsReady f → next_sector f.states f.place ≡ Some s
    → Asks (known_at f) s f.setting.terms.tries block asked f.rack rack → (asked ≡ Unreadable → AllRose 0 f.rack rack) → length block ≡ 2048
    → PutsIfRead f (after f s asked rack desk) s block asked → Leads f (after f s asked rack desk)
lead-after f s block asked rack desk ready next asks cause len puts =
    let g = after f s asked rack desk in
    let shape = f.setting.terms.shape in
    let was = next-unread f.states f.place s next in
    let there = unread-inside f.states s was in
    let law : KeepsRest (terms_of f) (reading_at f) s = rest-of-next (terms_of f) (reading_at f) s next in
    let m = after-marks shape f.states s asked was in
    let put = desk-after f g s block asked ready there len refl puts in
    let other : (k : ℕ) → k ≢ s → SameAt f g k =
    λ k d. record { fate_same = get_or-set_other f.fates s k (fate_of asked) fate.LeftOut d; bytes_same = put.others k d } in
    record {
      start = record { setting = refl; kept_reads = refl; kept_writes = refl; all = m.long; fated = length-set f.fates s (fate_of asked) };
      drives = drives-after f s block asked rack desk asks cause;
      desk = put.same;
      rest = λ t. rest-after f s block asked rack desk next asks t;
      stays = λ k not_. record { state_same = m.stays k not_; same = other k (unread-other f.states s k was not_) };
      became = λ k unread. ⊎_elim
          (λ (e : k ≡ s). subst (λ (j : ℕ). Became f g j (state_of (states_after shape f.states s asked) j)) (sym e)
          (subst (λ (x : State). Became f g s x) (sym (state-here shape f.states s asked was))
          (here-became f g s block asked (get_or-set_same f.fates s (fate_of asked) fate.LeftOut (omega (arith, there, ready.all, ready.fated)))
          (λ t. (asks.told t).answer) (λ t. (asks.told t).block_is) law.asking_here put.here)))
          (λ (d : k ≢ s). other-became f g shape f.states s k asked d unread (other k d))
          (cases_eq k s);
      gives_on = ([], sym (append-nil f.given));
      given_once = λ o. record { once = o.once; there = o.there };
    }

-- the write is of the desk alone
same-puts : (f g h : Moment) (s : ℕ) (block : List ℕ) (asked : Asked) → h.desk ≡ g.desk → PutsIfRead f g s block asked → PutsIfRead f h s block asked
same-puts f g h s block Read same puts = (
  puts.0,
  record {
    only = subst (λ (d : DeskState). OnlyChanges f.setting.image f.desk d (is_err puts.0)) (sym same) puts.1.only;
    put = λ t. subst (λ (d : DeskState). WritesAt f.desk.files d.files f.setting.image (2048 * s) (take (length_at f s) block) puts.0) (sym same) (puts.1.put t);
  },
)
same-puts f g h s block Unreadable same puts = same ∙ puts
same-puts f g h s block Altered same puts = same ∙ puts

pub ask-leads : AskLeads
ask-leads f g s block asked ready next done =
    subst (λ (m : Moment). Leads f m) (sym done.marks)
    (lead-after f s block asked g.rack g.desk ready next done.asks done.cause done.len (same-puts f g (after f s asked g.rack g.desk) s block asked refl done.puts))
