-- Asking the drives from one on, and then the drives behind the one that answered.
use Rattle.std.proofs.Common.{◌≡◌, ℕ, zero, suc, ◌+◌, ◌*◌, ◌-◌, ◌^◌, ◌<◌, ◌≤◌, ◌∙◌, ap, arith, sym, refl, subst, List, [], ◌∷◌, ◌++◌, Option, Some, None, Bool, true, false, cond, take, drop, length, ⊎_elim, append_assoc, append-nil}
use Rattle.std.specs.Prelude.{slice_get, IsTrue, is_some, ◌||◌}
use Rattle.std.specs.Option.{option_map}
use Rattle.std.proofs.Math.Nat.{mul-suc}
use Rattle.std.proofs.lemmas.Bool.{cases_lt}
use Rattle.std.proofs.lemmas.Option.{slice_get_within}
use Rattle.std.proofs.lemmas.List.{map-append, take-append-drop, length-drop, drop_all, drop-drop, take_all}
use Rattle.std.proofs.lemmas.List.Sums.{sum_by-cons}
use Rattle.rs01_outside.specs.DriveState.{DriveState}
use Rattle.rs01_outside.specs.DriveView.{DriveView, Answer, answer_at, ask}
use Rattle.rs01_rack.specs.Asking.{GaveBlock, GaveNone, IsTried, Tried, try_drive}
use Rattle.rs01_rack.specs.Rack.{AllTell, AtDrive, RackState, SameBefore, capped, views_of}
use Rattle.rs01_rack.proofs.Places.{same_before, same_from, slice_get-drop}
use Rattle.rs01_ecchead.specs.Erased.{Known}
use Rattle.rs01_linear.specs.Lasting.{Lasts, RackLasts, asks_in}
use Rattle.rs01_linear.proofs.LastingLemmas.{lasts_then, rack_lasts, same_lasts, split_asks, told_before, views}
use Rattle.rs01_linear.specs.Asking.{Asking, Asks, after_vain, ask_drives, as_block, is_good, kind_of}
use Rattle.rs01_linear.specs.declared.asking.Asked.{Asked}
use Rattle.rs01_linear.specs.declared.asking.Asked.TheVariants.{Altered, Read, Unreadable}

abbrev Tell : List DriveState → Type 0
Tell drives = (k : ℕ) (drive : DriveState) → slice_get drives k ≡ Some drive → IsTrue drive.tells

-- what asking comes to, behind drives that were asked before
abbrev pub behind : List DriveView → Bool → Asking → Asking
behind front answered rest = record { views = front ++ rest.views; read = rest.read; answered = answered || rest.answered }

length_push : (xs : List ℕ) (x : ℕ) → length (xs ++ x ∷ []) ≡ length xs + 1
length_push [] x = refl
length_push (y ∷ ys) x = omega (arith, length_push ys x)

-- a drive's list of asks is longer by as many as it was asked
asked_by : (view : DriveView) (s tries : ℕ) (answer : Answer) → answer_at view s ≡ answer
    → length (try_drive (ask view s) s tries).view.asked ≡ length view.asked + 1 + (try_drive (ask view s) s tries).count
    → length (try_drive view s (suc tries)).view.asked ≡ length view.asked + (try_drive view s (suc tries)).count
unfolding try_drive
asked_by view s tries None is later =
    rw is (omega (arith, later))
asked_by view s tries (Some block) is later =
    rw is (length_push view.asked s)

pub asked_more : (view : DriveView) (s tries : ℕ) → length (try_drive view s tries).view.asked ≡ length view.asked + (try_drive view s tries).count
unfolding try_drive
asked_more view s zero = omega arith
asked_more view s (suc tries) =
    asked_by view s tries (answer_at view s) refl (asked_more (ask view s) s tries ∙ ap (λ n. n + (try_drive (ask view s) s tries).count) (length_push view.asked s))

shown_more : (view after : DriveView) (s tries count : ℕ) (block : Option (List ℕ)) → try_drive view s tries ≡ record { view = after; block = block; count = count }
    → length after.asked ≡ length view.asked + count
shown_more view after s tries count block is =
    ap (λ (t : Tried). length t.view.asked) (sym is) ∙ asked_more view s tries ∙ ap (λ (t : Tried). length view.asked + t.count) is

-- one drive that gave nothing good, and the drives behind it
ask_vain : (known : Known) (s tries : ℕ) (view after : DriveView) (count : ℕ) (block : Option (List ℕ)) (rest : List DriveView)
    → try_drive view s tries ≡ record { view = after; block = block; count = count } → is_good known s block ≡ false
    → ask_drives known s tries (view ∷ rest) ≡ behind (after ∷ []) (is_some block) (ask_drives known s tries rest)
unfolding ask_drives
ask_vain known s tries view after count block rest tried bad =
    ap (λ (t : Tried). cond (is_good known s t.block) (record { views = t.view ∷ rest; read = option_map (as_block known s) t.block; answered = true }) (after_vain t (ask_drives known s tries rest))) tried
    ∙ ap (λ b. cond b (record { views = after ∷ rest; read = option_map (as_block known s) block; answered = true }) (after_vain (record { view = after; block = block; count = count }) (ask_drives known s tries rest))) bad

-- one drive that gave a good block
ask_good : (known : Known) (s tries : ℕ) (view after : DriveView) (count : ℕ) (block : List ℕ) (rest : List DriveView)
    → try_drive view s tries ≡ record { view = after; block = Some block; count = count } → is_good known s (Some block) ≡ true
    → ask_drives known s tries (view ∷ rest) ≡ record { views = after ∷ rest; read = Some (as_block known s block); answered = true }
unfolding ask_drives
ask_good known s tries view after count block rest tried good =
    ap (λ (t : Tried). cond (is_good known s t.block) (record { views = t.view ∷ rest; read = option_map (as_block known s) t.block; answered = true }) (after_vain t (ask_drives known s tries rest))) tried
    ∙ ap (λ b. cond b (record { views = after ∷ rest; read = Some (as_block known s block); answered = true }) (after_vain (record { view = after; block = Some block; count = count }) (ask_drives known s tries rest))) good

-- the drives of a list were tried in vain up to a place
abbrev Vain : ℕ → ℕ → ℕ → List DriveState → List DriveState → Type 0
Vain s tries n old new = (k : ℕ) → k < n → AtDrive old new k (IsTried s tries None tries)

-- what became of drives of which the first n were tried in vain
record FrontVain (known : Known) (s tries n : ℕ) (old new : List DriveState) : Type 0 where
  asking : ask_drives known s tries (views old) ≡ behind (views (take n new)) false (ask_drives known s tries (views (drop n old)))
  asks : asks_in (views new) + asks_in (views (drop n old)) ≡ asks_in (views old) + tries * n + asks_in (views (drop n new))

front_vain : (known : Known) (s tries n : ℕ) (old new : List DriveState) → length new ≡ length old → n ≤ length old → Vain s tries n old new → Tell new → FrontVain known s tries n old new
front_vain known s tries zero old new same inside vain tell =
    let none : tries * 0 ≡ 0 = omega arith in
    record { asking = refl; asks = omega (arith, none) }
front_vain known s tries (suc n) [] new same inside vain tell = absurd (omega (arith, inside))
front_vain known s tries (suc n) (o ∷ old) [] same inside vain tell = absurd (omega (arith, same))
front_vain known s tries (suc n) (o ∷ old) (x ∷ new) same inside vain tell =
    let here = (vain 0 (omega arith) o x refl refl).told (tell 0 x refl) in
    let later = front_vain known s tries n old new (omega (arith, same)) (omega (arith, inside)) (λ k low. vain (suc k) (omega (arith, low))) (λ k. tell (suc k)) in
    let product : tries * suc n ≡ tries * n + tries = mul-suc tries n in
    record {
      asking =
          ask_vain known s tries o.view x.view tries None (views old) here refl
          ∙ ap (behind (x.view ∷ []) false) later.asking;
      asks = omega (
        arith,
        later.asks,
        product,
        shown_more o.view x.view s tries tries None here,
        sum_by-cons (λ (v : DriveView). length v.asked) o.view (views old),
        sum_by-cons (λ (v : DriveView). length v.asked) x.view (views new),
      );
    }

-- the drives of a list up to a place were tried in vain, and the one there gave a block
record FrontFound (known : Known) (s tries n count : ℕ) (block : List ℕ) (old new : List DriveState) : Type 0 where
  good :
      is_good known s (Some block) ≡ true → ask_drives known s tries (views old) ≡ record { views = views new; read = Some (as_block known s block); answered = true }
  bad :
      is_good known s (Some block) ≡ false
      → ask_drives known s tries (views old) ≡ behind (views (take (suc n) new)) true (ask_drives known s tries (views (drop (suc n) new)))
  asks : asks_in (views new) ≡ asks_in (views old) + (tries * n + count)

front_found : (known : Known) (s tries n count : ℕ) (block : List ℕ) (old new : List DriveState) → length new ≡ length old → n < length old → Vain s tries n old new
    → AtDrive old new n (IsTried s tries (Some block) count) → drop (suc n) new ≡ drop (suc n) old → Tell new → FrontFound known s tries n count block old new
front_found known s tries n count block [] new same inside vain here after tell = absurd (omega (arith, inside))
front_found known s tries n count block (o ∷ old) [] same inside vain here after tell = absurd (omega (arith, same))
front_found known s tries zero count block (o ∷ old) (x ∷ new) same inside vain here after tell =
    let tried = (here o x refl refl).told (tell 0 x refl) in
    let none : tries * 0 ≡ 0 = omega arith in
    let shown = shown_more o.view x.view s tries count (Some block) tried in
    record {
      good = λ good.
          ask_good known s tries o.view x.view count block (views old) tried good
          ∙ ap (λ (d : List DriveState). record { views = x.view ∷ views d; read = Some (as_block known s block); answered = true }) (sym after);
      bad = λ bad.
          ask_vain known s tries o.view x.view count (Some block) (views old) tried bad
          ∙ ap (λ (d : List DriveState). behind (x.view ∷ []) true (ask_drives known s tries (views d))) (sym after);
      asks = omega (
        arith,
        shown,
        none,
        ap (λ (d : List DriveState). asks_in (views d)) after,
        sum_by-cons (λ (v : DriveView). length v.asked) o.view (views old),
        sum_by-cons (λ (v : DriveView). length v.asked) x.view (views new),
      );
    }
front_found known s tries (suc n) count block (o ∷ old) (x ∷ new) same inside vain here after tell =
    let first = (vain 0 (omega arith) o x refl refl).told (tell 0 x refl) in
    let later = front_found known s tries n count block old new (omega (arith, same)) (omega (arith, inside)) (λ k low. vain (suc k) (omega (arith, low))) (λ b a was is. here b a was is) after (λ k. tell (suc k)) in
    let product : tries * suc n ≡ tries * n + tries = mul-suc tries n in
    record {
      good = λ good. ask_vain known s tries o.view x.view tries None (views old) first refl ∙ ap (behind (x.view ∷ []) false) (later.good good);
      bad = λ bad. ask_vain known s tries o.view x.view tries None (views old) first refl ∙ ap (behind (x.view ∷ []) false) (later.bad bad);
      asks = omega (
        arith,
        later.asks,
        product,
        shown_more o.view x.view s tries tries None first,
        sum_by-cons (λ (v : DriveView). length v.asked) o.view (views old),
        sum_by-cons (λ (v : DriveView). length v.asked) x.view (views new),
      );
    }

take_none : {X : Type 0} (n : ℕ) → ◌≡◌ {A = List X} (take n []) []
take_none zero = refl
take_none (suc n) = refl

take_add : {X : Type 0} (m n : ℕ) (xs : List X) → take m xs ++ take n (drop m xs) ≡ take (m + n) xs
take_add zero n xs = ap (λ k. take k xs) (let e : n ≡ 0 + n = omega arith in e)
take_add (suc m) n [] = take_none n ∙ ap (λ k. take k []) (let e : suc (m + n) ≡ suc m + n = omega arith in e)
take_add (suc m) n (x ∷ xs) = ap (λ ys. x ∷ ys) (take_add m n xs) ∙ ap (λ k. take k (x ∷ xs)) (let e : suc (m + n) ≡ suc m + n = omega arith in e)

drop_add : {X : Type 0} (m n : ℕ) (xs : List X) → drop n (drop m xs) ≡ drop (m + n) xs
drop_add m n xs = drop-drop n m xs

-- of two fronts one is made
join : (one two : List DriveView) (answered : Bool) (rest : Asking) → behind one answered (behind two true rest) ≡ behind (one ++ two) true rest
join one two true rest = ap (λ vs. record { views = vs; read = rest.read; answered = true }) (sym (append_assoc one two rest.views))
join one two false rest = ap (λ vs. record { views = vs; read = rest.read; answered = true }) (sym (append_assoc one two rest.views))

-- drives that were asked in order up to one, and what is left to ask
pub record Passed (known : Known) (s tries first : ℕ) (answered : Bool) (old now : RackState) : Type 0 where
  pub fresh : answered ≡ false → (first ≡ 0) × (now ≡ old)
  pub lasts : RackLasts old now
  pub told :
      AllTell now → ask_drives known s tries (views_of old) ≡ behind (views (take first now.drives)) answered (ask_drives known s tries (views (drop first now.drives)))

pub passed_start : (known : Known) (s tries : ℕ) (rack : RackState) → rack.asks < 2 ^ 128 → Passed known s tries 0 false rack rack
passed_start known s tries rack small = record { fresh = λ e. (refl, refl); lasts = rack_lasts rack small; told = λ tell. refl }

-- the drives that a call left alone, tried in vain, or got the block from
found_lasts : (s tries first place : ℕ) (block : List ℕ) (now new : RackState) → GaveBlock s tries first place block now new → (k : ℕ) → AtDrive now.drives new.drives k Lasts
found_lasts s tries first place block now new gave k b a was is =
    ⊎_elim
    (λ low. same_lasts now.drives new.drives k b a (same_before new.drives now.drives first k gave.before low) was is)
    (λ from.
    ⊎_elim
    (λ below. let tried = gave.vain k from below b a was is in record { told_before = tried.told_before; later = tried.later })
    (λ past.
    ⊎_elim
    (λ (low : k < place + 1).
    let e : k ≡ place = omega (arith, low, past) in
    let tried = gave.here b a (ap (slice_get now.drives) (sym e) ∙ was) (ap (slice_get new.drives) (sym e) ∙ is) in
    record { told_before = tried.told_before; later = tried.later })
    (λ high. same_lasts now.drives new.drives k b a (same_from new.drives now.drives (place + 1) k gave.behind high) was is)
    (cases_lt k (place + 1)))
    (cases_lt k place))
    (cases_lt k first)

none_lasts : (s tries first : ℕ) (now new : RackState) → GaveNone s tries first now new → (k : ℕ) → AtDrive now.drives new.drives k Lasts
none_lasts s tries first now new gave k b a was is =
    ⊎_elim
    (λ low. same_lasts now.drives new.drives k b a (same_before new.drives now.drives first k gave.before low) was is)
    (λ from. let tried = gave.vain k from (slice_get_within now.drives k b was) b a was is in record { told_before = tried.told_before; later = tried.later })
    (cases_lt k first)

-- what is known of the drives from the first one on
abbrev Rest : Known → ℕ → ℕ → ℕ → ℕ → ℕ → List ℕ → RackState → RackState → Type 0
Rest known s tries first n count block now new = FrontFound known s tries n count block (drop first now.drives) (drop first new.drives)

at_dropped : (P : DriveState → DriveState → Type 0) (now new : List DriveState) (first k : ℕ) → AtDrive now new (first + k) P → AtDrive (drop first now) (drop first new) k P
at_dropped P now new first k holds b a was is = holds b a (sym (slice_get-drop now first k) ∙ was) (sym (slice_get-drop new first k) ∙ is)

tell_dropped : (drives : List DriveState) (first : ℕ) → Tell drives → Tell (drop first drives)
tell_dropped drives first tell k drive is = tell (first + k) drive (sym (slice_get-drop drives first k) ∙ is)

long_dropped : (now new : List DriveState) (first : ℕ) → length new ≡ length now → length (drop first new) ≡ length (drop first now)
long_dropped now new first same = omega (arith, length-drop first new, length-drop first now, same)

found_rest : (known : Known) (s tries first place : ℕ) (block : List ℕ) (now new : RackState) (gave : GaveBlock s tries first place block now new) → AllTell new
    → Rest known s tries first (place - first) gave.count block now new
found_rest known s tries first place block now new gave tell =
    let here : first + (place - first) ≡ place = omega (arith, gave.from) in
    let behind : first + suc (place - first) ≡ place + 1 = omega (arith, gave.from) in
    front_found known s tries (place - first) gave.count block (drop first now.drives) (drop first new.drives)
    (long_dropped now.drives new.drives first gave.number) (omega (arith, length-drop first now.drives, gave.inside, gave.from))
    (λ k low. at_dropped (IsTried s tries None tries) now.drives new.drives first k (gave.vain (first + k) (omega arith) (omega (arith, low))))
    (at_dropped (IsTried s tries (Some block) gave.count) now.drives new.drives first (place - first)
    (subst (λ k. AtDrive now.drives new.drives k (IsTried s tries (Some block) gave.count)) (sym here) gave.here))
    (drop_add first (suc (place - first)) new.drives ∙ ap (λ k. drop k new.drives) behind ∙ gave.behind ∙ ap (λ k. drop k now.drives) (sym behind)
    ∙ sym (drop_add first (suc (place - first)) now.drives))
    (tell_dropped new.drives first tell)

none_rest : (known : Known) (s tries first : ℕ) (now new : RackState) → GaveNone s tries first now new → AllTell new
    → FrontVain known s tries (length (drop first now.drives)) (drop first now.drives) (drop first new.drives)
none_rest known s tries first now new gave tell =
    front_vain known s tries (length (drop first now.drives)) (drop first now.drives) (drop first new.drives)
    (long_dropped now.drives new.drives first gave.number) (omega arith)
    (λ k low. at_dropped (IsTried s tries None tries) now.drives new.drives first k (gave.vain (first + k) (omega arith) (omega (arith, low, length-drop first now.drives))))
    (tell_dropped new.drives first tell)

same_front : (now new : List DriveState) (first : ℕ) → SameBefore first new now → views (take first new) ≡ views (take first now)
same_front now new first same = ap views same

found_rack : (known : Known) (s tries first place : ℕ) (block : List ℕ) (now new : RackState) → GaveBlock s tries first place block now new → RackLasts now new
found_rack known s tries first place block now new gave = record {
  number = gave.number;
  each = found_lasts s tries first place block now new gave;
  later = omega (arith, gave.asks);
  asks = λ tell.
      let rest = found_rest known s tries first place block now new gave tell in
      record {
        more = tries * (place - first) + gave.count;
        shown = omega (arith, rest.asks, split_asks first now.drives, split_asks first new.drives, ap asks_in (same_front now.drives new.drives first gave.before));
        counted = gave.asks ∙ ap capped (let e : now.asks + tries * (place - first) + gave.count ≡ now.asks + (tries * (place - first) + gave.count) = omega arith in e);
      };
}

none_rack : (known : Known) (s tries first : ℕ) (now new : RackState) → GaveNone s tries first now new → RackLasts now new
none_rack known s tries first now new gave = record {
  number = gave.number;
  each = none_lasts s tries first now new gave;
  later = omega (arith, gave.asks);
  asks = λ tell.
      let n = length (drop first now.drives) in
      let rest = none_rest known s tries first now new gave tell in
      let gone : asks_in (views (drop n (drop first now.drives))) ≡ 0 = ap (λ (d : List DriveState). asks_in (views d)) (drop_all n (drop first now.drives) (omega arith)) in
      let gone_too : asks_in (views (drop n (drop first new.drives))) ≡ 0 =
      ap (λ (d : List DriveState). asks_in (views d)) (drop_all n (drop first new.drives) (omega (arith, long_dropped now.drives new.drives first gave.number))) in
      let product : tries * (length now.drives - first) ≡ tries * n = ap (λ k. tries * k) (sym (length-drop first now.drives)) in
      record {
        more = tries * n;
        shown = omega (arith, rest.asks, gone, gone_too, split_asks first now.drives, split_asks first new.drives, ap asks_in (same_front now.drives new.drives first gave.before));
        counted = gave.asks ∙ ap (λ k. capped (now.asks + k)) product;
      };
}

-- a drive gave a block that may not stand for the sector: the drives behind it are left to ask
pub passed_more : (known : Known) (s tries first place : ℕ) (answered : Bool) (block : List ℕ) (old now new : RackState)
    → Passed known s tries first answered old now → GaveBlock s tries first place block now new → is_good known s (Some block) ≡ false
    → Passed known s tries (place + 1) true old new
passed_more known s tries first place answered block old now new passed gave bad =
    let rack = found_rack known s tries first place block now new gave in
    record {
      fresh = λ e. cc;
      lasts = lasts_then old now new passed.lasts rack;
      told = λ tell.
          let rest = found_rest known s tries first place block now new gave tell in
          let n = place - first in
          let e : first + suc n ≡ place + 1 = omega (arith, gave.from) in
          passed.told (told_before now new rack tell)
          ∙ ap (behind (views (take first now.drives)) answered) (rest.bad bad)
          ∙ join (views (take first now.drives)) (views (take (suc n) (drop first new.drives))) answered (ask_drives known s tries (views (drop (suc n) (drop first new.drives))))
          ∙ ap (λ (vs : List DriveView). behind (vs ++ views (take (suc n) (drop first new.drives))) true (ask_drives known s tries (views (drop (suc n) (drop first new.drives)))))
          (sym (same_front now.drives new.drives first gave.before))
          ∙ ap (λ (vs : List DriveView). behind vs true (ask_drives known s tries (views (drop (suc n) (drop first new.drives)))))
          (sym (map-append (λ drive. drive.view) (take first new.drives) (take (suc n) (drop first new.drives)))
          ∙ ap views (take_add first (suc n) new.drives ∙ ap (λ k. take k new.drives) e))
          ∙ ap (λ (d : List DriveState). behind (views (take (place + 1) new.drives)) true (ask_drives known s tries (views d)))
          (drop_add first (suc n) new.drives ∙ ap (λ k. drop k new.drives) e);
    }

whole : (drives : List DriveState) (first : ℕ) → views (take first drives) ++ views (drop first drives) ≡ views drives
whole drives first = sym (map-append (λ drive. drive.view) (take first drives) (drop first drives)) ∙ ap views (take-append-drop first drives)

-- a drive gave a block that may stand for it
pub asks_read : (known : Known) (s tries first place : ℕ) (answered : Bool) (block : List ℕ) (old now new : RackState)
    → Passed known s tries first answered old now → GaveBlock s tries first place block now new → is_good known s (Some block) ≡ true
    → Asks known s tries (as_block known s block) Read old new
asks_read known s tries first place answered block old now new passed gave good =
    let rack = found_rack known s tries first place block now new gave in
    record {
      lasts = lasts_then old now new passed.lasts rack;
      told = λ tell.
          let rest = found_rest known s tries first place block now new gave tell in
          let is = passed.told (told_before now new rack tell) ∙ ap (behind (views (take first now.drives)) answered) (rest.good good) in
          record {
            views_are =
                sym (whole new.drives first) ∙ ap (λ (vs : List DriveView). vs ++ views (drop first new.drives)) (same_front now.drives new.drives first gave.before)
                ∙ sym (ap (λ (a : Asking). a.views) is);
            answer = sym (ap kind_of is);
            block_is = λ e. ap (λ (a : Asking). a.read) is;
          };
    }

abbrev pub no_answer : Bool → Asked
no_answer answered = cond answered Altered Unreadable

nothing_left : (known : Known) (s tries : ℕ) (front : List DriveView) → behind front false (ask_drives known s tries []) ≡ record { views = front; read = None; answered = false }
unfolding ask_drives
nothing_left known s tries front = ap (λ (vs : List DriveView). record { views = vs; read = None; answered = false }) (append-nil front)

-- none of those that were left gave a block
pub asks_none : (known : Known) (s tries first : ℕ) (answered : Bool) (asked : Asked) (any : List ℕ) (old now new : RackState) → asked ≡ no_answer answered
    → Passed known s tries first answered old now → GaveNone s tries first now new
    → Asks known s tries any asked old new
asks_none known s tries first answered asked any old now new kind passed gave =
    let rack = none_rack known s tries first now new gave in
    record {
      lasts = lasts_then old now new passed.lasts rack;
      told = λ tell.
          let n = length (drop first now.drives) in
          let rest = none_rest known s tries first now new gave tell in
          let all : views (take n (drop first new.drives)) ≡ views (drop first new.drives) =
          ap views (take_all n (drop first new.drives) (omega (arith, long_dropped now.drives new.drives first gave.number))) in
          let is =
          passed.told (told_before now new rack tell) ∙ ap (behind (views (take first now.drives)) answered) (rest.asking
          ∙ ap (λ (d : List DriveState). behind (views (take n (drop first new.drives))) false (ask_drives known s tries (views d))) (drop_all n (drop first now.drives) (omega arith))
          ∙ nothing_left known s tries (views (take n (drop first new.drives)))
          ∙ ap (λ (vs : List DriveView). record { views = vs; read = None; answered = false }) all) in
          record {
            views_are =
                sym (whole new.drives first) ∙ ap (λ (vs : List DriveView). vs ++ views (drop first new.drives)) (same_front now.drives new.drives first gave.before)
                ∙ sym (ap (λ (a : Asking). a.views) is);
            answer = kind ∙ sym (ap kind_of is ∙ kind_none answered);
            block_is = λ e. absurd (not_read answered (sym kind ∙ e));
          };
    }
  where
    kind_none : (answered : Bool) → cond (answered || false) Altered Unreadable ≡ no_answer answered
    kind_none true = refl
    kind_none false = refl

    not_read : (answered : Bool) → no_answer answered ≡ Read → ⊥
    not_read true e = cc
    not_read false e = cc
