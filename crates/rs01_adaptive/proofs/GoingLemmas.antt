-- A reader went on, and no answer was taken since: the reading did.
use Rattle.std.proofs.Common.{inl, inr, ◌≡◌, ℕ, ◌+◌, ◌-◌, ◌*◌, ◌/◌, ◌%◌, ◌<◌, ◌≤◌, ⊎_elim, List, [], length, take, drop, get_or, refl, sym, ap, subst, ◌∙◌, arith, Bool, true, false, cond, eqb, option_to_list}
use Rattle.std.specs.Prelude.{◌⊎◌, if◌then◌else◌, is_some, Contains, IsSomeAnd, IsTrue, Option, Some, None, slice_index_or}
use Rattle.std.specs.Option.{unwrap_or}
use Rattle.std.proofs.lemmas.Bool.{cases_Bool, cases_eq, cases_lt, cond-true, cond-false, eq-eqb, ne_eqb, false≢true}
use Rattle.std.proofs.lemmas.List.{get_or-drop, get_or-take, length-append, take-append-le}
use Rattle.rs01_lists.specs.Bytes.{part}
use Rattle.rs01_layers.specs.Sectors.{length_of}
use Rattle.rs01_sums.specs.Marker.{marker}
use Rattle.rs01_outside.specs.Causes.{Rose}
use Rattle.rs01_outside.specs.Files.{Files, SameElsewhere, bytes_of}
use Rattle.rs01_rack.specs.Rack.{AllTell}
use Rattle.rs01_ecchead.specs.Erased.{Known, image_len, is_erased}
use Rattle.rs01_ecchead.specs.Opened.{Opened}
use Rattle.rs01_ecchead.specs.declared.opened.Ecc.{Ecc}
use Rattle.rs01_states.specs.Sparing.{is_open, is_unread, layer_count, state_of}
use Rattle.rs01_states.specs.declared.state.State.{State}
use Rattle.rs01_states.specs.declared.state.State.TheVariants.{Unread, Good, Failed, Spared}
use Rattle.rs01_linear.specs.Asking.{Asking, kind_of}
use Rattle.rs01_linear.specs.Course.{fate_of}
use Rattle.rs01_linear.specs.Left.{marked}
use Rattle.rs01_linear.specs.Spared.{Spares}
use Rattle.rs01_linear.specs.declared.asking.Asked.TheVariants as asked
use Rattle.rs01_linear.specs.declared.fate.Fate.{Fate}
use Rattle.rs01_linear.specs.declared.fate.Fate.TheVariants as fate
use Rattle.rs01_turns.specs.Turns.{Reading}
use Rattle.rs01_turns.specs.Moments.{Moment, Setting, asking_of, bytes_at, fate_at, image_at, known_at, length_at, reading_at, rest_of, terms_of, unread_at}
use Rattle.rs01_turns.specs.Leads.{Became, IsBlend, IsWritten, Leads}
use Rattle.rs01_turns.proofs.Ending.{others-are-left}
use Rattle.rs01_turns.proofs.Leading.{ready-on}
use Rattle.rs01_turns.proofs.Whole.{wholly-written}
use Rattle.rs01_reader.specs.Settled.{IsNamed, IsSet}
use Rattle.rs01_fix.specs.Repair.{strange_in}
use Rattle.rs01_adaptive.specs.Noting.{HasLayers, flag_of}
use Rattle.rs01_adaptive.specs.Putting.{bytes_in}
use Rattle.rs01_adaptive.specs.Sights.{Along, AsksRise, IsAnswered, IsFileOf, IsGuarded, IsSound, IsUnanswered, Sight, Stands, block_so_far, fate_by, file_at, settled_layers}
use Rattle.rs01_adaptive.specs.Whole.{Whole, asking_in, block_left, end_in, fate_asked, fate_in, good_block, is_lacking, is_open_in, known_in, restored_block, sector_left}
use Rattle.rs01_adaptive.specs.declared.noting.Noted.{Noted}
use Rattle.rs01_adaptive.proofs.BlockLemmas.{read_good}

-- counts

pub rose_before : (a b c : ℕ) → a ≤ b → Rose b c → Rose a c
rose_before a b c le rose = omega (arith, le, rose)

pub rose_after : (a b c : ℕ) → b ≤ c → Rose a b → Rose a c
rose_after a b c le rose = omega (arith, le, rose)

-- the error correction file

pub file_same : (c : Option Opened) (opened : Option Ecc) (ecc : Option (List ℕ)) (image : List ℕ) (old new : Files) → IsNamed opened ecc image → SameElsewhere image old new
    → IsFileOf c opened (bytes_of old (unwrap_or ecc [])) → IsFileOf c opened (bytes_of new (unwrap_or ecc []))
file_same None None ecc image old new named same is = is
file_same None (Some e) ecc image old new named same is = absurd is
file_same (Some c) None ecc image old new named same is = absurd is
file_same (Some c) (Some e) None image old new named same is = absurd named
file_same (Some c) (Some e) (Some name) image old new named same is =
    subst (λ (o : Option (List ℕ)). IsFileOf (Some c) (Some e) (unwrap_or o [])) (sym (same name named)) is

file_on : (c : Option Opened) (f g : Moment) → g.setting ≡ f.setting → IsSet f.setting → SameElsewhere f.setting.image f.desk.files g.desk.files
    → IsFileOf c f.setting.opened (file_at f) → IsFileOf c g.setting.opened (file_at g)
file_on c f g set_ is_set same is =
    subst (λ (x : Setting). IsFileOf c x.opened (bytes_of g.desk.files (unwrap_or x.ecc []))) (sym set_)
    (file_same c f.setting.opened f.setting.ecc f.setting.image f.desk.files g.desk.files is_set.named same is)

-- states

unread_open : (x : State) → is_unread x ≡ true → is_open x ≡ true
unread_open Unread h = refl
unread_open Good h = absurd (false≢true h)
unread_open Failed h = absurd (false≢true h)
unread_open Spared h = absurd (false≢true h)

unread_is : (x : State) → is_unread x ≡ true → x ≡ Unread
unread_is Unread h = refl
unread_is Good h = absurd (false≢true h)
unread_is Failed h = absurd (false≢true h)
unread_is Spared h = absurd (false≢true h)

-- a sector that isn't good wasn't before
pub open_before : (f g : Moment) (k : ℕ) → Leads f g → is_open (state_of g.states k) ≡ true → is_open (state_of f.states k) ≡ true
open_before f g k leads is = ⊎_elim
    (λ unread. unread_open (state_of f.states k) unread)
    (λ not_. sym (ap is_open (leads.stays k not_).state_same) ∙ is)
    (cases_Bool (unread_at f k))

unread_before : (f g : Moment) (k : ℕ) → Leads f g → unread_at g k ≡ true → unread_at f k ≡ true
unread_before f g k leads is = ⊎_elim
    (λ unread. unread)
    (λ not_. absurd (false≢true (sym not_ ∙ sym (ap is_unread (leads.stays k not_).state_same) ∙ is)))
    (cases_Bool (unread_at f k))

-- what isn't unread is as it will be at the end
pub last_of : (w : Whole) (g : Moment) (k : ℕ) → rest_of g ≡ end_in w → unread_at g k ≡ false → state_of (end_in w).states k ≡ state_of g.states k
last_of w g k end not_ =
    sym (ap (λ (r : Reading). state_of r.states k) end) ∙ (others-are-left (terms_of g) (reading_at g) k not_).same

-- what became of a sector

lacking_fate : (w : Whole) (k : ℕ) → is_lacking w k ≡ true → fate_in w k ≡ fate_asked (asking_in w k)
lacking_fate w k lacks = ap (λ (b : Bool). cond b (fate_asked (asking_in w k)) fate.Kept) lacks

read_fate : (o : Option Asking) (block : List ℕ) → IsSomeAnd o (λ a. a.read ≡ Some block) → fate_asked o ≡ fate.Read
read_fate None block is = absurd is
read_fate (Some a) block is = ap (λ (r : Option (List ℕ)). fate_of (if is_some r then asked.Read else if a.answered then asked.Altered else asked.Unreadable)) is

failed_fate : (o : Option Asking) (x : Fate) → IsSomeAnd o (λ a. x ≡ fate_of (kind_of a)) → x ≡ fate_asked o
failed_fate None x is = absurd is
failed_fate (Some a) x is = is

fate_became : (w : Whole) (f g : Moment) (k : ℕ) (x : State) → is_lacking w k ≡ true → asking_of f k ≡ asking_in w k → fate_at f k ≡ fate.LeftOut → AllTell g.rack → Became f g k x
    → fate_at g k ≡ fate_by x (fate_in w k)
fate_became w f g k Unread lacks asking was tell b = b.fate_same ∙ was
fate_became w f g k Good lacks asking was tell b =
    let told = b.told tell in
    b.fate_is ∙ sym (lacking_fate w k lacks ∙ sym (ap fate_asked asking) ∙ read_fate (asking_of f k) told.0 told.1.read)
fate_became w f g k Failed lacks asking was tell b =
    failed_fate (asking_of f k) (fate_at g k) (b.told tell) ∙ ap fate_asked asking ∙ sym (lacking_fate w k lacks)
fate_became w f g k Spared lacks asking was tell b = b.fate_same ∙ was

-- the block of a sector

same_so_far : (w : Whole) (f g : Sight) (k : ℕ) → g.noted ≡ f.noted → is_open (state_of g.moment.states k) ≡ is_open (state_of f.moment.states k) → block_so_far w g k ≡ block_so_far w f k
unfolding block_so_far
same_so_far w f g k noted same =
    ap (λ (n : Noted). cond (is_open (state_of g.moment.states k)) (cond (flag_of n.restored.items k) (unwrap_or (restored_block w k) (marker k)) (marker k)) (good_block w k)) noted
    ∙ ap (λ (b : Bool). cond b (cond (flag_of f.noted.restored.items k) (unwrap_or (restored_block w k) (marker k)) (marker k)) (good_block w k)) same

pub good_so_far : (w : Whole) (g : Sight) (k : ℕ) → is_open (state_of g.moment.states k) ≡ false → block_so_far w g k ≡ good_block w k
unfolding block_so_far
good_so_far w g k closed =
    ap (λ (b : Bool). cond b (cond (flag_of g.noted.restored.items k) (unwrap_or (restored_block w k) (marker k)) (marker k)) (good_block w k)) closed

-- a sector that was unread: it is lacking, it is asked for as in the whole reading, and nothing was kept of it
record WasUnread (w : Whole) (f : Sight) (k : ℕ) : Type 0 where
  lacks : is_lacking w k ≡ true
  asking : asking_of f.moment k ≡ asking_in w k
  opened : is_open (state_of f.moment.states k) ≡ true
  bytes : (Rose f.moment.kept_writes f.moment.desk.write_faults → ⊥) → bytes_at f.moment k ≡ take (length_at f.moment k) (block_so_far w f k)
  mixed : IsBlend (bytes_at f.moment k) (bytes_in (known_in w) (marked (known_in w) w.image) k) (sector_left w k)

was_unread : (w : Whole) (asks : ℕ) (f : Sight) (k : ℕ) → Stands w asks f → k < (known_in w).sectors → unread_at f.moment k ≡ true → WasUnread w f k
was_unread w asks f k stands below unread = record {
  lacks = stands.lacking k below (unread_open (state_of f.moment.states k) unread);
  asking = stands.asking k unread;
  opened = unread_open (state_of f.moment.states k) unread;
  bytes = λ none. stands.blocks none k below;
  mixed = stands.mixed k below;
}

-- two moments, and whether a write failed between them
record Between (f g : Sight) : Type 0 where
  leads : Leads f.moment g.moment
  noted : g.noted ≡ f.noted
  tells : IsTrue f.moment.desk.tells
  all : AllTell g.moment.rack
  later : f.moment.kept_writes ≤ f.moment.desk.write_faults

none_before : (f g : Sight) → Between f g → (Rose g.moment.kept_writes g.moment.desk.write_faults → ⊥) → Rose f.moment.kept_writes f.moment.desk.write_faults → ⊥
none_before f g b none rose =
    none (subst (λ (n : ℕ). Rose n g.moment.desk.write_faults) (sym b.leads.start.kept_writes) (rose_after f.moment.kept_writes f.moment.desk.write_faults g.moment.desk.write_faults b.leads.desk.writes_rise rose))

none_between : (f g : Sight) → Between f g → (Rose g.moment.kept_writes g.moment.desk.write_faults → ⊥) → Rose f.moment.desk.write_faults g.moment.desk.write_faults → ⊥
none_between f g b none rose =
    none (subst (λ (n : ℕ). Rose n g.moment.desk.write_faults) (sym b.leads.start.kept_writes) (rose_before f.moment.kept_writes f.moment.desk.write_faults g.moment.desk.write_faults b.later rose))

same_bytes : (w : Whole) (f g : Sight) (k : ℕ) → Between f g → (Rose f.moment.kept_writes f.moment.desk.write_faults → ⊥)
    → ((Rose f.moment.kept_writes f.moment.desk.write_faults → ⊥) → bytes_at f.moment k ≡ take (length_at f.moment k) (block_so_far w f k))
    → is_open (state_of g.moment.states k) ≡ is_open (state_of f.moment.states k) → bytes_at g.moment k ≡ bytes_at f.moment k
    → bytes_at g.moment k ≡ take (length_at f.moment k) (block_so_far w g k)
same_bytes w f g k b none was same bytes =
    bytes ∙ was none ∙ ap (take (length_at f.moment k)) (sym (same_so_far w f g k b.noted same))

bytes_became : (w : Whole) (f g : Sight) (k : ℕ) (x : State) → state_of g.moment.states k ≡ x → Between f g → WasUnread w f k → (Rose g.moment.kept_writes g.moment.desk.write_faults → ⊥)
    → Became f.moment g.moment k x → bytes_at g.moment k ≡ take (length_at f.moment k) (block_so_far w g k)
bytes_became w f g k Unread e b was none r = same_bytes w f g k b (none_before f g b none) was.bytes (ap is_open e ∙ sym was.opened) (r.bytes_same b.tells)
bytes_became w f g k Good e b was none r =
    let told = r.told b.all in
    wholly-written f.moment g.moment k told.0 (none_between f g b none) (told.1.written b.tells)
    ∙ ap (take (length_at f.moment k)) (sym (good_so_far w g k (ap is_open e)
    ∙ read_good w k told.0 was.lacks (subst (λ (o : Option Asking). IsSomeAnd o (λ a. a.read ≡ Some told.0)) was.asking told.1.read)))
bytes_became w f g k Failed e b was none r = same_bytes w f g k b (none_before f g b none) was.bytes (ap is_open e ∙ sym was.opened) (r.bytes_same b.tells)
bytes_became w f g k Spared e b was none r = same_bytes w f g k b (none_before f g b none) was.bytes (ap is_open e ∙ sym was.opened) (r.bytes_same b.tells)

-- each byte of it

same_mixed : (one two old block : List ℕ) → two ≡ one → IsBlend one old block → IsBlend two old block
same_mixed one two old block same was = subst (λ (b : List ℕ). IsBlend b old block) (sym same) was

blend_of : (f g : Moment) (k : ℕ) (block : List ℕ) → IsWritten f g k block → IsBlend (bytes_at g k) (bytes_at f k) (take (length_at f k) block)
blend_of f g k block written i = ⊎_elim
    (λ same. inr (ap (λ (xs : List ℕ). get_or xs i 0) same))
    (λ some. some.1 i)
    written

pub blend_on : (now was old block : List ℕ) → IsBlend was old block → IsBlend now was block → IsBlend now old block
blend_on now was old block before here i = ⊎_elim
    (λ same. ⊎_elim (λ first. inl (same ∙ first)) (λ later. inr (same ∙ later)) (before i))
    (λ is. inr is)
    (here i)

pub closed_left : (w : Whole) (k : ℕ) → is_open_in w k ≡ false → block_left w k ≡ good_block w k
unfolding block_left
closed_left w k closed = ap (λ (b : Bool). cond b (unwrap_or (restored_block w k) (marker k)) (good_block w k)) closed

mixed_became : (w : Whole) (f g : Sight) (k : ℕ) (x : State) → state_of g.moment.states k ≡ x → f.moment.setting.terms.known ≡ known_in w → rest_of g.moment ≡ end_in w → Between f g → WasUnread w f k
    → Became f.moment g.moment k x → IsBlend (bytes_at g.moment k) (bytes_in (known_in w) (marked (known_in w) w.image) k) (sector_left w k)
mixed_became w f g k Unread e known end b was r = same_mixed _ _ _ _ (r.bytes_same b.tells) was.mixed
mixed_became w f g k Good e known end b was r =
    let told = r.told b.all in
    let closed : is_open_in w k ≡ false = ap is_open (last_of w g.moment k end (ap is_unread e) ∙ e) in
    let block : good_block w k ≡ told.0 = read_good w k told.0 was.lacks (subst (λ (o : Option Asking). IsSomeAnd o (λ a. a.read ≡ Some told.0)) was.asking told.1.read) in
    let left : sector_left w k ≡ take (length_at f.moment k) told.0 =
    ap (take (length_of (known_in w).sectors (known_in w).last_bytes k)) (closed_left w k closed ∙ block)
    ∙ ap (λ (n : Known). take (length_of n.sectors n.last_bytes k) told.0) (sym known) in
    blend_on (bytes_at g.moment k) (bytes_at f.moment k) _ (sector_left w k) was.mixed
    (subst (λ (y : List ℕ). IsBlend (bytes_at g.moment k) (bytes_at f.moment k) y) (sym left) (blend_of f.moment g.moment k told.0 (told.1.written b.tells)))
mixed_became w f g k Failed e known end b was r = same_mixed _ _ _ _ (r.bytes_same b.tells) was.mixed
mixed_became w f g k Spared e known end b was r = same_mixed _ _ _ _ (r.bytes_same b.tells) was.mixed

-- what is kept of the layers

-- the answers that were taken are the same
pub record GoesOn (f g : Sight) : Type 0 where
  pub leads : Leads f.moment g.moment
  pub noted : g.noted ≡ f.noted
  pub window : g.window + length f.moment.given ≡ f.window + length g.moment.given
  pub asks : AllTell g.moment.rack → AsksRise f.moment.rack g.moment.rack

settled_size : (f g : Sight) → GoesOn f g → length g.moment.given - g.window ≡ length f.moment.given - f.window
settled_size f g on = omega (arith, on.window)

settled_same : (f g : Sight) → GoesOn f g → settled_layers g ≡ settled_layers f
settled_same f g on =
    let more = on.leads.gives_on in
    ap (λ (n : ℕ). take n g.moment.given) (settled_size f g on)
    ∙ ap (take (length f.moment.given - f.window)) more.1
    ∙ take-append-le (length f.moment.given - f.window) f.moment.given more.0 (omega arith)

layers_on : (w : Whole) (f g : Sight) (l : ℕ) → GoesOn f g → IsAnswered w f l ⊎ IsUnanswered f l → IsAnswered w g l ⊎ IsUnanswered g l
layers_on w f g l on is = ⊎_elim
    (λ (a : IsAnswered w f l). inl (record {
      answer = a.answer;
      value_is = a.value_is;
      flag_is = ap (λ (n : Noted). slice_index_or n.restored.items l false) on.noted ∙ a.flag_is;
      strange_is = subst (λ (n : Noted). IsSomeAnd w.medium.opened (λ c. option_to_list (slice_index_or n.strange.items l None) ≡ strange_in c.fields l a.answer)) (sym on.noted) a.strange_is;
    }))
    (λ (u : IsUnanswered f l). inr (record {
      flag_is = ap (λ (n : Noted). slice_index_or n.restored.items l false) on.noted ∙ u.flag_is;
      strange_is = ap (λ (n : Noted). slice_index_or n.strange.items l None) on.noted ∙ u.strange_is;
      open_yet = λ c. u.open_yet (subst (λ (ls : List ℕ). Contains ls l) (settled_same f g on) c);
    }))
    is

-- the moment that the reader came to is one of the same whole reading

between : (w : Whole) (asks : ℕ) (f g : Sight) → GoesOn f g → IsSound f → IsTrue f.moment.desk.tells → AllTell g.moment.rack → Between f g
between w asks f g on sound tells all = record { leads = on.leads; noted = on.noted; tells = tells; all = all; later = sound.writes_rise }

same_width : (f g : Moment) (k : ℕ) (xs : List ℕ) → g.setting ≡ f.setting → take (length_at g k) xs ≡ take (length_at f k) xs
same_width f g k xs set_ = ap (λ (x : Setting). take (length_of x.terms.known.sectors x.terms.known.last_bytes k) xs) set_

stands_on : (w : Whole) (asks : ℕ) (f g : Sight) → GoesOn f g → IsSound f → IsTrue f.moment.desk.tells → AllTell g.moment.rack → Stands w asks f → Stands w asks g
stands_on w asks f g on sound tells all stands =
    let leads = on.leads in
    let b = between w asks f g on sound tells all in
    let rest = leads.rest all in
    let end : rest_of g.moment ≡ end_in w = rest.end ∙ stands.end_is in
    let known : f.moment.setting.terms.known ≡ known_in w = ap (λ t. t.known) stands.terms_are in
    let files = leads.desk.files tells in
    record {
      terms_are = ap (λ (x : Setting). x.terms) leads.start.setting ∙ stands.terms_are;
      file_is = file_on w.medium.opened f.moment g.moment leads.start.setting sound.set_up files.elsewhere stands.file_is;
      end_is = end;
      asks_are = rest.asks ∙ stands.asks_are;
      asking = λ k unread.
          let was = unread_before f.moment g.moment k leads unread in
          rest.asking k was unread ∙ stands.asking k was;
      last = λ k not_. last_of w g.moment k end not_;
      lacking = λ k below is. stands.lacking k below (open_before f.moment g.moment k leads is);
      fates = λ k below. ⊎_elim
          (λ unread.
          let was = was_unread w asks f k stands below unread in
          fate_became w f.moment g.moment k (state_of g.moment.states k) was.lacks was.asking
          (stands.fates k below ∙ ap (λ (x : State). fate_by x (fate_in w k)) (unread_is (state_of f.moment.states k) unread)) all (leads.became k unread))
          (λ not_.
          let stay = leads.stays k not_ in
          stay.same.fate_same ∙ stands.fates k below ∙ ap (λ (x : State). fate_by x (fate_in w k)) (sym stay.state_same))
          (cases_Bool (unread_at f.moment k));
      blocks = λ none k below. ⊎_elim
          (λ unread. bytes_became w f g k (state_of g.moment.states k) refl b (was_unread w asks f k stands below unread) none (leads.became k unread))
          (λ not_.
          let stay = leads.stays k not_ in
          same_bytes w f g k b (none_before f g b none) (λ no. stands.blocks no k below) (ap is_open stay.state_same) (stay.same.bytes_same tells))
          (cases_Bool (unread_at f.moment k))
          ∙ sym (same_width f.moment g.moment k (block_so_far w g k) leads.start.setting);
      mixed = λ k below. ⊎_elim
          (λ unread. mixed_became w f g k (state_of g.moment.states k) refl known end b (was_unread w asks f k stands below unread) (leads.became k unread))
          (λ not_. same_mixed _ _ _ _ ((leads.stays k not_).same.bytes_same tells) (stands.mixed k below))
          (cases_Bool (unread_at f.moment k));
      layers = λ l low. layers_on w f g l on (stands.layers l low);
      longer = omega (arith, files.len, stands.longer);
      surplus = ap (λ (n : Known). drop (image_len n) (image_at g.moment)) (sym known) ∙ files.surplus ∙ ap (λ (n : Known). drop (image_len n) (image_at f.moment)) known ∙ stands.surplus;
    }

-- what is sound stays so

pub sound_on : (f g : Sight) → GoesOn f g → IsSound f → IsSound g
sound_on f g on sound =
    let leads = on.leads in
    let grown : length g.moment.given ≡ length f.moment.given + length leads.gives_on.0 = ap length leads.gives_on.1 ∙ length-append f.moment.given leads.gives_on.0 in
    record {
      ready = ready-on f.moment g.moment leads sound.ready;
      set_up = subst IsSet (sym leads.start.setting) sound.set_up;
      once = leads.given_once sound.once;
      some_sectors = subst (λ (x : Setting). 1 ≤ x.terms.known.sectors) (sym leads.start.setting) sound.some_sectors;
      some_last = subst (λ (x : Setting). 1 ≤ x.terms.known.last_bytes) (sym leads.start.setting) sound.some_last;
      layers = subst (λ (x : Setting). HasLayers (layer_count x.terms.shape) g.noted) (sym leads.start.setting)
          (subst (λ (n : Noted). HasLayers (layer_count f.moment.setting.terms.shape) n) (sym on.noted) sound.layers);
      window_fits = omega (arith, on.window, sound.window_fits, grown);
      reads_rise = omega (arith, leads.start.kept_reads, sound.reads_rise, leads.desk.reads_rise);
      writes_rise = omega (arith, leads.start.kept_writes, sound.writes_rise, leads.desk.writes_rise);
    }

-- what is good stays

-- byte k behind the image, or in a sector
pub at_byte : (n last k : ℕ) → 1 ≤ n → last ≤ 2048 → (2048 * (n - 1) + last ≤ k) ⊎ ((k / 2048 < n) × (k % 2048 < length_of n last (k / 2048)))
at_byte n last k some few =
    let s : ℕ = k / 2048 in
    let j : ℕ = k % 2048 in
    ⊎_elim
    (λ (below : s < n). ⊎_elim
    (λ (e : s + 1 ≡ n).
    let width = cond-true (eqb (s + 1) n) last 2048 (eq-eqb (s + 1) n e) in
    ⊎_elim
    (λ (low : j < last). inr (below, omega (arith, width, low)))
    (λ (past : last ≤ j). inl (omega (arith, e, past)))
    (cases_lt j last))
    (λ d.
    let width = cond-false (eqb (s + 1) n) last 2048 (ne_eqb (s + 1) n d) in
    inr (below, omega (arith, width)))
    (cases_eq (s + 1) n))
    (λ (past : n ≤ s). inl (omega (arith, past, some, few)))
    (cases_lt s n)

pub past_same : (xs ys : List ℕ) (n k : ℕ) → drop n xs ≡ drop n ys → n ≤ k → get_or xs k 0 ≡ get_or ys k 0
past_same xs ys n k same past =
    let at : n + (k - n) ≡ k = omega (arith, past) in
    ap (λ (i : ℕ). get_or xs i 0) (sym at) ∙ sym (get_or-drop n xs (k - n) 0)
    ∙ ap (λ (zs : List ℕ). get_or zs (k - n) 0) same
    ∙ get_or-drop n ys (k - n) 0 ∙ ap (λ (i : ℕ). get_or ys i 0) at

pub inside_same : (xs ys : List ℕ) (n k : ℕ) → part xs (2048 * (k / 2048)) n ≡ part ys (2048 * (k / 2048)) n → k % 2048 < n → get_or xs k 0 ≡ get_or ys k 0
inside_same xs ys n k same low =
    let p : ℕ = 2048 * (k / 2048) in
    let at : p + k % 2048 ≡ k = omega arith in
    let by : (zs : List ℕ) → get_or (part zs p n) (k % 2048) 0 ≡ get_or zs k 0 = λ zs.
    get_or-take n (drop p zs) (k % 2048) 0 low ∙ get_or-drop p zs (k % 2048) 0 ∙ ap (λ (i : ℕ). get_or zs i 0) at in
    sym (by xs) ∙ ap (λ (zs : List ℕ). get_or zs (k % 2048) 0) same ∙ by ys

-- of a file whose sectors that were good, and whose bytes past the image, are the same, what is to stay stays
pub spares_on : (known : Known) (y old new : List ℕ) → 1 ≤ known.sectors → known.last_bytes ≤ 2048 → length new ≡ length old → drop (image_len known) new ≡ drop (image_len known) old
    → ((s : ℕ) → s < known.sectors → is_erased known y s ≡ false → bytes_in known new s ≡ bytes_in known old s) → Spares known y old → Spares known y new
spares_on known y old new some few long surplus same spares = record {
  longer = omega (arith, long, spares.longer);
  surplus = surplus ∙ spares.surplus;
  same = λ k below stays.
      ⊎_elim
      (λ past. past_same new old (image_len known) k surplus past)
      (λ at. ⊎_elim
      (λ past. past_same new old (image_len known) k surplus past)
      (λ good. inside_same new old (length_of known.sectors known.last_bytes (k / 2048)) k (same (k / 2048) at.0 good) at.1)
      stays)
      (at_byte known.sectors known.last_bytes k some few)
      ∙ spares.same k below stays;
}

guarded_on : (y : List ℕ) (f g : Sight) → GoesOn f g → IsSound f → IsTrue f.moment.desk.tells → IsGuarded y f → IsGuarded y g
guarded_on y f g on sound tells guarded =
    let leads = on.leads in
    let known = known_at f.moment in
    let files = leads.desk.files tells in
    record {
      file_is = subst (λ (x : Setting). Spares x.terms.known y (image_at g.moment)) (sym leads.start.setting)
          (spares_on known y (image_at f.moment) (image_at g.moment) sound.some_sectors sound.ready.last_fits files.len files.surplus
          (λ s below good. ⊎_elim
          (λ unread. absurd (false≢true (sym good ∙ guarded.open_only s below (unread_open (state_of f.moment.states s) unread))))
          (λ not_. sym (same_part f.moment g.moment s leads.start.setting) ∙ (leads.stays s not_).same.bytes_same tells)
          (cases_Bool (unread_at f.moment s)))
          guarded.file_is);
      open_only = λ k below is.
          subst (λ (x : Setting). is_erased x.terms.known y k ≡ true) (sym leads.start.setting)
          (guarded.open_only k (subst (λ (x : Setting). k < x.terms.known.sectors) leads.start.setting below) (open_before f.moment g.moment k leads is));
    }
  where
    same_part : (f g : Moment) (s : ℕ) → g.setting ≡ f.setting → bytes_at g s ≡ bytes_in (known_at f) (image_at g) s
    same_part f g s set_ = ap (λ (x : Setting). part (image_at g) (2048 * s) (length_of x.terms.known.sectors x.terms.known.last_bytes s)) set_

-- so does all
pub along_reader : (f g : Sight) → GoesOn f g → IsSound f → Along f g
along_reader f g on sound = record {
  setting = on.leads.start.setting;
  kept_reads = on.leads.start.kept_reads;
  kept_writes = on.leads.start.kept_writes;
  drives = on.leads.drives;
  asks = on.asks;
  desk = on.leads.desk;
  settled_rise = omega (arith, settled_size f g on);
  sound = λ s. sound_on f g on s;
  told = λ w asks tells all stands. stands_on w asks f g on sound tells all stands;
  stays = λ y tells guarded. guarded_on y f g on sound tells guarded;
}
