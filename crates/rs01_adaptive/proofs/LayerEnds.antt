-- What is kept of each layer at the end of a reading by turns.
use Rattle.std.proofs.Common.{inl, inr, ◌≡◌, ℕ, suc, ◌+◌, ◌-◌, ◌%◌, ◌<◌, ⊎_elim, List, [], ◌∷◌, ◌++◌, length, get_or, refl, sym, ap, subst, ◌∙◌, arith, option_to_list}
use Rattle.std.specs.Prelude.{◌⊎◌, ◌&&◌, Bool, true, false, if◌then◌else◌, Contains, IsSomeAnd, Option, Some, None, is_some, nat_lt}
use Rattle.std.specs.List.{flat_map, range_with_len}
use Rattle.std.specs.Option.{option_and_then, option_map_or, unwrap_or}
use Rattle.std.proofs.lemmas.Bool.{cases_Bool, false≢true, lt-ltb}
use Rattle.std.proofs.lemmas.List.{take_all}
use Rattle.std.proofs.lemmas.List.FromFn.{get_or-map-range_with_len}
use Rattle.std.proofs.lemmas.Option.{none-some}
use Rattle.rs01_layers.specs.Layout.{IsShape, layer_of, layers_of, place_of}
use Rattle.rs01_layers.specs.declared.shape.Shape.{Shape}
use Rattle.rs01_layers.specs.declared.task.LayerOut.{LayerOut}
use Rattle.rs01_layers.specs.declared.task.LayerOut.TheVariants.{Parity, Restored, Beyond, Inconsistent, BadSum}
use Rattle.rs01_layers.proofs.PlaceLemmas.{each_sector_has_a_place, place_determines_sector}
use Rattle.rs01_ecchead.specs.Opened.{Opened}
use Rattle.rs01_report.specs.declared.reports.Strange.{Strange}
use Rattle.rs01_repair.specs.Inputs.{answer_of, flag_at as flag_at_place, flags_at, place_number}
use Rattle.rs01_repair.specs.Restored.{HasBlocks, IsBlockWhere, is_restored, restored_at}
use Rattle.rs01_repair.proofs.CorrectLemmas.{answer_has_blocks}
use Rattle.rs01_states.specs.Sparing.{is_within, layer_count}
use Rattle.rs01_fix.specs.Repair.{strange_in}
use Rattle.rs01_turns.specs.Moments.{reading_at, terms_of}
use Rattle.rs01_turns.specs.Turns.{NoneUnread, Reading}
use Rattle.rs01_turns.proofs.Turning.{rest-of-done}
use Rattle.rs01_adaptive.specs.Noting.{flag_of, strange_noted}
use Rattle.rs01_adaptive.specs.Sights.{IsAnswered, IsFinished, IsUnanswered, Sight, Stands, flag_at, settled_layers, strange_at}
use Rattle.rs01_adaptive.specs.Whole.{IsShapeOf, Whole, block_by, end_in, good_block, is_open_in, known_in, restored_block, strange_by, strange_layers, value_by, value_in}

-- the moment is the end
pub end_is : (w : Whole) (asks : ℕ) (s : Sight) → Stands w asks s → NoneUnread s.moment.states → end_in w ≡ reading_at s.moment
end_is w asks s st none = sym st.end_is ∙ rest-of-done (terms_of s.moment) (reading_at s.moment) none

-- values of layers

none-by : (o : Option Opened) (b : Bool) (v : Opened → LayerOut) → b ≡ false → option_and_then (λ c. if b then Some (v c) else None) o ≡ None
none-by None b v e = refl
none-by (Some c) b v e = ap (λ (x : Bool). if x then Some (v c) else None) e

-- none of a layer beyond its bound
no_value : (w : Whole) (l : ℕ) → is_within w.shape l (end_in w).states ≡ false → value_in w l ≡ None
unfolding value_in
no_value w l beyond = none-by w.medium.opened (is_within w.shape l (end_in w).states) (λ c. answer_of c (good_block w) (is_open_in w) l) beyond

some-by : (b : Bool) (value answer : LayerOut) (P : LayerOut → Type 0) → (if b then Some value else None) ≡ Some answer → P value → P answer
some-by true value answer P e p = subst P (ap (λ (o : Option LayerOut). unwrap_or o value) e) p
some-by false value answer P e p = absurd (none-some answer e)

-- a value has the blocks that it must have
value_has : (w : Whole) (c : Opened) (l : ℕ) (answer : LayerOut) → w.medium.opened ≡ Some c → value_in w l ≡ Some answer → HasBlocks (flags_at c.fields (is_open_in w) l) answer
unfolding value_in
value_has w c l answer e is =
    some-by (is_within w.shape l (end_in w).states) (answer_of c (good_block w) (is_open_in w) l) answer (HasBlocks (flags_at c.fields (is_open_in w) l))
    (sym (ap (option_and_then (λ x. value_by w x l)) e) ∙ is)
    (answer_has_blocks c (good_block w) (is_open_in w) l)

-- what is kept of a layer, by its value

pub record IsKeptOf (w : Whole) (s : Sight) (l : ℕ) : Type 0 where
  pub flag : flag_at s l ≡ option_map_or is_restored (value_in w l) false
  pub strange : (c : Opened) → w.medium.opened ≡ Some c → option_to_list (strange_at s l) ≡ option_map_or (strange_in c.fields l) (value_in w l) []

some-here : (o : Option Opened) (c : Opened) (P : Opened → Type 0) → o ≡ Some c → IsSomeAnd o P → P c
some-here o c P e is = subst (λ (x : Option Opened). IsSomeAnd x P) e is

answered-kept : (w : Whole) (s : Sight) (l : ℕ) → IsAnswered w s l → IsKeptOf w s l
answered-kept w s l a = record {
  flag = a.flag_is ∙ sym (ap (λ (o : Option LayerOut). option_map_or is_restored o false) a.value_is);
  strange = λ c e.
      some-here w.medium.opened c (λ x. option_to_list (strange_at s l) ≡ strange_in x.fields l a.answer) e a.strange_is
      ∙ sym (ap (λ (o : Option LayerOut). option_map_or (strange_in c.fields l) o []) a.value_is);
}

unanswered-kept : (w : Whole) (s : Sight) (l : ℕ) → value_in w l ≡ None → IsUnanswered s l → IsKeptOf w s l
unanswered-kept w s l none u = record {
  flag = u.flag_is ∙ sym (ap (λ (o : Option LayerOut). option_map_or is_restored o false) none);
  strange = λ c e. ap option_to_list u.strange_is ∙ sym (ap (λ (o : Option LayerOut). option_map_or (strange_in c.fields l) o []) none);
}

-- all answers were taken
all-settled : (s : Sight) → s.window ≡ 0 → settled_layers s ≡ s.moment.given
all-settled s none = take_all (length s.moment.given - s.window) s.moment.given (omega (arith, none))

-- a layer that was never given is beyond its bound
beyond : (w : Whole) (asks : ℕ) (s : Sight) (l : ℕ) → Stands w asks s → IsFinished s → l < layer_count w.shape → (Contains (settled_layers s) l → ⊥) → is_within w.shape l (end_in w).states ≡ false
beyond w asks s l st fin low open_yet =
    let none = fin.over.done.none_unread in
    ⊎_elim
    (λ within.
    let shape : s.moment.setting.terms.shape ≡ w.shape = ap (λ t. t.shape) st.terms_are in
    let there : l < layer_count s.moment.setting.terms.shape = subst (λ (h : Option Shape). l < layer_count h) (sym shape) low in
    let now : is_within s.moment.setting.terms.shape l s.moment.states ≡ true =
    (λ i. is_within (shape i) l s.moment.states) ∙ ap (λ (r : Reading). is_within w.shape l r.states) (sym (end_is w asks s st none)) ∙ within in
    absurd (open_yet (subst (λ (xs : List ℕ). Contains xs l) (sym (all-settled s fin.window_is)) (fin.over.done.all_given l there there now))))
    (λ not_. not_)
    (cases_Bool (is_within w.shape l (end_in w).states))

pub kept_of : (w : Whole) (asks : ℕ) (s : Sight) (l : ℕ) → Stands w asks s → IsFinished s → l < layer_count w.shape → IsKeptOf w s l
kept_of w asks s l st fin low = ⊎_elim
    (λ a. answered-kept w s l a)
    (λ u. unanswered-kept w s l (no_value w l (beyond w asks s l st fin low u.open_yet)) u)
    (st.layers l low)

-- restored blocks

block-is : (w : Whole) (c : Opened) (k : ℕ) → w.medium.opened ≡ Some c → restored_block w k ≡ block_by w c k
unfolding restored_block
block-is w c k e = ap (option_and_then (λ x. block_by w x k)) e

pub no_block : (w : Whole) (k : ℕ) → w.medium.opened ≡ None → restored_block w k ≡ None
unfolding restored_block
no_block w k e = ap (option_and_then (λ x. block_by w x k)) e

not-restored : (answer : LayerOut) (p : ℕ) → is_restored answer ≡ false → restored_at answer p ≡ None
not-restored (Parity bytes) p e = refl
not-restored (Restored blocks) p e = absurd (false≢true (sym e))
not-restored (Beyond n) p e = refl
not-restored (Inconsistent b) p e = refl
not-restored (BadSum q) p e = refl

none-at : (v : Option LayerOut) (p : ℕ) → option_map_or is_restored v false ≡ false → option_and_then (λ a. restored_at a p) v ≡ None
none-at None p e = refl
none-at (Some answer) p e = not-restored answer p e

some-where : (flag restored : Bool) (o : Option (List ℕ)) → flag ≡ true → restored ≡ true → IsBlockWhere (flag && restored) o → is_some o ≡ true
some-where true true (Some block) e f is = refl
some-where true true None e f is = absurd is
some-where true false o e f is = absurd (false≢true f)
some-where false restored o e f is = absurd (false≢true e)

some-at : (v : Option LayerOut) (flags : List Bool) (p : ℕ) → ((answer : LayerOut) → v ≡ Some answer → HasBlocks flags answer) → get_or flags p false ≡ true
    → option_map_or is_restored v false ≡ true → is_some (option_and_then (λ a. restored_at a p) v) ≡ true
some-at None flags p has set e = absurd (false≢true e)
some-at (Some answer) flags p has set e = some-where (get_or flags p false) (is_restored answer) (restored_at answer p) set e (has answer refl p)

-- the flag of a sector's place
place-flag : (c : Opened) (gone : ℕ → Bool) (k : ℕ) → IsShape c.fields.sectors c.fields.parity → k < c.fields.sectors → gone k ≡ true
    → get_or (flags_at c.fields gone (layer_of c.fields.sectors c.fields.parity k)) (place_of c.fields.sectors c.fields.parity k) false ≡ true
unfolding flags_at flag_at_place
place-flag c gone k shape below lacks =
    let n = c.fields.sectors in
    let r = c.fields.parity in
    let l = layer_of n r k in
    let p = place_of n r k in
    let place = each_sector_has_a_place n r k shape below in
    let back : place_number c.fields l p ≡ k = place_determines_sector n r k shape in
    get_or-map-range_with_len (flag_at_place c.fields gone l) 0 (255 - r) p p false place.1 (let e : 0 + p ≡ p = omega arith in e)
    ∙ (λ i. nat_lt (back i) n && gone (back i))
    ∙ (λ i. lt-ltb k n below i && lacks i)

-- a sector that isn't good has a restored block exactly where its layer's flag is set

layers-same : (o : Option Opened) (h : Option Shape) (c : Opened) → o ≡ Some c → IsShapeOf o h → layer_count h ≡ layers_of c.fields.sectors c.fields.parity
layers-same o h c e is = by h (subst (λ (x : Option Opened). IsShapeOf x h) e is)
  where
    by : (h : Option Shape) → IsShapeOf (Some c) h → layer_count h ≡ layers_of c.fields.sectors c.fields.parity
    by None is = absurd is
    by (Some shape) is = λ i. layers_of (is.0 i) (is.1 i)

shape-is : (o : Option Opened) (h : Option Shape) (c : Opened) → o ≡ Some c → IsShapeOf o h → IsShape c.fields.sectors c.fields.parity
shape-is o h c e is = by h (subst (λ (x : Option Opened). IsShapeOf x h) e is)
  where
    by : (h : Option Shape) → IsShapeOf (Some c) h → IsShape c.fields.sectors c.fields.parity
    by None is = absurd is
    by (Some shape) is = subst (λ (n : ℕ). IsShape n c.fields.parity) is.0 (subst (λ (r : ℕ). IsShape shape.sectors r) is.1 shape.in_range)

-- the flag of a sector's layer
sector-flag : (s : Sight) (layers k : ℕ) → length s.noted.restored.items ≡ layers → flag_of s.noted.restored.items k ≡ flag_at s (k % layers)
sector-flag s layers k all = ap (λ (n : ℕ). flag_at s (k % n)) all

pub flag_tells :
    (w : Whole) (asks : ℕ) (s : Sight) (c : Opened) (k : ℕ) → Stands w asks s → IsFinished s → IsShapeOf w.medium.opened w.shape → w.medium.opened ≡ Some c → k < c.fields.sectors
    → flag_of s.noted.restored.items k ≡ option_map_or is_restored (value_in w (layer_of c.fields.sectors c.fields.parity k)) false
flag_tells w asks s c k st fin shape e below =
    let n = c.fields.sectors in
    let r = c.fields.parity in
    let layers = layers-same w.medium.opened w.shape c e shape in
    let all : length s.noted.restored.items ≡ layers_of n r = fin.over.sound.layers.restored ∙ ap (λ t. layer_count t.shape) st.terms_are ∙ layers in
    let place = each_sector_has_a_place n r k (shape-is w.medium.opened w.shape c e shape) below in
    let low : layer_of n r k < layer_count w.shape = subst (λ (m : ℕ). layer_of n r k < m) (sym layers) place.0 in
    sector-flag s (layers_of n r) k all ∙ (kept_of w asks s (layer_of n r k) st fin low).flag

-- by whether it has one
by-flag : (b : Bool) (flag : Bool) (o : Option (List ℕ)) → flag ≡ b → (b ≡ false → o ≡ None) → (b ≡ true → is_some o ≡ true) → flag ≡ is_some o
by-flag true flag o e none some = e ∙ sym (some refl)
by-flag false flag o e none some = e ∙ sym (ap is_some (none refl))

pub flag_is_block :
    (w : Whole) (asks : ℕ) (s : Sight) (c : Opened) (k : ℕ) → Stands w asks s → IsFinished s → IsShapeOf w.medium.opened w.shape → w.medium.opened ≡ Some c → k < c.fields.sectors
    → is_open_in w k ≡ true → flag_of s.noted.restored.items k ≡ is_some (restored_block w k)
flag_is_block w asks s c k st fin shape e below lacks =
    let n = c.fields.sectors in
    let r = c.fields.parity in
    let v = value_in w (layer_of n r k) in
    let p = place_of n r k in
    by-flag (option_map_or is_restored v false) (flag_of s.noted.restored.items k) (restored_block w k)
    (flag_tells w asks s c k st fin shape e below)
    (λ not_. block-is w c k e ∙ none-at v p not_)
    (λ set. ap is_some (block-is w c k e)
    ∙ some-at v (flags_at c.fields (is_open_in w) (layer_of n r k)) p (λ answer is. value_has w c (layer_of n r k) answer e is)
    (place-flag c (is_open_in w) k (shape-is w.medium.opened w.shape c e shape) below lacks) set)

-- without a file no flag is set
flag-none : (flags : List Bool) (k : ℕ) → length flags ≡ 0 → flag_of flags k ≡ false
flag-none [] k e = refl
flag-none (b ∷ flags) k e = absurd (not_zero (length flags) e)
  where
    not_zero : (n : ℕ) → suc n ≡ 0 → ⊥
    not_zero n e = omega (arith, e)

no-layers : (o : Option Opened) (h : Option Shape) → o ≡ None → IsShapeOf o h → layer_count h ≡ 0
no-layers o h e is = by h (subst (λ (x : Option Opened). IsShapeOf x h) e is)
  where
    by : (h : Option Shape) → IsShapeOf None h → layer_count h ≡ 0
    by None is = refl
    by (Some shape) is = absurd is

cases-opened : (o : Option Opened) → (o ≡ None) ⊎ ((c : Opened) × (o ≡ Some c))
cases-opened None = inl refl
cases-opened (Some c) = inr (c, refl)

-- what is known of the medium has the file's sectors
pub record HasFile (w : Whole) : Type 0 where
  pub shape : IsShapeOf w.medium.opened w.shape
  pub sectors : (c : Opened) → w.medium.opened ≡ Some c → c.fields.sectors ≡ (known_in w).sectors

pub block_flag : (w : Whole) (asks : ℕ) (s : Sight) (k : ℕ) → Stands w asks s → IsFinished s → HasFile w → k < (known_in w).sectors → is_open_in w k ≡ true
    → flag_of s.noted.restored.items k ≡ is_some (restored_block w k)
block_flag w asks s k st fin file below lacks = ⊎_elim
    (λ none.
    flag-none s.noted.restored.items k (fin.over.sound.layers.restored ∙ ap (λ t. layer_count t.shape) st.terms_are ∙ no-layers w.medium.opened w.shape none file.shape)
    ∙ sym (ap is_some (no_block w k none)))
    (λ some. flag_is_block w asks s some.0 k st fin file.shape some.1 (omega (arith, below, file.sectors some.0 some.1)) lacks)
    (cases-opened w.medium.opened)

-- the strange layers

flat-same : {A B : Type 0} (f : A → List B) (g : ℕ → List B) (d : A) (xs : List A) (a : ℕ) → ((j : ℕ) → j < length xs → f (get_or xs j d) ≡ g (a + j)) → flat_map f xs ≡ flat_map g (range_with_len a (length xs))
flat-same f g d [] a same = refl
flat-same f g d (x ∷ xs) a same =
    let here : f x ≡ g a = same 0 (omega arith) ∙ ap g (let e : a + 0 ≡ a = omega arith in e) in
    let later = flat-same f g d xs (a + 1) (λ j low. same (suc j) (omega (arith, low)) ∙ ap g (let e : a + suc j ≡ a + 1 + j = omega arith in e)) in
    λ i. here i ++ later i

pub strange_tells : (w : Whole) (asks : ℕ) (s : Sight) → Stands w asks s → IsFinished s → IsShapeOf w.medium.opened w.shape → strange_noted s.noted.strange.items ≡ strange_layers w
strange_tells w asks s st fin shape = ⊎_elim
    (λ none.
    no-strange s.noted.strange.items (fin.over.sound.layers.strange ∙ ap (λ t. layer_count t.shape) st.terms_are ∙ no-layers w.medium.opened w.shape none shape)
    ∙ sym (ap (λ (o : Option Opened). option_map_or (strange_by w) o []) none))
    (λ some.
    let c = some.0 in
    let layers = layers-same w.medium.opened w.shape c some.1 shape in
    let all : length s.noted.strange.items ≡ layer_count w.shape = fin.over.sound.layers.strange ∙ ap (λ t. layer_count t.shape) st.terms_are in
    flat-same option_to_list (λ l. option_map_or (strange_in c.fields l) (value_in w l) []) None s.noted.strange.items 0
    (λ j low. (kept_of w asks s j st fin (omega (arith, low, all))).strange c some.1 ∙ ap (λ l. option_map_or (strange_in c.fields l) (value_in w l) []) (let e : j ≡ 0 + j = omega arith in e))
    ∙ ap (λ n. flat_map (λ l. option_map_or (strange_in c.fields l) (value_in w l) []) (range_with_len 0 n)) (all ∙ layers)
    ∙ sym (ap (λ (o : Option Opened). option_map_or (strange_by w) o []) some.1))
    (cases-opened w.medium.opened)
  where
    no-strange : (xs : List (Option Strange)) → length xs ≡ 0 → strange_noted xs ≡ []
    no-strange [] e = refl
    no-strange (x ∷ xs) e = absurd (not_zero (length xs) e)
      where
        not_zero : (n : ℕ) → suc n ≡ 0 → ⊥
        not_zero n e = omega (arith, e)
