-- What putting the restored blocks of a layer in place does to each sector.
use Rattle.std.proofs.Common.{inl, inr, ◌≡◌, ℕ, ◌-◌, ◌%◌, ◌<◌, ⊎_elim, List, length, get_or, set, refl, sym, ap, subst, ◌∙◌, arith, Bool, true, false, cond}
use Rattle.std.specs.Prelude.{◌⊎◌, ◌≢◌, ◌&&◌, Option, Some, None}
use Rattle.std.specs.Option.{option_and_then, unwrap_or}
use Rattle.std.proofs.lemmas.Bool.{cases_eq}
use Rattle.std.proofs.lemmas.List.{get_or-set_other, get_or-set_same, length-set}
use Rattle.rs01_layers.specs.Layout.{layer_of, place_of}
use Rattle.rs01_layers.specs.declared.task.LayerOut.{LayerOut}
use Rattle.rs01_layers.proofs.PlaceLemmas.{each_sector_has_a_place}
use Rattle.rs01_sums.specs.Marker.{marker}
use Rattle.rs01_ecchead.specs.Head.{fields_of}
use Rattle.rs01_ecchead.specs.Opened.{Opened}
use Rattle.rs01_ecchead.specs.declared.opened.Ecc.{Ecc}
use Rattle.rs01_states.specs.Sparing.{is_open, state_of}
use Rattle.rs01_repair.specs.Inputs.{flags_at}
use Rattle.rs01_repair.specs.Restored.{HasBlocks, IsBlockWhere, is_restored, restored_at}
use Rattle.rs01_repair.proofs.InputLemmas.{flag_of_sector}
use Rattle.rs01_adaptive.specs.Noting.{flag_of}
use Rattle.rs01_adaptive.specs.Putting.{new_block}
use Rattle.rs01_adaptive.specs.Sights.{Sight, block_so_far}
use Rattle.rs01_adaptive.specs.Whole.{Whole, block_by, block_left, good_block, is_open_in, restored_block, value_in}
use Rattle.rs01_adaptive.proofs.PuttingLemmas.{elsewhere, inside, shape_is}

-- sector k, of which gone tells whether it isn't good, gets no block by the answer to layer l: it lies elsewhere, or it is
-- good, or the layer isn't restored
pub record Leaves (ecc : Ecc) (l : ℕ) (answer : LayerOut) (gone : ℕ → Bool) (k : ℕ) : Type 0 where
  pub none : new_block ecc l answer k ≡ None
  pub why :
      (layer_of ecc.head.sectors ecc.head.parity k ≢ l)
      ⊎ ((layer_of ecc.head.sectors ecc.head.parity k ≡ l) × ((gone k ≡ false) ⊎ (is_restored answer ≡ false)))

-- it gets this one
pub record Restores (ecc : Ecc) (l : ℕ) (answer : LayerOut) (gone : ℕ → Bool) (k : ℕ) : Type 0 where
  pub block : List ℕ
  pub new_is : new_block ecc l answer k ≡ Some block
  pub at_place : restored_at answer (place_of ecc.head.sectors ecc.head.parity k) ≡ Some block
  pub gone_is : gone k ≡ true
  pub flag_is : is_restored answer ≡ true
  pub here : layer_of ecc.head.sectors ecc.head.parity k ≡ l

pub by_answer : (ecc : Ecc) (l : ℕ) (answer : LayerOut) (gone : ℕ → Bool) (k : ℕ) → HasBlocks (flags_at (fields_of ecc.head) gone l) answer → k < ecc.head.sectors
    → Leaves ecc l answer gone k ⊎ Restores ecc l answer gone k
by_answer ecc l answer gone k has below = ⊎_elim
    (λ (here : layer_of n r k ≡ l).
    let new : new_block ecc l answer k ≡ restored_at answer (place_of n r k) = inside ecc l answer (255 - r) k here (each_sector_has_a_place n r k (shape_is ecc) below).1 in
    let flag : get_or (flags_at (fields_of ecc.head) gone l) (place_of n r k) false ≡ gone k =
    ap (λ (m : ℕ). get_or (flags_at (fields_of ecc.head) gone m) (place_of n r k) false) (sym here) ∙ flag_of_sector (fields_of ecc.head) gone k (shape_is ecc) below in
    by here new (gone k) (is_restored answer) (restored_at answer (place_of n r k)) refl refl refl
    (subst (λ (b : Bool). IsBlockWhere (b && is_restored answer) (restored_at answer (place_of n r k))) flag (has (place_of n r k))))
    (λ (other : layer_of n r k ≢ l). inl (record { none = elsewhere ecc l answer (255 - r) k other; why = inl other }))
    (cases_eq (layer_of n r k) l)
  where
    n : ℕ
    n = ecc.head.sectors

    r : ℕ
    r = ecc.head.parity

    by : layer_of ecc.head.sectors ecc.head.parity k ≡ l → new_block ecc l answer k ≡ restored_at answer (place_of ecc.head.sectors ecc.head.parity k)
        → (b v : Bool) (o : Option (List ℕ)) → gone k ≡ b → is_restored answer ≡ v → restored_at answer (place_of ecc.head.sectors ecc.head.parity k) ≡ o → IsBlockWhere (b && v) o
        → Leaves ecc l answer gone k ⊎ Restores ecc l answer gone k
    by here new true true (Some block) g v o is = inr (record { block = block; new_is = new ∙ o; at_place = o; gone_is = g; flag_is = v; here = here })
    by here new true true None g v o is = absurd is
    by here new true false (Some block) g v o is = absurd is
    by here new true false None g v o is = inl (record { none = new ∙ o; why = inr (here, inr v) })
    by here new false v (Some block) g e o is = absurd is
    by here new false v None g e o is = inl (record { none = new ∙ o; why = inr (here, inl g) })

-- the flags of layers

pub index_here : (flags : List Bool) (layers l k : ℕ) → length flags ≡ layers → k % layers ≡ l → flag_of flags k ≡ get_or flags l false
index_here flags layers l k long here = ap (λ (i : ℕ). get_or flags i false) (ap (λ (n : ℕ). k % n) long ∙ here)

pub flag_here : (flags after : List Bool) (layers l k : ℕ) (v : Bool) → length flags ≡ layers → after ≡ set flags l v → l < layers → k % layers ≡ l → flag_of after k ≡ v
flag_here flags after layers l k v long put low here =
    ap (λ (xs : List Bool). flag_of xs k) put
    ∙ index_here (set flags l v) layers l k (length-set flags l v ∙ long) here
    ∙ get_or-set_same flags l v false (omega (arith, long, low))

pub flag_other : (flags after : List Bool) (layers l k : ℕ) (v : Bool) → length flags ≡ layers → after ≡ set flags l v → k % layers ≢ l → flag_of after k ≡ flag_of flags k
flag_other flags after layers l k v long put other =
    ap (λ (xs : List Bool). flag_of xs k) put
    ∙ index_here (set flags l v) layers (k % layers) k (length-set flags l v ∙ long) refl
    ∙ get_or-set_other flags l (k % layers) v false other
    ∙ sym (index_here flags layers (k % layers) k long refl)

-- the block of a sector

pub same_flag_same : (w : Whole) (f g : Sight) (k : ℕ) → g.moment.states ≡ f.moment.states → flag_of g.noted.restored.items k ≡ flag_of f.noted.restored.items k → block_so_far w g k ≡ block_so_far w f k
unfolding block_so_far
same_flag_same w f g k states flag =
    ap (λ xs. cond (is_open (state_of xs k)) (cond (flag_of g.noted.restored.items k) (unwrap_or (restored_block w k) (marker k)) (marker k)) (good_block w k)) states
    ∙ ap (λ (b : Bool). cond (is_open (state_of f.moment.states k)) (cond b (unwrap_or (restored_block w k) (marker k)) (marker k)) (good_block w k)) flag

pub restored_so_far : (w : Whole) (g : Sight) (k : ℕ) (block : List ℕ) → is_open (state_of g.moment.states k) ≡ true → flag_of g.noted.restored.items k ≡ true → restored_block w k ≡ Some block
    → block_so_far w g k ≡ block
unfolding block_so_far
restored_so_far w g k block opened flag is =
    ap (λ (b : Bool). cond b (cond (flag_of g.noted.restored.items k) (unwrap_or (restored_block w k) (marker k)) (marker k)) (good_block w k)) opened
    ∙ ap (λ (b : Bool). cond b (unwrap_or (restored_block w k) (marker k)) (marker k)) flag
    ∙ ap (λ (o : Option (List ℕ)). unwrap_or o (marker k)) is

pub restored_left : (w : Whole) (k : ℕ) (block : List ℕ) → is_open_in w k ≡ true → restored_block w k ≡ Some block → block_left w k ≡ block
unfolding block_left
restored_left w k block opened is =
    ap (λ (b : Bool). cond b (unwrap_or (restored_block w k) (marker k)) (good_block w k)) opened
    ∙ ap (λ (o : Option (List ℕ)). unwrap_or o (marker k)) is

-- the restored block of a sector, by the answer to its layer
pub restored_is : (w : Whole) (c : Opened) (l k : ℕ) (answer : LayerOut) (block : List ℕ) → w.medium.opened ≡ Some c → value_in w l ≡ Some answer
    → layer_of c.fields.sectors c.fields.parity k ≡ l → restored_at answer (place_of c.fields.sectors c.fields.parity k) ≡ Some block → restored_block w k ≡ Some block
unfolding restored_block
restored_is w c l k answer block opened value here at_place =
    ap (λ (o : Option Opened). option_and_then (λ x. block_by w x k) o) opened
    ∙ ap (λ (m : ℕ). option_and_then (λ a. restored_at a (place_of c.fields.sectors c.fields.parity k)) (value_in w m)) here
    ∙ ap (λ (o : Option LayerOut). option_and_then (λ a. restored_at a (place_of c.fields.sectors c.fields.parity k)) o) value
    ∙ at_place
