-- What correcting gives of a layer that was given is the answer of the whole reading.
use Rattle.std.proofs.Common.{◌≡◌, ℕ, ◌-◌, ◌%◌, ◌<◌, ◌≤◌, List, [], take, get_or, refl, sym, ap, subst, ◌∙◌, Bool, true, false, cond, ltb}
use Rattle.std.specs.Prelude.{IsSomeAnd, IsTrue, Option, Some, None}
use Rattle.std.specs.Option.{ForSome, option_and_then, unwrap_or}
use Rattle.std.proofs.lemmas.Bool.{cond-true, lt-ltb}
use Rattle.rs01_lists.specs.Bytes.{padded}
use Rattle.rs01_lists.proofs.Ranges.{same_maps}
use Rattle.rs01_layers.specs.Layout.{IsShape, layers_of, number_at}
use Rattle.rs01_layers.specs.Sectors.{block}
use Rattle.rs01_layers.specs.declared.input.LayerInput.{LayerInput}
use Rattle.rs01_layers.specs.declared.shape.Shape.{Shape}
use Rattle.rs01_layers.proofs.PlaceLemmas.{each_sector_has_one_place}
use Rattle.rs01_outside.specs.Causes.{Rose}
use Rattle.rs01_outside.specs.Files.{bytes_of}
use Rattle.rs01_ecchead.specs.Erased.{Known}
use Rattle.rs01_ecchead.specs.Opened.{Opened, opened_as}
use Rattle.rs01_ecchead.specs.declared.opened.Ecc.{Ecc}
use Rattle.rs01_erase.specs.Correcting.{correct}
use Rattle.rs01_states.specs.Sparing.{is_open, is_within, layer_count}
use Rattle.rs01_repair.specs.Inputs.{IsInput, answer_of, flag_at, flags_at, place_number}
use Rattle.rs01_repair.proofs.InputLemmas.{inputs_are_answered, same_where_held}
use Rattle.rs01_repair.proofs.PartLemmas.{same_flag}
use Rattle.rs01_turns.specs.Turns.{Reading, Terms}
use Rattle.rs01_turns.specs.Moments.{Moment, known_at, length_at, reading_at, rest_of, terms_of}
use Rattle.rs01_turns.proofs.Layering.{within-to-the-end}
use Rattle.rs01_reader.specs.Settled.{Fits, IsInputAt, IsShapeOf, Settled, block_at, gone_at}
use Rattle.rs01_adaptive.specs.Putting.{width_of}
use Rattle.rs01_adaptive.specs.Sights.{IsFileOf, IsSound, Sight, Stands}
use Rattle.rs01_adaptive.specs.Whole.{Whole, end_in, good_block, is_open_in, known_in, value_by, value_in}
use Rattle.rs01_adaptive.proofs.BlockLemmas.{good_own}
use Rattle.rs01_adaptive.proofs.GoingLemmas.{good_so_far}
use Rattle.rs01_adaptive.proofs.PuttingLemmas.{shape_is}

-- an input for other blocks and flags that agree on the sectors of its layer
pub moved : (c : Opened) (one other : ℕ → List ℕ) (gone away : ℕ → Bool) (l : ℕ) (input : LayerInput)
    → ((p : ℕ) → place_number c.fields l p < c.fields.sectors → away (place_number c.fields l p) ≡ gone (place_number c.fields l p))
    → ((p : ℕ) → place_number c.fields l p < c.fields.sectors → gone (place_number c.fields l p) ≡ false → one (place_number c.fields l p) ≡ other (place_number c.fields l p))
    → IsInput c one gone l input → IsInput c other away l input
unfolding flags_at
moved c one other gone away l input flag block is =
    let f = c.fields in
    let flags : flags_at f away l ≡ flags_at f gone l = same_maps (flag_at f away l) (flag_at f gone l) (255 - f.parity) (λ p h. same_flag f away gone l p (flag p)) in
    record {
      parity_count = is.parity_count;
      erased = is.erased ∙ sym flags;
      blocks = λ p held.
          let was = sym (ap (λ (fl : List Bool). get_or fl p false) flags) ∙ held in
          is.blocks p was ∙ same_where_held f other one gone l (λ q inside below there. block q below there) p was;
      sums = λ p set_. is.sums p (sym (ap (λ (fl : List Bool). get_or fl p false) flags) ∙ set_);
      parity = is.parity;
    }

-- how many layers there are
pub count_is : (e : Ecc) (shape : Option Shape) → IsShapeOf (Some e) shape → layer_count shape ≡ layers_of e.head.sectors e.head.parity
count_is e None is = absurd is
count_is e (Some sh) is = λ i. layers_of (is.0 i) (is.1 i)

-- the sector at a place lies in the place's layer
pub lies_here : (n r l p : ℕ) → IsShape n r → l < layers_of n r → number_at n r l p < n → number_at n r l p % layers_of n r ≡ l
lies_here n r l p shape low below =
    (each_sector_has_one_place n r l p (number_at n r l p) shape low
    (cond-true (ltb (number_at n r l p) n) (Some (number_at n r l p)) None (lt-ltb (number_at n r l p) n below))).0

-- what the image file has of a good sector is its block
good_there : (w : Whole) (asks : ℕ) (f : Sight) (k : ℕ) → Stands w asks f → IsSound f → (Rose f.moment.kept_writes f.moment.desk.write_faults → ⊥) → k < (known_in w).sectors
    → gone_at f.moment k ≡ false → is_open_in w k ≡ false → block_at f.moment k ≡ good_block w k
unfolding block
good_there w asks f k stands sound none below closed ends =
    let known : known_at f.moment ≡ known_in w = ap (λ (t : Terms). t.known) stands.terms_are in
    let few : (known_in w).last_bytes ≤ 2048 = subst (λ (n : Known). n.last_bytes ≤ 2048) known sound.ready.last_fits in
    ap (padded 2048) (stands.blocks none k below ∙ ap (take (length_at f.moment k)) (good_so_far w f k closed)
    ∙ ap (λ (n : Known). take (width_of n k) (good_block w k)) known)
    ∙ (good_own w k below few ends).0

-- an input of the layer for the whole reading
record IsOfWhole (w : Whole) (f : Moment) (e : Ecc) (l : ℕ) : Type 0 where
  layer : l < layers_of e.head.sectors e.head.parity
  flags : (k : ℕ) → k < e.head.sectors → k % layers_of e.head.sectors e.head.parity ≡ l → is_open_in w k ≡ gone_at f k
  blocks : (k : ℕ) → k < e.head.sectors → k % layers_of e.head.sectors e.head.parity ≡ l → gone_at f k ≡ false → block_at f k ≡ good_block w k
  within : is_within w.shape l (end_in w).states ≡ true

of_whole : (w : Whole) (asks : ℕ) (f : Sight) (e : Ecc) (l : ℕ) → f.moment.setting.opened ≡ Some e → e.head.sectors ≡ (known_at f.moment).sectors → Stands w asks f → IsSound f
    → (Rose f.moment.kept_writes f.moment.desk.write_faults → ⊥) → Settled f.moment l → IsOfWhole w f.moment e l
of_whole w asks f e l opened same stands sound none settled =
    let shape = f.moment.setting.terms.shape in
    let count : layer_count shape ≡ layers_of e.head.sectors e.head.parity = count_is e shape (subst (λ (o : Option Ecc). IsShapeOf o shape) opened sound.set_up.shape) in
    let known : known_at f.moment ≡ known_in w = ap (λ (t : Terms). t.known) stands.terms_are in
    let sectors : e.head.sectors ≡ (known_in w).sectors = same ∙ ap (λ (n : Known). n.sectors) known in
    let ends : (k : ℕ) → k % layers_of e.head.sectors e.head.parity ≡ l → is_open_in w k ≡ gone_at f.moment k =
    λ k here. ap is_open (stands.last k (settled.read k (ap (λ (n : ℕ). k % n) count ∙ here))) in
    record {
      layer = subst (λ (n : ℕ). l < n) count settled.there;
      flags = λ k below here. ends k here;
      blocks = λ k below here closed.
          good_there w asks f k stands sound none (subst (λ (n : ℕ). k < n) sectors below) closed (ends k here ∙ closed);
      within =
          subst (λ (r : Reading). is_within w.shape l r.states ≡ true) stands.end_is
          (subst (λ (t : Terms). is_within t.shape l (rest_of f.moment).states ≡ true) stands.terms_are
          (within-to-the-end (terms_of f.moment) (reading_at f.moment) l settled.within));
    }

by_input : (w : Whole) (f : Moment) (e : Ecc) (name : List ℕ) (input : LayerInput) → IsOfWhole w f e input.layer → w.medium.opened ≡ Some (opened_as e (bytes_of f.desk.files name))
    → IsInput (opened_as e (bytes_of f.desk.files name)) (block_at f) (gone_at f) input.layer input → value_in w input.layer ≡ Some (correct input)
unfolding value_in
by_input w f e name input of opened is =
    let c = opened_as e (bytes_of f.desk.files name) in
    let l : ℕ = input.layer in
    let here : (p : ℕ) → number_at e.head.sectors e.head.parity l p < e.head.sectors → number_at e.head.sectors e.head.parity l p % layers_of e.head.sectors e.head.parity ≡ l =
    λ p below. lies_here e.head.sectors e.head.parity l p (shape_is e) of.layer below in
    let own : IsInput c (good_block w) (is_open_in w) l input =
    moved c (block_at f) (good_block w) (gone_at f) (is_open_in w) l input
    (λ p below. of.flags (place_number c.fields l p) below (here p below))
    (λ p below closed. of.blocks (place_number c.fields l p) below (here p below) closed) is in
    ap (λ (o : Option Opened). option_and_then (λ x. value_by w x l) o) opened
    ∙ ap (λ (b : Bool). cond b (Some (answer_of c (good_block w) (is_open_in w) l)) None) of.within
    ∙ ap Some (sym (inputs_are_answered c (good_block w) (is_open_in w) l input own))

by_parts : (w : Whole) (f : Moment) (input : LayerInput) (o : Option Opened) (opened : Option Ecc) (name : Option (List ℕ)) → w.medium.opened ≡ o
    → IsFileOf o opened (bytes_of f.desk.files (unwrap_or name [])) → IsTrue f.desk.tells → ((e : Ecc) → opened ≡ Some e → IsOfWhole w f e input.layer)
    → IsSomeAnd opened (λ e. IsSomeAnd name (λ n. IsInputAt f e n input)) → value_in w input.layer ≡ Some (correct input)
by_parts w f input o None name found file tells of is = absurd is
by_parts w f input o (Some e) None found file tells of is = absurd is
by_parts w f input None (Some e) (Some name) found file tells of is = absurd file
by_parts w f input (Some c) (Some e) (Some name) found file tells of is =
    by_input w f e name input (of e refl) (found ∙ ap Some file.0) (is.told tells file.1)

-- the answer to a layer that was given while no write had failed
pub value_of : (w : Whole) (asks : ℕ) (f : Sight) (input : LayerInput) → ForSome f.moment.setting.opened (λ e. e.head.sectors ≡ (known_at f.moment).sectors) → Stands w asks f → IsSound f
    → (Rose f.moment.kept_writes f.moment.desk.write_faults → ⊥) → IsTrue f.moment.desk.tells → Fits f.moment input → value_in w input.layer ≡ Some (correct input)
value_of w asks f input same stands sound none tells fits =
    by_parts w f.moment input w.medium.opened f.moment.setting.opened f.moment.setting.ecc refl stands.file_is tells
    (λ e is. of_whole w asks f e input.layer is (same e is) stands sound none fits.settled) fits.input_is
