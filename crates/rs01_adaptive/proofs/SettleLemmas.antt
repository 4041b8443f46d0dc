-- The answer to a layer was taken: the reading went on by that.
use Rattle.std.proofs.Common.{inl, inr, ◌≡◌, ℕ, ◌-◌, ◌*◌, ◌%◌, ◌<◌, ◌≤◌, ⊎_elim, List, [], ◌∷◌, ◌++◌, length, take, drop, get_or, refl, sym, ap, subst, ◌∙◌, arith, Bool, true, false, min, option_to_list}
use Rattle.std.specs.Prelude.{◌⊎◌, ◌≢◌, Contains, IsSomeAnd, IsTrue, Option, Some, None, slice_index_or}
use Rattle.std.specs.Option.{option_map, unwrap_or}
use Rattle.std.proofs.lemmas.Bool.{cases_Bool, cases_eq, false≢true}
use Rattle.std.proofs.lemmas.List.{ext_get_or, get_or-set_other, get_or-set_same, get_or-take, length-drop, length-take}
use Rattle.std.proofs.lemmas.List.Elements.{Contains-append_cases}
use Rattle.rs01_lists.specs.Bytes.{part}
use Rattle.rs01_layers.specs.Layout.{layer_of, layers_of}
use Rattle.rs01_layers.specs.declared.task.LayerOut.{LayerOut}
use Rattle.rs01_outside.specs.Causes.{Rose}
use Rattle.rs01_outside.specs.DeskState.{DeskState, OnlyChanges}
use Rattle.rs01_outside.specs.Files.{bytes_of}
use Rattle.rs01_rack.specs.Rack.{RackState}
use Rattle.rs01_ecchead.specs.Erased.{Known, image_len, is_erased}
use Rattle.rs01_ecchead.specs.Erased as in_ecc
use Rattle.rs01_ecchead.specs.Head.{fields_of}
use Rattle.rs01_ecchead.specs.Opened.{Opened, opened_as}
use Rattle.rs01_ecchead.specs.declared.opened.Ecc.{Ecc}
use Rattle.rs01_states.specs.Sparing.{is_open, is_unread, layer_count, state_of}
use Rattle.rs01_repair.specs.Inputs.{flags_at}
use Rattle.rs01_repair.specs.Restored.{HasBlocks, is_restored}
use Rattle.rs01_report.specs.declared.reports.Strange.{Strange}
use Rattle.rs01_linear.specs.Medium.{known_of}
use Rattle.rs01_linear.specs.declared.medium.Medium.{Medium}
use Rattle.rs01_fix.specs.Repair.{strange_in}
use Rattle.rs01_turns.specs.Leads.{IsBlend}
use Rattle.rs01_turns.specs.Turns.{Terms}
use Rattle.rs01_turns.proofs.Leading.{one-element}
use Rattle.rs01_reader.specs.Courses.{CourseSeen}
use Rattle.rs01_reader.specs.declared.setup.Setup.{Setup}
use Rattle.rs01_adaptive.specs.Noting.{HasLayers, Notes}
use Rattle.rs01_adaptive.specs.Putting.{HasPut, IsPutting, bytes_by, bytes_in, new_block, width_of}
use Rattle.rs01_turns.specs.Moments.{bytes_at, length_at}
use Rattle.rs01_adaptive.specs.Sights.{IsAnswered, IsFileOf, IsGuarded, IsSound, IsUnanswered, Sight, Stands, block_so_far, settled_layers, sight_of}
use Rattle.rs01_adaptive.specs.Whole.{Whole, block_left, is_open_in, known_in, restored_block, sector_left, value_in}
use Rattle.rs01_adaptive.specs.declared.noting.Noted.{Noted}
use Rattle.rs01_adaptive.proofs.GoingLemmas.{blend_on, file_same, good_so_far, rose_before, spares_on}
use Rattle.rs01_adaptive.proofs.RestoringLemmas.{Leaves, Restores, by_answer, flag_here, flag_other, index_here, restored_is, restored_left, restored_so_far, same_flag_same}

-- what is known of a medium is what its error correction file tells
pub known_same : (medium : Medium) (ecc : Ecc) → medium.ecc ≡ Some ecc → in_ecc.known_of ecc ≡ known_of medium
known_same medium ecc is =
    let a : ecc.head.sectors ≡ medium.extent.sectors = medium.sectors ecc is in
    let b : ecc.head.last_bytes ≡ medium.extent.last_bytes = medium.last_bytes ecc is in
    let c : Some ecc.sums.list ≡ option_map (λ (x : Ecc). x.sums.list) medium.ecc = sym (ap (λ (o : Option Ecc). option_map (λ (x : Ecc). x.sums.list) o) is) in
    λ i. record { sectors = a i; last_bytes = b i; sums = c i }

-- what a step starts from: a moment that isn't read at while answers are taken, and a layer of it
pub record IsStep (setup : Setup) (course : CourseSeen) (ecc : Ecc) (l : ℕ) (answer : LayerOut) : Type 0 where
  pub opened : setup.medium.now.ecc ≡ Some ecc
  pub layer : l < layers_of ecc.head.sectors ecc.head.parity
  pub count : layer_count course.shape ≡ layers_of ecc.head.sectors ecc.head.parity
  pub final : (k : ℕ) → k % layers_of ecc.head.sectors ecc.head.parity ≡ l → is_unread (state_of course.states k) ≡ false
  pub blocks : HasBlocks (flags_at (fields_of ecc.head) (λ k. is_open (state_of course.states k)) l) answer

abbrev gone_in : CourseSeen → ℕ → Bool
gone_in course k = is_open (state_of course.states k)

-- whether a sector of the layer isn't good is so at the end too
ends_open : (w : Whole) (asks : ℕ) (s : Sight) (k : ℕ) → Stands w asks s → is_unread (state_of s.moment.states k) ≡ false → is_open_in w k ≡ is_open (state_of s.moment.states k)
ends_open w asks s k stands not_ = ap is_open (stands.last k not_)

-- the file tells of the whole reading's layers
opened_is : (w : Whole) (c : Option Opened) (o : Option Ecc) (file : List ℕ) (ecc : Ecc) → w.medium.opened ≡ c → o ≡ Some ecc → IsFileOf c o file → w.medium.opened ≡ Some (opened_as ecc file)
opened_is w None None file ecc found is of = absurd (none_some is)
  where
    none_some : None ≡ Some ecc → ⊥
    none_some e = cc
opened_is w None (Some e) file ecc found is of = absurd of
opened_is w (Some c) None file ecc found is of = absurd of
opened_is w (Some c) (Some e) file ecc found is of =
    let same : e ≡ ecc = ap (λ (o : Option Ecc). unwrap_or o e) is in
    found ∙ ap Some (of.0 ∙ ap (λ (x : Ecc). opened_as x file) same)

opened_at : (w : Whole) (asks : ℕ) (s : Sight) (ecc : Ecc) → Stands w asks s → s.moment.setting.opened ≡ Some ecc → w.medium.opened ≡ Some (opened_as ecc (bytes_of s.moment.desk.files (unwrap_or s.moment.setting.ecc [])))
opened_at w asks s ecc stands is = opened_is w w.medium.opened s.moment.setting.opened (bytes_of s.moment.desk.files (unwrap_or s.moment.setting.ecc [])) ecc refl is stands.file_is

-- the block that the file that is left has of a sector that is restored
left_is : (w : Whole) (asks : ℕ) (s : Sight) (ecc : Ecc) (l : ℕ) (answer : LayerOut) (k : ℕ) → Stands w asks s → s.moment.setting.opened ≡ Some ecc → value_in w l ≡ Some answer
    → (r : Restores ecc l answer (λ j. is_open (state_of s.moment.states j)) k) → is_unread (state_of s.moment.states k) ≡ false
    → (restored_block w k ≡ Some r.block) × (block_left w k ≡ r.block)
left_is w asks s ecc l answer k stands opened value r not_ =
    let is = restored_is w (opened_as ecc (bytes_of s.moment.desk.files (unwrap_or s.moment.setting.ecc []))) l k answer r.block (opened_at w asks s ecc stands opened) value r.here r.at_place in
    (is, restored_left w k r.block (ends_open w asks s k stands not_ ∙ r.gone_is) is)

-- one sector, wherever putting stops

mixed_by : (known : Known) (k : ℕ) (new : Option (List ℕ)) (was marked_ left now : List ℕ) → ((block : List ℕ) → new ≡ Some block → take (width_of known k) block ≡ left)
    → IsBlend was marked_ left → IsBlend now was (bytes_by known k new was) → IsBlend now marked_ left
mixed_by known k None was marked_ left now block before here =
    λ i. ⊎_elim
    (λ same. ⊎_elim (λ first. inl (same ∙ first)) (λ later. inr (same ∙ later)) (before i))
    (λ same. ⊎_elim (λ first. inl (same ∙ first)) (λ later. inr (same ∙ later)) (before i))
    (here i)
mixed_by known k (Some b) was marked_ left now block before here =
    blend_on now was marked_ left before (subst (λ (y : List ℕ). IsBlend now was y) (block b refl) here)

-- all bytes are the new ones
whole_blend : (now was block : List ℕ) → now ≡ block → IsBlend now was block
whole_blend now was block same i = inr (ap (λ (xs : List ℕ). get_or xs i 0) same)

left_where : (w : Whole) (asks : ℕ) (s : Sight) (ecc : Ecc) (l : ℕ) (answer : LayerOut) (known : Known) (k : ℕ) → Stands w asks s → s.moment.setting.opened ≡ Some ecc → value_in w l ≡ Some answer → known ≡ known_in w
    → ((j : ℕ) → j % layers_of ecc.head.sectors ecc.head.parity ≡ l → is_unread (state_of s.moment.states j) ≡ false)
    → HasBlocks (flags_at (fields_of ecc.head) (λ j. is_open (state_of s.moment.states j)) l) answer → k < ecc.head.sectors
    → (block : List ℕ) → new_block ecc l answer k ≡ Some block → take (width_of known k) block ≡ sector_left w k
left_where w asks s ecc l answer known k stands opened value same final blocks below block new = ⊎_elim
    (λ (leaves : Leaves ecc l answer (λ j. is_open (state_of s.moment.states j)) k). absurd (some_none (sym new ∙ leaves.none)))
    (λ (r : Restores ecc l answer (λ j. is_open (state_of s.moment.states j)) k).
    let is : block ≡ r.block = ap (λ (o : Option (List ℕ)). unwrap_or o block) (sym new ∙ r.new_is) in
    let left = (left_is w asks s ecc l answer k stands opened value r (final k r.here)).1 in
    ap (λ (n : Known). take (width_of n k) block) same ∙ ap (take (width_of (known_in w) k)) (is ∙ sym left))
    (by_answer ecc l answer (λ j. is_open (state_of s.moment.states j)) k blocks below)
  where
    some_none : Some block ≡ None → ⊥
    some_none e = cc

-- what is kept of the layers

layer_put : (w : Whole) (s t : Sight) (ecc : Ecc) (l j : ℕ) (answer : LayerOut) (file : List ℕ) → w.medium.opened ≡ Some (opened_as ecc file) → value_in w l ≡ Some answer
    → l < layers_of ecc.head.sectors ecc.head.parity → HasLayers (layers_of ecc.head.sectors ecc.head.parity) s.noted → Notes ecc l answer s.noted t.noted
    → settled_layers t ≡ settled_layers s ++ l ∷ [] → IsAnswered w s j ⊎ IsUnanswered s j → IsAnswered w t j ⊎ IsUnanswered t j
layer_put w s t ecc l j answer file opened value low has notes more was = ⊎_elim
    (λ (same : j ≡ l). subst (λ (i : ℕ). IsAnswered w t i ⊎ IsUnanswered t i) (sym same) (inl (record {
      answer = answer;
      value_is = value;
      flag_is = ap (λ (xs : List Bool). get_or xs l false) notes.restored ∙ get_or-set_same s.noted.restored.items l (is_restored answer) false (omega (arith, low, has.restored));
      strange_is = subst (λ (o : Option Opened). IsSomeAnd o (λ c. option_to_list (slice_index_or t.noted.strange.items l None) ≡ strange_in c.fields l answer)) (sym opened)
          (ap option_to_list (ap (λ (xs : List (Option Strange)). get_or xs l None) notes.strange ∙ get_or-set_same s.noted.strange.items l notes.why None (omega (arith, low, has.strange)))
          ∙ notes.why_is);
    })))
    (λ (other : j ≢ l).
    let flag : slice_index_or t.noted.restored.items j false ≡ slice_index_or s.noted.restored.items j false =
    ap (λ (xs : List Bool). get_or xs j false) notes.restored ∙ get_or-set_other s.noted.restored.items l j (is_restored answer) false other in
    let strange : slice_index_or t.noted.strange.items j None ≡ slice_index_or s.noted.strange.items j None =
    ap (λ (xs : List (Option Strange)). get_or xs j None) notes.strange ∙ get_or-set_other s.noted.strange.items l j notes.why None other in
    ⊎_elim
    (λ (a : IsAnswered w s j). inl (record {
      answer = a.answer;
      value_is = a.value_is;
      flag_is = flag ∙ a.flag_is;
      strange_is = subst (λ (x : Option Strange). IsSomeAnd w.medium.opened (λ c. option_to_list x ≡ strange_in c.fields j a.answer)) (sym strange) a.strange_is;
    }))
    (λ (u : IsUnanswered s j). inr (record {
      flag_is = flag ∙ u.flag_is;
      strange_is = strange ∙ u.strange_is;
      open_yet = λ c. ⊎_elim u.open_yet (λ at. other (one-element l j at)) (Contains-append_cases (settled_layers s) (l ∷ []) j (subst (λ (ls : List ℕ). Contains ls j) more c));
    }))
    was)
    (cases_eq j l)

-- a layer that isn't restored had no flag
flag_was : (w : Whole) (s : Sight) (l : ℕ) (answer : LayerOut) → value_in w l ≡ Some answer → is_restored answer ≡ false → IsAnswered w s l ⊎ IsUnanswered s l → slice_index_or s.noted.restored.items l false ≡ false
flag_was w s l answer value not_ was = ⊎_elim
    (λ (a : IsAnswered w s l).
    let same : a.answer ≡ answer = ap (λ (o : Option LayerOut). unwrap_or o a.answer) (sym a.value_is ∙ value) in
    a.flag_is ∙ ap is_restored same ∙ not_)
    (λ (u : IsUnanswered s l). u.flag_is)
    was

-- the blocks, once all were put in place

block_put : (w : Whole) (asks : ℕ) (s t : Sight) (ecc : Ecc) (l : ℕ) (answer : LayerOut) (known : Known) (k : ℕ) (was now : List ℕ) → Stands w asks s → s.moment.setting.opened ≡ Some ecc → value_in w l ≡ Some answer
    → l < layers_of ecc.head.sectors ecc.head.parity → l < layer_count w.shape → HasLayers (layers_of ecc.head.sectors ecc.head.parity) s.noted → Notes ecc l answer s.noted t.noted → t.moment.states ≡ s.moment.states
    → ((j : ℕ) → j % layers_of ecc.head.sectors ecc.head.parity ≡ l → is_unread (state_of s.moment.states j) ≡ false)
    → HasBlocks (flags_at (fields_of ecc.head) (λ j. is_open (state_of s.moment.states j)) l) answer → k < ecc.head.sectors
    → now ≡ bytes_by known k (new_block ecc l answer k) was → was ≡ take (width_of known k) (block_so_far w s k) → now ≡ take (width_of known k) (block_so_far w t k)
block_put w asks s t ecc l answer known k was now stands opened value low lower has notes states final blocks below put before = ⊎_elim
    (λ (leaves : Leaves ecc l answer (λ j. is_open (state_of s.moment.states j)) k).
    put ∙ ap (λ (o : Option (List ℕ)). bytes_by known k o was) leaves.none ∙ before ∙ ap (take (width_of known k)) (sym (⊎_elim
    (λ (other : layer_of ecc.head.sectors ecc.head.parity k ≢ l).
    same_flag_same w s t k states (flag_other s.noted.restored.items t.noted.restored.items (layers_of ecc.head.sectors ecc.head.parity) l k (is_restored answer) has.restored notes.restored other))
    (λ here. ⊎_elim
    (λ closed. good_so_far w t k (ap (λ xs. is_open (state_of xs k)) states ∙ closed) ∙ sym (good_so_far w s k closed))
    (λ not_.
    same_flag_same w s t k states
    (flag_here s.noted.restored.items t.noted.restored.items (layers_of ecc.head.sectors ecc.head.parity) l k (is_restored answer) has.restored notes.restored low here.0
    ∙ not_ ∙ sym (index_here s.noted.restored.items (layers_of ecc.head.sectors ecc.head.parity) l k has.restored here.0 ∙ flag_was w s l answer value not_ (stands.layers l lower))))
    here.1)
    leaves.why)))
    (λ (r : Restores ecc l answer (λ j. is_open (state_of s.moment.states j)) k).
    let left = left_is w asks s ecc l answer k stands opened value r (final k r.here) in
    put ∙ ap (λ (o : Option (List ℕ)). bytes_by known k o was) r.new_is
    ∙ ap (take (width_of known k)) (sym (restored_so_far w t k r.block (ap (λ xs. is_open (state_of xs k)) states ∙ r.gone_is)
    (flag_here s.noted.restored.items t.noted.restored.items (layers_of ecc.head.sectors ecc.head.parity) l k (is_restored answer) has.restored notes.restored low r.here ∙ r.flag_is) left.0)))
    (by_answer ecc l answer (λ j. is_open (state_of s.moment.states j)) k blocks below)

-- the whole reading

-- the named file is another one
elsewhere_is : (w : Whole) (asks : ℕ) (setup : Setup) (course : CourseSeen) (rack : RackState) (desk desk' : DeskState) (noted noted' : Noted) (window window' : ℕ) (failed : Bool)
    → IsSound (sight_of setup course rack desk noted window) → IsTrue desk.tells → OnlyChanges setup.image.now desk desk' failed → Stands w asks (sight_of setup course rack desk noted window)
    → IsFileOf w.medium.opened setup.medium.now.ecc (bytes_of desk'.files (unwrap_or (option_map (λ name. name.now) setup.ecc) []))
elsewhere_is w asks setup course rack desk desk' noted noted' window window' failed sound tells changes stands =
    file_same w.medium.opened setup.medium.now.ecc (option_map (λ name. name.now) setup.ecc) setup.image.now desk.files desk'.files sound.set_up.named (changes.elsewhere tells) stands.file_is

-- putting all blocks is putting some
pub all_is_some : (known : Known) (block : ℕ → Option (List ℕ)) (old file : List ℕ) → HasPut known block old file → IsPutting known block old file
all_is_some known block old file put = record {
  len = put.len;
  sectors = λ s below. whole_blend _ _ _ (put.sectors s below);
  surplus = put.surplus;
}

-- what is still to be shown once sectors of a layer were put in place, or some of them
abbrev HaveTheirBlocks : Whole → Sight → Type 0
HaveTheirBlocks w s = (Rose s.moment.kept_writes s.moment.desk.write_faults → ⊥) → (k : ℕ) → k < (known_in w).sectors → bytes_at s.moment k ≡ take (length_at s.moment k) (block_so_far w s k)

abbrev AreToldOf : Whole → Sight → Type 0
AreToldOf w s = (j : ℕ) → j < layer_count w.shape → IsAnswered w s j ⊎ IsUnanswered s j

stands_on : (w : Whole) (asks : ℕ) (setup : Setup) (course : CourseSeen) (rack : RackState) (desk desk' : DeskState) (noted noted' : Noted) (window window' : ℕ) (failed : Bool) (ecc : Ecc) (l : ℕ) (answer : LayerOut)
    → IsStep setup course ecc l answer → IsSound (sight_of setup course rack desk noted window) → IsTrue desk.tells → OnlyChanges setup.image.now desk desk' failed
    → IsPutting (known_of setup.medium.now) (new_block ecc l answer) (bytes_of desk.files setup.image.now) (bytes_of desk'.files setup.image.now)
    → HaveTheirBlocks w (sight_of setup course rack desk' noted' window') → AreToldOf w (sight_of setup course rack desk' noted' window')
    → value_in w l ≡ Some answer → Stands w asks (sight_of setup course rack desk noted window) → Stands w asks (sight_of setup course rack desk' noted' window')
stands_on w asks setup course rack desk desk' noted noted' window window' failed ecc l answer step sound tells changes put blocks layers value stands =
    let s = sight_of setup course rack desk noted window in
    let known : Known = known_of setup.medium.now in
    let same : known ≡ known_in w = ap (λ (x : Terms). x.known) stands.terms_are in
    let inside : (k : ℕ) → k < (known_in w).sectors → k < ecc.head.sectors =
    λ k below. subst (λ (n : ℕ). k < n) (sym (ap (λ (n : Known). n.sectors) (known_same setup.medium.now ecc step.opened ∙ same))) below in
    record {
      terms_are = stands.terms_are;
      file_is = elsewhere_is w asks setup course rack desk desk' noted noted' window window' failed sound tells changes stands;
      end_is = stands.end_is;
      asks_are = stands.asks_are;
      asking = stands.asking;
      last = stands.last;
      lacking = stands.lacking;
      fates = stands.fates;
      blocks = blocks;
      mixed = λ k below.
          mixed_by known k (new_block ecc l answer k) (bytes_in known (bytes_of desk.files setup.image.now) k) _ (sector_left w k) (bytes_in known (bytes_of desk'.files setup.image.now) k)
          (left_where w asks s ecc l answer known k stands step.opened value same step.final step.blocks (inside k below)) (stands.mixed k below)
          (put.sectors k (subst (λ (n : Known). k < n.sectors) (sym same) below));
      layers = layers;
      longer = omega (arith, put.len, stands.longer);
      surplus = ap (λ (n : Known). drop (image_len n) (bytes_of desk'.files setup.image.now)) (sym same) ∙ put.surplus ∙ ap (λ (n : Known). drop (image_len n) (bytes_of desk.files setup.image.now)) same ∙ stands.surplus;
    }

pub stands_put : (w : Whole) (asks : ℕ) (setup : Setup) (course : CourseSeen) (rack : RackState) (desk desk' : DeskState) (noted noted' : Noted) (window window' : ℕ) (ecc : Ecc) (l : ℕ) (answer : LayerOut)
    → IsStep setup course ecc l answer → IsSound (sight_of setup course rack desk noted window) → IsTrue desk.tells → OnlyChanges setup.image.now desk desk' false
    → HasPut (known_of setup.medium.now) (new_block ecc l answer) (bytes_of desk.files setup.image.now) (bytes_of desk'.files setup.image.now) → Notes ecc l answer noted noted'
    → settled_layers (sight_of setup course rack desk' noted' window') ≡ settled_layers (sight_of setup course rack desk noted window) ++ l ∷ []
    → value_in w l ≡ Some answer → Stands w asks (sight_of setup course rack desk noted window) → Stands w asks (sight_of setup course rack desk' noted' window')
stands_put w asks setup course rack desk desk' noted noted' window window' ecc l answer step sound tells changes put notes more value stands =
    let s = sight_of setup course rack desk noted window in
    let t = sight_of setup course rack desk' noted' window' in
    let known : Known = known_of setup.medium.now in
    let same : known ≡ known_in w = ap (λ (x : Terms). x.known) stands.terms_are in
    let has : HasLayers (layers_of ecc.head.sectors ecc.head.parity) noted = subst (λ (n : ℕ). HasLayers n noted) step.count sound.layers in
    let lower : l < layer_count w.shape = subst (λ (n : ℕ). l < n) (sym step.count ∙ ap (λ (x : Terms). layer_count x.shape) stands.terms_are) step.layer in
    stands_on w asks setup course rack desk desk' noted noted' window window' false ecc l answer step sound tells changes
    (all_is_some known (new_block ecc l answer) (bytes_of desk.files setup.image.now) (bytes_of desk'.files setup.image.now) put)
    (λ none k below.
    let within : k < known.sectors = subst (λ (n : Known). k < n.sectors) (sym same) below in
    let inside : k < ecc.head.sectors = subst (λ (n : ℕ). k < n) (sym (ap (λ (n : Known). n.sectors) (known_same setup.medium.now ecc step.opened))) within in
    block_put w asks s t ecc l answer known k (bytes_in known (bytes_of desk.files setup.image.now) k) (bytes_in known (bytes_of desk'.files setup.image.now) k) stands step.opened value step.layer lower has notes refl step.final step.blocks
    inside (put.sectors k within) (stands.blocks (λ rose. none (subst (λ (n : ℕ). Rose course.kept_writes n) (sym (changes.kept refl)) rose)) k below))
    (λ j low. layer_put w s t ecc l j answer _ (opened_at w asks s ecc stands step.opened) value step.layer has notes more (stands.layers j low)) value stands

-- fewer layers count as settled
fewer_settled : (xs : List ℕ) (m n l : ℕ) → m ≤ n → Contains (take m xs) l → Contains (take n xs) l
fewer_settled xs m n l order c =
    let short = length-take m xs in
    let long = length-take n xs in
    (c.0, omega (arith, c.1, short, long, order), get_or-take n xs c.0 l (omega (arith, c.1, short, order)) ∙ sym (get_or-take m xs c.0 l (omega (arith, c.1, short))) ∙ c.2)

layer_back : (w : Whole) (s t : Sight) (j : ℕ) → t.noted ≡ s.noted → t.moment.given ≡ s.moment.given → s.window ≤ t.window → IsAnswered w s j ⊎ IsUnanswered s j → IsAnswered w t j ⊎ IsUnanswered t j
layer_back w s t j same given more was = ⊎_elim
    (λ (a : IsAnswered w s j). inl (record {
      answer = a.answer;
      value_is = a.value_is;
      flag_is = ap (λ (n : Noted). slice_index_or n.restored.items j false) same ∙ a.flag_is;
      strange_is = subst (λ (n : Noted). IsSomeAnd w.medium.opened (λ c. option_to_list (slice_index_or n.strange.items j None) ≡ strange_in c.fields j a.answer)) (sym same) a.strange_is;
    }))
    (λ (u : IsUnanswered s j). inr (record {
      flag_is = ap (λ (n : Noted). slice_index_or n.restored.items j false) same ∙ u.flag_is;
      strange_is = ap (λ (n : Noted). slice_index_or n.strange.items j None) same ∙ u.strange_is;
      open_yet = λ c. u.open_yet (fewer_settled s.moment.given (length s.moment.given - t.window) (length s.moment.given - s.window) j (omega (arith, more))
          (subst (λ (ls : List ℕ). Contains (take (length ls - t.window) ls) j) given c));
    }))
    was

pub stands_failed : (w : Whole) (asks : ℕ) (setup : Setup) (course : CourseSeen) (rack : RackState) (desk desk' : DeskState) (noted noted' : Noted) (window window' : ℕ) (ecc : Ecc) (l : ℕ) (answer : LayerOut)
    → IsStep setup course ecc l answer → IsSound (sight_of setup course rack desk noted window) → IsTrue desk.tells → OnlyChanges setup.image.now desk desk' true
    → IsPutting (known_of setup.medium.now) (new_block ecc l answer) (bytes_of desk.files setup.image.now) (bytes_of desk'.files setup.image.now) → noted' ≡ noted → window ≤ window'
    → value_in w l ≡ Some answer → Stands w asks (sight_of setup course rack desk noted window) → Stands w asks (sight_of setup course rack desk' noted' window')
stands_failed w asks setup course rack desk desk' noted noted' window window' ecc l answer step sound tells changes put kept more value stands =
    let s = sight_of setup course rack desk noted window in
    let t = sight_of setup course rack desk' noted' window' in
    stands_on w asks setup course rack desk desk' noted noted' window window' true ecc l answer step sound tells changes put
    (λ none k below. absurd (none (rose_before course.kept_writes desk.write_faults desk'.write_faults sound.writes_rise (changes.rose refl))))
    (λ j low. layer_back w s t j kept refl more (stands.layers j low)) value stands

-- what is good stays

closed_same : (known : Known) (ecc : Ecc) (l : ℕ) (answer : LayerOut) (gone : ℕ → Bool) (k : ℕ) (was now : List ℕ) → HasBlocks (flags_at (fields_of ecc.head) gone l) answer → k < ecc.head.sectors → gone k ≡ false
    → IsBlend now was (bytes_by known k (new_block ecc l answer k) was) → IsBlend now was was
closed_same known ecc l answer gone k was now blocks below closed blend = ⊎_elim
    (λ (leaves : Leaves ecc l answer gone k). subst (λ (o : Option (List ℕ)). IsBlend now was (bytes_by known k o was)) leaves.none blend)
    (λ (r : Restores ecc l answer gone k). absurd (false≢true (sym closed ∙ r.gone_is)))
    (by_answer ecc l answer gone k blocks below)

one_blend : (now was : List ℕ) → length now ≡ length was → IsBlend now was was → now ≡ was
one_blend now was long blend = ext_get_or 0 now was long (λ i below. ⊎_elim (λ same. same) (λ same. same) (blend i))

pub guarded_put : (y : List ℕ) (setup : Setup) (course : CourseSeen) (rack : RackState) (desk desk' : DeskState) (noted noted' : Noted) (window window' : ℕ) (ecc : Ecc) (l : ℕ) (answer : LayerOut)
    → IsStep setup course ecc l answer → IsSound (sight_of setup course rack desk noted window)
    → IsPutting (known_of setup.medium.now) (new_block ecc l answer) (bytes_of desk.files setup.image.now) (bytes_of desk'.files setup.image.now)
    → IsGuarded y (sight_of setup course rack desk noted window) → IsGuarded y (sight_of setup course rack desk' noted' window')
guarded_put y setup course rack desk desk' noted noted' window window' ecc l answer step sound put guarded =
    let known : Known = known_of setup.medium.now in
    let old : List ℕ = bytes_of desk.files setup.image.now in
    let new : List ℕ = bytes_of desk'.files setup.image.now in
    record {
      file_is = spares_on known y old new sound.some_sectors sound.ready.last_fits put.len put.surplus
          (λ k below good.
          let closed : gone_in course k ≡ false = ⊎_elim (λ open_. absurd (false≢true (sym good ∙ guarded.open_only k below open_))) (λ h. h) (cases_Bool (gone_in course k)) in
          one_blend (bytes_in known new k) (bytes_in known old k)
          (length-part new (2048 * k) (width_of known k) ∙ ap (λ (n : ℕ). min (width_of known k) (n - 2048 * k)) put.len ∙ sym (length-part old (2048 * k) (width_of known k)))
          (closed_same known ecc l answer (gone_in course) k (bytes_in known old k) (bytes_in known new k) step.blocks
          (subst (λ (n : ℕ). k < n) (sym (ap (λ (n : Known). n.sectors) (known_same setup.medium.now ecc step.opened))) below) closed (put.sectors k below)))
          guarded.file_is;
      open_only = guarded.open_only;
    }
  where
    length-part : (xs : List ℕ) (p n : ℕ) → length (part xs p n) ≡ min n (length xs - p)
    length-part xs p n = length-take n (drop p xs) ∙ ap (min n) (length-drop p xs)
