-- The layers that aren't repaired yet are as they were when the image was found.
use Rattle.std.proofs.Common.{◌≡◌, ℕ, ◌-◌, ◌<◌, ◌≤◌, List, length, get_or, sym, ap, ◌∙◌, arith, inl, inr, Bool, false, ltb, ⊎_elim}
use Rattle.std.specs.Prelude.{not, ◌||◌, Some, None}
use Rattle.std.proofs.lemmas.Bool.{cases_Bool, cases_lt, cond-true, lt-ltb}
use Rattle.rs01_layers.specs.Layout.{IsShape, layer_of, layers_of, number_at}
use Rattle.rs01_layers.specs.declared.input.LayerInput.{LayerInput}
use Rattle.rs01_layers.specs.declared.task.LayerOut.{LayerOut}
use Rattle.rs01_layers.proofs.PlaceLemmas.{each_sector_has_one_place}
use Rattle.rs01_lists.proofs.Ranges.{same_maps}
use Rattle.rs01_sums.specs.Usable.{is_usable}
use Rattle.rs01_ecchead.specs.Erased.{block_in, is_absent, is_erased, known_by, known_of}
use Rattle.rs01_ecchead.specs.Header.{Fields}
use Rattle.rs01_ecchead.specs.Opened.{Opened}
use Rattle.rs01_erase.specs.Correcting.{correct}
use Rattle.rs01_repair.specs.Finding.{answer_to, fields_in, is_erased_by, is_erased_now, is_gone_in, recorded_in, said, said_with}
use Rattle.rs01_repair.specs.Inputs.{IsInput, flag_at, flags_at, place_number}
use Rattle.rs01_repair.specs.declared.found.Found.{Found}
use Rattle.rs01_ecchead.proofs.Shapes.{is_shape}
use Rattle.rs01_repair.proofs.FoundLemmas.{present, reaches}
use Rattle.rs01_repair.proofs.InputLemmas.{inputs_are_answered, same_where_held}
use Rattle.rs01_repair.proofs.PartLemmas.{same_flag}
use Rattle.rs01_fix.specs.Progress.{IsAhead, Stands}
use Rattle.rs01_fix.specs.Steps.{sources}
use Rattle.rs01_fix.specs.Windows.{IsAnswerOf}
use Rattle.rs01_fix.proofs.GoesOn.{same_block}

still_ahead : (n r l s : ℕ) → l ≤ layer_of n r s → IsAhead n r l 0 s
still_ahead n r l s low =
    ⊎_elim (λ before. inl before) (λ here. inr ((let e : layer_of n r s ≡ l = omega arith in e), omega arith)) (cases_lt l (layer_of n r s))

-- the block of a sector that wasn't absent
block_later : (c : Opened) (y : List ℕ) (answers : ℕ → LayerOut) (l : ℕ) (file : List ℕ) → Stands c y answers l 0 file → (s : ℕ) → s < c.fields.sectors
    → l ≤ layer_of c.fields.sectors c.fields.parity s → is_absent (known_by c) y s ≡ false → block_in (known_by c) file s ≡ block_in (known_by c) y s
block_later c y answers l file stands s below low there =
    let known = known_by c in
    let long = reaches known y s there in
    let grown = stands.not_shorter in
    same_block known y file s long (omega (arith, long, grown)) (λ j inside. stands.ahead s j below (still_ahead c.fields.sectors c.fields.parity l s low) inside)

-- whether it is erased
erased_later : (c : Opened) (y : List ℕ) (answers : ℕ → LayerOut) (l : ℕ) (file : List ℕ) → Stands c y answers l 0 file → (s : ℕ) → s < c.fields.sectors
    → l ≤ layer_of c.fields.sectors c.fields.parity s → is_erased_now (known_by c) (length y) file s ≡ is_erased (known_by c) y s
unfolding is_erased is_erased_by
erased_later c y answers l file stands s below low =
    let known = known_by c in
    ⊎_elim
    (λ gone. ap (λ b. b || not (is_usable known.sums s (block_in known file s))) gone
    ∙ sym (ap (λ b. b || not (is_usable known.sums s (block_in known y s))) gone))
    (λ there. ap (λ bytes. is_absent known y s || not (is_usable known.sums s bytes)) (block_later c y answers l file stands s below low there))
    (cases_Bool (is_absent known y s))

-- the sector at a place lies in the place's layer
layer_of_place : (n r l p : ℕ) → IsShape n r → l < layers_of n r → number_at n r l p < n → layer_of n r (number_at n r l p) ≡ l
layer_of_place n r l p shape low below =
    (each_sector_has_one_place n r l p (number_at n r l p) shape low
    (cond-true (ltb (number_at n r l p) n) (Some (number_at n r l p)) None (lt-ltb (number_at n r l p) n below))).0

flags_later : (f : Fields) (one other : ℕ → Bool) (l : ℕ) → ((p : ℕ) → place_number f l p < f.sectors → one (place_number f l p) ≡ other (place_number f l p))
    → flags_at f one l ≡ flags_at f other l
unfolding flags_at
flags_later f one other l same = same_maps (flag_at f one l) (flag_at f other l) (255 - f.parity) (λ p h. same_flag f one other l p (same p))

-- what is given of a later layer is what was to be given of it, and so is its answer
pub answered_later : (found : Found) (e y : List ℕ) (size : length y ≡ found.size) (l m : ℕ) (file : List ℕ) (input : LayerInput)
    → Stands (said found (sources found e y size)) y (answer_to found (sources found e y size)) l 0 file → l ≤ m → m < layers_of found.ecc.head.sectors found.ecc.head.parity
    → IsInput (said_with found (recorded_in found e)) (block_in (known_of found.ecc) file) (is_erased_now (known_of found.ecc) found.size file) m input
    → IsAnswerOf found (sources found e y size) m input (correct input)
answered_later found e y size l m file input stands order low is =
    let was = sources found e y size in
    let c = said found was in
    let f = fields_in found in
    let known = known_of found.ecc in
    let n = found.ecc.head.sectors in
    let r = found.ecc.head.parity in
    let here : (p : ℕ) → place_number f m p < n → l ≤ layer_of n r (place_number f m p) = λ p below.
    (let at = layer_of_place n r m p (is_shape found.ecc) low below in omega (arith, at, order)) in
    let one : (p : ℕ) → place_number f m p < n → is_erased_now known found.size file (place_number f m p) ≡ is_gone_in found was (place_number f m p) = λ p below.
    ap (λ k. is_erased_now known k file (place_number f m p)) (sym size)
    ∙ erased_later c y (answer_to found was) l file stands (place_number f m p) below (here p below) in
    let flags : flags_at f (is_erased_now known found.size file) m ≡ flags_at f (is_gone_in found was) m =
    flags_later f (is_erased_now known found.size file) (is_gone_in found was) m one in
    let own : IsInput c (block_in known y) (is_gone_in found was) m input = record {
      parity_count = is.parity_count;
      erased = is.erased ∙ flags;
      blocks = λ p held. is.blocks p (ap (λ fl. get_or fl p false) flags ∙ held)
          ∙ same_where_held f (block_in known y) (block_in known file) (is_gone_in found was) m
          (λ q inside below there. block_later c y (answer_to found was) l file stands (place_number f m q) below (here q below) (present known y (place_number f m q) there)) p held;
      sums = λ p gone. is.sums p (ap (λ fl. get_or fl p false) flags ∙ gone);
      parity = is.parity;
    } in
    record {
      erased = is.erased ∙ flags;
      answer_is = inputs_are_answered c (block_in known y) (is_gone_in found was) m input own;
    }
