-- A word that is a codeword with its erased bytes filled in is the one that the word is completed to.
use Rattle.std.proofs.Common.{◌≡◌, ℕ, ◌+◌, ◌-◌, ◌*◌, ◌<◌, ◌≤◌, List, ◌++◌, length, take, drop, get_or, sym, ◌∙◌, arith, ⊎_elim, subst}
use Rattle.std.specs.Prelude.{All}
use Rattle.std.specs.List.Sorted.{IsStrictlyIncreasing}
use Rattle.std.proofs.lemmas.Bool.{cases_lt}
use Rattle.std.proofs.lemmas.List.{get_or_append_left, get_or-append_right}
use Rattle.std.proofs.lemmas.List.Elements.{All-from_get_or}
use Rattle.rs01_layers.specs.declared.input.LayerInput.{LayerInput}
use Rattle.rs01_layers.specs.Layer.{column}
use Rattle.rs01_layers.specs.Blocks.{blocks_of}
use Rattle.rs01_layers.proofs.BlockLemmas.{length-column, length-blocks_of, get_or-column-blocks_of}
use Rattle.rs01_poly.specs.Code.{AgreeOutside, IsCodeword}
use Rattle.rs01_columns.specs.Layer.{SameOutside, data_at, word_at}
use Rattle.rs01_columns.proofs.Laid.{length-data, length-word}
use Rattle.rs01_erase.specs.Completed.{AreBlocksAt, AreCompleted}
use Rattle.rs01_erase.specs.Correcting.{blocks_in}
use Rattle.rs01_erase.specs.LayerValue.{word_of}
use Rattle.rs01_erase.specs.Restoring.{AreErased, AreFilled, HoldsCodeword, completed_at}
use Rattle.rs01_erase.proofs.Completions.{completion-is}
use Rattle.rs01_erase.proofs.ErasedPlaces.{erased_rise, erased_below_at}

-- words whose data are of blocks that agree outside of these places agree there
words_agree : (k : ℕ) (old new places rest : List ℕ) (b : ℕ) → b < 2048 → SameOutside old new places
    → AgreeOutside (column (blocks_of k new) b ++ rest) (column (blocks_of k old) b ++ rest) places
words_agree k old new places rest b below same p out =
    let one = column (blocks_of k new) b in
    let other = column (blocks_of k old) b in
    let l1 : length one ≡ k = length-column (blocks_of k new) b ∙ length-blocks_of k new in
    let l2 : length other ≡ k = length-column (blocks_of k old) b ∙ length-blocks_of k old in
    ⊎_elim
    (λ (inside : p < k).
    get_or_append_left one rest 0 p (omega (arith, l1))
    ∙ get_or-column-blocks_of k new b p below inside
    ∙ same p b below out
    ∙ sym (get_or-column-blocks_of k old b p below inside)
    ∙ sym (get_or_append_left other rest 0 p (omega (arith, l2))))
    (λ (past : k ≤ p).
    get_or-append_right one rest k p 0 l1 past ∙ sym (get_or-append_right other rest k p 0 l2 past))
    (cases_lt p k)

pub rises : (input : LayerInput) (places : List ℕ) → AreErased input places → IsStrictlyIncreasing places
rises input places are = subst IsStrictlyIncreasing (sym are.erased) (erased_rise input.erased)

pub place_below : (input : LayerInput) (places : List ℕ) (k : ℕ) → AreErased input places → k < length places
    → get_or places k 0 < 255 - input.parity_count
place_below input places k are h =
    let Below : List ℕ → Type 0 = λ l. k < length l → get_or l k 0 < length input.erased in
    omega (arith, input.erased_len, subst Below (sym are.erased) (erased_below_at input.erased k) h)

pub places_below : (input : LayerInput) (places : List ℕ) (n : ℕ) → AreErased input places → 255 - input.parity_count ≤ n → All (λ p. p < n) places
places_below input places n are h = All-from_get_or (λ p. p < n) places 0 (λ k l. omega (arith, place_below input places k are l))

pub are_completed : (input : LayerInput) (places blocks parity : List ℕ) (r n : ℕ) → AreErased input places → AreFilled input places blocks
    → r ≡ input.parity_count → parity ≡ input.parity → n ≤ 2048
    → ((b : ℕ) → b < n → IsCodeword (word_at r blocks parity (0 + b)) r)
    → AreCompleted input places blocks n
unfolding completed_at word_of
are_completed input places blocks parity given n are filled count recorded most codes b h =
    let r = input.parity_count in
    let here : 0 + b ≡ b = omega arith in
    let code : IsCodeword (word_at r blocks input.parity b) r =
    subst (λ q. IsCodeword (word_at r blocks q b) r) recorded
    (subst (λ s. IsCodeword (word_at s blocks parity b) s) count (rw here at (codes b h))) in
    let rest : List ℕ = take r (drop (b * r) input.parity) in
    let below : b < 2048 = omega arith in
    completion-is (column (blocks_in input) b ++ rest) places r (word_at r blocks input.parity b)
    (length-word r input.data_ input.parity b (omega (arith, input.most)) below are.parity)
    (λ k l. omega (arith, place_below input places k are l)) (rises input places are) are.few code
    (words_agree (255 - r) input.data_ blocks places rest b below filled.kept)

-- the blocks at the erased places hold the completed codewords
pub holds : (input : LayerInput) (places blocks restored : List ℕ) → AreErased input places
    → AreCompleted input places blocks 2048 → AreBlocksAt restored blocks places → (b : ℕ) → b < 2048 → HoldsCodeword input places restored b
holds input places blocks restored are done held b below =
    let r = input.parity_count in
    let d = data_at r blocks b in
    record {
      word = word_at r blocks input.parity b;
      completed = done b below;
      bytes = λ k h.
          let p = get_or places k 0 in
          let inside : p < 255 - r = place_below input places k are h in
          held k b h below
          ∙ sym (get_or-column-blocks_of (255 - r) blocks b p below inside)
          ∙ sym (get_or_append_left d (take r (drop (b * r) input.parity)) 0 p (omega (arith, length-data r blocks b)));
    }
