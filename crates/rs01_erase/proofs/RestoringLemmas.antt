-- The restored blocks while they are being made, and what they are in the end.
use Rattle.std.proofs.Common.{◌≡◌, ◌≢◌, ℕ, ◌+◌, ◌-◌, ◌*◌, ◌<◌, ◌≤◌, List, [], ◌∷◌, ◌++◌, length, get_or, take, drop, map, refl, sym, ap, ◌∙◌, arith, Bool, true, false, cond, eqb, ltb, eq-eqb, Option, Some, None, set, subst, Result, Err, below_more}
use Rattle.std.specs.Prelude.{not, is_none, is_some, IsSome, IsNone, unwrap_or, ◌↔◌}
use Rattle.std.specs.List.{find, filter, range_with_len}
use Rattle.std.specs.Option.{option_map, option_map_or}
use Rattle.std.proofs.lemmas.Bool.{cond-true, cond-false, le-ltb, not_from_true, not_from_false, ne_eqb}
use Rattle.std.proofs.lemmas.List.{get_or-take, get_or-drop, length-take, length-drop, map-id, take_more_set, append-nil}
use Rattle.std.proofs.lemmas.List.Elements.{filter-append}
use Rattle.std.proofs.lemmas.List.FromFn.{length-range_with_len, map-range_with_len_more, fill_by_all}
use Rattle.rs01_layers.specs.declared.input.LayerInput.{LayerInput}
use Rattle.rs01_layers.specs.declared.lists.Placed.{Placed}
use Rattle.rs01_layers.specs.declared.task.LayerOut.TheVariants.{Restored, Beyond, Inconsistent, BadSum}
use Rattle.rs01_layers.specs.Layer.{column}
use Rattle.rs01_layers.specs.Blocks.{blocks_of}
use Rattle.rs01_sums.specs.Crc.{crc}
use Rattle.rs01_erase.specs.declared.restore.EraseRefusal.{EraseRefusal}
use Rattle.rs01_erase.specs.declared.restore.EraseRefusal.TheVariants as refusal
use Rattle.rs01_erase.specs.Completion.{completion}
use Rattle.rs01_erase.specs.LayerValue.{codewords, erased_places, word_of, completed, restored_block, placed, first_inconsistent, first_bad_sum, correct_of}
use Rattle.rs01_erase.specs.Correcting.{blocks_in, correct}
use Rattle.rs01_erase.specs.Restoring.{AreErased, HoldsCodeword, HoldsOthers, HoldsWord, block_in, bad_sum_in, completed_at, placed_blocks}
use Rattle.rs01_erase.proofs.Found.{find_first, find_none, find_same, map_same}
use Rattle.rs01_erase.proofs.ErasedPlaces.{number_in_range}
use Rattle.rs01_erase.proofs.LayerValueLemmas.{codewords-is, correct_of-beyond}

-- ---- the erased places

numbers_more : (n : ℕ) → range_with_len 0 (n + 1) ≡ range_with_len 0 n ++ n ∷ []
numbers_more n =
    sym (map-id (range_with_len 0 (n + 1))) ∙ map-range_with_len_more (λ x. x) 0 n n (omega arith) ∙ ap (λ l. l ++ n ∷ []) (map-id (range_with_len 0 n))

passes_more : (p : ℕ → Bool) (n : ℕ) → filter p (range_with_len 0 (n + 1)) ≡ filter p (range_with_len 0 n) ++ cond (p n) (n ∷ []) []
passes_more p n = ap (filter p) (numbers_more n) ∙ filter-append p (range_with_len 0 n) (n ∷ [])

pub one_more_found : (p : ℕ → Bool) (places : List ℕ) (count n : ℕ) → count < length places → p n ≡ true
    → take count places ≡ filter p (range_with_len 0 n) → take (count + 1) (set places count n) ≡ filter p (range_with_len 0 (n + 1))
one_more_found p places count n room here held =
    take_more_set places count n room ∙ ap (λ l. l ++ n ∷ []) held
    ∙ ap (λ l. filter p (range_with_len 0 n) ++ l) (sym (cond-true (p n) (n ∷ []) [] here)) ∙ sym (passes_more p n)

pub none_more_found : (p : ℕ → Bool) (places : List ℕ) (count n : ℕ) → p n ≡ false
    → take count places ≡ filter p (range_with_len 0 n) → take count places ≡ filter p (range_with_len 0 (n + 1))
none_more_found p places count n here held =
    held ∙ sym (append-nil (filter p (range_with_len 0 n)))
    ∙ ap (λ l. filter p (range_with_len 0 n) ++ l) (sym (cond-false (p n) (n ∷ []) [] here)) ∙ sym (passes_more p n)

pub all_found : (flags : List Bool) (places : List ℕ) (count n : ℕ) → n ≡ length flags
    → take count places ≡ filter (λ p. get_or flags p false) (range_with_len 0 n) → take count places ≡ erased_places flags
unfolding erased_places
all_found flags places count n all held = held ∙ ap (λ m. filter (λ p. get_or flags p false) (range_with_len 0 m)) all

-- ---- one codeword

pub gathered : (input : LayerInput) (n b m : ℕ) (items front back : List ℕ) → n ≡ 255 - input.parity_count → items ≡ input.data_ → m ≡ input.parity_count
    → front ≡ column (blocks_of n items) b → back ≡ take m (drop (b * input.parity_count) input.parity)
    → front ++ back ≡ word_of (blocks_in input) input.parity input.parity_count b
unfolding word_of
gathered input n b m items front back count same parity data_is parity_is =
    (λ i. (data_is ∙ (λ j. column (blocks_of (count j) (same j)) b)) i ++ (parity_is ∙ ap (λ k. take k (drop (b * input.parity_count) input.parity)) parity) i)

pub completed_is : (input : LayerInput) (places : List ℕ) (b : ℕ) (word : List ℕ) (o : Option (List ℕ))
    → word ≡ word_of (blocks_in input) input.parity input.parity_count b → completion word places input.parity_count ≡ o → completed_at input places b ≡ o
unfolding completed_at
completed_is input places b word o e h = ap (λ w. completion w places input.parity_count) (sym e) ∙ h

-- a refusal that is not for too many places is for a word that has no completion
pub none_completed : (e : EraseRefusal) (n r : ℕ) (o : Option (List ℕ)) → n ≤ r
    → ((m : ℕ) → (◌≡◌ {A = Result (Unit {0}) EraseRefusal} (Err e) (Err (refusal.Beyond m))) ↔ ((r < n) × (m ≡ n)))
    → ((◌≡◌ {A = Result (Unit {0}) EraseRefusal} (Err e) (Err refusal.Inconsistent)) ↔ ((n ≤ r) × (o ≡ None)))
    → o ≡ None
none_completed (refusal.Beyond m) n r o few beyond inconsistent =
    let many : r < n = ((beyond m).0 refl).0 in absurd (omega arith)
none_completed refusal.Inconsistent n r o few beyond inconsistent = (inconsistent.0 refl).1

-- one codeword more is stored
pub one_more_held : (input : LayerInput) (places old new word : List ℕ) (i : ℕ) → i < 2048 → completed_at input places i ≡ Some word
    → HoldsWord word places new i → HoldsOthers old new i → ((b : ℕ) → b < i → HoldsCodeword input places old b)
    → (b : ℕ) → b < i + 1 → HoldsCodeword input places new b
one_more_held input places old new word i below completed here others before =
    below_more _ _
    (λ b h. (let ne : b ≢ i = omega arith in record {
      word = (before b h).word;
      completed = (before b h).completed;
      bytes = λ k l. others k b (omega arith) ne ∙ (before b h).bytes k l;
    }))
    (record { word = word; completed = completed; bytes = here })

-- ---- all codewords

length-block_in : (restored : List ℕ) (k : ℕ) → 2048 * k + 2048 ≤ length restored → length (block_in restored k) ≡ 2048
unfolding block_in
length-block_in restored k room =
    omega (arith, length-take 2048 (drop (2048 * k) restored), length-drop (2048 * k) restored)

get_or-block_in : (restored : List ℕ) (k b : ℕ) → b < 2048 → get_or (block_in restored k) b 0 ≡ get_or restored (2048 * k + b) 0
unfolding block_in
get_or-block_in restored k b below = get_or-take 2048 (drop (2048 * k) restored) b 0 below ∙ get_or-drop (2048 * k) restored b 0

pub block_in-is : (restored : List ℕ) (k n : ℕ) → n ≡ 2048 → take n (drop (2048 * k) restored) ≡ block_in restored k
unfolding block_in
block_in-is restored k n e = ap (λ m. take m (drop (2048 * k) restored)) e

completed-at : (input : LayerInput) (b : ℕ) → completed (blocks_in input) input.erased input.parity input.parity_count b ≡ completed_at input (erased_places input.erased) b
unfolding completed completed_at
completed-at input b = refl

-- byte b of each of the restored blocks is that of the completed codeword
abbrev pub HoldsByte : LayerInput → List ℕ → List ℕ → ℕ → Type 0
HoldsByte input places restored b = HoldsWord (unwrap_or (completed_at input places b) []) places restored b

-- the restored blocks hold the bytes of all completed codewords
abbrev pub HoldsAll : LayerInput → List ℕ → Type 0
HoldsAll input restored = (b : ℕ) → b < 2048 → HoldsByte input (erased_places input.erased) restored b

block_in-restored : (input : LayerInput) (restored : List ℕ) (k : ℕ) → length restored ≡ 2048 * length (erased_places input.erased) → HoldsAll input restored
    → k < length (erased_places input.erased)
    → block_in restored k ≡ restored_block (blocks_in input) input.erased input.parity input.parity_count (get_or (erased_places input.erased) k 0)
unfolding restored_block
block_in-restored input restored k room holds h =
    let places : List ℕ = erased_places input.erased in
    let p : ℕ = get_or places k 0 in
    fill_by_all (λ b. get_or (unwrap_or (completed (blocks_in input) input.erased input.parity input.parity_count b) []) p 0)
    (block_in restored k) codewords 0 (length-block_in restored k (omega arith) ∙ sym codewords-is)
    (λ b l.
    let below : b < 2048 = omega (arith, codewords-is) in
    get_or-block_in restored k b below ∙ holds b below k h
    ∙ ap (λ o. get_or (unwrap_or o []) p 0) (sym (completed-at input b)))

-- ---- the answers

by_places : (xs : List ℕ) → xs ≡ map (λ k. get_or xs k 0) (range_with_len 0 (length xs))
by_places xs = fill_by_all (λ k. get_or xs k 0) xs (length xs) 0 refl (λ k h. refl)

find-map : (p : ℕ → Bool) (f : ℕ → ℕ) (ys : List ℕ) → find p (map f ys) ≡ option_map f (find (λ y. p (f y)) ys)
find-map p f [] = refl
find-map p f (y ∷ ys) = which (p (f y)) (find-map p f ys)
  where
    which : (b : Bool) → find p (map f ys) ≡ option_map f (find (λ y. p (f y)) ys)
        → cond b (Some (f y)) (find p (map f ys)) ≡ option_map f (cond b (Some y) (find (λ y. p (f y)) ys))
    which true e = refl
    which false e = e

map-map : {B : Type 0} (g : ℕ → B) (f : ℕ → ℕ) (ys : List ℕ) → map g (map f ys) ≡ map (λ y. g (f y)) ys
map-map g f [] = refl
map-map g f (y ∷ ys) = (λ i. g (f y) ∷ map-map g f ys i)

-- the place of the first block whose checksum differs
pub bad_sum_at : (restored places sums : List ℕ) (k : ℕ) → k < length places
    → (crc (block_in restored k) ≡ get_or sums (get_or places k 0) 0 → ⊥)
    → ((j : ℕ) → j < k → crc (block_in restored j) ≡ get_or sums (get_or places j 0) 0)
    → bad_sum_in restored places sums ≡ Some (get_or places k 0)
unfolding bad_sum_in
bad_sum_at restored places sums k h differs before =
    let numbers : List ℕ = range_with_len 0 (length places) in
    let test : ℕ → Bool = λ j. not (eqb (crc (block_in restored j)) (get_or sums (get_or places j 0) 0)) in
    let long : length numbers ≡ length places = length-range_with_len 0 (length places) in
    let at : (j : ℕ) → j < length places → get_or numbers j 0 ≡ j = number_in_range (length places) in
    ap (option_map (λ j. get_or places j 0))
    (find_first test numbers k (omega arith)
    (ap test (at k h) ∙ not_from_false (eqb (crc (block_in restored k)) (get_or sums (get_or places k 0) 0))
    (ne_eqb (crc (block_in restored k)) (get_or sums (get_or places k 0) 0) differs))
    (λ j l.
    ap test (at j (omega arith)) ∙ not_from_true (eqb (crc (block_in restored j)) (get_or sums (get_or places j 0) 0))
    (eq-eqb (crc (block_in restored j)) (get_or sums (get_or places j 0) 0) (before j l))))
    ∙ ap (λ j. Some (get_or places j 0)) (at k h)

pub no_bad_sum : (restored places sums : List ℕ)
    → ((j : ℕ) → j < length places → crc (block_in restored j) ≡ get_or sums (get_or places j 0) 0) → bad_sum_in restored places sums ≡ None
unfolding bad_sum_in
no_bad_sum restored places sums each =
    let numbers : List ℕ = range_with_len 0 (length places) in
    let test : ℕ → Bool = λ j. not (eqb (crc (block_in restored j)) (get_or sums (get_or places j 0) 0)) in
    let long : length numbers ≡ length places = length-range_with_len 0 (length places) in
    ap (option_map (λ j. get_or places j 0))
    (find_none test numbers
    (λ j l.
    ap test (number_in_range (length places) j (omega arith)) ∙ not_from_true (eqb (crc (block_in restored j)) (get_or sums (get_or places j 0) 0))
    (eq-eqb (crc (block_in restored j)) (get_or sums (get_or places j 0) 0) (each j (omega arith)))))

bad_sum-restored : (input : LayerInput) (restored : List ℕ) → length restored ≡ 2048 * length (erased_places input.erased) → HoldsAll input restored
    → first_bad_sum (blocks_in input) input.erased input.sums input.parity input.parity_count ≡ bad_sum_in restored (erased_places input.erased) input.sums
unfolding first_bad_sum bad_sum_in
bad_sum-restored input restored room holds =
    let places : List ℕ = erased_places input.erased in
    let block : ℕ → List ℕ = restored_block (blocks_in input) input.erased input.parity input.parity_count in
    let test : ℕ → Bool = λ p. not (eqb (crc (block p)) (get_or input.sums p 0)) in
    let numbers : List ℕ = range_with_len 0 (length places) in
    ap (find test) (by_places places)
    ∙ find-map test (λ k. get_or places k 0) numbers
    ∙ ap (option_map (λ k. get_or places k 0))
    (find_same (λ k. test (get_or places k 0)) (λ k. not (eqb (crc (block_in restored k)) (get_or input.sums (get_or places k 0) 0))) numbers
    (λ j l.
    let here : get_or numbers j 0 ≡ j = number_in_range (length places) j (omega (arith, length-range_with_len 0 (length places))) in
    let inside : get_or numbers j 0 < length places = omega (arith, length-range_with_len 0 (length places)) in
    ap (λ bytes. not (eqb (crc bytes) (get_or input.sums (get_or places (get_or numbers j 0) 0) 0)))
    (sym (block_in-restored input restored (get_or numbers j 0) room holds inside))))

placed-restored : (input : LayerInput) (restored : List ℕ) → length restored ≡ 2048 * length (erased_places input.erased) → HoldsAll input restored
    → placed (restored_block (blocks_in input) input.erased input.parity input.parity_count) (erased_places input.erased)
    ≡ placed_blocks restored (erased_places input.erased)
unfolding placed_blocks
placed-restored input restored room holds =
    let places : List ℕ = erased_places input.erased in
    let block : ℕ → List ℕ = restored_block (blocks_in input) input.erased input.parity input.parity_count in
    let one : ℕ → Placed = λ p. record { place = p; block = block p } in
    let numbers : List ℕ = range_with_len 0 (length places) in
    ap (map one) (by_places places)
    ∙ map-map one (λ k. get_or places k 0) numbers
    ∙ map_same (λ k. one (get_or places k 0)) (λ k. record { place = get_or places k 0; block = block_in restored k }) numbers
    (λ j l.
    let here : get_or numbers j 0 ≡ j = number_in_range (length places) j (omega (arith, length-range_with_len 0 (length places))) in
    let inside : get_or numbers j 0 < length places = omega (arith, length-range_with_len 0 (length places)) in
    let same : block (get_or places (get_or numbers j 0) 0) ≡ block_in restored (get_or numbers j 0) =
    sym (block_in-restored input restored (get_or numbers j 0) room holds inside) in
    (λ i. record { place = get_or places (get_or numbers j 0) 0; block = same i }))

is_none-of : (o : Option (List ℕ)) → IsSome o → is_none o ≡ false
is_none-of None s = sym s
is_none-of (Some x) s = refl

is_none-at : (o : Option (List ℕ)) → IsNone o → is_none o ≡ true
is_none-at None s = refl
is_none-at (Some x) s = sym s

inconsistent_at : (input : LayerInput) (b : ℕ) → b < 2048 → IsNone (completed_at input (erased_places input.erased) b)
    → ((j : ℕ) → j < b → IsSome (completed_at input (erased_places input.erased) j))
    → first_inconsistent (blocks_in input) input.erased input.parity input.parity_count ≡ Some b
unfolding first_inconsistent
inconsistent_at input b below none before =
    let test : ℕ → Bool = λ j. is_none (completed (blocks_in input) input.erased input.parity input.parity_count j) in
    let inside : b < codewords = omega (arith, codewords-is) in
    let at : (j : ℕ) → j < codewords → get_or (range_with_len 0 codewords) j 0 ≡ j = number_in_range codewords in
    find_first test (range_with_len 0 codewords) b (omega (arith, length-range_with_len 0 codewords))
    (ap test (at b inside) ∙ ap (λ o. is_none o) (completed-at input b) ∙ is_none-at (completed_at input (erased_places input.erased) b) none)
    (λ j l. ap test (at j (omega arith)) ∙ ap (λ o. is_none o) (completed-at input j) ∙ is_none-of (completed_at input (erased_places input.erased) j) (before j l))
    ∙ ap Some (at b inside)

consistent : (input : LayerInput) → ((j : ℕ) → j < 2048 → IsSome (completed_at input (erased_places input.erased) j))
    → first_inconsistent (blocks_in input) input.erased input.parity input.parity_count ≡ None
unfolding first_inconsistent
consistent input all =
    let test : ℕ → Bool = λ j. is_none (completed (blocks_in input) input.erased input.parity input.parity_count j) in
    find_none test (range_with_len 0 codewords)
    (λ j l.
    let inside : j < codewords = omega (arith, length-range_with_len 0 codewords) in
    let below : j < 2048 = omega (arith, codewords-is) in
    ap test (number_in_range codewords j inside) ∙ ap (λ o. is_none o) (completed-at input j) ∙ is_none-of (completed_at input (erased_places input.erased) j) (all j below))

-- more places are erased than a codeword has parity bytes
pub correct-beyond : (input : LayerInput) (n : ℕ) → n ≡ length (erased_places input.erased) → input.parity_count < n → correct input ≡ Beyond n
unfolding correct
correct-beyond input n count many =
    correct_of-beyond (blocks_in input) input.erased input.sums input.parity input.parity_count (omega arith) ∙ ap Beyond (sym count)

within : (input : LayerInput) → length (erased_places input.erased) ≤ input.parity_count
    → correct input ≡ option_map_or (λ b. Inconsistent b) (first_inconsistent (blocks_in input) input.erased input.parity input.parity_count)
    (option_map_or (λ p. BadSum p) (first_bad_sum (blocks_in input) input.erased input.sums input.parity input.parity_count)
    (Restored (placed (restored_block (blocks_in input) input.erased input.parity input.parity_count) (erased_places input.erased))))
unfolding correct correct_of
within input few =
    let places : List ℕ = erased_places input.erased in
    cond-false (ltb input.parity_count (length places)) (Beyond (length places))
    (option_map_or (λ b. Inconsistent b) (first_inconsistent (blocks_in input) input.erased input.parity input.parity_count)
    (option_map_or (λ p. BadSum p) (first_bad_sum (blocks_in input) input.erased input.sums input.parity input.parity_count)
    (Restored (placed (restored_block (blocks_in input) input.erased input.parity input.parity_count) places))))
    (le-ltb input.parity_count (length places) few)

pub correct-inconsistent : (input : LayerInput) (b : ℕ) → length (erased_places input.erased) ≤ input.parity_count → b < 2048
    → IsNone (completed_at input (erased_places input.erased) b)
    → ((j : ℕ) → j < b → IsSome (completed_at input (erased_places input.erased) j)) → correct input ≡ Inconsistent b
correct-inconsistent input b few below none before =
    within input few
    ∙ ap (λ o. option_map_or (λ b. Inconsistent b) o
    (option_map_or (λ p. BadSum p) (first_bad_sum (blocks_in input) input.erased input.sums input.parity input.parity_count)
    (Restored (placed (restored_block (blocks_in input) input.erased input.parity input.parity_count) (erased_places input.erased)))))
    (inconsistent_at input b below none before)

-- every codeword is completed, and the restored blocks are there
pub record AreRestored (input : LayerInput) (restored : List ℕ) : Type 0 where
  pub few : length (erased_places input.erased) ≤ input.parity_count
  pub room : length restored ≡ 2048 * length (erased_places input.erased)
  pub all : (j : ℕ) → j < 2048 → IsSome (completed_at input (erased_places input.erased) j)
  pub holds : HoldsAll input restored

correct-restored : (input : LayerInput) (restored : List ℕ) → AreRestored input restored
    → correct input ≡ option_map_or (λ p. BadSum p) (bad_sum_in restored (erased_places input.erased) input.sums)
    (Restored (placed_blocks restored (erased_places input.erased)))
correct-restored input restored done =
    within input done.few
    ∙ (λ i. option_map_or (λ b. Inconsistent b) (consistent input done.all i)
    (option_map_or (λ p. BadSum p) (bad_sum-restored input restored done.room done.holds i)
    (Restored (placed-restored input restored done.room done.holds i))))

pub correct-bad_sum : (input : LayerInput) (restored : List ℕ) (p : ℕ) → AreRestored input restored
    → bad_sum_in restored (erased_places input.erased) input.sums ≡ Some p → correct input ≡ BadSum p
correct-bad_sum input restored p done bad =
    correct-restored input restored done
    ∙ ap (λ o. option_map_or (λ q. BadSum q) o (Restored (placed_blocks restored (erased_places input.erased)))) bad

pub correct-all : (input : LayerInput) (restored : List ℕ) (list : List Placed) → AreRestored input restored
    → bad_sum_in restored (erased_places input.erased) input.sums ≡ None → list ≡ placed_blocks restored (erased_places input.erased)
    → correct input ≡ Restored list
correct-all input restored list done good same =
    correct-restored input restored done
    ∙ ap (λ o. option_map_or (λ q. BadSum q) o (Restored (placed_blocks restored (erased_places input.erased)))) good
    ∙ ap Restored (sym same)

-- ---- the list of the restored blocks

pub one_more_placed : (restored places : List ℕ) (k place : ℕ) (block : List ℕ) (old new : List Placed)
    → old ≡ map (λ j. record { place = get_or places j 0; block = block_in restored j }) (range_with_len 0 k)
    → new ≡ old ++ record { place = place; block = block } ∷ [] → place ≡ get_or places k 0 → block ≡ block_in restored k
    → new ≡ map (λ j. record { place = get_or places j 0; block = block_in restored j }) (range_with_len 0 (k + 1))
one_more_placed restored places k place block old new held pushed here bytes =
    let one : ℕ → Placed = λ j. record { place = get_or places j 0; block = block_in restored j } in
    let last : Placed = record { place = place; block = block } in
    let same : last ≡ one k = (λ i. record { place = here i; block = bytes i }) in
    pushed ∙ (λ i. held i ++ same i ∷ []) ∙ sym (map-range_with_len_more one 0 k k (omega arith))

pub all_placed : (restored places : List ℕ) (k : ℕ) (list : List Placed) → k ≡ length places
    → list ≡ map (λ j. record { place = get_or places j 0; block = block_in restored j }) (range_with_len 0 k) → list ≡ placed_blocks restored places
unfolding placed_blocks
all_placed restored places k list all held =
    held ∙ ap (λ n. map (λ j. record { place = get_or places j 0; block = block_in restored j }) (range_with_len 0 n)) all

-- ---- the answers, where the erased places are known by another name

pub inconsistent_answer : (input : LayerInput) (places : List ℕ) (b : ℕ) → AreErased input places → b < 2048
    → completed_at input places b ≡ None → ((j : ℕ) → j < b → IsSome (completed_at input places j)) → Inconsistent b ≡ correct input
inconsistent_answer input places b are below none before =
    let NoneAt : List ℕ → Type 0 = λ l. IsNone (completed_at input l b) in
    let SomeBefore : List ℕ → Type 0 = λ l. (j : ℕ) → j < b → IsSome (completed_at input l j) in
    sym (correct-inconsistent input b (omega (arith, are.few, ap length are.erased)) below (subst NoneAt are.erased (ap is_some none)) (subst SomeBefore are.erased before))

pub are_restored : (input : LayerInput) (places restored : List ℕ) → AreErased input places
    → length restored ≡ 2048 * length places → ((b : ℕ) → b < 2048 → HoldsCodeword input places restored b) → AreRestored input restored
are_restored input places restored are room held =
    let SomeAt : List ℕ → Type 0 = λ l. (j : ℕ) → j < 2048 → IsSome (completed_at input l j) in
    let HoldsAt : List ℕ → Type 0 = λ l. (b : ℕ) → b < 2048 → HoldsByte input l restored b in
    record {
      few = omega (arith, are.few, ap length are.erased);
      room = omega (arith, ap length are.erased);
      all = subst SomeAt are.erased (λ j h. ap is_some (held j h).completed);
      holds = subst HoldsAt are.erased
          (λ b h k l. (held b h).bytes k l ∙ ap (λ o. get_or (unwrap_or o []) (get_or places k 0) 0) (sym (held b h).completed));
    }

pub bad_sum_answer : (input : LayerInput) (places restored sums : List ℕ) (p : ℕ) → places ≡ erased_places input.erased → sums ≡ input.sums → AreRestored input restored
    → Some p ≡ bad_sum_in restored places sums → BadSum p ≡ correct input
bad_sum_answer input places restored sums p same recorded done bad =
    sym (correct-bad_sum input restored p done ((λ i. bad_sum_in restored (sym same i) (sym recorded i)) ∙ sym bad))

pub all_answer : (input : LayerInput) (places restored sums : List ℕ) (list : List Placed) → places ≡ erased_places input.erased → sums ≡ input.sums
    → AreRestored input restored → None ≡ bad_sum_in restored places sums → list ≡ placed_blocks restored places → Restored list ≡ correct input
all_answer input places restored sums list same recorded done good made =
    sym (correct-all input restored list done ((λ i. bad_sum_in restored (sym same i) (sym recorded i)) ∙ sym good) (made ∙ ap (placed_blocks restored) same))
