-- One more place of a layer.
use Rattle.std.proofs.Common.{◌≡◌, ℕ, ◌+◌, ◌*◌, ◌<◌, ◌≤◌, List, [], length, get_or, drop, sym, ap, ◌∙◌, subst, arith, Bool, true, cond, set, ⊎_elim}
use Rattle.std.specs.Prelude.{nat_lt, ◌&&◌}
use Rattle.std.proofs.lemmas.Bool.{cases_eq, cases_lt, false≢true, le-ltb, lt-ltb}
use Rattle.std.proofs.lemmas.List.{length-append, length-drop, length-take, get_or-set_other, get_or-set_same}
use Rattle.rs01_layers.specs.Sectors.{block, length_of}
use Rattle.rs01_lists.specs.Bytes.{padded}
use Rattle.rs01_lists.proofs.Padding.{length-padded}
use Rattle.rs01_ecchead.specs.Erased.{block_in, known_of}
use Rattle.rs01_ecchead.specs.Header.{Fields}
use Rattle.rs01_repair.specs.Finding.{fields_in}
use Rattle.rs01_repair.specs.Inputs.{block_at, flag_at, place_number}
use Rattle.rs01_repair.specs.Parts.{AddsPlace, Covers, HasBlocks, HasBlocksOf, IsRunOf, chunk, run_start}
use Rattle.rs01_repair.specs.declared.found.Found.{Found}
use Rattle.rs01_repair.specs.declared.part.Part.{Part}
use Rattle.rs01_repair.proofs.CorrectLemmas.{both_parts}
use Rattle.rs01_repair.proofs.Numbered.{one_more_piece}

-- a block that stands for a place
length-place : (f : Fields) (bytes : List ℕ) (l p : ℕ) → (place_number f l p < f.sectors → length bytes ≡ 2048) → length (block_at f (λ _. bytes) l p) ≡ 2048
unfolding block_at
length-place f bytes l p long =
    ⊎_elim
    (λ below. ap (λ b. length (cond b bytes (padded 2048 []))) (lt-ltb (place_number f l p) f.sectors below) ∙ long below)
    (λ past. ap (λ b. length (cond b bytes (padded 2048 []))) (le-ltb (place_number f l p) f.sectors past) ∙ length-padded 2048 [] (omega arith))
    (cases_lt (place_number f l p) f.sectors)

-- a flag that is set is that of a sector
pub flag_is_sector : (f : Fields) (gone : ℕ → Bool) (l p : ℕ) → flag_at f gone l p ≡ true → place_number f l p < f.sectors
unfolding flag_at
flag_is_sector f gone l p e =
    ⊎_elim
    (λ below. below)
    (λ past. absurd (false≢true (sym (le-ltb (place_number f l p) f.sectors past) ∙ (both_parts (nat_lt (place_number f l p) f.sectors) (gone (place_number f l p)) e).0)))
    (cases_lt (place_number f l p) f.sectors)

-- one more place was read
pub places_more : (found : Found) (l p : ℕ) (bytes : List ℕ) (old new : Part) → (place_number (fields_in found) l p < found.ecc.head.sectors → length bytes ≡ 2048)
    → HasBlocks found p old → AddsPlace found l p bytes old new → HasBlocks found (p + 1) new
places_more found l p bytes old new long has adds =
    let f = fields_in found in
    record {
      blocks = ap length adds.blocks ∙ length-append old.blocks.items (block_at f (λ _. bytes) l p) ∙ (let a = has.blocks in let b = length-place f bytes l p long in omega arith);
      erased = ap length adds.erased ∙ has.erased;
    }

same_block : (f : Fields) (one other : ℕ → List ℕ) (l p : ℕ) → (place_number f l p < f.sectors → one (place_number f l p) ≡ other (place_number f l p)) → block_at f one l p ≡ block_at f other l p
unfolding block_at
same_block f one other l p same =
    let n = place_number f l p in
    ⊎_elim
    (λ below. ap (λ b. cond b (one n) (padded 2048 [])) (lt-ltb n f.sectors below) ∙ same below ∙ sym (ap (λ b. cond b (other n) (padded 2048 [])) (lt-ltb n f.sectors below)))
    (λ past. ap (λ b. cond b (one n) (padded 2048 [])) (le-ltb n f.sectors past) ∙ sym (ap (λ b. cond b (other n) (padded 2048 [])) (le-ltb n f.sectors past)))
    (cases_lt n f.sectors)

pub same_flag : (f : Fields) (one other : ℕ → Bool) (l p : ℕ) → (place_number f l p < f.sectors → one (place_number f l p) ≡ other (place_number f l p)) → flag_at f one l p ≡ flag_at f other l p
unfolding flag_at
same_flag f one other l p same =
    let n = place_number f l p in
    ⊎_elim
    (λ below. ap (λ b. nat_lt n f.sectors && b) (same below))
    (λ past. ap (λ b. b && one n) (le-ltb n f.sectors past) ∙ sym (ap (λ b. b && other n) (le-ltb n f.sectors past)))
    (cases_lt n f.sectors)

pub blocks_more : (found : Found) (file : List ℕ) (l p : ℕ) (bytes : List ℕ) (old new : Part)
    → (place_number (fields_in found) l p < found.ecc.head.sectors → bytes ≡ block_in (known_of found.ecc) file (place_number (fields_in found) l p))
    → HasBlocksOf found file l p old → AddsPlace found l p bytes old new → HasBlocksOf found file l (p + 1) new
blocks_more found file l p bytes old new is has adds =
    let f = fields_in found in
    let known = known_of found.ecc in
    one_more_piece (block_at f (block_in known file) l) old.blocks.items new.blocks.items _ p has (same_block f (λ _. bytes) (block_in known file) l p is) adds.blocks

-- the block of a layer in a run
pub run_has : (found : Found) (first p count k : ℕ) (run : List ℕ) → Covers found first p count run → k < count → place_number (fields_in found) (first + k) p < found.ecc.head.sectors
    → 2048 * k + 2048 ≤ length run
run_has found first p count k run covers low below = omega arith

pub run_gives : (found : Found) (file : List ℕ) (first p count k : ℕ) (run : List ℕ) → Covers found first p count run → IsRunOf found file first p run → k < count
    → place_number (fields_in found) (first + k) p < found.ecc.head.sectors
    → chunk run k ≡ block_in (known_of found.ecc) file (place_number (fields_in found) (first + k) p)
unfolding chunk
run_gives found file first p count k run covers is low below =
    let known = known_of found.ecc in
    let room = run_has found first p count k run covers low below in
    let same : run_start found first p + k ≡ place_number (fields_in found) (first + k) p = omega arith in
    is k (omega arith) ∙ ap (λ s. block file s (length_of known.sectors known.last_bytes s)) same

-- a list of which one item was set
pub set_done : {A : Type 0} (Q : ℕ → A → Type 0) (xs : List A) (k : ℕ) (v : A) → k < length xs → ((j : ℕ) (d : A) → j < k → Q j (get_or xs j d)) → Q k v
    → (j : ℕ) (d : A) → j < k + 1 → Q j (get_or (set xs k v) j d)
set_done Q xs k v low before here j d below =
    ⊎_elim
    (λ (same : j ≡ k). subst (λ i. Q i (get_or (set xs k v) i d)) (sym same) (subst (Q k) (sym (get_or-set_same xs k v d low)) here))
    (λ ne. subst (Q j) (sym (get_or-set_other xs k j v d ne)) (before j d (omega arith)))
    (cases_eq j k)

pub set_left : {A : Type 0} (P : ℕ → A → Type 0) (xs : List A) (k n : ℕ) (v : A) → ((j : ℕ) (d : A) → k ≤ j → j < n → P j (get_or xs j d))
    → (j : ℕ) (d : A) → k + 1 ≤ j → j < n → P j (get_or (set xs k v) j d)
set_left P xs k n v rest j d from below =
    subst (P j) (sym (get_or-set_other xs k j v d (λ e. omega (arith, e)))) (rest j d (omega arith) below)

pub long_part : (run : List ℕ) (k : ℕ) → 2048 * k + 2048 ≤ length run → length (chunk run k) ≡ 2048
unfolding chunk
long_part run k room = length-take 2048 (drop (2048 * k) run) ∙ (let d = length-drop (2048 * k) run in omega arith)
