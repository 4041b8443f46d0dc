-- What the lanes of a bank hold once the bytes of a layer are laid into it.
use Rattle.std.proofs.Common.{◌≡◌, ℕ, ◌+◌, ◌-◌, ◌*◌, ◌^◌, ◌<◌, ◌≤◌, List, ◌++◌, length, take, drop, get_or, sym, ◌∙◌, arith, ⊎_elim}
use Rattle.std.specs.Prelude.{All}
use Rattle.std.proofs.lemmas.Bool.{cases_lt}
use Rattle.std.proofs.lemmas.Nat.{mul-le}
use Rattle.std.proofs.Math.ListN.{length-append}
use Rattle.std.proofs.lemmas.List.{get_or_append_left, get_or-append_right, get_or_past, get_or-take, get_or-drop, length-take, length-drop}
use Rattle.std.proofs.lemmas.List.Elements.{All-from_get_or}
use Rattle.rs01_layers.specs.Layer.{column}
use Rattle.rs01_layers.specs.Blocks.{blocks_of}
use Rattle.rs01_layers.proofs.BlockLemmas.{length-column, length-blocks_of, get_or-column-blocks_of}
use Rattle.rs01_poly.proofs.Values.{AllBytes, AllBytes-append}
use Rattle.rs01_columns.specs.Bank.{lane}
use Rattle.rs01_columns.specs.Layer.{data_at, word_at}

pub laid_all : (bank blocks : List ℕ) (k first l j : ℕ) → first + 1024 ≤ 2048 → l < 1024
    → (j < k → lane bank l j ≡ get_or blocks (2048 * j + (first + l)) 0) → (k ≤ j → lane bank l j ≡ 0)
    → lane bank l j ≡ get_or (column (blocks_of k blocks) (first + l)) j 0
laid_all bank blocks k first l j hf hl laid zeros =
    ⊎_elim
    (λ h. laid h ∙ sym (get_or-column-blocks_of k blocks (first + l) j (omega arith) h))
    (λ g. zeros g ∙ sym (get_or_past (column (blocks_of k blocks) (first + l)) j 0
    (omega (arith, length-column (blocks_of k blocks) (first + l), length-blocks_of k blocks))))
    (cases_lt j k)

pub length-data : (r : ℕ) (blocks : List ℕ) (b : ℕ) → length (data_at r blocks b) ≡ 255 - r
length-data r blocks b = length-column (blocks_of (255 - r) blocks) b ∙ length-blocks_of (255 - r) blocks

pub AllBytes-data : (r : ℕ) (blocks : List ℕ) (b : ℕ) → b < 2048 → AllBytes blocks → AllBytes (data_at r blocks b)
AllBytes-data r blocks b below bytes j =
    ⊎_elim
    (λ h. rw (get_or-column-blocks_of (255 - r) blocks b j below h) (bytes (2048 * j + b)))
    (λ g. rw (get_or_past (data_at r blocks b) j 0 (omega (arith, length-data r blocks b))) (omega arith))
    (cases_lt j (255 - r))

-- a fact of each place of a list of bytes, as a fact of all its elements
pub all_bytes : (d : List ℕ) → AllBytes d → All (λ x. x < 2 ^ 8) d
all_bytes d bytes = All-from_get_or (λ x. x < 2 ^ 8) d 0 (λ j h. bytes j)

-- the parity of a codeword is whole
pub length-piece : (r : ℕ) (parity : List ℕ) (b : ℕ) → b < 2048 → length parity ≡ 2048 * r → length (take r (drop (b * r) parity)) ≡ r
length-piece r parity b below long =
    let room : (b + 1) * r ≤ 2048 * r = mul-le (b + 1) r 2048 r (omega arith) (omega arith) in
    omega (arith, length-take r (drop (b * r) parity), length-drop (b * r) parity, room, long)

-- the bytes of a codeword as it is held
pub word_laid : (bank blocks parity : List ℕ) (r b l j : ℕ) → r ≤ 100 → b < 2048 → length parity ≡ 2048 * r
    → (j < 255 - r → lane bank l j ≡ get_or (data_at r blocks b) j 0)
    → ((m : ℕ) → m < r → lane bank l (255 - r + m) ≡ get_or parity (b * r + m) 0)
    → (255 ≤ j → lane bank l j ≡ get_or (data_at r blocks b) j 0)
    → lane bank l j ≡ get_or (word_at r blocks parity b) j 0
word_laid bank blocks parity r b l j most below whole front here behind =
    let d : List ℕ = data_at r blocks b in
    let p : List ℕ = take r (drop (b * r) parity) in
    let long : length d ≡ 255 - r = length-data r blocks b in
    let count : length p ≡ r = length-piece r parity b below whole in
    ⊎_elim
    (λ (inside : j < 255 - r). front inside ∙ sym (get_or_append_left d p 0 j (omega arith)))
    (λ (past : 255 - r ≤ j).
    ⊎_elim
    (λ (inside : j < 255).
    let m : ℕ = j - (255 - r) in
    let same : 255 - r + m ≡ j = omega arith in
    (λ i. lane bank l (sym same i))
    ∙ here m (omega arith)
    ∙ sym (get_or-take r (drop (b * r) parity) m 0 (omega arith) ∙ get_or-drop (b * r) parity m 0)
    ∙ sym (get_or-append_right d p (255 - r) j 0 long past))
    (λ (out : 255 ≤ j).
    behind out
    ∙ get_or_past d j 0 (omega arith)
    ∙ sym (get_or_past (d ++ p) j 0 (omega (arith, length-append d p, long, count))))
    (cases_lt j 255))
    (cases_lt j (255 - r))

-- a byte of an earlier codeword's parity lies before that of a later one
pub earlier_byte : (first m l r j : ℕ) → m < l → j < r → (first + m) * r + j < (first + l) * r
earlier_byte first m l r j earlier inside =
    let room : (first + m + 1) * r ≤ (first + l) * r = mul-le (first + m + 1) r (first + l) r (omega arith) (omega arith) in
    omega (arith, room)

pub length-word : (r : ℕ) (blocks parity : List ℕ) (b : ℕ) → r ≤ 100 → b < 2048 → length parity ≡ 2048 * r → length (word_at r blocks parity b) ≡ 255
length-word r blocks parity b most below whole =
    length-append (data_at r blocks b) (take r (drop (b * r) parity)) ∙ omega (arith, length-data r blocks b, length-piece r parity b below whole)

AllBytes-take : (n : ℕ) (xs : List ℕ) → AllBytes xs → AllBytes (take n xs)
AllBytes-take n xs h k =
    ⊎_elim
    (λ l. rw (get_or-take n xs k 0 l) (h k))
    (λ g. rw (get_or_past (take n xs) k 0 (omega (arith, length-take n xs))) (omega arith))
    (cases_lt k n)

pub AllBytes-word : (r : ℕ) (blocks parity : List ℕ) (b : ℕ) → b < 2048 → AllBytes blocks → AllBytes parity → AllBytes (word_at r blocks parity b)
AllBytes-word r blocks parity b below hb hp =
    AllBytes-append (data_at r blocks b) (take r (drop (b * r) parity)) (AllBytes-data r blocks b below hb)
    (AllBytes-take r (drop (b * r) parity) (λ k. rw (get_or-drop (b * r) parity k 0) (hp (b * r + k))))
