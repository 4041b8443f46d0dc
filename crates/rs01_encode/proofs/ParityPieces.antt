-- The parity of a layer, byte by byte and as a list.
use Rattle.std.proofs.Common.{◌≡◌, ℕ, zero, suc, ◌+◌, ◌-◌, ◌*◌, ◌<◌, ◌≤◌, List, [], ◌∷◌, ◌++◌, length, take, drop, get_or, sym, ap, ◌∙◌, arith, append-nil}
use Rattle.std.proofs.Math.Seq.{take-add}
use Rattle.std.proofs.lemmas.List.{ext_get_or, get_or-take, get_or-drop, length-drop, length-take, map-id, take_all}
use Rattle.std.proofs.lemmas.List.FromFn.{map-range_with_len_more}
use Rattle.std.proofs.lemmas.List.Concat.{flat_map-append}
use Rattle.std.specs.List.{flat_map, range_with_len}
use Rattle.rs01_poly.specs.Code.{encode}
use Rattle.rs01_poly.proofs.Division.{length-encode}
use Rattle.rs01_layers.specs.Blocks.{blocks_of}
use Rattle.rs01_columns.specs.Layer.{HoldsParity, data_at}
use Rattle.rs01_columns.proofs.Laid.{length-data}
use Rattle.rs01_encode.specs.Task.{parity_of}

pub range_more : (n : ℕ) → range_with_len 0 (n + 1) ≡ range_with_len 0 n ++ n ∷ []
range_more n =
    sym (map-id (range_with_len 0 (n + 1)))
    ∙ map-range_with_len_more (λ k. k) 0 n n (let e : 0 + n ≡ n = omega arith in e)
    ∙ ap (λ ks. ks ++ n ∷ []) (map-id (range_with_len 0 n))

-- the pieces of the first n numbers
abbrev flat : (ℕ → List ℕ) → ℕ → List ℕ
flat f n = flat_map f (range_with_len 0 n)

flat_more : (f : ℕ → List ℕ) (n : ℕ) → flat f (n + 1) ≡ flat f n ++ f n
flat_more f n =
    ap (flat_map f) (range_more n) ∙ flat_map-append f (range_with_len 0 n) (n ∷ []) ∙ ap (λ xs. flat f n ++ xs) (append-nil (f n))

-- a list that holds each byte of the first n pieces, of r bytes each, begins with these pieces
begins : (f : ℕ → List ℕ) (bytes : List ℕ) (r n : ℕ) → n * r ≤ length bytes → ((k : ℕ) → k < n → length (f k) ≡ r)
    → ((b j : ℕ) → b < n → j < r → get_or bytes (b * r + j) 0 ≡ get_or (f b) j 0) → take (n * r) bytes ≡ flat f n
begins f bytes r zero long each held = ap (λ m. take m bytes) (let none : 0 * r ≡ 0 = omega arith in none)
begins f bytes r (suc n) long each held =
    let one : suc n ≡ n + 1 = omega arith in
    let more : suc n * r ≡ n * r + r = omega arith in
    let rest : List ℕ = drop (n * r) bytes in
    let count : length (take r rest) ≡ r = omega (arith, length-take r rest, length-drop (n * r) bytes, more, long) in
    ap (λ m. take m bytes) more
    ∙ take-add (n * r) r bytes
    ∙ (λ i. begins f bytes r n (omega (arith, more, long)) (λ k l. each k (omega arith)) (λ b j l h. held b j (omega arith) h) i
    ++ ext_get_or 0 (take r rest) (f n) (count ∙ sym (each n (omega arith)))
    (λ j h. get_or-take r rest j 0 (omega (arith, count, h)) ∙ get_or-drop (n * r) bytes j 0 ∙ held n j (omega arith) (omega (arith, count, h))) i)
    ∙ sym (flat_more f n)
    ∙ ap (flat f) (sym one)

-- a list of the right length that holds the parity of all codewords is that parity
pub is_parity : (r : ℕ) (parity blocks : List ℕ) → r ≤ 255 → length parity ≡ 2048 * r → HoldsParity r parity blocks 2048
    → parity ≡ parity_of 2048 (blocks_of (255 - r) blocks)
unfolding parity_of
is_parity r parity blocks most whole held =
    sym (take_all (2048 * r) parity (omega arith))
    ∙ begins (λ b. encode (data_at r blocks b)) parity r 2048 (omega arith)
    (λ b h. length-encode (data_at r blocks b) (omega (arith, length-data r blocks b)) ∙ omega (arith, length-data r blocks b)) held
