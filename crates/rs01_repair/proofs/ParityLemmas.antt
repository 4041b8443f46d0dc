-- The recorded parity of neighbouring layers, which stands together.
use Rattle.std.proofs.Common.{◌≡◌, ℕ, ◌+◌, ◌-◌, ◌*◌, ◌<◌, ◌≤◌, List, length, take, drop, sym, ap, ◌∙◌, arith}
use Rattle.std.proofs.lemmas.Nat.{mul-le}
use Rattle.std.proofs.lemmas.List.{drop-drop, drop-take, take-take}
use Rattle.rs01_layers.specs.Layout.{file_size, layers_of, parity_offset}
use Rattle.rs01_lists.specs.Bytes.{part}
use Rattle.rs01_ecchead.specs.Recorded.{parity_in}
use Rattle.rs01_repair.specs.Inputs.{parity_at}
use Rattle.rs01_repair.proofs.Joined.{parity_is}

within : (n r l count at size len : ℕ) → l + count ≤ layers_of n r → at ≡ parity_offset n r l 0 → size ≡ 2048 * r * count → len ≡ file_size n r → at + size ≤ len
within n r l count at size len low a s e =
    let k : ℕ = layers_of n r in
    let rows = mul-le (2048 * r) (l + count) (2048 * r) k (omega arith) low in
    let split : 2048 * r * (l + count) ≡ (2048 * l + 0) * r + 2048 * r * count = omega arith in
    omega (arith, rows, split, a, s, e)

-- the parity of some layers, read from its file
pub parity_run : (n r l count at size : ℕ) (file e bytes : List ℕ) → l + count ≤ layers_of n r → at ≡ parity_offset n r l 0 → size ≡ 2048 * r * count → file ≡ e
    → length e ≡ file_size n r → (at + size ≤ length file → bytes ≡ part file at size) → bytes ≡ part e (parity_offset n r l 0) (2048 * r * count)
parity_run n r l count at size file e bytes low a s same whole read =
    read (within n r l count at size (length file) low a s (ap length same ∙ whole)) ∙ (λ i. part (same i) (a i) (s i))

part_of_part : (xs : List ℕ) (from m a n : ℕ) → a + n ≤ m → take n (drop a (take m (drop from xs))) ≡ take n (drop (from + a) xs)
part_of_part xs from m a n fits =
    ap (λ k. take n (drop a (take k (drop from xs)))) (let e : m ≡ a + (m - a) = omega arith in e)
    ∙ ap (take n) (drop-take a (m - a) (drop from xs))
    ∙ take-take n (m - a) (drop a (drop from xs)) (omega arith)
    ∙ ap (take n) (drop-drop a from xs)

-- the parity of one of the layers
pub parity_of_layer : (n r first count at layer len : ℕ) (e parity : List ℕ) → layer ≡ first + at → at < count → len ≡ 2048 * r
    → parity ≡ part e (parity_offset n r first 0) (2048 * r * count) → part parity (len * at) len ≡ parity_at (parity_in e n r) layer
parity_of_layer n r first count at layer len e parity is low size same =
    let rows = mul-le (2048 * r) (at + 1) (2048 * r) count (omega arith) (omega arith) in
    let whole : len * at + len ≡ 2048 * r * (at + 1) = ap (λ k. k * at + k) size ∙ (let z : 2048 * r * at + 2048 * r ≡ 2048 * r * (at + 1) = omega arith in z) in
    let there : parity_offset n r first 0 + len * at ≡ parity_offset n r layer 0 =
    ap (λ k. parity_offset n r first 0 + k * at) size ∙ (let z : parity_offset n r first 0 + 2048 * r * at ≡ parity_offset n r (first + at) 0 = omega arith in z)
    ∙ ap (λ l. parity_offset n r l 0) (sym is) in
    ap (λ xs. part xs (len * at) len) same
    ∙ part_of_part e (parity_offset n r first 0) (2048 * r * count) (len * at) len (omega (arith, rows, whole))
    ∙ (λ i. part e (there i) (size i))
    ∙ parity_is e n r layer
