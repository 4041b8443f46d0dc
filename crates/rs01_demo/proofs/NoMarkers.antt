-- No sector that the generator makes is a marker.
use Rattle.std.proofs.Common.{◌≡◌, ◌≢◌, ℕ, zero, suc, ◌+◌, ◌*◌, ◌/◌, ◌^◌, ◌<◌, ◌≤◌, List, get_or, length, ap, arith, refl, sym, ◌∙◌, Bool, true, false}
use Rattle.std.specs.Prelude.{◌==◌, find, nat_lt, None, Some}
use Rattle.std.specs.List.{range_with_len}
use Rattle.std.specs.Str.{bytes_eq}
use Rattle.std.proofs.Math.Nat.{mod-add-div}
use Rattle.std.proofs.lemmas.Bool.{le-ltb}
use Rattle.std.proofs.lemmas.Bool.Decides.{Decides-eqb}
use Rattle.std.proofs.lemmas.List.{get_or_past}
use Rattle.std.proofs.lemmas.Slice.Eq.{bytes_eq-Decides}
use Rattle.rs01_layers.proofs.BlockLemmas.{get_or-sector}
use Rattle.rs01_layers.specs.Sectors.{sector, sectors_of}
use Rattle.rs01_lists.proofs.Padding.{get_or-padded}
use Rattle.rs01_sums.proofs.MarkerLemmas.{length-marker_text}
use Rattle.rs01_sums.specs.Marker.{marker, marker_text}
use Rattle.rs01_create.specs.Create.{first_marked, image_refusal, refusal_of}
use Rattle.rs01_demo.specs.Generator.{byte_at, image, next, value_at}
use Rattle.rs01_demo.proofs.GeneratorLemmas.{get_or-image, length-image, value_more}

-- ten values that follow each other aren't all below 2 ^ 56
pub ten_low : (v0 v1 v2 v3 v4 v5 v6 v7 v8 v9 q0 q1 q2 q3 q4 q5 q6 q7 q8 : ℕ)
    → v0 < 2 ^ 56
    → v1 < 2 ^ 56
    → v2 < 2 ^ 56
    → v3 < 2 ^ 56
    → v4 < 2 ^ 56
    → v5 < 2 ^ 56
    → v6 < 2 ^ 56
    → v7 < 2 ^ 56
    → v8 < 2 ^ 56
    → v9 < 2 ^ 56
    → v1 + 2 ^ 64 * q0 ≡ v0 * 6364136223846793005 + 1442695040888963407
    → v2 + 2 ^ 64 * q1 ≡ v1 * 6364136223846793005 + 1442695040888963407
    → v3 + 2 ^ 64 * q2 ≡ v2 * 6364136223846793005 + 1442695040888963407
    → v4 + 2 ^ 64 * q3 ≡ v3 * 6364136223846793005 + 1442695040888963407
    → v5 + 2 ^ 64 * q4 ≡ v4 * 6364136223846793005 + 1442695040888963407
    → v6 + 2 ^ 64 * q5 ≡ v5 * 6364136223846793005 + 1442695040888963407
    → v7 + 2 ^ 64 * q6 ≡ v6 * 6364136223846793005 + 1442695040888963407
    → v8 + 2 ^ 64 * q7 ≡ v7 * 6364136223846793005 + 1442695040888963407
    → v9 + 2 ^ 64 * q8 ≡ v8 * 6364136223846793005 + 1442695040888963407
    → ⊥
ten_low v0 v1 v2 v3 v4 v5 v6 v7 v8 v9 q0 q1 q2 q3 q4 q5 q6 q7 q8 b0 b1 b2 b3 b4 b5 b6 b7 b8 b9 e0 e1 e2 e3 e4 e5 e6 e7 e8 = omega arith

-- a value and the next one
step : (number i : ℕ) → value_at number (i + 1) + 2 ^ 64 * ((value_at number i * 6364136223846793005 + 1442695040888963407) / 2 ^ 64) ≡ value_at number i * 6364136223846793005 + 1442695040888963407
unfolding next
step number i =
    ap (λ v. v + 2 ^ 64 * ((value_at number i * 6364136223846793005 + 1442695040888963407) / 2 ^ 64)) (value_more number i)
    ∙ mod-add-div (value_at number i * 6364136223846793005 + 1442695040888963407) (2 ^ 64)

low : (v : ℕ) → v / 2 ^ 56 ≡ 0 → v < 2 ^ 56
low v e = omega arith

-- ten neighbouring bytes of an image aren't all 0
pub not_all_zero : (number i : ℕ) → ((j : ℕ) → j < 10 → byte_at number (i + j) ≡ 0) → ⊥
not_all_zero number i zero_at =
    let v : ℕ → ℕ = λ j. value_at number (i + 1 + j) in
    let b : (j : ℕ) → j < 10 → v j < 2 ^ 56 = λ j below. low (v j) (ap (λ k. value_at number k / 2 ^ 56) (let e : i + 1 + j ≡ i + j + 1 = omega arith in e) ∙ zero_at j below) in
    let q : ℕ → ℕ = λ j. (v j * 6364136223846793005 + 1442695040888963407) / 2 ^ 64 in
    let s : (j k : ℕ) → j + 1 ≡ k → v k + 2 ^ 64 * q j ≡ v j * 6364136223846793005 + 1442695040888963407 =
    λ j k is. ap (λ n. value_at number n + 2 ^ 64 * q j) (let e : i + 1 + k ≡ i + 1 + j + 1 = omega (arith, is) in e) ∙ step number (i + 1 + j) in
    ten_low (v 0) (v 1) (v 2) (v 3) (v 4) (v 5) (v 6) (v 7) (v 8) (v 9) (q 0) (q 1) (q 2) (q 3) (q 4) (q 5) (q 6) (q 7) (q 8)
    (b 0 (omega arith)) (b 1 (omega arith)) (b 2 (omega arith)) (b 3 (omega arith)) (b 4 (omega arith))
    (b 5 (omega arith)) (b 6 (omega arith)) (b 7 (omega arith)) (b 8 (omega arith)) (b 9 (omega arith))
    (s 0 1 refl) (s 1 2 refl) (s 2 3 refl) (s 3 4 refl) (s 4 5 refl) (s 5 6 refl) (s 6 7 refl) (s 7 8 refl) (s 8 9 refl)

-- past its text a marker has zeros
marker_zero : (s k : ℕ) → 31 ≤ k → get_or (marker s) k 0 ≡ 0
unfolding marker
marker_zero s k past = get_or-padded 2048 (marker_text s) k ∙ get_or_past (marker_text s) k 0 (omega (arith, past, length-marker_text s))

-- so no sector of an image is one
pub no_marker : (number sectors s : ℕ) → s < sectors → sector (image number sectors) s ≢ marker s
no_marker number sectors s below same =
    let count : sectors_of (length (image number sectors)) ≡ sectors = ap sectors_of (length-image number sectors) ∙ omega arith in
    not_all_zero number (2048 * s + 31)
    (λ j h.
    let at : 2048 * s + 31 + j ≡ 2048 * s + (31 + j) = omega arith in
    ap (byte_at number) at
    ∙ sym (get_or-image number sectors (2048 * s + (31 + j)) (omega (arith, below, h)))
    ∙ sym (get_or-sector (image number sectors) s (31 + j) (omega (arith, below, count)) (omega (arith, h)))
    ∙ ap (λ (xs : List ℕ). get_or xs (31 + j) 0) same
    ∙ marker_zero s (31 + j) (omega arith))

pub not_true : (b : Bool) → ¬ (b ≡ true) → b ≡ false
not_true true refuted = absurd (refuted refl)
not_true false refuted = refl

-- two lists that differ
pub differs : (xs ys : List ℕ) → xs ≢ ys → bytes_eq xs ys ≡ false
differs xs ys apart = not_true (bytes_eq xs ys) (λ e. apart ((bytes_eq-Decides xs ys).0 e))

none_found : (p : ℕ → Bool) (a n : ℕ) → ((k : ℕ) → k < a + n → p k ≡ false) → find p (range_with_len a n) ≡ None
none_found p a zero none = refl
none_found p a (suc n) none = rw (none a (omega arith)) (none_found p (a + 1) n (λ k h. none k (omega (arith, h))))

pub none_marked : (number sectors : ℕ) → first_marked (image number sectors) ≡ None
unfolding first_marked
none_marked number sectors =
    let bytes = image number sectors in
    let count : sectors_of (length bytes) ≡ sectors = ap sectors_of (length-image number sectors) ∙ omega arith in
    none_found (λ s. bytes_eq (sector bytes s) (marker s)) 0 (sectors_of (length bytes))
    (λ s h. differs (sector bytes s) (marker s) (no_marker number sectors s (omega (arith, h, count))))

-- and none is refused
pub never_refused : (number sectors : ℕ) → 1 ≤ sectors → sectors ≤ 65536 → refusal_of (Some (image number sectors)) ≡ None
unfolding image_refusal
never_refused number sectors some few =
    let size = length (image number sectors) in
    let is : size ≡ 2048 * sectors = length-image number sectors in
    let count : sectors_of size ≡ sectors = ap sectors_of is ∙ omega arith in
    let one : (size == 0) ≡ false = not_true (size == 0) (λ e. let zero_is = (Decides-eqb size 0).0 e in omega (arith, zero_is, is, some)) in
    let other : nat_lt 16777215 (sectors_of size) ≡ false = le-ltb 16777215 (sectors_of size) (omega (arith, count, few)) in
    rw one (rw other (rw (none_marked number sectors) refl))
