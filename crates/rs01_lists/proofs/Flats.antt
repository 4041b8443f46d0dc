-- A list put together from the pieces f 0, f 1, f 2 and so on, which have w elements each.
use Rattle.std.proofs.Common.{◌≡◌, ℕ, zero, suc, ◌+◌, ◌-◌, ◌*◌, ◌<◌, List, [], ◌∷◌, ◌++◌, length, sym, ap, ◌∙◌, arith, add-one, append_assoc, append-nil}
use Rattle.std.specs.List.{flat_map, range_with_len}
use Rattle.std.proofs.Math.ListN.{length-append}
use Rattle.std.proofs.lemmas.List.Concat.{flat_map-append}
use Rattle.rs01_lists.specs.Bytes.{part}
use Rattle.rs01_lists.proofs.Ranges.{range_with_len_more, range_with_len-append}
use Rattle.rs01_lists.proofs.Parts.{first, skip}

-- one more piece
pub flat_more : {A : Type 0} (f : ℕ → List A) (n : ℕ) → flat_map f (range_with_len 0 (suc n)) ≡ flat_map f (range_with_len 0 n) ++ f n
flat_more f n =
    ap (flat_map f) (range_with_len_more 0 n ∙ ap (λ k. range_with_len 0 n ++ k ∷ []) (let e : 0 + n ≡ n = omega arith in e))
    ∙ flat_map-append f (range_with_len 0 n) (n ∷ [])
    ∙ ap (λ xs. flat_map f (range_with_len 0 n) ++ xs) (append-nil (f n))

pub length-flat : {A : Type 0} (f : ℕ → List A) (w n : ℕ) → ((k : ℕ) → k < n → length (f k) ≡ w) → length (flat_map f (range_with_len 0 n)) ≡ w * n
length-flat f w zero each = (let e : 0 ≡ w * 0 = omega arith in e)
length-flat f w (suc n) each =
    ap length (flat_more f n)
    ∙ length-append (flat_map f (range_with_len 0 n)) (f n)
    ∙ (λ i. length-flat f w n (λ k l. each k (omega arith)) i + each n (omega arith) i)
    ∙ (let e : w * n + w ≡ w * suc n = omega arith in e)

-- a piece stands where those before it end
pub flat_at : (f : ℕ → List ℕ) (w n k : ℕ) → ((j : ℕ) → j < n → length (f j) ≡ w) → k < n → part (flat_map f (range_with_len 0 n)) (w * k) w ≡ f k
flat_at f w n k each below =
    let before = flat_map f (range_with_len 0 k) in
    let rest = flat_map f (range_with_len (k + 1) (n - k - 1)) in
    let split : n ≡ k + suc (n - k - 1) = omega arith in
    let whole : flat_map f (range_with_len 0 n) ≡ before ++ (f k ++ rest) =
    ap (λ m. flat_map f (range_with_len 0 m)) split
    ∙ ap (flat_map f) (range_with_len-append 0 k (suc (n - k - 1)))
    ∙ flat_map-append f (range_with_len 0 k) (range_with_len (0 + k) (suc (n - k - 1)))
    ∙ ap (λ m. before ++ flat_map f (range_with_len m (suc (n - k - 1)))) (let e : 0 + k ≡ k = omega arith in e) in
    let place : w * k ≡ w * k + 0 = omega arith in
    ap (λ xs. part xs (w * k) w) whole
    ∙ ap (λ at. part (before ++ (f k ++ rest)) at w) place
    ∙ skip before (f k ++ rest) (w * k) 0 w (length-flat f w k (λ j l. each j (omega arith)))
    ∙ first (f k) rest w (each k below)

-- what was there, then the first n pieces, and then one more
pub one_more_piece : (f : ℕ → List ℕ) (before now piece after : List ℕ) (n : ℕ)
    → now ≡ before ++ flat_map f (range_with_len 0 n) → piece ≡ f n → after ≡ now ++ piece
    → after ≡ before ++ flat_map f (range_with_len 0 (n + 1))
one_more_piece f before now piece after n held e put =
    put ∙ (λ i. held i ++ e i) ∙ append_assoc before (flat_map f (range_with_len 0 n)) (f n)
    ∙ ap (λ xs. before ++ xs) (sym (ap (λ k. flat_map f (range_with_len 0 k)) (add-one n) ∙ flat_more f n))

-- all pieces, once the count of them is reached
pub all_pieces : (f : ℕ → List ℕ) (before now whole : List ℕ) (n count : ℕ) → n ≡ count
    → now ≡ before ++ flat_map f (range_with_len 0 n) → whole ≡ flat_map f (range_with_len 0 count) → now ≡ before ++ whole
all_pieces f before now whole n count e held w = held ∙ ap (λ k. before ++ flat_map f (range_with_len 0 k)) e ∙ ap (λ xs. before ++ xs) (sym w)
