-- Lists made from the numbers 0, 1, 2 and so on, one more at a time.
use Rattle.std.proofs.Common.{◌≡◌, ℕ, ◌+◌, List, [], ◌∷◌, ◌++◌, map, length, sym, ap, ◌∙◌, arith, add-one, cond}
use Rattle.std.specs.Prelude.{Bool, filter}
use Rattle.std.proofs.lemmas.List.Elements.{filter-append}
use Rattle.std.specs.List.{flat_map, range_with_len}
use Rattle.std.proofs.lemmas.List.{map-append, length-append}
use Rattle.rs01_lists.proofs.Flats.{flat_more}
use Rattle.rs01_lists.proofs.Ranges.{range_with_len_more}

numbers_more : (n : ℕ) → range_with_len 0 (n + 1) ≡ range_with_len 0 n ++ n ∷ []
numbers_more n =
    ap (range_with_len 0) (add-one n) ∙ range_with_len_more 0 n ∙ ap (λ k. range_with_len 0 n ++ k ∷ []) (let e : 0 + n ≡ n = omega arith in e)

pub map_more : {A : Type 0} (f : ℕ → A) (n : ℕ) → map f (range_with_len 0 (n + 1)) ≡ map f (range_with_len 0 n) ++ f n ∷ []
map_more f n = ap (map f) (numbers_more n) ∙ map-append f (range_with_len 0 n) (n ∷ [])

pub one_more : {A : Type 0} (f : ℕ → A) (now after : List A) (item : A) (n : ℕ) → now ≡ map f (range_with_len 0 n) → item ≡ f n
    → after ≡ now ++ item ∷ [] → after ≡ map f (range_with_len 0 (n + 1))
one_more f now after item n held is put = put ∙ (λ i. held i ++ is i ∷ []) ∙ sym (map_more f n)

pub one_more_piece : {A : Type 0} (f : ℕ → List A) (now after piece : List A) (n : ℕ) → now ≡ flat_map f (range_with_len 0 n) → piece ≡ f n
    → after ≡ now ++ piece → after ≡ flat_map f (range_with_len 0 (n + 1))
one_more_piece f now after piece n held is put =
    put ∙ (λ i. held i ++ is i) ∙ sym (ap (λ k. flat_map f (range_with_len 0 k)) (add-one n) ∙ flat_more f n)

-- the numbers that pass a test
pub one_more_kept : (p : ℕ → Bool) (now after : List ℕ) (b : Bool) (n : ℕ) → now ≡ filter p (range_with_len 0 n) → b ≡ p n
    → after ≡ now ++ cond b (n ∷ []) [] → after ≡ filter p (range_with_len 0 (n + 1))
one_more_kept p now after b n held is put =
    put ∙ (λ i. held i ++ cond (is i) (n ∷ []) []) ∙ sym (ap (filter p) (numbers_more n) ∙ filter-append p (range_with_len 0 n) (n ∷ []))

pub grown : {A : Type 0} (now after : List A) (item : A) (n : ℕ) → length now ≡ n → after ≡ now ++ item ∷ [] → length after ≡ n + 1
grown now after item n long put = ap length put ∙ length-append now (item ∷ []) ∙ ap (λ k. k + 1) long
