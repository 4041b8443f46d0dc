-- Lists of neighbouring numbers.
use Rattle.std.proofs.Common.{◌≡◌, ℕ, zero, suc, ◌+◌, ◌<◌, [], ◌∷◌, ◌++◌, map, refl, sym, ap, ◌∙◌, arith}
use Rattle.std.specs.List.{range_with_len}
use Rattle.std.proofs.lemmas.List.FromFn.{fill_by_all, length-map-range_with_len, get_or-map-range_with_len}
use Rattle.std.proofs.lemmas.List.{map-append}

pub range_with_len_more : (a n : ℕ) → range_with_len a (suc n) ≡ range_with_len a n ++ (a + n) ∷ []
range_with_len_more a zero = ap (λ k. k ∷ []) (let e : a ≡ a + 0 = omega arith in e)
range_with_len_more a (suc n) =
    ap (λ xs. a ∷ xs)
    (range_with_len_more (a + 1) n ∙ ap (λ k. range_with_len (a + 1) n ++ k ∷ []) (let e : a + 1 + n ≡ a + suc n = omega arith in e))

pub range_with_len-append : (a m n : ℕ) → range_with_len a (m + n) ≡ range_with_len a m ++ range_with_len (a + m) n
range_with_len-append a zero n =
    (λ i. range_with_len (let e : a ≡ a + 0 = omega arith in e i) (let e : 0 + n ≡ n = omega arith in e i))
range_with_len-append a (suc m) n =
    ap (range_with_len a) (let e : suc m + n ≡ suc (m + n) = omega arith in e)
    ∙ ap (λ xs. a ∷ xs) (range_with_len-append (a + 1) m n
    ∙ ap (λ k. range_with_len (a + 1) m ++ range_with_len k n) (let e : a + 1 + m ≡ a + suc m = omega arith in e))

-- two lists made from neighbouring numbers, which begin at different ones
pub map-range_with_len_moved : (f h : ℕ → ℕ) (a n : ℕ) → ((j : ℕ) → j < n → f (a + j) ≡ h j) → map f (range_with_len a n) ≡ map h (range_with_len 0 n)
map-range_with_len_moved f h a n same =
    fill_by_all h (map f (range_with_len a n)) n 0 (length-map-range_with_len f a n)
    (λ k l. get_or-map-range_with_len f a n k (a + k) 0 l refl ∙ same k l)

-- two functions that agree below n give the same list
pub same_maps : {A : Type 0} (f h : ℕ → A) (n : ℕ) → ((j : ℕ) → j < n → f j ≡ h j) → map f (range_with_len 0 n) ≡ map h (range_with_len 0 n)
same_maps f h zero same = refl
same_maps f h (suc n) same =
    ap (map f) (range_with_len_more 0 n) ∙ map-append f (range_with_len 0 n) ((0 + n) ∷ [])
    ∙ (λ i. same_maps f h n (λ j below. same j (omega arith)) i ++ (let e : 0 + n ≡ n = omega arith in ap f e ∙ same n (omega arith) ∙ ap h (sym e)) i ∷ [])
    ∙ sym (ap (map h) (range_with_len_more 0 n) ∙ map-append h (range_with_len 0 n) ((0 + n) ∷ []))
