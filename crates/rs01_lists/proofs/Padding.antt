-- Zeros, and bytes followed by them.
use Rattle.std.proofs.Common.{◌≡◌, ℕ, ◌+◌, ◌-◌, ◌≤◌, ⊎_elim, zero, suc, List, ◌∷◌, ◌++◌, length, get_or, take, replicate, refl, sym, ap, ◌∙◌, arith, length-append}
use Rattle.std.proofs.lemmas.List.{length-replicate, get_or_append_left, get_or-append_right, get_or_past, take_all}
use Rattle.std.proofs.lemmas.Bool.{cases_lt}
use Rattle.rs01_lists.specs.Bytes.{padded, zeros}

pub length-zeros : (n : ℕ) → length (zeros n) ≡ n
unfolding zeros
length-zeros n = length-replicate n 0

pub get_or-zeros : (n k : ℕ) → get_or (zeros n) k 0 ≡ 0
unfolding zeros
get_or-zeros zero k = refl
get_or-zeros (suc n) zero = refl
get_or-zeros (suc n) (suc k) = get_or-zeros n k

-- zeros and more zeros
pub zeros-add : (m n : ℕ) → zeros (m + n) ≡ zeros m ++ zeros n
unfolding zeros
zeros-add zero n = ap (λ k. replicate k 0) (let e : 0 + n ≡ n = omega arith in e)
zeros-add (suc m) n = ap (λ k. replicate k 0) (let e : suc m + n ≡ suc (m + n) = omega arith in e) ∙ ap (λ xs. 0 ∷ xs) (zeros-add m n)

-- a list that was lengthened with zeros
pub lengthened : (old new : List ℕ) (len n count : ℕ) → len ≡ length old → n ≡ len + count
    → new ≡ take n old ++ replicate (n - len) 0 → new ≡ old ++ zeros count
unfolding zeros
lengthened old new len n count own e f =
    f ∙ (λ i. take_all n old (omega (arith, own, e)) i ++ replicate ((let rest : n - len ≡ count = omega (arith, e) in rest) i) 0)

-- a list that was filled with zeros
pub filled : (xs : List ℕ) (m n : ℕ) → m ≡ n → xs ≡ replicate m 0 → xs ≡ zeros n
unfolding zeros
filled xs m n e f = f ∙ ap (λ k. replicate k 0) e

-- bytes with zeros behind them
pub padded-is : (width : ℕ) (bytes : List ℕ) → padded width bytes ≡ bytes ++ zeros (width - length bytes)
unfolding padded
padded-is width bytes = refl

pub length-padded : (width : ℕ) (bytes : List ℕ) → length bytes ≤ width → length (padded width bytes) ≡ width
unfolding padded
length-padded width bytes h =
    omega (arith, length-append bytes (zeros (width - length bytes)), length-zeros (width - length bytes))

-- past the bytes there are zeros, which is what is read past the end of a list too
pub get_or-padded : (width : ℕ) (bytes : List ℕ) (k : ℕ) → get_or (padded width bytes) k 0 ≡ get_or bytes k 0
unfolding padded
get_or-padded width bytes k =
    ⊎_elim
    (λ h. get_or_append_left bytes (zeros (width - length bytes)) 0 k h)
    (λ h. get_or-append_right bytes (zeros (width - length bytes)) (length bytes) k 0 refl h
    ∙ get_or-zeros (width - length bytes) (k - length bytes) ∙ sym (get_or_past bytes k 0 h))
    (cases_lt k (length bytes))
