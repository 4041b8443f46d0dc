-- Files whose first bytes are those of one list, and the others those of another.
use Rattle.std.proofs.Common.{◌≡◌, ℕ, ◌+◌, ◌-◌, ◌<◌, ◌≤◌, ◌∙◌, ap, arith, sym, List, [], ◌++◌, length, take, drop, min, append_assoc, append-nil, ⊎_elim, inl, inr}
use Rattle.std.specs.Prelude.{Some, Err}
use Rattle.std.specs.Option.{unwrap_or}
use Rattle.std.proofs.Math.Seq.{take-add, take-append_seam, drop-append-add}
use Rattle.std.proofs.lemmas.Bool.{cases_lt}
use Rattle.std.proofs.lemmas.List.{drop-drop, drop-append-le, drop_all, length-take-le, length-take, length-drop, length-append, take-take, take-append-drop, take_all}
use Rattle.rs01_lists.specs.Bytes.{padded, part, zeros}
use Rattle.rs01_lists.proofs.Padding.{length-zeros}
use Rattle.rs01_outside.specs.Files.{Files, Writes, WritesAt, put_at}
use Rattle.rs01_linear.specs.Marking.{IsMixed}
use Rattle.rs01_linear.specs.Left.{mixed}

-- nothing is left behind a width that a list was padded to but what was there
drop-padded : (w : ℕ) (xs : List ℕ) → drop w (padded w xs) ≡ drop w xs
unfolding padded zeros
drop-padded w xs =
    ⊎_elim
    (λ (short : length xs < w).
    drop_all w (xs ++ zeros (w - length xs)) (omega (arith, short, length-append xs (zeros (w - length xs)), length-zeros (w - length xs)))
    ∙ sym (drop_all w xs (omega (arith, short))))
    (λ (long : w ≤ length xs).
    drop-append-le w xs (zeros (w - length xs)) long
    ∙ ap (λ ys. drop w xs ++ ys) (none (w - length xs) (omega (arith, long)))
    ∙ append-nil (drop w xs))
    (cases_lt (length xs) w)
  where
    none : (n : ℕ) → n ≡ 0 → zeros n ≡ []
    none n e = ap zeros e

-- the front of a list that was padded
take-padded : (w m : ℕ) (front rest : List ℕ) → length front ≡ m → take m (padded w (front ++ rest)) ≡ front
unfolding padded
take-padded w m front rest long =
    ap (take m) (append_assoc front rest (zeros (w - length (front ++ rest))))
    ∙ ap (λ k. take k (front ++ (rest ++ zeros (w - length (front ++ rest))))) (sym long)
    ∙ take-append_seam front (rest ++ zeros (w - length (front ++ rest)))

-- the next bytes of the one list are put behind those that are there
pub put_mixed : (one other : List ℕ) (m n : ℕ) → m + n ≤ length one → put_at (mixed m one other) m (part one m n) ≡ mixed (m + n) one other
put_mixed one other m n fits =
    let file = mixed m one other in
    let b = part one m n in
    let long : length b ≡ n = length-take-le n (drop m one) (omega (arith, fits, length-drop m one)) in
    let front : length (take m one) ≡ m = length-take-le m one (omega (arith, fits)) in
    let w : m + length b ≡ m + n = ap (λ k. m + k) long in
    let rest : drop (m + length b) (padded (m + length b) file) ≡ drop (m + n) other =
    drop-padded (m + length b) file ∙ ap (λ k. drop k file) w
    ∙ ap (λ k. drop (k + n) file) (sym front) ∙ drop-append-add (take m one) (drop m other) n ∙ drop-drop n m other in
    (λ i. take-padded (m + length b) m (take m one) (drop m other) front i ++ b ++ rest i)
    ∙ ap (λ xs. xs ++ drop (m + n) other) (sym (take-add m n one))

-- some first ones of them
pub put_some : (one other : List ℕ) (m n kept : ℕ) → m + n ≤ length one → put_at (mixed m one other) m (take kept (part one m n)) ≡ mixed (m + min kept n) one other
put_some one other m n kept fits =
    ap (put_at (mixed m one other) m) (fewer kept n (drop m one)) ∙ put_mixed one other m (min kept n) (omega (arith, fits))
  where
    fewer : (k n : ℕ) (xs : List ℕ) → take k (take n xs) ≡ take (min k n) xs
    fewer k n xs =
        ⊎_elim
        (λ (low : k < n). take-take k n xs (omega (arith, low)) ∙ ap (λ j. take j xs) (let e : k ≡ min k n = omega (arith, low) in e))
        (λ (high : n ≤ k).
        take_all k (take n xs) (omega (arith, high, length-take n xs)) ∙ ap (λ j. take j xs) (let e : n ≡ min k n = omega (arith, high) in e))
        (cases_lt k n)

-- the next bytes are the same in both
pub same_mixed : (one other : List ℕ) (m n : ℕ) → part one m n ≡ part other m n → mixed m one other ≡ mixed (m + n) one other
same_mixed one other m n same =
    ap (λ xs. take m one ++ xs) (sym (take-append-drop n (drop m other)) ∙ (λ i. sym same i ++ drop-drop n m other i))
    ∙ sym (append_assoc (take m one) (part one m n) (drop (m + n) other))
    ∙ ap (λ xs. xs ++ drop (m + n) other) (sym (take-add m n one))

-- what a write of the next bytes leaves under a name, and what it leaves where it fails
pub extend : (old new : Files) (name one other bytes : List ℕ) (m n offset : ℕ) → m + n ≤ length one → offset ≡ m → bytes ≡ part one m n
    → old name ≡ Some (mixed m one other) → Writes old new name offset bytes → new name ≡ Some (mixed (m + n) one other)
extend old new name one other bytes m n offset fits here are is written =
    written.there
    ∙ (λ i. Some (put_at (unwrap_or (is i) []) (here i) (are i)))
    ∙ ap Some (put_mixed one other m n fits)

pub extend_failed : {E : Type 0} (old new : Files) (name one other bytes : List ℕ) (m n offset : ℕ) (e : E) → m + n ≤ length one → offset ≡ m → bytes ≡ part one m n
    → old name ≡ Some (mixed m one other) → WritesAt old new name offset bytes (Err e) → IsMixed one other (new name)
extend_failed old new name one other bytes m n offset e fits here are is written =
    elim written [
      | inl same ↦ (m, ap (λ (f : Files). f name) same ∙ is)
      | inr some ↦ (
        m + min some.0 n,
        some.1.there
            ∙ (λ i. Some (put_at (unwrap_or (is i) []) (here i) (take some.0 (are i))))
            ∙ ap Some (put_some one other m n some.0 fits),
      )
    ]
