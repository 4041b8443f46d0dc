-- What the writes of a new file leave, one after the other.
use Rattle.std.proofs.Common.{◌≡◌, ℕ, zero, suc, ◌+◌, ◌-◌, ◌≤◌, List, [], ◌∷◌, ◌++◌, length, take, drop, replicate, refl, sym, ap, ◌∙◌, subst, arith, ◌⊎◌, inl, inr, ⊎_elim, append_assoc, append-nil, min}
use Rattle.std.specs.Prelude.{Option, Some, Result, Ok, Err, IsErr, IsSomeAnd, IsTrue, Bool}
use Rattle.std.specs.Option.{unwrap_or}
use Rattle.std.proofs.Math.Seq.{take-append_seam, drop-append-add, drop-append_seam}
use Rattle.std.proofs.lemmas.List.{length-append, length-take, drop-replicate, drop-append-le}
use Rattle.rs01_outside.specs.Files.{Files, Becomes, SameElsewhere, bytes_of, put_at}
use Rattle.rs01_lists.specs.Bytes.{padded, zeros}
use Rattle.rs01_lists.proofs.Padding.{length-zeros}
use Rattle.rs01_create.specs.Unfinished.{Begins, IsBegun, IsUnfinished}

pub told : (a b : Bool) → a ≡ b → IsTrue b → IsTrue a
told a b e t = subst IsTrue (sym e) t

drop-zeros : (m n : ℕ) → drop m (zeros n) ≡ zeros (n - m)
unfolding zeros
drop-zeros m n = drop-replicate m n 0

no_zeros : zeros 0 ≡ []
unfolding zeros
no_zeros = refl

-- bytes put at the end of a file come behind it
pub put_at-end : (file bytes : List ℕ) (at : ℕ) → length file ≡ at → put_at file at bytes ≡ file ++ bytes
unfolding padded
put_at-end file bytes at e =
    let n = at + length bytes - length file in
    let none : n - length bytes ≡ 0 = omega arith in
    (λ i. take (sym e i) (file ++ zeros n) ++ bytes ++ drop (sym e i + length bytes) (file ++ zeros n))
    ∙ (λ i. take-append_seam file (zeros n) i ++ bytes
    ++ (drop-append-add file (zeros n) (length bytes) ∙ drop-zeros (length bytes) n ∙ ap zeros none ∙ no_zeros) i)
    ∙ append-nil (file ++ bytes)

-- bytes put at the front of as many or more
pub put_at-front : (file bytes : List ℕ) → length bytes ≤ length file → put_at file 0 bytes ≡ bytes ++ drop (length bytes) file
unfolding padded
put_at-front file bytes fits =
    let none : 0 + length bytes - length file ≡ 0 = omega arith in
    let same : 0 + length bytes ≡ length bytes = omega arith in
    λ i. bytes ++ drop (same i) ((ap (λ k. file ++ zeros k) none ∙ ap (λ xs. file ++ xs) no_zeros ∙ append-nil file) i)

-- the front of zeros is zeros
zeros_front : (m n : ℕ) → take m (zeros n) ≡ zeros (length (take m (zeros n)))
unfolding zeros
zeros_front zero n = refl
zeros_front (suc m) zero = refl
zeros_front (suc m) (suc n) = ap (λ xs. 0 ∷ xs) (zeros_front m n)

zeros_before : (w : ℕ) (rest : List ℕ) → take w (zeros w ++ rest) ≡ zeros (length (take w (zeros w ++ rest)))
zeros_before w rest =
    let t : take w (zeros w ++ rest) ≡ zeros w = ap (λ k. take k (zeros w ++ rest)) (sym (length-zeros w)) ∙ take-append_seam (zeros w) rest in
    t ∙ sym (ap (λ xs. zeros (length xs)) t ∙ ap zeros (length-zeros w))

header_before : (w k : ℕ) (header body : List ℕ) → length header ≡ w
    → take w (put_at (zeros w ++ body) 0 (take k header)) ≡ take k header ++ zeros (w - k)
header_before w k header body long =
    let h = take k header in
    let m : length h ≡ min k (length header) = length-take k header in
    let fits : length h ≤ w = omega (arith, m) in
    let room : length h ≤ length (zeros w ++ body) = omega (arith, length-append (zeros w) body, length-zeros w) in
    let left : drop (length h) (zeros w ++ body) ≡ zeros (w - length h) ++ body =
    drop-append-le (length h) (zeros w) body (omega (arith, length-zeros w)) ∙ ap (λ xs. xs ++ body) (drop-zeros (length h) w) in
    let width : length (h ++ zeros (w - length h)) ≡ w = length-append h (zeros (w - length h)) ∙ ap (λ k. length h + k) (length-zeros (w - length h)) ∙ omega arith in
    let rest : w - length h ≡ w - k = omega (arith, m) in
    ap (take w) (put_at-front (zeros w ++ body) h room ∙ ap (λ xs. h ++ xs) left ∙ sym (append_assoc h (zeros (w - length h)) body))
    ∙ ap (λ k. take k (h ++ zeros (w - length h) ++ body)) (sym width)
    ∙ take-append_seam (h ++ zeros (w - length h)) body
    ∙ ap (λ k. h ++ zeros k) rest

-- what stands after each step, where it succeeded: the empty file, zeros, the body behind them
pub made_file : (name file : List ℕ) (old new : Files) → Becomes name file old new → bytes_of new name ≡ file
made_file name file old new b = ap (λ o. unwrap_or o []) b.there

first_bytes : (z : List ℕ) (w : ℕ) → z ≡ zeros w → put_at [] 0 z ≡ zeros w
first_bytes z w e = put_at-end [] z 0 refl ∙ e

-- the same name after two steps
pub elsewhere_twice : (name : List ℕ) (a b c : Files) → SameElsewhere name a b → SameElsewhere name b c → SameElsewhere name a c
elsewhere_twice name a b c e f other apart = f other apart ∙ e other apart

pub begun : (header file : List ℕ) (old new : Option (List ℕ)) → new ≡ Some file → IsBegun header file → IsUnfinished header old new
begun header file old new e b = inr (subst (λ (o : Option (List ℕ)). IsSomeAnd o (IsBegun header)) (sym e) b)

zeros_begun : (header file : List ℕ) (n : ℕ) → file ≡ zeros n → IsBegun header file
zeros_begun header file n e = inl (ap (take 4096) e ∙ zeros_front 4096 n ∙ ap (λ xs. zeros (length (take 4096 xs))) (sym e))

body_begun : (header file rest : List ℕ) → file ≡ zeros 4096 ++ rest → IsBegun header file
body_begun header file rest e = inl (ap (take 4096) e ∙ zeros_before 4096 rest ∙ ap (λ xs. zeros (length (take 4096 xs))) (sym e))

-- a desk without the file, the empty one, one of zeros, and one with the body behind them
pub left_by_make : (name header : List ℕ) (f0 f1 : Files) → (f1 ≡ f0) ⊎ Becomes name [] f0 f1 → IsUnfinished header (f0 name) (f1 name)
left_by_make name header f0 f1 =
    ⊎_elim (λ e. inl (ap (λ (f : Files). f name) e)) (λ b. begun header [] (f0 name) (f1 name) b.there (zeros_begun header [] 0 (sym no_zeros)))

pub left_by_zeros : (name header z : List ℕ) (f0 f1 f2 : Files) → Becomes name [] f0 f1 → z ≡ zeros 4096
    → (f2 ≡ f1) ⊎ ((kept : ℕ) × Becomes name (put_at (bytes_of f1 name) 0 (take kept z)) f1 f2) → IsUnfinished header (f0 name) (f2 name)
left_by_zeros name header z f0 f1 f2 made e =
    ⊎_elim
    (λ same. begun header [] (f0 name) (f2 name) (ap (λ (f : Files). f name) same ∙ made.there) (zeros_begun header [] 0 (sym no_zeros)))
    (λ (kept, b).
    let file = put_at (bytes_of f1 name) 0 (take kept z) in
    let is : file ≡ take kept (zeros 4096) =
    (λ i. put_at (made_file name [] f0 f1 made i) 0 (take kept (e i))) ∙ put_at-end [] (take kept (zeros 4096)) 0 refl in
    begun header file (f0 name) (f2 name) b.there (zeros_begun header file (length (take kept (zeros 4096))) (is ∙ zeros_front kept 4096)))

-- after the zeros
pub zeros_stand : (name z : List ℕ) (f0 f1 f2 : Files) → Becomes name [] f0 f1 → z ≡ zeros 4096
    → Becomes name (put_at (bytes_of f1 name) 0 z) f1 f2 → Becomes name (zeros 4096) f0 f2
zeros_stand name z f0 f1 f2 made e b = record {
  there = b.there ∙ ap Some ((λ i. put_at (made_file name [] f0 f1 made i) 0 z) ∙ first_bytes z 4096 e);
  elsewhere = elsewhere_twice name f0 f1 f2 made.elsewhere b.elsewhere;
}

pub left_by_body : (name header body : List ℕ) (f0 f2 f3 : Files) → Becomes name (zeros 4096) f0 f2
    → (f3 ≡ f2) ⊎ ((kept : ℕ) × Becomes name (put_at (bytes_of f2 name) 4096 (take kept body)) f2 f3) → IsUnfinished header (f0 name) (f3 name)
left_by_body name header body f0 f2 f3 stands =
    ⊎_elim
    (λ same. begun header (zeros 4096) (f0 name) (f3 name) (ap (λ (f : Files). f name) same ∙ stands.there) (zeros_begun header (zeros 4096) 4096 refl))
    (λ (kept, b).
    let file = put_at (bytes_of f2 name) 4096 (take kept body) in
    let is : file ≡ zeros 4096 ++ take kept body =
    (λ i. put_at (made_file name (zeros 4096) f0 f2 stands i) 4096 (take kept body)) ∙ put_at-end (zeros 4096) (take kept body) 4096 (length-zeros 4096) in
    begun header file (f0 name) (f3 name) b.there (body_begun header file (take kept body) is))

-- after the checksums
pub body_stands : (name body : List ℕ) (f0 f2 f3 : Files) → Becomes name (zeros 4096) f0 f2
    → Becomes name (put_at (bytes_of f2 name) 4096 body) f2 f3 → Becomes name (zeros 4096 ++ body) f0 f3
body_stands name body f0 f2 f3 stands b = record {
  there = b.there ∙ ap Some ((λ i. put_at (made_file name (zeros 4096) f0 f2 stands i) 4096 body) ∙ put_at-end (zeros 4096) body 4096 (length-zeros 4096));
  elsewhere = elsewhere_twice name f0 f2 f3 stands.elsewhere b.elsewhere;
}

-- bytes of a header over the zeros in front of a body
headed : (header body : List ℕ) (o : Option (List ℕ)) → length header ≡ 4096 → o ≡ Some (zeros 4096 ++ body)
    → put_at (unwrap_or o []) 0 header ≡ header ++ body
headed header body o long there =
    let file : unwrap_or o [] ≡ zeros 4096 ++ body = ap (λ (x : Option (List ℕ)). unwrap_or x []) there in
    let room : length header ≤ length (zeros 4096 ++ body) = omega (arith, length-append (zeros 4096) body, length-zeros 4096, long) in
    let rest : drop (length header) (zeros 4096 ++ body) ≡ body =
    ap (λ k. drop k (zeros 4096 ++ body)) (long ∙ sym (length-zeros 4096)) ∙ drop-append_seam (zeros 4096) body in
    ap (λ xs. put_at xs 0 header) file ∙ put_at-front (zeros 4096 ++ body) header room ∙ ap (λ xs. header ++ xs) rest

-- after the header
pub file_ends : (name header body : List ℕ) (f0 f1 : Files) → length header ≡ 4096 → f0 name ≡ Some (zeros 4096 ++ body)
    → Becomes name (put_at (bytes_of f0 name) 0 header) f0 f1 → Becomes name (header ++ body) f0 f1
file_ends name header body f0 f1 long there b = record {
  there = b.there ∙ ap Some (headed header body (f0 name) long there);
  elsewhere = b.elsewhere;
}

pub left_by_end : (name put header body : List ℕ) (f0 f1 : Files) (before : Option (List ℕ)) → put ≡ header → length put ≡ 4096 → f0 name ≡ Some (zeros 4096 ++ body)
    → (f1 ≡ f0) ⊎ ((kept : ℕ) × Becomes name (put_at (bytes_of f0 name) 0 (take kept put)) f0 f1) → IsUnfinished header before (f1 name)
left_by_end name put header body f0 f1 before same long there =
    ⊎_elim
    (λ still. begun header (zeros 4096 ++ body) before (f1 name) (ap (λ (f : Files). f name) still ∙ there) (body_begun header (zeros 4096 ++ body) body refl))
    (λ (kept, b).
    let file = put_at (bytes_of f0 name) 0 (take kept put) in
    let is : file ≡ put_at (zeros 4096 ++ body) 0 (take kept header) =
    (λ i. put_at (ap (λ (o : Option (List ℕ)). unwrap_or o []) there i) 0 (take kept (same i))) in
    begun header file before (f1 name) b.there (inr (kept, ap (take 4096) is ∙ header_before 4096 kept header body (ap length (sym same) ∙ long))))

-- a file that has zeros in place of a header is only begun
pub headless_begun : (header : List ℕ) (old new : Option (List ℕ)) → ((rest : List ℕ) × (new ≡ Some (zeros 4096 ++ rest))) → IsUnfinished header old new
headless_begun header old new (rest, there) = begun header (zeros 4096 ++ rest) old new there (body_begun header (zeros 4096 ++ rest) rest refl)

-- the zeros that the code writes
pub zeros_made : replicate 4096 0 ≡ zeros 4096
unfolding zeros
zeros_made = refl

-- a step that failed
pub failed : {E : Type 0} (sums name : List ℕ) (old new : Files) (r : Result Unit E) → IsErr r → ((header : List ℕ) → IsUnfinished header (old name) (new name))
    → Begins sums name old new r
failed sums name old new (Ok u) e p = cc
failed sums name old new (Err x) e p = p
