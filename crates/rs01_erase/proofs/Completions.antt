-- The completion of a word is the one codeword that agrees with it outside the erased places.
use Rattle.std.proofs.Common.{◌≡◌, ◌≢◌, ℕ, zero, suc, ◌^◌, ◌<◌, ◌≤◌, List, [], ◌∷◌, length, get_or, set, refl, sym, ap, ◌∙◌, arith, Bool, true, false, cond, ltb, eqb, eq-eqb, ⊎_elim, inl, inr, ◌⊎◌, Option, Some, None}
use Rattle.std.specs.Prelude.{◌&&◌}
use Rattle.std.specs.List.{list_all, range_with_len}
use Rattle.std.specs.List.Sorted.{IsStrictlyIncreasing}
use Rattle.std.specs.Option.{option_or}
use Rattle.std.proofs.lemmas.Bool.{and_parts, lt-ltb}
use borrow.Author.Tests.{ltb-true, eqb-true}
use Rattle.std.proofs.lemmas.List.{get_or-set_same, get_or-set_other, length-set}
use Rattle.std.proofs.lemmas.List.Elements.{All-get_or, All-from_get_or}
use Rattle.std.proofs.lemmas.List.FromFn.{length-range_with_len, get_or-range_with_len}
use Rattle.std.proofs.lemmas.Grind.{same_number_lists}
use Rattle.rs01_poly.specs.Polynomial.{value_at}
use Rattle.rs01_poly.specs.Code.{root, IsCodeword, AgreeOutside}
use Rattle.rs01_poly.proofs.Difference.{codewords_agree}
use Rattle.rs01_erase.specs.Completion.{is_codeword, byte_values, first_found, completion}
use Rattle.rs01_erase.proofs.Elimination.{bytes_of_all}
use Rattle.rs01_erase.proofs.PlaceLemmas.{later_outside}

passes : (p : ℕ → Bool) (xs : List ℕ) (k : ℕ) → list_all p xs ≡ true → k < length xs → p (get_or xs k 0) ≡ true
passes p [] k e h = absurd (omega arith)
passes p (x ∷ xs) zero e h = (and_parts (p x) (list_all p xs) e).0
passes p (x ∷ xs) (suc k) e h = passes p xs k (and_parts (p x) (list_all p xs) e).1 (omega arith)

both : (a b : Bool) → a ≡ true → b ≡ true → (a && b) ≡ true
both a b ea eb = (λ i. ea i && eb i)

all_pass : (p : ℕ → Bool) (xs : List ℕ) → ((k : ℕ) → k < length xs → p (get_or xs k 0) ≡ true) → list_all p xs ≡ true
all_pass p [] h = refl
all_pass p (x ∷ xs) h = both (p x) (list_all p xs) (h 0 (omega arith)) (all_pass p xs (λ k l. h (suc k) (omega arith)))

-- the test of a codeword says that it is one
tested : (c : List ℕ) (r : ℕ) → is_codeword c r ≡ true → IsCodeword c r
unfolding is_codeword
tested c r e =
    let low = λ (b : ℕ). ltb b (2 ^ 8) in
    let none = λ (j : ℕ). eqb (value_at c (root j)) 0 in
    let first = and_parts (eqb (length c) 255) (list_all low c && list_all none (range_with_len 0 r)) e in
    let rest = and_parts (list_all low c) (list_all none (range_with_len 0 r)) first.1 in
    record {
      whole = eqb-true (length c) 255 first.0;
      bytes = All-from_get_or (λ b. b < 2 ^ 8) c 0 (λ k h. ltb-true (get_or c k 0) (2 ^ 8) (passes low c k rest.0 h));
      vanishes = λ j h.
          let here : get_or (range_with_len 0 r) j 0 ≡ j = get_or-range_with_len 0 r j 0 h ∙ (omega arith) in
          let inside : j < length (range_with_len 0 r) = omega (arith, length-range_with_len 0 r) in
          eqb-true (value_at c (root j)) 0 (sym (ap none here) ∙ passes none (range_with_len 0 r) j rest.1 inside);
    }

accepted : (c : List ℕ) (r : ℕ) → IsCodeword c r → is_codeword c r ≡ true
unfolding is_codeword
accepted c r h =
    let low = λ (b : ℕ). ltb b (2 ^ 8) in
    let none = λ (j : ℕ). eqb (value_at c (root j)) 0 in
    both (eqb (length c) 255) (list_all low c && list_all none (range_with_len 0 r)) (eq-eqb (length c) 255 h.whole)
    (both (list_all low c) (list_all none (range_with_len 0 r))
    (all_pass low c (λ k l. lt-ltb (get_or c k 0) (2 ^ 8) (All-get_or (λ b. b < 2 ^ 8) c k 0 l h.bytes)))
    (all_pass none (range_with_len 0 r)
    (λ j l.
    let inside : j < r = omega (arith, length-range_with_len 0 r) in
    let here : get_or (range_with_len 0 r) j 0 ≡ j = get_or-range_with_len 0 r j 0 inside ∙ (omega arith) in
    ap none here ∙ eq-eqb (value_at c (root j)) 0 (h.vanishes j inside))))

or_some : (o p : Option (List ℕ)) (c : List ℕ) → option_or o p ≡ Some c → (o ≡ Some c) ⊎ (p ≡ Some c)
or_some None p c e = inr e
or_some (Some x) p c e = inl e

or_none : (o p : Option (List ℕ)) → option_or o p ≡ None → (o ≡ None) × (p ≡ None)
or_none None p e = (refl, e)
or_none (Some x) p e = absurd (let never : ⊥ = cc in never)

found_somewhere : (f : ℕ → Option (List ℕ)) (vs : List ℕ) (c : List ℕ) → first_found f vs ≡ Some c → (v : ℕ) × (f v ≡ Some c)
unfolding first_found
found_somewhere f [] c e = absurd (let never : ⊥ = cc in never)
found_somewhere f (v ∷ vs) c e =
    ⊎_elim (λ (here : f v ≡ Some c). let w : (v : ℕ) × (f v ≡ Some c) = (v, here) in w) (λ later. found_somewhere f vs c later) (or_some (f v) (first_found f vs) c e)

found_nowhere : (f : ℕ → Option (List ℕ)) (vs : List ℕ) (k : ℕ) → first_found f vs ≡ None → k < length vs → f (get_or vs k 0) ≡ None
unfolding first_found
found_nowhere f [] k e h = absurd (omega arith)
found_nowhere f (v ∷ vs) zero e h = (or_none (f v) (first_found f vs) e).0
found_nowhere f (v ∷ vs) (suc k) e h = found_nowhere f vs k (or_none (f v) (first_found f vs) e).1 (omega arith)

byte_value : (v : ℕ) → v < 2 ^ 8 → (v < length byte_values) × (get_or byte_values v 0 ≡ v)
unfolding byte_values
byte_value v h = (omega (arith, length-range_with_len 0 256), get_or-range_with_len 0 256 v 0 h ∙ (omega arith))

-- c is a codeword that has the bytes of w outside these places
pub record Completes (c w places : List ℕ) (r : ℕ) : Type 0 where
  pub code : IsCodeword c r
  pub agree : AgreeOutside c w places

only_itself : (b : Bool) (w c : List ℕ) → cond b (Some w) None ≡ Some c → (b ≡ true) × (c ≡ w)
only_itself true w c e = (refl, (let same : c ≡ w = cc in same))
only_itself false w c e = absurd (let never : ⊥ = cc in never)

-- a completion is a codeword that agrees
pub completion-completes : (w places : List ℕ) (r : ℕ) (c : List ℕ) → completion w places r ≡ Some c → Completes c w places r
unfolding completion
completion-completes w [] r c e =
    let parts = only_itself (is_codeword w r) w c e in
    record {
      code = rw (parts.1) (tested w r parts.0);
      agree = λ p out. ap (λ l. get_or l p 0) parts.1;
    }
completion-completes w (p ∷ places) r c e =
    let found = found_somewhere (λ v. completion (set w p v) places r) byte_values c e in
    let v = found.0 in
    let later : Completes c (set w p v) places r = completion-completes (set w p v) places r c found.1 in
    record {
      code = later.code;
      agree = λ q out.
          let ne : q ≢ p = λ same. out (0, (omega arith), sym same) in
          later.agree q (λ inside. out (suc inside.0, (omega (arith, inside.1)), inside.2)) ∙ get_or-set_other w p q v 0 ne;
    }

not_accepted : (b : Bool) (w : List ℕ) → cond b (Some w) None ≡ None → b ≡ true → ⊥
not_accepted true w e t = cc
not_accepted false w e t = cc

-- where a codeword agrees there is a completion
some_completion : (w places : List ℕ) (r : ℕ) (c : List ℕ) → length w ≡ 255 → ((k : ℕ) → k < length places → get_or places k 0 < 255)
    → IsCodeword c r → AgreeOutside c w places → completion w places r ≡ None → ⊥
unfolding completion
some_completion w [] r c long below code agree e =
    let same : c ≡ w = same_number_lists c w (code.whole ∙ sym long) (λ k h. agree k (λ inside. absurd (omega (arith, inside.1)))) in
    not_accepted (is_codeword w r) w e (sym (ap (λ l. is_codeword l r) same) ∙ accepted c r code)
some_completion w (p ∷ places) r c long below code agree e =
    let v = get_or c p 0 in
    let hp : p < 255 = below 0 (omega arith) in
    let value = byte_value v (bytes_of_all c code.bytes p) in
    let none = found_nowhere (λ x. completion (set w p x) places r) byte_values v e value.0 in
    some_completion (set w p v) places r c (length-set w p v ∙ long) (λ k h. below (suc k) (omega arith)) code
    (later_outside c w places p v (omega arith) refl agree)
    (sym (ap (λ x. completion (set w p x) places r) value.1) ∙ none)

-- the completion is the codeword that agrees
pub completion-is : (w places : List ℕ) (r : ℕ) (c : List ℕ) → length w ≡ 255 → ((k : ℕ) → k < length places → get_or places k 0 < 255)
    → IsStrictlyIncreasing places → length places ≤ r → IsCodeword c r → AgreeOutside c w places → completion w places r ≡ Some c
completion-is w places r c long below rising few code agree = which (completion w places r) refl
  where
    which : (o : Option (List ℕ)) → completion w places r ≡ o → o ≡ Some c
    which None e = absurd (some_completion w places r c long below code agree e)
    which (Some d) e =
        let other : Completes d w places r = completion-completes w places r d e in
        ap Some (codewords_agree d c places r other.code code rising few (λ p out. other.agree p out ∙ sym (agree p out)))

-- where no codeword agrees there is no completion
pub completion-none : (w places : List ℕ) (r : ℕ) → ((c : List ℕ) → IsCodeword c r → AgreeOutside c w places → ⊥) → completion w places r ≡ None
completion-none w places r never = which (completion w places r) refl
  where
    which : (o : Option (List ℕ)) → completion w places r ≡ o → o ≡ None
    which None e = refl
    which (Some d) e = let other : Completes d w places r = completion-completes w places r d e in absurd (never d other.code other.agree)

-- where there is no completion no codeword agrees
pub none-agrees : (w places : List ℕ) (r : ℕ) (c : List ℕ) → length w ≡ 255 → ((k : ℕ) → k < length places → get_or places k 0 < 255)
    → completion w places r ≡ None → IsCodeword c r → AgreeOutside c w places → ⊥
none-agrees w places r c long below e code agree = some_completion w places r c long below code agree e

-- the bytes at the erased places play no part
pub completion-same : (w x places : List ℕ) (r : ℕ) → length w ≡ length x → ((k : ℕ) → k < length places → get_or places k 0 < length w)
    → AgreeOutside w x places → completion w places r ≡ completion x places r
unfolding completion
completion-same w x [] r long below agree =
    let same : w ≡ x = same_number_lists w x long (λ k h. agree k (λ inside. absurd (omega (arith, inside.1)))) in
    ap (λ l. completion l [] r) same
completion-same w x (p ∷ places) r long below agree =
    let hp : p < length w = below 0 (omega arith) in
    let each : (v : ℕ) → completion (set w p v) places r ≡ completion (set x p v) places r = λ v.
    completion-same (set w p v) (set x p v) places r (length-set w p v ∙ long ∙ sym (length-set x p v))
    (λ k h. (let next : get_or places k 0 < length w = below (suc k) (omega arith) in omega (arith, length-set w p v)))
    (later_outside (set w p v) x places p v (omega arith) (sym (get_or-set_same w p v 0 hp)) (set_outside v)) in
    (λ i. first_found (λ v. each v i) byte_values)
  where
    set_outside : (v : ℕ) → AgreeOutside (set w p v) x (p ∷ places)
    set_outside v q out =
        let ne : q ≢ p = λ same. out (0, (omega arith), sym same) in
        get_or-set_other w p q v 0 ne ∙ agree q out
