-- How many sectors of a layer are erased, counted over all sectors and over the places of the layer.
use Rattle.std.proofs.Common.{◌≡◌, ℕ, zero, suc, ◌+◌, ◌-◌, ◌*◌, ◌<◌, ◌≤◌, ◌∷◌, length, map, get_or, refl, sym, ap, ◌∙◌, arith, Bool, true, false, cond}
use Rattle.std.specs.Prelude.{◌%◌, ◌==◌, ◌&&◌, count_by, filter, nat_lt}
use Rattle.std.specs.List.{range_with_len}
use Rattle.std.proofs.lemmas.Bool.{lt-ltb, le-ltb, eq-eqb, ne_eqb, false≢true}
use Rattle.std.proofs.lemmas.List.FromFn.{get_or-map-range_with_len}
use Rattle.std.proofs.lemmas.List.Sums.{sum_by-append, sum_by-cons, length-filter}
use Rattle.std.proofs.lemmas.Nat.{mod-mul-add}
use Rattle.rs01_layers.specs.Layout.{IsShape, layer_of, layers_of}
use Rattle.rs01_layers.proofs.PlaceLemmas.{sectors-le-places}
use Rattle.rs01_ecchead.specs.Erased.{count_in}
use Rattle.rs01_ecchead.specs.Header.{Fields}
use Rattle.rs01_lists.proofs.Ranges.{range_with_len-append}
use Rattle.rs01_erase.specs.LayerValue.{erased_places}
use Rattle.rs01_repair.specs.Inputs.{flag_at, flags_at}
use Rattle.rs01_repair.proofs.InputLemmas.{length-flags_at}

-- one number and those behind it
count_first : (f : ℕ → Bool) (a n : ℕ) → count_by f (range_with_len a (suc n)) ≡ cond (f a) 1 0 + count_by f (range_with_len (a + 1) n)
count_first f a n =
    sum_by-cons (λ x. cond (f x) 1 0) a (range_with_len (a + 1) n)

-- two tests that agree on neighbouring numbers keep the same ones, and count the same
pub same_kept : (f g : ℕ → Bool) (a n : ℕ) → ((j : ℕ) → j < n → f (a + j) ≡ g (a + j)) → filter f (range_with_len a n) ≡ filter g (range_with_len a n)
same_kept f g a zero same = refl
same_kept f g a (suc n) same =
    let here : f a ≡ g a = ap f (let e : a ≡ a + 0 = omega arith in e) ∙ same 0 (omega arith) ∙ ap g (let e : a + 0 ≡ a = omega arith in e) in
    let rest = same_kept f g (a + 1) n (λ j l.
    let place : a + 1 + j ≡ a + suc j = omega arith in
    ap f place ∙ same (suc j) (omega arith) ∙ ap g (sym place)) in
    λ i. cond (here i) (a ∷ rest i) (rest i)

count_same : (f g : ℕ → Bool) (a n : ℕ) → ((j : ℕ) → j < n → f (a + j) ≡ g (a + j)) → count_by f (range_with_len a n) ≡ count_by g (range_with_len a n)
count_same f g a n same =
    sym (length-filter f (range_with_len a n)) ∙ ap length (same_kept f g a n same) ∙ length-filter g (range_with_len a n)

-- nothing is counted where no number passes
count_none : (f : ℕ → Bool) (a n : ℕ) → ((j : ℕ) → j < n → f (a + j) ≡ false) → count_by f (range_with_len a n) ≡ 0
count_none f a zero fails = refl
count_none f a (suc n) fails =
    let here : f a ≡ false = ap f (let e : a ≡ a + 0 = omega arith in e) ∙ fails 0 (omega arith) in
    let rest = count_none f (a + 1) n (λ j l.
    let place : a + 1 + j ≡ a + suc j = omega arith in
    ap f place ∙ fails (suc j) (omega arith)) in
    count_first f a n ∙ (λ i. cond (here i) 1 0 + rest i)

count_parts : (f : ℕ → Bool) (a m n : ℕ) → count_by f (range_with_len a (m + n)) ≡ count_by f (range_with_len a m) + count_by f (range_with_len (a + m) n)
count_parts f a m n =
    ap (count_by f) (range_with_len-append a m n) ∙ sum_by-append (λ x. cond (f x) 1 0) (range_with_len a m) (range_with_len (a + m) n)

-- among w neighbouring numbers, that begin at a multiple of w, one leaves the rest l
one_of_row : (h : ℕ → Bool) (w l k : ℕ) → l < w
    → count_by (λ s. h s && (s % w == l)) (range_with_len (k * w) w) ≡ cond (h (l + k * w)) 1 0
one_of_row h w l k below =
    let t = λ (s : ℕ). h s && (s % w == l) in
    let other : (s j : ℕ) → s ≡ k * w + j → j < w → (j ≡ l → ⊥) → t s ≡ false = λ s j e fits ne.
    let rest : s % w ≡ j = ap (λ x. x % w) e ∙ mod-mul-add k w j fits in
    ap (λ b. h s && b) (ne_eqb (s % w) l (λ same. ne (sym rest ∙ same))) ∙ and_false (h s) in
    let hit : t (l + k * w) ≡ h (l + k * w) =
    let place : l + k * w ≡ k * w + l = omega arith in
    let rest : (l + k * w) % w ≡ l = ap (λ x. x % w) place ∙ mod-mul-add k w l below in
    ap (λ b. h (l + k * w) && b) (eq-eqb ((l + k * w) % w) l rest) ∙ and_true (h (l + k * w)) in
    let split : w ≡ l + suc (w - l - 1) = omega arith in
    ap (λ n. count_by t (range_with_len (k * w) n)) split
    ∙ count_parts t (k * w) l (suc (w - l - 1))
    ∙ (λ i. count_none t (k * w) l (λ j lj. other (k * w + j) j refl (omega arith) (λ e. omega arith)) i + count_first t (k * w + l) (w - l - 1) i)
    ∙ (λ i. 0 + (cond (t ((let e : k * w + l ≡ l + k * w = omega arith in e) i)) 1 0
    + count_none t (k * w + l + 1) (w - l - 1) (λ j lj. other (k * w + l + 1 + j) (l + 1 + j) (omega arith) (omega arith) (λ e. omega arith)) i))
    ∙ (let e : 0 + (cond (t (l + k * w)) 1 0 + 0) ≡ cond (t (l + k * w)) 1 0 = omega arith in e)
    ∙ ap (λ b. cond b 1 0) hit
  where
    and_false : (b : Bool) → b && false ≡ false
    and_false true = refl
    and_false false = refl

    and_true : (b : Bool) → b && true ≡ b
    and_true true = refl
    and_true false = refl

-- the numbers that leave the rest l, counted one by one and by their places
by_places : (h : ℕ → Bool) (w l n : ℕ) → l < w
    → count_by (λ s. h s && (s % w == l)) (range_with_len 0 (n * w)) ≡ count_by (λ p. h (l + p * w)) (range_with_len 0 n)
by_places h w l zero below = ap (λ n. count_by (λ s. h s && (s % w == l)) (range_with_len 0 n)) (let e : 0 * w ≡ 0 = omega arith in e)
by_places h w l (suc n) below =
    let t = λ (s : ℕ). h s && (s % w == l) in
    let q = λ (p : ℕ). h (l + p * w) in
    ap (λ m. count_by t (range_with_len 0 m)) (let e : suc n * w ≡ n * w + w = omega arith in e)
    ∙ count_parts t 0 (n * w) w
    ∙ (λ i. by_places h w l n below i + count_by t (range_with_len ((let e : 0 + n * w ≡ n * w = omega arith in e) i) w))
    ∙ ap (λ c. count_by q (range_with_len 0 n) + c) (one_of_row h w l n below)
    ∙ sym (ap (λ m. count_by q (range_with_len 0 m)) (let e : suc n ≡ n + 1 = omega arith in e)
    ∙ count_parts q 0 n 1
    ∙ (λ i. count_by q (range_with_len 0 n) + count_first q ((let e : 0 + n ≡ n = omega arith in e) i) 0 i)
    ∙ (let e : count_by q (range_with_len 0 n) + (cond (q n) 1 0 + 0) ≡ count_by q (range_with_len 0 n) + cond (q n) 1 0 = omega arith in e))

pub erased_count : (f : Fields) (gone : ℕ → Bool) (l : ℕ) → IsShape f.sectors f.parity → l < layers_of f.sectors f.parity
    → length (erased_places (flags_at f gone l)) ≡ count_in f.sectors f.parity gone l
unfolding erased_places count_in flags_at flag_at
erased_count f gone l shape below =
    let n = f.sectors in
    let r = f.parity in
    let w = layers_of n r in
    let h = λ (s : ℕ). nat_lt s n && gone s in
    let flags = map (λ p. h (l + p * w)) (range_with_len 0 (255 - r)) in
    let all : n ≤ (255 - r) * w = (let m = sectors-le-places n r shape in omega (arith, m)) in
    let split : (255 - r) * w ≡ n + ((255 - r) * w - n) = omega arith in
    length-filter (λ p. get_or flags p false) (range_with_len 0 (length flags))
    ∙ ap (λ k. count_by (λ p. get_or flags p false) (range_with_len 0 k)) (length-flags_at f gone l)
    ∙ count_same (λ p. get_or flags p false) (λ p. h (l + p * w)) 0 (255 - r)
    (λ p lp. get_or-map-range_with_len (λ q. h (l + q * w)) 0 (255 - r) (0 + p) (0 + p) false (omega arith) (let z : 0 + (0 + p) ≡ 0 + p = omega arith in z))
    ∙ sym (by_places h w l (255 - r) below)
    ∙ ap (λ k. count_by (λ s. h s && (s % w == l)) (range_with_len 0 k)) split
    ∙ count_parts (λ s. h s && (s % w == l)) 0 n ((255 - r) * w - n)
    ∙ (λ i. count_same (λ s. h s && (s % w == l)) (λ s. gone s && (s % w == l)) 0 n
    (λ s ls. ap (λ b. (b && gone (0 + s)) && ((0 + s) % w == l)) (lt-ltb (0 + s) n (omega arith))) i
    + count_none (λ s. h s && (s % w == l)) (0 + n) ((255 - r) * w - n)
    (λ j lj. ap (λ b. (b && gone (0 + n + j)) && ((0 + n + j) % w == l)) (le-ltb (0 + n + j) n (omega arith))) i)
    ∙ (let z : count_in n r gone l + 0 ≡ count_in n r gone l = omega arith in z)

more_or_same : (f g : Bool) (m n : ℕ) → (f ≡ true → g ≡ true) → m ≤ n → cond f 1 0 + m ≤ cond g 1 0 + n
more_or_same true true m n h l = omega arith
more_or_same true false m n h l = absurd (false≢true (h refl))
more_or_same false true m n h l = omega arith
more_or_same false false m n h l = omega arith

-- a test that passes wherever another does counts no less
count_less : (f g : ℕ → Bool) (a n : ℕ) → ((j : ℕ) → j < n → f (a + j) ≡ true → g (a + j) ≡ true) → count_by f (range_with_len a n) ≤ count_by g (range_with_len a n)
count_less f g a zero h = omega arith
count_less f g a (suc n) h =
    let here : a + 0 ≡ a = omega arith in
    let first : f a ≡ true → g a ≡ true = λ e. ap g (sym here) ∙ h 0 (omega arith) (ap f here ∙ e) in
    let rest = count_less f g (a + 1) n (λ j l e.
    let place : a + 1 + j ≡ a + suc j = omega arith in
    ap g place ∙ h (suc j) (omega arith) (ap f (sym place) ∙ e)) in
    let all = more_or_same (f a) (g a) (count_by f (range_with_len (a + 1) n)) (count_by g (range_with_len (a + 1) n)) first rest in
    let one = count_first f a n in
    let other = count_first g a n in
    omega (arith, all, one, other)

and_kept : (a b c : Bool) → (a ≡ true → b ≡ true) → a && c ≡ true → b && c ≡ true
and_kept true b true h e = ap (λ x. x && true) (h refl)
and_kept true b false h e = cc e
and_kept false b c h e = cc e

-- fewer erased sectors, fewer in each layer
pub erased_less : (n r l : ℕ) (gone also : ℕ → Bool) → ((s : ℕ) → s < n → also s ≡ true → gone s ≡ true) → count_in n r also l ≤ count_in n r gone l
unfolding count_in
erased_less n r l gone also fewer =
    count_less (λ s. also s && (layer_of n r s == l)) (λ s. gone s && (layer_of n r s == l)) 0 n
    (λ s below e. and_kept (also (0 + s)) (gone (0 + s)) (layer_of n r (0 + s) == l) (fewer (0 + s) (omega arith)) e)
