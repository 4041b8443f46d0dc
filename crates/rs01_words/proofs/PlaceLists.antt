-- Lists of places, one place more at a time.
use Rattle.std.proofs.Common.{◌≡◌, ℕ, zero, suc, ◌+◌, ◌-◌, ◌<◌, ◌≤◌, Bool, true, false, cond, subst, sym, List, [], ◌∷◌, ◌++◌, length, filter, ◌∙◌, ap, refl, arith, Some, None, length-append}
use Rattle.std.specs.List.{range_with_len, slice_get, find}
use Rattle.std.specs.Option.{option_or}
use Rattle.std.proofs.lemmas.List.Elements.{filter-append}
use Rattle.std.proofs.lemmas.List.Folds.{find-append}
use Rattle.std.proofs.lemmas.List.FromFn.{length-range_with_len}
use Rattle.std.proofs.lemmas.List.{append-nil}
use Rattle.std.proofs.lemmas.Option.{slice_get_past}
use Rattle.rs01_words.specs.Line.{places_below, places_where}

range-split : (a m k : ℕ) → range_with_len a (m + k) ≡ range_with_len a m ++ range_with_len (a + m) k
range-split a zero k =
    let e : zero + k ≡ k = omega arith in
    let f : a + zero ≡ a = omega arith in
    rw e (rw f refl)
range-split a (suc m) k =
    let e : suc m + k ≡ suc (m + k) = omega arith in
    let f : a + suc m ≡ a + 1 + m = omega arith in
    rw e (rw f (ap (λ rest. a ∷ rest) (range-split (a + 1) m k)))

-- the places below n + 1 are those below n, and n
pub places_below-more : (n : ℕ) → 0 < n → places_below (n + 1) ≡ places_below n ++ n ∷ []
places_below-more n pos =
    let e : n + 1 - 1 ≡ n - 1 + 1 = omega arith in
    let f : 1 + (n - 1) ≡ n = omega arith in
    rw e (range-split 1 (n - 1) 1 ∙ ap (λ place. range_with_len 1 (n - 1) ++ place ∷ []) f)

-- the places below n, parted after the place i
pub places_below-parts : (i n : ℕ) → 0 < i → i < n → places_below n ≡ (places_below i ++ i ∷ []) ++ range_with_len (i + 1) (n - 1 - i)
places_below-parts i n pos less =
    let e : n - 1 ≡ i + (n - 1 - i) = omega arith in
    let f : 1 + i ≡ i + 1 = omega arith in
    let g : i + 1 - 1 ≡ i = omega arith in
    let h : range_with_len 1 i ≡ places_below i ++ i ∷ [] = rw g at (places_below-more i pos) in
    let s : range_with_len 1 (i + (n - 1 - i)) ≡ range_with_len 1 i ++ range_with_len (1 + i) (n - 1 - i) = range-split 1 i (n - 1 - i) in
    ap (range_with_len 1) e ∙ s ∙ ap (λ first. first ++ range_with_len (1 + i) (n - 1 - i)) h ∙ ap (λ a. (places_below i ++ i ∷ []) ++ range_with_len a (n - 1 - i)) f

-- the places that pass a test, one place more
pub where-more : (test : ℕ → Bool) (n : ℕ) → 0 < n → places_where test (n + 1) ≡ places_where test n ++ cond (test n) (n ∷ []) []
unfolding places_where
where-more test n pos = ap (filter test) (places_below-more n pos) ∙ filter-append test (places_below n) (n ∷ [])

pub where-push : (test : ℕ → Bool) (n : ℕ) → 0 < n → test n ≡ true → places_where test (n + 1) ≡ places_where test n ++ n ∷ []
where-push test n pos pass = where-more test n pos ∙ ap (λ b. places_where test n ++ cond b (n ∷ []) []) pass

pub where-keep : (test : ℕ → Bool) (n : ℕ) → 0 < n → test n ≡ false → places_where test (n + 1) ≡ places_where test n
where-keep test n pos fail =
    where-more test n pos ∙ ap (λ b. places_where test n ++ cond b (n ∷ []) []) fail ∙ append-nil (places_where test n)

pub where-one : (test : ℕ → Bool) → places_where test 1 ≡ []
unfolding places_where
where-one test = refl

-- how many places pass a test, one place more
pub count-push : (test : ℕ → Bool) (n : ℕ) → 0 < n → test n ≡ true → length (places_where test (n + 1)) ≡ length (places_where test n) + 1
count-push test n pos pass = ap length (where-push test n pos pass) ∙ length-append (places_where test n) (n ∷ [])

pub count-keep : (test : ℕ → Bool) (n : ℕ) → 0 < n → test n ≡ false → length (places_where test (n + 1)) ≡ length (places_where test n)
count-keep test n pos fail = ap length (where-keep test n pos fail)

pub count-most : (test : ℕ → Bool) (n : ℕ) → 0 < n → length (places_where test (n + 1)) ≤ length (places_where test n) + 1
count-most test n pos = go (test n) refl
  where
    go : (b : Bool) → test n ≡ b → length (places_where test (n + 1)) ≤ length (places_where test n) + 1
    go true pass = omega (arith, count-push test n pos pass)
    go false fail = omega (arith, count-keep test n pos fail)

length-filter : (test : ℕ → Bool) (xs : List ℕ) → length (filter test xs) ≤ length xs
length-filter test [] = omega arith
length-filter test (x ∷ xs) =
    let rest = length-filter test xs in
    elim (test x) as (λ b. length (cond b (x ∷ filter test xs) (filter test xs)) ≤ suc (length xs)) [ true ↦ omega arith | false ↦ omega arith ]

-- no more places pass a test than there are
pub count-below : (test : ℕ → Bool) (n : ℕ) → length (places_where test n) ≤ n - 1
unfolding places_where
count-below test n = omega (arith, length-filter test (places_below n), length-range_with_len 1 (n - 1))

seam : (before after : List ℕ) (i : ℕ) → slice_get ((before ++ i ∷ []) ++ after) (length before) ≡ Some i
seam [] after i = refl
seam (x ∷ before) after i = seam before after i

-- the place that passes a test, with its number among those that do
pub where_at : (test : ℕ → Bool) (i n count : ℕ) → 0 < i → i < n → test i ≡ true → count ≡ length (places_where test i) → Some i ≡ slice_get (places_where test n) count
unfolding places_where
where_at test i n count pos less pass so_far =
    let rest = range_with_len (i + 1) (n - 1 - i) in
    let parts : filter test (places_below n) ≡ (filter test (places_below i) ++ filter test (i ∷ [])) ++ filter test rest =
    ap (filter test) (places_below-parts i n pos less) ∙ filter-append test (places_below i ++ i ∷ []) rest ∙ ap (λ xs. xs ++ filter test rest) (filter-append test (places_below i) (i ∷ [])) in
    let here : filter test (i ∷ []) ≡ i ∷ [] = ap (λ b. cond b (i ∷ []) []) pass in
    sym (ap (slice_get (filter test (places_below n))) so_far ∙
    ap (λ xs. slice_get xs (length (filter test (places_below i)))) (parts ∙ ap (λ xs. (filter test (places_below i) ++ xs) ++ filter test rest) here) ∙ seam (filter test (places_below i)) (filter test rest) i)

-- so many places don't pass
pub where_end : (test : ℕ → Bool) (place end count : ℕ) → end ≤ place → (1 ≤ end → place ≤ end) → length (places_where test place) ≤ count → None ≡ slice_get (places_where test end) count
where_end test place zero count past upto passed =
    sym (slice_get_past (places_where test zero) count (omega (arith, count-below test 0)))
where_end test place (suc end) count past upto passed =
    let e : place ≡ suc end = omega (arith, upto (omega arith)) in
    let same : length (places_where test place) ≡ length (places_where test (suc end)) = ap (λ n. length (places_where test n)) e in
    sym (slice_get_past (places_where test (suc end)) count (omega arith))

-- the first place that passes a test
pub find_at : (test : ℕ → Bool) (i n : ℕ) → 0 < i → i < n → test i ≡ true → find test (places_below i) ≡ None → find test (places_below n) ≡ Some i
find_at test i n pos less pass none =
    let rest = range_with_len (i + 1) (n - 1 - i) in
    let parts : find test (places_below n) ≡ option_or (option_or (find test (places_below i)) (find test (i ∷ []))) (find test rest) =
    ap (find test) (places_below-parts i n pos less) ∙ find-append test (places_below i ++ i ∷ []) rest ∙ ap (λ o. option_or o (find test rest)) (find-append test (places_below i) (i ∷ [])) in
    let here : find test (i ∷ []) ≡ Some i = ap (λ b. cond b (Some i) None) pass in
    parts ∙ ap (λ o. option_or (option_or o (find test (i ∷ []))) (find test rest)) none ∙ ap (λ o. option_or o (find test rest)) here

-- no place below passes, nor this one
pub find-more : (test : ℕ → Bool) (i : ℕ) → 0 < i → test i ≡ false → find test (places_below i) ≡ None → find test (places_below (i + 1)) ≡ None
find-more test i pos fail none =
    let here : find test (i ∷ []) ≡ None = ap (λ b. cond b (Some i) None) fail in
    ap (find test) (places_below-more i pos) ∙ find-append test (places_below i) (i ∷ []) ∙ ap (λ o. option_or o (find test (i ∷ []))) none ∙ here

-- no place passes
pub find_end : (test : ℕ → Bool) (place end : ℕ) → end ≤ place → (1 ≤ end → place ≤ end) → find test (places_below place) ≡ None → find test (places_below end) ≡ None
find_end test place zero past upto none = refl
find_end test place (suc end) past upto none =
    let e : place ≡ suc end = omega (arith, upto (omega arith)) in
    let P : ℕ → Type 0 = λ n. find test (places_below n) ≡ None in
    subst P e none
