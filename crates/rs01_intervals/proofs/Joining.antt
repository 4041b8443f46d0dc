-- The runs of two lists, one behind the other.
use Rattle.std.proofs.Common.{◌≡◌, ℕ, ◌+◌, ◌-◌, ⊎_elim, suc, List, [], ◌∷◌, ◌++◌, length, refl, sym, ap, ◌∙◌, arith}
use Rattle.std.specs.Prelude.{Bool, true, false, ◌==◌, ◌≢◌, if◌then◌else◌}
use Rattle.std.proofs.lemmas.Bool.{cases_eq}
use Rattle.std.proofs.lemmas.List.Folds.{prefix_len-append}
use Rattle.rs01_intervals.specs.Runs.{head_len, better, best_run, behind}
use Rattle.rs01_intervals.specs.Summaries.{tail_from, summary_of, joined}
use Rattle.rs01_intervals.specs.declared.summary.Summary.{Summary}
use Rattle.rs01_intervals.proofs.Better.{keeps-first, better-assoc, behind-better, run-is, behind-none, better-there, best-fits, head-is-tried}

-- the runs at the front and at the end

-- the run at the end is the whole list exactly where that at the front is
tail-all-head : (xs : List Bool) → tail_from xs ≡ 0 → head_len xs ≡ length xs
unfolding tail_from
tail-all-head [] h = refl
tail-all-head (true ∷ xs) h = grind (arith, tail-all-head xs)
tail-all-head (false ∷ xs) h = grind arith

head-all-tail : (xs : List Bool) → head_len xs ≡ length xs → tail_from xs ≡ 0
unfolding tail_from
head-all-tail [] h = refl
head-all-tail (true ∷ xs) h = grind (arith, head-all-tail xs)
head-all-tail (false ∷ xs) h = grind arith

tail-append : (xs ys : List Bool) → tail_from (xs ++ ys) ≡ (if tail_from ys == 0 then tail_from xs else length xs + tail_from ys)
unfolding tail_from
tail-append [] ys = grind arith
tail-append (true ∷ xs) ys = grind (arith, tail-append xs ys)
tail-append (false ∷ xs) ys = grind (arith, tail-append xs ys)

head-append : (xs ys : List Bool) → head_len (xs ++ ys) ≡ (if head_len xs == length xs then length xs + head_len ys else head_len xs)
head-append xs ys = prefix_len-append (λ (flag : Bool). flag) xs ys

head-goes-on : (xs ys : List Bool) → head_len xs ≡ length xs → head_len (xs ++ ys) ≡ length xs + head_len ys
head-goes-on xs ys h = grind (arith, head-append xs ys)

head-stops : (xs ys : List Bool) → head_len xs ≢ length xs → head_len (xs ++ ys) ≡ head_len xs
head-stops xs ys h = grind (arith, head-append xs ys)

tail-none : tail_from [] ≡ 0
unfolding tail_from
tail-none = refl

tail-behind-clear : (xs : List Bool) → tail_from (false ∷ xs) ≡ 1 + tail_from xs
unfolding tail_from
tail-behind-clear xs = grind arith

tail-behind-set : (xs : List Bool) → tail_from xs ≢ 0 → tail_from (true ∷ xs) ≡ 1 + tail_from xs
unfolding tail_from
tail-behind-set xs h = grind arith

tail-with-set : (xs : List Bool) → tail_from xs ≡ 0 → tail_from (true ∷ xs) ≡ 0
unfolding tail_from
tail-with-set xs h = grind arith

-- the longest run: in one of the lists, or over the seam

-- the run over the seam
abbrev over : List Bool → List Bool → ℕ × ℕ
over xs ys = (tail_from xs, length xs + head_len ys - tail_from xs)

-- the longest run of both, from what is known of each
abbrev of_both : List Bool → List Bool → ℕ × ℕ
of_both xs ys = better (better (best_run xs) (over xs ys)) (behind (length xs) (best_run ys))

-- one more run in front of three, all moved by one
regroup : (head left seam right : ℕ × ℕ) (k : ℕ) → better head (behind 1 (better (better left seam) (behind k right))) ≡ better (better (better head (behind 1 left)) (behind 1 seam)) (behind (suc k) right)
regroup head left seam right k =
    let left' = behind 1 left in
    let seam' = behind 1 seam in
    let far : behind 1 (behind k right) ≡ behind (suc k) right = run-is {len = right.1} (omega arith) refl in
    ap (λ (run : ℕ × ℕ). better head run) (behind-better 1 (better left seam) (behind k right))
    ∙ ap (λ (run : ℕ × ℕ). better head (better run (behind 1 (behind k right)))) (behind-better 1 left seam)
    ∙ ap (λ (run : ℕ × ℕ). better head (better (better left' seam') run)) far
    ∙ sym (better-assoc head (better left' seam') (behind (suc k) right))
    ∙ ap (λ (run : ℕ × ℕ). better run (behind (suc k) right)) (sym (better-assoc head left' seam'))

-- one more flag in front, that the run over the seam doesn't reach
front-apart : (x : Bool) (xs ys : List Bool) → tail_from (x ∷ xs) ≡ 1 + tail_from xs → head_len (x ∷ (xs ++ ys)) ≡ head_len (x ∷ xs)
    → best_run (xs ++ ys) ≡ of_both xs ys → best_run (x ∷ (xs ++ ys)) ≡ of_both (x ∷ xs) ys
unfolding best_run
front-apart x xs ys tail head rest =
    let seam : behind 1 (over xs ys) ≡ over (x ∷ xs) ys = run-is (omega (arith, tail)) (omega (arith, tail)) in
    let right = behind (suc (length xs)) (best_run ys) in
    ap (λ (run : ℕ × ℕ). better (0, head_len (x ∷ (xs ++ ys))) (behind 1 run)) rest
    ∙ regroup (0, head_len (x ∷ (xs ++ ys))) (best_run xs) (over xs ys) (best_run ys) (length xs)
    ∙ ap (λ (len : ℕ). better (better (better (0, len) (behind 1 (best_run xs))) (behind 1 (over xs ys))) right) head
    ∙ ap (λ (run : ℕ × ℕ). better (better (better (0, head_len (x ∷ xs)) (behind 1 (best_run xs))) run) right) seam

-- one more flag in front of set flags alone: the run over the seam is that at the front of both lists
front-reached : (xs ys : List Bool) → tail_from xs ≡ 0 → best_run (xs ++ ys) ≡ of_both xs ys → best_run (true ∷ (xs ++ ys)) ≡ of_both (true ∷ xs) ys
unfolding best_run
front-reached xs ys all rest =
    let whole = tail-all-head xs all in
    let long = head-goes-on xs ys whole in
    let right = behind (suc (length xs)) (best_run ys) in
    let head : ℕ × ℕ = (0, 1 + head_len (xs ++ ys)) in
    let inner = behind 1 (best_run xs) in
    let seam : over (true ∷ xs) ys ≡ head = run-is (tail-with-set xs all) (omega (arith, tail-with-set xs all, long)) in
    let before : better (better head inner) (behind 1 (over xs ys)) ≡ head =
    ap (λ (run : ℕ × ℕ). better run (behind 1 (over xs ys))) (keeps-first head inner (omega (arith, long, best-fits xs)))
    ∙ keeps-first head (behind 1 (over xs ys)) (omega (arith, long, all)) in
    let after : better (better (0, 1 + head_len xs) inner) (over (true ∷ xs) ys) ≡ head =
    ap (λ (run : ℕ × ℕ). better run (over (true ∷ xs) ys)) (keeps-first (0, 1 + head_len xs) inner (omega (arith, whole, best-fits xs)))
    ∙ ap (λ (run : ℕ × ℕ). better (0, 1 + head_len xs) run) seam
    ∙ better-there 0 (1 + head_len xs) (1 + head_len (xs ++ ys)) (omega (arith, whole, long)) in
    ap (λ (run : ℕ × ℕ). better head (behind 1 run)) rest
    ∙ regroup head (best_run xs) (over xs ys) (best_run ys) (length xs)
    ∙ ap (λ (run : ℕ × ℕ). better run right) (before ∙ sym after)

best-none : (len : ℕ) → better (best_run []) (0, len) ≡ (0, len)
unfolding best_run
best-none len = better-there 0 0 len (omega arith)

best-append : (xs ys : List Bool) → best_run (xs ++ ys) ≡ of_both xs ys
best-append [] ys =
    let seam : over [] ys ≡ (0, head_len ys) = run-is tail-none (omega (arith, tail-none)) in
    sym (ap (λ (run : ℕ × ℕ). better (better (best_run []) run) (behind 0 (best_run ys))) seam
    ∙ ap (λ (run : ℕ × ℕ). better run (behind 0 (best_run ys))) (best-none (head_len ys))
    ∙ ap (λ (run : ℕ × ℕ). better (0, head_len ys) run) (behind-none (best_run ys))
    ∙ head-is-tried ys)
best-append (true ∷ xs) ys =
    ⊎_elim
    (λ all. front-reached xs ys all (best-append xs ys))
    (λ part. front-apart true xs ys (tail-behind-set xs part) (ap (λ (n : ℕ). 1 + n) (head-stops xs ys (λ whole. part (head-all-tail xs whole)))) (best-append xs ys))
    (cases_eq (tail_from xs) 0)
best-append (false ∷ xs) ys = front-apart false xs ys (tail-behind-clear xs) refl (best-append xs ys)

-- summaries

summary-is : {from head tail from' head' tail' : ℕ} {run run' : ℕ × ℕ} → from ≡ from' → head ≡ head' → tail ≡ tail' → run ≡ run'
    → ◌≡◌ {A = Summary} (record { from = from; head_end = head; tail_start = tail; best = run }) (record { from = from'; head_end = head'; tail_start = tail'; best = run' })
summary-is p q r s = cc

-- the longest run of both lists, by numbers of the whole list
best-joined : (from : ℕ) (xs ys : List Bool) → better (better (behind from (best_run xs)) (from + tail_from xs, from + length xs + head_len ys - (from + tail_from xs))) (behind (from + length xs) (best_run ys)) ≡ behind from (best_run (xs ++ ys))
best-joined from xs ys =
    let left = behind from (best_run xs) in
    let seam : ◌≡◌ {A = ℕ × ℕ} (from + tail_from xs, from + length xs + head_len ys - (from + tail_from xs)) (behind from (over xs ys)) = run-is {start = from + tail_from xs} refl (omega arith) in
    let right : behind (from + length xs) (best_run ys) ≡ behind from (behind (length xs) (best_run ys)) = run-is {len = (best_run ys).1} (omega arith) refl in
    ap (λ (run : ℕ × ℕ). better (better left run) (behind (from + length xs) (best_run ys))) seam
    ∙ ap (λ (run : ℕ × ℕ). better (better left (behind from (over xs ys))) run) right
    ∙ ap (λ (run : ℕ × ℕ). better run (behind from (behind (length xs) (best_run ys)))) (sym (behind-better from (best_run xs) (over xs ys)))
    ∙ sym (behind-better from (better (best_run xs) (over xs ys)) (behind (length xs) (best_run ys)))
    ∙ ap (λ (run : ℕ × ℕ). behind from run) (sym (best-append xs ys))

pub summary-append : (from : ℕ) (xs ys : List Bool) → joined (summary_of from xs) (summary_of (from + length xs) ys) ≡ summary_of from (xs ++ ys)
unfolding summary_of joined
summary-append from xs ys = summary-is refl (grind (arith, head-append xs ys)) (grind (arith, tail-append xs ys)) (best-joined from xs ys)

pub of-set : (from : ℕ) → summary_of from (true ∷ []) ≡ record { from = from; head_end = from + 1; tail_start = from; best = (from, 1) }
unfolding summary_of best_run better tail_from
of-set from = summary-is refl refl (omega arith) (run-is (omega arith) refl)

pub of-clear : (from : ℕ) → summary_of from (false ∷ []) ≡ record { from = from; head_end = from; tail_start = from + 1; best = (from, 0) }
unfolding summary_of best_run better tail_from
of-clear from = summary-is refl (omega arith) refl (run-is (omega arith) refl)

pub of-none : (from : ℕ) → summary_of from [] ≡ record { from = from; head_end = from; tail_start = from; best = (from, 0) }
unfolding summary_of best_run better tail_from
of-none from = summary-is refl (omega arith) (omega arith) (run-is (omega arith) refl)

pub ruleset short = (of-set, of-clear, of-none)
