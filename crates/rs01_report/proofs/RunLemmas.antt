-- Runs, found from the left.
use Rattle.std.proofs.Common.{◌≡◌, ℕ, ◌+◌, ◌<◌, true, false, cond, eqb, List, [], ◌∷◌, ◌++◌, map, length, get_or, drop, ◌≤◌, refl, sym, ap, ◌∙◌, append_assoc}
use Rattle.std.proofs.lemmas.Bool.{eq-eqb, ne_eqb, cond-true, cond-false}
use Rattle.std.proofs.lemmas.List.{at_drop_more, at_drop_all}
use Rattle.std.specs.List.{join_with_byte}
use Rattle.rs01_report.specs.Runs.{Run, before_runs, runs, run_text, ranges_text}

-- the runs of a list behind a run that isn't ended yet
unfoldable pub runs_from : ℕ → ℕ → List ℕ → List Run
runs_from first last [] = (first, last) ∷ []
runs_from first last (s ∷ later) = cond (eqb s (last + 1)) (runs_from first s later) ((first, last) ∷ runs_from s s later)

-- a number before a run that isn't ended yet
before : (s first last : ℕ) (later : List ℕ)
    → before_runs s (runs_from first last later) ≡ cond (eqb first (s + 1)) (runs_from s last later) ((s, s) ∷ runs_from first last later)
unfolding runs_from
before s first last [] = refl
before s first last (next ∷ later) =
    elim (eqb next (last + 1)) as (λ b.
    before_runs s (cond b (runs_from first next later) ((first, last) ∷ runs_from next next later))
    ≡ cond (eqb first (s + 1)) (cond b (runs_from s next later) ((s, last) ∷ runs_from next next later)) ((s, s) ∷ cond b (runs_from first next later) ((first, last) ∷ runs_from next next later)))
    [ true ↦ before s first next later | false ↦ refl ]

pub runs_is : (s : ℕ) (later : List ℕ) → runs (s ∷ later) ≡ runs_from s s later
unfolding runs runs_from
runs_is s [] = refl
runs_is s (next ∷ later) = ap (before_runs s) (runs_is next later) ∙ before s next next later

-- the text of the runs behind a run that isn't ended yet
abbrev pub text_from : ℕ → ℕ → List ℕ → List ℕ
text_from first last later = join_with_byte 44 (map run_text (runs_from first last later))

pub text_is : (s : ℕ) (later : List ℕ) → ranges_text (s ∷ later) ≡ text_from s s later
text_is s later = ap (λ all. join_with_byte 44 (map run_text all)) (runs_is s later)

pub text_from-nil : (first last : ℕ) → text_from first last [] ≡ run_text (first, last)
unfolding runs_from
text_from-nil first last = refl

-- the next number goes on with the run
pub text_from-neighbour : (first last s : ℕ) (later : List ℕ) → s ≡ last + 1 → text_from first last (s ∷ later) ≡ text_from first s later
unfolding runs_from
text_from-neighbour first last s later e =
    ap (λ all. join_with_byte 44 (map run_text all))
    (cond-true (eqb s (last + 1)) (runs_from first s later) ((first, last) ∷ runs_from s s later) (eq-eqb s (last + 1) e))

-- there is always a first run, so a comma stands between a run and what follows
join_before : (run : Run) (first last : ℕ) (later : List ℕ)
    → join_with_byte 44 (map run_text (run ∷ runs_from first last later)) ≡ run_text run ++ (44 ∷ text_from first last later)
unfolding runs_from
join_before run first last [] = refl
join_before run first last (s ∷ later) =
    elim (eqb s (last + 1)) as (λ b.
    join_with_byte 44 (map run_text (run ∷ cond b (runs_from first s later) ((first, last) ∷ runs_from s s later)))
    ≡ run_text run ++ (44 ∷ join_with_byte 44 (map run_text (cond b (runs_from first s later) ((first, last) ∷ runs_from s s later)))))
    [ true ↦ join_before run first s later | false ↦ refl ]

-- the next number begins a run
pub text_from-gap : (first last s : ℕ) (later : List ℕ) → (s ≡ last + 1 → ⊥)
    → text_from first last (s ∷ later) ≡ run_text (first, last) ++ (44 ∷ text_from s s later)
unfolding runs_from
text_from-gap first last s later ne =
    ap (λ all. join_with_byte 44 (map run_text all))
    (cond-false (eqb s (last + 1)) (runs_from first s later) ((first, last) ∷ runs_from s s later) (ne_eqb s (last + 1) ne))
    ∙ join_before (first, last) s s later

-- a run that ends: it and a comma are behind what stands there
pub gap_step : (out next later all : List ℕ) (first last f l i : ℕ) → i < length later → f ≡ get_or later i 0 → l ≡ get_or later i 0
    → (get_or later i 0 ≡ last + 1 → ⊥) → next ≡ out ++ (run_text (first, last) ++ 44 ∷ [])
    → out ++ text_from first last (drop i later) ≡ all → next ++ text_from f l (drop (i + 1) later) ≡ all
gap_step out next later all first last f l i h ef el gap put held =
    let s : ℕ = get_or later i 0 in
    let more : List ℕ = text_from s s (drop (i + 1) later) in
    (λ k. put k ++ text_from (ef k) (el k) (drop (i + 1) later))
    ∙ append_assoc out (run_text (first, last) ++ 44 ∷ []) more
    ∙ ap (λ text. out ++ text) (append_assoc (run_text (first, last)) (44 ∷ []) more)
    ∙ ap (λ text. out ++ text) (sym (at_drop_more (text_from first last) later i 0 h ∙ text_from-gap first last s (drop (i + 1) later) gap))
    ∙ held

-- a run that goes on
pub neighbour_step : (out next later all : List ℕ) (first last f l i : ℕ) → i < length later → f ≡ first → l ≡ get_or later i 0
    → get_or later i 0 ≡ last + 1 → next ≡ out
    → out ++ text_from first last (drop i later) ≡ all → next ++ text_from f l (drop (i + 1) later) ≡ all
neighbour_step out next later all first last f l i h ef el on same held =
    (λ k. same k ++ text_from (ef k) (el k) (drop (i + 1) later))
    ∙ ap (λ text. out ++ text) (sym (at_drop_more (text_from first last) later i 0 h ∙ text_from-neighbour first last (get_or later i 0) (drop (i + 1) later) on))
    ∙ held

-- the last run
pub last_step : (out next later all : List ℕ) (first last i : ℕ) → length later ≤ i → next ≡ out ++ run_text (first, last)
    → out ++ text_from first last (drop i later) ≡ all → next ≡ all
last_step out next later all first last i h put held =
    put ∙ ap (λ text. out ++ text) (sym (at_drop_all (text_from first last) later i h ∙ text_from-nil first last)) ∙ held
