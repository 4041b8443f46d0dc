-- The answers that come for a sector, once some are added and once the first is taken.
use Rattle.std.proofs.Common.{◌≡◌, ℕ, suc, ◌+◌, ◌<◌, List, [], ◌∷◌, ◌++◌, map, take, drop, length, get_or, refl, sym, ap, ◌∙◌, Bool, true, false, cond, eqb, ⊎_elim}
use Rattle.std.specs.List.{remove}
use Rattle.std.proofs.lemmas.Bool.{cases_eq, eq-eqb, ne_eqb}
use Rattle.std.proofs.lemmas.List.{append-nil, set-get_or, set_split, take_more}
use Rattle.rs01_outside.specs.DriveView.{Answer, use_up}
use Rattle.rs01_fakes.specs.Scripts.{IsFirstFor, add_coming, answer_of, coming_in, pending_for}
use Rattle.rs01_fakes.specs.declared.scripts.Pending.{Pending}
use Rattle.rs01_fakes.specs.declared.scripts.Script.{Script}

-- an answer in front of others, where it is for the sector
in_front : (b : Bool) (x : Answer) (xs ys : List Answer) → cond b (x ∷ (xs ++ ys)) (xs ++ ys) ≡ cond b (x ∷ xs) xs ++ ys
in_front true x xs ys = refl
in_front false x xs ys = refl

pub coming-append : (front back : List Pending) (sector : ℕ) → coming_in (front ++ back) sector ≡ coming_in front sector ++ coming_in back sector
coming-append [] back sector = refl
coming-append (x ∷ front) back sector =
    ap (λ later. cond (eqb x.sector sector) (x.answer ∷ later) later) (coming-append front back sector)
    ∙ in_front (eqb x.sector sector) x.answer (coming_in front sector) (coming_in back sector)

coming_here : (scripts : List Script) (sector : ℕ) → coming_in (map (pending_for sector) scripts) sector ≡ map answer_of scripts
coming_here [] sector = refl
coming_here (x ∷ scripts) sector =
    ap (λ b. cond b (answer_of x ∷ coming_in (map (pending_for sector) scripts) sector) (coming_in (map (pending_for sector) scripts) sector)) (eq-eqb sector sector refl)
    ∙ ap (λ later. answer_of x ∷ later) (coming_here scripts sector)

coming_elsewhere : (scripts : List Script) (sector other : ℕ) → (other ≡ sector → ⊥) → coming_in (map (pending_for sector) scripts) other ≡ []
coming_elsewhere [] sector other apart = refl
coming_elsewhere (x ∷ scripts) sector other apart =
    ap (λ b. cond b (answer_of x ∷ coming_in (map (pending_for sector) scripts) other) (coming_in (map (pending_for sector) scripts) other)) (ne_eqb sector other (λ e. apart (sym e)))
    ∙ coming_elsewhere scripts sector other apart

pub added : (old new : List Pending) (sector : ℕ) (scripts : List Script) → new ≡ old ++ map (pending_for sector) scripts
    → (other : ℕ) → coming_in new other ≡ add_coming (coming_in old) sector (map answer_of scripts) other
added old new sector scripts is other =
    let before : List Answer = coming_in old other in
    let answers : List Answer = map answer_of scripts in
    ap (λ xs. coming_in xs other) is ∙ coming-append old (map (pending_for sector) scripts) other
    ∙ ⊎_elim
    (λ here.
    ap (λ later. before ++ later) (ap (coming_in (map (pending_for sector) scripts)) here ∙ coming_here scripts sector)
    ∙ ap (λ b. cond b (before ++ answers) before) (sym (eq-eqb other sector here)))
    (λ apart.
    ap (λ later. before ++ later) (coming_elsewhere scripts sector other apart) ∙ append-nil before
    ∙ ap (λ b. cond b (before ++ answers) before) (sym (ne_eqb other sector apart)))
    (cases_eq other sector)

pub passed_over : (xs : List Pending) (sector i : ℕ) (d : Pending) → i < length xs → coming_in (take i xs) sector ≡ []
    → ((get_or xs i d).sector ≡ sector → ⊥) → coming_in (take (i + 1) xs) sector ≡ []
passed_over xs sector i d within none apart =
    let x : Pending = get_or xs i d in
    ap (λ ys. coming_in ys sector) (take_more xs i d within) ∙ coming-append (take i xs) (x ∷ []) sector
    ∙ (λ j. none j ++ cond (ne_eqb x.sector sector apart j) (x.answer ∷ []) [])

-- the answers around one place
around : (xs : List Pending) (i : ℕ) (d : Pending) → i < length xs → (other : ℕ)
    → coming_in xs other ≡ coming_in (take i xs) other ++ coming_in (get_or xs i d ∷ drop (suc i) xs) other
around xs i d within other =
    ap (λ ys. coming_in ys other) (sym (set-get_or xs i d) ∙ set_split xs i (get_or xs i d) within)
    ∙ coming-append (take i xs) (get_or xs i d ∷ drop (suc i) xs) other

pub first_is : (xs : List Pending) (sector i : ℕ) → IsFirstFor xs sector i → (d : Pending)
    → coming_in xs sector ≡ (get_or xs i d).answer ∷ coming_in (remove xs i) sector
first_is xs sector i first d =
    let x : Pending = get_or xs i d in
    let later : List Answer = coming_in (drop (suc i) xs) sector in
    around xs i d first.within sector
    ∙ (λ j. first.before j ++ cond (eq-eqb x.sector sector (first.here d) j) (x.answer ∷ later) later)
    ∙ ap (λ more. x.answer ∷ more)
    (sym (coming-append (take i xs) (drop (suc i) xs) sector ∙ ap (λ front. front ++ later) first.before))

pub taken : (xs : List Pending) (sector i : ℕ) → IsFirstFor xs sector i → (d : Pending) (other : ℕ)
    → coming_in (remove xs i) other ≡ use_up (coming_in xs) sector other
taken xs sector i first d other =
    let x : Pending = get_or xs i d in
    let all : List Answer = coming_in xs other in
    let left : List Answer = coming_in (remove xs i) other in
    let later : List Answer = coming_in (drop (suc i) xs) other in
    ⊎_elim
    (λ here.
    let one : all ≡ x.answer ∷ left = ap (coming_in xs) here ∙ first_is xs sector i first d ∙ ap (λ s. x.answer ∷ coming_in (remove xs i) s) (sym here) in
    ap (drop 1) (sym one) ∙ ap (λ b. cond b (drop 1 all) all) (sym (eq-eqb other sector here)))
    (λ apart.
    let passed : all ≡ coming_in (take i xs) other ++ later =
    around xs i d first.within other
    ∙ ap (λ b. coming_in (take i xs) other ++ cond b (x.answer ∷ later) later) (ne_eqb x.sector other (λ e. apart (sym e ∙ first.here d))) in
    coming-append (take i xs) (drop (suc i) xs) other ∙ sym passed ∙ ap (λ b. cond b (drop 1 all) all) (sym (ne_eqb other sector apart)))
    (cases_eq other sector)
