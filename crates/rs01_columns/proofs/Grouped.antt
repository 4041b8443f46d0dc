-- Steps between fifteen columns, by the numbers of these.
use Rattle.std.proofs.Common.{◌≡◌, Bool, true, ◌&&◌, ℕ, zero, suc, ◌+◌, ◌*◌, ◌<◌, ◌≤◌, ◌⊎◌, inl, inr, List, [], ◌∷◌, ◌++◌, map, drop, take, length, get_or, bit_xor, eqb, ltb, eq-eqb, refl, sym, ap, ◌∙◌, arith, ⊎_elim}
use Rattle.std.specs.Prelude.{if◌then◌else◌}
use Rattle.std.proofs.lemmas.Bool.{and_parts, cases_eq, cases_lt, ltb-true, ne_eqb}
use Rattle.std.proofs.lemmas.List.{take_more, map-append}
use Rattle.rs01_gf256.specs.Field.{times}
use Rattle.rs01_columns.specs.Bank.{lane}
use Rattle.rs01_columns.specs.Fifteen.{AreFifteen, BeginsWith, HasPut, HasTaken, OnlyInThese, fifteen_steps, lane_of, moved}
use Rattle.rs01_columns.specs.Program.{stepped, meaning}
use Rattle.rs01_columns.specs.Ranges.{OnlyHere}
use Rattle.rs01_columns.specs.declared.program.Step.{Step}
use Rattle.rs01_columns.proofs.Chained.{meaning-append}
use Rattle.rs01_columns.proofs.EightSteps.{elsewhere}
use Rattle.rs01_columns.proofs.StepByStep.{one_read}

-- two columns of the same number are one
same_number : (c : List ℕ) (i k : ℕ) → AreFifteen c → i < 15 → k < 15 → get_or c i 0 ≡ get_or c k 0 → i ≡ k
same_number c i k all hi hk e =
    ⊎_elim
    (λ (u : i < k). absurd (all.differ k i hk u (sym e)))
    (λ (u : k ≤ i). ⊎_elim (λ (w : k < i). absurd (all.differ i k hi w e)) (λ (w : i ≤ k). let same : i ≡ k = omega arith in same) (cases_lt k i))
    (cases_lt i k)

-- so their comparisons agree
same_test : (c : List ℕ) (i k : ℕ) → AreFifteen c → i < 15 → k < 15 → eqb i k ≡ eqb (get_or c i 0) (get_or c k 0)
same_test c i k all hi hk =
    ⊎_elim
    (λ (e : i ≡ k). eq-eqb i k e ∙ sym (eq-eqb (get_or c i 0) (get_or c k 0) (ap (λ n. get_or c n 0) e)))
    (λ (ne : i ≡ k → ⊥). ne_eqb i k ne ∙ sym (ne_eqb (get_or c i 0) (get_or c k 0) (λ e. ne (same_number c i k all hi hk e))))
    (cases_eq i k)

-- the steps are between columns of the first fifteen numbers
are_local : List Step → Bool
are_local [] = true
are_local (s ∷ q) = ltb s.into 15 && (ltb s.from 15 && are_local q)

-- steps between the columns make of them what the steps between their numbers make
moved_all : (c : List ℕ) (q : List Step) (f g : ℕ → ℕ) (k : ℕ) → AreFifteen c → are_local q ≡ true → ((i : ℕ) → i < 15 → g i ≡ f (get_or c i 0)) → k < 15
    → meaning (map (moved c) q) f (get_or c k 0) ≡ meaning q g k
unfolding meaning are_local
moved_all c [] f g k all local e h = sym (e k h)
moved_all c (s ∷ q) f g k all local e h =
    let parts = and_parts (ltb s.into 15) (ltb s.from 15 && are_local q) local in
    let others = and_parts (ltb s.from 15) (are_local q) parts.1 in
    let into : s.into < 15 = ltb-true s.into 15 parts.0 in
    let from : s.from < 15 = ltb-true s.from 15 others.0 in
    moved_all c q (stepped (moved c s) f) (stepped s g) k all others.1
    (λ i hi t. if same_test c i s.into all hi into t then bit_xor (if s.fresh then 0 else e i hi t) (times s.factor (e s.from from t)) else e i hi t) h

-- and leave the others
moved_none : (c : List ℕ) (q : List Step) (f : ℕ → ℕ) (j : ℕ) → are_local q ≡ true → ((i : ℕ) → i < 15 → j ≡ get_or c i 0 → ⊥) → meaning (map (moved c) q) f j ≡ f j
unfolding meaning are_local
moved_none c [] f j local out = refl
moved_none c (s ∷ q) f j local out =
    let parts = and_parts (ltb s.into 15) (ltb s.from 15 && are_local q) local in
    let others = and_parts (ltb s.from 15) (are_local q) parts.1 in
    moved_none c q (stepped (moved c s) f) j others.1 out ∙ elsewhere (moved c s) f j (out s.into (ltb-true s.into 15 parts.0))

-- a column is one of the first n, or none of them
among : (c : List ℕ) (j n : ℕ) → ((i : ℕ) × (i < n) × (j ≡ get_or c i 0)) ⊎ ((i : ℕ) → i < n → j ≡ get_or c i 0 → ⊥)
among c j zero = inr (λ i h e. absurd (omega arith))
among c j (suc n) =
    ⊎_elim
    (λ (e : j ≡ get_or c n 0). inl (n, omega arith, e))
    (λ (ne : j ≡ get_or c n 0 → ⊥).
    ⊎_elim
    (λ (u : (i : ℕ) × (i < n) × (j ≡ get_or c i 0)). inl (u.0, omega (arith, u.1), u.2))
    (λ (none : (i : ℕ) → i < n → j ≡ get_or c i 0 → ⊥). inr (λ i h e.
    ⊎_elim (λ (w : i < n). none i w e) (λ (w : n ≤ i). let same : i ≡ n = omega arith in ne (e ∙ ap (λ m. get_or c m 0) same)) (cases_lt i n)))
    (among c j n))
    (cases_eq j (get_or c n 0))

-- a lane of fifteen columns that were taken, transformed and put back
pub lane_transformed : (c old before after new : List ℕ) (on l j : ℕ) → AreFifteen c → l < 16 → on + 16 ≤ 1024
    → HasTaken before old c on 15
    → ((i : ℕ) → lane_of after l i ≡ meaning fifteen_steps (lane_of before l) i)
    → HasPut new after c on 15 → OnlyInThese old new c on 15
    → lane new (on + l) j ≡ meaning (map (moved c) fifteen_steps) (lane old (on + l)) j
unfolding are_local
lane_transformed c old before after new on l j all h room taken done put rest =
    ⊎_elim
    (λ (u : (i : ℕ) × (i < 15) × (j ≡ get_or c i 0)).
    (λ t. lane new (on + l) (u.2 t))
    ∙ put l u.0 h u.1
    ∙ done u.0
    ∙ sym (moved_all c fifteen_steps (lane old (on + l)) (lane_of before l) u.0 all refl (λ i hi. taken l i h hi) u.1)
    ∙ (λ t. meaning (map (moved c) fifteen_steps) (lane old (on + l)) (sym u.2 t)))
    (λ (none : (i : ℕ) → i < 15 → j ≡ get_or c i 0 → ⊥).
    rest (on + l) j (omega arith) (λ i hi a b e. none i hi e)
    ∙ sym (moved_none c fifteen_steps (lane old (on + l)) j refl none))
    (among c j 15)

-- one column more is put back
pub put_more : (c first now next room : List ℕ) (on n : ℕ) → AreFifteen c → n < 15 → on + 16 ≤ 1024
    → ((k : ℕ) → k < 16 → get_or next (1088 * get_or c n 0 + on + k) 0 ≡ lane_of room k n)
    → OnlyHere now next (1088 * get_or c n 0 + on) 16
    → HasPut now room c on n → HasPut next room c on (n + 1)
put_more c first now next room on n all hn ho here only done l i h hi =
    ⊎_elim
    (λ (u : i < n).
    let ne : get_or c n 0 ≡ get_or c i 0 → ⊥ = all.differ n i hn u in
    ⊎_elim
    (λ (w : get_or c i 0 < get_or c n 0). only.before (1088 * get_or c i 0 + (on + l)) (omega arith) ∙ done l i h u)
    (λ (w : get_or c n 0 ≤ get_or c i 0).
    ⊎_elim
    (λ (x : get_or c n 0 < get_or c i 0). only.after (1088 * get_or c i 0 + (on + l)) (omega arith) ∙ done l i h u)
    (λ (x : get_or c i 0 ≤ get_or c n 0). absurd (ne (omega arith)))
    (cases_lt (get_or c n 0) (get_or c i 0)))
    (cases_lt (get_or c i 0) (get_or c n 0)))
    (λ (u : n ≤ i).
    let same : i ≡ n = omega arith in
    let at : 1088 * get_or c i 0 + (on + l) ≡ 1088 * get_or c n 0 + on + l = omega (arith, ap (λ m. get_or c m 0) same) in
    (λ t. get_or next (at t) 0) ∙ here l h ∙ (λ t. lane_of room l (sym same t)))
    (cases_lt i n)

-- and nothing else has changed
pub put_rest : (c first now next : List ℕ) (on n : ℕ) → n < 15 → on + 16 ≤ 1024
    → OnlyHere now next (1088 * get_or c n 0 + on) 16 → OnlyInThese first now c on n → OnlyInThese first next c on (n + 1)
put_rest c first now next on n hn ho only rest l j h out =
    let same : lane now l j ≡ lane first l j = rest l j h (λ i hi a b e. out i (omega arith) a b e) in
    let n0 : ℕ = get_or c n 0 in
    ⊎_elim
    (λ (u : 1088 * j + l < 1088 * n0 + on). only.before (1088 * j + l) u ∙ same)
    (λ (u : 1088 * n0 + on ≤ 1088 * j + l).
    ⊎_elim
    (λ (w : 1088 * j + l < 1088 * n0 + on + 16).
    let at : j ≡ n0 = omega arith in
    absurd (out n (omega arith) (omega (arith, at)) (omega (arith, at)) at))
    (λ (w : 1088 * n0 + on + 16 ≤ 1088 * j + l). only.after (1088 * j + l) w ∙ same)
    (cases_lt (1088 * j + l) (1088 * n0 + on + 16)))
    (cases_lt (1088 * j + l) (1088 * n0 + on))

-- one column more is taken
pub take_more_columns : (c bank now next : List ℕ) (on n : ℕ) → n < 15
    → ((k : ℕ) → k < 16 → get_or next (16 * n + k) 0 ≡ get_or bank (1088 * get_or c n 0 + on + k) 0)
    → OnlyHere now next (16 * n) 16
    → HasTaken now bank c on n → HasTaken next bank c on (n + 1)
take_more_columns c bank now next on n hn here only done l i h hi =
    ⊎_elim
    (λ (u : i < n). only.before (16 * i + l) (omega arith) ∙ done l i h u)
    (λ (u : n ≤ i).
    let same : i ≡ n = omega arith in
    let at : 1088 * get_or c n 0 + on + l ≡ 1088 * get_or c i 0 + (on + l) = omega (arith, ap (λ m. get_or c m 0) same) in
    (λ t. get_or next (16 * same t + l) 0) ∙ here l h ∙ (λ t. get_or bank (at t) 0))
    (cases_lt i n)

-- one step more is the moved one
pub begins_more : (p : List Step) (c : List ℕ) (at i : ℕ) (z y : Step) → at + i < length p → i < length fifteen_steps
    → get_or p (at + i) z ≡ moved c (get_or fifteen_steps i y)
    → BeginsWith p at i (map (moved c) (take i fifteen_steps)) → BeginsWith p at (i + 1) (map (moved c) (take (i + 1) fifteen_steps))
unfolding meaning
begins_more p c at i z y inside few same done f j =
    let q : List Step = map (moved c) (take i fifteen_steps) in
    let x : Step = get_or fifteen_steps i y in
    let more : map (moved c) (take (i + 1) fifteen_steps) ≡ q ++ moved c x ∷ [] =
    ap (map (moved c)) (take_more fifteen_steps i y few) ∙ map-append (moved c) (take i fifteen_steps) (x ∷ []) in
    let on : at + (i + 1) ≡ at + i + 1 = omega arith in
    ap (λ n. meaning (drop n p) (meaning (map (moved c) (take (i + 1) fifteen_steps)) f) j) on
    ∙ one_read p (at + i) (moved c x) z (meaning q f) (meaning (map (moved c) (take (i + 1) fifteen_steps)) f) j inside (sym same)
    (λ k. ap (λ r. meaning r f k) more ∙ meaning-append q (moved c x ∷ []) f k)
    ∙ done f j

-- a group of steps is run
pub group_run : (p : List Step) (c : List ℕ) (at : ℕ) (f g : ℕ → ℕ) (j : ℕ) → BeginsWith p at 76 (map (moved c) fifteen_steps)
    → ((k : ℕ) → g k ≡ meaning (map (moved c) fifteen_steps) f k) → meaning (drop (at + 76) p) g j ≡ meaning (drop at p) f j
group_run p c at f g j begins e = (λ t. meaning (drop (at + 76) p) (λ k. e k t) j) ∙ begins f j
