-- Four and eight steps that add multiples of four columns.
use Rattle.std.proofs.Common.{◌≡◌, ℕ, false, ap, ◌∙◌, sym, refl, arith, ⊎_elim, cond, eqb, eq-eqb}
use Rattle.std.specs.Prelude.{bit_xor}
use Rattle.std.proofs.lemmas.Bool.{cond-true, cond-false, ne_eqb, cases_eq}
use Rattle.rs01_gf256.specs.Field.{times}
use Rattle.rs01_columns.specs.Program.{stepped}
use Rattle.rs01_columns.specs.Running.{AddTogether, AreWithin, TakeAlike, stepped_four}
use Rattle.rs01_columns.specs.Fours.{AreTablesOf, raised_by}
use Rattle.rs01_columns.specs.declared.program.Step.{Step}
use Rattle.rs01_columns.specs.declared.program.FourSteps.{FourSteps}
use Rattle.rs01_columns.specs.declared.adding.FourTables.{FourTables}

pub elsewhere : (s : Step) (f : ℕ → ℕ) (k : ℕ) → (k ≡ s.into → ⊥) → stepped s f k ≡ f k
elsewhere s f k ne = cond-false (eqb k s.into) _ (f k) (ne_eqb k s.into ne)

pub here : (s : Step) (f : ℕ → ℕ) (k : ℕ) → s.fresh ≡ false → k ≡ s.into → stepped s f k ≡ bit_xor (f k) (times s.factor (f s.from))
here s f k adds same =
    cond-true (eqb k s.into) _ (f k) (eq-eqb k s.into same) ∙ ap (λ b. bit_xor (cond b 0 (f k)) (times s.factor (f s.from))) adds

four_elsewhere : (s : FourSteps) (f : ℕ → ℕ) (k : ℕ) → AddTogether s → (k ≡ s.one.into → ⊥) → stepped_four s f k ≡ f k
four_elsewhere s f k same ne =
    elsewhere s.four (stepped s.three (stepped s.two (stepped s.one f))) k (λ e. ne (e ∙ same.fourth))
    ∙ elsewhere s.three (stepped s.two (stepped s.one f)) k (λ e. ne (e ∙ same.third))
    ∙ elsewhere s.two (stepped s.one f) k (λ e. ne (e ∙ same.second))
    ∙ elsewhere s.one f k ne

four_here : (s : FourSteps) (n : ℕ) (f : ℕ → ℕ) (k : ℕ) → AddTogether s → AreWithin n s → k ≡ s.one.into
    → stepped_four s f k
    ≡ bit_xor (bit_xor (bit_xor (bit_xor (f k) (times s.one.factor (f s.one.from))) (times s.two.factor (f s.two.from))) (times s.three.factor (f s.three.from)))
    (times s.four.factor (f s.four.from))
four_here s n f k same within e =
    let nq : s.two.from ≡ s.one.into → ⊥ = λ x. within.two.differ (same.second ∙ sym x) in
    let ns : s.three.from ≡ s.one.into → ⊥ = λ x. within.three.differ (same.third ∙ sym x) in
    let nt : s.four.from ≡ s.one.into → ⊥ = λ x. within.four.differ (same.fourth ∙ sym x) in
    let one : ℕ → ℕ = stepped s.one f in
    let two : ℕ → ℕ = stepped s.two one in
    let three : ℕ → ℕ = stepped s.three two in
    let h1 : one k ≡ bit_xor (f k) (times s.one.factor (f s.one.from)) = here s.one f k same.one_adds e in
    let h2 : two k ≡ bit_xor (one k) (times s.two.factor (one s.two.from)) = here s.two one k same.two_adds (e ∙ sym same.second) in
    let h3 : three k ≡ bit_xor (two k) (times s.three.factor (two s.three.from)) = here s.three two k same.three_adds (e ∙ sym same.third) in
    let q1 : one s.two.from ≡ f s.two.from = elsewhere s.one f s.two.from nq in
    let s2 : two s.three.from ≡ f s.three.from = elsewhere s.two one s.three.from (λ x. ns (x ∙ same.second)) ∙ elsewhere s.one f s.three.from ns in
    let t3 : three s.four.from ≡ f s.four.from =
    elsewhere s.three two s.four.from (λ x. nt (x ∙ same.third)) ∙ elsewhere s.two one s.four.from (λ x. nt (x ∙ same.second)) ∙ elsewhere s.one f s.four.from nt in
    here s.four three k same.four_adds (e ∙ sym same.fourth)
    ∙ (λ i. bit_xor (h3 i) (times s.four.factor (t3 i)))
    ∙ (λ i. bit_xor (bit_xor (h2 i) (times s.three.factor (s2 i))) (times s.four.factor (f s.four.from)))
    ∙ (λ i. bit_xor (bit_xor (bit_xor (h1 i) (times s.two.factor (q1 i))) (times s.three.factor (f s.three.from))) (times s.four.factor (f s.four.from)))

-- by the factors
raised_here : (s : FourSteps) (t : FourTables) (n : ℕ) (f : ℕ → ℕ) (k : ℕ) → AddTogether s → AreWithin n s → AreTablesOf t s → k ≡ s.one.into
    → raised_by t (f k) (f s.one.from) (f s.two.from) (f s.three.from) (f s.four.from) ≡ stepped_four s f k
raised_here s t n f k same within are e =
    (λ i. bit_xor (bit_xor (bit_xor (bit_xor (f k) (times (are.one i) (f s.one.from))) (times (are.two i) (f s.two.from))) (times (are.three i) (f s.three.from)))
    (times (are.four i) (f s.four.from)))
    ∙ sym (four_here s n f k same within e)

-- a column after four steps, by what the one that they add to has become
pub four_lane : (s : FourSteps) (t : FourTables) (n : ℕ) (f g : ℕ → ℕ) (j : ℕ) → AddTogether s → AreWithin n s → AreTablesOf t s
    → (j ≡ s.one.into → g j ≡ raised_by t (f j) (f s.one.from) (f s.two.from) (f s.three.from) (f s.four.from))
    → ((j ≡ s.one.into → ⊥) → g j ≡ f j)
    → g j ≡ stepped_four s f j
four_lane s t n f g j same within are first rest =
    ⊎_elim
    (λ (e : j ≡ s.one.into). first e ∙ raised_here s t n f j same within are e)
    (λ (ne : j ≡ s.one.into → ⊥). rest ne ∙ sym (four_elsewhere s f j same ne))
    (cases_eq j s.one.into)

-- a column after eight steps, by what the two that they add to have become
pub eight_lane : (s o : FourSteps) (t u : FourTables) (n : ℕ) (f g : ℕ → ℕ) (j : ℕ) → AddTogether s → AddTogether o → TakeAlike s o → AreWithin n s → AreWithin n o
    → AreTablesOf t s → AreTablesOf u o
    → (j ≡ s.one.into → g j ≡ raised_by t (f j) (f s.one.from) (f s.two.from) (f s.three.from) (f s.four.from))
    → (j ≡ o.one.into → g j ≡ raised_by u (f j) (f s.one.from) (f s.two.from) (f s.three.from) (f s.four.from))
    → ((j ≡ s.one.into → ⊥) → (j ≡ o.one.into → ⊥) → g j ≡ f j)
    → g j ≡ stepped_four o (stepped_four s f) j
eight_lane s o t u n f g j one other alike hs ho are are_too first second rest =
    let m : ℕ → ℕ = stepped_four s f in
    let apart : o.one.into ≡ s.one.into → ⊥ = λ e. omega (arith, alike.behind, e) in
    let na : s.one.from ≡ s.one.into → ⊥ = λ e. hs.one.differ (sym e) in
    let nb : s.two.from ≡ s.one.into → ⊥ = λ e. hs.two.differ (one.second ∙ sym e) in
    let nc : s.three.from ≡ s.one.into → ⊥ = λ e. hs.three.differ (one.third ∙ sym e) in
    let nd : s.four.from ≡ s.one.into → ⊥ = λ e. hs.four.differ (one.fourth ∙ sym e) in
    let kept : (k l : ℕ) → k ≡ l → (l ≡ s.one.into → ⊥) → m k ≡ f l = λ k l e ne. ap m e ∙ four_elsewhere s f l one ne in
    ⊎_elim
    (λ (e : j ≡ o.one.into).
    second e
    ∙ (λ i. raised_by u (sym (kept j j refl (λ x. apart (sym e ∙ x))) i) (sym (kept o.one.from s.one.from alike.one na) i)
    (sym (kept o.two.from s.two.from alike.two nb) i) (sym (kept o.three.from s.three.from alike.three nc) i) (sym (kept o.four.from s.four.from alike.four nd) i))
    ∙ raised_here o u n m j other ho are_too e)
    (λ (ne2 : j ≡ o.one.into → ⊥).
    ⊎_elim
    (λ (e : j ≡ s.one.into). first e ∙ raised_here s t n f j one hs are e)
    (λ (ne : j ≡ s.one.into → ⊥). rest ne ne2 ∙ sym (four_elsewhere s f j one ne))
    (cases_eq j s.one.into)
    ∙ sym (four_elsewhere o m j other ne2))
    (cases_eq j o.one.into)
