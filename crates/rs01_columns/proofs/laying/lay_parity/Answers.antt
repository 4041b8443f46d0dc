use Rattle.std.proofs.Common.{◌≡◌, ℕ, ◌+◌, ◌-◌, ◌*◌, ◌/◌, ◌∙◌, sym, get_or, arith, ⊎_elim}
use Rattle.std.proofs.lemmas.Bool.{cases_lt}
use Rattle.rs01_columns.specs.Bank.{lane}
use Rattle.rs01_columns.proofs.laying.lay_parity.Goals as goal

pub returns-then-c-r-clause-here : goal.returns-then-c-r-clause-here
returns-then-c-r-clause-here c = λ l j h below.
    let r : ℕ = c.args.r in
    let whole : ℕ = 16 * (r / 16) in
    ⊎_elim
    (λ early. c.lay_others.ensures.rest.front l (255 - r + j) h (omega arith) ∙ c.lay_sixteens.ensures.here l j h early)
    (λ late.
    let m : ℕ = j - whole in
    let column : 255 - r + whole + m ≡ 255 - r + j = omega (arith, c.requires.parity.few) in
    let there : (c.args.first + l) * r + whole + m ≡ (c.args.first + l) * r + j = omega arith in
    (λ i. lane c.lay_others.new.bank l (sym column i)) ∙ c.lay_others.ensures.here l m h (omega arith) ∙ (λ i. get_or c.args.parity.now (there i) 0))
    (cases_lt j whole)
