use Rattle.std.proofs.Common.{◌≡◌, ℕ, ◌+◌, ◌-◌, ◌<◌, ◌≤◌, arith, ⊎_elim}
use Rattle.std.proofs.lemmas.Bool.{cases_lt}
use Rattle.rs01_columns.proofs.syndromes.count_all.Goals as goal

pub returns : goal.returns
returns c =
    let front = c.count_part-front.ensures in
    let back = c.count_part.ensures in
    let whole : 1024 ≤ c.count_part-front.result = c.if-front-lt1024.false in
    let n : ℕ = c.count_part.result in
    record {
      most = omega (arith, back.most);
      codewords = λ b h.
          ⊎_elim
          (λ (early : b < 1024). front.codewords b (omega arith))
          (λ (late : 1024 ≤ b).
          let same : 1024 + (b - 1024) ≡ 0 + b = omega arith in rw same at (back.codewords (b - 1024) (omega arith)))
          (cases_lt b 1024);
      next = λ h code. let same : 0 + (1024 + n) ≡ 1024 + n = omega arith in back.next (omega arith) (rw same at code);
    }
