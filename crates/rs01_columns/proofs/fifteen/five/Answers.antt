use Rattle.std.proofs.Common.{ℕ, ◌+◌, ◌∙◌}
use Rattle.rs01_columns.specs.Fifteen.{lane_of, result_steps, sum_steps}
use Rattle.rs01_columns.proofs.Chained.{before_all}
use Rattle.rs01_columns.proofs.fifteen.five.Goals as goal

pub returns : goal.returns
returns c = λ l h j.
    let x : ℕ = c.args.x in
    c.five_results.ensures l h j
    ∙ before_all (sum_steps x (x + 1) (x + 2) (x + 3) (x + 4)) (result_steps x (x + 1) (x + 2) (x + 3) (x + 4)) (lane_of c.args.room.now l)
    (lane_of c.five_sums.new.room l) j (c.five_sums.ensures l h)
