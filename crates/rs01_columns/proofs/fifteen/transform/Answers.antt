use Rattle.std.proofs.Common.{ℕ, List, ◌++◌, ◌∙◌}
use Rattle.rs01_columns.specs.Fifteen.{lane_of, three_steps, five_steps}
use Rattle.rs01_columns.specs.declared.program.Step.{Step}
use Rattle.rs01_columns.proofs.Chained.{before_all}
use Rattle.rs01_columns.proofs.fifteen.transform.Goals as goal

pub returns : goal.returns
returns c = λ l h j.
    let r0 : ℕ → ℕ = lane_of c.args.room.now l in
    let r1 : ℕ → ℕ = lane_of c.three.new.room l in
    let r2 : ℕ → ℕ = lane_of c.three-2.new.room l in
    let r3 : ℕ → ℕ = lane_of c.three-3.new.room l in
    let r4 : ℕ → ℕ = lane_of c.three-4.new.room l in
    let r5 : ℕ → ℕ = lane_of c.three-5.new.room l in
    let r6 : ℕ → ℕ = lane_of c.five.new.room l in
    let r7 : ℕ → ℕ = lane_of c.five-2.new.room l in
    let q7 : List Step = five_steps 10 11 12 13 14 in
    let q6 : List Step = five_steps 5 6 7 8 9 ++ q7 in
    let q5 : List Step = five_steps 0 1 2 3 4 ++ q6 in
    let q4 : List Step = three_steps 4 9 14 ++ q5 in
    let q3 : List Step = three_steps 3 8 13 ++ q4 in
    let q2 : List Step = three_steps 2 7 12 ++ q3 in
    let q1 : List Step = three_steps 1 6 11 ++ q2 in
    c.five-3.ensures l h j
    ∙ before_all (five_steps 5 6 7 8 9) q7 r6 r7 j (c.five-2.ensures l h)
    ∙ before_all (five_steps 0 1 2 3 4) q6 r5 r6 j (c.five.ensures l h)
    ∙ before_all (three_steps 4 9 14) q5 r4 r5 j (c.three-5.ensures l h)
    ∙ before_all (three_steps 3 8 13) q4 r3 r4 j (c.three-4.ensures l h)
    ∙ before_all (three_steps 2 7 12) q3 r2 r3 j (c.three-3.ensures l h)
    ∙ before_all (three_steps 1 6 11) q2 r1 r2 j (c.three-2.ensures l h)
    ∙ before_all (three_steps 0 5 10) q1 r0 r1 j (c.three.ensures l h)
