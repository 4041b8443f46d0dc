use Rattle.std.proofs.Common.{ℕ, List, [], ◌∷◌, ◌∙◌, ap}
use Rattle.rs01_columns.specs.Fifteen.{lane_of, step}
use Rattle.rs01_columns.specs.Program.{stepped}
use Rattle.rs01_columns.specs.declared.program.Step.{Step}
use Rattle.rs01_columns.proofs.Chained.{none, before}
use Rattle.rs01_columns.proofs.fifteen.three.Goals as goal

pub returns : goal.returns
returns c = λ l h j.
    let x : ℕ = c.args.x in
    let y : ℕ = c.args.y in
    let z : ℕ = c.args.z in
    let r0 : ℕ → ℕ = lane_of c.args.room.now l in
    let r1 : ℕ → ℕ = lane_of c.add.new.room l in
    let r2 : ℕ → ℕ = lane_of c.add-2.new.room l in
    let r3 : ℕ → ℕ = lane_of c.add-3.new.room l in
    let r4 : ℕ → ℕ = lane_of c.add_times.new.room l in
    let r5 : ℕ → ℕ = lane_of c.add-4.new.room l in
    let q5 : List Step = [] in
    let q4 : List Step = step y z 1 ∷ q5 in
    let q3 : List Step = step z y 0xaa ∷ q4 in
    let q2 : List Step = step z x 1 ∷ q3 in
    let q1 : List Step = step x y 1 ∷ q2 in
    none r5 j
    ∙ before q5 (step y z 1) r4 r5 j (c.add-4.ensures l h)
    ∙ before q4 (step z y 0xaa) r3 r4 j (λ k. c.add_times.ensures l h k ∙ ap (λ a. stepped (step z y a) r3 k) c.args.tables.third_factor)
    ∙ before q3 (step z x 1) r2 r3 j (c.add-3.ensures l h)
    ∙ before q2 (step x y 1) r1 r2 j (c.add-2.ensures l h)
    ∙ before q1 (step y z 1) r0 r1 j (c.add.ensures l h)
