use Rattle.std.proofs.Common.{ℕ, ◌+◌, List, [], ◌∷◌, ◌∙◌, ap}
use Rattle.rs01_columns.specs.Fifteen.{lane_of, step}
use Rattle.rs01_columns.specs.Program.{stepped}
use Rattle.rs01_columns.specs.declared.program.Step.{Step}
use Rattle.rs01_columns.proofs.Chained.{none, before}
use Rattle.rs01_columns.proofs.fifteen.five_sums.Goals as goal

pub returns : goal.returns
returns c = λ l h j.
    let x : ℕ = c.args.x in
    let y : ℕ = c.args.x + 1 in
    let z : ℕ = c.args.x + 2 in
    let u : ℕ = c.args.x + 3 in
    let v : ℕ = c.args.x + 4 in
    let r0 : ℕ → ℕ = lane_of c.args.room.now l in
    let r1 : ℕ → ℕ = lane_of c.add.new.room l in
    let r2 : ℕ → ℕ = lane_of c.add-2.new.room l in
    let r3 : ℕ → ℕ = lane_of c.add-3.new.room l in
    let r4 : ℕ → ℕ = lane_of c.add-4.new.room l in
    let r5 : ℕ → ℕ = lane_of c.add_times.new.room l in
    let r6 : ℕ → ℕ = lane_of c.add_times-2.new.room l in
    let r7 : ℕ → ℕ = lane_of c.add_times-3.new.room l in
    let q7 : List Step = [] in
    let q6 : List Step = step u z 0x18 ∷ q7 in
    let q5 : List Step = step u y 0x6c ∷ q6 in
    let q4 : List Step = step u v 0xab ∷ q5 in
    let q3 : List Step = step u x 1 ∷ q4 in
    let q2 : List Step = step v u 1 ∷ q3 in
    let q1 : List Step = step z u 1 ∷ q2 in
    none r7 j
    ∙ before q7 (step u z 0x18) r6 r7 j (λ k. c.add_times-3.ensures l h k ∙ ap (λ a. stepped (step u z a) r6 k) c.args.tables.square_factor)
    ∙ before q6 (step u y 0x6c) r5 r6 j (λ k. c.add_times-2.ensures l h k ∙ ap (λ a. stepped (step u y a) r5 k) c.args.tables.fifth_factor)
    ∙ before q5 (step u v 0xab) r4 r5 j (λ k. c.add_times.ensures l h k ∙ ap (λ a. stepped (step u v a) r4 k) c.args.tables.cross_factor)
    ∙ before q4 (step u x 1) r3 r4 j (c.add-4.ensures l h)
    ∙ before q3 (step v u 1) r2 r3 j (c.add-3.ensures l h)
    ∙ before q2 (step z u 1) r1 r2 j (c.add-2.ensures l h)
    ∙ before q1 (step y v 1) r0 r1 j (c.add.ensures l h)
