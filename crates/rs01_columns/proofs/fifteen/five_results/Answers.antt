use Rattle.std.proofs.Common.{ℕ, ◌+◌, List, [], ◌∷◌, ◌∙◌, ap}
use Rattle.rs01_columns.specs.Fifteen.{lane_of, step}
use Rattle.rs01_columns.specs.Program.{stepped}
use Rattle.rs01_columns.specs.declared.program.Step.{Step}
use Rattle.rs01_columns.proofs.Chained.{none, before}
use Rattle.rs01_columns.proofs.fifteen.five_results.Goals as goal

pub returns : goal.returns
returns c = λ l h j.
    let x : ℕ = c.args.x in
    let y : ℕ = c.args.x + 1 in
    let z : ℕ = c.args.x + 2 in
    let u : ℕ = c.args.x + 3 in
    let v : ℕ = c.args.x + 4 in
    let r0 : ℕ → ℕ = lane_of c.args.room.now l in
    let r1 : ℕ → ℕ = lane_of c.add.new.room l in
    let r2 : ℕ → ℕ = lane_of c.add_times.new.room l in
    let r3 : ℕ → ℕ = lane_of c.add_times-2.new.room l in
    let r4 : ℕ → ℕ = lane_of c.add-2.new.room l in
    let r5 : ℕ → ℕ = lane_of c.add-3.new.room l in
    let r6 : ℕ → ℕ = lane_of c.add-4.new.room l in
    let r7 : ℕ → ℕ = lane_of c.add_times-3.new.room l in
    let r8 : ℕ → ℕ = lane_of c.add-5.new.room l in
    let r9 : ℕ → ℕ = lane_of c.add-6.new.room l in
    let r10 : ℕ → ℕ = lane_of c.add-7.new.room l in
    let q10 : List Step = [] in
    let q9 : List Step = step z u 1 ∷ q10 in
    let q8 : List Step = step y v 1 ∷ q9 in
    let q7 : List Step = step z y 1 ∷ q8 in
    let q6 : List Step = step y z 0xab ∷ q7 in
    let q5 : List Step = step z y 1 ∷ q6 in
    let q4 : List Step = step x z 1 ∷ q5 in
    let q3 : List Step = step x y 1 ∷ q4 in
    let q2 : List Step = step v z 0xdf ∷ q3 in
    let q1 : List Step = step v y 0x74 ∷ q2 in
    none r10 j
    ∙ before q10 (step z u 1) r9 r10 j (c.add-7.ensures l h)
    ∙ before q9 (step y v 1) r8 r9 j (c.add-6.ensures l h)
    ∙ before q8 (step z y 1) r7 r8 j (c.add-5.ensures l h)
    ∙ before q7 (step y z 0xab) r6 r7 j (λ k. c.add_times-3.ensures l h k ∙ ap (λ a. stepped (step y z a) r6 k) c.args.tables.cross_factor)
    ∙ before q6 (step z y 1) r5 r6 j (c.add-4.ensures l h)
    ∙ before q5 (step x z 1) r4 r5 j (c.add-3.ensures l h)
    ∙ before q4 (step x y 1) r3 r4 j (c.add-2.ensures l h)
    ∙ before q3 (step v z 0xdf) r2 r3 j (λ k. c.add_times-2.ensures l h k ∙ ap (λ a. stepped (step v z a) r2 k) c.args.tables.high_factor)
    ∙ before q2 (step v y 0x74) r1 r2 j (λ k. c.add_times.ensures l h k ∙ ap (λ a. stepped (step v y a) r1 k) c.args.tables.low_factor)
    ∙ before q1 (step v u 1) r0 r1 j (c.add.ensures l h)
