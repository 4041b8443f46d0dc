use Rattle.std.proofs.Common.{◌≡◌, ℕ, ◌+◌, ◌-◌, ◌*◌, ◌<◌, ◌≤◌, ◌∙◌, sym, arith, ⊎_elim}
use Rattle.std.proofs.lemmas.Bool.{cases_lt}
use Rattle.std.proofs.lemmas.Nat.{mul-le}
use Rattle.rs01_columns.specs.Layer.{data_at}
use Rattle.rs01_columns.specs.Program.{meaning}
use Rattle.rs01_columns.proofs.Laid.{AllBytes-data, all_bytes, length-data}
use Rattle.rs01_columns.proofs.encoder.encode_part.Goals as goal

pub returns : goal.returns
returns c = λ b j h k.
    let r : ℕ = c.args.kept.now.parity_count in
    let first : ℕ = c.args.first in
    ⊎_elim
    (λ (earlier : b < first).
    let room : (b + 1) * r ≤ first * r = mul-le (b + 1) r first r (omega arith) (omega arith) in
    c.read_parity.ensures.before (b * r + j) (omega (arith, room)) ∙ c.requires.before b j earlier k)
    (λ (late : first ≤ b).
    let l : ℕ = b - first in
    let same : first + l ≡ b = omega arith in
    let inside : l < 1024 = omega arith in
    rw same
    at (sym (c.read_parity.ensures.here l j inside k)
    ∙ c.run.ensures l inside (255 - r + j)
    ∙ (λ t. meaning c.args.kept.now.program.steps.items (λ n. c.lay_blocks.ensures l inside n t) (255 - r + j))
    ∙ c.requires.encoder (data_at r c.args.blocks.now (first + l)) (length-data r c.args.blocks.now (first + l))
    (all_bytes (data_at r c.args.blocks.now (first + l)) (AllBytes-data r c.args.blocks.now (first + l) (omega arith) (λ n. (c.type_inv.blocks n).fits))) j k))
    (cases_lt b first)
