use Rattle.std.proofs.Common.{◌≡◌, ◌+◌, ◌-◌, ◌++◌, ◌∷◌, [], ℕ, ap, ◌∙◌, suc, arith}
use Rattle.std.specs.List.{range_with_len}
use Rattle.rs01_lists.proofs.Ranges.{range_with_len_more}
use Rattle.rs01_workers_tests.proofs.tests.CountingFiller.next.Goals as goal

pub returns-in-Ok-clause-given : goal.returns-in-Ok-clause-given
returns-in-Ok-clause-given c =
    let first : ℕ = c.args.self.now.first in
    let count : ℕ = c.args.self.now.next - first in
    let longer : c.args.self.now.next + 1 - first ≡ suc count = omega arith in
    let layer : first + count ≡ c.in-Ok.input.layer = omega arith in
    ap (range_with_len first) longer ∙ range_with_len_more first count ∙ ap (λ (l : ℕ). range_with_len first count ++ l ∷ []) layer
