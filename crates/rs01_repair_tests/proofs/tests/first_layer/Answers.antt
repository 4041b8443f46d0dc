use Rattle.std.proofs.Common.{arith}
use Rattle.rs01_fakes.specs.Memory.{desk_state}
use Rattle.rs01_repair.proofs.GivenLemmas.{ready_new}
use Rattle.rs01_repair_tests.proofs.tests.first_layer.Goals as goal

pub next_input-requires : goal.next_input-requires
next_input-requires c =
    ready_new c.args.found.now _ _ (desk_state c.args.desk.now) c.new-batch.result 0 c.new-batch.ensures.next c.new-batch.ensures.first c.new-batch.ensures.parts c.new-batch.ensures.parity (omega arith)
