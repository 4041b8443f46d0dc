use Rattle.rs01_ecchead.specs.Head.{fields_of}
use Rattle.rs01_repair.specs.Inputs.{flag_at}
use Rattle.rs01_repair.proofs.Numbered.{one_more}
use Rattle.rs01_reader.specs.Inputs.{is_gone}
use Rattle.rs01_reader.proofs.input.layer_flags.Goals as goal

pub loop-place-preserved : goal.loop-place-preserved
loop-place-preserved c =
    one_more (flag_at (fields_of c.args.ecc.now.head) (is_gone c.args.course.now) c.args.layer) c.loop-place.flags.items _ c.place_flag.result c.loop-place.place
    c.loop-place.invariant c.place_flag.ensures c.in_ok-push.ensures.items
