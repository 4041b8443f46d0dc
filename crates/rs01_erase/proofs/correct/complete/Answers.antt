use Rattle.std.proofs.Common.{refl, arith, Some, None}
use Rattle.rs01_erase.proofs.Completing.{places_below, rises}
use Rattle.rs01_erase.proofs.RestoringLemmas.{completed_is, none_completed}
use Rattle.rs01_erase.proofs.correct.complete.Goals as goal

pub restore_codeword-requires-clause-places : goal.restore_codeword-requires-clause-places
restore_codeword-requires-clause-places c = record {
  rising = rises c.args.input.now c.args.erased.now c.requires.erased;
  below = places_below c.args.input.now c.args.erased.now 255 c.requires.erased (omega arith);
}

pub returns-in-Ok : goal.returns-in-Ok
returns-in-Ok c =
    completed_is c.args.input.now c.args.erased.now c.args.codeword c.gather.new.word (Some c.restore_codeword.new.word) c.gather.ensures (c.in-Ok.ensures.restored refl).completed

pub returns-in-Err : goal.returns-in-Err
returns-in-Err c =
    completed_is c.args.input.now c.args.erased.now c.args.codeword c.gather.new.word None c.gather.ensures
    (none_completed c.in-Err.field-0 _ _ _ c.requires.erased.few c.in-Err.ensures.beyond c.in-Err.ensures.inconsistent)
