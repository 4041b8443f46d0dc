use Rattle.rs01_turns.proofs.Layering.{ask-is-sparing, end-is-sparing, start-is-sparing}
use Rattle.rs01_turns.proofs.rest.sparing_is_kept.Goals as goal

pub returns : goal.returns
returns c = record {
  start = start-is-sparing;
  ask = ask-is-sparing;
  end = end-is-sparing;
}
