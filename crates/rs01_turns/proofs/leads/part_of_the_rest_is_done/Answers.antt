use Rattle.rs01_turns.proofs.Stopping.{sectors-are-done, where-stopped}
use Rattle.rs01_turns.proofs.leads.part_of_the_rest_is_done.Goals as goal

pub returns : goal.returns
returns c = record {
  stopped = where-stopped;
  done = sectors-are-done;
}
