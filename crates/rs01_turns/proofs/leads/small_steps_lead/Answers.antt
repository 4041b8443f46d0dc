use Rattle.rs01_turns.proofs.Leading.{give-leads, look-leads, read-leads}
use Rattle.rs01_turns.proofs.leads.small_steps_lead.Goals as goal

pub returns : goal.returns
returns c = record {
  give = give-leads;
  look = look-leads;
  read = read-leads;
}
