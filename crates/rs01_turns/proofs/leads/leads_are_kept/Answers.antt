use Rattle.rs01_turns.proofs.Leading.{leads-on, ready-on}
use Rattle.rs01_turns.proofs.leads.leads_are_kept.Goals as goal

pub returns-clause-on : goal.returns-clause-on
returns-clause-on c = leads-on

pub returns-clause-ready : goal.returns-clause-ready
returns-clause-ready c = ready-on
