use Rattle.rs01_states.proofs.TallyLemmas.{kept-failed}
use Rattle.rs01_states.proofs.states.States.mark_failed.Goals as goal

pub invariant_of-self : goal.invariant_of-self
invariant_of-self c = kept-failed _ _ _ _ _ c.self.invariant c.self.view_is c.requires
