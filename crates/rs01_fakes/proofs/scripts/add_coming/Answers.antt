use Rattle.std.proofs.Common.{◌++◌, ap, ◌∙◌}
use Rattle.rs01_fakes.proofs.ScriptLemmas.{added}
use Rattle.rs01_fakes.proofs.scripts.add_coming.Goals as goal

pub returns-clause-ok : goal.returns-clause-ok
returns-clause-ok c =
    added _ _ _ _
    (c.in_ok-extend_from_slice.ensures.items ∙ ap (λ list. c.args.pending.now.items ++ list) (c.deref.ensures.value ∙ c.in_ok-list.ensures))
