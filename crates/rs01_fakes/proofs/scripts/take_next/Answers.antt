use Rattle.std.proofs.Common.{ap, ◌∙◌, sym, Some}
use Rattle.rs01_fakes.specs.Scripts.{IsFirstFor, coming_in, next_of}
use Rattle.rs01_fakes.proofs.ScriptLemmas.{first_is, taken}
use Rattle.rs01_fakes.proofs.scripts.take_next.Goals as goal

pub returns-in-Some-clause-answer : goal.returns-in-Some-clause-answer
returns-in-Some-clause-answer c =
    let first : IsFirstFor c.args.pending.now.items c.args.sector c.in-Some.place = rw (← c.deref.ensures.value) c.in-Some.ensures.found in
    ap (λ next. Some next.answer) c.remove.ensures.value ∙ sym (ap next_of (first_is _ _ _ first c.remove.result))

pub returns-in-Some-clause-rest : goal.returns-in-Some-clause-rest
returns-in-Some-clause-rest c other =
    let first : IsFirstFor c.args.pending.now.items c.args.sector c.in-Some.place = rw (← c.deref.ensures.value) c.in-Some.ensures.found in
    ap (λ pending. coming_in pending other) c.remove.ensures.items ∙ taken _ _ _ first c.remove.result other
