use Rattle.std.proofs.Common.{◌∙◌, ◌-◌, ap}
use Rattle.rs01_adaptive.specs.Noting.{told_of}
use Rattle.rs01_adaptive.proofs.ReadyLemmas.{ready_lacking, ready_read, ready_stopped}
use Rattle.rs01_adaptive.proofs.ending.finish.Goals as goal

pub returns-in-Err : goal.returns-in-Err
returns-in-Err g c = λ prepared before after old worked.
    ready_stopped c.args.setup.now prepared c.args.size c.args.asks before after c.args.course.now c.args.noted.now c.args.ended old _ c.in-Err.why
    worked c.args.rack.now.counted c.in-Err.ensures

pub returns-in-Ok-told_of : goal.returns-in-Ok-told_of
returns-in-Ok-told_of g c = λ prepared before after old worked.
    ready_read c.args.setup.now prepared c.args.size c.args.asks before after c.args.course.now c.args.noted.now c.args.ended old _
    c.asked_since-asked.result c.saturating_sub-surplus.result c.in-Ok-told_of.told worked c.args.rack.now.counted c.in-Ok.ensures
    (c.in-Ok-told_of.ensures ∙ ap (λ fs. told_of fs c.args.noted.now c.asked_since-asked.result c.saturating_sub-surplus.result) c.fates.ensures.fates)
    c.asked_since-asked.ensures
    (c.saturating_sub-surplus.ensures ∙ ap (λ n. c.args.size - n) c.image_len.ensures.value)

pub returns-in-Err-told_of : goal.returns-in-Err-told_of
returns-in-Err-told_of g c = λ prepared before after old worked.
    ready_lacking c.args.setup.now prepared c.args.size c.args.asks before after c.args.course.now c.args.noted.now c.args.ended old _
    worked c.args.rack.now.counted c.in-Ok.ensures
