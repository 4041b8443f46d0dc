use Rattle.std.proofs.Common.{ap, ◌∙◌, length, List, ℕ}
use Rattle.std.specs.Prelude.{is_some, nat_le}
use Rattle.rs01_words.specs.Line.{given_places, texts}
use Rattle.rs01_words.proofs.Refusals.{enough}
use Rattle.rs01_words.proofs.refusal.is_used_up.Goals as goal

pub returns : goal.returns
returns c =
    let places : List ℕ = given_places c.args.verb (texts c.args.words.now) c.args.word.now c.args.place in
    c.is_some.ensures ∙ ap is_some c.given_place.ensures.value ∙ enough places _ c.rule_of-most.ensures.some ∙
    ap (λ rule. nat_le rule.most (length places)) c.rule_of-most.ensures.rule
