use Rattle.std.proofs.Common.{◌≡◌, refl, ap, sym, ◌∙◌, ◌&&◌}
use Rattle.std.specs.Prelude.{is_some}
use Rattle.rs01_words.specs.Line.{texts, value_kind, word_at}
use Rattle.rs01_words.proofs.Steps.{followed}
use Rattle.rs01_words.proofs.walk.is_followed.Goals as goal

pub returns-then-not-before : goal.returns-then-not-before
returns-then-not-before c =
    let takes : c.is_some.result ≡ is_some (value_kind c.args.verb (word_at (texts c.args.words.now) c.args.place)) =
    c.is_some.ensures ∙ ap is_some (c.value_kind.ensures ∙ ap (value_kind c.args.verb) c.word_at.ensures) in
    ap (λ b. b && c.is_some.result) (sym c.if-not-before.true) ∙ followed _ _ _ _ _ c.requires.known takes

pub returns-else-not-before : goal.returns-else-not-before
returns-else-not-before c =
    let takes = is_some (value_kind c.args.verb (word_at (texts c.args.words.now) c.args.place)) in
    c.if-not-before.false ∙ ap (λ b. b && takes) (sym c.if-not-before.false) ∙ followed _ _ _ _ takes c.requires.known refl
