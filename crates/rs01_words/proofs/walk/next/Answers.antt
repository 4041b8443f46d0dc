use Rattle.std.proofs.Common.{◌≡◌, ◌+◌, ap, arith, sym, ◌∙◌, length}
use Rattle.rs01_words.specs.Line.{is_plain, plain_places, texts}
use Rattle.rs01_words.proofs.PlaceLists.{count-below, count-keep, count-push}
use Rattle.rs01_words.proofs.Steps.{known_next}
use Rattle.rs01_words.proofs.walk.next.Goals as goal

pub overflow_add-result : goal.overflow_add-result
overflow_add-result c =
    let texts = texts c.args.words.now in
    let p : c.args.before.plain ≡ length (plain_places c.args.verb texts c.args.place) = ap (λ b. b.plain) c.requires.known.1 in
    omega (arith, count-below (is_plain c.args.verb texts) c.args.place)

pub returns-then-is_plain : goal.returns-then-is_plain
returns-then-is_plain c =
    let p = ap (λ b. b.plain) c.requires.known.1 in
    known_next _ _ _ _ _ c.is_followed.ensures
    (ap (λ n. n + 1) p ∙ sym (count-push (is_plain c.args.verb _) c.args.place c.requires.known.0 (sym c.is_plain.ensures ∙ c.if-is_plain.true)))

pub returns-else-is_plain : goal.returns-else-is_plain
returns-else-is_plain c =
    let p = ap (λ b. b.plain) c.requires.known.1 in
    known_next _ _ _ _ _ c.is_followed.ensures
    (p ∙ sym (count-keep (is_plain c.args.verb _) c.args.place c.requires.known.0 (sym c.is_plain.ensures ∙ c.if-is_plain.false)))
