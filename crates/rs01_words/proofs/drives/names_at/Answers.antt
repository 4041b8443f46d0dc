use Rattle.std.proofs.Common.{◌≡◌, map, take, string_bytes, sym, ap, ◌∙◌, ◌++◌, ◌∷◌, [], arith}
use Rattle.std.proofs.lemmas.List.{map-append}
use Rattle.rs01_words.specs.Line.{word_at}
use Rattle.rs01_words.proofs.Names.{names-more, not_past}
use Rattle.rs01_words.proofs.drives.names_at.Goals as goal
use Rattle.rs01_words.proofs.drives.names_at.Goals.{in-Some+in_ok-from_str+in_ok-push, in_default}

pub loop-i-preserved : goal.loop-i-preserved
loop-i-preserved c =
    let texts = map string_bytes c.args.words.now in
    let so_far = map (word_at texts) (take c.loop-i.i c.args.places.now) in
    elim c.match-get.branch [
      | in-Some+in_ok-from_str+in_ok-push w ↦
          let name = w.in_ok-from_str.field-0 in
          let text : string_bytes name ≡ word_at texts w.in-Some.place = w.in_ok-from_str.ensures.ok ∙ w.word_at.ensures in
          ap (λ v. map string_bytes v.items) w.names-is ∙ ap (map string_bytes) w.in_ok-push.ensures.items ∙
          map-append string_bytes c.loop-i.names.items (name ∷ []) ∙ ap (λ xs. xs ++ string_bytes name ∷ []) c.loop-i.invariant ∙
          ap (λ t. so_far ++ t ∷ []) text ∙
          sym (names-more (word_at texts) c.args.places.now c.loop-i.i w.in-Some.place (sym c.get.ensures ∙ w.in-Some.is))
      | in_default w ↦
          absurd (not_past c.args.places.now c.loop-i.i (omega (arith, c.loop-i-test.true, c.len-i-end.ensures.value)) (sym c.get.ensures ∙ w.in_default.is))
    ]
