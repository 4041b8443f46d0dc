use Rattle.std.proofs.Common.{◌≡◌, ap, sym, ◌∙◌, arith, ℕ, ◌+◌, length, map, string_bytes, ◌++◌, ◌∷◌, [], false, subst, List}
use Rattle.std.specs.Prelude.{◌==◌}
use Rattle.std.proofs.lemmas.List.{length-map, map-append}
use Rattle.std.proofs.lemmas.Bool.Decides.{nat_tests}
use Rattle.rs01_words.specs.declared.table.OptionWord.TheVariants.{Drive}
use Rattle.rs01_words.specs.declared.refusal.Pass.TheVariants.{Words}
use Rattle.rs01_words.specs.Grammar.{row_of}
use Rattle.rs01_words.specs.Line.{given_places, is_given, texts}
use Rattle.rs01_words.specs.Refusal.{has_fault}
use Rattle.rs01_words.specs.Command.{AreWithin, drive_places}
use Rattle.rs01_words.proofs.DriveFaults.{find_none_at, no_fault, drive_at, AreWithin-nil, AreWithin-push}
use Rattle.rs01_words.proofs.PlaceLists.{where-keep, where-one, where-push}
use Rattle.rs01_words.proofs.Steps.{known_first}
use Rattle.rs01_words.proofs.read.drives.Goals as goal
use Rattle.rs01_words.proofs.read.drives.Goals.{then-is_given, else-is_given}

pub loop-place-init : goal.loop-place-init
loop-place-init c = record {
  known = known_first _ _ _ c.start-before.ensures;
  found = c.new-drives.ensures ∙ sym (ap (map (λ i. i + 1)) (where-one _));
  within = AreWithin-nil _ _ c.new-drives.ensures;
}

pub push-requires : goal.push-requires
push-requires c =
    let texts = texts c.args.words.now in
    let i = c.loop-place.place in
    let long = length-map c.args.words.now string_bytes in
    let is = ap (λ word. is_given c.args.verb texts word i) c.text_of-drive.ensures in
    let clear = find_none_at (has_fault Words c.args.verb texts) i (length texts) c.loop-place.invariant.known.0 (omega arith) c.requires.clear.faultless in
    let few = drive_at c.args.verb texts i (no_fault _ _ _ clear) (sym (c.is_given.ensures ∙ is) ∙ c.if-is_given.true) in
    omega (arith, few.0, ap length c.loop-place.invariant.found, length-map (given_places c.args.verb texts (row_of Drive).text i) (λ i. i + 1))

pub loop-place-preserved : goal.loop-place-preserved
loop-place-preserved c =
    let texts = texts c.args.words.now in
    let i = c.loop-place.place in
    let long = length-map c.args.words.now string_bytes in
    let pos = c.loop-place.invariant.known.0 in
    let is = ap (λ word. is_given c.args.verb texts word i) c.text_of-drive.ensures in
    let P : List ℕ → Type 0 = AreWithin (length c.args.words.now) in
    record {
      known = c.next-before.ensures;
      found = elim c.if-is_given.branch [
        | then-is_given w ↦
            w.drives-is ∙ w.push.ensures ∙ ap (λ xs. xs ++ (i + 1) ∷ []) c.loop-place.invariant.found ∙
            sym (ap (map (λ i. i + 1)) (where-push _ i pos (sym (c.is_given.ensures ∙ is) ∙ w.if-is_given.true)) ∙ map-append (λ i. i + 1) _ (i ∷ []))
        | else-is_given w ↦
            w.drives-is ∙ c.loop-place.invariant.found ∙
            sym (ap (map (λ i. i + 1)) (where-keep _ i pos (sym (c.is_given.ensures ∙ is) ∙ w.if-is_given.false)))
      ];
      within = elim c.if-is_given.branch [
        | then-is_given w ↦
            let clear = find_none_at (has_fault Words c.args.verb texts) i (length texts) pos (omega arith) c.requires.clear.faultless in
            let few = drive_at c.args.verb texts i (no_fault _ _ _ clear) (sym (c.is_given.ensures ∙ is) ∙ w.if-is_given.true) in
            let before_end : (i + 1 == length texts) ≡ false = few.1 in
            subst P (sym (w.drives-is ∙ w.push.ensures)) (AreWithin-push _ _ _ c.loop-place.invariant.within (grind (arith, nat_tests)))
        | else-is_given w ↦ subst P (sym w.drives-is) c.loop-place.invariant.within
      ];
    }

pub returns-clause-value : goal.returns-clause-value
unfolding drive_places
returns-clause-value c =
    let long = length-map c.args.words.now string_bytes in
    let e : c.loop-place.place ≡ length (texts c.args.words.now) = omega (arith, c.loop-place.auto.place-end) in
    c.loop-place.invariant.found ∙ ap (λ n. map (λ i. i + 1) (given_places c.args.verb (texts c.args.words.now) (row_of Drive).text n)) e
