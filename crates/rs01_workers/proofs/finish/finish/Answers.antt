use Rattle.std.proofs.Common.{rules, ◌≡◌, ◌++◌, ◌∷◌, [], List, length, map, append_assoc, ap, sym, ◌∙◌, arith}
use Rattle.std.proofs.lemmas.List.{map-append}
use Rattle.std.proofs.lemmas.List.Elements.{All-same, All-rest}
use Rattle.std.specs.Vec.Iter.{into_iter_items}
use Rattle.rs01_layers.specs.declared.input.LayerInput.{LayerInput}
use Rattle.rs01_layers.specs.declared.task.LayerOut.{LayerOut}
use Rattle.rs01_table.specs.declared.given.Given.{Given}
use Rattle.rs01_table.specs.Views.{IsRight, source}
use Rattle.rs01_workers.proofs.finish.finish.Goals as goal

pub loop-one-init : goal.loop-one-init
loop-one-init g c =
    let value = g.T.LayerTask.value in
    let gives = c.into_iter-one-iterator.ensures.into_iter_gives in
    let same : into_iter_items c.into_iter-one-iterator.result ≡ c.args.given.items = gives.0 in
    let long = ap length same in
    let count = gives.1 in
    record {
      rest = search rules;
      inputs_are = ap (λ (l : List LayerInput). l ++ map source (into_iter_items c.into_iter-one-iterator.result)) c.new-inputs.ensures.items;
      fit = All-same g.T.LayerTask.fit _ _ (ap (map source) same) c.requires.fit;
      right = All-same (IsRight value) _ _ same c.requires.right;
      values = c.new-outs.ensures.items ∙ sym (ap (map value) c.new-inputs.ensures.items);
    }

pub loop-one-preserved : goal.loop-one-preserved
loop-one-preserved g c =
    let value = g.T.LayerTask.value in
    let at = c.loop-one in
    let inv = at.invariant in
    let old : List LayerInput = at.inputs.items in
    let x = c.in-Some.one in
    let input = c.in_ok-input.input in
    let out = c.in_ok-input.out in
    let rest : List Given = into_iter_items c.next.new.self in
    let steps : into_iter_items at.one-iterator ≡ x ∷ rest = c.in-Some.ensures.steps.0 in
    let is : (input ≡ source x) × (out ≡ value input) = c.in_ok-input.ensures in
    let items : c.push.new.self.items ≡ old ++ input ∷ [] = c.in_ok-push.ensures.items in
    let outs : c.push-in-loop-one.new.self.items ≡ at.outs.items ++ out ∷ [] = c.in_ok-push-2.ensures.items in
    record {
      rest = (let was = inv.rest in let gone = c.in-Some.ensures.steps.1 in let short = ap length steps in omega arith);
      inputs_are = rw items (append_assoc old (input ∷ []) (map source rest) ∙ ap (λ (i : LayerInput). old ++ i ∷ map source rest) is.0 ∙ ap (λ (l : List Given). old ++ map source l) (sym steps) ∙ inv.inputs_are);
      fit = All-rest g.T.LayerTask.fit (source x) (map source rest) _ (ap (map source) steps) inv.fit;
      right = All-rest (IsRight value) x rest _ steps inv.right;
      values = outs ∙ ap (λ (l : List LayerOut). l ++ out ∷ []) inv.values ∙ ap (λ (o : LayerOut). map value old ++ o ∷ []) is.1 ∙ sym (map-append value old (input ∷ [])) ∙ sym (ap (map value) items);
    }
