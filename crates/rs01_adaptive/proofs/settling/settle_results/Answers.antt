use Rattle.std.proofs.Common.{rules, ◌≡◌, ◌≤◌, ◌∙◌, arith, length, sym, ap, subst, None, Some}
use Rattle.std.specs.Prelude.{Option}
use Rattle.std.specs.Borrow.{Bor}
use Rattle.std.specs.Option.{option_map}
use Rattle.std.proofs.lemmas.Result.{err_from_is_err_and}
use Rattle.rs01_outside.proofs.States.{changes-then}
use Rattle.rs01_ecchead.specs.declared.opened.Ecc.{Ecc}
use Rattle.rs01_adaptive.specs.Settling.{CanTake}
use Rattle.rs01_adaptive.specs.Sights.{sight_of}
use Rattle.rs01_adaptive.proofs.WindowLemmas.{along_all, along_first, along_next, along_none, along_stop, layers_kept}
use Rattle.rs01_adaptive.proofs.settling.settle_results.Goals as goal

pub returns-in_default : goal.returns-in_default
returns-in_default g c =
    let none : c.args.setup.now.medium.now.ecc ≡ None = sym c.ecc.ensures ∙ ap (option_map (λ (e : Bor Ecc). e.now)) c.in_default.is in
    record {
      along = λ course rack window worked. along_none c.args.setup.now course rack (g.D.Desk.state c.args.desk.now) c.args.noted.now window c.args.results.now none worked;
      changes = search rules;
      halted = search rules;
    }

pub loop-i-init : goal.loop-i-init
loop-i-init g c =
    let opened : c.args.setup.now.medium.now.ecc ≡ Some c.in-Some.ecc.now = sym c.ecc.ensures ∙ ap (option_map (λ (e : Bor Ecc). e.now)) c.in-Some.is in
    record {
      along = λ course rack window worked. along_first (sight_of c.args.setup.now course rack (g.D.Desk.state c.args.desk.now) c.args.noted.now window);
      changes = search rules;
      layers = (subst (λ (o : Option Ecc). CanTake o c.args.noted.now c.args.results.now) opened c.requires).layers;
    }

pub settle_layer-requires-clause-all : goal.settle_layer-requires-clause-all
settle_layer-requires-clause-all g c = c.loop-i.invariant.layers

pub returns-in_err-settle_layer : goal.returns-in_err-settle_layer
returns-in_err-settle_layer g c =
    let opened : c.args.setup.now.medium.now.ecc ≡ Some c.in-Some.ecc.now = sym c.ecc.ensures ∙ ap (option_map (λ (e : Bor Ecc). e.now)) c.in-Some.is in
    let p = err_from_is_err_and c.from_residual.result c.from_residual.ensures.1 in
    rw p.1 (record {
      along = λ course rack window worked.
          along_stop c.args.setup.now course rack _ _ _ _ _ _ window c.loop-i.i c.args.results.now c.in-Some.ecc.now c.input.result.now c.out.result.now _ opened worked
          (c.loop-i.invariant.along course rack window worked) c.input.ensures c.out.ensures c.in_err-settle_layer.ensures;
      changes = changes-then c.args.setup.now.image.now _ _ _ _ c.loop-i.invariant.changes c.in_err-settle_layer.ensures.changes;
      halted = p.2 ∙ c.in_err-settle_layer.ensures.noted_is.1;
    })

pub loop-i-preserved : goal.loop-i-preserved
loop-i-preserved g c =
    let opened : c.args.setup.now.medium.now.ecc ≡ Some c.in-Some.ecc.now = sym c.ecc.ensures ∙ ap (option_map (λ (e : Bor Ecc). e.now)) c.in-Some.is in
    record {
      along = λ course rack window worked.
          along_next c.args.setup.now course rack _ _ _ _ _ _ window c.loop-i.i c.args.results.now c.in-Some.ecc.now c.input.result.now c.out.result.now _ opened worked
          (c.loop-i.invariant.along course rack window worked) c.input.ensures c.out.ensures c.in_ok-settle_layer.ensures;
      changes = changes-then c.args.setup.now.image.now _ _ _ _ c.loop-i.invariant.changes c.in_ok-settle_layer.ensures.changes;
      layers = layers_kept _ c.input.result.now.layer c.in-Some.ecc.now c.out.result.now _ _ c.loop-i.invariant.layers c.in_ok-settle_layer.ensures.noted_is;
    }

pub returns : goal.returns
returns g c =
    let all : length c.args.results.now.inputs ≤ c.loop-i.i = omega (arith, c.loop-i-test.false, c.len-i-end.ensures.inputs) in
    record {
      along = λ course rack window worked. along_all c.args.setup.now course rack _ _ _ _ window c.loop-i.i c.args.results.now worked all (c.loop-i.invariant.along course rack window worked);
      changes = c.loop-i.invariant.changes;
      halted = search rules;
    }
