use Rattle.std.proofs.Common.{◌≡◌, ◌+◌, ◌<◌, arith, length, subst, sym, ℕ}
use Rattle.std.specs.Prelude.{IsTrue}
use Rattle.std.proofs.lemmas.Result.{err_from_is_err_and}
use Rattle.rs01_outside.proofs.States.{changes-then}
use Rattle.rs01_fix.specs.Steps.{IsBefore, IsEitherWay}
use Rattle.rs01_fix.proofs.FoundLemmas.{leads_err}
use Rattle.rs01_fix.proofs.WindowLemmas.{item_at, whole_blocks}
use Rattle.rs01_fix.proofs.window.put_window.Goals as goal

pub put_layer-requires-clause-blocks : goal.put_layer-requires-clause-blocks
put_layer-requires-clause-blocks g c =
    let low : c.loop-i.i < length c.args.results.now.inputs = omega arith in
    let input = item_at c.args.results.now.inputs c.loop-i.i low in
    whole_blocks input.0 c.out.result.now (c.requires.answers c.loop-i.i input.0 c.out.result.now input.1 c.out.ensures).value

pub loop-i-preserved : goal.loop-i-preserved
loop-i-preserved g c =
    let found = c.args.found.now in
    let low : c.loop-i.i < length c.args.results.now.inputs = omega arith in
    let input = item_at c.args.results.now.inputs c.loop-i.i low in
    let inv = c.loop-i.invariant in
    record {
      changes = changes-then c.args.name.now _ _ _ _ inv.changes c.in_ok-put_layer.ensures.changes;
      stands = λ was are t start.
          subst (λ (l : ℕ). IsBefore found was l 0 ((g.D.Desk.state c.put_layer.new.desk).files c.args.name.now)) (let e : c.args.first + c.loop-i.i + 1 ≡ c.args.first + (c.loop-i.i + 1) = omega arith in e)
          (c.in_ok-put_layer.ensures.put was (are c.loop-i.i input.0 c.out.result.now input.1 c.out.ensures).answer_is (subst IsTrue (sym inv.changes.tells) t) (inv.stands was are t start));
    }

pub returns-in_err-put_layer-clause-put : goal.returns-in_err-put_layer-clause-put
returns-in_err-put_layer-clause-put g c = λ was are.
    let found = c.args.found.now in
    let low : c.loop-i.i < length c.args.results.now.inputs = omega arith in
    let input = item_at c.args.results.now.inputs c.loop-i.i low in
    let inv = c.loop-i.invariant in
    let p = err_from_is_err_and c.from_residual.result c.from_residual.ensures.1 in
    leads_err (IsBefore found was c.args.first 0) (IsBefore found was (c.args.first + length c.args.results.now.inputs) 0) (IsEitherWay found was) c.args.name.now
    (g.D.Desk.state c.args.desk.now) (g.D.Desk.state c.put_layer.new.desk) _ p.0 p.1 (λ t start.
    c.in_err-put_layer.ensures.put was (are c.loop-i.i input.0 c.out.result.now input.1 c.out.ensures).answer_is (subst IsTrue (sym inv.changes.tells) t) (inv.stands was are t start))
