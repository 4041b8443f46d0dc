use Rattle.std.proofs.Common.{rules, ◌≡◌, ◌+◌, ◌-◌, arith, subst, sym, ℕ}
use Rattle.std.specs.Prelude.{IsTrue}
use Rattle.std.proofs.lemmas.Result.{err_from_is_err_and}
use Rattle.rs01_outside.proofs.States.{changes-then}
use Rattle.rs01_repair.specs.Finding.{answer_to, said}
use Rattle.rs01_fix.specs.Steps.{IsBefore, IsEitherWay}
use Rattle.rs01_fix.proofs.FoundLemmas.{is_image, leads_err}
use Rattle.rs01_fix.proofs.StandLemmas.{layer_done}
use Rattle.rs01_fix.proofs.places.put_layer.Goals as goal

pub loop-place-preserved : goal.loop-place-preserved
loop-place-preserved g c = record {
  changes = changes-then c.args.name.now _ _ _ _ c.loop-place.invariant.changes c.in_ok-put_place.ensures.changes;
  stands = λ was same t start.
      c.in_ok-put_place.ensures.put was same (subst IsTrue (sym c.loop-place.invariant.changes.tells) t) (c.loop-place.invariant.stands was same t start);
}

pub returns-in_err-put_place : goal.returns-in_err-put_place
returns-in_err-put_place g c = record {
  changes = search rules;
  put = λ was same.
      let found = c.args.found.now in
      let p = err_from_is_err_and c.from_residual.result c.from_residual.ensures.1 in
      leads_err (IsBefore found was c.args.layer 0) (IsBefore found was (c.args.layer + 1) 0) (IsEitherWay found was) c.args.name.now
      (g.D.Desk.state c.args.desk.now) (g.D.Desk.state c.put_place.new.desk) _ p.0 p.1 (λ t start.
      c.in_err-put_place.ensures.put was same (subst IsTrue (sym c.loop-place.invariant.changes.tells) t) (c.loop-place.invariant.stands was same t start));
}

pub returns : goal.returns
returns g c = record {
  changes = search rules;
  put = λ was same t start.
      let found = c.args.found.now in
      let all : c.loop-place.place ≡ 255 - found.ecc.head.parity = omega arith in
      layer_done (said found was) was.image (answer_to found was) c.args.layer ((g.D.Desk.state c.loop-place.desk).files c.args.name.now) (is_image found was)
      (subst (λ (p : ℕ). IsBefore found was c.args.layer p ((g.D.Desk.state c.loop-place.desk).files c.args.name.now)) all
      (c.loop-place.invariant.stands was same t start));
}
