use Rattle.std.proofs.Common.{rules, ◌≡◌, ◌-◌, arith, subst, sym, ℕ}
use Rattle.std.specs.Prelude.{IsTrue}
use Rattle.std.proofs.lemmas.Result.{err_from_is_err_and}
use Rattle.rs01_outside.specs.Files.{bytes_of}
use Rattle.rs01_outside.proofs.States.{changes-then}
use Rattle.rs01_ecchead.specs.Erased.{known_of}
use Rattle.rs01_adaptive.specs.Putting.{HasPut, block_below}
use Rattle.rs01_adaptive.proofs.PuttingLemmas.{none_below, none_put}
use Rattle.rs01_adaptive.proofs.putting.put_layer.Goals as goal

pub loop-place-init : goal.loop-place-init
loop-place-init g c = record {
  changes = search rules;
  put = λ t long. none_put (known_of c.args.ecc.now) (block_below c.args.ecc.now c.args.layer c.args.answer.now 0) _ (none_below c.args.ecc.now c.args.layer c.args.answer.now);
}

pub loop-place-preserved : goal.loop-place-preserved
loop-place-preserved g c = record {
  changes = changes-then c.args.name.now _ _ _ _ c.loop-place.invariant.changes c.in_ok-put_place.ensures.changes;
  put = λ t long. c.in_ok-put_place.ensures.put _ (subst IsTrue (sym c.loop-place.invariant.changes.tells) t) long (c.loop-place.invariant.put t long);
}

pub returns-in_err-put_place : goal.returns-in_err-put_place
returns-in_err-put_place g c = record {
  changes = search rules;
  put = λ t long.
      let p = err_from_is_err_and c.from_residual.result c.from_residual.ensures.1 in
      rw p.1 (c.in_err-put_place.ensures.put _ (subst IsTrue (sym c.loop-place.invariant.changes.tells) t) long (c.loop-place.invariant.put t long));
}

pub returns : goal.returns
returns g c = record {
  changes = search rules;
  put = λ t long.
      let all : c.loop-place.place ≡ 255 - c.args.ecc.now.head.parity = omega arith in
      subst (λ (p : ℕ). HasPut (known_of c.args.ecc.now) (block_below c.args.ecc.now c.args.layer c.args.answer.now p) (bytes_of (g.D.Desk.state c.args.desk.now).files c.args.name.now) (bytes_of (g.D.Desk.state c.loop-place.desk).files c.args.name.now))
      all (c.loop-place.invariant.put t long);
}
