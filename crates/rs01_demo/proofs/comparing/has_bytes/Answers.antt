use Rattle.std.proofs.Common.{arith, ◌≡◌, ◌*◌, ◌+◌, ◌∙◌, ap, subst, sym, length, take, length-take-le}
use Rattle.std.specs.Prelude.{IsTrue}
use Rattle.std.proofs.lemmas.Grind.{common_steps}
use Rattle.rs01_outside.proofs.States.{reads-then}
use Rattle.rs01_demo.specs.Generator.{value_at}
use Rattle.rs01_demo.proofs.GeneratorLemmas.{length-image}
use Rattle.rs01_demo.proofs.StepLemmas.{run_differs, run_same, same_all, start_comparing}
use Rattle.rs01_demo.proofs.comparing.has_bytes.Goals as goal

pub loop-first-init : goal.loop-first-init
loop-first-init g c = record { inside = omega arith; room = c.requires.made; room_too = c.requires.found; same = start_comparing c.args.number c.args.sectors c.args.name.now (g.D.Desk.state c.args.desk.now) }

pub returns-then-not-same-clause-same : goal.returns-then-not-same-clause-same
returns-then-not-same-clause-same g c = λ t long.
    let count = c.run_of-count.result in
    let first = c.loop-first.first in
    let had : length (take (2048 * count) c.loop-first.made) ≡ 2048 * count =
    length-take-le (2048 * count) c.loop-first.made (omega (arith, c.run_of-count.ensures, c.loop-first.invariant.room)) in
    sym (run_differs (g.D.Desk.state c.args.desk.now).files (g.D.Desk.state c.loop-first.desk).files c.args.name.now c.fill-value.new.into c.args.number c.args.sectors (2048 * first) _ _ c.in_ok-same.same
    (c.loop-first.invariant.same.reads.unchanged t) long (omega (arith, c.run_of-count.ensures, had, c.loop-first-test.true)) (ap (λ n. 2048 * n) c.from.ensures)
    (c.fill-value.ensures.bytes c.args.number (2048 * first) c.loop-first.invariant.same.value_is)
    (c.in_ok-same.ensures.same (subst IsTrue (sym c.loop-first.invariant.same.reads.tells) t))
    c.if-not-same.true)

pub loop-first-preserved : goal.loop-first-preserved
loop-first-preserved g c =
    let count = c.run_of-count.result in
    let first = c.loop-first.first in
    let had : length (take (2048 * count) c.loop-first.made) ≡ 2048 * count =
    length-take-le (2048 * count) c.loop-first.made (omega (arith, c.run_of-count.ensures, c.loop-first.invariant.room)) in
    record {
      inside = omega (arith, c.run_of-count.ensures);
      room = grind (arith, common_steps);
      room_too = grind (arith, common_steps);
      same = record {
        reads = reads-then _ _ _ _ c.loop-first.invariant.same.reads c.in_ok-same.ensures.reads;
        value_is = c.fill-value.ensures.last c.args.number (2048 * first) c.loop-first.invariant.same.value_is
            ∙ ap (value_at c.args.number) (let e : 2048 * first + length (take (2048 * count) c.loop-first.made) ≡ 2048 * (first + count) = omega (arith, had) in e);
        same = λ t long.
            let e : 2048 * first + length (take (2048 * count) c.loop-first.made) ≡ 2048 * (first + count) = omega (arith, had) in
            run_same (g.D.Desk.state c.args.desk.now).files (g.D.Desk.state c.loop-first.desk).files c.args.name.now c.fill-value.new.into c.args.number c.args.sectors (2048 * first) _ _ _ c.in_ok-same.same
            (c.loop-first.invariant.same.reads.unchanged t) long (omega (arith, c.run_of-count.ensures, had, c.loop-first-test.true)) (ap (λ n. 2048 * n) c.from.ensures)
            (c.fill-value.ensures.bytes c.args.number (2048 * first) c.loop-first.invariant.same.value_is)
            (c.in_ok-same.ensures.same (subst IsTrue (sym c.loop-first.invariant.same.reads.tells) t))
            c.if-not-same.false e (c.loop-first.invariant.same.same t long);
      };
    }

pub returns-clause-same : goal.returns-clause-same
returns-clause-same g c = λ t long.
    sym (same_all _ _ (2048 * c.loop-first.first) (2048 * c.args.sectors) (omega (arith, c.loop-first.invariant.inside, c.loop-first-test.false)) long
    (length-image c.args.number c.args.sectors) (c.loop-first.invariant.same.same t long))
