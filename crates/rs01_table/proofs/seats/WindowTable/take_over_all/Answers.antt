use Rattle.std.proofs.Common.{arith, sym, ap, ◌∙◌, ◌≡◌, List, length, ◌++◌, ◌∷◌, [], length-append, append_assoc, ◌+◌, subst}
use Rattle.rs01_table.specs.declared.views.Gave.{Gave}
use Rattle.rs01_table.specs.Seats.{gathered, HaveNone, id_of}
use Rattle.rs01_table.proofs.SeatLemmas.{none-last, gathered-snoc}
use Rattle.rs01_table.proofs.seats.WindowTable.take_over_all.Goals as goal

pub take_over-requires-clause-same : goal.take_over-requires-clause-same
take_over-requires-clause-same g c κs lives =
    let id = id_of c.args.self.now in
    (none-last id c.pop.new.self.items c.in-Some.worker (subst (HaveNone id) c.in-Some.ensures.items c.loop-worker.invariant.none)).1.0

pub take_over-requires-clause-free : goal.take_over-requires-clause-free
take_over-requires-clause-free g c κs lives =
    let id = id_of c.args.self.now in
    (none-last id c.pop.new.self.items c.in-Some.worker (subst (HaveNone id) c.in-Some.ensures.items c.loop-worker.invariant.none)).1.1

pub loop-worker-preserved : goal.loop-worker-preserved
loop-worker-preserved g c =
    let id = id_of c.args.self.now in
    let inv = c.loop-worker.invariant in
    let new = c.take_over.new.seat.me.0 in
    let old = c.loop-worker.seat.me.0 in
    let w = c.in-Some.worker in
    let rest = c.pop.new.self.items in
    let me = c.take_over.ensures.me in
    let long : length c.loop-worker.workers.items ≡ length rest + 1 = ap length c.in-Some.ensures.items ∙ length-append rest (w ∷ []) in
    let one : length w.seat.me.0.numbers ≡ 1 = w.works.1 in
    let numbers : length new.numbers ≡ length old.numbers + length w.seat.me.0.numbers = ap (λ m. length m.0.numbers) me ∙ length-append old.numbers w.seat.me.0.numbers in
    record {
      table = c.take_over.ensures.table ∙ inv.table;
      posts = ap (λ m. m.0.posts) me ∙ inv.posts;
      got = ap (λ m. m.0.got) me;
      posted = ap (λ m. m.0.posted) me ∙ inv.posted;
      count = ap (λ m. m.0.workers) me ∙ inv.count;
      numbers = omega (arith, inv.numbers);
      given = ap (λ m. m.0.given ++ gathered rest) me ∙ append_assoc old.given w.seat.me.0.given (gathered rest)
          ∙ ap (λ (l : List Gave). old.given ++ l) (sym (gathered-snoc rest w)) ∙ ap (λ l. old.given ++ gathered l) (sym c.in-Some.ensures.items) ∙ inv.given;
      none = (none-last id rest w (subst (HaveNone id) c.in-Some.ensures.items inv.none)).0;
    }
