use Rattle.std.proofs.Common.{◌∙◌, ◌+◌, ℕ, arith, length, refl, subst, false, true}
use Rattle.rs01_repair.specs.Finding.{answer_to, said}
use Rattle.rs01_repair.proofs.GivenLemmas.{ready_new}
use Rattle.rs01_fix.specs.Steps.{HasRoom, sources}
use Rattle.rs01_fix.proofs.CourseLemmas.{goes_changed, settled, unsettled, window_answers, window_ends, window_were, window_within}
use Rattle.rs01_fix.proofs.FoundLemmas.{have_blocks, is_image}
use Rattle.rs01_fix.proofs.StandLemmas.{stands_on_the_way}
use Rattle.rs01_fix.proofs.repair.settle_window.Goals as goal

pub put_window-requires-clause-layers : goal.put_window-requires-clause-layers
put_window-requires-clause-layers g c = window_within c.args.found.now c.args.image.now c.args.ecc.now (g.D.Desk.state c.args.desk.now) c.args.course.now c.args.results.now c.requires

pub put_window-requires-clause-answers : goal.put_window-requires-clause-answers
put_window-requires-clause-answers g c = window_answers c.args.found.now c.args.image.now c.args.ecc.now (g.D.Desk.state c.args.desk.now) c.args.course.now c.args.results.now c.requires

pub keep_window-requires-clause-layers : goal.keep_window-requires-clause-layers
keep_window-requires-clause-layers g c = window_within c.args.found.now c.args.image.now c.args.ecc.now (g.D.Desk.state c.args.desk.now) c.args.course.now c.args.results.now c.requires

pub keep_window-requires-clause-answers : goal.keep_window-requires-clause-answers
keep_window-requires-clause-answers g c = window_answers c.args.found.now c.args.image.now c.args.ecc.now (g.D.Desk.state c.args.desk.now) c.args.course.now c.args.results.now c.requires

pub returns-in-Err-clause-goes : goal.returns-in-Err-clause-goes
returns-in-Err-clause-goes g c =
    let found = c.args.found.now in
    let old = g.D.Desk.state c.args.desk.now in
    let course = c.args.course.now in
    goes_changed found c.args.image.now c.args.ecc.now old (g.D.Desk.state c.put_window.new.desk) course _ true c.requires.going.differ c.in-Err.ensures.changes refl refl (omega arith) (omega arith)
    (λ e y size has up.
    let was = sources found e y size in
    let before = up.stands c.requires.going.whole in
    unsettled found was c.args.image.now (g.D.Desk.state c.put_window.new.desk) _ refl
    (c.in-Err.ensures.put was (window_were found c.args.image.now c.args.ecc.now old course c.args.results.now e y size c.requires has before) has.tells before))

pub returns-in_err-keep_window-in-Ok-clause-goes : goal.returns-in_err-keep_window-in-Ok-clause-goes
returns-in_err-keep_window-in-Ok-clause-goes g c =
    let found = c.args.found.now in
    let old = g.D.Desk.state c.args.desk.now in
    let new = g.D.Desk.state c.put_window.new.desk in
    let course = c.args.course.now in
    goes_changed found c.args.image.now c.args.ecc.now old new course _ false c.requires.going.differ c.in-Ok.ensures.changes refl refl (omega arith) (omega arith)
    (λ e y size has up.
    let was = sources found e y size in
    let before = up.stands c.requires.going.whole in
    let there = c.in-Ok.ensures.put was (window_were found c.args.image.now c.args.ecc.now old course c.args.results.now e y size c.requires has before) has.tells before in
    unsettled found was c.args.image.now new _ refl
    (λ cut. stands_on_the_way (said found was) y (answer_to found was) (course.start + length c.args.results.now.inputs) 0 (new.files c.args.image.now) cut (is_image found was) (have_blocks found was) there))

pub returns-in_ok-keep_window-in-Ok-clause-goes : goal.returns-in_ok-keep_window-in-Ok-clause-goes
returns-in_ok-keep_window-in-Ok-clause-goes g c =
    let found = c.args.found.now in
    let old = g.D.Desk.state c.args.desk.now in
    let new = g.D.Desk.state c.put_window.new.desk in
    let course = c.args.course.now in
    goes_changed found c.args.image.now c.args.ecc.now old new course _ false c.requires.going.differ c.in-Ok.ensures.changes refl refl (omega (arith, c.requires.going.order)) (omega (arith, c.new.ensures.next))
    (λ e y size has up.
    let was = sources found e y size in
    let before = up.stands c.requires.going.whole in
    let were = window_were found c.args.image.now c.args.ecc.now old course c.args.results.now e y size c.requires has before in
    settled found c.args.image.now c.args.ecc.now old course _ c.args.results.now c.requires refl e y size has (new.files c.args.image.now)
    (c.in-Ok.ensures.put was were has.tells before) (c.in_ok-keep_window-in-Ok.ensures.kept was were (up.kept c.requires.going.whole)) new refl)

pub returns-in_ok-keep_window-in-Ok-clause-going : goal.returns-in_ok-keep_window-in-Ok-clause-going
returns-in_ok-keep_window-in-Ok-clause-going g c =
    let found = c.args.found.now in
    let old = g.D.Desk.state c.args.desk.now in
    let new = g.D.Desk.state c.put_window.new.desk in
    let course = c.args.course.now in
    let ends = window_ends found c.args.image.now c.args.ecc.now old course c.args.results.now c.requires in
    let within = window_within found c.args.image.now c.args.ecc.now old course c.args.results.now c.requires in
    record {
      differ = c.requires.going.differ;
      whole = refl;
      none = record {
        reads = c.in-Ok.ensures.changes.reads ∙ c.requires.going.none.reads;
        writes = c.in-Ok.ensures.changes.kept refl ∙ c.requires.going.none.writes;
      };
      order = omega (arith, c.new.ensures.next);
      room = subst (λ (l : ℕ). HasRoom found l c.keep_window.new.repairs) ends c.in_ok-keep_window-in-Ok.ensures.room;
      ready = ready_new found c.args.image.now c.args.ecc.now new c.new.result course.batch.next c.new.ensures.next c.new.ensures.first c.new.ensures.parts c.new.ensures.parity
          (omega (arith, ends, within));
    }
