use Rattle.std.proofs.Common.{◌≡◌, ◌+◌, ◌-◌, ◌∙◌, sym, subst, arith, false}
use Rattle.std.specs.Prelude.{IsTrue}
use Rattle.std.proofs.lemmas.Grind.{common_steps}
use Rattle.rs01_layers.specs.Extents.{IsExtentOf}
use Rattle.rs01_layers.specs.Layer.{block_at}
use Rattle.rs01_outside.specs.Files.{Files, bytes_of}
use Rattle.rs01_outside.proofs.States.{reads-then}
use Rattle.rs01_create.specs.Windows.{AllGrow}
use Rattle.rs01_create.proofs.Pieces.{blocks_more, layers_held, long_more}
use Rattle.rs01_create.proofs.window.read_window.Goals as goal

pub loop-place-preserved : goal.loop-place-preserved
loop-place-preserved g c =
    let inv = c.loop-place.invariant in
    let name = c.args.image.now in
    let r = c.args.plan.now.shape.parity in
    let old = c.loop-place.window.items in
    let new = c.add_place.new.window.items in
    let place = c.loop-place.place in
    record {
      reads = reads-then (g.D.Desk.state c.args.desk.now) _ _ false inv.reads c.in_ok-add_place.ensures.reads;
      count_is = c.in_ok-add_place.ensures.grown.count ∙ inv.count_is;
      room = grind (arith, common_steps);
      long = long_more place old new c.in_ok-add_place.ensures.grown inv.long;
      read = λ t of.
          let grown = subst (λ (f : Files). IsExtentOf (bytes_of f name) c.args.plan.now.extent → AllGrow (λ j. block_at (bytes_of f name) r (c.args.first + j) place) old new)
          (inv.reads.unchanged t) (c.in_ok-add_place.ensures.read (subst IsTrue (sym inv.reads.tells) t)) of in
          blocks_more (bytes_of (g.D.Desk.state c.args.desk.now).files name) r c.args.first c.args.count place old new inv.count_is grown (inv.read t of);
    }

pub returns-clause-read : goal.returns-clause-read
returns-clause-read g c = λ t of.
    let all : c.loop-place.place ≡ 255 - c.args.plan.now.shape.parity = omega (arith, c.data-place-end.ensures.value) in
    layers_held (bytes_of (g.D.Desk.state c.args.desk.now).files c.args.image.now) c.args.plan.now.shape.parity (c.args.first + c.args.count) c.loop-place.place _ all
    (c.loop-place.invariant.read t of)
