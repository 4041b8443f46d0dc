use Rattle.std.proofs.Common.{◌∙◌, ◌++◌, refl, sym}
use Rattle.std.proofs.lemmas.Result.{on_ok_weaker}
use Rattle.rs01_layers.specs.Layout.{sector_at}
use Rattle.rs01_repair.specs.Finding.{fields_in}
use Rattle.rs01_repair.specs.Parts.{AddsPlace, chunk}
use Rattle.rs01_repair.specs.declared.part.Part.{Part}
use Rattle.rs01_repair.proofs.InputLemmas.{block_at-padding, block_at-sector}
use Rattle.rs01_repair.proofs.part.push_place.Goals as goal

pub returns-in-Some : goal.returns-in-Some
returns-in-Some c =
    let found = c.args.found.now in
    let f = fields_in found in
    let bytes = chunk c.args.run.now c.args.k in
    let e = c.in-Some.ensures ∙ (λ i. sector_at (c.shape.ensures.sectors i) (c.shape.ensures.parity i) c.args.layer c.args.place) in
    let now : Part = record c.args.part.now { blocks = c.push_block.new.blocks } in
    on_ok_weaker {Q = AddsPlace found c.args.layer c.args.place bytes c.args.part.now now} _ (λ put. record {
      blocks = put ∙ (λ i. c.args.part.now.blocks.items ++ (c.block_of.ensures ∙ sym (block_at-sector f (λ _. bytes) c.args.layer c.args.place c.in-Some._sector e)) i);
      erased = refl;
    }) c.push_block.ensures

pub returns-in-None : goal.returns-in-None
returns-in-None c =
    let found = c.args.found.now in
    let f = fields_in found in
    let bytes = chunk c.args.run.now c.args.k in
    let e = c.in-None.ensures ∙ (λ i. sector_at (c.shape.ensures.sectors i) (c.shape.ensures.parity i) c.args.layer c.args.place) in
    let now : Part = record c.args.part.now { blocks = c.push_padded.new.out } in
    on_ok_weaker {Q = AddsPlace found c.args.layer c.args.place bytes c.args.part.now now} _ (λ put. record {
      blocks = put ∙ (λ i. c.args.part.now.blocks.items ++ sym (block_at-padding f (λ _. bytes) c.args.layer c.args.place e) i);
      erased = refl;
    }) c.push_padded.ensures
