use Rattle.std.proofs.Common.{rules, ◌≡◌, ◌∙◌, ◌+◌, ℕ, List, length, refl, sym, subst}
use Rattle.std.specs.Prelude.{IfSome, Option, Some, None, Result, Ok, Err}
use Rattle.std.specs.Option.{option_copied}
use Rattle.rs01_layers.specs.Layout.{sector_at}
use Rattle.rs01_outside.specs.DeskState.{DeskState}
use Rattle.rs01_outside.specs.declared.Failed.{Failed}
use Rattle.rs01_repair.specs.Finding.{IsLayer, Sources, answer_to, said}
use Rattle.rs01_repair.specs.Restored.{restored_at}
use Rattle.rs01_repair.specs.declared.found.Found.{Found}
use Rattle.rs01_ecchead.proofs.Shapes.{is_shape}
use Rattle.rs01_fix.specs.Places.{PutsSector}
use Rattle.rs01_fix.specs.Repair.{mended_block}
use Rattle.rs01_fix.specs.Steps.{IsBefore, IsEitherWay, Leads}
use Rattle.rs01_fix.proofs.FoundLemmas.{found_long, have_blocks, is_image, past}
use Rattle.rs01_fix.proofs.StandLemmas.{failed_on_the_way, marked_done, marked_left, mended_here, padding_done, put_done, restored_is}
use Rattle.rs01_fix.proofs.places.put_place.Goals as goal

-- what putting the sector at a place leaves, by its restored block, if it has one, and by how it ended
put_here : (found : Found) (was : Sources found) (l p s : ℕ) (block : Option (List ℕ)) (name : List ℕ) (old new : DeskState) (result : Result Unit Failed)
    → IsLayer found l → Some s ≡ sector_at found.ecc.head.sectors found.ecc.head.parity l p → block ≡ mended_block (said found was) (answer_to found was) s
    → IfSome block (λ b. length b ≡ 2048) → PutsSector found s block name old new result
    → Leads (IsBefore found was l p) (IsBefore found was l (p + 1)) (IsEitherWay found was) name old new result
put_here found was l p s (Some b) name old new (Ok u) low e is there put = λ t stands.
    put_done (said found was) was.image (answer_to found was) l p s (old.files name) (new.files name) b (is_image found was) low e
    (restored_is (said found was) was.image (answer_to found was) s (Some b) b refl is) there stands (put.puts t).there
put_here found was l p s (Some b) name old new (Err why) low e is there put = λ t stands cut.
    failed_on_the_way (said found was) was.image (answer_to found was) l p s name old.files new.files b cut (is_image found was) (have_blocks found was) e
    (restored_is (said found was) was.image (answer_to found was) s (Some b) b refl is) stands (put.puts t)
put_here found was l p s None name old new (Ok u) low e is there put = λ t stands.
    marked_done (said found was) was.image (answer_to found was) l p s name old.files new.files (is_image found was) low e (sym is)
    (λ h. (put.puts t).marked (sym (past found was s) ∙ h)) (λ h. (put.puts t).kept (sym (past found was s) ∙ h)) stands
put_here found was l p s None name old new (Err why) low e is there put = λ t stands cut.
    marked_left (said found was) was.image (answer_to found was) l p s name old.files new.files cut (is_image found was) (have_blocks found was) e (sym is)
    (λ h. (put.puts t).marked (sym (past found was s) ∙ h)) (λ h. (put.puts t).kept (sym (past found was s) ∙ h)) stands

pub put_sector-requires-clause-block : goal.put_sector-requires-clause-block
put_sector-requires-clause-block g c =
    found_long (λ b. b.now) c.restored_block.result
    (restored_at c.args.answer.now c.args.place) c.restored_block.ensures (c.requires.blocks c.args.place)

pub returns-in-Some : goal.returns-in-Some
returns-in-Some g c =
    let found = c.args.found.now in
    let e = c.in-Some.ensures ∙ (λ i. sector_at (c.shape.ensures.sectors i) (c.shape.ensures.parity i) c.args.layer c.args.place) in
    record {
      changes = c.put_sector.ensures.changes;
      put = λ was same.
          let here : restored_at c.args.answer.now c.args.place ≡ mended_block (said found was) (answer_to found was) c.in-Some.sector =
          mended_here (said found was) (answer_to found was) c.args.layer c.args.place c.in-Some.sector c.args.answer.now (is_shape found.ecc) c.requires.place.layer e same in
          put_here found was c.args.layer c.args.place c.in-Some.sector (option_copied c.restored_block.result)
          c.args.name.now
          (g.D.Desk.state c.args.desk.now) (g.D.Desk.state c.put_sector.new.desk) c.put_sector.result c.requires.place.layer e
          (c.restored_block.ensures ∙ here) (subst (λ o. IfSome o (λ b. length b ≡ 2048)) (sym c.restored_block.ensures) (c.requires.blocks c.args.place)) c.put_sector.ensures;
    }

pub returns-in-None : goal.returns-in-None
returns-in-None g c =
    let found = c.args.found.now in
    record {
      changes = search rules;
      put = λ was same t stands.
          padding_done (said found was) was.image (answer_to found was) c.args.layer c.args.place _ (is_image found was)
          (c.in-None.ensures ∙ (λ i. sector_at (c.shape.ensures.sectors i) (c.shape.ensures.parity i) c.args.layer c.args.place)) stands;
    }
