use Rattle.std.proofs.Common.{◌≡◌, ◌+◌, ◌-◌, ◌*◌, ◌∙◌, ap, sym, false}
use Rattle.std.specs.Prelude.{Some, ◌&&◌, nat_lt}
use Rattle.std.proofs.lemmas.Result.{err_from_is_err_and}
use Rattle.rs01_ecchead.specs.Erased.{image_len, known_of}
use Rattle.rs01_repair.specs.Finding.{answer_to, said}
use Rattle.rs01_fix.specs.Steps.{IsRepaired, IsUnderway}
use Rattle.rs01_fix.proofs.FoundLemmas.{have_blocks, is_image, leads_err}
use Rattle.rs01_fix.proofs.CutLemmas.{cut_done, cut_left, not_cut}
use Rattle.rs01_fix.proofs.fixing.cut_surplus.Goals as goal

pub returns-in_err-cut-clause-cut : goal.returns-in_err-cut-clause-cut
returns-in_err-cut-clause-cut g c = λ was.
    let found = c.args.found.now in
    let len : c.image_len.result ≡ image_len (known_of found.ecc) =
    c.image_len.ensures.value ∙ (λ i. 2048 * (c.extent.ensures.sectors i - 1) + c.extent.ensures.last i) in
    let p = err_from_is_err_and c.from_residual.result c.from_residual.ensures.1 in
    leads_err (IsRepaired found was false) (IsRepaired found was c.args.cut) (IsUnderway found was c.args.cut) c.args.name.now
    (g.D.Desk.state c.args.desk.now) (g.D.Desk.state c.cut.new.self) _ p.0 p.1 (λ t start.
    cut_left (said found was) was.image (answer_to found was) c.args.cut _ _ c.args.name.now c.image_len.result (is_image found was) (have_blocks found was) len
    (ap (λ n. c.args.cut && nat_lt (image_len (known_of found.ecc)) n) was.size ∙ sym c.is_cut.ensures ∙ c.if-is_cut.true) start (c.in_err-cut.ensures.cut t))

pub returns-in_ok-cut-clause-cut : goal.returns-in_ok-cut-clause-cut
returns-in_ok-cut-clause-cut g c = λ was t start.
    let found = c.args.found.now in
    let len : c.image_len.result ≡ image_len (known_of found.ecc) =
    c.image_len.ensures.value ∙ (λ i. 2048 * (c.extent.ensures.sectors i - 1) + c.extent.ensures.last i) in
    cut_done (said found was) was.image (answer_to found was) c.args.cut _ _ c.args.name.now c.image_len.result (is_image found was) (have_blocks found was) len
    (ap (λ n. c.args.cut && nat_lt (image_len (known_of found.ecc)) n) was.size ∙ sym c.is_cut.ensures ∙ c.if-is_cut.true) start (c.in_ok-cut.ensures.cut t)

pub returns-else-is_cut-clause-cut : goal.returns-else-is_cut-clause-cut
returns-else-is_cut-clause-cut g c = λ was t start.
    let found = c.args.found.now in
    start ∙ ap Some (not_cut (said found was) was.image (answer_to found was) c.args.cut (ap (λ n. c.args.cut && nat_lt (image_len (known_of found.ecc)) n) was.size ∙ sym c.is_cut.ensures ∙ c.if-is_cut.false))
