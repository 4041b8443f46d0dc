use Rattle.std.proofs.Common.{◌≡◌, ◌∙◌, ◌<◌, ℕ, ap, arith, cond}
use Rattle.std.specs.Prelude.{Some, ◌&&◌, ◌==◌}
use Rattle.rs01_layers.specs.Layout.{layer_of, layers_of}
use Rattle.rs01_layers.proofs.PlaceLemmas.{some_layer}
use Rattle.rs01_sums.specs.Checksums.{Checksums}
use Rattle.rs01_ecchead.specs.Condition.{judged}
use Rattle.rs01_ecchead.specs.declared.head.Head.{Head}
use Rattle.rs01_ecchead.specs.Erased.{known_of}
use Rattle.rs01_ecchead.specs.Opened.{opened_as}
use Rattle.rs01_ecchead.proofs.Shapes.{is_shape_of_head}
use Rattle.rs01_verify.specs.Report.{mark_of}
use Rattle.rs01_verify.specs.Tallied.{counts_after}
use Rattle.rs01_verify.proofs.SurveyLemmas.{seen, surveyed_more}
use Rattle.rs01_verify.proofs.survey.SurveyorVisitor.sector.Goals as goal

-- a sector's layer is one of the layers
within : (head : Head) (s : ℕ) → layer_of head.sectors head.parity s < layers_of head.sectors head.parity
within head s =
    let some = some_layer head.sectors head.parity (is_shape_of_head head) in
    omega arith

pub returns-clause-keeps : goal.returns-clause-keeps
returns-clause-keeps c = λ image shown before y same file.
    let ecc = c.args.self.now.ecc in
    let head = ecc.head in
    let s = c.args.sector in
    let found = c.judge-found.result in
    let layer : layer_of c.shape.result.sectors c.shape.result.parity s ≡ layer_of head.sectors head.parity s =
    λ i. layer_of (c.shape.ensures.sectors i) (c.shape.ensures.parity i) s in
    surveyed_more (opened_as ecc file) y s c.args.kept.now _ found c.args.there c.args.len c.args.block.now
    c.requires.below head.last_fits (within head s) (seen (known_of ecc) y image s c.args.there c.args.len c.args.block.now same shown)
    (c.judge-found.ensures ∙ ap (λ (sums : Checksums). judged c.args.there (Some sums.list) s c.args.block.now) c.sums.ensures.sums)
    c.in_ok-add.ensures.missing c.in_ok-add.ensures.altered
    (c.in_ok-add.ensures.counts ∙ ap (λ l. counts_after found l c.args.kept.now.tally.counts.items) layer)
    c.add_own.ensures
    (c.fingerprint_after-kept.ensures
    ∙ ap (λ (h : Head). cond (c.args.there && (s == h.mark_sector)) (mark_of c.args.block.now h.fingerprint) c.args.kept.now.fingerprint) c.head.ensures)
    (before y same file)
