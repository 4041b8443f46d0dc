use Rattle.std.proofs.Common.{◌≡◌, ◌∙◌, ◌+◌, ◌-◌, ◌*◌, ap, arith, take, min}
use Rattle.rs01_layers.specs.Layout.{layers_of}
use Rattle.rs01_ecchead.specs.declared.head.Head.{Head}
use Rattle.rs01_ecchead.specs.Erased.{altered_sectors, count_in, counts_of, image_len, known_of, missing_sectors}
use Rattle.rs01_ecchead.specs.Opened.{opened_as}
use Rattle.rs01_verify.specs.Fullness.{fullest_of}
use Rattle.rs01_verify.specs.Report.{mark_of, report_of}
use Rattle.rs01_verify.proofs.SurveyLemmas.{image_mark_is, mark_all}
use Rattle.rs01_verify.proofs.verifying.report.Goals as goal

pub returns : goal.returns
unfolding report_of missing_sectors altered_sectors counts_of count_in
returns c = λ y e size surveyed.
    let head = c.args.ecc.now.head in
    let known = known_of c.args.ecc.now in
    let said = opened_as c.args.ecc.now e in
    let kept = surveyed e in
    let len : c.image_len-len.result ≡ image_len known =
    c.image_len-len.ensures.value ∙ (λ i. 2048 * (c.extent.ensures.sectors i - 1) + c.extent.ensures.last i) in
    let parity = c.parity-2.ensures ∙ c.shape-shape.ensures.parity in
    let image =
    image_mark_is said y c.image_mark_of.result head.some_sectors head.last_fits
    (λ l. c.image_mark_of.ensures.short (omega (arith, l, len, size)))
    (λ l. c.image_mark_of.ensures.digest (omega (arith, l, len, size)) _ (kept.held l) ∙ ap (λ (h : Head). mark_of (take (min (2048 * head.sectors) (image_len known)) y) h.image_sum) c.head.ensures) in
    λ i. record {
      sectors = (c.sectors.ensures ∙ c.shape-shape.ensures.sectors) i;
      layers = (c.layers.ensures.value ∙ (λ j. layers_of (c.shape-shape.ensures.sectors j) (c.shape-shape.ensures.parity j))) i;
      parity = (c.parity.ensures ∙ c.shape-shape.ensures.parity) i;
      missing = (c.of.ensures ∙ kept.missing) i;
      altered = (c.of-2.ensures ∙ kept.altered) i;
      fullest = (c.fullest.ensures ∙ (λ j. fullest_of ((c.deref.ensures.value ∙ kept.counts) j) (parity j))) i;
      surplus = (c.saturating_sub.ensures ∙ (λ j. size j - len j)) i;
      fingerprint = (kept.fingerprint ∙ mark_all said y) i;
      image = image i;
    }
