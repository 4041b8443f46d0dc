use Rattle.std.proofs.Common.{◌≡◌, ◌∙◌, subst}
use Rattle.rs01_layers.specs.Layout.{layers_of}
use Rattle.rs01_outside.specs.Files.{bytes_of}
use Rattle.rs01_ecchead.specs.Opened.{opened_as}
use Rattle.rs01_ecchead.specs.Shown.{shown_in}
use Rattle.rs01_verify.specs.Surveyed.{SurveyedBy}
use Rattle.rs01_verify.proofs.SurveyLemmas.{surveyed_none}
use Rattle.rs01_verify.proofs.survey.survey_image.Goals as goal

pub returns-clause-surveyed : goal.returns-clause-surveyed
returns-clause-surveyed g c = λ t size.
    let ecc = c.args.surveyor.now.ecc in
    let file = bytes_of (g.D.Desk.state c.args.desk.now).files c.args.name.now in
    let layers : c.layers.result ≡ layers_of ecc.head.sectors ecc.head.parity =
    c.layers.ensures.value ∙ (λ i. layers_of (c.shape.ensures.sectors i) (c.shape.ensures.parity i)) in
    subst (λ n. SurveyedBy ecc file n c.walk_image.new.kept) c.extent-extent.ensures.sectors
    (c.in_ok-walk_image.ensures.keeps t
    (λ y same e. surveyed_none (opened_as ecc e) y c.in_ok-survey.survey c.layers.result layers c.in_ok-survey.ensures)
    file (λ i. shown_in file (c.extent-extent.ensures.sectors i) (c.extent-extent.ensures.last i) (size i)))
