use Rattle.std.proofs.Common.{◌∙◌, ap}
use Rattle.std.specs.Option.{option_map}
use Rattle.rs01_verify.specs.Fullness.{fullest_of}
use Rattle.rs01_verify.proofs.ScanAnswers.{report_told}
use Rattle.rs01_verify.proofs.scanning.report.Goals as goal

pub returns-clause-told : goal.returns-clause-told
returns-clause-told c = λ file found views now is kept.
    let medium = c.args.medium.now in
    report_told found views medium file _ c.args.tally now is kept
    (ap (λ e. e.sectors) c.extent.ensures)
    c.of.ensures c.of-2.ensures
    (c.fullness.ensures ∙ ap (λ xs. option_map (λ ecc. fullest_of xs ecc.head.parity) medium.ecc) c.deref.ensures.value)
    medium.sectors
