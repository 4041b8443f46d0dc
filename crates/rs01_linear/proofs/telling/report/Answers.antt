use Rattle.std.proofs.Common.{◌∙◌, length}
use Rattle.rs01_linear.specs.Report.{report_of}
use Rattle.rs01_linear.proofs.telling.report.Goals as goal

pub returns : goal.returns
unfolding report_of
returns c = λ i. record {
  sectors = length c.args.fates.now;
  asked = c.args.asked;
  kept = c.number_told.ensures i;
  read = c.number_told-2.ensures i;
  unreadable = c.in_ok-sectors_told.ensures i;
  altered = c.in_ok-sectors_told-2.ensures i;
  not_asked = c.in_ok-sectors_told-3.ensures i;
  restored = (c.of.ensures ∙ c.new.ensures.items) i;
  lost = c.in_ok-sectors_told-4.ensures i;
  strange = (c.of-2.ensures ∙ c.new-2.ensures.items) i;
  surplus = c.args.surplus;
}
