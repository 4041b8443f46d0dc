use Rattle.std.proofs.Common.{◌≡◌, ◌∙◌, ◌+◌, ◌-◌, ◌*◌, sym}
use Rattle.std.specs.Prelude.{◌&&◌, nat_lt}
use Rattle.rs01_ecchead.specs.Erased.{image_len, known_of}
use Rattle.rs01_fix.specs.Repair.{lost_by, report_by, restored_by, strange_by}
use Rattle.rs01_fix.proofs.told.report.Goals as goal

pub returns : goal.returns
unfolding report_by restored_by lost_by strange_by
returns c = λ was kept.
    let found = c.args.found.now in
    let len : c.image_len-len.result ≡ image_len (known_of found.ecc) =
    c.image_len-len.ensures.value ∙ (λ i. 2048 * (c.extent.ensures.sectors i - 1) + c.extent.ensures.last i) in
    λ i. record {
      restored = c.in_ok-restored.ensures was kept i;
      lost = c.in_ok-lost.ensures was kept i;
      strange = (c.of.ensures ∙ kept.strange_are) i;
      surplus = (c.saturating_sub.ensures ∙ (λ j. sym was.size j - len j)) i;
      cut = (c.is_cut.ensures ∙ (λ j. c.args.cut && nat_lt (image_len (known_of found.ecc)) (sym was.size j))) i;
    }
