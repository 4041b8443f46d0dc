use Rattle.std.proofs.Common.{◌∙◌, ap, map}
use Rattle.std.specs.List.{range_with_len}
use Rattle.rs01_layers.specs.declared.extent.Extent.{Extent}
use Rattle.rs01_outside.specs.Files.{bytes_of}
use Rattle.rs01_ecchead.specs.Shown.{shown_in}
use Rattle.rs01_linear.specs.Left.{first_fate}
use Rattle.rs01_linear.specs.Medium.{known_of}
use Rattle.rs01_linear.proofs.judging.judge_image.Goals as goal

pub returns-clause-judged : goal.returns-clause-judged
returns-clause-judged g c = λ t size.
    let file = bytes_of (g.D.Desk.state c.args.desk.now).files c.args.name.now in
    let e = c.extent-extent.ensures in
    c.in_ok-walk_image.ensures.keeps t (λ y same. c.in_ok-fates.ensures.items) file
    (λ i. shown_in file (ap (λ (x : Extent). x.sectors) e i) (ap (λ (x : Extent). x.last_bytes) e i) (size i))
    ∙ ap (λ n. map (first_fate (known_of c.args.medium.now) file) (range_with_len 0 n)) (ap (λ (x : Extent). x.sectors) e)
