use Rattle.std.proofs.Common.{◌∙◌, ap, true, false}
use Rattle.rs01_adaptive.specs.Noting.{sectors_among, strange_noted, told_of}
use Rattle.rs01_adaptive.proofs.telling.told_of.Goals as goal

pub returns : goal.returns
unfolding told_of
returns c = λ i. record (c.in_ok-told.ensures i) {
  restored = (c.in_ok-told-2.ensures ∙ ap (λ flags. sectors_among c.args.fates.now flags true) c.deref.ensures.value) i;
  lost = (c.in_ok-told-3.ensures ∙ ap (λ flags. sectors_among c.args.fates.now flags false) c.deref-2.ensures.value) i;
  strange = (c.in_ok-told-4.ensures ∙ ap strange_noted c.deref-3.ensures.value) i;
}
