use Rattle.std.proofs.Common.{◌+◌, ◌∙◌, Some, ap, length, sym}
use Rattle.rs01_help.specs.Reading.{begins}
use Rattle.rs01_help.proofs.Standing.{found_here, found_later, found_nowhere, tail}
use Rattle.rs01_help.proofs.reading.after.Goals as goal

pub returns-then-starts_with : goal.returns-then-starts_with
returns-then-starts_with c =
    let text = c.args.text.now in
    let bytes = c.args.bytes.now in
    let at = c.loop-at.at in
    let is = ap (λ rest. begins rest text) (sym (tail bytes at)) ∙ sym c.starts_with.ensures.value ∙ c.if-starts_with.true in
    ap Some (tail bytes (at + length text)) ∙ sym (c.loop-at.invariant ∙ found_here text bytes at c.loop-at-test.true is)

pub loop-at-preserved : goal.loop-at-preserved
loop-at-preserved c =
    let text = c.args.text.now in
    let bytes = c.args.bytes.now in
    let at = c.loop-at.at in
    let is = ap (λ rest. begins rest text) (sym (tail bytes at)) ∙ sym c.starts_with.ensures.value ∙ c.if-starts_with.false in
    c.loop-at.invariant ∙ found_later text bytes at c.loop-at-test.true is

pub returns : goal.returns
returns c = sym (c.loop-at.invariant ∙ found_nowhere c.args.text.now c.args.bytes.now c.loop-at.at c.loop-at-test.false)
