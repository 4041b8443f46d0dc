use Rattle.std.proofs.Common.{◌≡◌, ◌∙◌, ap, sym, take}
use Rattle.std.specs.Option.{option_map}
use Rattle.rs01_lists.specs.Bytes.{padded}
use Rattle.rs01_sums.specs.Usable.{is_usable}
use Rattle.rs01_linear.specs.Asking.{as_block, known_with}
use Rattle.rs01_linear.specs.declared.asking.Asked.TheVariants.{Altered, Unreadable}
use Rattle.rs01_linear.proofs.AskLemmas.{asks_none, asks_read, no_answer, passed_more}
use Rattle.rs01_linear.proofs.asking.ask_sector.Goals as goal

pub returns-then-usable-clause-asked : goal.returns-then-usable-clause-asked
returns-then-usable-clause-asked g c =
    let sums = option_map (λ kept. kept.now.list) c.args.sums in
    let known = known_with c.args.extent.now sums in
    let block : c.keep_own.new.block ≡ as_block known c.args.sector c.read_from.new.into =
    c.keep_own.ensures ∙ ap (λ n. padded 2048 (take n c.read_from.new.into)) c.length.ensures.value in
    let good = ap (is_usable sums c.args.sector) (sym block) ∙ sym c.usable.ensures ∙ c.if-usable.true in
    rw block (asks_read known c.args.sector c.args.tries _ _ _ c.read_from.new.into _ _ _ c.loop-place.invariant c.in-Ok.ensures.asked good)

pub loop-place-preserved : goal.loop-place-preserved
loop-place-preserved g c =
    let sums = option_map (λ kept. kept.now.list) c.args.sums in
    let known = known_with c.args.extent.now sums in
    let block : c.keep_own.new.block ≡ as_block known c.args.sector c.read_from.new.into =
    c.keep_own.ensures ∙ ap (λ n. padded 2048 (take n c.read_from.new.into)) c.length.ensures.value in
    let bad = ap (is_usable sums c.args.sector) (sym block) ∙ sym c.usable.ensures ∙ c.if-usable.false in
    passed_more known c.args.sector c.args.tries _ _ _ c.read_from.new.into _ _ _ c.loop-place.invariant c.in-Ok.ensures.asked bad

pub returns-then-answered-clause-asked : goal.returns-then-answered-clause-asked
returns-then-answered-clause-asked g c =
    asks_none _ _ _ _ _ Altered c.read_from.new.into _ _ _ (sym (ap no_answer c.if-answered.true)) c.loop-place.invariant c.in-Err.ensures.asked

pub returns-else-answered-clause-asked : goal.returns-else-answered-clause-asked
returns-else-answered-clause-asked g c =
    asks_none _ _ _ _ _ Unreadable c.read_from.new.into _ _ _ (sym (ap no_answer c.if-answered.false)) c.loop-place.invariant c.in-Err.ensures.asked
