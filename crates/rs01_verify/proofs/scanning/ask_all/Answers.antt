use Rattle.std.proofs.Common.{◌≡◌, ◌<◌, ap, arith, subst}
use Rattle.std.proofs.lemmas.Result.{err_from_is_err_and}
use Rattle.rs01_layers.specs.declared.extent.Extent.{Extent}
use Rattle.rs01_ecchead.specs.declared.condition.Condition.{Condition}
use Rattle.rs01_linear.specs.Asking.{known_with}
use Rattle.rs01_verify.specs.Scanned.{Keeps}
use Rattle.rs01_verify.proofs.ScanAnswers.{ends_stopped}
use Rattle.rs01_verify.proofs.ScanLemmas.{asked_all, asked_more, asked_none, asks_known, layer_within, stopped_after, stopped_before}
use Rattle.rs01_verify.proofs.scanning.ask_all.Goals as goal

pub returns-in_err-tally : goal.returns-in_err-tally
returns-in_err-tally g c =
    let p = err_from_is_err_and c.from_residual.result c.from_residual.ensures.1 in
    ends_stopped _ _ _ _ p.0 p.1 (stopped_before c.args.medium.now _ c.args.rack.now.counted)

pub loop-sector-init : goal.loop-sector-init
loop-sector-init g c = asked_none c.args.medium.now _ _ c.args.rack.now.counted c.in_ok-tally.ensures

pub returns-in_err-keep : goal.returns-in_err-keep
returns-in_err-keep g c =
    let medium = c.args.medium.now in
    let s = c.loop-sector.sector in
    let p = err_from_is_err_and c.from_residual-in_err-keep.result c.from_residual-in_err-keep.ensures.1 in
    let end : c.extent-extent.result.sectors ≡ medium.extent.sectors = ap (λ (e : Extent). e.sectors) c.extent-extent.ensures in
    let below : s < medium.extent.sectors = omega (arith, c.loop-sector-test.true, end) in
    ends_stopped _ _ _ _ p.0 p.1
    (stopped_after medium _ _ _ s c.ask_sector-asked.result c.ask_sector-asked.new.into c.loop-sector.tally
    below
    (asks_known _ _ s _ _ _ _ (λ i. known_with (c.extent-extent.ensures i) (c.sums.ensures.sums i)) c.ask_sector-asked.ensures.asked)
    c.loop-sector.invariant)

pub loop-sector-preserved : goal.loop-sector-preserved
loop-sector-preserved g c =
    let medium = c.args.medium.now in
    let s = c.loop-sector.sector in
    asked_more medium _ _ _ s c.ask_sector-asked.result c.ask_sector-asked.new.into c.loop-sector.tally c.keep.new.tally
    (λ ecc. layer_within ecc s)
    (asks_known _ _ s _ _ _ _ (λ i. known_with (c.extent-extent.ensures i) (c.sums.ensures.sums i)) c.ask_sector-asked.ensures.asked)
    c.ask_sector-asked.ensures.cause
    (subst (λ (found : Condition). Keeps medium s found c.loop-sector.tally c.keep.new.tally) c.condition_from.ensures c.in_ok-keep.ensures.kept)
    c.in_ok-keep.ensures.counted
    c.loop-sector.invariant

pub returns : goal.returns
returns g c =
    let end : c.extent-extent.result.sectors ≡ c.args.medium.now.extent.sectors = ap (λ (e : Extent). e.sectors) c.extent-extent.ensures in
    asked_all c.args.medium.now c.loop-sector.sector _ _ _ _ (omega (arith, c.loop-sector-test.false, c.loop-sector.auto.sector-end, end)) c.loop-sector.invariant
