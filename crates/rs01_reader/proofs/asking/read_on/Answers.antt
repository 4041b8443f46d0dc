use Rattle.std.proofs.Common.{◌∙◌, ℕ, sym, subst, arith}
use Rattle.std.specs.Prelude.{Option, Some, None}
use Rattle.rs01_turns.proofs.Leading.{leads-on}
use Rattle.rs01_reader.specs.Steps.{Went}
use Rattle.rs01_reader.proofs.CountLemmas.{counts-as, counts-stop, counts-then}
use Rattle.rs01_reader.proofs.OnLemmas.{on-ends, on-fails, on-more, on-settles, on-spared, only-then, went-less}
use Rattle.rs01_reader.proofs.asking.read_on.Goals as goal

pub returns-in-None : goal.returns-in-None
returns-in-None g c =
    let i = c.loop-sector.invariant in
    record {
      leads = i.leads;
      counts = counts-as _ _ _ _ _ tt None i.counts;
      only = i.only;
      spared = i.spared;
      settles = tt;
      ends = on-ends c.args.setup.now c.args.course.now c.loop-sector.course _ _ _ _ (sym c.next_sector.ensures ∙ c.in-None.is) i;
      halted = tt;
    }

pub loop-sector-smaller : goal.loop-sector-smaller
loop-sector-smaller g c =
    let next = sym c.next_sector.ensures ∙ c.in-Some.is in
    let less = went-less c.loop-sector.course c.ask_next.new.course c.in-Some.sector _ next c.in-Ok-None.ensures.went in
    omega (arith, less)

pub loop-sector-preserved : goal.loop-sector-preserved
loop-sector-preserved g c =
    let next = sym c.next_sector.ensures ∙ c.in-Some.is in
    let went = subst (λ (o : Option ℕ). Went c.loop-sector.course c.ask_next.new.course c.in-Some.sector o) c.in-Ok-None.field-0-is c.in-Ok-None.ensures.went in
    on-more c.args.setup.now c.args.course.now c.loop-sector.course c.ask_next.new.course _ _ _ _ _ _ c.in-Some.sector next c.loop-sector.invariant c.ask_next.ensures.leads
    (counts-as c.args.setup.now _ _ _ _ c.in-Ok-None.field-0 None c.in-Ok-None.ensures.counts) c.ask_next.ensures.only went

pub returns-in-Ok-Some : goal.returns-in-Ok-Some
returns-in-Ok-Some g c =
    let i = c.loop-sector.invariant in
    let next = sym c.next_sector.ensures ∙ c.in-Some.is in
    let went = subst (λ (o : Option ℕ). Went c.loop-sector.course c.ask_next.new.course c.in-Some.sector o) c.in-Ok-Some.field-0-is c.in-Ok-Some.ensures.went in
    record {
      leads = leads-on _ _ _ i.leads c.ask_next.ensures.leads;
      counts = counts-then c.args.setup.now _ _ _ _ _ _ tt _ i.counts (counts-as c.args.setup.now _ _ _ _ c.in-Ok-Some.field-0 (Some c.in-Ok-Some.layer) c.in-Ok-Some.ensures.counts);
      only = only-then c.args.course.now c.loop-sector.course c.ask_next.new.course i.only c.ask_next.ensures.only;
      spared = on-spared c.args.setup.now c.args.course.now c.loop-sector.course c.ask_next.new.course _ _ _ _ c.in-Some.sector _ next i went;
      settles = on-settles c.args.setup.now c.args.course.now c.loop-sector.course c.ask_next.new.course _ _ _ _ _ _ c.in-Some.sector c.in-Ok-Some.layer next i went;
      ends = tt;
      halted = tt;
    }

pub returns-in-Err : goal.returns-in-Err
returns-in-Err g c =
    let i = c.loop-sector.invariant in
    record {
      leads = leads-on _ _ _ i.leads c.ask_next.ensures.leads;
      counts = counts-then c.args.setup.now _ _ _ _ _ _ tt _ i.counts (counts-stop c.args.setup.now _ _ _ _ c.in-Err.stop c.in-Err.ensures.counts);
      only = only-then c.args.course.now c.loop-sector.course c.ask_next.new.course i.only c.ask_next.ensures.only;
      spared = tt;
      settles = tt;
      ends = tt;
      halted = on-fails c.args.setup.now c.args.course.now c.loop-sector.course _ _ _ _ _ c.in-Err.stop i c.in-Err.ensures.halted;
    }
