use Rattle.std.proofs.Common.{◌+◌, ◌≤◌, List, length, map, arith, subst}
use Rattle.rs01_columns.specs.Fifteen.{BeginsWith, fifteen_steps, moved}
use Rattle.rs01_columns.specs.declared.program.Step.{Step}
use Rattle.rs01_columns.specs.Bank.{lane}
use Rattle.rs01_columns.proofs.StepByStep.{one_read, four_more, eight_more}
use Rattle.rs01_columns.proofs.Grouped.{group_run}
use Rattle.rs01_columns.proofs.running.advance.Goals as goal

pub returns-in-Some : goal.returns-in-Some
returns-in-Some c =
    let columns = c.in-Some.group.columns in
    let begins : BeginsWith c.args.program.now.steps.items c.args.place 76 (map (moved columns) fifteen_steps) =
    subst (λ (p : List Step). BeginsWith p c.args.place 76 (map (moved columns) fifteen_steps)) c.deref.ensures.value c.in-Some.ensures.begins in
    record {
      on = omega arith;
      most = subst (λ (p : List Step). c.args.place + 76 ≤ length p) c.deref.ensures.value c.in-Some.ensures.room;
      same = λ l h j.
          group_run c.args.program.now.steps.items columns c.args.place (lane c.args.bank.now l) (lane c.transform_group.new.bank l) j begins (c.transform_group.ensures l h);
    }

pub returns-then-are_paired : goal.returns-then-are_paired
returns-then-are_paired c = record {
  on = omega arith;
  most = omega arith;
  same = λ l h j.
      eight_more c.args.program.now.steps.items c.args.place c.four_at-four.result c.four_at-others.result (lane c.args.bank.now l) (lane c.apply_eight.new.bank l) j
      c.four_at-four.ensures.at c.four_at-others.ensures.at (c.apply_eight.ensures l h);
}

pub returns-then-add_together : goal.returns-then-add_together
returns-then-add_together c = record {
  on = omega arith;
  most = omega arith;
  same = λ l h j.
      four_more c.args.program.now.steps.items c.args.place c.four_at-four-then-left-ge4.result (lane c.args.bank.now l) (lane c.apply_four.new.bank l) j c.four_at-four-then-left-ge4.ensures.at
      (c.apply_four.ensures l h);
}

pub returns : goal.returns
returns c = record {
  on = omega arith;
  most = omega arith;
  same = λ l h j.
      one_read c.args.program.now.steps.items c.args.place c.index.result.now _ (lane c.args.bank.now l) (lane c.apply.new.bank l) j (omega arith) c.index.ensures
      (c.apply.ensures l h);
}
