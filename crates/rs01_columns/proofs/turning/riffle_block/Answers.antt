use Rattle.std.proofs.Common.{◌∙◌, arith}
use Rattle.rs01_columns.proofs.Riffles.{block_riffled}
use Rattle.rs01_columns.proofs.turning.riffle_block.Goals as goal

pub returns-clause-here : goal.returns-clause-here
returns-clause-here c =
    block_riffled c.args.from.now c.store.new.bytes c.store-2.new.bytes c.load-a.result c.load-b.result c.first_by_turns.result c.last_by_turns.result c.args.i c.requires.i
    c.load-a.ensures.each c.load-b.ensures.each c.first_by_turns.ensures c.last_by_turns.ensures c.store.ensures.here c.store-2.ensures.here c.store-2.ensures.rest.before

pub returns-clause-rest : goal.returns-clause-rest
returns-clause-rest c = record {
  before = λ k h. c.store-2.ensures.rest.before k (omega arith) ∙ c.store.ensures.rest.before k h;
  after = λ k h. c.store-2.ensures.rest.after k (omega arith) ∙ c.store.ensures.rest.after k (omega arith);
}
