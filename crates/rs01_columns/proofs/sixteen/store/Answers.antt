use Rattle.std.proofs.Common.{arith}
use Rattle.std.proofs.lemmas.Simd.{get_or-put_chunk_at, get_or-put_chunk_below, get_or-put_chunk_above}
use Rattle.rs01_columns.proofs.sixteen.store.Goals as goal

pub returns-clause-here : goal.returns-clause-here
returns-clause-here c = λ k l. get_or-put_chunk_at c.args.at c.args.bytes.now c.args.v k 0 (omega (arith, c.requires.v)) (omega (arith, c.requires.v, c.requires.room))

pub returns-clause-rest : goal.returns-clause-rest
returns-clause-rest c = record {
  before = λ k l. get_or-put_chunk_below c.args.at c.args.bytes.now c.args.v k 0 l;
  after = λ k l. get_or-put_chunk_above c.args.at c.args.bytes.now c.args.v k 0 (omega (arith, c.requires.v));
}
