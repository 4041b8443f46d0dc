use Rattle.std.proofs.Common.{length, arith}
use Rattle.rs01_encode.proofs.Division.{as_long, finish, start, step}
use Rattle.rs01_encode.proofs.register.divide.Goals as goal

pub shift-requires-clause-same : goal.shift-requires-clause-same
shift-requires-clause-same c = omega (arith, as_long c.args.low.now (length c.args.parity.now) c.requires.generator)

pub loop-byte-init : goal.loop-byte-init
loop-byte-init c =
    start c.args.data_.now c.args.low.now c.fill.new.self (length c.args.parity.now) c.requires.whole (c.fill.ensures.after (λ y h. h)) c.requires.generator

pub loop-byte-preserved : goal.loop-byte-preserved
loop-byte-preserved c =
    step c.args.data_.now c.loop-byte.parity c.shift.new.register _ c.loop-byte.byte-index _ (omega arith) (omega arith) c.loop-byte-test.true
    (omega (arith, as_long c.args.low.now (length c.args.parity.now) c.requires.generator)) (omega arith) c.shift.ensures c.loop-byte.invariant

pub returns : goal.returns
returns c = finish c.args.data_.now c.loop-byte.parity _ c.loop-byte.byte-index _ (omega arith) (omega arith) c.loop-byte.invariant
