use Rattle.std.proofs.Common.{◌≡◌, ◌-◌, length, drop, ◌++◌, replicate}
use Rattle.rs01_poly.specs.Polynomial.{add_front, remainder}
use Rattle.rs01_poly.specs.Code.{encode}
use Rattle.rs01_encode.proofs.register.divide.Given as goal

abbrev pub invariant-loop-byte : goal.invariant-loop-byte
invariant-loop-byte l =
    remainder (length l.data_ - l.byte-index) l.low (add_front l.parity (drop l.byte-index l.data_ ++ replicate (255 - length l.data_) 0))
    ≡ encode l.data_
