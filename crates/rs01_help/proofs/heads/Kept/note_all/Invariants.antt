use Rattle.std.proofs.Common.{◌≡◌, take}
use Rattle.rs01_help.specs.Heads.{with_bytes}
use Rattle.rs01_help.proofs.heads.Kept.note_all.Given as goal

abbrev pub invariant-loop-byte : goal.invariant-loop-byte
invariant-loop-byte l = l.self ≡ with_bytes l.initial.self (take l.byte-index l.bytes)
