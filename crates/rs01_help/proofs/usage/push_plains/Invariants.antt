use Rattle.std.proofs.Common.{◌≡◌, ◌++◌, take, string_bytes}
use Rattle.std.specs.List.{flat_map}
use Rattle.rs01_help.specs.Usage.{plain_part}
use Rattle.rs01_help.proofs.usage.push_plains.Given as goal

abbrev pub invariant-loop-word : goal.invariant-loop-word
invariant-loop-word l = string_bytes l.text ≡ string_bytes l.initial.text ++ flat_map plain_part (take l.word-index l.words)
