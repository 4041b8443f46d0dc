use Rattle.std.proofs.Common.{◌≡◌, ◌++◌, take, string_bytes}
use Rattle.std.specs.List.{flat_map}
use Rattle.rs01_help.specs.Faulty.{name_part}
use Rattle.rs01_help.proofs.faulty.push_names.Given as goal

abbrev pub invariant-loop-verb : goal.invariant-loop-verb
invariant-loop-verb l = string_bytes l.text ≡ string_bytes l.initial.text ++ flat_map name_part (take l.verb-index l.verbs)
