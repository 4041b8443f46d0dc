use Rattle.std.proofs.Common.{◌≡◌, ◌++◌, take, string_bytes}
use Rattle.std.specs.List.{flat_map}
use Rattle.rs01_help.specs.Pages.{page}
use Rattle.rs01_help.proofs.pages.push_pages.Given as goal

abbrev pub invariant-loop-verb : goal.invariant-loop-verb
invariant-loop-verb l = string_bytes l.text ≡ string_bytes l.initial.text ++ flat_map page (take l.verb-index l.verbs)
