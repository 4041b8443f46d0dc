use Rattle.std.proofs.Common.{◌≡◌, ◌++◌, take, string_bytes}
use Rattle.std.specs.List.{flat_map}
use Rattle.rs01_help.specs.Pages.{preset_part}
use Rattle.rs01_help.proofs.pages.push_presets.Given as goal

abbrev pub invariant-loop-preset : goal.invariant-loop-preset
invariant-loop-preset l = string_bytes l.text ≡ string_bytes l.initial.text ++ flat_map preset_part (take l.preset-index l.presets)
