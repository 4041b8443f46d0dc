use Rattle.std.proofs.Common.{◌++◌, ◌∙◌, ap, arith, string_bytes, take_all}
use Rattle.std.specs.List.{flat_map}
use Rattle.rs01_help.specs.Pages.{preset_part}
use Rattle.rs01_help.proofs.pages.push_presets.Goals as goal

pub returns : goal.returns
returns c =
    c.loop-preset.invariant
    ∙ ap (λ xs. string_bytes c.args.text.now ++ flat_map preset_part xs) (take_all c.loop-preset.preset-index c.args.presets.now (omega arith))
