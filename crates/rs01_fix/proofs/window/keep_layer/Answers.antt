use Rattle.std.proofs.Common.{List, Bool, subst}
use Rattle.rs01_fix.specs.Steps.{FlagsLayer}
use Rattle.rs01_fix.proofs.WindowLemmas.{kept_more, names_sector}
use Rattle.rs01_fix.proofs.window.keep_layer.Goals as goal

pub add-requires-clause-names : goal.add-requires-clause-names
add-requires-clause-names c = names_sector c.args.found.now c.args.layer c.args.input.now c.args.answer.now c.requires.answer

pub returns-clause-kept : goal.returns-clause-kept
returns-clause-kept c = λ was is kept.
    let found = c.args.found.now in
    kept_more found was c.args.layer c.args.input.now c.args.answer.now c.args.repairs.now c.flag.new.self c.add.new.self is kept
    (subst (λ (xs : List Bool). FlagsLayer found c.args.layer xs c.args.repairs.now.erased.items c.flag.new.self.erased.items) c.items.ensures c.flag.ensures.flags)
    c.flag.ensures.restored c.flag.ensures.strange c.in_ok-add.ensures.adds c.in_ok-add.ensures.erased
