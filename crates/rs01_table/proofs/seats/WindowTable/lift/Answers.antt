use Rattle.std.proofs.Common.{◌∷◌, sym, ap, ◌∙◌, Some, List, ℕ}
use Rattle.rs01_table.specs.declared.given.Given.TheVariants.{Left}
use Rattle.rs01_table.specs.Views.{Slot}
use Rattle.atomic_table.specs.Table.{rest}
use Rattle.rs01_table.proofs.seats.WindowTable.lift.Goals as goal

pub exchange-requires : goal.exchange-requires
exchange-requires g c = (c.requires.mine, (Some (Left c.requires.has.0), c.requires.has.1 ∙ ap (λ (l : List (ℕ × Slot)). (c.args.slot, Some (Left c.requires.has.0)) ∷ l) (sym (ap rest c.requires.has.1))))
