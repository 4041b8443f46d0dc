use Rattle.std.proofs.Common.{◌+◌, ◌-◌, ◌*◌, nat_le, refl}
use Rattle.rs01_ecchead.proofs.RunLemmas.{is_sector}
use Rattle.rs01_ecchead.proofs.walk.show_one.Goals as goal

pub returns-clause-keeps : goal.returns-clause-keeps
returns-clause-keeps g c = λ file run before.
    c.in_ok-sector.ensures.keeps _
    (is_sector file c.args.run.now c.copy_part.new.into c.args.extent.now.sectors c.args.extent.now.last_bytes c.args.first c.args.sector c.args.size c.length-len.result _
    (2048 * (c.args.sector - c.args.first)) 2048
    run c.requires.among.from c.requires.among.within c.length-len.ensures.value (λ i. nat_le (2048 * c.from.ensures i + c.from-2.ensures i) c.args.size)
    c.copy_part.ensures refl refl)
    before
