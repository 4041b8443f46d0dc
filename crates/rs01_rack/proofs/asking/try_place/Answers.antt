use Rattle.rs01_rack.specs.Asking.{HasTried}
use Rattle.rs01_rack.proofs.Places.{changes_at}
use Rattle.rs01_rack.proofs.asking.try_place.Goals as goal

pub returns : goal.returns
returns g c =
    changes_at _ c.args.drives.now.items c.args.place c.index_mut.result.now c.try_box.new.drive
    (HasTried c.args.sector c.args.tries c.try_box.new.into c.try_box.result) c.requires.inside c.index_mut.ensures.value c.try_box.ensures
