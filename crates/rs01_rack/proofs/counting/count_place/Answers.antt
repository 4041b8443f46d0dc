use Rattle.rs01_rack.specs.Counting.{IsCounted}
use Rattle.rs01_rack.proofs.Places.{changes_at}
use Rattle.rs01_rack.proofs.counting.count_place.Goals as goal

pub returns : goal.returns
returns g c =
    changes_at _ c.args.drives.now.items c.args.place c.index_mut.result.now c.count_box.new.drive
    (IsCounted c.count_box.result) c.requires c.index_mut.ensures.value c.count_box.ensures
