-- What is good in the image file stays, whatever a reading by turns comes to.
use Rattle.std.proofs.Common.{ℕ, List, [], subst, sym}
use Rattle.std.specs.Prelude.{IsSomeAnd, IsTrue, Option}
use Rattle.std.specs.Option.{option_map, unwrap_or}
use Rattle.rs01_layers.specs.declared.shape.Shape.{Shape}
use Rattle.rs01_outside.specs.DeskState.{DeskState}
use Rattle.rs01_rack.specs.Rack.{RackState}
use Rattle.rs01_linear.specs.Linear.{IsPrepared}
use Rattle.rs01_linear.specs.Medium.{known_of}
use Rattle.rs01_linear.specs.Spared.{Spares}
use Rattle.rs01_linear.specs.declared.prepared.Prepared.{Prepared}
use Rattle.rs01_linear.proofs.MarkLemmas.{sized_by}
use Rattle.rs01_linear.proofs.StayLemmas.{guards_prepared}
use Rattle.rs01_reader.specs.Courses.{CourseSeen}
use Rattle.rs01_reader.specs.declared.setup.Setup.{Setup}
use Rattle.rs01_adaptive.specs.Sights.{Along, IsSound, sight_of}
use Rattle.rs01_adaptive.specs.declared.noting.Noted.{Noted}
use Rattle.rs01_adaptive.proofs.Laying.{image_there}
use Rattle.rs01_adaptive.proofs.Starting.{start_sight, starts_guarded}

-- from an image file that is ready on, by whatever the reading did
pub guarded_stays :
    (setup : Setup) (shape : Option Shape) (before : Option (List ℕ)) (prepared : Prepared) (rack rack' : RackState) (desk desk' : DeskState) (noted noted' : Noted) (course : CourseSeen) (window : ℕ)
    → Along (start_sight setup shape prepared.fates.items rack desk noted) (sight_of setup course rack' desk' noted' window) → IsSound (start_sight setup shape prepared.fates.items rack desk noted)
    → IsTrue desk.tells → IsPrepared (known_of setup.medium.now) before (desk.files setup.image.now) prepared
    → IsSomeAnd (desk'.files setup.image.now) (Spares (known_of setup.medium.now) (unwrap_or before []))
guarded_stays setup shape before prepared rack rack' desk desk' noted noted' course window along sound t ready =
    let known = known_of setup.medium.now in
    let sized = sized_by setup.medium.now.extent (option_map (λ ecc. ecc.sums.list) setup.medium.now.ecc) in
    let guarded = along.stays (unwrap_or before []) t (starts_guarded setup shape before prepared rack desk noted ready) in
    let long = (along.sound sound).ready.places (subst IsTrue (sym along.desk.tells) t) in
    subst (λ (o : Option (List ℕ)). IsSomeAnd o (Spares known (unwrap_or before []))) (sym (image_there known (desk'.files setup.image.now) sized long)) guarded.file_is

-- where nothing was read
pub prepared_stays :
    (setup : Setup) (before : Option (List ℕ)) (prepared : Prepared) (desk : DeskState) → IsPrepared (known_of setup.medium.now) before (desk.files setup.image.now) prepared
    → IsSomeAnd (desk.files setup.image.now) (Spares (known_of setup.medium.now) (unwrap_or before []))
prepared_stays setup before prepared desk ready =
    (guards_prepared (known_of setup.medium.now) before (desk.files setup.image.now) prepared
    (sized_by setup.medium.now.extent (option_map (λ ecc. ecc.sums.list) setup.medium.now.ecc)) ready).file_is
