-- How reading into an image file that is ready ends, by what was kept of it.
use Rattle.std.proofs.Common.{◌≡◌, ℕ, ◌+◌, ◌-◌, ◌^◌, ◌<◌, ◌≤◌, List, [], length, refl, sym, ap, subst, ◌∙◌}
use Rattle.std.specs.Prelude.{IsTrue, Option, Some, None, Ok, Err}
use Rattle.std.specs.Option.{option_map, unwrap_or}
use Rattle.rs01_layers.specs.declared.shape.Shape.{Shape}
use Rattle.rs01_outside.specs.DeskState.{DeskState}
use Rattle.rs01_rack.specs.Rack.{AllTell, RackState, capped, views_of}
use Rattle.rs01_report.specs.declared.reports.ReadReport.{ReadReport}
use Rattle.rs01_ecchead.specs.Erased.{Known, image_len}
use Rattle.rs01_ecchead.specs.Opened.{Opened}
use Rattle.rs01_ecchead.specs.declared.opened.Ecc.{Ecc}
use Rattle.rs01_states.specs.Sparing.{layer_count}
use Rattle.rs01_linear.specs.Lasting.{asks_in}
use Rattle.rs01_linear.specs.Linear.{IsPrepared}
use Rattle.rs01_linear.specs.Medium.{Found, known_of}
use Rattle.rs01_linear.specs.Outcome.{asked_since}
use Rattle.rs01_linear.specs.declared.prepared.Prepared.{Prepared}
use Rattle.rs01_linear.specs.declared.refusal.ReadRefusal.{ReadRefusal}
use Rattle.rs01_linear.proofs.LaidLemmas.{Fills, Sized}
use Rattle.rs01_linear.proofs.MarkLemmas.{sized_by}
use Rattle.rs01_turns.specs.Moments.{asks_at_end, image_at}
use Rattle.rs01_turns.specs.Turns.{Reading}
use Rattle.rs01_turns.proofs.Leading.{same-drives}
use Rattle.rs01_reader.specs.Courses.{CourseSeen}
use Rattle.rs01_reader.specs.Settled.{IsShapeOf as IsShapeOfFile}
use Rattle.rs01_reader.specs.declared.setup.Setup.{Setup}
use Rattle.rs01_adaptive.specs.Noting.{IsBlank, told_of}
use Rattle.rs01_adaptive.specs.Outcome.{whole}
use Rattle.rs01_adaptive.specs.Preparing.{IsFoundAs, ReadsPrepared}
use Rattle.rs01_adaptive.specs.Sights.{Along, IsFileOf, IsFinished, IsSound, sight_of}
use Rattle.rs01_adaptive.specs.Whole.{IsShapeOf, Whole, end_in, sector_left}
use Rattle.rs01_adaptive.specs.declared.noting.Noted.{Noted}
use Rattle.rs01_adaptive.proofs.Finishing.{finished_read, is_left_at, on_the_way}
use Rattle.rs01_adaptive.proofs.LayerEnds.{HasFile}
use Rattle.rs01_adaptive.proofs.Starting.{prepared_long, start_moment, start_sight, starts_on_the_way, starts_standing}

-- the shape is that of what was found
found-shape : (opened : Option Opened) (ecc : Option Ecc) (file : List ℕ) (shape : Option Shape) → IsFileOf opened ecc file → IsShapeOfFile ecc shape → IsShapeOf opened shape
found-shape None None file None is shape_is = tt
found-shape None None file (Some h) is shape_is = absurd shape_is
found-shape None (Some ecc) file shape is shape_is = absurd is
found-shape (Some c) None file shape is shape_is = absurd is
found-shape (Some c) (Some ecc) file None is shape_is = absurd shape_is
found-shape (Some c) (Some ecc) file (Some h) is shape_is =
    (shape_is.0 ∙ ap (λ (x : Opened). x.fields.sectors) (sym is.0), shape_is.1 ∙ ap (λ (x : Opened). x.fields.parity) (sym is.0))

found-sectors :
    (opened : Option Opened) (ecc : Option Ecc) (file : List ℕ) (n : ℕ) → IsFileOf opened ecc file → ((e : Ecc) → ecc ≡ Some e → e.head.sectors ≡ n) → (c : Opened) → opened ≡ Some c
    → c.fields.sectors ≡ n
found-sectors opened ecc file n is same c e = by ecc (subst (λ (o : Option Opened). IsFileOf o ecc file) e is) same
  where
    by : (ecc : Option Ecc) → IsFileOf (Some c) ecc file → ((e : Ecc) → ecc ≡ Some e → e.head.sectors ≡ n) → c.fields.sectors ≡ n
    by None is same = absurd is
    by (Some e) is same = ap (λ (x : Opened). x.fields.sectors) is.0 ∙ same e refl

abbrev whole_by : Setup → Found → Option Shape → Option (List ℕ) → RackState → Whole
whole_by setup f shape before rack = whole f shape setup.tries (unwrap_or before []) (views_of rack)

has-file : (setup : Setup) (f : Found) (shape : Option Shape) (before : Option (List ℕ)) (rack : RackState) (desk : DeskState) → IsFoundAs setup desk f → IsShapeOfFile setup.medium.now.ecc shape
    → HasFile (whole_by setup f shape before rack)
has-file setup f shape before rack desk found shape_is = record {
  shape = found-shape f.opened setup.medium.now.ecc _ shape found.opened_is shape_is;
  sectors = λ c e.
      found-sectors f.opened setup.medium.now.ecc _ setup.medium.now.extent.sectors found.opened_is (λ x is. setup.medium.now.sectors x is) c e
      ∙ ap (λ (k : Known). k.sectors) (sym found.known_is);
}

sized-by : (setup : Setup) (f : Found) → f.known ≡ known_of setup.medium.now → Sized f.known
sized-by setup f same = subst Sized (sym same) (sized_by setup.medium.now.extent (option_map (λ ecc. ecc.sums.list) setup.medium.now.ecc))

-- how many asks there are to the end
asks-are : (setup : Setup) (f : Found) (shape : Option Shape) (before : Option (List ℕ)) (prepared : Prepared) (rack : RackState) (desk : DeskState) (noted : Noted)
    → IsFoundAs setup desk f → IsPrepared (known_of setup.medium.now) before (desk.files setup.image.now) prepared → IsBlank (layer_count shape) noted
    → asks_at_end (start_moment setup shape prepared.fates.items rack desk)
    ≡ capped (rack.asks + (asks_in (end_in (whole_by setup f shape before rack)).views - asks_in (views_of rack)))
asks-are setup f shape before prepared rack desk noted found ready blank =
    ap (λ (r : Reading). capped (rack.asks + (asks_in r.views - asks_in (views_of rack)))) (starts_standing setup f shape before prepared rack desk noted found ready blank).end_is

-- it was read to its end
pub reads_to_the_end :
    (setup : Setup) (f : Found) (shape : Option Shape) (before : Option (List ℕ)) (prepared : Prepared) (rack rack' : RackState) (desk desk' : DeskState) (noted noted' : Noted)
    (course : CourseSeen) (window asked surplus : ℕ) (told : ReadReport)
    → Along (start_sight setup shape prepared.fates.items rack desk noted) (sight_of setup course rack' desk' noted' window) → IsFinished (sight_of setup course rack' desk' noted' window)
    → IsTrue desk.tells → AllTell rack' → IsFoundAs setup desk f → IsPrepared (known_of setup.medium.now) before (desk.files setup.image.now) prepared
    → IsBlank (layer_count shape) noted → IsShapeOfFile setup.medium.now.ecc shape → rack'.asks < 2 ^ 128
    → told ≡ told_of course.fates noted' asked surplus → asked ≡ asked_since rack rack' → surplus ≡ prepared.size - image_len (known_of setup.medium.now)
    → ReadsPrepared f setup.tries before rack rack' (desk'.files setup.image.now) (Ok told)
reads_to_the_end setup f shape before prepared rack rack' desk desk' noted noted' course window asked surplus told along fin t tell found ready blank shape_is small is asks rest =
    let w = whole_by setup f shape before rack in
    let g = sight_of setup course rack' desk' noted' window in
    let start = asks_at_end (start_moment setup shape prepared.fates.items rack desk) in
    let file = has-file setup f shape before rack desk found shape_is in
    let st = along.told w start t tell (starts_standing setup f shape before prepared rack desk noted found ready blank) in
    let behind : surplus ≡ length (unwrap_or before []) - image_len f.known = rest ∙ (λ i. ready.size_is i - image_len (sym found.known_is i)) in
    record {
      shape = shape;
      shape_is = file.shape;
      fact = finished_read w start g rack told (sized-by setup f found.known_is) file st fin refl
          (asks-are setup f shape before prepared rack desk noted found ready blank) small
          (subst (λ (k : Known). image_len k ≤ length (image_at g.moment)) (sym found.known_is) (fin.over.sound.ready.places (subst IsTrue (sym along.desk.tells) t)))
          (is ∙ (λ i. told_of course.fates noted' (asks i) (behind i)));
    }

-- it was left somewhere
pub reads_somewhere :
    (setup : Setup) (f : Found) (shape : Option Shape) (before : Option (List ℕ)) (prepared : Prepared) (rack rack' : RackState) (desk desk' : DeskState) (noted noted' : Noted)
    (course : CourseSeen) (window : ℕ) (why : ReadRefusal)
    → Along (start_sight setup shape prepared.fates.items rack desk noted) (sight_of setup course rack' desk' noted' window) → IsSound (start_sight setup shape prepared.fates.items rack desk noted)
    → IsTrue desk.tells → AllTell rack' → IsFoundAs setup desk f → IsPrepared (known_of setup.medium.now) before (desk.files setup.image.now) prepared
    → IsBlank (layer_count shape) noted → IsShapeOfFile setup.medium.now.ecc shape → Fills f.known (sector_left (whole_by setup f shape before rack))
    → ReadsPrepared f setup.tries before rack rack' (desk'.files setup.image.now) (Err why)
reads_somewhere setup f shape before prepared rack rack' desk desk' noted noted' course window why along sound t tell found ready blank shape_is fills =
    let w = whole_by setup f shape before rack in
    let g = sight_of setup course rack' desk' noted' window in
    let start = asks_at_end (start_moment setup shape prepared.fates.items rack desk) in
    let st = along.told w start t tell (starts_standing setup f shape before prepared rack desk noted found ready blank) in
    record {
      shape = shape;
      shape_is = (has-file setup f shape before rack desk found shape_is).shape;
      fact = is_left_at w g.moment before (sized-by setup f found.known_is) fills (on_the_way w start g st) (along.drives.asked tell) tell
          (subst (λ (k : Known). image_len k ≤ length (image_at g.moment)) (sym found.known_is) ((along.sound sound).ready.places (subst IsTrue (sym along.desk.tells) t)));
    }

-- nothing was read
pub reads_nothing :
    (setup : Setup) (f : Found) (shape : Option Shape) (before : Option (List ℕ)) (prepared : Prepared) (rack : RackState) (desk : DeskState) (why : ReadRefusal)
    → AllTell rack → IsFoundAs setup desk f → IsPrepared (known_of setup.medium.now) before (desk.files setup.image.now) prepared
    → IsShapeOfFile setup.medium.now.ecc shape → Fills f.known (sector_left (whole_by setup f shape before rack))
    → ReadsPrepared f setup.tries before rack rack (desk.files setup.image.now) (Err why)
reads_nothing setup f shape before prepared rack desk why tell found ready shape_is fills =
    let w = whole_by setup f shape before rack in
    let m = start_moment setup shape prepared.fates.items rack desk in
    let sized = sized_by setup.medium.now.extent (option_map (λ ecc. ecc.sums.list) setup.medium.now.ecc) in
    record {
      shape = shape;
      shape_is = (has-file setup f shape before rack desk found shape_is).shape;
      fact = is_left_at w m before (sized-by setup f found.known_is) fills (starts_on_the_way setup f shape before prepared rack desk found.known_is ready) ((same-drives m m refl refl).asked tell) tell
          (subst (λ (k : Known). image_len k ≤ length (image_at m)) (sym found.known_is) (prepared_long (known_of setup.medium.now) before (desk.files setup.image.now) prepared sized ready));
    }
