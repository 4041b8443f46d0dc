-- Going on and on.
use Rattle.std.proofs.Common.{◌≡◌, ℕ, ◌+◌, ◌≤◌, ◌*◌, ◌∙◌, ap, arith, sym, refl, subst, List, length, drop}
use Rattle.std.specs.Prelude.{◌≢◌, Bool, IsSomeAnd, IsTrue, Option, Some, None}
use Rattle.rs01_layers.specs.declared.input.LayerInput.{LayerInput}
use Rattle.rs01_ecchead.specs.Erased.{image_len}
use Rattle.rs01_ecchead.specs.declared.opened.Ecc.{Ecc}
use Rattle.rs01_states.specs.Sparing.{layer_count}
use Rattle.rs01_turns.specs.Moments.{Moment, Setting, image_at}
use Rattle.rs01_turns.specs.Leads.{SameDesk, SameFiles}
use Rattle.rs01_turns.proofs.Leading.{drives-on, same-desk, same-drives, told-before}
use Rattle.rs01_reader.specs.Settled.{Fits, IsInputAt}
use Rattle.rs01_adaptive.specs.Sights.{Along, Sight, left_of}

tells_on : (f g : Moment) → SameDesk f g → IsTrue f.desk.tells → IsTrue g.desk.tells
tells_on f g same t = subst (λ (b : Bool). IsTrue b) (sym same.tells) t

files_on : (f g h : Moment) → g.setting ≡ f.setting → SameFiles f g → SameFiles g h → SameFiles f h
files_on f g h same fg gh = record {
  len = gh.len ∙ fg.len;
  surplus =
      subst (λ (x : Setting). drop (image_len x.terms.known) (image_at h) ≡ drop (image_len x.terms.known) (image_at g)) same gh.surplus ∙ fg.surplus;
  elsewhere = λ other d. gh.elsewhere other (subst (λ (x : Setting). other ≢ x.image) (sym same) d) ∙ fg.elsewhere other d;
}

desk_on : (f g h : Moment) → g.setting ≡ f.setting → SameDesk f g → SameDesk g h → SameDesk f h
desk_on f g h same fg gh = record {
  tells = gh.tells ∙ fg.tells;
  reads_rise = omega (arith, fg.reads_rise, gh.reads_rise);
  writes_rise = omega (arith, fg.writes_rise, gh.writes_rise);
  files = λ t. files_on f g h same (fg.files t) (gh.files (tells_on f g fg t));
}

pub along_same : (f : Sight) → Along f f
along_same f = record {
  setting = refl;
  kept_reads = refl;
  kept_writes = refl;
  drives = same-drives f.moment f.moment refl refl;
  asks = λ tell. record { more = 0; shown = omega arith; counted = omega arith };
  desk = same-desk f.moment f.moment refl refl;
  settled_rise = omega arith;
  sound = λ s. s;
  told = λ w asks t tell s. s;
  stays = λ y t s. s;
}

pub along_on : (f g h : Sight) → Along f g → Along g h → Along f h
along_on f g h fg gh = record {
  setting = gh.setting ∙ fg.setting;
  kept_reads = gh.kept_reads ∙ fg.kept_reads;
  kept_writes = gh.kept_writes ∙ fg.kept_writes;
  drives = drives-on f.moment g.moment h.moment fg.drives gh.drives;
  asks = λ tell.
      let late = gh.asks tell in
      let early = fg.asks (told-before g.moment h.moment gh.drives tell) in
      record { more = early.more + late.more; shown = omega (arith, early.shown, late.shown); counted = omega (arith, early.counted, late.counted) };
  desk = desk_on f.moment g.moment h.moment fg.setting fg.desk gh.desk;
  settled_rise = omega (arith, fg.settled_rise, gh.settled_rise);
  sound = λ s. gh.sound (fg.sound s);
  told = λ w asks t tell s. gh.told w asks (tells_on f.moment g.moment fg.desk t) tell (fg.told w asks t (told-before g.moment h.moment gh.drives tell) s);
  stays = λ y t s. gh.stays y (tells_on f.moment g.moment fg.desk t) (fg.stays y t s);
}

pub no_more_left : (f g : Sight) → Along f g → left_of g ≤ left_of f
no_more_left f g fg =
    let same : layer_count g.moment.setting.terms.shape ≡ layer_count f.moment.setting.terms.shape = ap (λ (s : Setting). layer_count s.terms.shape) fg.setting in
    omega (arith, fg.settled_rise, same)

input_fits : (m : Moment) (input : LayerInput) (opened : Option Ecc) (ecc : Option (List ℕ)) → IsSomeAnd opened (λ e. IsSomeAnd ecc (λ name. IsInputAt m e name input)) → length input.parity ≡ 2048 * input.parity_count
input_fits m input (Some e) (Some name) is = is.has_parity
input_fits m input (Some e) None is = absurd is
input_fits m input None ecc is = absurd is

-- an input that was given has parity
pub fits_task : (m : Moment) (input : LayerInput) → Fits m input → length input.parity ≡ 2048 * input.parity_count
fits_task m input fits = input_fits m input m.setting.opened m.setting.ecc fits.input_is
