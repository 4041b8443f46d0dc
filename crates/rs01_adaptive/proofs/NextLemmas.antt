-- What the next input makes of a reading.
use Rattle.std.proofs.Common.{◌≡◌, ℕ, ◌+◌, ◌-◌, ◌≤◌, List, [], ◌∷◌, ◌++◌, length, drop, refl, sym, ap, subst, ◌∙◌, arith}
use Rattle.std.specs.Prelude.{IsTrue, not, Option, Some, None, Result, Ok, Err}
use Rattle.std.proofs.lemmas.List.{drop-append-le, length-append}
use Rattle.std.proofs.lemmas.Nat.{row_below_turned}
use Rattle.rs01_layers.specs.Layout.{layers_of}
use Rattle.rs01_layers.specs.declared.input.LayerInput.{LayerInput}
use Rattle.rs01_layers.specs.declared.shape.Shape.{Shape}
use Rattle.rs01_outside.specs.DeskState.{DeskState}
use Rattle.rs01_rack.specs.Rack.{AllTell, RackState}
use Rattle.rs01_states.specs.Sparing.{layer_count}
use Rattle.rs01_linear.specs.Lasting.{RackLasts}
use Rattle.rs01_reader.specs.Courses.{CourseSeen}
use Rattle.rs01_reader.specs.Settled.{moment}
use Rattle.rs01_reader.specs.Steps.{Gives, is_read_stop, is_write_stop}
use Rattle.rs01_reader.specs.declared.setup.Setup.{Setup}
use Rattle.rs01_reader.specs.declared.stop.Stop.{Stop}
use Rattle.rs01_reader.specs.declared.stop.Stop.TheVariants as stop
use Rattle.rs01_adaptive.specs.Sights.{Along, AsksRise, IsOver, IsQuiet, IsSound, MayGoOn, Sight, StoppedBy, sight_of, window_layers}
use Rattle.rs01_adaptive.specs.declared.noting.Noted.{Noted}
use Rattle.rs01_adaptive.proofs.GivenLemmas.{once_few}
use Rattle.rs01_adaptive.proofs.GoingLemmas.{GoesOn, along_reader, sound_on}

-- there are few layers
few_layers : (shape : Option Shape) → layer_count shape ≤ 16777216
few_layers None = omega arith
few_layers (Some sh) = divided sh.sectors sh.parity sh.in_range.not_too_many sh.in_range.not_too_much
  where
    divided : (n r : ℕ) → n ≤ 16777215 → r ≤ 100 → layers_of n r ≤ 16777216
    divided n r few most =
        let below = (row_below_turned (n + (254 - r)) (255 - r) 108242 155 (omega (arith, few)) (omega (arith, most))).1 in
        omega (arith, below)

pub window_few : (s : Sight) → IsSound s → s.window ≤ 16777216
window_few s sound =
    let few = once_few s.moment.given (layer_count s.moment.setting.terms.shape) sound.once.once sound.once.there in
    omega (arith, few, sound.window_fits, few_layers s.moment.setting.terms.shape)

-- counts

asks_rise : (rack rack' : RackState) → RackLasts rack rack' → AllTell rack' → AsksRise rack rack'
asks_rise rack rack' lasts tell =
    let asks = lasts.asks tell in
    record { more = asks.more; shown = asks.shown; counted = omega (arith, asks.counted) }

quiet_on : (setup : Setup) (old new : CourseSeen) (rack rack' : RackState) (desk desk' : DeskState) (result : Result (Option LayerInput) Stop) → IsQuiet (moment setup old rack desk)
    → Gives setup old new desk desk' result rack rack' → IsTrue (not (is_read_stop result)) → IsTrue (not (is_write_stop result)) → IsQuiet (moment setup new rack' desk')
quiet_on setup old new rack rack' desk desk' result quiet gives no_read no_write = record {
  reads = gives.counts.works.read_kept no_read ∙ quiet.reads ∙ sym gives.leads.start.kept_reads;
  writes = gives.counts.works.write_kept no_write ∙ quiet.writes ∙ sym gives.leads.start.kept_writes;
}

stopped_as : (setup : Setup) (old new : CourseSeen) (rack rack' : RackState) (desk desk' : DeskState) (why : Stop) → IsQuiet (moment setup old rack desk)
    → Gives setup old new desk desk' (Err why) rack rack' → StoppedBy (moment setup new rack' desk') why
stopped_as setup old new rack rack' desk desk' stop.ReadFault quiet gives = (
  omega (arith, gives.counts.works.read_rose refl, quiet.reads, gives.leads.start.kept_reads),
  gives.counts.works.write_kept refl ∙ quiet.writes ∙ sym gives.leads.start.kept_writes,
)
stopped_as setup old new rack rack' desk desk' stop.WriteFault quiet gives = (
  gives.counts.works.read_kept refl ∙ quiet.reads ∙ sym gives.leads.start.kept_reads,
  omega (arith, gives.counts.works.write_rose refl, quiet.writes, gives.leads.start.kept_writes),
)
stopped_as setup old new rack rack' desk desk' stop.OutOfMemory quiet gives = quiet_on setup old new rack rack' desk desk' (Err stop.OutOfMemory) quiet gives refl refl

-- a layer was given
pub record GoesGiven (f g : Sight) (input : LayerInput) : Type 0 where
  pub along : Along f g
  pub gave : window_layers g ≡ window_layers f ++ input.layer ∷ []
  pub going : MayGoOn g

window_more : (f g : Sight) (l : ℕ) → f.window ≤ length f.moment.given → g.window ≡ f.window + 1 → g.moment.given ≡ f.moment.given ++ l ∷ [] → window_layers g ≡ window_layers f ++ l ∷ []
window_more f g l fits more given =
    let long : length g.moment.given ≡ length f.moment.given + 1 = ap length given ∙ length-append f.moment.given (l ∷ []) in
    let same : length g.moment.given - g.window ≡ length f.moment.given - f.window = omega (arith, long, more) in
    ap (λ (n : ℕ). drop n g.moment.given) same
    ∙ ap (drop (length f.moment.given - f.window)) given
    ∙ drop-append-le (length f.moment.given - f.window) f.moment.given (l ∷ []) (omega arith)

pub goes_given : (setup : Setup) (old new : CourseSeen) (rack rack' : RackState) (desk desk' : DeskState) (noted : Noted) (window window' : ℕ) (input : LayerInput) (result : Result (Option LayerInput) Stop)
    → result ≡ Ok (Some input) → MayGoOn (sight_of setup old rack desk noted window) → Gives setup old new desk desk' result rack rack' → window' ≡ window + 1
    → GoesGiven (sight_of setup old rack desk noted window) (sight_of setup new rack' desk' noted window') input
goes_given setup old new rack rack' desk desk' noted window window' input result is may gave more =
    let gives = subst (λ (r : Result (Option LayerInput) Stop). Gives setup old new desk desk' r rack rack') is gave in
    let f = sight_of setup old rack desk noted window in
    let g = sight_of setup new rack' desk' noted window' in
    let long : length new.given ≡ length old.given + 1 = ap length gives.ended.given ∙ length-append old.given (input.layer ∷ []) in
    let on : GoesOn f g = record { leads = gives.leads; noted = refl; window = omega (arith, long, more); asks = asks_rise rack rack' gives.counts.lasts } in
    record {
      along = along_reader f g on may.sound;
      gave = window_more f g input.layer may.sound.window_fits more gives.ended.given;
      going = record { going = gives.ended.going; sound = sound_on f g on may.sound; quiet = quiet_on setup old new rack rack' desk desk' (Ok (Some input)) may.quiet gives refl refl };
    }

-- none was
pub record GoesBare (f g : Sight) : Type 0 where
  pub along : Along f g
  pub gave : window_layers g ≡ window_layers f
  pub sound : IsSound g

goes_bare : (setup : Setup) (old new : CourseSeen) (rack rack' : RackState) (desk desk' : DeskState) (noted : Noted) (window : ℕ) (result : Result (Option LayerInput) Stop)
    → MayGoOn (sight_of setup old rack desk noted window) → Gives setup old new desk desk' result rack rack' → new.given ≡ old.given
    → GoesBare (sight_of setup old rack desk noted window) (sight_of setup new rack' desk' noted window)
goes_bare setup old new rack rack' desk desk' noted window result may gives same =
    let f = sight_of setup old rack desk noted window in
    let g = sight_of setup new rack' desk' noted window in
    let on : GoesOn f g = record { leads = gives.leads; noted = refl; window = omega (arith, ap length same); asks = asks_rise rack rack' gives.counts.lasts } in
    record {
      along = along_reader f g on may.sound;
      gave = ap (λ (ls : List ℕ). drop (length ls - window) ls) same;
      sound = sound_on f g on may.sound;
    }

pub goes_done : (setup : Setup) (old new : CourseSeen) (rack rack' : RackState) (desk desk' : DeskState) (noted : Noted) (window : ℕ) (result : Result (Option LayerInput) Stop)
    → result ≡ Ok None → MayGoOn (sight_of setup old rack desk noted window) → Gives setup old new desk desk' result rack rack'
    → GoesBare (sight_of setup old rack desk noted window) (sight_of setup new rack' desk' noted window) × IsOver (sight_of setup new rack' desk' noted window)
goes_done setup old new rack rack' desk desk' noted window result is may gave =
    let gives = subst (λ (r : Result (Option LayerInput) Stop). Gives setup old new desk desk' r rack rack') is gave in
    let bare = goes_bare setup old new rack rack' desk desk' noted window (Ok None) may gives gives.ended.given_same in
    (bare, record { done = gives.ended.done; sound = bare.sound; quiet = quiet_on setup old new rack rack' desk desk' (Ok None) may.quiet gives refl refl })

pub goes_stopped : (setup : Setup) (old new : CourseSeen) (rack rack' : RackState) (desk desk' : DeskState) (noted : Noted) (window : ℕ) (stop : Stop) (result : Result (Option LayerInput) Stop)
    → result ≡ Err stop → MayGoOn (sight_of setup old rack desk noted window) → Gives setup old new desk desk' result rack rack'
    → GoesBare (sight_of setup old rack desk noted window) (sight_of setup new rack' desk' noted window) × StoppedBy (moment setup new rack' desk') stop
goes_stopped setup old new rack rack' desk desk' noted window stop result is may gave =
    let gives = subst (λ (r : Result (Option LayerInput) Stop). Gives setup old new desk desk' r rack rack') is gave in
    (goes_bare setup old new rack rack' desk desk' noted window (Err stop) may gives gives.ended.given_same, stopped_as setup old new rack rack' desk desk' stop may.quiet gives)
