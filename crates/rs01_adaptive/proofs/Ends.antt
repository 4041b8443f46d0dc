-- What the whole reading makes of each sector.
use Rattle.std.proofs.Common.{◌≡◌, ℕ, ◌<◌, ⊎_elim, refl, sym, ap, subst, ◌∙◌}
use Rattle.std.specs.Prelude.{Bool, true, false, not, if◌then◌else◌, Option, Some, None}
use Rattle.rs01_states.specs.Sparing.{is_open, is_unread, state_of}
use Rattle.rs01_states.specs.declared.state.State.{State}
use Rattle.rs01_states.specs.declared.state.State.TheVariants as state
use Rattle.rs01_linear.specs.Asking.{Asking, kind_of}
use Rattle.rs01_linear.specs.Course.{fate_of}
use Rattle.rs01_linear.specs.Report.{is_told}
use Rattle.rs01_linear.specs.declared.asking.Asked.{Asked}
use Rattle.rs01_linear.specs.declared.asking.Asked.TheVariants as asked
use Rattle.rs01_linear.specs.declared.fate.Fate.{Fate}
use Rattle.rs01_linear.specs.declared.fate.Fate.TheVariants.{Kept, LeftOut}
use Rattle.rs01_linear.specs.declared.telling.Told.TheVariants as told
use Rattle.rs01_turns.specs.Ends.{IsStateBy, state_by}
use Rattle.rs01_turns.proofs.Ending.{others-are-left, unread-ends}
use Rattle.rs01_adaptive.specs.Sights.{fate_by}
use Rattle.rs01_adaptive.specs.Whole.{Whole, asking_in, end_in, fate_asked, fate_in, is_lacking, is_open_in, known_in, start_in, terms_in}
use Rattle.rs01_adaptive.proofs.Starting.{IsStart, start_state}

-- one that the image file has stays good, and any other one is what asking for it gives
abbrev pub EndsBy : Bool → Option Asking → State → Type 0
EndsBy true asking x = IsStateBy asking x
EndsBy false asking x = x ≡ state.Good

ends-by : (w : Whole) (k : ℕ) (b : Bool) → IsStart (not b) (state_of (start_in w).states k) → EndsBy b (asking_in w k) (state_of (end_in w).states k)
unfolding end_in asking_in
ends-by w k false is = (others-are-left (terms_in w) (start_in w) k (ap is_unread is)).same ∙ is
ends-by w k true still = ⊎_elim
    (λ unread. unread-ends (terms_in w) (start_in w) k unread)
    (λ spared.
    let left = others-are-left (terms_in w) (start_in w) k (ap is_unread spared) in
    subst (λ (o : Option Asking). IsStateBy o (state_of (end_in w).states k)) (sym left.unasked) (left.same ∙ spared))
    still

pub sector_ends : (w : Whole) (k : ℕ) → k < (known_in w).sectors → EndsBy (is_lacking w k) (asking_in w k) (state_of (end_in w).states k)
sector_ends w k below = ends-by w k (is_lacking w k) (start_state w.shape (λ s. not (is_lacking w s)) (known_in w).sectors k below)

-- what became of it is told by its state
by-state : (kind : Asked) (last : Fate) → fate_by (state_by kind) last ≡ last
by-state asked.Read last = refl
by-state asked.Unreadable last = refl
by-state asked.Altered last = refl

fate-ends : (b : Bool) (asking : Option Asking) (x : State) → EndsBy b asking x → fate_by x (if b then fate_asked asking else Kept) ≡ (if b then fate_asked asking else Kept)
fate-ends false asking x is = ap (λ (y : State). fate_by y Kept) is
fate-ends true None x is = ap (λ (y : State). fate_by y LeftOut) is
fate-ends true (Some a) x is = ap (λ (y : State). fate_by y (fate_of (kind_of a))) is ∙ by-state (kind_of a) (fate_of (kind_of a))

pub fate_ends : (w : Whole) (k : ℕ) → k < (known_in w).sectors → fate_by (state_of (end_in w).states k) (fate_in w k) ≡ fate_in w k
fate_ends w k below = fate-ends (is_lacking w k) (asking_in w k) (state_of (end_in w).states k) (sector_ends w k below)

-- it is among the lost ones unless it is good
lost-by : (kind : Asked) → is_told told.Lost (fate_of kind) ≡ is_open (state_by kind)
lost-by asked.Read = refl
lost-by asked.Unreadable = refl
lost-by asked.Altered = refl

lost-ends : (b : Bool) (asking : Option Asking) (x : State) → EndsBy b asking x → is_told told.Lost (if b then fate_asked asking else Kept) ≡ is_open x
lost-ends false asking x is = ap is_open (sym is)
lost-ends true None x is = ap is_open (sym is)
lost-ends true (Some a) x is = lost-by (kind_of a) ∙ ap is_open (sym is)

pub lost_ends : (w : Whole) (k : ℕ) → k < (known_in w).sectors → is_told told.Lost (fate_in w k) ≡ is_open_in w k
lost_ends w k below = lost-ends (is_lacking w k) (asking_in w k) (state_of (end_in w).states k) (sector_ends w k below)
