-- What is kept between the calls is kept by each mark.
use Rattle.std.proofs.Common.{◌≡◌, ℕ, ◌+◌, ◌%◌, ◌^◌, ◌<◌, ⊎_elim, List, length, refl, sym, ap, subst, ◌∙◌, arith}
use Rattle.std.specs.Prelude.{Bool, true, false, ◌&&◌, not, if◌then◌else◌, IfSome, Option, Some, None}
use Rattle.std.proofs.Math.ListN.{set}
use Rattle.std.proofs.Math.Nat.{mod-lt}
use Rattle.std.proofs.lemmas.List.{length-set}
use Rattle.std.proofs.lemmas.Bool.{cases_eq}
use Rattle.rs01_layers.specs.Layout.{layers_of}
use Rattle.rs01_layers.specs.declared.shape.Shape.{Shape}
use Rattle.rs01_layers.proofs.PlaceLemmas.{some_layer}
use Rattle.rs01_intervals.specs.Maximal.{flag_at}
use Rattle.rs01_states.specs.Sparing.{IsUnread, Survey, after_failed, after_good, at_start, found, is_unread, is_within, layer_count, newly_within, settled, state_of}
use Rattle.rs01_states.specs.declared.state.State.{State}
use Rattle.rs01_states.specs.declared.state.State.TheVariants.{Failed, Good}
use Rattle.rs01_states.proofs.SparedLemmas.{none-is-left}
use Rattle.rs01_states.proofs.StateLemmas.{set-elsewhere, set-here, unread-inside}
use Rattle.rs01_linear.specs.declared.asking.Asked.TheVariants as asked
use Rattle.rs01_linear.specs.declared.fate.Fate.{Fate}
use Rattle.rs01_linear.specs.declared.fate.Fate.TheVariants as fate
use Rattle.rs01_turns.specs.Turns.{place_after, states_after, unread_flags}
use Rattle.rs01_turns.proofs.Turning.{flag-of}
use Rattle.rs01_turns.proofs.Unreads.{after-marks, settled-long}
use Rattle.rs01_reader.specs.Courses.{CourseSeen, IsSpared, IsWhole, course_after, failed_course, flag_after}
use Rattle.rs01_reader.proofs.NextLemmas.{flags-are, flags-long}
use Rattle.rs01_reader.proofs.SpareLemmas.{failed-spared, read-unread}
use Rattle.rs01_reader.proofs.TakeLemmas.{taken-elsewhere, taken-here}

same-sectors : (shape : Option Shape) (n m : ℕ) → n ≡ m → IfSome shape (λ given. given.sectors ≡ n) → IfSome shape (λ given. given.sectors ≡ m)
same-sectors shape n m e h = subst (λ (k : ℕ). IfSome shape (λ given. given.sectors ≡ k)) e h

-- a sector that failed

failed-flag : (xs : List State) (flags : List Bool) (s k : ℕ) → IsUnread xs s → flags ≡ unread_flags xs → flag_at (set flags s false) k ≡ is_unread (state_of (set xs s Failed) k)
failed-flag xs flags s k was e = ⊎_elim
    (λ same.
    ap (λ (m : ℕ). flag_at (set flags s false) m) same ∙ taken-here flags s
    ∙ sym (ap (λ (m : ℕ). is_unread (state_of (set xs s Failed) m)) same ∙ ap is_unread (set-here xs s Failed (unread-inside xs s was))))
    (λ d. taken-elsewhere flags s k d ∙ ap (λ (l : List Bool). flag_at l k) e ∙ flag-of xs k ∙ ap is_unread (sym (set-elsewhere xs s k Failed d)))
    (cases_eq k s)

pub failed-whole :
    (shape : Option Shape) (was is : Survey) (flags flags' : List Bool) (fates : List Fate) (s : ℕ) (kind : Fate) → IsWhole shape was flags fates → IsUnread was.states s
    → is ≡ after_failed was s → flags' ≡ set flags s false → IsWhole shape is flags' (set fates s kind)
failed-whole shape was is flags flags' fates s kind w unread e taken =
    let states : is.states ≡ set was.states s Failed = ap (λ (v : Survey). v.states) e in
    let len : length is.states ≡ length was.states = ap length states ∙ length-set was.states s Failed in
    record {
      shape_same = ap (λ (v : Survey). v.shape) e ∙ w.shape_same;
      sectors = same-sectors shape (length was.states) (length is.states) (sym len) w.sectors;
      flags = flags-are is.states flags' (ap length taken ∙ length-set flags s false ∙ ap length w.flags ∙ flags-long was.states ∙ sym len) (λ k below.
          ap (λ (l : List Bool). flag_at l k) taken ∙ failed-flag was.states flags s k unread w.flags ∙ ap (λ (xs : List State). is_unread (state_of xs k)) (sym states));
      fated = length-set fates s kind ∙ w.fated ∙ sym len;
      few = omega (arith, len, w.few);
      spared = subst (λ (xs : List State). IsSpared shape xs) (sym states) (failed-spared shape was.states s unread w.spared);
    }

pub failed-unreadable : (v : CourseSeen) (s : ℕ) → failed_course v s fate.Unreadable ≡ course_after v s asked.Unreadable
unfolding states_after place_after
failed-unreadable v s = refl

pub failed-altered : (v : CourseSeen) (s : ℕ) → failed_course v s fate.Altered ≡ course_after v s asked.Altered
unfolding states_after place_after
failed-altered v s = refl

-- a sector that was read

read-gone : (shape : Option Shape) (xs : List State) (s : ℕ) → IsUnread xs s → is_unread (state_of (settled shape (set xs s Good)) s) ≡ false
unfolding states_after
read-gone shape xs s was = (after-marks shape xs s asked.Read was).gone

newly-there-is : (b : Bool) (l n : ℕ) → l < n → IfSome (if b then Some l else None) (λ layer. layer < n)
newly-there-is true l n h = h
newly-there-is false l n h = tt

-- a layer that came within its bound is one of the layers
pub newly-there : (shape : Option Shape) (s : ℕ) (xs ys : List State) → IfSome (newly_within shape s xs ys) (λ layer. layer < layer_count shape)
newly-there None s xs ys = tt
newly-there (Some h) s xs ys =
    let layers = layers_of h.sectors h.parity in
    newly-there-is (is_within (Some h) (s % layers) ys && not (is_within (Some h) (s % layers) xs)) (s % layers) layers (mod-lt s (some_layer h.sectors h.parity h.in_range))

pub read-whole :
    (shape : Option Shape) (was is : Survey) (flags flags' : List Bool) (fates : List Fate) (s layers : ℕ) (came : Option ℕ) (kind : Fate) → IsWhole shape was flags fates → IsUnread was.states s
    → is ≡ after_good was s → came ≡ newly_within was.shape s was.states is.states → layers ≡ layer_count shape
    → length flags' ≡ length flags → ((k : ℕ) → flag_at flags' k ≡ flag_after came layers s flags k) → IsWhole shape is flags' (set fates s kind)
read-whole shape was is flags flags' fates s layers came kind w unread e came_is layers_is long taken =
    let states : is.states ≡ settled shape (set was.states s Good) = ap (λ (v : Survey). v.states) e ∙ ap (λ (h : Option Shape). settled h (set was.states s Good)) w.shape_same in
    let len : length is.states ≡ length was.states = ap length states ∙ settled-long shape (set was.states s Good) ∙ length-set was.states s Good in
    let newly : came ≡ newly_within shape s was.states (settled shape (set was.states s Good)) =
    came_is ∙ (λ i. newly_within (w.shape_same i) s was.states (states i)) in
    record {
      shape_same = ap (λ (v : Survey). v.shape) e ∙ w.shape_same;
      sectors = same-sectors shape (length was.states) (length is.states) (sym len) w.sectors;
      flags = flags-are is.states flags' (long ∙ ap length w.flags ∙ flags-long was.states ∙ sym len) (λ k below.
          taken k
          ∙ (λ i. flag_after (newly i) (layers_is i) s (w.flags i) k)
          ∙ sym (read-unread shape was.states s k w.spared unread (read-gone shape was.states s unread))
          ∙ ap (λ (xs : List State). is_unread (state_of xs k)) (sym states));
      fated = length-set fates s kind ∙ w.fated ∙ sym len;
      few = omega (arith, len, w.few);
      spared = subst (λ (xs : List State). IsSpared shape xs) (sym states) (none-is-left shape (set was.states s Good));
    }

pub read-seen : (v value : CourseSeen) (new : List State) (s : ℕ) → v ≡ value → new ≡ settled v.shape (set v.states s Good)
    → record v { states = new; place = Some (s + 1); fates = set v.fates s fate.Read } ≡ course_after value s asked.Read
unfolding states_after place_after
read-seen v value new s is e =
    ap (λ (xs : List State). record v { states = xs; place = Some (s + 1); fates = set v.fates s fate.Read }) e
    ∙ ap (λ (w : CourseSeen). course_after w s asked.Read) is

-- the start

pub start-whole :
    (shape : Option Shape) (made : Survey) (good : List Bool) (flags : List Bool) (fates : List Fate) → made ≡ at_start shape good
    → IfSome shape (λ given. given.sectors ≡ length fates) → length made.states ≡ length fates → length flags ≡ length fates
    → ((k : ℕ) → k < length fates → flag_at flags k ≡ is_unread (state_of made.states k)) → length fates < 2 ^ 32 → IsWhole shape made flags fates
start-whole shape made good flags fates e sectors len long same few = record {
  shape_same = ap (λ (v : Survey). v.shape) e;
  sectors = same-sectors shape (length fates) (length made.states) (sym len) sectors;
  flags = flags-are made.states flags (long ∙ sym len) (λ k below. same k (omega (arith, below, len)));
  fated = sym len;
  few = omega (arith, len, few);
  spared = subst (λ (xs : List State). IsSpared shape xs) (sym (ap (λ (v : Survey). v.states) e)) (none-is-left shape (found good));
}
