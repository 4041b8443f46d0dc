-- One ask for the next sector, by what the code's parts leave.
use Rattle.std.proofs.Common.{◌≡◌, ℕ, ◌*◌, ◌<◌, List, length, take, sym, ap, subst, arith}
use Rattle.std.specs.Prelude.{IsTrue, Option, Some, Result, is_err}
use Rattle.std.specs.Option.{option_map}
use Rattle.rs01_outside.specs.DeskState.{DeskState, OnlyChanges}
use Rattle.rs01_outside.specs.Files.{WritesAt}
use Rattle.rs01_outside.specs.declared.Failed.{Failed}
use Rattle.rs01_layers.specs.Sectors.{length_of}
use Rattle.rs01_layers.specs.declared.extent.Extent.{Extent}
use Rattle.rs01_ecchead.specs.Erased.{Known}
use Rattle.rs01_rack.specs.Rack.{AllRose, RackState}
use Rattle.rs01_states.specs.Sparing.{IsUnread}
use Rattle.rs01_states.specs.declared.state.State.{State}
use Rattle.rs01_states.proofs.StateLemmas.{unread-inside}
use Rattle.rs01_linear.specs.Asking.{Asks, known_with}
use Rattle.rs01_linear.specs.Medium.{known_of}
use Rattle.rs01_linear.specs.declared.asking.Asked.{Asked}
use Rattle.rs01_linear.specs.declared.asking.Asked.TheVariants.{Altered, Read, Unreadable}
use Rattle.rs01_linear.specs.declared.medium.Medium.{Medium}
use Rattle.rs01_turns.specs.Laws.{Puts, PutsIfRead}
use Rattle.rs01_turns.specs.Leads.{Leads}
use Rattle.rs01_turns.specs.Moments.{IsReady, Moment}
use Rattle.rs01_turns.specs.Turns.{next_sector}
use Rattle.rs01_turns.proofs.Asking.{ask-leads}
use Rattle.rs01_turns.proofs.Turning.{next-unread}
use Rattle.rs01_reader.specs.Courses.{CourseSeen, course_after}
use Rattle.rs01_reader.specs.Settled.{moment}
use Rattle.rs01_reader.specs.Steps.{OnlyAsked}
use Rattle.rs01_reader.specs.declared.setup.Setup.{Setup}

pub next-inside : (states : List State) (place : Option ℕ) (s n : ℕ) → next_sector states place ≡ Some s → length states ≡ n → s < n
next-inside states place s n next all = let there = unread-inside states s (next-unread states place s next) in omega (arith, there, all)

-- what is next is unread
pub next-is-unread : (states : List State) (place : Option ℕ) (s : ℕ) → next_sector states place ≡ Some s → IsUnread states s
next-is-unread states place s next = next-unread states place s next

pub ruleset next_facts = (next-is-unread)

pub only-asked : (old new : CourseSeen) (s : ℕ) (a : Asked) → new ≡ course_after old s a → OnlyAsked old new
only-asked old new s a is = record {
  shape_same = ap (λ (v : CourseSeen). v.shape) is;
  given_same = ap (λ (v : CourseSeen). v.given) is;
  first_same = ap (λ (v : CourseSeen). v.first) is;
  reads_same = ap (λ (v : CourseSeen). v.kept_reads) is;
  writes_same = ap (λ (v : CourseSeen). v.kept_writes) is;
}

-- the moments of the ask
pub ask-goes-on :
    (setup : Setup) (old new : CourseSeen) (desk desk' : DeskState) (rack rack' : RackState) (s : ℕ) (block : List ℕ) (a : Asked)
    → IsReady (moment setup old rack desk) → next_sector old.states old.place ≡ Some s → new ≡ course_after old s a
    → Asks (known_of setup.medium.now) s setup.tries block a rack rack' → (a ≡ Unreadable → AllRose 0 rack rack') → length block ≡ 2048
    → PutsIfRead (moment setup old rack desk) (moment setup new rack' desk') s block a → Leads (moment setup old rack desk) (moment setup new rack' desk')
ask-goes-on setup old new desk desk' rack rack' s block a ready next is asks cause len puts =
    ask-leads (moment setup old rack desk) (moment setup new rack' desk') s block a ready next record {
      asks = asks;
      cause = cause;
      len = len;
      marks = ap (λ (v : CourseSeen). moment setup v rack' desk') is;
      puts = puts;
    }

-- by what is known of the medium
pub asks-medium : (medium : Medium) (extent : Extent) (sums : Option (List ℕ)) (s tries : ℕ) (block : List ℕ) (a : Asked) (rack rack' : RackState)
    → extent ≡ medium.extent → sums ≡ option_map (λ ecc. ecc.sums.list) medium.ecc → Asks (known_with extent sums) s tries block a rack rack'
    → Asks (known_of medium) s tries block a rack rack'
asks-medium medium extent sums s tries block a rack rack' e f asks =
    subst (λ (k : Known). Asks k s tries block a rack rack') (λ i. known_with (e i) (f i)) asks

pub put-if-read :
    (f g : Moment) (s : ℕ) (block : List ℕ) (a : Asked) (written : Result Unit Failed) → a ≡ Read → Puts f g s block written → PutsIfRead f g s block a
put-if-read f g s block a written e puts = subst (λ (x : Asked). PutsIfRead f g s block x) (sym e) (written, puts)

pub put-if-unreadable : (f g : Moment) (s : ℕ) (block : List ℕ) (a : Asked) → a ≡ Unreadable → g.desk ≡ f.desk → PutsIfRead f g s block a
put-if-unreadable f g s block a e same = subst (λ (x : Asked). PutsIfRead f g s block x) (sym e) same

pub put-if-altered : (f g : Moment) (s : ℕ) (block : List ℕ) (a : Asked) → a ≡ Altered → g.desk ≡ f.desk → PutsIfRead f g s block a
put-if-altered f g s block a e same = subst (λ (x : Asked). PutsIfRead f g s block x) (sym e) same

pub put-by :
    (setup : Setup) (old new : CourseSeen) (desk desk' : DeskState) (rack rack' : RackState) (extent : Extent) (s : ℕ) (block : List ℕ) (a : Asked) (written : Result Unit Failed)
    → a ≡ Read → extent ≡ setup.medium.now.extent → OnlyChanges setup.image.now desk desk' (is_err written)
    → (IsTrue desk.tells → WritesAt desk.files desk'.files setup.image.now (2048 * s) (take (length_of extent.sectors extent.last_bytes s) block) written)
    → PutsIfRead (moment setup old rack desk) (moment setup new rack' desk') s block a
put-by setup old new desk desk' rack rack' extent s block a written is e only put =
    put-if-read (moment setup old rack desk) (moment setup new rack' desk') s block a written is record {
      only = only;
      put = λ t. subst (λ (x : Extent). WritesAt desk.files desk'.files setup.image.now (2048 * s) (take (length_of x.sectors x.last_bytes s) block) written) e (put t);
    }
