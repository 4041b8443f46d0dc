-- Going through the drives from one on, until one gives the block.
use Rattle.std.proofs.Common.{◌≡◌, ℕ, suc, ◌+◌, ◌-◌, ◌*◌, ◌^◌, ◌<◌, ◌≤◌, ◌∙◌, ap, arith, sym, refl, List, Some, None, length, ⊎_elim}
use Rattle.std.specs.Prelude.{slice_get}
use Rattle.std.proofs.Math.Nat.{mul-suc}
use Rattle.std.proofs.lemmas.Bool.{cases_lt}
use Rattle.std.proofs.lemmas.Option.{slice_get_within}
use Rattle.rs01_outside.specs.DriveState.{DriveState}
use Rattle.rs01_rack.specs.Asking.{AllTried, GaveBlock, GaveNone, IsTried}
use Rattle.rs01_rack.specs.Rack.{AllRose, ChangesAt, RackState, SameBefore, SameFrom, capped}
use Rattle.rs01_rack.proofs.Places.{at_same, drop_more, same_before, same_from, take_fewer}

-- the drives from the first on to a place were tried in vain, and no other one was asked
pub record UpTo (sector tries first place : ℕ) (old now : RackState) : Type 0 where
  pub number : length now.drives ≡ length old.drives
  pub from : first ≤ place
  pub stays : length old.drives ≤ first → place ≡ first
  pub before : SameBefore first now.drives old.drives
  pub vain : AllTried sector tries first place old.drives now.drives
  pub behind : SameFrom place now.drives old.drives
  pub asks : now.asks ≡ capped (old.asks + tries * (place - first))

pub walk_start : (sector tries first : ℕ) (rack : RackState) → rack.asks < 2 ^ 128 → UpTo sector tries first first rack rack
walk_start sector tries first rack small = record {
  number = refl;
  from = omega arith;
  stays = λ past. refl;
  before = refl;
  vain = λ k from below b a was is. absurd (omega (arith, from, below));
  behind = refl;
  asks =
      let none : tries * (first - first) ≡ 0 = ap (λ n. tries * n) (let e : first - first ≡ 0 = omega arith in e) ∙ (let e : tries * 0 ≡ 0 = omega arith in e) in
      omega (arith, none, small);
}

-- the drives that were tried stay as they are
tried_before : (sector tries first place : ℕ) (old now new : List DriveState) → AllTried sector tries first place old now → SameBefore place new now
    → AllTried sector tries first place old new
tried_before sector tries first place old now new so_far before k from below b a was is =
    so_far k from below b a was (sym (same_before new now place k before below) ∙ is)

-- one drive more was tried in vain
tried_more : (sector tries first place : ℕ) (old now new : List DriveState) → AllTried sector tries first place old now → SameFrom place now old
    → ChangesAt place (IsTried sector tries None tries) now new → AllTried sector tries first (place + 1) old new
tried_more sector tries first place old now new so_far behind changes k from below b a was is =
    ⊎_elim
    (λ low. tried_before sector tries first place old now new so_far changes.before k from low b a was is)
    (λ high.
    let here : k ≡ place = omega arith in
    let there : slice_get now place ≡ Some b = same_from now old place place behind (omega arith) ∙ ap (slice_get old) (sym here) ∙ was in
    changes.here b a there (ap (slice_get new) (sym here) ∙ is))
    (cases_lt k place)

-- the count of asks, after one drive more
asks_more : (asks tries passed now then : ℕ) → now ≡ capped (asks + tries * passed) → then ≡ capped (now + tries) → then ≡ capped (asks + tries * (passed + 1))
asks_more asks tries passed now then so_far more =
    let product : tries * (passed + 1) ≡ tries * passed + tries = ap (λ n. tries * n) (let e : passed + 1 ≡ suc passed = omega arith in e) ∙ mul-suc tries passed in
    omega (arith, so_far, more, product)

asks_last : (asks before count now then : ℕ) → now ≡ capped (asks + before) → then ≡ capped (now + count) → then ≡ capped (asks + before + count)
asks_last asks before count now then so_far more = omega (arith, so_far, more)

pub walk_on : (sector tries first place : ℕ) (old now new : RackState) → UpTo sector tries first place old now → place < length old.drives
    → ChangesAt place (IsTried sector tries None tries) now.drives new.drives → new.asks ≡ capped (now.asks + tries) → UpTo sector tries first (place + 1) old new
walk_on sector tries first place old now new up inside changes asks =
    let e : place + 1 - first ≡ place - first + 1 = omega (arith, up.from) in
    record {
      number = changes.number ∙ up.number;
      from = omega (arith, up.from);
      stays = λ past. absurd (omega (arith, past, up.from, inside));
      before = take_fewer new.drives now.drives first place up.from changes.before ∙ up.before;
      vain = tried_more sector tries first place old.drives now.drives new.drives up.vain up.behind changes;
      behind = changes.behind ∙ drop_more now.drives old.drives (place + 1) place (omega arith) up.behind;
      asks = asks_more old.asks tries (place - first) now.asks new.asks up.asks asks ∙ ap (λ n. capped (old.asks + tries * n)) (sym e);
    }

pub walk_found : (sector tries first place count : ℕ) (block : List ℕ) (old now new : RackState) → UpTo sector tries first place old now → place < length old.drives
    → ChangesAt place (IsTried sector tries (Some block) count) now.drives new.drives → new.asks ≡ capped (now.asks + count)
    → GaveBlock sector tries first place block old new
walk_found sector tries first place count block old now new up inside changes asks = record {
  from = up.from;
  inside = inside;
  number = changes.number ∙ up.number;
  before = take_fewer new.drives now.drives first place up.from changes.before ∙ up.before;
  vain = tried_before sector tries first place old.drives now.drives new.drives up.vain changes.before;
  count = count;
  here =
      at_same old.drives now.drives new.drives place (IsTried sector tries (Some block) count) (same_from now.drives old.drives place place up.behind (omega arith)) changes.here;
  behind = changes.behind ∙ drop_more now.drives old.drives (place + 1) place (omega arith) up.behind;
  asks = asks_last old.asks (tries * (place - first)) count now.asks new.asks up.asks asks;
}

-- how far a walk from a place on came, whether it began below the end or not
same_gap : (first place len : ℕ) → len ≤ place → (len ≤ first → place ≡ first) → (first ≤ len → place ≤ len) → place - first ≡ len - first
same_gap first place len past stays upto =
    ⊎_elim
    (λ low. let e = upto (omega (arith, low)) in omega (arith, e, past))
    (λ high. let e = stays high in omega (arith, e, high))
    (cases_lt first len)

pub walk_end : (sector tries first place : ℕ) (old now : RackState) → UpTo sector tries first place old now → length old.drives ≤ place
    → (first ≤ length old.drives → place ≤ length old.drives) → GaveNone sector tries first old now
walk_end sector tries first place old now up past upto = record {
  number = up.number;
  before = up.before;
  vain = λ k from below. up.vain k from (omega (arith, past, below));
  asks = up.asks ∙ ap (λ n. capped (old.asks + tries * n)) (same_gap first place (length old.drives) past up.stays upto);
}

-- where none gave the block, the count of each drive that was asked rose
pub none_rose : (sector tries first : ℕ) (old new : RackState) → 1 ≤ tries → GaveNone sector tries first old new → AllRose first old new
none_rose sector tries first old new some none k from b a was is =
    let tried = none.vain k from (slice_get_within old.drives k b was) b a was is in
    omega (arith, tried.rose, some)
