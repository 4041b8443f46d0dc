-- Trying a drive again and again.
use Rattle.std.proofs.Common.{◌≡◌, ℕ, suc, ◌+◌, ◌-◌, ◌<◌, ◌≤◌, ◌∙◌, ap, arith, sym, refl, List, Some, None, Ok, Err, cond}
use Rattle.std.specs.Prelude.{is_some, IsTrue}
use Rattle.rs01_outside.specs.DriveState.{DriveState}
use Rattle.rs01_outside.specs.DriveView.{DriveView, answer_at, ask}
use Rattle.rs01_rack.specs.Asking.{IsTried, Reads, RoseBy, Tried, once_more, try_drive}

-- what a drive gives after so many tries that gave nothing
abbrev pub after_fails : ℕ → Tried → Tried
after_fails n tried = record tried { count = tried.count + n }

try_drive-None : (view : DriveView) (sector tries : ℕ) → answer_at view sector ≡ None → try_drive view sector (suc tries) ≡ once_more (try_drive (ask view sector) sector tries)
unfolding try_drive
try_drive-None view sector tries none =
    ap (λ o. cond (is_some o) (record { view = ask view sector; block = answer_at view sector; count = 1 }) (once_more (try_drive (ask view sector) sector tries))) none

try_drive-Some : (view : DriveView) (sector tries : ℕ) (block : List ℕ) → answer_at view sector ≡ Some block → try_drive view sector (suc tries) ≡ record { view = ask view sector; block = Some block; count = 1 }
unfolding try_drive
try_drive-Some view sector tries block some =
    ap (λ o. cond (is_some o) (record { view = ask view sector; block = answer_at view sector; count = 1 }) (once_more (try_drive (ask view sector) sector tries))) some ∙
    ap (λ o. record { view = ask view sector; block = o; count = 1 }) some

pub try_drive-zero : (view : DriveView) (sector : ℕ) → try_drive view sector 0 ≡ record { view = view; block = None; count = 0 }
unfolding try_drive
try_drive-zero view sector = refl

-- a chain of failed tries: what the first view gives is what the last one gives after so many of them
abbrev pub HasFailed : ℕ → ℕ → DriveView → DriveView → Type 0
HasFailed sector failed first now = (rest : ℕ) → try_drive first sector (failed + rest) ≡ after_fails failed (try_drive now sector rest)

pub no_fail : (sector : ℕ) (view : DriveView) → HasFailed sector 0 view view
no_fail sector view rest =
    let e : 0 + rest ≡ rest = omega arith in
    let same : (try_drive view sector rest).count ≡ (try_drive view sector rest).count + 0 = omega arith in
    ap (try_drive view sector) e ∙ ap (λ n. record (try_drive view sector rest) { count = n }) same

pub one_more_fail : (sector failed : ℕ) (first now : DriveView) → HasFailed sector failed first now → answer_at now sector ≡ None → HasFailed sector (failed + 1) first (ask now sector)
one_more_fail sector failed first now so_far none rest =
    let e : failed + 1 + rest ≡ failed + suc rest = omega arith in
    let last = try_drive (ask now sector) sector rest in
    let count : last.count + 1 + failed ≡ last.count + (failed + 1) = omega arith in
    ap (try_drive first sector) e ∙ so_far (suc rest) ∙ ap (after_fails failed) (try_drive-None now sector rest none) ∙ ap (λ n. record last { count = n }) count

-- the try that gives the block
pub block_came : (sector failed tries : ℕ) (first now : DriveView) (block : List ℕ) → failed < tries → HasFailed sector failed first now → answer_at now sector ≡ Some block
    → try_drive first sector tries ≡ record { view = ask now sector; block = Some block; count = failed + 1 }
block_came sector failed tries first now block less so_far some =
    let e : tries ≡ failed + suc (tries - failed - 1) = omega arith in
    let count : 1 + failed ≡ failed + 1 = omega arith in
    ap (try_drive first sector) e ∙ so_far (suc (tries - failed - 1)) ∙ ap (after_fails failed) (try_drive-Some now sector (tries - failed - 1) block some)
    ∙ ap (λ n. record { view = ask now sector; block = Some block; count = n }) count

-- no try gave one
pub none_came : (sector failed tries : ℕ) (first now : DriveView) → failed ≡ tries → HasFailed sector failed first now → try_drive first sector tries ≡ record { view = now; block = None; count = tries }
none_came sector failed tries first now all so_far =
    let e : tries ≡ failed + 0 = omega arith in
    let count : 0 + failed ≡ tries = omega arith in
    ap (try_drive first sector) e ∙ so_far 0 ∙ ap (after_fails failed) (try_drive-zero now sector) ∙ ap (λ n. record { view = now; block = None; count = n }) count

-- a drive that gave no block in so many tries
pub record InVain (sector failed : ℕ) (before now : DriveState) : Type 0 where
  pub told_before : IsTrue now.tells → IsTrue before.tells
  pub told : IsTrue now.tells → HasFailed sector failed before.view now.view
  pub later : before.faults ≤ now.faults
  pub rose : RoseBy failed before.faults now.faults
  pub kept : failed ≡ 0 → now.faults ≡ before.faults

pub vain_start : (sector : ℕ) (drive : DriveState) → InVain sector 0 drive drive
vain_start sector drive = record {
  told_before = λ t. t;
  told = λ t. no_fail sector drive.view;
  later = omega arith;
  rose = omega arith;
  kept = λ none. refl;
}

-- one try more gave no block
pub vain_on : {E : Type 0} (sector failed : ℕ) (block : List ℕ) (e : E) (before now next : DriveState)
    → InVain sector failed before now → Reads sector block (Err e) now next → InVain sector (failed + 1) before next
vain_on sector failed block e before now next vain read = record {
  told_before = λ t. vain.told_before (read.state.told_before t);
  told = λ t rest.
      one_more_fail sector failed before.view now.view (vain.told (read.state.told_before t)) (read.told t) rest
      ∙ ap (λ v. after_fails (failed + 1) (try_drive v sector rest)) (sym (read.state.view_is t));
  later = omega (arith, vain.later, read.state.later);
  rose = omega (arith, vain.rose, read.state.rose refl);
  kept = λ none. absurd (omega (arith, none));
}

-- the next try gave the block
pub vain_found : {E : Type 0} (sector failed tries : ℕ) (block : List ℕ) (given : Unit {0}) (before now next : DriveState) → failed < tries
    → InVain sector failed before now → Reads {E = E} sector block (Ok given) now next → IsTried sector tries (Some block) (failed + 1) before next
vain_found sector failed tries block given before now next less vain read =
    let same = read.state.kept refl in
    record {
      told_before = λ t. vain.told_before (read.state.told_before t);
      told = λ t.
          block_came sector failed tries before.view now.view block less (vain.told (read.state.told_before t)) (read.told t)
          ∙ ap (λ v. record { view = v; block = Some block; count = failed + 1 }) (sym (read.state.view_is t));
      later = omega (arith, vain.later, same);
      rose = omega (arith, vain.rose, same);
      kept = λ none. same ∙ vain.kept (omega (arith, none));
      some = omega arith;
      most = omega (arith, less);
    }

-- no try gave the block
pub vain_end : (sector failed tries : ℕ) (before now : DriveState) → failed ≡ tries → 1 ≤ tries → InVain sector failed before now
    → IsTried sector tries None tries before now
vain_end sector failed tries before now all some vain = record {
  told_before = vain.told_before;
  told = λ t. none_came sector failed tries before.view now.view all (vain.told t);
  later = vain.later;
  rose = omega (arith, vain.rose, all);
  kept = λ none. absurd (omega (arith, none, some));
  some = some;
  most = omega arith;
}
