-- Picking the next settled layer keeps what a reader promises.
use Rattle.std.proofs.Common.{◌≡◌, ℕ, ◌+◌, ◌%◌, ◌<◌, ◌≤◌, ⊎_elim, List, [], ◌∷◌, ◌++◌, refl, sym, ap, subst, ◌∙◌, arith}
use Rattle.std.specs.Prelude.{Contains, Option, Some, None, Ok, Err}
use Rattle.std.proofs.lemmas.Bool.{cases_lt, false≢true, false_from_ne_true}
use Rattle.std.proofs.lemmas.List.Elements.{Contains-append_left, Contains-append_cases, Contains-push}
use Rattle.rs01_outside.specs.DeskState.{DeskState}
use Rattle.rs01_rack.specs.Rack.{RackState}
use Rattle.rs01_states.specs.Sparing.{is_unread, is_within, layer_count}
use Rattle.rs01_turns.specs.Leads.{Leads}
use Rattle.rs01_turns.specs.Moments.{IsReady, Moment, Setting}
use Rattle.rs01_turns.proofs.Layering.{within-goes-on}
use Rattle.rs01_turns.proofs.Leading.{leads-on, look-leads, one-element, ready-on}
use Rattle.rs01_reader.specs.Courses.{CourseSeen, IsSpared, LooksAtAll, LooksTo}
use Rattle.rs01_reader.specs.Settled.{Going, Halted, IsSet, Settled, moment}
use Rattle.rs01_reader.specs.Steps.{Ends, GaveNone, GaveUp, IsWaiting, OnlyAsked, Picked, Picks, ReadsOn, Settles, WriteFailed}
use Rattle.rs01_reader.specs.declared.setup.Setup.{Setup}
use Rattle.rs01_reader.specs.declared.stop.Stop.{Stop}
use Rattle.rs01_reader.proofs.OnLemmas.{rose-from}

-- a settled layer stays so
pub settled-stays : (f g : Moment) (l : ℕ) → Leads f g → Settled f l → Settled g l
settled-stays f g l leads s =
    let count : layer_count g.setting.terms.shape ≡ layer_count f.setting.terms.shape = ap (λ (x : Setting). layer_count x.terms.shape) leads.start.setting in
    record {
      there = subst (λ (n : ℕ). l < n) (sym count) s.there;
      within = within-goes-on f g l leads s.within;
      read = λ k at.
          let was = s.read k (ap (λ (n : ℕ). k % n) (sym count) ∙ at) in
          ap is_unread (leads.stays k was).state_same ∙ was;
    }

-- only what was given differs
pub same-settled : (m : Moment) (given : List ℕ) (l : ℕ) → Settled m l → Settled (record m { given = given }) l
same-settled m given l s = record { there = s.there; within = s.within; read = s.read }

same-ready : (m : Moment) (given : List ℕ) (first : ℕ) → IsReady m → IsReady (record m { given = given; first = first })
same-ready m given first r = record { all = r.all; fated = r.fated; last_fits = r.last_fits; places = r.places }

looked-settled : (m : Moment) (first : ℕ) (given : List ℕ) (l : ℕ) → Settled m l → Settled (record m { given = given; first = first }) l
looked-settled m first given l s = record { there = s.there; within = s.within; read = s.read }

-- all layers were looked at
pub looked-going : (setup : Setup) (c0 c1 : CourseSeen) (rack : RackState) (desk : DeskState) → Going (moment setup c0 rack desk) → LooksAtAll c0 c1 → Going (moment setup c1 rack desk)
looked-going setup c0 c1 rack desk going looks =
    subst (λ (v : CourseSeen). Going (moment setup v rack desk)) (sym looks.new_is) record {
      ready = same-ready (moment setup c0 rack desk) c0.given c1.first going.ready;
      set_up = going.set_up;
      spared = going.spared;
      all_given = λ l there below within. ⊎_elim
          (λ before. going.all_given l there before within)
          (λ from. absurd (false≢true (sym (looks.none l from there) ∙ within)))
          (cases_lt l c0.first);
      given = λ l c.
          let was = going.given l c in
          (looked-settled (moment setup c0 rack desk) c1.first c0.given l was.0, omega (arith, was.0.there, looks.all));
      reads_rise = going.reads_rise;
      writes_rise = going.writes_rise;
    }

pub looked-leads : (setup : Setup) (c0 c1 : CourseSeen) (rack : RackState) (desk : DeskState) (first : ℕ) → c1 ≡ record c0 { first = first } → Leads (moment setup c0 rack desk) (moment setup c1 rack desk)
looked-leads setup c0 c1 rack desk first is =
    subst (λ (v : CourseSeen). Leads (moment setup c0 rack desk) (moment setup v rack desk)) (sym is) (look-leads (moment setup c0 rack desk) first)

-- a layer that was settled at the start
start-picks-at : (setup : Setup) (c0 : CourseSeen) (rack : RackState) (desk : DeskState) (l : ℕ) → Going (moment setup c0 rack desk) → LooksTo c0 (record c0 { first = l + 1 }) l
    → Picked setup c0 (record c0 { first = l + 1 }) desk rack l
start-picks-at setup c0 rack desk l going looks =
    let m = moment setup c0 rack desk in
    let settled : Settled m l = record {
      there = looks.there;
      within = looks.within;
      read = λ k at. false_from_ne_true _ (λ unread. false≢true (sym (going.spared k unread) ∙ ap (λ (n : ℕ). is_within c0.shape n c0.states) at ∙ looks.within));
    } in
    record {
      settled = looked-settled m (l + 1) c0.given l settled;
      fresh = λ c. let below = (going.given l c).1 in let from = looks.from in let never : ⊥ = omega (arith, below, from) in never;
      given_same = refl;
      going = record {
        ready = same-ready m (c0.given ++ l ∷ []) (l + 1) going.ready;
        set_up = going.set_up;
        spared = going.spared;
        all_given = λ k there below within. ⊎_elim
            (λ early. Contains-append_left c0.given (l ∷ []) k (going.all_given k there early within))
            (λ from. ⊎_elim
            (λ before. absurd (false≢true (sym (looks.before k from before) ∙ within)))
            (λ late. let e : k ≡ l = omega (arith, late, below) in subst (λ (n : ℕ). Contains (c0.given ++ l ∷ []) n) (sym e) (Contains-push c0.given l))
            (cases_lt k l))
            (cases_lt k c0.first);
        given = λ k c. ⊎_elim
            (λ old. let was = going.given k old in let from = looks.from in (looked-settled m (l + 1) (c0.given ++ l ∷ []) k was.0, omega (arith, was.1, from)))
            (λ new.
            let e : k ≡ l = one-element l k new in
            (subst (λ (n : ℕ). Settled (record m { given = c0.given ++ l ∷ []; first = l + 1 }) n) (sym e) (looked-settled m (l + 1) (c0.given ++ l ∷ []) l settled), omega (arith, e)))
            (Contains-append_cases c0.given (l ∷ []) k c);
        reads_rise = going.reads_rise;
        writes_rise = going.writes_rise;
      };
    }

pub start-picks : (setup : Setup) (c0 c1 : CourseSeen) (rack : RackState) (desk : DeskState) (l : ℕ) → Going (moment setup c0 rack desk) → LooksTo c0 c1 l → Picked setup c0 c1 desk rack l
start-picks setup c0 c1 rack desk l going looks =
    subst (λ (v : CourseSeen). Picked setup c0 v desk rack l) (sym looks.new_is)
    (start-picks-at setup c0 rack desk l going (subst (λ (v : CourseSeen). LooksTo c0 v l) looks.new_is looks))

-- the counts of faults go on rising
kept-reads : (f g : Moment) → Leads f g → f.kept_reads ≤ f.desk.read_faults → g.kept_reads ≤ g.desk.read_faults
kept-reads f g leads h = let same = leads.start.kept_reads in let rise = leads.desk.reads_rise in omega (arith, h, same, rise)

kept-writes : (f g : Moment) → Leads f g → f.kept_writes ≤ f.desk.write_faults → g.kept_writes ≤ g.desk.write_faults
kept-writes f g leads h = let same = leads.start.kept_writes in let rise = leads.desk.writes_rise in omega (arith, h, same, rise)

-- a layer that was settled by reading on
pub later-picks :
    (setup : Setup) (c0 c1 c2 : CourseSeen) (d1 d2 : DeskState) (r1 r2 : RackState) (l : ℕ) → c1.given ≡ c0.given → Going (moment setup c1 r1 d1) → layer_count c1.shape ≤ c1.first
    → Leads (moment setup c1 r1 d1) (moment setup c2 r2 d2) → OnlyAsked c1 c2 → IsSpared c2.shape c2.states → Settles setup c1 c2 d1 d2 r1 r2 l → Picked setup c0 c2 d2 r2 l
later-picks setup c0 c1 c2 d1 d2 r1 r2 l given going all leads only spared settles =
    let m1 = moment setup c1 r1 d1 in
    let m2 = moment setup c2 r2 d2 in
    let count : layer_count c2.shape ≡ layer_count c1.shape = ap layer_count only.shape_same in
    let first : c2.first ≡ c1.first = only.first_same in
    let held : c2.given ≡ c1.given = only.given_same in
    let more = c2.given ++ l ∷ [] in
    let old : (k : ℕ) → Contains c2.given k → Contains c1.given k = λ k. subst (λ (xs : List ℕ). Contains xs k) held in
    let new : (k : ℕ) → Contains c1.given k → Contains c2.given k = λ k. subst (λ (xs : List ℕ). Contains xs k) (sym held) in
    record {
      settled = settles.settled;
      fresh = λ c. settles.fresh (going.given l (old l c)).0;
      given_same = held ∙ given;
      going = record {
        ready = same-ready m2 more c2.first (ready-on m1 m2 leads going.ready);
        set_up = subst IsSet (sym leads.start.setting) going.set_up;
        spared = spared;
        all_given = λ k there below within. ⊎_elim
            (λ was. Contains-append_left c2.given (l ∷ []) k (new k (going.all_given k (omega (arith, there, count)) (omega (arith, below, first)) was)))
            (λ e. subst (λ (n : ℕ). Contains more n) (sym e) (Contains-push c2.given l))
            (settles.others k within);
        given = λ k c. ⊎_elim
            (λ was. let fits = going.given k (old k was) in (looked-settled m2 c2.first more k (settled-stays m1 m2 k leads fits.0), omega (arith, fits.1, first)))
            (λ now.
            let e : k ≡ l = one-element l k now in
            let there = settles.settled.there in
            (subst (λ (n : ℕ). Settled (record m2 { given = more; first = c2.first }) n) (sym e) (looked-settled m2 c2.first more l settles.settled), omega (arith, e, there, count, all, first)))
            (Contains-append_cases c2.given (l ∷ []) k c);
        reads_rise = kept-reads m1 m2 leads going.reads_rise;
        writes_rise = kept-writes m1 m2 leads going.writes_rise;
      };
    }

-- no layer is left
pub later-none :
    (setup : Setup) (c0 c1 c2 : CourseSeen) (d1 d2 : DeskState) (r1 r2 : RackState) → c1.given ≡ c0.given → Going (moment setup c1 r1 d1) → layer_count c1.shape ≤ c1.first
    → OnlyAsked c1 c2 → Ends c1 c2 → GaveNone setup c0 c2 d2 r2
later-none setup c0 c1 c2 d1 d2 r1 r2 given going all only ends =
    let count : layer_count c2.shape ≡ layer_count c1.shape = ap layer_count only.shape_same in
    let held : c2.given ≡ c1.given = only.given_same in
    record {
      given_same = held ∙ given;
      done = record {
        none_unread = ends.none_unread;
        all_given = λ k there below within. ⊎_elim
            (λ was. subst (λ (xs : List ℕ). Contains xs k) (sym held) (going.all_given k (omega (arith, there, count)) (omega (arith, there, count, all)) was))
            (λ no. absurd no)
            (ends.others k within);
      };
    }

-- writing failed
pub later-stops :
    (setup : Setup) (c0 c1 c2 : CourseSeen) (d1 d2 : DeskState) (r1 r2 : RackState) (stop : Stop) → c1.given ≡ c0.given → Going (moment setup c1 r1 d1)
    → OnlyAsked c1 c2 → WriteFailed d1 d2 stop → GaveUp setup c0 c2 d2 r2 stop
later-stops setup c0 c1 c2 d1 d2 r1 r2 stop given going only failed =
    let kept : c2.kept_writes ≡ c1.kept_writes = only.writes_same in
    let before = going.writes_rise in
    record {
      given_same = only.given_same ∙ given;
      halted = subst (λ (x : Stop). Halted (moment setup c2 r2 d2) x) (sym failed.stop_is) (rose-from c2.kept_writes d1.write_faults d2.write_faults (omega (arith, kept, before)) failed.rose);
    }

-- once all layers were looked at, none waits
none-waiting : (c0 c1 : CourseSeen) (l : ℕ) → LooksAtAll c0 c1 → IsWaiting c0 l → ⊥
none-waiting c0 c1 l looks w = false≢true (sym (looks.none l w.from w.there) ∙ w.within)

-- the one that is found is the lowest of those that wait
pub lowest-first : (c0 c1 : CourseSeen) (l k : ℕ) → LooksTo c0 c1 l → IsWaiting c0 k → l ≤ k
lowest-first c0 c1 l k looks w = ⊎_elim
    (λ before. absurd (false≢true (sym (looks.before k w.from before) ∙ w.within)))
    (λ late. late)
    (cases_lt k l)

-- how the look for a layer ends, by how reading on ended

given-looked : (c0 c1 : CourseSeen) → LooksAtAll c0 c1 → c1.given ≡ c0.given
given-looked c0 c1 looks = ap (λ (v : CourseSeen). v.given) looks.new_is

all-looked : (c0 c1 : CourseSeen) → LooksAtAll c0 c1 → layer_count c1.shape ≤ c1.first
all-looked c0 c1 looks = let same : layer_count c1.shape ≡ layer_count c0.shape = ap (λ (v : CourseSeen). layer_count v.shape) looks.new_is in let all = looks.all in omega (arith, same, all)

leads-after : (setup : Setup) (c0 c1 c2 : CourseSeen) (d1 d2 : DeskState) (r1 r2 : RackState) → LooksAtAll c0 c1 → Leads (moment setup c1 r1 d1) (moment setup c2 r2 d2)
    → Leads (moment setup c0 r1 d1) (moment setup c2 r2 d2)
leads-after setup c0 c1 c2 d1 d2 r1 r2 looks leads =
    leads-on (moment setup c0 r1 d1) (moment setup c1 r1 d1) (moment setup c2 r2 d2) (looked-leads setup c0 c1 r1 d1 c1.first looks.new_is) leads

pub picks-some :
    (setup : Setup) (c0 c1 c2 : CourseSeen) (d1 d2 : DeskState) (r1 r2 : RackState) (o : Option ℕ) (l : ℕ) → Going (moment setup c0 r1 d1) → LooksAtAll c0 c1 → o ≡ Some l
    → ReadsOn setup c1 c2 d1 d2 (Ok o) r1 r2 → Picks setup c0 c2 d1 d2 (Ok (Some l)) r1 r2
picks-some setup c0 c1 c2 d1 d2 r1 r2 o l going looks e reads =
    let found = subst (λ (x : Option ℕ). ReadsOn setup c1 c2 d1 d2 (Ok x) r1 r2) e reads in
    record {
      leads = leads-after setup c0 c1 c2 d1 d2 r1 r2 looks found.leads;
      counts = found.counts;
      picked = later-picks setup c0 c1 c2 d1 d2 r1 r2 l (given-looked c0 c1 looks) (looked-going setup c0 c1 r1 d1 going looks) (all-looked c0 c1 looks) found.leads found.only found.spared found.settles;
      none = tt;
      first = λ k w. absurd (none-waiting c0 c1 k looks w);
      halted = tt;
    }

pub picks-none :
    (setup : Setup) (c0 c1 c2 : CourseSeen) (d1 d2 : DeskState) (r1 r2 : RackState) (o : Option ℕ) → Going (moment setup c0 r1 d1) → LooksAtAll c0 c1 → o ≡ None
    → ReadsOn setup c1 c2 d1 d2 (Ok o) r1 r2 → Picks setup c0 c2 d1 d2 (Ok None) r1 r2
picks-none setup c0 c1 c2 d1 d2 r1 r2 o going looks e reads =
    let found = subst (λ (x : Option ℕ). ReadsOn setup c1 c2 d1 d2 (Ok x) r1 r2) e reads in
    record {
      leads = leads-after setup c0 c1 c2 d1 d2 r1 r2 looks found.leads;
      counts = found.counts;
      picked = tt;
      none = later-none setup c0 c1 c2 d1 d2 r1 r2 (given-looked c0 c1 looks) (looked-going setup c0 c1 r1 d1 going looks) (all-looked c0 c1 looks) found.only found.ends;
      first = λ k w. absurd (none-waiting c0 c1 k looks w);
      halted = tt;
    }

pub picks-stop :
    (setup : Setup) (c0 c1 c2 : CourseSeen) (d1 d2 : DeskState) (r1 r2 : RackState) (stop : Stop) → Going (moment setup c0 r1 d1) → LooksAtAll c0 c1
    → ReadsOn setup c1 c2 d1 d2 (Err stop) r1 r2 → Picks setup c0 c2 d1 d2 (Err stop) r1 r2
picks-stop setup c0 c1 c2 d1 d2 r1 r2 stop going looks reads = record {
  leads = leads-after setup c0 c1 c2 d1 d2 r1 r2 looks reads.leads;
  counts = reads.counts;
  picked = tt;
  none = tt;
  first = λ k w. absurd (none-waiting c0 c1 k looks w);
  halted = later-stops setup c0 c1 c2 d1 d2 r1 r2 stop (given-looked c0 c1 looks) (looked-going setup c0 c1 r1 d1 going looks) reads.only reads.halted;
}
