-- A reader that went on until no sector was unread has done the whole rest of the reading.
use Rattle.std.proofs.Common.{◌≡◌, ℕ, ◌+◌, ◌-◌, ⊎_elim, List, sym, ap, subst, ◌∙◌, arith, take}
use Rattle.rs01_outside.specs.Causes.{Rose}
use Rattle.rs01_rack.specs.Rack.{capped, views_of}
use Rattle.rs01_states.specs.declared.state.State.{State}
use Rattle.rs01_states.specs.declared.state.State.TheVariants.{Good}
use Rattle.rs01_linear.specs.Lasting.{asks_in}
use Rattle.rs01_turns.specs.Turns.{Reading}
use Rattle.rs01_turns.specs.Moments.{Moment, bytes_at, length_at, reading_at, rest_of, terms_of}
use Rattle.rs01_turns.specs.Leads.{Became, IsWritten}
use Rattle.rs01_turns.specs.Laws.{WholeReading}
use Rattle.rs01_turns.proofs.Turning.{rest-of-done}

pub wholly-written : (f g : Moment) (s : ℕ) (block : List ℕ) → (Rose f.desk.write_faults g.desk.write_faults → ⊥) → IsWritten f g s block → bytes_at g s ≡ take (length_at f s) block
wholly-written f g s block none written = ⊎_elim (λ e. e) (λ m. absurd (none m.0)) written

no-more : (asks n : ℕ) → capped (asks + (n - n)) ≡ capped asks
no-more asks n = omega arith

pub whole-reading : WholeReading
whole-reading f g leads none t =
    let done : rest_of g ≡ reading_at g = rest-of-done (terms_of g) (reading_at g) none in
    record {
      end_is = sym done ∙ (leads.rest t).end;
      asks_are =
          sym (no-more g.rack.asks (asks_in (views_of g.rack)))
          ∙ ap (λ (r : Reading). capped (g.rack.asks + (asks_in r.views - asks_in (views_of g.rack)))) (sym done)
          ∙ (leads.rest t).asks;
      blocks = λ it no s unread good.
          let w : Became f g s Good = subst (λ (x : State). Became f g s x) good (leads.became s unread) in
          let told = w.told t in
          (told.0, told.1.read, wholly-written f g s told.0 no (told.1.written it));
    }
