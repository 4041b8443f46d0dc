use Rattle.std.proofs.Common.{◌≡◌, ◌∙◌, ◌+◌, ◌-◌, ◌*◌, ◌<◌, ℕ, List, length, ap, arith, sym, subst}
use Rattle.rs01_lists.specs.Bytes.{part}
use Rattle.rs01_repair.specs.Finding.{places_in}
use Rattle.rs01_repair.specs.Parts.{IsReadFrom}
use Rattle.rs01_repair.specs.declared.part.Part.{Part}
use Rattle.rs01_repair.proofs.GivenLemmas.{these_left}
use Rattle.rs01_repair.proofs.ParityLemmas.{parity_of_layer}
use Rattle.rs01_repair.proofs.given.take_next.Goals as goal

pub returns-clause-told : goal.returns-clause-told
returns-clause-told c = λ e file these.
    let found = c.args.found.now in
    let batch = c.args.batch.now in
    let at : ℕ = batch.next - batch.first in
    let is : batch.next ≡ batch.first + at = omega (arith, c.requires.held.from) in
    let low : at < length batch.parts.items = omega (arith, c.requires.some, is) in
    c.in_ok-input.ensures.told e file
    (c.parity_piece-parity.ensures ∙ ap (λ (xs : List ℕ). part xs (2048 * c.parity.result * at) (2048 * c.parity.result)) c.deref.ensures.value
    ∙ parity_of_layer found.ecc.head.sectors found.ecc.head.parity batch.first (length batch.parts.items) at batch.next (2048 * c.parity.result) e batch.parity.items is low
    (ap (λ (m : ℕ). 2048 * m) (c.parity.ensures ∙ c.shape.ensures.parity)) these.parity)
    (subst (λ (l : ℕ). IsReadFrom found file l (places_in found) c.take_part-part.result) (sym is)
    (subst (λ (x : Part). IsReadFrom found file (batch.first + at) (places_in found) x) (sym c.take_part-part.ensures.taken)
    (these.read at c.take_part-part.result low (omega (arith, is)))))

pub returns-clause-these : goal.returns-clause-these
returns-clause-these c = λ e file these.
    let found = c.args.found.now in
    these_left found e file c.args.batch.now c.take_part-part.new.parts c.take_part-part.ensures.len
    (λ j d ne. c.take_part-part.ensures.others j d ne) c.requires.held.from these
