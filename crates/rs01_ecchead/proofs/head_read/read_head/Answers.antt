use Rattle.std.proofs.Common.{ℕ, ap, ◌∙◌, sym, arith}
use Rattle.std.specs.Prelude.{Ok, if◌then◌else◌, ◌==◌}
use Rattle.rs01_ecchead.specs.Header.{head_of, fields_at}
use Rattle.rs01_ecchead.proofs.Accepted.{accepted, no_cookie}
use Rattle.rs01_ecchead.proofs.head_read.read_head.Goals as goal

pub returns-then-not-has_text : goal.returns-then-not-has_text
returns-then-not-has_text c = no_cookie _ _ c.has_text.ensures c.if-not-has_text.true

pub returns : goal.returns
unfolding head_of fields_at
returns c =
    accepted _ _ _ _ _ _ _ _ (sym c.has_text.ensures ∙ c.if-not-has_text.false) (sym c.has_text-2.ensures ∙ c.if-not-has_text-2.false)
    (omega arith) (omega arith) (omega arith) (omega arith) (omega arith) (omega arith) (omega arith)
    ∙ ap Ok (λ i. record {
      flags = sym c.number.ensures i;
      fingerprint = sym c.digest_at.ensures i;
      image_sum = sym c.digest_at-2.ensures i;
      body_sum = sym c.digest_at-3.ensures i;
      sectors = sym c.wide_number-sectors.ensures i;
      parity = sym c.number-parity.ensures i;
      creator = sym c.number-2.ensures i;
      needed = sym c.number-needed.ensures i;
      mark_sector = sym c.number-3.ensures i;
      last_bytes = (ap (λ (n : ℕ). if n == 0 then 2048 else n) (sym c.number-last_bytes.ensures) ∙ sym c.full_or.ensures.value) i;
    })
