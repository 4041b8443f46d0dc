use Rattle.std.proofs.Common.{◌≡◌, ℕ, ◌+◌, ◌<◌, ◌≤◌, List, length, get_or, drop, arith, sym, ap, ◌∙◌}
use Rattle.std.proofs.lemmas.List.{at_drop_more, at_drop_all}
use Rattle.rs01_sums.specs.Crc.{after_bits, after_bytes, bits}
use Rattle.rs01_sums.proofs.checksum.after_each.Goals as goal

next_byte : (bytes : List ℕ) (state next i all : ℕ) → i < length bytes → next ≡ after_bits state (bits 8 (get_or bytes i 0))
    → after_bytes state (drop i bytes) ≡ all → after_bytes next (drop (i + 1) bytes) ≡ all
unfolding after_bytes
next_byte bytes state next i all h e held =
    ap (λ s. after_bytes s (drop (i + 1) bytes)) e ∙ sym (at_drop_more (after_bytes state) bytes i 0 h) ∙ held

last_byte : (bytes : List ℕ) (state i all : ℕ) → length bytes ≤ i → after_bytes state (drop i bytes) ≡ all → state ≡ all
unfolding after_bytes
last_byte bytes state i all h held = sym (at_drop_all (after_bytes state) bytes i h) ∙ held

pub loop-byte-preserved : goal.loop-byte-preserved
loop-byte-preserved c = next_byte c.args.bytes.now c.loop-byte.state _ c.loop-byte.byte-index _ (omega arith) c.after_byte-state.ensures c.loop-byte.invariant

pub returns : goal.returns
returns c = last_byte c.args.bytes.now c.loop-byte.state c.loop-byte.byte-index _ (omega arith) c.loop-byte.invariant
