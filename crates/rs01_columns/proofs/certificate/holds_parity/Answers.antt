use Rattle.std.proofs.Common.{◌≡◌, ℕ, ◌+◌, ◌-◌, ◌*◌, ◌^◌, ◌≤◌, ◌<◌, List, ◌++◌, length, length-append, get_or, sym, ap, ◌∙◌, arith, ⊎_elim}
use Rattle.std.proofs.lemmas.Bool.{cases_lt}
use Rattle.std.proofs.lemmas.List.{get_or_past}
use Rattle.rs01_poly.specs.Code.{IsCodeword, VanishesAtRoots}
use Rattle.rs01_poly.proofs.Values.{AllBytes, AllBytes-append}
use Rattle.rs01_poly.proofs.Difference.{encoding_is_unique}
use Rattle.rs01_columns.specs.Bank.{lane}
use Rattle.rs01_columns.specs.Certificate.{parity_bytes, unit_word}
use Rattle.rs01_columns.proofs.Laid.{all_bytes}
use Rattle.rs01_columns.proofs.UnitWords.{AllBytes-unit}
use Rattle.rs01_columns.proofs.certificate.holds_parity.Goals as goal

-- what is read from a lane has bytes
bytes_read : (bank parity : List ℕ) (place k : ℕ) → ((p : ℕ) → get_or bank p 0 < 2 ^ 8) → ((j : ℕ) → j < length parity → lane bank place (k + j) ≡ get_or parity j 0)
    → AllBytes parity
bytes_read bank parity place k bytes read j =
    ⊎_elim (λ h. rw (sym (read j h)) (bytes (1088 * (k + j) + place))) (λ g. rw (get_or_past parity j 0 g) (omega arith)) (cases_lt j (length parity))

-- where the word is a codeword, the bytes behind the data are the parity
is_parity : (bank word d parity : List ℕ) (place r : ℕ) → r ≤ 100 → AllBytes d → AllBytes parity → length d ≡ 255 - r → length parity ≡ r
    → word ≡ d ++ parity → VanishesAtRoots word r → ((j : ℕ) → j < length parity → lane bank place (255 - r + j) ≡ get_or parity j 0)
    → (j : ℕ) → j < r → lane bank place (255 - r + j) ≡ parity_bytes d j
is_parity bank word d parity place r most hd hp long count joined zero read j h =
    let code : IsCodeword (d ++ parity) r = record {
      whole = length-append d parity ∙ omega arith;
      bytes = all_bytes (d ++ parity) (AllBytes-append d parity hd hp);
      vanishes = rw joined at zero;
    } in
    read j (omega arith) ∙ ap (λ q. get_or q j 0) (encoding_is_unique d parity hd hp (omega arith) (rw (sym count) at code))

pub returns : goal.returns
returns c = λ yes j h.
    let unit : List ℕ = unit_word (255 - c.args.r) c.args.place in
    let d : List ℕ = c.write_unit_word.new.word in
    let made : d ≡ unit = c.write_unit_word.ensures ∙ ap (λ n. unit_word n c.args.place) c.requires.buffers.whole in
    let count : length c.read_lane.new.bytes ≡ c.args.r = c.read_lane.auto.bytes ∙ c.requires.buffers.parity in
    let bytes : AllBytes d = rw made (AllBytes-unit c.args.place (255 - c.args.r - (c.args.place + 1))) in
    is_parity c.args.bank.now c.join.new.word d c.read_lane.new.bytes c.args.place c.args.r c.requires.buffers.few bytes
    (bytes_read c.args.bank.now c.read_lane.new.bytes c.args.place (255 - c.args.r) (λ p. (c.type_inv.bank p).fits) (λ m l. c.read_lane.ensures m (omega arith)))
    (c.write_unit_word.auto.word ∙ c.requires.buffers.whole) count c.join.ensures (c.vanishes.ensures yes) (λ m l. c.read_lane.ensures m (omega arith)) j h
    ∙ ap (λ w. parity_bytes w j) made
