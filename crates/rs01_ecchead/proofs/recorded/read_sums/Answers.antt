use Rattle.std.proofs.Common.{rules, ◌≡◌, ◌∙◌, ◌+◌, ◌-◌, ◌*◌, ◌/◌, ◌%◌, ◌≤◌, ◌++◌, [], ap, sym, refl, subst, List, length, map, arith, ℕ, min, append-nil, length-take, length-drop, length-append}
use Rattle.std.specs.Prelude.{IsTrue}
use Rattle.std.specs.List.{range_with_len}
use Rattle.std.proofs.lemmas.List.FromFn.{length-map-range_with_len}
use Rattle.md5.specs.Md5.{Holds}
use Rattle.rs01_outside.specs.Files.{bytes_of}
use Rattle.rs01_ecchead.specs.Header.{number_at}
use Rattle.rs01_ecchead.specs.Recorded.{sums_in}
use Rattle.rs01_ecchead.proofs.Parts.{one_more_part, piece_then}
use Rattle.rs01_lists.specs.Bytes.{part}
use Rattle.rs01_ecchead.proofs.RecordedSums.{sums_more}
use Rattle.rs01_ecchead.proofs.recorded.read_sums.Goals as goal

none_yet : (file xs : List ℕ) → xs ≡ [] → xs ≡ sums_in file 0
unfolding sums_in
none_yet file xs e = e

-- the checksums of one more piece, behind those of the first a sectors
grown : (file now after piece : List ℕ) (at len : ℕ) → 4096 ≤ at → (at - 4096) % 4 ≡ 0 → len % 4 ≡ 0 → piece ≡ part file at len → length piece ≡ len
    → now ≡ sums_in file ((at - 4096) / 4)
    → after ≡ now ++ map (λ j. number_at piece (4 * j)) (range_with_len 0 (length piece / 4))
    → after ≡ sums_in file ((at + len - 4096) / 4)
grown file now after piece at len low fours whole read long held put =
    let a = (at - 4096) / 4 in
    let b = len / 4 in
    let place : 4096 + 4 * a ≡ at = omega arith in
    let four : len ≡ 4 * b = omega arith in
    let total : a + b ≡ (at + len - 4096) / 4 = omega arith in
    let count : length piece / 4 ≡ b = ap (λ k. k / 4) long in
    put
    ∙ (λ i. held i ++ map (λ j. number_at ((read ∙ ap (λ k. part file k len) (sym place)) i) (4 * j)) (range_with_len 0 (count i)))
    ∙ sym (sums_more file a b len four)
    ∙ ap (sums_in file) total

pub loop-at-init : goal.loop-at-init
loop-at-init g c = record {
  reads = search rules;
  low = omega arith;
  high = omega arith;
  fours = refl;
  counted = ap length c.in_ok-sums.ensures.empty;
  room = c.in_ok-sums.ensures.room;
  wide = c.in_ok-buffer.ensures.len;
  fed = λ t fits m h. subst (Holds c.args.hasher.now) (sym (append-nil m)) h;
  list = λ t fits. none_yet _ _ c.in_ok-sums.ensures.empty;
}

-- a piece holds whole checksums
whole_sums : (at to most len count : ℕ) → to ≡ 4096 + 4 * count → 4096 ≤ at → at ≤ to → (at - 4096) % 4 ≡ 0 → most % 4 ≡ 0 → len ≡ min (to - at) most → len % 4 ≡ 0
whole_sums at to most len count e low high fours most_fours l = omega arith

-- so many more checksums
counted_more : (now after : List ℕ) (f : ℕ → ℕ) (at len n : ℕ) → 4096 ≤ at → (at - 4096) % 4 ≡ 0 → len % 4 ≡ 0 → n ≡ len → length now ≡ (at - 4096) / 4
    → after ≡ now ++ map f (range_with_len 0 (n / 4)) → length after ≡ (at + len - 4096) / 4
counted_more now after f at len n low fours whole long held put =
    ap length put ∙ length-append now (map f (range_with_len 0 (n / 4)))
    ∙ (λ i. held i + (length-map-range_with_len f 0 (n / 4) ∙ ap (λ k. k / 4) long) i)
    ∙ omega arith

pub loop-at-preserved : goal.loop-at-preserved
loop-at-preserved g c =
    let at = c.loop-at.at in
    let len = c.piece_len-len.result in
    let file = bytes_of (g.D.Desk.state c.args.desk.now).files c.args.name.now in
    let whole : len % 4 ≡ 0 =
    whole_sums at (4096 + 4 * c.args.count) (65536) len c.args.count refl c.loop-at.invariant.low (omega arith) c.loop-at.invariant.fours refl (omega arith) in
    let long : length c.add_piece.new.into ≡ len = c.add_piece.auto.into ∙ simp (length-take) (omega arith) in
    let read = λ (t : IsTrue (g.D.Desk.state c.args.desk.now).tells) (fits : 4096 + 4 * c.args.count ≤ length file).
    piece_then (g.D.Desk.state c.args.desk.now).files _ c.args.name.now c.add_piece.new.into at len (c.loop-at.invariant.reads.unchanged t) long
    (c.in_ok-add_piece.ensures.filled (subst IsTrue (sym c.loop-at.invariant.reads.tells) t)) (omega arith) in
    record {
      reads = search rules;
      low = omega arith;
      high = omega arith;
      fours = omega arith;
      counted = counted_more _ _ _ at len _ c.loop-at.invariant.low c.loop-at.invariant.fours whole long c.loop-at.invariant.counted c.push_sums.ensures.list;
      room = c.push_sums.ensures.room ∙ c.loop-at.invariant.room;
      wide = omega (arith, c.add_piece.auto.into, length-append {A = ℕ}, length-take {A = ℕ}, length-drop {A = ℕ}, c.loop-at.invariant.wide);
      fed = λ t fits m h.
          let room : 4096 + 4 * c.args.count ≤ length file = omega arith in
          subst (Holds c.add_piece.new.hasher) (one_more_part file m c.add_piece.new.into 4096 at len c.loop-at.invariant.low (read t room))
          (c.in_ok-add_piece.ensures.held _ (c.loop-at.invariant.fed t fits m h));
      list = λ t fits.
          let room : 4096 + 4 * c.args.count ≤ length file = omega arith in
          grown file _ _ c.add_piece.new.into at len c.loop-at.invariant.low c.loop-at.invariant.fours whole (read t room) long (c.loop-at.invariant.list t fits) c.push_sums.ensures.list;
    }
