use Rattle.std.proofs.Common.{◌-◌, refl, arith}
use Rattle.std.specs.Int.{to_le_bytes, w32, w64}
use Rattle.std.specs.Prelude.{codes}
use Rattle.rs01_ecchead.specs.Head.{fields_of}
use Rattle.rs01_ecchead.proofs.Zeros.{header_is, pieces_are}
use Rattle.rs01_lists.proofs.Padding.{filled}
use Rattle.rs01_ecchead.proofs.head_write.write_head.Goals as goal

pub returns : goal.returns
returns c =
    let f = fields_of c.args.head.now in
    pieces_are f _ (header_is (codes "*dvdisaster*RS01") (to_le_bytes w32 f.flags) f.fingerprint f.image_sum f.body_sum (to_le_bytes w64 f.sectors) (to_le_bytes w32 (255 - f.parity))
    (to_le_bytes w32 f.parity) (to_le_bytes w32 f.creator) (to_le_bytes w32 f.needed) (to_le_bytes w32 f.mark_sector) (to_le_bytes w32 f.last_bytes) c.fill.new.self _ _ _ _ _ _ _ _ _ _ _ _
    refl refl (omega arith) (omega arith) (omega arith) refl refl refl refl refl refl refl (filled _ _ 4096 (omega arith) (c.fill.ensures.after (λ y h. h)))
    c.put.ensures c.put_number.ensures c.put-2.ensures c.put-3.ensures c.put-4.ensures (rw c.from.ensures at (rw c.to_le_bytes.ensures at c.put-5.ensures)) c.put_number-2.ensures c.put_number-3.ensures
    c.put_number-4.ensures c.put_number-5.ensures c.put_number-6.ensures c.put_number-7.ensures)
