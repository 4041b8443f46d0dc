-- What a header value tells.
use Rattle.rs01_ecchead.specs.declared.head.Head.{Head}
use Rattle.rs01_ecchead.specs.Header.{Fields}

abbrev pub fields_of : Head → Fields
fields_of head = record {
  flags = head.flags;
  fingerprint = head.fingerprint;
  image_sum = head.image_sum;
  body_sum = head.body_sum;
  sectors = head.sectors;
  parity = head.parity;
  creator = head.creator;
  needed = head.needed;
  mark_sector = head.mark_sector;
  last_bytes = head.last_bytes;
}
