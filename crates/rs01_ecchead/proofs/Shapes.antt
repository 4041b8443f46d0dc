-- The shape of an error correction file that was read.
use Rattle.rs01_layers.specs.Layout.{IsShape}
use Rattle.rs01_ecchead.specs.declared.head.Head.{Head}
use Rattle.rs01_ecchead.specs.declared.opened.Ecc.{Ecc}

-- a header that was read has the shape of an image that can be protected
pub is_shape_of_head : (head : Head) → IsShape head.sectors head.parity
is_shape_of_head head = record {
  some_sectors = head.some_sectors;
  not_too_many = head.few_sectors;
  enough_parity = head.least_parity;
  not_too_much = head.most_parity;
}

-- and so has an opened file
pub is_shape : (ecc : Ecc) → IsShape ecc.head.sectors ecc.head.parity
is_shape ecc = is_shape_of_head ecc.head
