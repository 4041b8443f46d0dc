-- The error correction file of an image is opened, and what it records is read again.
use Rattle.std.proofs.Common.{◌≡◌, ℕ, ◌+◌, ◌-◌, ◌*◌, ◌<◌, ◌≤◌, List, ◌++◌, length, take, drop, refl, sym, ap, subst, ◌∙◌, arith}
use Rattle.std.specs.Prelude.{Some, Ok, IsOkAnd, Result}
use Rattle.std.specs.Int.{to_le_bytes, from_le_bytes, w32}
use Rattle.std.proofs.Math.Seq.{take-append_seam, drop-append_seam}
use Rattle.std.proofs.Math.ListN.{length-append}
use Rattle.std.proofs.lemmas.Nat.{from_le_bytes-to_le_bytes_4, mul-le}
use Rattle.std.proofs.lemmas.Slice.Eq.{bytes_eq-Decides}
use Rattle.md5.specs.Md5.{md5}
use Rattle.md5.proofs.StandardFacts.{length-md5}
use Rattle.rs01_poly.specs.Code.{encode}
use Rattle.rs01_poly.proofs.Division.{length-encode}
use Rattle.rs01_layers.specs.Sectors.{sector, sectors_of}
use Rattle.rs01_layers.specs.Layout.{file_size, layers_of, parity_offset}
use Rattle.rs01_layers.specs.Layer.{column, layer}
use Rattle.rs01_layers.proofs.BlockLemmas.{length-column, length-layer}
use Rattle.rs01_sums.specs.Crc.{crc}
use Rattle.rs01_sums.proofs.CrcLemmas.{crc-lt}
use Rattle.rs01_ecchead.specs.EccFile.{body, ecc_file, head_fields, layer_parity, mark_sector_of, parity_bytes, sum_bytes}
use Rattle.rs01_ecchead.specs.Header.{AreFields, Fields, end_bytes, front_bytes, head_bytes, head_of, number_bytes}
use Rattle.rs01_ecchead.specs.Opened.{Opened, opened, opened_by}
use Rattle.rs01_ecchead.specs.declared.opened.EccRefusal.{EccRefusal}
use Rattle.rs01_ecchead.specs.Recorded.{parity_in, sum_in, sums_in}
use Rattle.rs01_ecchead.specs.ReadAgain.{AreReadAgain, IsOfImage}
use Rattle.rs01_ecchead.proofs.OpenedLemmas.{all_right}
use Rattle.rs01_ecchead.proofs.RecordedSums.{part-part}
use Rattle.rs01_ecchead.proofs.RoundTrip.{reads_back}
use Rattle.rs01_lists.specs.Bytes.{part}
use Rattle.rs01_lists.proofs.Flats.{flat_at, length-flat}
use Rattle.rs01_lists.proofs.Parts.{inside, skip}
use Rattle.rs01_lists.proofs.Ranges.{map-range_with_len_moved}
use Rattle.rs01_lists.proofs.Padding.{length-zeros}

abbrev N : List ℕ → ℕ
N image = sectors_of (length image)

-- the checksum of a sector, as it stands
abbrev sum_piece : List ℕ → ℕ → List ℕ
sum_piece image s = to_le_bytes w32 (crc (sector image s))

-- the parity of a codeword has r bytes
pub length-parity : (image : List ℕ) (r l b : ℕ) → r ≤ 100 → length (encode (column (layer image r l) b)) ≡ r
length-parity image r l b most =
    let long : length (column (layer image r l) b) ≡ 255 - r = length-column (layer image r l) b ∙ length-layer image r l in
    length-encode (column (layer image r l) b) (omega (arith, long)) ∙ (let e : 255 - length (column (layer image r l) b) ≡ r = omega (arith, long) in e)

pub length-layer_parity : (image : List ℕ) (r l : ℕ) → r ≤ 100 → length (layer_parity image r l) ≡ r * 2048
unfolding layer_parity
length-layer_parity image r l most = length-flat (λ b. encode (column (layer image r l) b)) r 2048 (λ b h. length-parity image r l b most)

length-sum_bytes : (image : List ℕ) → length (sum_bytes image) ≡ 4 * N image
unfolding sum_bytes
length-sum_bytes image = length-flat (sum_piece image) 4 (N image) (λ s h. refl)

length-parity_bytes : (image : List ℕ) (r : ℕ) → r ≤ 100 → length (parity_bytes image r) ≡ r * 2048 * layers_of (N image) r
unfolding parity_bytes
length-parity_bytes image r most = length-flat (layer_parity image r) (r * 2048) (layers_of (N image) r) (λ l h. length-layer_parity image r l most)

length-body : (image : List ℕ) (r : ℕ) → r ≤ 100 → length (body image r) ≡ 4 * N image + r * 2048 * layers_of (N image) r
unfolding body
length-body image r most =
    length-append (sum_bytes image) (parity_bytes image r) ∙ (λ i. length-sum_bytes image i + length-parity_bytes image r most i)

are_fields : (image : List ℕ) (r : ℕ) → 1 ≤ length image → N image ≤ 16777215 → 8 ≤ r → r ≤ 100 → AreFields (head_fields image r)
unfolding head_fields
are_fields image r some few least most = record {
  flags = omega arith;
  fingerprint = length-md5 (sector image (mark_sector_of image));
  image_sum = length-md5 image;
  body_sum = length-md5 (body image r);
  some_sectors = omega arith;
  few_sectors = few;
  least_parity = least;
  most_parity = most;
  creator = omega arith;
  needed = omega arith;
  mark_sector = omega arith;
  some_last = omega arith;
  last_fits = omega arith;
}

long : (xs ys : List ℕ) (m n : ℕ) → length xs ≡ m → length ys ≡ n → length (xs ++ ys) ≡ m + n
long xs ys m n e f = length-append xs ys ∙ (λ i. e i + f i)

length-head : (f : Fields) → length f.fingerprint ≡ 16 → length f.image_sum ≡ 16 → length f.body_sum ≡ 16 → length (head_bytes f) ≡ 4096
unfolding head_bytes front_bytes number_bytes end_bytes
length-head f e1 e2 e3 = grind (arith, length-append, length-zeros)

-- what stands behind the header
behind : (image : List ℕ) (r at n : ℕ) → length (head_bytes (head_fields image r)) ≡ 4096 → part (ecc_file image r) (4096 + at) n ≡ part (body image r) at n
unfolding ecc_file
behind image r at n e = skip (head_bytes (head_fields image r)) (body image r) 4096 at n e

sum_again : (image : List ℕ) (r s : ℕ) → length (head_bytes (head_fields image r)) ≡ 4096 → s < N image → sum_in (ecc_file image r) s ≡ crc (sector image s)
unfolding body sum_bytes
sum_again image r s head below =
    ap (from_le_bytes w32)
    (behind image r (4 * s) 4 head
    ∙ inside (sum_bytes image) (parity_bytes image r) (4 * s) 4 (let e = length-sum_bytes image in omega (arith, e))
    ∙ flat_at (sum_piece image) 4 (N image) s (λ j h. refl) below)
    ∙ from_le_bytes-to_le_bytes_4 (crc (sector image s)) (crc-lt (sector image s))

-- the parity of a whole layer
pub layer_parity_again : (image : List ℕ) (r l : ℕ) → 1 ≤ length image → N image ≤ 16777215 → 8 ≤ r → r ≤ 100 → l < layers_of (N image) r
    → part (ecc_file image r) (parity_offset (N image) r l 0) (2048 * r) ≡ layer_parity image r l
unfolding body parity_bytes
layer_parity_again image r l some few least most below =
    let f = are_fields image r some few least most in
    let head : length (head_bytes (head_fields image r)) ≡ 4096 = length-head (head_fields image r) f.fingerprint f.image_sum f.body_sum in
    let place : parity_offset (N image) r l 0 ≡ 4096 + (4 * N image + r * 2048 * l) = omega arith in
    let wide : 2048 * r ≡ r * 2048 = omega arith in
    (λ i. part (ecc_file image r) (place i) (wide i))
    ∙ behind image r (4 * N image + r * 2048 * l) (r * 2048) head
    ∙ skip (sum_bytes image) (parity_bytes image r) (4 * N image) (r * 2048 * l) (r * 2048) (length-sum_bytes image)
    ∙ flat_at (layer_parity image r) (r * 2048) (layers_of (N image) r) l (λ j h. length-layer_parity image r j most) below

-- and in it that of a codeword
parity_again : (image : List ℕ) (r l b : ℕ) → 1 ≤ length image → N image ≤ 16777215 → 8 ≤ r → r ≤ 100 → l < layers_of (N image) r → b < 2048
    → parity_in (ecc_file image r) (N image) r l b ≡ encode (column (layer image r l) b)
unfolding layer_parity
parity_again image r l b some few least most below codeword =
    let place : parity_offset (N image) r l b ≡ parity_offset (N image) r l 0 + r * b = omega arith in
    let fits : r * b + r ≤ 2048 * r = (let most = mul-le (b + 1) r 2048 r (omega (arith, codeword)) (omega arith) in omega (arith, most)) in
    ap (λ at. part (ecc_file image r) at r) place
    ∙ sym (part-part (ecc_file image r) (parity_offset (N image) r l 0) (2048 * r) (r * b) r fits)
    ∙ ap (λ xs. part xs (r * b) r) (layer_parity_again image r l some few least most below)
    ∙ flat_at (λ k. encode (column (layer image r l) k)) r 2048 b (λ k h. length-parity image r l k most) codeword

opened_again : (image : List ℕ) (r : ℕ) → 1 ≤ length image → N image ≤ 16777215 → 8 ≤ r → r ≤ 100 → opened (ecc_file image r) ≡ Ok (opened_by (head_fields image r) (ecc_file image r))
unfolding ecc_file head_fields
opened_again image r some few least most =
    let f = are_fields image r some few least most in
    let fields = head_fields image r in
    let header = head_bytes fields in
    let file = header ++ body image r in
    let head : length header ≡ 4096 = length-head fields f.fingerprint f.image_sum f.body_sum in
    let size : length file ≡ file_size (N image) r =
    long header (body image r) 4096 (4 * N image + r * 2048 * layers_of (N image) r) head (length-body image r most) ∙ omega arith in
    let front : take 4096 file ≡ header = ap (λ n. take n file) (sym head) ∙ take-append_seam header (body image r) in
    let rest : drop 4096 file ≡ body image r = ap (λ n. drop n file) (sym head) ∙ drop-append_seam header (body image r) in
    all_right (Some file) (length file) fields (md5 (body image r)) refl (omega (arith, size)) (ap head_of front ∙ reads_back fields f) size
    (ap md5 (sym rest)) ((bytes_eq-Decides (md5 (body image r)) (md5 (body image r))).1 refl)

-- what the file says
said : (image : List ℕ) (r : ℕ) → 1 ≤ length image → N image ≤ 16777215 → 8 ≤ r → r ≤ 100
    → IsOfImage image r (opened_by (head_fields image r) (ecc_file image r))
unfolding sums_in head_fields
said image r some few least most =
    let f = are_fields image r some few least most in
    let head : length (head_bytes (head_fields image r)) ≡ 4096 = length-head (head_fields image r) f.fingerprint f.image_sum f.body_sum in
    record {
      fields = refl;
      sums = map-range_with_len_moved (sum_in (ecc_file image r)) (λ s. crc (sector image s)) 0 (N image) (λ s h. ap (sum_in (ecc_file image r)) (let e : 0 + s ≡ s = omega arith in e) ∙ sum_again image r s head h);
      parity = λ l b below codeword. parity_again image r l b some few least most below codeword;
    }

pub read_again : AreReadAgain
read_again image r some few least most =
    subst (λ (answer : Result Opened EccRefusal). IsOkAnd answer (IsOfImage image r)) (sym (opened_again image r some few least most)) (said image r some few least most)
