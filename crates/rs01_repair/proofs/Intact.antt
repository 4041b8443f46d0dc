-- What correcting gives of the layers of an image whose error correction file is intact.
use Rattle.std.proofs.Common.{◌≡◌, ℕ, ◌+◌, ◌-◌, ◌*◌, ◌^◌, ◌<◌, ◌≤◌, List, [], length, take, drop, get_or, sym, ap, subst, ◌∙◌, arith, Bool, true, false, ltb, ⊎_elim}
use Rattle.std.specs.Prelude.{All, ◌&&◌, Ok, IsOkAnd, Result}
use Rattle.std.proofs.lemmas.Bool.{cases_lt, false≢true, le-ltb, lt-ltb, cond-true, cond-false}
use Rattle.std.proofs.lemmas.List.{get_or_past}
use Rattle.std.proofs.lemmas.List.Elements.{All-from_get_or, All-get_or}
use Rattle.std.proofs.lemmas.List.FromFn.{get_or-map-range_with_len}
use Rattle.rs01_layers.specs.Sectors.{last_of, sector, sectors_of}
use Rattle.rs01_layers.specs.Layout.{IsShape, layers_of, number_at}
use Rattle.rs01_layers.specs.Layer.{column, layer}
use Rattle.rs01_layers.specs.Layer as image_layer
use Rattle.rs01_layers.specs.declared.task.LayerOut.TheVariants.{Beyond, Restored}
use Rattle.rs01_layers.proofs.BlockLemmas.{block_at-padding, block_at-sector, get_or-block_at, get_or-layer, length-block_at, length-layer}
use Rattle.rs01_sums.specs.Crc.{crc}
use Rattle.rs01_ecchead.specs.EccFile.{ecc_file, head_fields}
use Rattle.rs01_ecchead.specs.Erased.{count_in}
use Rattle.rs01_ecchead.specs.Header.{Fields}
use Rattle.rs01_ecchead.specs.Opened.{Opened, opened}
use Rattle.rs01_ecchead.specs.ReadAgain.{IsOfImage}
use Rattle.rs01_ecchead.specs.declared.opened.EccRefusal.{EccRefusal}
use Rattle.rs01_ecchead.proofs.ReadAgain.{length-parity, read_again}
use Rattle.rs01_lists.specs.Bytes.{padded}
use Rattle.rs01_lists.proofs.Flats.{flat_at}
use Rattle.rs01_poly.specs.Code.{encode}
use Rattle.rs01_erase.specs.Correcting.{IsBlock}
use Rattle.rs01_erase.specs.Correcting as correcting
use Rattle.rs01_erase.specs.LayerValue.{erased_places, placed}
use Rattle.rs01_erase.proofs.LayerValueLemmas.{correct_of-beyond, intact_layer_is_restored}
use Rattle.rs01_repair.specs.Inputs.{answer_of, block_at, blocks_at, flag_at, flags_at, parity_at, sum_at, sums_at}
use Rattle.rs01_repair.specs.Intact.{IsProtected, Protects}
use Rattle.rs01_repair.proofs.CorrectLemmas.{flagged_is_sector}
use Rattle.rs01_repair.proofs.Counts.{erased_count}
use Rattle.rs01_repair.proofs.InputLemmas.{length-blocks_at, length-flags_at}

abbrev pub N : List ℕ → ℕ
N image = sectors_of (length image)

-- the fields of an image's error correction file, where they are looked at
abbrev pub F : List ℕ → ℕ → Fields → Fields
F image r f = record {
  flags = f.flags;
  fingerprint = f.fingerprint;
  image_sum = f.image_sum;
  body_sum = f.body_sum;
  sectors = N image;
  parity = r;
  creator = f.creator;
  needed = f.needed;
  mark_sector = f.mark_sector;
  last_bytes = last_of (length image);
}

-- what such a file says
abbrev pub C : List ℕ → ℕ → Opened → Opened
C image r c = record { fields = F image r c.fields; sums = c.sums; parity = c.parity }

pub is_of_image : (image : List ℕ) (r : ℕ) (c : Opened) → IsOfImage image r c → c ≡ C image r c
unfolding head_fields
is_of_image image r c of = λ i. record {
  fields = record {
    flags = c.fields.flags;
    fingerprint = c.fields.fingerprint;
    image_sum = c.fields.image_sum;
    body_sum = c.fields.body_sum;
    sectors = (of.fields i).sectors;
    parity = (of.fields i).parity;
    creator = c.fields.creator;
    needed = c.fields.needed;
    mark_sector = c.fields.mark_sector;
    last_bytes = (of.fields i).last_bytes;
  };
  sums = c.sums;
  parity = c.parity;
}

-- an intact file says what it should
said : (o : Result Opened EccRefusal) (image : List ℕ) (r : ℕ) (c : Opened) → IsOkAnd o (IsOfImage image r) → o ≡ Ok c → IsOfImage image r c
said o image r c of e = subst (λ (o : Result Opened EccRefusal). IsOkAnd o (IsOfImage image r)) e of

pub protects_says : (file image : List ℕ) (r : ℕ) (c : Opened) → Protects file image r c → IsOfImage image r c
protects_says file image r c is =
    said (opened (ecc_file image r)) image r c (read_again image r is.proper.some_bytes is.proper.few_sectors is.proper.least_parity is.proper.most_parity)
    (ap opened (sym is.intact) ∙ is.says)

pub shape_of : (image : List ℕ) (r : ℕ) → IsProtected image r → IsShape (N image) r
shape_of image r is =
    let some = is.some_bytes in
    record { some_sectors = omega arith; not_too_many = is.few_sectors; enough_parity = is.least_parity; not_too_much = is.most_parity }

-- a byte of a list of bytes, 0 past its end
byte_at : (bytes : List ℕ) (k : ℕ) → All (λ b. b < 2 ^ 8) bytes → get_or bytes k 0 < 2 ^ 8
byte_at bytes k all =
    ⊎_elim
    (λ inside. All-get_or (λ b. b < 2 ^ 8) bytes k 0 inside all)
    (λ past. let e = get_or_past bytes k 0 past in omega (arith, e))
    (cases_lt k (length bytes))

is_block : (image : List ℕ) (r l p : ℕ) → All (λ b. b < 2 ^ 8) image → IsBlock (image_layer.block_at image r l p)
is_block image r l p all =
    let long = length-block_at image r l p in (
      long,
      All-from_get_or (λ b. b < 2 ^ 8) (image_layer.block_at image r l p) 0 (λ i inside.
          let e = get_or-block_at image r l p i (omega (arith, long, inside)) in
          let byte = byte_at image (2048 * number_at (N image) r l p + i) all in
          omega (arith, e, byte)),
    )

blocks_are : (image : List ℕ) (r l : ℕ) → All (λ b. b < 2 ^ 8) image → All IsBlock (layer image r l)
blocks_are image r l all =
    let long = length-layer image r l in
    All-from_get_or IsBlock (layer image r l) [] (λ p inside.
    subst (λ (b : List ℕ). IsBlock b) (sym (get_or-layer image r l p (omega (arith, long, inside)))) (is_block image r l p all))

-- what there is of each sector that isn't erased is the image's
abbrev pub AreTheOthers : List ℕ → (ℕ → List ℕ) → (ℕ → Bool) → Type 0
AreTheOthers image block gone = (s : ℕ) → s < N image → gone s ≡ false → block s ≡ sector image s

-- at a place that isn't erased the block is the image's
held_block : (image : List ℕ) (r : ℕ) (f : Fields) (block : ℕ → List ℕ) (gone : ℕ → Bool) (l p : ℕ) → AreTheOthers image block gone
    → flag_at (F image r f) gone l p ≡ false → block_at (F image r f) block l p ≡ image_layer.block_at image r l p
unfolding block_at flag_at
held_block image r f block gone l p others e =
    let s = number_at (N image) r l p in
    ⊎_elim
    (λ below.
    let there : gone s ≡ false = ap (λ b. b && gone s) (sym (lt-ltb s (N image) below)) ∙ e in
    cond-true (ltb s (N image)) (block s) (padded 2048 []) (lt-ltb s (N image) below)
    ∙ others s below there ∙ sym (block_at-sector image r l p below))
    (λ past. cond-false (ltb s (N image)) (block s) (padded 2048 []) (le-ltb s (N image) past) ∙ sym (block_at-padding image r l p past))
    (cases_lt s (N image))

held : (image : List ℕ) (r : ℕ) (f : Fields) (block : ℕ → List ℕ) (gone : ℕ → Bool) (l p : ℕ) → AreTheOthers image block gone
    → get_or (flags_at (F image r f) gone l) p false ≡ false → get_or (blocks_at (F image r f) block l) p [] ≡ get_or (layer image r l) p []
unfolding blocks_at flags_at
held image r f block gone l p others e =
    let g = F image r f in
    ⊎_elim
    (λ inside.
    let z : 0 + p ≡ p = omega arith in
    let flag = get_or-map-range_with_len (flag_at g gone l) 0 (255 - r) p p false inside z in
    get_or-map-range_with_len (block_at g block l) 0 (255 - r) p p [] inside z
    ∙ held_block image r f block gone l p others (sym flag ∙ e)
    ∙ sym (get_or-layer image r l p inside))
    (λ past.
    let one = length-blocks_at g block l in
    let other = length-layer image r l in
    get_or_past (blocks_at g block l) p [] (omega (arith, one)) ∙ sym (get_or_past (layer image r l) p [] (omega (arith, other))))
    (cases_lt p (255 - r))

-- the recorded checksum of an erased place is that of the image's block
sums_are : (image : List ℕ) (r : ℕ) (c : Opened) (gone : ℕ → Bool) (l p : ℕ) → IsOfImage image r c → get_or (flags_at (F image r c.fields) gone l) p false ≡ true
    → get_or (sums_at (F image r c.fields) c.sums l) p 0 ≡ crc (get_or (layer image r l) p [])
unfolding sums_at sum_at
sums_are image r c gone l p of e =
    let g = F image r c.fields in
    let s = number_at (N image) r l p in
    let below : s < N image = flagged_is_sector g gone l p e in
    ⊎_elim
    (λ inside.
    let z : 0 + p ≡ p = omega arith in
    let y0 : 0 + s ≡ s = omega arith in
    get_or-map-range_with_len (sum_at g c.sums l) 0 (255 - r) p p 0 inside z
    ∙ ap (λ sums. get_or sums s 0) of.sums
    ∙ get_or-map-range_with_len (λ n. crc (sector image n)) 0 (N image) s s 0 below y0
    ∙ ap crc (sym (get_or-layer image r l p inside ∙ block_at-sector image r l p below)))
    (λ past.
    let long = length-flags_at g gone l in
    absurd (false≢true (sym (get_or_past (flags_at g gone l) p false (omega (arith, long))) ∙ e)))
    (cases_lt p (255 - r))

parity_is : (image : List ℕ) (r : ℕ) (c : Opened) (l b : ℕ) → r ≤ 100 → IsOfImage image r c → l < layers_of (N image) r → b < 2048
    → take r (drop (b * r) (parity_at c.parity l)) ≡ encode (column (layer image r l) b)
unfolding parity_at
parity_is image r c l b most of low below =
    let place : b * r ≡ r * b = omega arith in
    ap (λ k. take r (drop k (parity_at c.parity l))) place
    ∙ flat_at (c.parity l) r 2048 b (λ k h. ap length (of.parity l k low h) ∙ length-parity image r l k most) below
    ∙ of.parity l b low below

intact : (image : List ℕ) (r : ℕ) (c : Opened) (block : ℕ → List ℕ) (gone : ℕ → Bool) (l : ℕ) → IsProtected image r → IsOfImage image r c
    → AreTheOthers image block gone → l < layers_of (N image) r
    → correcting.IsIntact (layer image r l) (blocks_at (F image r c.fields) block l) (flags_at (F image r c.fields) gone l) (sums_at (F image r c.fields) c.sums l) (parity_at c.parity l) r
intact image r c block gone l is of others low = record {
  original_count = length-layer image r l;
  block_count = length-blocks_at (F image r c.fields) block l;
  flag_count = length-flags_at (F image r c.fields) gone l;
  original_blocks = blocks_are image r l is.bytes;
  parity_is = λ b below. parity_is image r c l b is.most_parity of low below;
  held = λ p e. held image r c.fields block gone l p others e;
  sums_are = λ p e. sums_are image r c gone l p of e;
}

-- the answer to a layer that isn't beyond
pub within_answer : (image : List ℕ) (r : ℕ) (c : Opened) (block : ℕ → List ℕ) (gone : ℕ → Bool) (l : ℕ) → IsProtected image r → IsOfImage image r c
    → AreTheOthers image block gone → l < layers_of (N image) r → count_in (N image) r gone l ≤ r
    → answer_of (C image r c) block gone l ≡ Restored (placed (λ p. get_or (layer image r l) p []) (erased_places (flags_at (F image r c.fields) gone l)))
unfolding answer_of
within_answer image r c block gone l is of others low few =
    let g = F image r c.fields in
    let count = erased_count g gone l (shape_of image r is) low in
    let most = is.most_parity in
    intact_layer_is_restored (layer image r l) (blocks_at g block l) (flags_at g gone l) (sums_at g c.sums l) (parity_at c.parity l) r
    (intact image r c block gone l is of others low) (omega arith) (omega (arith, count, few))

-- and to one that is
pub beyond_answer : (image : List ℕ) (r : ℕ) (c : Opened) (block : ℕ → List ℕ) (gone : ℕ → Bool) (l : ℕ) → IsProtected image r
    → l < layers_of (N image) r → r < count_in (N image) r gone l
    → answer_of (C image r c) block gone l ≡ Beyond (length (erased_places (flags_at (F image r c.fields) gone l)))
unfolding answer_of
beyond_answer image r c block gone l is low many =
    let g = F image r c.fields in
    let count = erased_count g gone l (shape_of image r is) low in
    correct_of-beyond (blocks_at g block l) (flags_at g gone l) (sums_at g c.sums l) (parity_at c.parity l) r (omega (arith, count, many))
