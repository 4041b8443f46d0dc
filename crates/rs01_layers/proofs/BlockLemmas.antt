-- The bytes of blocks, of a layer and of a codeword's data.
use Rattle.std.proofs.Common.{◌≡◌, ℕ, ◌+◌, ◌-◌, ◌*◌, ◌<◌, ◌≤◌, ⊎_elim, List, [], length, get_or, take, drop, sym, ap, ◌∙◌, arith, ltb, eqb}
use Rattle.std.proofs.lemmas.List.{length-take, get_or_past, get_or-take, get_or-drop, length-map, get_or-map}
use Rattle.std.proofs.lemmas.Bool.{cases_lt, cases_eq, lt-ltb, le-ltb, eq-eqb, ne_eqb, cond-true, cond-false}
use Rattle.std.proofs.lemmas.List.FromFn.{length-range_with_len, get_or-range_with_len}
use Rattle.std.specs.List.{flat_map, range_with_len}
use Rattle.std.specs.Prelude.{None, Option, Some}
use Rattle.rs01_lists.specs.Bytes.{part}
use Rattle.rs01_lists.proofs.Flats.{flat_at, length-flat}
use Rattle.rs01_lists.proofs.Ranges.{same_maps}
use Rattle.std.specs.Option.{unwrap_or}
use Rattle.rs01_layers.specs.Sectors.{sectors_of, last_of, length_of, block, sector}
use Rattle.rs01_lists.specs.Bytes.{padded}
use Rattle.rs01_lists.proofs.Padding.{get_or-padded, length-padded}
use Rattle.rs01_layers.specs.Layout.{number_at, sector_at}
use Rattle.rs01_layers.specs.Layer.{block_at, layer, layer_bytes, column}
use Rattle.rs01_layers.specs.Blocks.{blocks_of}

pub length-block : (file : List ℕ) (s n : ℕ) → n ≤ 2048 → length (block file s n) ≡ 2048
unfolding block
length-block file s n h = length-padded 2048 (take n (drop (2048 * s) file)) (omega (arith, length-take n (drop (2048 * s) file)))

-- a byte of the sector's own part of its block
pub get_or-block : (file : List ℕ) (s n k : ℕ) → k < n → get_or (block file s n) k 0 ≡ get_or file (2048 * s + k) 0
unfolding block
get_or-block file s n k h =
    get_or-padded 2048 (take n (drop (2048 * s) file)) k ∙ get_or-take n (drop (2048 * s) file) k 0 h ∙ get_or-drop (2048 * s) file k 0

-- past it the block has zeros
pub get_or-block_past : (file : List ℕ) (s n k : ℕ) → n ≤ k → get_or (block file s n) k 0 ≡ 0
unfolding block
get_or-block_past file s n k h =
    get_or-padded 2048 (take n (drop (2048 * s) file)) k
    ∙ get_or_past (take n (drop (2048 * s) file)) k 0 (omega (arith, length-take n (drop (2048 * s) file)))

pub length_of-le : (bytes s : ℕ) → length_of (sectors_of bytes) (last_of bytes) s ≤ 2048
length_of-le bytes s =
    ⊎_elim
    (λ e. let d = cond-true (eqb (s + 1) (sectors_of bytes)) (last_of bytes) 2048 (eq-eqb (s + 1) (sectors_of bytes) e) in omega (arith, d))
    (λ e. let d = cond-false (eqb (s + 1) (sectors_of bytes)) (last_of bytes) 2048 (ne_eqb (s + 1) (sectors_of bytes) e) in omega (arith, d))
    (cases_eq (s + 1) (sectors_of bytes))

-- past a sector's own bytes the image has ended
past_sector : (bytes s k : ℕ) → s < sectors_of bytes → k < 2048 → length_of (sectors_of bytes) (last_of bytes) s ≤ k → bytes ≤ 2048 * s + k
past_sector bytes s k h below past =
    ⊎_elim
    (λ e. let d = cond-true (eqb (s + 1) (sectors_of bytes)) (last_of bytes) 2048 (eq-eqb (s + 1) (sectors_of bytes) e) in omega (arith, d))
    (λ e. let d = cond-false (eqb (s + 1) (sectors_of bytes)) (last_of bytes) 2048 (ne_eqb (s + 1) (sectors_of bytes) e) in omega (arith, d))
    (cases_eq (s + 1) (sectors_of bytes))

pub length-sector : (image : List ℕ) (s : ℕ) → length (sector image s) ≡ 2048
length-sector image s = length-block image s (length_of (sectors_of (length image)) (last_of (length image)) s) (length_of-le (length image) s)

-- a byte of a sector is the image's byte, and 0 past its end
pub get_or-sector : (image : List ℕ) (s k : ℕ) → s < sectors_of (length image) → k < 2048 → get_or (sector image s) k 0 ≡ get_or image (2048 * s + k) 0
get_or-sector image s k h below =
    let own = length_of (sectors_of (length image)) (last_of (length image)) s in
    ⊎_elim
    (λ inside. get_or-block image s own k inside)
    (λ past. get_or-block_past image s own k past ∙ sym (get_or_past image (2048 * s + k) 0 (past_sector (length image) s k h below past)))
    (cases_lt k own)

pub block_at-sector : (image : List ℕ) (r l place : ℕ) → number_at (sectors_of (length image)) r l place < sectors_of (length image)
    → block_at image r l place ≡ sector image (number_at (sectors_of (length image)) r l place)
unfolding block_at
block_at-sector image r l place h =
    let s = number_at (sectors_of (length image)) r l place in
    cond-true (ltb s (sectors_of (length image))) (sector image s) (padded 2048 []) (lt-ltb s (sectors_of (length image)) h)

pub block_at-padding : (image : List ℕ) (r l place : ℕ) → sectors_of (length image) ≤ number_at (sectors_of (length image)) r l place
    → block_at image r l place ≡ padded 2048 []
unfolding block_at
block_at-padding image r l place h =
    let s = number_at (sectors_of (length image)) r l place in
    cond-false (ltb s (sectors_of (length image))) (sector image s) (padded 2048 []) (le-ltb s (sectors_of (length image)) h)

pub length-block_at : (image : List ℕ) (r l place : ℕ) → length (block_at image r l place) ≡ 2048
length-block_at image r l place =
    let s = number_at (sectors_of (length image)) r l place in
    ⊎_elim
    (λ h. ap length (block_at-sector image r l place h) ∙ length-sector image s)
    (λ h. ap length (block_at-padding image r l place h) ∙ length-padded 2048 [] (omega arith))
    (cases_lt s (sectors_of (length image)))

-- a byte of a layer's block is the image's byte, and 0 past its end, so at padding too
pub get_or-block_at : (image : List ℕ) (r l place k : ℕ) → k < 2048
    → get_or (block_at image r l place) k 0 ≡ get_or image (2048 * number_at (sectors_of (length image)) r l place + k) 0
get_or-block_at image r l place k below =
    let s = number_at (sectors_of (length image)) r l place in
    ⊎_elim
    (λ h. ap (λ bytes. get_or bytes k 0) (block_at-sector image r l place h) ∙ get_or-sector image s k h below)
    (λ h.
    ap (λ bytes. get_or bytes k 0) (block_at-padding image r l place h) ∙ get_or-padded 2048 [] k
    ∙ sym (get_or_past image (2048 * s + k) 0 (let past : sectors_of (length image) ≤ s = h in omega arith)))
    (cases_lt s (sectors_of (length image)))

pub length-layer : (image : List ℕ) (r l : ℕ) → length (layer image r l) ≡ 255 - r
unfolding layer
length-layer image r l = length-map (range_with_len 0 (255 - r)) (block_at image r l) ∙ length-range_with_len 0 (255 - r)

pub get_or-layer : (image : List ℕ) (r l place : ℕ) → place < 255 - r → get_or (layer image r l) place [] ≡ block_at image r l place
unfolding layer
get_or-layer image r l place h =
    get_or-map (block_at image r l) (range_with_len 0 (255 - r)) place 0 [] (let n = length-range_with_len 0 (255 - r) in omega (arith, n))
    ∙ ap (block_at image r l) (get_or-range_with_len 0 (255 - r) place 0 h ∙ (let e : 0 + place ≡ place = omega arith in e))

pub length-column : (blocks : List (List ℕ)) (b : ℕ) → length (column blocks b) ≡ length blocks
unfolding column
length-column blocks b = length-map blocks (λ bytes. get_or bytes b 0)

pub get_or-column : (blocks : List (List ℕ)) (b place : ℕ) → place < length blocks → get_or (column blocks b) place 0 ≡ get_or (get_or blocks place []) b 0
unfolding column
get_or-column blocks b place h = get_or-map (λ bytes. get_or bytes b 0) blocks place [] 0 h

-- the data of a codeword, byte by byte
pub get_or-column-layer : (image : List ℕ) (r l b place : ℕ) → b < 2048 → place < 255 - r
    → get_or (column (layer image r l) b) place 0 ≡ get_or image (2048 * number_at (sectors_of (length image)) r l place + b) 0
get_or-column-layer image r l b place below h =
    get_or-column (layer image r l) b place (let n = length-layer image r l in omega (arith, n))
    ∙ ap (λ bytes. get_or bytes b 0) (get_or-layer image r l place h) ∙ get_or-block_at image r l place b below

-- where the image has bytes, so has a codeword's data
pub column-bytes : (image : List ℕ) (r l b k : ℕ) → b < 2048 → k < 255 - r → ((i : ℕ) → get_or image i 0 < 256)
    → get_or (column (layer image r l) b) k 0 < 256
column-bytes image r l b k below h bytes =
    let at : ℕ = 2048 * number_at (sectors_of (length image)) r l k + b in
    let e : get_or (column (layer image r l) b) k 0 ≡ get_or image at 0 = get_or-column-layer image r l b k below h in
    omega (arith, bytes at, e)

pub length-blocks_of : (k : ℕ) (bytes : List ℕ) → length (blocks_of k bytes) ≡ k
unfolding blocks_of
length-blocks_of k bytes = length-map (range_with_len 0 k) (λ p. take 2048 (drop (2048 * p) bytes)) ∙ length-range_with_len 0 k

-- a byte of a block that is held among others
get_or-blocks_of : (k : ℕ) (bytes : List ℕ) (place b : ℕ) → place < k → b < 2048
    → get_or (get_or (blocks_of k bytes) place []) b 0 ≡ get_or bytes (2048 * place + b) 0
unfolding blocks_of
get_or-blocks_of k bytes place b h below =
    let f : ℕ → List ℕ = λ p. take 2048 (drop (2048 * p) bytes) in
    let here : get_or (range_with_len 0 k) place 0 ≡ place = get_or-range_with_len 0 k place 0 h ∙ (let e : 0 + place ≡ place = omega arith in e) in
    ap (λ block. get_or block b 0)
    (get_or-map f (range_with_len 0 k) place 0 [] (let n = length-range_with_len 0 k in omega (arith, n)) ∙ ap f here)
    ∙ get_or-take 2048 (drop (2048 * place) bytes) b 0 below ∙ get_or-drop (2048 * place) bytes b 0

-- the data of a codeword of blocks that are held one after the other, byte by byte
pub get_or-column-blocks_of : (k : ℕ) (bytes : List ℕ) (b place : ℕ) → b < 2048 → place < k
    → get_or (column (blocks_of k bytes) b) place 0 ≡ get_or bytes (2048 * place + b) 0
get_or-column-blocks_of k bytes b place below h =
    get_or-column (blocks_of k bytes) b place (let n = length-blocks_of k bytes in omega (arith, n)) ∙ get_or-blocks_of k bytes place b h below

-- the block at a place that has a sector, and at one that has none
pub block_of_sector : (image : List ℕ) (r l place s : ℕ) → sector_at (sectors_of (length image)) r l place ≡ Some s → block_at image r l place ≡ sector image s
block_of_sector image r l place s e =
    let n = sectors_of (length image) in
    let m = number_at n r l place in
    ⊎_elim
    (λ h. block_at-sector image r l place h ∙ ap (λ o. sector image (unwrap_or o 0)) (sym (cond-true (ltb m n) (Some m) None (lt-ltb m n h)) ∙ e))
    (λ h. let none : let o : Option ℕ = None in o ≡ Some s = sym (cond-false (ltb m n) (Some m) None (le-ltb m n h)) ∙ e in cc)
    (cases_lt m n)

pub block_of_padding : (image : List ℕ) (r l place : ℕ) → sector_at (sectors_of (length image)) r l place ≡ None → block_at image r l place ≡ padded 2048 []
block_of_padding image r l place e =
    let n = sectors_of (length image) in
    let m = number_at n r l place in
    ⊎_elim
    (λ h. let some : let o : Option ℕ = Some m in o ≡ None = sym (cond-true (ltb m n) (Some m) None (lt-ltb m n h)) ∙ e in cc)
    (λ h. block_at-padding image r l place h)
    (cases_lt m n)

-- the blocks of a layer as one list of bytes
pub length-layer_bytes : (image : List ℕ) (r l : ℕ) → length (layer_bytes image r l) ≡ 2048 * (255 - r)
unfolding layer_bytes
length-layer_bytes image r l = length-flat (block_at image r l) 2048 (255 - r) (λ p h. length-block_at image r l p)

pub blocks_of-layer_bytes : (image : List ℕ) (r l : ℕ) → blocks_of (255 - r) (layer_bytes image r l) ≡ layer image r l
unfolding blocks_of layer_bytes layer
blocks_of-layer_bytes image r l =
    same_maps (λ p. part (flat_map (block_at image r l) (range_with_len 0 (255 - r))) (2048 * p) 2048) (block_at image r l) (255 - r)
    (λ p h. flat_at (block_at image r l) 2048 (255 - r) p (λ k below. length-block_at image r l k) h)
