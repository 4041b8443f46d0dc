-- The fixed file, sector by sector.
use Rattle.std.proofs.Common.{◌≡◌, ℕ, zero, suc, ◌+◌, ◌-◌, ◌*◌, ◌<◌, ◌≤◌, List, [], ◌++◌, length, take, drop, get_or, refl, sym, ap, ◌∙◌, arith, append-nil, ⊎_elim, Bool, true, false, cond, eqb}
use Rattle.std.specs.Prelude.{max, ◌&&◌, is_some, Option, Some, None}
use Rattle.std.specs.Option.{unwrap_or}
use Rattle.std.specs.List.{flat_map, range_with_len}
use Rattle.std.proofs.lemmas.Bool.{cases_Bool, cases_lt, eq-eqb, ne_eqb, cond-true, cond-false, false≢true}
use Rattle.std.proofs.lemmas.List.{length-append, length-take, length-drop, get_or_append_left, get_or-append_right, get_or-take, get_or-drop}
use Rattle.std.proofs.Math.ListN.{drop_of_length-le}
use Rattle.std.proofs.Math.Seq.{take-append_seam}
use Rattle.rs01_layers.specs.Sectors.{length_of}
use Rattle.rs01_layers.specs.Layout.{IsShape, layer_of, place_of}
use Rattle.rs01_layers.specs.declared.task.LayerOut.{LayerOut}
use Rattle.rs01_layers.proofs.BlockLemmas.{length-block}
use Rattle.rs01_sums.specs.Marker.{marker}
use Rattle.rs01_sums.proofs.MarkerLemmas.{length-marker}
use Rattle.rs01_ecchead.specs.Opened.{Opened}
use Rattle.rs01_ecchead.specs.Erased.{known_by, block_in, image_len, is_absent, is_erased}
use Rattle.rs01_lists.proofs.Flats.{flat_more}
use Rattle.rs01_repair.specs.Inputs.{flags_at}
use Rattle.rs01_repair.specs.Restored.{IsBlockWhere, is_restored, restored_at}
use Rattle.rs01_fix.specs.Repair.{HaveBlocks, after_by, bytes_after, fixed_by, image_by, is_mended, mended_block}
use Rattle.rs01_repair.proofs.InputLemmas.{flag_of_sector, size_fits}
use Rattle.rs01_fix.proofs.ProgressLemmas.{Sizes, IsFixed, ends_within}

-- what an error correction file says of an image that can be protected
pub record IsImage (c : Opened) : Type 0 where
  pub shape : IsShape c.fields.sectors c.fields.parity
  pub some_last : 1 ≤ c.fields.last_bytes
  pub last_fits : c.fields.last_bytes ≤ 2048

pub sizes_of : (c : Opened) → IsImage c → Sizes c.fields.sectors (image_len (known_by c)) (length_of c.fields.sectors c.fields.last_bytes)
sizes_of c is =
    let some = is.shape.some_sectors in
    record {
      some = some;
      whole = λ s h. cond-false (eqb (s + 1) c.fields.sectors) c.fields.last_bytes 2048 (ne_eqb (s + 1) c.fields.sectors (λ e. omega arith));
      last = λ s e. let d = cond-true (eqb (s + 1) c.fields.sectors) c.fields.last_bytes 2048 (eq-eqb (s + 1) c.fields.sectors e) in omega arith;
      fits = λ s. size_fits c.fields.sectors c.fields.last_bytes s is.last_fits;
    }

-- pieces of the sizes of the sectors
length-sectors : (count len : ℕ) (size : ℕ → ℕ) (f : ℕ → List ℕ) → Sizes count len size → ((s : ℕ) → s < count → length (f s) ≡ size s)
    → (n : ℕ) → n < count → length (flat_map f (range_with_len 0 n)) ≡ 2048 * n
length-sectors count len size f sizes same zero h = omega arith
length-sectors count len size f sizes same (suc n) h =
    let below : n < count = omega arith in
    let is = same n below in
    let w = sizes.whole n (omega arith) in
    let before = length-sectors count len size f sizes same n below in
    ap length (flat_more f n) ∙ length-append (flat_map f (range_with_len 0 n)) (f n) ∙ omega arith

length-image : (count len : ℕ) (size : ℕ → ℕ) (f : ℕ → List ℕ) → Sizes count len size → ((s : ℕ) → s < count → length (f s) ≡ size s)
    → length (flat_map f (range_with_len 0 count)) ≡ len
length-image count len size f sizes same =
    let some = sizes.some in
    let m : ℕ = count - 1 in
    let below : m < count = omega arith in
    let e : count ≡ suc m = omega arith in
    let is = same m below in
    let before = length-sectors count len size f sizes same m below in
    let whole = sizes.last m (omega arith) in
    ap (λ k. length (flat_map f (range_with_len 0 k))) e ∙ ap length (flat_more f m)
    ∙ length-append (flat_map f (range_with_len 0 m)) (f m) ∙ omega arith

get_or-sectors : (count len : ℕ) (size : ℕ → ℕ) (f : ℕ → List ℕ) → Sizes count len size → ((s : ℕ) → s < count → length (f s) ≡ size s)
    → (n s j : ℕ) → n ≤ count → s < n → j < size s → get_or (flat_map f (range_with_len 0 n)) (2048 * s + j) 0 ≡ get_or (f s) j 0
get_or-sectors count len size f sizes same zero s j fits below inside = absurd (omega arith)
get_or-sectors count len size f sizes same (suc n) s j fits below inside =
    let all : List ℕ = flat_map f (range_with_len 0 n) in
    let long : length all ≡ 2048 * n = length-sectors count len size f sizes same n (omega arith) in
    let small = sizes.fits s in
    ap (λ xs. get_or xs (2048 * s + j) 0) (flat_more f n)
    ∙ ⊎_elim
    (λ before. get_or_append_left all (f n) 0 (2048 * s + j) (omega arith) ∙ get_or-sectors count len size f sizes same n s j (omega arith) before inside)
    (λ here.
    let e : s ≡ n = omega arith in
    get_or-append_right all (f n) (2048 * n) (2048 * s + j) 0 long (omega arith)
    ∙ (λ i. get_or (f (sym e i)) ((let d : 2048 * s + j - 2048 * n ≡ j = omega arith in d) i) 0))
    (cases_lt s n)

-- the block of a sector afterwards
pub after-some : (c : Opened) (y : List ℕ) (answers : ℕ → LayerOut) (s : ℕ) (b : List ℕ) → mended_block c answers s ≡ Some b → after_by c y answers s ≡ b
unfolding after_by
after-some c y answers s b e = ap (λ o. unwrap_or o (cond (is_absent (known_by c) y s) (marker s) (block_in (known_by c) y s))) e

pub after-absent : (c : Opened) (y : List ℕ) (answers : ℕ → LayerOut) (s : ℕ) → mended_block c answers s ≡ None
    → is_absent (known_by c) y s ≡ true → after_by c y answers s ≡ marker s
unfolding after_by
after-absent c y answers s e f =
    ap (λ o. unwrap_or o (cond (is_absent (known_by c) y s) (marker s) (block_in (known_by c) y s))) e
    ∙ cond-true (is_absent (known_by c) y s) (marker s) (block_in (known_by c) y s) f

pub after-same : (c : Opened) (y : List ℕ) (answers : ℕ → LayerOut) (s : ℕ) → mended_block c answers s ≡ None
    → is_absent (known_by c) y s ≡ false → after_by c y answers s ≡ block_in (known_by c) y s
unfolding after_by
after-same c y answers s e f =
    ap (λ o. unwrap_or o (cond (is_absent (known_by c) y s) (marker s) (block_in (known_by c) y s))) e
    ∙ cond-false (is_absent (known_by c) y s) (marker s) (block_in (known_by c) y s) f

-- a block that there may be
pub block_long : (w : Bool) (o : Option (List ℕ)) (b : List ℕ) → IsBlockWhere w o → o ≡ Some b → length b ≡ 2048
block_long true (Some x) b is e = let same : x ≡ b = cc in sym (ap length same) ∙ is
block_long true None b is e = absurd is
block_long false (Some x) b is e = absurd is
block_long false None b is e = absurd (let never : ⊥ = cc in never)

block_where : (w : Bool) (o : Option (List ℕ)) → IsBlockWhere w o → is_some o ≡ w
block_where true (Some x) is = refl
block_where true None is = absurd is
block_where false (Some x) is = absurd is
block_where false None is = refl

-- a sector is mended exactly where it is erased and its layer is restored
pub mended_is : (c : Opened) (y : List ℕ) (answers : ℕ → LayerOut) (s : ℕ) → IsShape c.fields.sectors c.fields.parity → HaveBlocks c y answers → s < c.fields.sectors
    → is_mended c answers s ≡ (is_erased (known_by c) y s && is_restored (answers (layer_of c.fields.sectors c.fields.parity s)))
unfolding is_mended
mended_is c y answers s shape blocks below =
    let l = layer_of c.fields.sectors c.fields.parity s in
    let p = place_of c.fields.sectors c.fields.parity s in
    block_where (get_or (flags_at c.fields (is_erased (known_by c) y) l) p false && is_restored (answers l)) (restored_at (answers l) p) (blocks l p)
    ∙ ap (λ b. b && is_restored (answers l)) (flag_of_sector c.fields (is_erased (known_by c) y) s shape below)

pub not_mended : (c : Opened) (answers : ℕ → LayerOut) (s : ℕ) → is_mended c answers s ≡ false → mended_block c answers s ≡ None
unfolding is_mended
not_mended c answers s e = none (mended_block c answers s) e
  where
    none : (o : Option (List ℕ)) → is_some o ≡ false → o ≡ None
    none (Some x) e = absurd (false≢true (sym e))
    none None e = refl

pub length-after : (c : Opened) (y : List ℕ) (answers : ℕ → LayerOut) → IsImage c → HaveBlocks c y answers
    → (s : ℕ) → s < c.fields.sectors → length (after_by c y answers s) ≡ 2048
length-after c y answers is blocks s below = which (mended_block c answers s) refl
  where
    l : ℕ
    l = layer_of c.fields.sectors c.fields.parity s

    p : ℕ
    p = place_of c.fields.sectors c.fields.parity s

    which : (o : Option (List ℕ)) → mended_block c answers s ≡ o → length (after_by c y answers s) ≡ 2048
    which (Some b) e =
        ap length (after-some c y answers s b e)
        ∙ block_long (get_or (flags_at c.fields (is_erased (known_by c) y) l) p false && is_restored (answers l)) (mended_block c answers s) b (blocks l p) e
    which None e =
        ⊎_elim
        (λ absent. ap length (after-absent c y answers s e absent) ∙ length-marker s)
        (λ there. ap length (after-same c y answers s e there) ∙ length-block y s (length_of c.fields.sectors c.fields.last_bytes s) (size_fits c.fields.sectors c.fields.last_bytes s is.last_fits))
        (cases_Bool (is_absent (known_by c) y s))

length-bytes_after : (c : Opened) (y : List ℕ) (answers : ℕ → LayerOut) → IsImage c → HaveBlocks c y answers
    → (s : ℕ) → s < c.fields.sectors → length (bytes_after c y answers s) ≡ length_of c.fields.sectors c.fields.last_bytes s
length-bytes_after c y answers is blocks s below =
    let long = length-after c y answers is blocks s below in
    let fits = size_fits c.fields.sectors c.fields.last_bytes s is.last_fits in
    omega (arith, length-take (length_of c.fields.sectors c.fields.last_bytes s) (after_by c y answers s))

pub length-image_by : (c : Opened) (y : List ℕ) (answers : ℕ → LayerOut) → IsImage c → HaveBlocks c y answers
    → length (image_by c y answers) ≡ image_len (known_by c)
unfolding image_by
length-image_by c y answers is blocks =
    length-image c.fields.sectors (image_len (known_by c)) (length_of c.fields.sectors c.fields.last_bytes) (bytes_after c y answers) (sizes_of c is)
    (length-bytes_after c y answers is blocks)

get_or-image_by : (c : Opened) (y : List ℕ) (answers : ℕ → LayerOut) → IsImage c → HaveBlocks c y answers
    → (s j : ℕ) → s < c.fields.sectors → j < length_of c.fields.sectors c.fields.last_bytes s
    → get_or (image_by c y answers) (2048 * s + j) 0 ≡ get_or (after_by c y answers s) j 0
unfolding image_by
get_or-image_by c y answers is blocks s j below inside =
    get_or-sectors c.fields.sectors (image_len (known_by c)) (length_of c.fields.sectors c.fields.last_bytes) (bytes_after c y answers) (sizes_of c is)
    (length-bytes_after c y answers is blocks) c.fields.sectors s j (omega arith) below inside
    ∙ get_or-take (length_of c.fields.sectors c.fields.last_bytes s) (after_by c y answers s) j 0 inside

pub fixed_is : (c : Opened) (y : List ℕ) (answers : ℕ → LayerOut) (cut : Bool) → IsImage c → HaveBlocks c y answers
    → IsFixed c.fields.sectors (image_len (known_by c)) (length_of c.fields.sectors c.fields.last_bytes) (after_by c y answers) (fixed_by c y answers cut)
unfolding fixed_by
fixed_is c y answers cut is blocks =
    let image : List ℕ = image_by c y answers in
    let rest : List ℕ = cond cut [] (drop (image_len (known_by c)) y) in
    let long = length-image_by c y answers is blocks in
    record {
      long = omega (arith, length-append image rest);
      bytes = λ s j below inside.
          let end = ends_within c.fields.sectors (image_len (known_by c)) (length_of c.fields.sectors c.fields.last_bytes) (sizes_of c is) s below in
          get_or_append_left image rest 0 (2048 * s + j) (omega arith) ∙ get_or-image_by c y answers is blocks s j below inside;
    }

pub length-fixed_by : (c : Opened) (y : List ℕ) (answers : ℕ → LayerOut) → IsImage c → HaveBlocks c y answers
    → length (fixed_by c y answers false) ≡ max (length y) (image_len (known_by c))
unfolding fixed_by
length-fixed_by c y answers is blocks =
    let long = length-image_by c y answers is blocks in
    omega (arith, length-append (image_by c y answers) (drop (image_len (known_by c)) y), length-drop (image_len (known_by c)) y)

pub surplus_stays : (c : Opened) (y : List ℕ) (answers : ℕ → LayerOut) → IsImage c → HaveBlocks c y answers
    → (k : ℕ) → image_len (known_by c) ≤ k → get_or (fixed_by c y answers false) k 0 ≡ get_or y k 0
unfolding fixed_by
surplus_stays c y answers is blocks k past =
    get_or-append_right (image_by c y answers) (drop (image_len (known_by c)) y) (image_len (known_by c)) k 0 (length-image_by c y answers is blocks) past
    ∙ get_or-drop (image_len (known_by c)) y (k - image_len (known_by c)) 0
    ∙ ap (λ i. get_or y i 0) (let e : image_len (known_by c) + (k - image_len (known_by c)) ≡ k = omega arith in e)

-- cutting the fixed file to the image's length
pub fixed_cut : (c : Opened) (y : List ℕ) (answers : ℕ → LayerOut) → IsImage c → HaveBlocks c y answers
    → take (image_len (known_by c)) (fixed_by c y answers false) ≡ fixed_by c y answers true
unfolding fixed_by
fixed_cut c y answers is blocks =
    ap (λ n. take n (image_by c y answers ++ drop (image_len (known_by c)) y)) (sym (length-image_by c y answers is blocks))
    ∙ take-append_seam (image_by c y answers) (drop (image_len (known_by c)) y) ∙ sym (append-nil (image_by c y answers))

-- where nothing stands past the image, there is nothing to cut
pub nothing_to_cut : (c : Opened) (y : List ℕ) (answers : ℕ → LayerOut) (cut : Bool) → length y ≤ image_len (known_by c)
    → fixed_by c y answers false ≡ fixed_by c y answers cut
unfolding fixed_by
nothing_to_cut c y answers true h = ap (λ xs. image_by c y answers ++ xs) (drop_of_length-le y h)
nothing_to_cut c y answers false h = refl
