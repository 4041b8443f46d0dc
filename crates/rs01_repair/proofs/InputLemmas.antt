-- What correcting is given of a layer, by what the code puts together.
use Rattle.std.proofs.Common.{◌≡◌, ℕ, ◌+◌, ◌-◌, ◌*◌, ◌<◌, ◌≤◌, List, [], length, take, drop, map, get_or, refl, sym, ap, ◌∙◌, arith, Bool, true, false, cond, ltb, eqb, ⊎_elim}
use Rattle.std.specs.Prelude.{Some, None, ◌||◌, ◌&&◌, nat_lt, nat_eq, IsTrue}
use Rattle.std.specs.List.{flat_map, range_with_len}
use Rattle.std.proofs.lemmas.Bool.{false≢true, ltb-true, lt-ltb, le-ltb, cond-true, cond-false, cases_lt, cases_eq, eq-eqb, ne_eqb}
use Rattle.std.proofs.lemmas.List.{get_or_past, length-map}
use Rattle.std.proofs.lemmas.List.FromFn.{get_or-map-range_with_len, length-range_with_len}
use Rattle.rs01_layers.specs.Sectors.{length_of}
use Rattle.rs01_layers.specs.Layout.{IsShape, layer_of, number_at, place_of, sector_at}
use Rattle.rs01_layers.proofs.PlaceLemmas.{each_sector_has_a_place, place_determines_sector}
use Rattle.rs01_layers.specs.Blocks.{blocks_of, is_parity_len}
use Rattle.rs01_ecchead.specs.Header.{Fields}
use Rattle.rs01_lists.specs.Bytes.{padded}
use Rattle.rs01_lists.proofs.Padding.{length-padded}
use Rattle.rs01_lists.proofs.Flats.{flat_at}
use Rattle.rs01_repair.specs.Inputs.{InputsAreAnswered, answer_of, block_at, blocks_at, flag_at, flags_at, parity_at, place_number, sum_at, sums_at}
use Rattle.rs01_erase.specs.Correcting.{AgreeWhereHeld, blocks_in, correct}
use Rattle.rs01_erase.specs.LayerValue.{correct_of}
use Rattle.rs01_erase.proofs.LayerValueLemmas.{correct_of-same}
use Rattle.rs01_erase.proofs.Found.{map_same}
use Rattle.rs01_erase.proofs.ErasedPlaces.{number_in_range}

pub size_fits : (n last s : ℕ) → last ≤ 2048 → length_of n last s ≤ 2048
size_fits n last s h =
    ⊎_elim
    (λ e. let d = cond-true (eqb (s + 1) n) last 2048 (eq-eqb (s + 1) n e) in omega (arith, d))
    (λ e. let d = cond-false (eqb (s + 1) n) last 2048 (ne_eqb (s + 1) n e) in omega (arith, d))
    (cases_eq (s + 1) n)

-- the sector at a place is the one that its number says
pub some_sector : (n r l p s : ℕ) → Some s ≡ sector_at n r l p → (s ≡ number_at n r l p) × (number_at n r l p < n)
some_sector n r l p s e =
    ⊎_elim
    (λ below. let t = cond-true (ltb (number_at n r l p) n) (Some (number_at n r l p)) None (lt-ltb (number_at n r l p) n below) in (cc, below))
    (λ past. let t = cond-false (ltb (number_at n r l p) n) (Some (number_at n r l p)) None (le-ltb (number_at n r l p) n past) in cc)
    (cases_lt (number_at n r l p) n)

pub no_sector : (n r l p : ℕ) → None ≡ sector_at n r l p → n ≤ number_at n r l p
no_sector n r l p e =
    ⊎_elim
    (λ below. let t = cond-true (ltb (number_at n r l p) n) (Some (number_at n r l p)) None (lt-ltb (number_at n r l p) n below) in cc)
    (λ past. past)
    (cases_lt (number_at n r l p) n)

pub block_at-sector : (f : Fields) (block : ℕ → List ℕ) (l p s : ℕ) → Some s ≡ sector_at f.sectors f.parity l p → block_at f block l p ≡ block s
unfolding block_at
block_at-sector f block l p s e =
    let is = some_sector f.sectors f.parity l p s e in
    cond-true (ltb (place_number f l p) f.sectors) (block (place_number f l p)) (padded 2048 []) (lt-ltb (place_number f l p) f.sectors is.1)
    ∙ ap block (sym is.0)

pub block_at-number : (f : Fields) (block : ℕ → List ℕ) (l p : ℕ) → place_number f l p < f.sectors → block_at f block l p ≡ block (place_number f l p)
unfolding block_at
block_at-number f block l p below =
    cond-true (ltb (place_number f l p) f.sectors) (block (place_number f l p)) (padded 2048 []) (lt-ltb (place_number f l p) f.sectors below)

pub block_at-padding : (f : Fields) (block : ℕ → List ℕ) (l p : ℕ) → None ≡ sector_at f.sectors f.parity l p → block_at f block l p ≡ padded 2048 []
unfolding block_at
block_at-padding f block l p e =
    cond-false (ltb (place_number f l p) f.sectors) (block (place_number f l p)) (padded 2048 [])
    (le-ltb (place_number f l p) f.sectors (no_sector f.sectors f.parity l p e))

pub flag_at-sector : (f : Fields) (gone : ℕ → Bool) (l p s : ℕ) → Some s ≡ sector_at f.sectors f.parity l p → flag_at f gone l p ≡ gone s
unfolding flag_at
flag_at-sector f gone l p s e =
    let is = some_sector f.sectors f.parity l p s e in
    ap (λ b. b && gone (place_number f l p)) (lt-ltb (place_number f l p) f.sectors is.1) ∙ ap gone (sym is.0)

pub flag_at-padding : (f : Fields) (gone : ℕ → Bool) (l p : ℕ) → None ≡ sector_at f.sectors f.parity l p → flag_at f gone l p ≡ false
unfolding flag_at
flag_at-padding f gone l p e =
    ap (λ b. b && gone (place_number f l p)) (le-ltb (place_number f l p) f.sectors (no_sector f.sectors f.parity l p e))

pub sum_at-sector : (f : Fields) (sums : List ℕ) (l p s : ℕ) → Some s ≡ sector_at f.sectors f.parity l p → get_or sums s 0 ≡ sum_at f sums l p
unfolding sum_at
sum_at-sector f sums l p s e = ap (λ k. get_or sums k 0) (some_sector f.sectors f.parity l p s e).0

pub sum_at-padding : (f : Fields) (sums : List ℕ) (l p : ℕ) → length sums ≡ f.sectors → None ≡ sector_at f.sectors f.parity l p → 0 ≡ sum_at f sums l p
unfolding sum_at
sum_at-padding f sums l p all e =
    let past = no_sector f.sectors f.parity l p e in
    sym (get_or_past sums (place_number f l p) 0 (omega arith))

pub length-block_at : (f : Fields) (block : ℕ → List ℕ) (l p : ℕ) → ((s : ℕ) → length (block s) ≡ 2048) → length (block_at f block l p) ≡ 2048
unfolding block_at
length-block_at f block l p long =
    elim (nat_lt (place_number f l p) f.sectors) as (λ b. length (cond b (block (place_number f l p)) (padded 2048 [])) ≡ 2048) [
      | true ↦ long (place_number f l p)
      | false ↦ length-padded 2048 [] (omega arith)
    ]

pub length-blocks_at : (f : Fields) (block : ℕ → List ℕ) (l : ℕ) → length (blocks_at f block l) ≡ 255 - f.parity
unfolding blocks_at
length-blocks_at f block l = length-map (range_with_len 0 (255 - f.parity)) (block_at f block l) ∙ length-range_with_len 0 (255 - f.parity)

pub length-flags_at : (f : Fields) (gone : ℕ → Bool) (l : ℕ) → length (flags_at f gone l) ≡ 255 - f.parity
unfolding flags_at
length-flags_at f gone l = length-map (range_with_len 0 (255 - f.parity)) (flag_at f gone l) ∙ length-range_with_len 0 (255 - f.parity)

pub length-sums_at : (f : Fields) (sums : List ℕ) (l : ℕ) → length (sums_at f sums l) ≡ 255 - f.parity
unfolding sums_at
length-sums_at f sums l = length-map (range_with_len 0 (255 - f.parity)) (sum_at f sums l) ∙ length-range_with_len 0 (255 - f.parity)

-- the bytes that are put together are cut into the blocks again
pub blocks_cut : (f : Fields) (block : ℕ → List ℕ) (bytes : List ℕ) (l : ℕ) → ((s : ℕ) → length (block s) ≡ 2048)
    → bytes ≡ flat_map (block_at f block l) (range_with_len 0 (255 - f.parity)) → blocks_of (255 - f.parity) bytes ≡ blocks_at f block l
unfolding blocks_of blocks_at
blocks_cut f block bytes l sizes e =
    let n : ℕ = 255 - f.parity in
    let all : List ℕ = flat_map (block_at f block l) (range_with_len 0 n) in
    let long : (p : ℕ) → length (block_at f block l p) ≡ 2048 = λ p. length-block_at f block l p sizes in
    ap (λ xs. map (λ p. take 2048 (drop (2048 * p) xs)) (range_with_len 0 n)) e
    ∙ map_same (λ p. take 2048 (drop (2048 * p) all)) (block_at f block l) (range_with_len 0 n)
    (λ k below.
    let in_range : k < n = omega (arith, length-range_with_len 0 n) in
    let is = number_in_range n k in_range in
    ap (λ p. take 2048 (drop (2048 * p) all)) is
    ∙ flat_at (block_at f block l) 2048 n k (λ j h. long j) in_range
    ∙ ap (block_at f block l) (sym is))

-- the flag of a sector's place is that of the sector
pub flag_of_sector : (f : Fields) (gone : ℕ → Bool) (s : ℕ) → IsShape f.sectors f.parity → s < f.sectors
    → get_or (flags_at f gone (layer_of f.sectors f.parity s)) (place_of f.sectors f.parity s) false ≡ gone s
unfolding flags_at flag_at
flag_of_sector f gone s shape below =
    let at = each_sector_has_a_place f.sectors f.parity s shape below in
    let l : ℕ = layer_of f.sectors f.parity s in
    let p : ℕ = place_of f.sectors f.parity s in
    let is : place_number f l p ≡ s = place_determines_sector f.sectors f.parity s shape in
    get_or-map-range_with_len (flag_at f gone l) 0 (255 - f.parity) p p false at.1 (let z : 0 + p ≡ p = omega arith in z)
    ∙ (λ i. nat_lt (is i) f.sectors && gone (is i))
    ∙ ap (λ b. b && gone s) (lt-ltb s f.sectors below)

-- the parity of all codewords may be given
pub parity_given : (n r : ℕ) → n ≡ 2048 * r → IsTrue (is_parity_len n r)
parity_given n r e =
    let t : nat_eq n (2048 * r) ≡ true = eq-eqb n (2048 * r) e in
    elim (nat_eq n 0) as (λ b. IsTrue (b || nat_eq n (2048 * r))) [ true ↦ refl | false ↦ t ]

-- as many blocks as were asked for
length-blocks_of : (k : ℕ) (bytes : List ℕ) → length (blocks_of k bytes) ≡ k
unfolding blocks_of
length-blocks_of k bytes = length-map (range_with_len 0 k) (λ p. take 2048 (drop (2048 * p) bytes)) ∙ length-range_with_len 0 k

-- correcting an input gives the layer's answer
pub inputs_are_answered : InputsAreAnswered
unfolding correct answer_of
inputs_are_answered c block gone l input is =
    let f = c.fields in
    let one : length (blocks_in input) ≡ 255 - f.parity = length-blocks_of (255 - input.parity_count) input.data_ ∙ ap (λ r. 255 - r) is.parity_count in
    (λ i. correct_of (blocks_in input) (is.erased i) input.sums (is.parity i) (is.parity_count i))
    ∙ correct_of-same (blocks_in input) (blocks_at f block l) (flags_at f gone l) input.sums (sums_at f c.sums l) (parity_at c.parity l) f.parity
    (one ∙ sym (length-blocks_at f block l)) (length-flags_at f gone l ∙ sym one) is.blocks is.sums

pub flags_are : (f : Fields) (gone : ℕ → Bool) (l : ℕ) (flags : List Bool) → flags ≡ map (flag_at f gone l) (range_with_len 0 (255 - f.parity)) → flags ≡ flags_at f gone l
unfolding flags_at
flags_are f gone l flags e = e

pub sums_are : (f : Fields) (list : List ℕ) (l : ℕ) (sums : List ℕ) → sums ≡ map (sum_at f list l) (range_with_len 0 (255 - f.parity)) → sums ≡ sums_at f list l
unfolding sums_at
sums_are f list l sums e = e

-- the blocks of the places that aren't erased don't depend on those of the others
pub same_where_held : (f : Fields) (block kept : ℕ → List ℕ) (gone : ℕ → Bool) (l : ℕ)
    → ((p : ℕ) → p < 255 - f.parity → place_number f l p < f.sectors → gone (place_number f l p) ≡ false → kept (place_number f l p) ≡ block (place_number f l p))
    → AgreeWhereHeld (flags_at f gone l) (blocks_at f kept l) (blocks_at f block l)
unfolding blocks_at flags_at block_at flag_at
same_where_held f block kept gone l same p e =
    let n : ℕ = 255 - f.parity in
    ⊎_elim
    (λ inside.
    let z : 0 + p ≡ p = omega arith in
    let s = place_number f l p in
    let flag = get_or-map-range_with_len (λ q. nat_lt (place_number f l q) f.sectors && gone (place_number f l q)) 0 n p p false inside z in
    get_or-map-range_with_len (λ q. cond (nat_lt (place_number f l q) f.sectors) (kept (place_number f l q)) (padded 2048 [])) 0 n p p [] inside z
    ∙ one (nat_lt s f.sectors) (gone s) (kept s) (block s) (padded 2048 []) (λ there. same p inside (ltb-true s f.sectors there)) (sym flag ∙ e)
    ∙ sym (get_or-map-range_with_len (λ q. cond (nat_lt (place_number f l q) f.sectors) (block (place_number f l q)) (padded 2048 [])) 0 n p p [] inside z))
    (λ past.
    let long = length-blocks_at f kept l in
    let also = length-blocks_at f block l in
    get_or_past (blocks_at f kept l) p [] (omega (arith, long)) ∙ sym (get_or_past (blocks_at f block l) p [] (omega (arith, also))))
    (cases_lt p n)
  where
    one : (inside gone : Bool) (kept block zeros : List ℕ) → (inside ≡ true → gone ≡ false → kept ≡ block) → inside && gone ≡ false → cond inside kept zeros ≡ cond inside block zeros
    one true true kept block zeros h e = absurd (false≢true (sym e))
    one true false kept block zeros h e = h refl e
    one false gone kept block zeros h e = refl
