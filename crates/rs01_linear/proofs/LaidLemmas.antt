-- Files that are the bytes of all sectors, and what stands behind them.
use Rattle.std.proofs.Common.{◌≡◌, ℕ, zero, suc, ◌+◌, ◌-◌, ◌*◌, ◌<◌, ◌≤◌, ◌∙◌, ap, arith, List, ◌++◌, length, drop, min, append_assoc, ⊎_elim, eqb}
use Rattle.std.specs.List.{flat_map, range_with_len}
use Rattle.std.proofs.lemmas.Bool.{cases_eq, eq-eqb, ne_eqb, cond-true, cond-false}
use Rattle.std.proofs.lemmas.List.{length-append}
use Rattle.std.proofs.lemmas.List.Concat.{flat_map-append}
use Rattle.rs01_layers.specs.Sectors.{length_of}
use Rattle.rs01_lists.specs.Bytes.{part}
use Rattle.rs01_lists.proofs.Flats.{flat_more}
use Rattle.rs01_lists.proofs.Parts.{first, skip}
use Rattle.rs01_lists.proofs.Ranges.{range_with_len-append}
use Rattle.rs01_ecchead.specs.Erased.{Known, image_len}
use Rattle.rs01_linear.specs.Marking.{place}

-- a medium has a sector, and its last one has some bytes
pub record Sized (known : Known) : Type 0 where
  pub some : 1 ≤ known.sectors
  pub some_last : 1 ≤ known.last_bytes
  pub fits : known.last_bytes ≤ 2048

-- how many bytes a sector has
abbrev pub width : Known → ℕ → ℕ
width known s = length_of known.sectors known.last_bytes s

pub width_le : (known : Known) (s : ℕ) → Sized known → width known s ≤ 2048
width_le known s sized =
    ⊎_elim
    (λ e. let is = cond-true (eqb (s + 1) known.sectors) known.last_bytes 2048 (eq-eqb (s + 1) known.sectors e) in omega (arith, is, sized.fits))
    (λ ne. let is = cond-false (eqb (s + 1) known.sectors) known.last_bytes 2048 (ne_eqb (s + 1) known.sectors ne) in omega (arith, is))
    (cases_eq (s + 1) known.sectors)

-- sectors follow each other
pub place_more : (known : Known) (s : ℕ) → Sized known → s < known.sectors → place known (s + 1) ≡ place known s + width known s
place_more known s sized below =
    ⊎_elim
    (λ (e : s + 1 ≡ known.sectors).
    let is = cond-true (eqb (s + 1) known.sectors) known.last_bytes 2048 (eq-eqb (s + 1) known.sectors e) in
    omega (arith, is, e, sized.fits, sized.some_last, below))
    (λ ne.
    let is = cond-false (eqb (s + 1) known.sectors) known.last_bytes 2048 (ne_eqb (s + 1) known.sectors ne) in
    let more : s + 2 ≤ known.sectors = omega (arith, ne, below) in
    omega (arith, is, more, sized.some_last))
    (cases_eq (s + 1) known.sectors)

pub place_of : (known : Known) (s : ℕ) → Sized known → s < known.sectors → place known s ≡ 2048 * s
place_of known s sized below = omega (arith, sized.some_last, below)

pub place_end : (known : Known) → Sized known → place known known.sectors ≡ image_len known
place_end known sized = omega (arith, sized.some, sized.fits)

-- each sector's bytes are as many as it has
abbrev pub Fills : Known → (ℕ → List ℕ) → Type 0
Fills known f = (s : ℕ) → s < known.sectors → length (f s) ≡ width known s

pub length-front : (known : Known) (f : ℕ → List ℕ) (k : ℕ) → Sized known → Fills known f → k ≤ known.sectors → length (flat_map f (range_with_len 0 k)) ≡ place known k
length-front known f zero sized fills below = (let e : 0 ≡ min (2048 * 0) (image_len known) = omega arith in e)
length-front known f (suc k) sized fills below =
    ap length (flat_more f k) ∙ length-append (flat_map f (range_with_len 0 k)) (f k)
    ∙ (let before = length-front known f k sized fills (omega (arith, below)) in
    let here = fills k (omega (arith, below)) in
    let next = place_more known k sized (omega (arith, below)) in
    let one : place known (suc k) ≡ place known (k + 1) = ap (place known) (let e : suc k ≡ k + 1 = omega arith in e) in
    omega (arith, before, here, next, one))

-- the bytes of all sectors, and the rest of a file
abbrev pub laid : Known → (ℕ → List ℕ) → List ℕ → List ℕ
laid known f y = flat_map f (range_with_len 0 known.sectors) ++ drop (image_len known) y

-- the first sectors, those from there on, and the last ones
split : (known : Known) (f : ℕ → List ℕ) (y : List ℕ) (at past : ℕ) → at ≤ past → past ≤ known.sectors
    → laid known f y
    ≡ flat_map f (range_with_len 0 at) ++ (flat_map f (range_with_len at (past - at)) ++ (flat_map f (range_with_len past (known.sectors - past)) ++ drop (image_len known) y))
split known f y at past order inside =
    let all = known.sectors in
    let one : all ≡ at + (all - at) = omega (arith, order, inside) in
    let two : all - at ≡ (past - at) + (all - past) = omega (arith, order, inside) in
    let front : at + (past - at) ≡ past = omega (arith, order) in
    let zero_at : 0 + at ≡ at = omega arith in
    let rest = drop (image_len known) y in
    let pieces : flat_map f (range_with_len 0 all) ≡ flat_map f (range_with_len 0 at) ++ (flat_map f (range_with_len at (past - at)) ++ flat_map f (range_with_len past (all - past))) =
    ap (λ n. flat_map f (range_with_len 0 n)) one
    ∙ ap (flat_map f) (range_with_len-append 0 at (all - at) ∙ ap (λ k. range_with_len 0 at ++ range_with_len k (all - at)) zero_at)
    ∙ flat_map-append f (range_with_len 0 at) (range_with_len at (all - at))
    ∙ ap (λ xs. flat_map f (range_with_len 0 at) ++ xs)
    (ap (λ n. flat_map f (range_with_len at n)) two
    ∙ ap (flat_map f) (range_with_len-append at (past - at) (all - past) ∙ ap (λ k. range_with_len at (past - at) ++ range_with_len k (all - past)) front)
    ∙ flat_map-append f (range_with_len at (past - at)) (range_with_len past (all - past))) in
    ap (λ xs. xs ++ rest) pieces
    ∙ append_assoc (flat_map f (range_with_len 0 at)) (flat_map f (range_with_len at (past - at)) ++ flat_map f (range_with_len past (all - past))) rest
    ∙ ap (λ xs. flat_map f (range_with_len 0 at) ++ xs) (append_assoc (flat_map f (range_with_len at (past - at))) (flat_map f (range_with_len past (all - past))) rest)

-- neighbouring sectors stand at their place
pub laid_part : (known : Known) (f : ℕ → List ℕ) (y : List ℕ) (at past : ℕ) → Sized known → Fills known f → at ≤ past → past ≤ known.sectors
    → part (laid known f y) (place known at) (place known past - place known at) ≡ flat_map f (range_with_len at (past - at))
laid_part known f y at past sized fills order inside =
    let all = known.sectors in
    let front = flat_map f (range_with_len 0 at) in
    let here = flat_map f (range_with_len at (past - at)) in
    let behind = flat_map f (range_with_len past (all - past)) ++ drop (image_len known) y in
    let long = length-front known f at sized fills (omega (arith, order, inside)) in
    let whole = length-front known f past sized fills inside in
    let both : flat_map f (range_with_len 0 past) ≡ front ++ here =
    ap (λ n. flat_map f (range_with_len 0 n)) (let e : past ≡ at + (past - at) = omega (arith, order) in e)
    ∙ ap (flat_map f) (range_with_len-append 0 at (past - at) ∙ ap (λ k. range_with_len 0 at ++ range_with_len k (past - at)) (let e : 0 + at ≡ at = omega arith in e))
    ∙ flat_map-append f (range_with_len 0 at) (range_with_len at (past - at)) in
    let size : length here ≡ place known past - place known at = omega (arith, long, whole, ap length both, length-append front here) in
    let zero_more : place known at ≡ place known at + 0 = omega arith in
    ap (λ xs. part xs (place known at) (place known past - place known at)) (split known f y at past order inside)
    ∙ ap (λ k. part (front ++ (here ++ behind)) k (place known past - place known at)) zero_more
    ∙ skip front (here ++ behind) (place known at) 0 (place known past - place known at) long
    ∙ first here behind (place known past - place known at) size

pub laid_long : (known : Known) (f : ℕ → List ℕ) (y : List ℕ) → Sized known → Fills known f → image_len known ≤ length (laid known f y)
laid_long known f y sized fills =
    omega (arith, length-front known f known.sectors sized fills (omega arith), place_end known sized, length-append (flat_map f (range_with_len 0 known.sectors)) (drop (image_len known) y))

pub place_order : (known : Known) (at past : ℕ) → at ≤ past → place known at ≤ place known past
place_order known at past order = omega (arith, order)

pub place_within : (known : Known) (s : ℕ) → place known s ≤ image_len known
place_within known s = omega arith
