-- What is read back of a layer.
use Rattle.std.proofs.Common.{◌≡◌, ℕ, ◌+◌, ◌-◌, ◌*◌, ◌<◌, ◌≤◌, List, [], ◌++◌, length, take, get_or, refl, sym, ap, subst, ◌∙◌, arith, cond}
use Rattle.std.specs.Prelude.{Bool, true, false, IsTrue}
use Rattle.std.specs.List.{flat_map, range_with_len}
use Rattle.std.proofs.lemmas.Bool.{cond-false, cond-true}
use Rattle.std.proofs.Math.Seq.{take-length}
use Rattle.rs01_lists.specs.Bytes.{padded, part, zeros}
use Rattle.rs01_lists.proofs.Padding.{length-padded}
use Rattle.rs01_layers.specs.Blocks.{blocks_of}
use Rattle.rs01_layers.specs.Layout.{file_size, layers_of, parity_offset}
use Rattle.rs01_layers.specs.Sectors.{block, length_of}
use Rattle.rs01_layers.specs.declared.input.LayerInput.{LayerInput}
use Rattle.rs01_layers.proofs.BlockLemmas.{length-block}
use Rattle.rs01_ecchead.specs.Erased.{block_in, known_of}
use Rattle.rs01_ecchead.specs.Head.{fields_of}
use Rattle.rs01_ecchead.specs.Opened.{opened_as}
use Rattle.rs01_ecchead.specs.Recorded.{parity_in}
use Rattle.rs01_ecchead.specs.Runs.{IsRun}
use Rattle.rs01_ecchead.specs.declared.opened.Ecc.{Ecc}
use Rattle.rs01_erase.specs.Correcting.{AgreeWhereHeld, blocks_in}
use Rattle.rs01_repair.specs.Inputs.{IsInput, blocks_at, flags_at, parity_at, place_number, sums_at}
use Rattle.rs01_repair.proofs.InputLemmas.{blocks_cut, same_where_held, size_fits}
use Rattle.rs01_repair.proofs.Joined.{parity_is}
use Rattle.rs01_repair.proofs.Numbered.{one_more_piece}
use Rattle.rs01_outside.specs.Causes.{Rose}
use Rattle.rs01_outside.specs.DeskState.{DeskState, OnlyReads}
use Rattle.rs01_outside.specs.Files.{bytes_of}
use Rattle.rs01_reader.specs.Courses.{CourseSeen}
use Rattle.rs01_reader.specs.Inputs.{IsParityOf, is_gone, kept_at, kept_blocks, kept_in}

-- the parity of a layer lies within the file
parity_fits : (n r l at size len : ℕ) → l < layers_of n r → at ≡ parity_offset n r l 0 → size ≡ 2048 * r → file_size n r ≤ len → at + size ≤ len
parity_fits n r l at size len low a s whole = grind (arith, a, s, whole, low)

pub parity_read : (n r l at size : ℕ) (file bytes : List ℕ) → l < layers_of n r → at ≡ parity_offset n r l 0 → size ≡ 2048 * r
    → file_size n r ≤ length file → (at + size ≤ length file → bytes ≡ part file at size) → bytes ≡ parity_at (parity_in file n r) l
parity_read n r l at size file bytes low a s whole read =
    read (parity_fits n r l at size (length file) low a s whole) ∙ (λ i. part file (a i) (s i)) ∙ parity_is file n r l

-- what is taken of a sector
pub kept-good : (ecc : Ecc) (course : CourseSeen) (file : List ℕ) (s : ℕ) → is_gone course s ≡ false → kept_in ecc course file s ≡ block_in (known_of ecc) file s
unfolding kept_in
kept-good ecc course file s e = cond-false (is_gone course s) (padded 2048 []) (block_in (known_of ecc) file s) e

pub kept-gone : (ecc : Ecc) (course : CourseSeen) (file : List ℕ) (s : ℕ) → is_gone course s ≡ true → kept_in ecc course file s ≡ padded 2048 []
unfolding kept_in
kept-gone ecc course file s e = cond-true (is_gone course s) (padded 2048 []) (block_in (known_of ecc) file s) e

pub length-kept : (ecc : Ecc) (course : CourseSeen) (file : List ℕ) (s : ℕ) → length (kept_in ecc course file s) ≡ 2048
unfolding kept_in
length-kept ecc course file s =
    let size = length_of ecc.head.sectors ecc.head.last_bytes s in
    elim (is_gone course s) as (λ b. length (cond b (padded 2048 []) (block file s size)) ≡ 2048) [
      | true ↦ length-padded 2048 [] (omega arith)
      | false ↦ length-block file s size (size_fits ecc.head.sectors ecc.head.last_bytes s ecc.head.last_fits)
    ]

-- a run of one sector is its block
pub one_block : (file : List ℕ) (n last s : ℕ) (buffer : List ℕ) → length buffer ≡ 2048 → IsRun file n last s buffer → buffer ≡ block file s (length_of n last s)
one_block file n last s buffer long run =
    let first = run 0 (omega (arith, long)) in
    let none : s + 0 ≡ s = omega arith in
    let whole : part buffer (2048 * 0) 2048 ≡ buffer = ap (λ (m : ℕ). take m buffer) (sym long) ∙ take-length buffer in
    sym whole ∙ first ∙ ap (λ (k : ℕ). block file k (length_of n last k)) none

-- what is put together is an input of the layer
pub input_is :
    (ecc : Ecc) (course : CourseSeen) (image file : List ℕ) (l : ℕ) (input : LayerInput) → input.parity_count ≡ ecc.head.parity
    → input.data_ ≡ kept_blocks ecc course image l → input.erased ≡ flags_at (fields_of ecc.head) (is_gone course) l → input.sums ≡ sums_at (fields_of ecc.head) ecc.sums.list l
    → input.parity ≡ parity_at (parity_in file ecc.head.sectors ecc.head.parity) l → IsInput (opened_as ecc file) (block_in (known_of ecc) image) (is_gone course) l input
unfolding kept_blocks
input_is ecc course image file l input count data_ erased sums parity =
    let f = fields_of ecc.head in
    let cut : blocks_in input ≡ blocks_at f (kept_in ecc course image) l =
    (λ i. blocks_of (255 - count i) input.data_) ∙ blocks_cut f (kept_in ecc course image) input.data_ l (length-kept ecc course image) data_ in
    record {
      parity_count = count;
      erased = erased;
      blocks = subst (λ (bs : List (List ℕ)). AgreeWhereHeld (flags_at f (is_gone course) l) bs (blocks_at f (block_in (known_of ecc) image) l)) (sym cut)
          (same_where_held f (block_in (known_of ecc) image) (kept_in ecc course image) (is_gone course) l
          (λ p below inside good. kept-good ecc course image (place_number f l p) good));
      sums = λ p e. ap (λ xs. get_or xs p 0) sums;
      parity = parity;
    }

pub none_padded : zeros 2048 ≡ padded 2048 []
unfolding padded
none_padded = refl

-- reading goes on
pub reads_then : (a b c : DeskState) (failed : Bool) → OnlyReads a b false → OnlyReads b c failed → OnlyReads a c failed
reads_then a b c failed one two = record {
  tells = two.tells ∙ one.tells;
  unchanged = λ t. two.unchanged (subst IsTrue (sym one.tells) t) ∙ one.unchanged t;
  later = omega (arith, one.later, two.later);
  rose = λ t. subst (λ (n : ℕ). Rose n c.read_faults) (one.kept refl) (two.rose t);
  kept = λ t. two.kept t ∙ one.kept refl;
  writes = two.writes ∙ one.writes;
}

-- the places of a layer, one more
pub more_read :
    (ecc : Ecc) (course : CourseSeen) (image : List ℕ) (l p : ℕ) (a b : DeskState) (old new : List ℕ) → OnlyReads a b false
    → (IsTrue a.tells → old ≡ flat_map (kept_at ecc course (bytes_of a.files image) l) (range_with_len 0 p))
    → (IsTrue b.tells → new ≡ old ++ kept_at ecc course (bytes_of b.files image) l p)
    → IsTrue a.tells → new ≡ flat_map (kept_at ecc course (bytes_of a.files image) l) (range_with_len 0 (p + 1))
more_read ecc course image l p a b old new r held put t =
    one_more_piece (kept_at ecc course (bytes_of a.files image) l) old new (kept_at ecc course (bytes_of a.files image) l p) p (held t) refl
    (put (subst IsTrue (sym r.tells) t) ∙ ap (λ fs. old ++ kept_at ecc course (bytes_of fs image) l p) (r.unchanged t))

pub all_read : (ecc : Ecc) (course : CourseSeen) (file : List ℕ) (l n : ℕ) (blocks : List ℕ) → n ≡ 255 - ecc.head.parity
    → blocks ≡ flat_map (kept_at ecc course file l) (range_with_len 0 n) → blocks ≡ kept_blocks ecc course file l
unfolding kept_blocks
all_read ecc course file l n blocks e held = held ∙ ap (λ (m : ℕ). flat_map (kept_at ecc course file l) (range_with_len 0 m)) e

-- the parity that is read after the blocks
pub parity_after :
    (ecc : Ecc) (name : List ℕ) (l : ℕ) (a b : DeskState) (parity : List ℕ) → OnlyReads a b false → IsTrue a.tells
    → file_size ecc.head.sectors ecc.head.parity ≤ length (bytes_of a.files name)
    → (IsTrue b.tells → IsParityOf ecc (bytes_of b.files name) l parity) → parity ≡ parity_at (parity_in (bytes_of a.files name) ecc.head.sectors ecc.head.parity) l
parity_after ecc name l a b parity r t whole read =
    let e = r.unchanged t in
    read (subst IsTrue (sym r.tells) t) (subst (λ fs. file_size ecc.head.sectors ecc.head.parity ≤ length (bytes_of fs name)) (sym e) whole)
    ∙ ap (λ fs. parity_at (parity_in (bytes_of fs name) ecc.head.sectors ecc.head.parity) l) e
