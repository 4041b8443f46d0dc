-- The blocks of neighbouring layers, place by place.
use Rattle.std.proofs.Common.{◌≡◌, ℕ, ◌+◌, ◌-◌, ◌*◌, ◌/◌, ◌<◌, ◌≤◌, List, [], ◌∷◌, ◌++◌, length, drop, get_or, min, refl, sym, ap, ◌∙◌, arith, add-one, ltb, ⊎_elim}
use Rattle.std.specs.List.{flat_map, range_with_len}
use Rattle.std.specs.Global.{Vec}
use Rattle.std.proofs.lemmas.Bool.{cases_lt, lt-ltb, le-ltb, cond-true, cond-false}
use Rattle.std.proofs.lemmas.List.{length-append, length-take, length-drop}
use Rattle.rs01_layers.specs.Extents.{IsExtentOf}
use Rattle.rs01_layers.specs.Layer.{block_at, layer_bytes}
use Rattle.rs01_layers.specs.Layout.{layers_of, number_at}
use Rattle.rs01_layers.specs.Sectors.{block, length_of, sector, sectors_of}
use Rattle.rs01_layers.specs.declared.extent.Extent.{Extent}
use Rattle.rs01_layers.proofs.BlockLemmas.{block_at-sector, block_at-padding}
use Rattle.rs01_lists.specs.Bytes.{padded, part, zeros}
use Rattle.rs01_lists.proofs.Flats.{flat_more}
use Rattle.rs01_lists.proofs.Padding.{length-zeros}
use Rattle.rs01_ecchead.specs.Runs.{IsRun}
use Rattle.rs01_create.specs.Windows.{AllGrow, AllLong, AllLongerBy, HoldsBlocks, HoldsLayers, HoldsPlace, in_run}

-- a block that is in the run, and one that isn't
pub in_run_there : (run : List ℕ) (i : ℕ) → i < length run / 2048 → in_run run i ≡ part run (2048 * i) 2048
in_run_there run i h = cond-true (ltb i (length run / 2048)) (part run (2048 * i) 2048) (zeros 2048) (lt-ltb i (length run / 2048) h)

pub in_run_ended : (run : List ℕ) (i : ℕ) → length run / 2048 ≤ i → in_run run i ≡ zeros 2048
in_run_ended run i h = cond-false (ltb i (length run / 2048)) (part run (2048 * i) 2048) (zeros 2048) (le-ltb i (length run / 2048) h)

length-in_run : (run : List ℕ) (i : ℕ) → length (in_run run i) ≡ 2048
length-in_run run i =
    ⊎_elim
    (λ h. ap length (in_run_there run i h) ∙ omega (arith, h, length-take 2048 (drop (2048 * i) run), length-drop (2048 * i) run))
    (λ h. ap length (in_run_ended run i h) ∙ length-zeros 2048)
    (cases_lt i (length run / 2048))

no_block : zeros 2048 ≡ padded 2048 []
unfolding padded
no_block = refl

-- what a run holds at a place
pub place_holds : (image run : List ℕ) (extent : Extent) (n r first place start width count : ℕ) → IsExtentOf image extent → n ≡ extent.sectors
    → IsRun image extent.sectors extent.last_bytes start run → length run ≡ 2048 * count → start ≡ first + place * layers_of n r
    → count ≡ min (extent.sectors - start) width → HoldsPlace image r first place width run
place_holds image run extent n r first place start width count of same is long at few j below =
    let blocks : length run / 2048 ≡ count = omega (arith, long) in
    let sectors : n ≡ sectors_of (length image) = same ∙ of.sectors in
    let number : start + j ≡ number_at (sectors_of (length image)) r (first + j) place =
    (let e : start + j ≡ first + j + place * layers_of n r = omega (arith, at) in e) ∙ ap (λ k. first + j + place * layers_of k r) sectors in
    ⊎_elim
    (λ h.
    in_run_there run j (omega (arith, h, blocks))
    ∙ is j (omega (arith, h, blocks))
    ∙ ap (block image (start + j)) (λ i. length_of (of.sectors i) (of.last i) (start + j))
    ∙ ap (sector image) number
    ∙ sym (block_at-sector image r (first + j) place (omega (arith, h, few, number, same, sectors))))
    (λ h.
    in_run_ended run j (omega (arith, h, blocks))
    ∙ no_block
    ∙ sym (block_at-padding image r (first + j) place (omega (arith, h, few, below, number, same, sectors))))
    (cases_lt j count)

pub longer_by : (run : List ℕ) (old new : List (Vec ℕ)) → AllGrow (in_run run) old new → AllLongerBy 2048 old new
longer_by run old new grow = record {
  count = grow.count;
  each = λ k d h.
      ap length (grow.each k d h)
      ∙ length-append (get_or old k d).items (in_run run (length old - 1 - k))
      ∙ ap (λ n. length (get_or old k d).items + n) (length-in_run run (length old - 1 - k));
}

pub grow_by : (image run : List ℕ) (r first place width : ℕ) (old new : List (Vec ℕ)) → width ≡ length old → HoldsPlace image r first place width run
    → AllGrow (in_run run) old new → AllGrow (λ j. block_at image r (first + j) place) old new
grow_by image run r first place width old new same holds grow = record {
  count = grow.count;
  each = λ k d h. grow.each k d h ∙ ap (λ xs. (get_or old k d).items ++ xs) (holds (length old - 1 - k) (omega (arith, same, h)));
}

-- one more place
pub blocks_more : (image : List ℕ) (r first count place : ℕ) (old new : List (Vec ℕ)) → length old ≡ count
    → AllGrow (λ j. block_at image r (first + j) place) old new → HoldsBlocks image r (first + count) place old → HoldsBlocks image r (first + count) (place + 1) new
blocks_more image r first count place old new long grow holds = λ k d h.
    let l = first + count - 1 - k in
    let h0 : k < length old = omega (arith, h, grow.count) in
    let same : first + (length old - 1 - k) ≡ l = omega (arith, h0, long) in
    grow.each k d h0
    ∙ (λ i. holds k d h0 i ++ block_at image r (same i) place)
    ∙ sym (ap (λ n. flat_map (block_at image r l) (range_with_len 0 n)) (add-one place) ∙ flat_more (block_at image r l) place)

pub long_more : (n : ℕ) (old new : List (Vec ℕ)) → AllLongerBy 2048 old new → AllLong (2048 * n) old → AllLong (2048 * (n + 1)) new
long_more n old new longer long = λ k d h.
    let h0 : k < length old = omega (arith, h, longer.count) in
    let one = longer.each k d h0 in
    let before = long k d h0 in
    omega (arith, one, before)

pub blocks_none : (image : List ℕ) (r past : ℕ) (lists : List (Vec ℕ)) → AllLong 0 lists → HoldsBlocks image r past 0 lists
blocks_none image r past lists none = λ k d h. no_bytes (get_or lists k d).items (none k d h)
  where
    no_bytes : (xs : List ℕ) → length xs ≡ 0 → xs ≡ []
    no_bytes [] e = refl
    no_bytes (x ∷ xs) e = absurd (omega (arith, e))

pub layers_held : (image : List ℕ) (r past places : ℕ) (lists : List (Vec ℕ)) → places ≡ 255 - r → HoldsBlocks image r past places lists → HoldsLayers image r past lists
unfolding layer_bytes
layers_held image r past places lists all holds = λ k d h. holds k d h ∙ ap (λ n. flat_map (block_at image r (past - 1 - k)) (range_with_len 0 n)) all
