-- What putting restored blocks in place leaves of an image file.
use Rattle.std.proofs.Common.{◌≡◌, ℕ, ◌+◌, ◌-◌, ◌*◌, ◌<◌, ◌≤◌, ⊎_elim, List, length, take, refl, sym, ap, subst, ◌∙◌, arith, eqb, ltb, inl, inr, Bool, true, false, cond, get_or}
use Rattle.std.specs.Prelude.{◌⊎◌, ◌≢◌, ◌&&◌, IfSome, Option, Some, None, Result, Ok, Err}
use Rattle.std.proofs.lemmas.Bool.{cases_eq, cases_lt, cond-true, eq-eqb, ne_eqb, lt-ltb, le-ltb}
use Rattle.std.proofs.lemmas.List.{length-take, length-take-le}
use Rattle.rs01_layers.specs.Layout.{IsShape, layer_of, layers_of, number_at, place_of, sector_at}
use Rattle.rs01_layers.specs.declared.task.LayerOut.{LayerOut}
use Rattle.rs01_layers.proofs.PlaceLemmas.{each_sector_has_one_place, place_determines_sector, sector_at-some}
use Rattle.rs01_outside.specs.Files.{Files, WritesAt, bytes_of}
use Rattle.rs01_outside.specs.declared.Failed.{Failed}
use Rattle.rs01_ecchead.specs.Erased.{Known, image_len, known_of}
use Rattle.rs01_ecchead.specs.declared.opened.Ecc.{Ecc}
use Rattle.rs01_repair.specs.Restored.{restored_at}
use Rattle.rs01_turns.specs.Leads.{IsBlend}
use Rattle.rs01_turns.proofs.Placing.{LiesOver, drop-outside, part-blend, part-here, part-outside, placed, wrote-over}
use Rattle.rs01_adaptive.specs.Putting.{HasPut, HasWhole, IsPutting, PutsTo, block_below, bytes_by, bytes_in, new_block, width_of}

-- nothing is put yet
pub none_put : (known : Known) (block : ℕ → Option (List ℕ)) (file : List ℕ) → ((s : ℕ) → block s ≡ None) → HasPut known block file file
none_put known block file none = record {
  len = refl;
  sectors = λ s below. ap (λ (o : Option (List ℕ)). bytes_by known s o (bytes_in known file s)) (sym (none s));
  surplus = refl;
}

-- the same blocks
pub same_put : (known : Known) (block block' : ℕ → Option (List ℕ)) (old file : List ℕ) → ((s : ℕ) → s < known.sectors → block' s ≡ block s) → HasPut known block old file → HasPut known block' old file
same_put known block block' old file same has = record {
  len = has.len;
  sectors = λ s below. has.sectors s below ∙ ap (λ (o : Option (List ℕ)). bytes_by known s o (bytes_in known old s)) (sym (same s below));
  surplus = has.surplus;
}

-- what a write of a sector finds
room : (known : Known) (block : ℕ → Option (List ℕ)) (before file : List ℕ) (s : ℕ) → known.last_bytes ≤ 2048 → s < known.sectors → image_len known ≤ length before → HasPut known block before file
    → 2048 * s + width_of known s ≤ length file
room known block before file s few below long has = omega (arith, (placed known.sectors known.last_bytes s few below).fits, long, has.len)

-- a sector more is put
pub put_more : (known : Known) (block block' : ℕ → Option (List ℕ)) (before : List ℕ) (old new : Files) (name bytes : List ℕ) (s : ℕ) (u : Unit {0}) → known.last_bytes ≤ 2048 → s < known.sectors
    → image_len known ≤ length before → length bytes ≡ width_of known s
    → HasPut known block before (bytes_of old name) → WritesAt {E = Failed} old new name (2048 * s) bytes (Ok u)
    → bytes_by known s (block' s) (bytes_in known before s) ≡ bytes → ((k : ℕ) → k ≢ s → block' k ≡ block k)
    → HasPut known block' before (bytes_of new name)
put_more known block block' before old new name bytes s u few below long size has wrote here others =
    let at = placed known.sectors known.last_bytes s few below in
    let fits = room known block before (bytes_of old name) s few below long has in
    let w = wrote-over {E = Failed} old new name bytes (2048 * s) (Ok u) (omega (arith, fits, size)) wrote in
    let over : LiesOver (bytes_of old name) (bytes_of new name) (2048 * s) bytes = subst (λ (b : List ℕ). LiesOver (bytes_of old name) (bytes_of new name) (2048 * s) b) (w.all u refl) w.over in
    record {
      len = over.len ∙ has.len;
      sectors = λ k low. ⊎_elim
          (λ (e : k ≡ s). subst (λ (j : ℕ). bytes_in known (bytes_of new name) j ≡ bytes_by known j (block' j) (bytes_in known before j)) (sym e)
          (part-here (bytes_of old name) (bytes_of new name) (2048 * s) bytes (width_of known s) over size fits ∙ sym here))
          (λ (ne : k ≢ s).
          part-outside (bytes_of old name) (bytes_of new name) (2048 * s) bytes (2048 * k) (width_of known k) over
          (⊎_elim (λ (b : 2048 * k + width_of known k ≤ 2048 * s). inl b) (λ (b : 2048 * s + width_of known s ≤ 2048 * k). inr (omega (arith, b, size))) (at.apart k ne))
          ∙ has.sectors k low
          ∙ ap (λ (o : Option (List ℕ)). bytes_by known k o (bytes_in known before k)) (sym (others k ne)))
          (cases_eq k s);
      surplus = drop-outside (bytes_of old name) (bytes_of new name) (2048 * s) bytes (image_len known) over (omega (arith, at.fits, size)) ∙ has.surplus;
    }

-- a sector is put in part at most
pub put_in_part : (known : Known) (block all : ℕ → Option (List ℕ)) (before : List ℕ) (old new : Files) (name bytes : List ℕ) (s : ℕ) (e : Failed) → known.last_bytes ≤ 2048 → s < known.sectors
    → image_len known ≤ length before → length bytes ≡ width_of known s
    → HasPut known block before (bytes_of old name) → WritesAt {E = Failed} old new name (2048 * s) bytes (Err e)
    → block s ≡ None → bytes_by known s (all s) (bytes_in known before s) ≡ bytes → ((k : ℕ) → (block k ≡ all k) ⊎ (block k ≡ None))
    → IsPutting known all before (bytes_of new name)
put_in_part known block all before old new name bytes s e few below long size has wrote free here others =
    let at = placed known.sectors known.last_bytes s few below in
    let fits = room known block before (bytes_of old name) s few below long has in
    let w = wrote-over {E = Failed} old new name bytes (2048 * s) (Err e) (omega (arith, fits, size)) wrote in
    let short : length (take w.kept bytes) ≤ width_of known s = omega (arith, size, length-take w.kept bytes) in
    record {
      len = w.over.len ∙ has.len;
      sectors = λ k low. ⊎_elim
          (λ (same : k ≡ s). subst (λ (j : ℕ). IsBlend (bytes_in known (bytes_of new name) j) (bytes_in known before j) (bytes_by known j (all j) (bytes_in known before j))) (sym same)
          (subst (λ (b : List ℕ). IsBlend (bytes_in known (bytes_of new name) s) (bytes_in known before s) b) (sym here)
          (subst (λ (o : List ℕ). IsBlend (bytes_in known (bytes_of new name) s) o bytes)
          (has.sectors s below ∙ ap (λ (o : Option (List ℕ)). bytes_by known s o (bytes_in known before s)) free)
          (part-blend (bytes_of old name) (bytes_of new name) (2048 * s) bytes w.kept (width_of known s) w.over (omega (arith, size))))))
          (λ (ne : k ≢ s).
          let is : bytes_in known (bytes_of new name) k ≡ bytes_by known k (block k) (bytes_in known before k) =
          part-outside (bytes_of old name) (bytes_of new name) (2048 * s) (take w.kept bytes) (2048 * k) (width_of known k) w.over
          (⊎_elim (λ (b : 2048 * k + width_of known k ≤ 2048 * s). inl b) (λ (b : 2048 * s + width_of known s ≤ 2048 * k). inr (omega (arith, b, short))) (at.apart k ne))
          ∙ has.sectors k low in
          ⊎_elim
          (λ (put : block k ≡ all k). λ i. inr (ap (λ (xs : List ℕ). get_or xs i 0) (is ∙ ap (λ (o : Option (List ℕ)). bytes_by known k o (bytes_in known before k)) put)))
          (λ (none : block k ≡ None). λ i. inl (ap (λ (xs : List ℕ). get_or xs i 0) (is ∙ ap (λ (o : Option (List ℕ)). bytes_by known k o (bytes_in known before k)) none)))
          (others k))
          (cases_eq k s);
      surplus = drop-outside (bytes_of old name) (bytes_of new name) (2048 * s) (take w.kept bytes) (image_len known) w.over (omega (arith, at.fits, short)) ∙ has.surplus;
    }

-- the blocks of the places below one

pub inside : (ecc : Ecc) (l : ℕ) (answer : LayerOut) (p k : ℕ) → layer_of ecc.head.sectors ecc.head.parity k ≡ l → place_of ecc.head.sectors ecc.head.parity k < p
    → block_below ecc l answer p k ≡ restored_at answer (place_of ecc.head.sectors ecc.head.parity k)
inside ecc l answer p k same low =
    let one = eq-eqb (layer_of ecc.head.sectors ecc.head.parity k) l same in
    let two = lt-ltb (place_of ecc.head.sectors ecc.head.parity k) p low in
    λ i. cond (one i && two i) (restored_at answer (place_of ecc.head.sectors ecc.head.parity k)) None

pub elsewhere : (ecc : Ecc) (l : ℕ) (answer : LayerOut) (p k : ℕ) → layer_of ecc.head.sectors ecc.head.parity k ≢ l → block_below ecc l answer p k ≡ None
elsewhere ecc l answer p k other =
    let one = ne_eqb (layer_of ecc.head.sectors ecc.head.parity k) l other in
    λ i. cond (one i && ltb (place_of ecc.head.sectors ecc.head.parity k) p) (restored_at answer (place_of ecc.head.sectors ecc.head.parity k)) None

both_false : (b : Bool) → b && false ≡ false
both_false true = refl
both_false false = refl

ahead : (ecc : Ecc) (l : ℕ) (answer : LayerOut) (p k : ℕ) → p ≤ place_of ecc.head.sectors ecc.head.parity k → block_below ecc l answer p k ≡ None
ahead ecc l answer p k past =
    let two : eqb (layer_of ecc.head.sectors ecc.head.parity k) l && ltb (place_of ecc.head.sectors ecc.head.parity k) p ≡ false =
    ap (λ (b : Bool). eqb (layer_of ecc.head.sectors ecc.head.parity k) l && b) (le-ltb (place_of ecc.head.sectors ecc.head.parity k) p past) ∙ both_false (eqb (layer_of ecc.head.sectors ecc.head.parity k) l) in
    λ i. cond (two i) (restored_at answer (place_of ecc.head.sectors ecc.head.parity k)) None

-- no place lies below the first
pub none_below : (ecc : Ecc) (l : ℕ) (answer : LayerOut) (k : ℕ) → block_below ecc l answer 0 k ≡ None
none_below ecc l answer k = ahead ecc l answer 0 k (omega arith)

-- one place more: only the sector there, if there is one
pub below_more : (ecc : Ecc) (l : ℕ) (answer : LayerOut) (p k : ℕ) → IsShape ecc.head.sectors ecc.head.parity → k ≢ number_at ecc.head.sectors ecc.head.parity l p
    → block_below ecc l answer (p + 1) k ≡ block_below ecc l answer p k
below_more ecc l answer p k shape other = ⊎_elim
    (λ (same : layer_of ecc.head.sectors ecc.head.parity k ≡ l). ⊎_elim
    (λ (low : place_of ecc.head.sectors ecc.head.parity k < p). inside ecc l answer (p + 1) k same (omega (arith, low)) ∙ sym (inside ecc l answer p k same low))
    (λ (past : p ≤ place_of ecc.head.sectors ecc.head.parity k). ⊎_elim
    (λ (here : place_of ecc.head.sectors ecc.head.parity k ≡ p).
    absurd (other (sym (place_determines_sector ecc.head.sectors ecc.head.parity k shape) ∙ (λ i. number_at ecc.head.sectors ecc.head.parity (same i) (here i)))))
    (λ (ne : place_of ecc.head.sectors ecc.head.parity k ≢ p). ahead ecc l answer (p + 1) k (omega (arith, past, ne)) ∙ sym (ahead ecc l answer p k past))
    (cases_eq (place_of ecc.head.sectors ecc.head.parity k) p))
    (cases_lt (place_of ecc.head.sectors ecc.head.parity k) p))
    (λ (ne : layer_of ecc.head.sectors ecc.head.parity k ≢ l). elsewhere ecc l answer (p + 1) k ne ∙ sym (elsewhere ecc l answer p k ne))
    (cases_eq (layer_of ecc.head.sectors ecc.head.parity k) l)

-- what is below a place is among all, or isn't there yet
pub below_or_none : (ecc : Ecc) (l : ℕ) (answer : LayerOut) (p k : ℕ) → p ≤ 255 - ecc.head.parity → (block_below ecc l answer p k ≡ new_block ecc l answer k) ⊎ (block_below ecc l answer p k ≡ None)
below_or_none ecc l answer p k order = ⊎_elim
    (λ (same : layer_of ecc.head.sectors ecc.head.parity k ≡ l). ⊎_elim
    (λ (low : place_of ecc.head.sectors ecc.head.parity k < p). inl (inside ecc l answer p k same low ∙ sym (inside ecc l answer (255 - ecc.head.parity) k same (omega (arith, low, order)))))
    (λ (past : p ≤ place_of ecc.head.sectors ecc.head.parity k). inr (ahead ecc l answer p k past))
    (cases_lt (place_of ecc.head.sectors ecc.head.parity k) p))
    (λ (ne : layer_of ecc.head.sectors ecc.head.parity k ≢ l). inr (elsewhere ecc l answer p k ne))
    (cases_eq (layer_of ecc.head.sectors ecc.head.parity k) l)

pub shape_is : (ecc : Ecc) → IsShape ecc.head.sectors ecc.head.parity
shape_is ecc = record { some_sectors = ecc.head.some_sectors; not_too_many = ecc.head.few_sectors; enough_parity = ecc.head.least_parity; not_too_much = ecc.head.most_parity }

pub number_of : (n r l p s : ℕ) → Some s ≡ sector_at n r l p → (s ≡ number_at n r l p) × (s < n)
number_of n r l p s e =
    let is = sector_at-some n r l p s (sym e) in
    (is.0, omega (arith, is.0, is.1))

pub whole_long : (o : Option (List ℕ)) (bytes : List ℕ) → IfSome o (λ block. length block ≡ 2048) → o ≡ Some bytes → length bytes ≡ 2048
whole_long (Some block) bytes long e = let same : block ≡ bytes = cc in ap length (sym same) ∙ long
whole_long None bytes long e = cc

-- the block of a place is put in place, where there is one
pub put_here : (ecc : Ecc) (l p s : ℕ) (answer : LayerOut) (block : Option (List ℕ)) (before name : List ℕ) (old new : Files) (result : Result Unit Failed)
    → l < layers_of ecc.head.sectors ecc.head.parity → p < 255 - ecc.head.parity → Some s ≡ sector_at ecc.head.sectors ecc.head.parity l p
    → HasWhole answer → block ≡ restored_at answer p → image_len (known_of ecc) ≤ length before
    → (block ≡ None → new ≡ old)
    → ((bytes : List ℕ) → block ≡ Some bytes → WritesAt old new name (2048 * s) (take (width_of (known_of ecc) s) bytes) result)
    → HasPut (known_of ecc) (block_below ecc l answer p) before (bytes_of old name)
    → PutsTo ecc l answer (p + 1) before (bytes_of new name) result
put_here ecc l p s answer None before name old new (Ok u) layer place e whole is long none put has =
    let at = each_sector_has_one_place ecc.head.sectors ecc.head.parity l p s (shape_is ecc) layer (sym e) in
    let number = number_of ecc.head.sectors ecc.head.parity l p s e in
    subst (λ (files : Files). HasPut (known_of ecc) (block_below ecc l answer (p + 1)) before (bytes_of files name)) (sym (none refl))
    (same_put (known_of ecc) (block_below ecc l answer p) (block_below ecc l answer (p + 1)) before (bytes_of old name)
    (λ k low. ⊎_elim
    (λ (same : k ≡ s). subst (λ (j : ℕ). block_below ecc l answer (p + 1) j ≡ block_below ecc l answer p j) (sym same)
    (inside ecc l answer (p + 1) s at.0 (omega (arith, at.1)) ∙ ap (restored_at answer) at.1 ∙ sym is ∙ sym (ahead ecc l answer p s (omega (arith, at.1)))))
    (λ (ne : k ≢ s). below_more ecc l answer p k (shape_is ecc) (λ h. ne (h ∙ sym number.0)))
    (cases_eq k s)) has)
put_here ecc l p s answer None before name old new (Err why) layer place e whole is long none put has =
    subst (λ (files : Files). IsPutting (known_of ecc) (new_block ecc l answer) before (bytes_of files name)) (sym (none refl)) (record {
      len = has.len;
      sectors = λ k low i. ⊎_elim
          (λ (done : block_below ecc l answer p k ≡ new_block ecc l answer k).
          inr (ap (λ (xs : List ℕ). get_or xs i 0) (has.sectors k low ∙ ap (λ (o : Option (List ℕ)). bytes_by (known_of ecc) k o (bytes_in (known_of ecc) before k)) done)))
          (λ (free : block_below ecc l answer p k ≡ None).
          inl (ap (λ (xs : List ℕ). get_or xs i 0) (has.sectors k low ∙ ap (λ (o : Option (List ℕ)). bytes_by (known_of ecc) k o (bytes_in (known_of ecc) before k)) free)))
          (below_or_none ecc l answer p k (omega (arith, place)));
      surplus = has.surplus;
    })
put_here ecc l p s answer (Some bytes) before name old new (Ok u) layer place e whole is long none put has =
    let known = known_of ecc in
    let at = each_sector_has_one_place ecc.head.sectors ecc.head.parity l p s (shape_is ecc) layer (sym e) in
    let number = number_of ecc.head.sectors ecc.head.parity l p s e in
    let size = whole_long (restored_at answer p) bytes (whole p) (sym is) in
    let few = (placed known.sectors known.last_bytes s ecc.head.last_fits number.1).most in
    let here : block_below ecc l answer (p + 1) s ≡ Some bytes = inside ecc l answer (p + 1) s at.0 (omega (arith, at.1)) ∙ ap (restored_at answer) at.1 ∙ sym is in
    put_more known (block_below ecc l answer p) (block_below ecc l answer (p + 1)) before old new name (take (width_of known s) bytes) s u ecc.head.last_fits number.1 long
    (length-take-le (width_of known s) bytes (omega (arith, size, few))) has (put bytes refl)
    (ap (λ (o : Option (List ℕ)). bytes_by known s o (bytes_in known before s)) here)
    (λ k ne. below_more ecc l answer p k (shape_is ecc) (λ h. ne (h ∙ sym number.0)))
put_here ecc l p s answer (Some bytes) before name old new (Err why) layer place e whole is long none put has =
    let known = known_of ecc in
    let at = each_sector_has_one_place ecc.head.sectors ecc.head.parity l p s (shape_is ecc) layer (sym e) in
    let number = number_of ecc.head.sectors ecc.head.parity l p s e in
    let size = whole_long (restored_at answer p) bytes (whole p) (sym is) in
    let few = (placed known.sectors known.last_bytes s ecc.head.last_fits number.1).most in
    let here : new_block ecc l answer s ≡ Some bytes = inside ecc l answer (255 - ecc.head.parity) s at.0 (omega (arith, at.1, place)) ∙ ap (restored_at answer) at.1 ∙ sym is in
    put_in_part known (block_below ecc l answer p) (new_block ecc l answer) before old new name (take (width_of known s) bytes) s why ecc.head.last_fits number.1 long
    (length-take-le (width_of known s) bytes (omega (arith, size, few))) has (put bytes refl)
    (ahead ecc l answer p s (omega (arith, at.1)))
    (ap (λ (o : Option (List ℕ)). bytes_by known s o (bytes_in known before s)) here)
    (λ k. below_or_none ecc l answer p k (omega (arith, place)))

-- a place without a sector
pub put_padding : (ecc : Ecc) (l p : ℕ) (answer : LayerOut) (before file : List ℕ) → None ≡ sector_at ecc.head.sectors ecc.head.parity l p
    → HasPut (known_of ecc) (block_below ecc l answer p) before file → HasPut (known_of ecc) (block_below ecc l answer (p + 1)) before file
put_padding ecc l p answer before file e has =
    same_put (known_of ecc) (block_below ecc l answer p) (block_below ecc l answer (p + 1)) before file
    (λ k low. below_more ecc l answer p k (shape_is ecc) (λ h.
    let t = cond-true (ltb (number_at ecc.head.sectors ecc.head.parity l p) ecc.head.sectors) (Some (number_at ecc.head.sectors ecc.head.parity l p)) None
    (lt-ltb (number_at ecc.head.sectors ecc.head.parity l p) ecc.head.sectors (omega (arith, h, low))) in
    let bad : None ≡ Some (number_at ecc.head.sectors ecc.head.parity l p) = e ∙ t in
    cc)) has
