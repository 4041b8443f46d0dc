-- What the writes of sectors leave under the image's name.
use Rattle.std.proofs.Common.{◌≡◌, ℕ, ◌+◌, ◌-◌, ◌*◌, ◌<◌, ◌≤◌, List, [], length, take, get_or, sym, ap, ◌∙◌, subst, arith, ◌⊎◌, ⊎_elim, Bool, true, false}
use Rattle.std.specs.Prelude.{Option, Some, None, nat_lt}
use Rattle.std.specs.Option.{unwrap_or}
use Rattle.std.proofs.lemmas.Bool.{cases_Bool, cases_lt, lt-ltb}
use Rattle.std.proofs.lemmas.List.{get_or-take, length-take}
use Rattle.rs01_layers.specs.Sectors.{length_of}
use Rattle.rs01_layers.specs.Layout.{IsShape, layers_of, sector_at}
use Rattle.rs01_layers.specs.declared.task.LayerOut.{LayerOut}
use Rattle.rs01_layers.proofs.BlockLemmas.{get_or-block}
use Rattle.rs01_layers.proofs.PlaceLemmas.{each_sector_has_one_place}
use Rattle.rs01_outside.specs.Files.{Files, Becomes, put_at}
use Rattle.rs01_sums.specs.Marker.{marker}
use Rattle.rs01_sums.proofs.MarkerLemmas.{length-marker}
use Rattle.rs01_ecchead.specs.Opened.{Opened}
use Rattle.rs01_ecchead.specs.Erased.{known_by, block_in, image_len, is_absent}
use Rattle.rs01_fix.specs.Between.{IsBetween}
use Rattle.rs01_repair.specs.Restored.{restored_at}
use Rattle.rs01_fix.specs.Progress.{IsDone, IsAhead, Stands, StandsUnder, IsOnTheWay}
use Rattle.rs01_fix.specs.Repair.{HaveBlocks, after_by, fixed_by, mended_block}
use Rattle.rs01_repair.proofs.InputLemmas.{some_sector}
use Rattle.rs01_fix.proofs.ProgressLemmas.{ends_within, holds_start, holds_less, holds_same, holds_put, holds_between, put_between, holds_end}
use Rattle.rs01_fix.proofs.OrderLemmas.{done_more, ahead_less, here_ahead, done_padding, ahead_padding, done_layer, ahead_layer, none_done, all_done, done_or_ahead}
use Rattle.rs01_fix.proofs.FixedLemmas.{IsImage, sizes_of, after-absent, after-same, after-some, fixed_is, length-fixed_by, surplus_stays}

pub there_ends : (n len : ℕ) → nat_lt n len ≡ false → len ≤ n
there_ends n len e = ⊎_elim (λ h. absurd (let t = lt-ltb n len h in cc)) (λ h. h) (cases_lt n len)

-- a sector's bytes that were put in place
pub put_done : (c : Opened) (y : List ℕ) (answers : ℕ → LayerOut) (l p s : ℕ) (o o' : Option (List ℕ)) (b : List ℕ) → IsImage c
    → l < layers_of c.fields.sectors c.fields.parity → Some s ≡ sector_at c.fields.sectors c.fields.parity l p → b ≡ after_by c y answers s → length b ≡ 2048
    → StandsUnder c y answers l p o
    → o' ≡ Some (put_at (unwrap_or o []) (2048 * s) (take (length_of c.fields.sectors c.fields.last_bytes s) b))
    → StandsUnder c y answers l (p + 1) o'
put_done c y answers l p s None o' b is low e same long stands put = absurd stands
put_done c y answers l p s (Some file) o' b is low e same long stands put =
    let size = length_of c.fields.sectors c.fields.last_bytes in
    let at = some_sector c.fields.sectors c.fields.parity l p s e in
    let within : s < c.fields.sectors = omega (arith, at.0, at.1) in
    let wide : length (after_by c y answers s) ≡ 2048 = sym (ap length same) ∙ long in
    let next : Stands c y answers l (p + 1) (put_at file (2048 * s) (take (size s) (after_by c y answers s))) =
    holds_put c.fields.sectors (image_len (known_by c)) size y (after_by c y answers)
    (IsDone c.fields.sectors c.fields.parity l p) (IsAhead c.fields.sectors c.fields.parity l p) (IsDone c.fields.sectors c.fields.parity l (p + 1)) (IsAhead c.fields.sectors c.fields.parity l (p + 1)) file s
    (sizes_of c is) within wide (done_more c.fields.sectors c.fields.parity l p s is.shape e) (ahead_less c.fields.sectors c.fields.parity l p s is.shape low e) stands in
    subst (λ (o : Option (List ℕ)). StandsUnder c y answers l (p + 1) o)
    (sym (put ∙ (λ i. Some (put_at file (2048 * s) (take (size s) (same i)))))) next

-- a sector that stays as it is
pub same_done : (c : Opened) (y : List ℕ) (answers : ℕ → LayerOut) (l p s : ℕ) (o : Option (List ℕ)) → IsImage c
    → l < layers_of c.fields.sectors c.fields.parity → Some s ≡ sector_at c.fields.sectors c.fields.parity l p → is_absent (known_by c) y s ≡ false → after_by c y answers s ≡ block_in (known_by c) y s
    → StandsUnder c y answers l p o → StandsUnder c y answers l (p + 1) o
same_done c y answers l p s None is low e there same stands = absurd stands
same_done c y answers l p s (Some file) is low e there same stands =
    let size = length_of c.fields.sectors c.fields.last_bytes in
    holds_same c.fields.sectors (image_len (known_by c)) size y (after_by c y answers)
    (IsDone c.fields.sectors c.fields.parity l p) (IsAhead c.fields.sectors c.fields.parity l p) (IsDone c.fields.sectors c.fields.parity l (p + 1)) (IsAhead c.fields.sectors c.fields.parity l (p + 1)) file s
    (done_more c.fields.sectors c.fields.parity l p s is.shape e) (λ t below h. (ahead_less c.fields.sectors c.fields.parity l p s is.shape low e t below h).0)
    (here_ahead c.fields.sectors c.fields.parity l p s is.shape low e)
    (there_ends (length y) (2048 * s + size s) there)
    (λ j inside. ap (λ xs. get_or xs j 0) same ∙ get_or-block y s (size s) j inside) stands

-- padding
pub padding_done : (c : Opened) (y : List ℕ) (answers : ℕ → LayerOut) (l p : ℕ) (o : Option (List ℕ)) → IsImage c
    → None ≡ sector_at c.fields.sectors c.fields.parity l p → StandsUnder c y answers l p o → StandsUnder c y answers l (p + 1) o
padding_done c y answers l p None is e stands = absurd stands
padding_done c y answers l p (Some file) is e stands =
    holds_less c.fields.sectors (image_len (known_by c)) (length_of c.fields.sectors c.fields.last_bytes) y (after_by c y answers)
    (IsDone c.fields.sectors c.fields.parity l p) (IsAhead c.fields.sectors c.fields.parity l p) (IsDone c.fields.sectors c.fields.parity l (p + 1)) (IsAhead c.fields.sectors c.fields.parity l (p + 1)) file
    (done_padding c.fields.sectors c.fields.parity l p is.shape e) (ahead_padding c.fields.sectors c.fields.parity l p) stands

-- the next layer
pub layer_done : (c : Opened) (y : List ℕ) (answers : ℕ → LayerOut) (l : ℕ) (o : Option (List ℕ)) → IsImage c
    → StandsUnder c y answers l (255 - c.fields.parity) o → StandsUnder c y answers (l + 1) 0 o
layer_done c y answers l None is stands = absurd stands
layer_done c y answers l (Some file) is stands =
    holds_less c.fields.sectors (image_len (known_by c)) (length_of c.fields.sectors c.fields.last_bytes) y (after_by c y answers)
    (IsDone c.fields.sectors c.fields.parity l (255 - c.fields.parity)) (IsAhead c.fields.sectors c.fields.parity l (255 - c.fields.parity)) (IsDone c.fields.sectors c.fields.parity (l + 1) 0) (IsAhead c.fields.sectors c.fields.parity (l + 1) 0) file
    (done_layer c.fields.sectors c.fields.parity l is.shape) (ahead_layer c.fields.sectors c.fields.parity l) stands

pub stands_start : (c : Opened) (y : List ℕ) (answers : ℕ → LayerOut) (o : Option (List ℕ)) → o ≡ Some y → StandsUnder c y answers 0 0 o
stands_start c y answers o e =
    subst (λ (o : Option (List ℕ)). StandsUnder c y answers 0 0 o) (sym e)
    (holds_start c.fields.sectors (image_len (known_by c)) (length_of c.fields.sectors c.fields.last_bytes) y (after_by c y answers)
    (IsDone c.fields.sectors c.fields.parity 0 0) (IsAhead c.fields.sectors c.fields.parity 0 0) (none_done c.fields.sectors c.fields.parity))

-- the file that stands at the end
pub stands_end : (c : Opened) (y : List ℕ) (answers : ℕ → LayerOut) (o : Option (List ℕ)) → IsImage c → HaveBlocks c y answers
    → StandsUnder c y answers (layers_of c.fields.sectors c.fields.parity) 0 o → o ≡ Some (fixed_by c y answers false)
stands_end c y answers None is blocks stands = absurd stands
stands_end c y answers (Some file) is blocks stands =
    ap Some
    (holds_end c.fields.sectors (image_len (known_by c)) (length_of c.fields.sectors c.fields.last_bytes) y (after_by c y answers)
    (IsDone c.fields.sectors c.fields.parity (layers_of c.fields.sectors c.fields.parity) 0) (IsAhead c.fields.sectors c.fields.parity (layers_of c.fields.sectors c.fields.parity) 0) file (fixed_by c y answers false)
    (sizes_of c is) (fixed_is c y answers false is blocks) (length-fixed_by c y answers is blocks) (surplus_stays c y answers is blocks)
    (λ s below. all_done c.fields.sectors c.fields.parity s is.shape below) stands)

file_between : (c : Opened) (y : List ℕ) (answers : ℕ → LayerOut) (l p : ℕ) (file : List ℕ) (cut : Bool) → IsImage c → HaveBlocks c y answers
    → Stands c y answers l p file → IsBetween y (fixed_by c y answers cut) file
file_between c y answers l p file cut is blocks stands =
    holds_between c.fields.sectors (image_len (known_by c)) (length_of c.fields.sectors c.fields.last_bytes) y (after_by c y answers)
    (IsDone c.fields.sectors c.fields.parity l p) (IsAhead c.fields.sectors c.fields.parity l p) file (fixed_by c y answers cut)
    (sizes_of c is) (fixed_is c y answers cut is blocks) (λ s below. done_or_ahead c.fields.sectors c.fields.parity l p s) stands

-- at any time the file is on the way
pub stands_on_the_way : (c : Opened) (y : List ℕ) (answers : ℕ → LayerOut) (l p : ℕ) (o : Option (List ℕ)) (cut : Bool) → IsImage c → HaveBlocks c y answers
    → StandsUnder c y answers l p o → IsOnTheWay c y answers cut o
stands_on_the_way c y answers l p None cut is blocks stands = absurd stands
stands_on_the_way c y answers l p (Some file) cut is blocks stands = file_between c y answers l p file cut is blocks stands

-- and so it is after a write that put some first bytes
pub put_on_the_way : (c : Opened) (y : List ℕ) (answers : ℕ → LayerOut) (l p s kept : ℕ) (o o' : Option (List ℕ)) (b : List ℕ) (cut : Bool)
    → IsImage c → HaveBlocks c y answers → Some s ≡ sector_at c.fields.sectors c.fields.parity l p → b ≡ after_by c y answers s
    → StandsUnder c y answers l p o
    → o' ≡ Some (put_at (unwrap_or o []) (2048 * s) (take kept (take (length_of c.fields.sectors c.fields.last_bytes s) b)))
    → IsOnTheWay c y answers cut o'
put_on_the_way c y answers l p s kept None o' b cut is blocks e same stands put = absurd stands
put_on_the_way c y answers l p s kept (Some file) o' b cut is blocks e same stands put =
    let size : ℕ = length_of c.fields.sectors c.fields.last_bytes s in
    let at = some_sector c.fields.sectors c.fields.parity l p s e in
    let within : s < c.fields.sectors = omega (arith, at.0, at.1) in
    let bytes : List ℕ = take kept (take size b) in
    let fixed = fixed_is c y answers cut is blocks in
    let end = ends_within c.fields.sectors (image_len (known_by c)) (length_of c.fields.sectors c.fields.last_bytes) (sizes_of c is) s within in
    let long = fixed.long in
    let low = stands.not_shorter in
    let short : length bytes ≤ size = omega (arith, length-take kept (take size b), length-take size b) in
    let few : length bytes ≤ kept = omega (arith, length-take kept (take size b)) in
    subst (λ (o : Option (List ℕ)). IsOnTheWay c y answers cut o) (sym put)
    (put_between y (fixed_by c y answers cut) file bytes (2048 * s) low (omega arith)
    (λ i inside.
    get_or-take kept (take size b) i 0 (omega arith) ∙ get_or-take size b i 0 (omega arith) ∙ ap (λ xs. get_or xs i 0) same
    ∙ sym (fixed.bytes s i within (omega arith)))
    (file_between c y answers l p file cut is blocks stands))

-- the same by what a failed write leaves
pub failed_on_the_way : (c : Opened) (y : List ℕ) (answers : ℕ → LayerOut) (l p s : ℕ) (name : List ℕ) (old new : Files) (b : List ℕ) (cut : Bool)
    → IsImage c → HaveBlocks c y answers → Some s ≡ sector_at c.fields.sectors c.fields.parity l p → b ≡ after_by c y answers s
    → StandsUnder c y answers l p (old name)
    → (new ≡ old) ⊎ ((kept : ℕ) × Becomes name (put_at (unwrap_or (old name) []) (2048 * s) (take kept (take (length_of c.fields.sectors c.fields.last_bytes s) b))) old new)
    → IsOnTheWay c y answers cut (new name)
failed_on_the_way c y answers l p s name old new b cut is blocks e same stands =
    ⊎_elim
    (λ unchanged. stands_on_the_way c y answers l p (new name) cut is blocks
    (subst (λ (f : Files). StandsUnder c y answers l p (f name)) (sym unchanged) stands))
    (λ (kept, put). put_on_the_way c y answers l p s kept (old name) (new name) b cut is blocks e same stands put.there)

-- the restored block at a place is that of its sector
pub mended_here : (c : Opened) (answers : ℕ → LayerOut) (l p s : ℕ) (answer : LayerOut) → IsShape c.fields.sectors c.fields.parity
    → l < layers_of c.fields.sectors c.fields.parity → Some s ≡ sector_at c.fields.sectors c.fields.parity l p → answer ≡ answers l
    → restored_at answer p ≡ mended_block c answers s
mended_here c answers l p s answer shape low e same =
    let at = each_sector_has_one_place c.fields.sectors c.fields.parity l p s shape low (sym e) in
    λ i. restored_at ((same ∙ ap answers (sym at.0)) i) (sym at.1 i)

-- the block of a sector that has a restored one
pub restored_is : (c : Opened) (y : List ℕ) (answers : ℕ → LayerOut) (s : ℕ) (o : Option (List ℕ)) (b : List ℕ) → Some b ≡ o → o ≡ mended_block c answers s
    → b ≡ after_by c y answers s
restored_is c y answers s o b e same = sym (after-some c y answers s b (sym (e ∙ same)))

-- a sector that has none: its marker was put in place, or nothing
pub marked_done : (c : Opened) (y : List ℕ) (answers : ℕ → LayerOut) (l p s : ℕ) (name : List ℕ) (old new : Files) → IsImage c
    → l < layers_of c.fields.sectors c.fields.parity → Some s ≡ sector_at c.fields.sectors c.fields.parity l p → mended_block c answers s ≡ None
    → (is_absent (known_by c) y s ≡ true → Becomes name (put_at (unwrap_or (old name) []) (2048 * s) (take (length_of c.fields.sectors c.fields.last_bytes s) (marker s))) old new)
    → (is_absent (known_by c) y s ≡ false → new ≡ old)
    → StandsUnder c y answers l p (old name) → StandsUnder c y answers l (p + 1) (new name)
marked_done c y answers l p s name old new is low e bare marked kept stands =
    ⊎_elim
    (λ absent. put_done c y answers l p s (old name) (new name) (marker s) is low e (sym (after-absent c y answers s bare absent)) (length-marker s) stands (marked absent).there)
    (λ there.
    subst (λ (f : Files). StandsUnder c y answers l (p + 1) (f name)) (sym (kept there))
    (same_done c y answers l p s (old name) is low e there (after-same c y answers s bare there) stands))
    (cases_Bool (is_absent (known_by c) y s))

pub marked_left : (c : Opened) (y : List ℕ) (answers : ℕ → LayerOut) (l p s : ℕ) (name : List ℕ) (old new : Files) (cut : Bool) → IsImage c → HaveBlocks c y answers
    → Some s ≡ sector_at c.fields.sectors c.fields.parity l p → mended_block c answers s ≡ None
    → (is_absent (known_by c) y s ≡ true
    → (new ≡ old) ⊎ ((kept : ℕ) × Becomes name (put_at (unwrap_or (old name) []) (2048 * s) (take kept (take (length_of c.fields.sectors c.fields.last_bytes s) (marker s)))) old new))
    → (is_absent (known_by c) y s ≡ false → new ≡ old)
    → StandsUnder c y answers l p (old name) → IsOnTheWay c y answers cut (new name)
marked_left c y answers l p s name old new cut is blocks e bare marked kept stands =
    ⊎_elim
    (λ absent. failed_on_the_way c y answers l p s name old new (marker s) cut is blocks e (sym (after-absent c y answers s bare absent)) stands (marked absent))
    (λ there. stands_on_the_way c y answers l p (new name) cut is blocks (subst (λ (f : Files). StandsUnder c y answers l p (f name)) (sym (kept there)) stands))
    (cases_Bool (is_absent (known_by c) y s))
