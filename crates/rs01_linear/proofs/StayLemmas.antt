-- What is good in an image file stays, from its marking to the end of a reading.
use Rattle.std.proofs.Common.{◌≡◌, ℕ, ◌+◌, ◌-◌, ◌*◌, ◌/◌, ◌<◌, ◌≤◌, ◌∙◌, ap, arith, sym, subst, false, List, [], length, take, drop, get_or, ⊎_elim, inl, inr}
use Rattle.std.specs.Prelude.{◌⊎◌, IsOkAnd, IsSomeAnd, None, Option}
use Rattle.std.specs.List.{flat_map, range_with_len}
use Rattle.std.specs.Option.{unwrap_or}
use Rattle.std.proofs.lemmas.Bool.{cases_lt}
use Rattle.std.proofs.lemmas.List.{get_or-append_right, get_or-drop, get_or-take, get_or_append_left, length-append, length-drop, length-take, length-take-le}
use Rattle.std.proofs.lemmas.List.FromFn.{get_or-map-range_with_len}
use Rattle.rs01_lists.specs.Bytes.{part}
use Rattle.rs01_rack.specs.Rack.{AllTell, RackState, views_of}
use Rattle.rs01_ecchead.specs.Erased.{Known, image_len, is_erased}
use Rattle.rs01_linear.specs.Left.{first_fate, marked, marked_sector, mixed}
use Rattle.rs01_linear.specs.Linear.{IsPrepared}
use Rattle.rs01_linear.specs.Marking.{IsMixed, is_left_out, place}
use Rattle.rs01_linear.specs.Medium.{Found, IsKnownBy, IsMedium, Numbered, found, known_of}
use Rattle.rs01_linear.specs.Spared.{Guards, IsSpared, IsToStay, Spares}
use Rattle.rs01_linear.specs.declared.fate.Fate.{Fate}
use Rattle.rs01_linear.specs.declared.fate.Fate.TheVariants.{Kept}
use Rattle.rs01_linear.specs.declared.medium.Medium.{Medium}
use Rattle.rs01_linear.specs.declared.prepared.Prepared.{Prepared}
use Rattle.rs01_linear.proofs.EndLemmas.{ok_and}
use Rattle.rs01_linear.proofs.LaidLemmas.{Sized, place_more, place_of, width}
use Rattle.rs01_linear.proofs.LinearLemmas.{front_long}
use Rattle.rs01_linear.proofs.MarkLemmas.{kept_part, left_out_is, marked_is, marked_one, sized_by}
use Rattle.rs01_linear.proofs.SpareLemmas.{spares_of}

-- a byte of a part
part_at : (xs : List ℕ) (at n k : ℕ) → at ≤ k → k < at + n → get_or (part xs at n) (k - at) 0 ≡ get_or xs k 0
part_at xs at n k low high =
    get_or-take n (drop at xs) (k - at) 0 (omega (arith, low, high))
    ∙ get_or-drop at xs (k - at) 0
    ∙ ap (λ i. get_or xs i 0) (let e : at + (k - at) ≡ k = omega (arith, low) in e)

-- as many bytes stand behind the image as before
marked_ends : (known : Known) (y : List ℕ) → Sized known → length (marked known y) ≡ image_len known + (length y - image_len known)
marked_ends known y sized =
    let front = flat_map (marked_sector known y) (range_with_len 0 known.sectors) in
    let long : length (marked known y) ≡ length front + length (drop (image_len known) y) = ap length (marked_is known y) ∙ length-append front (drop (image_len known) y) in
    omega (arith, long, front_long known y sized, length-drop (image_len known) y)

marked_longer : (known : Known) (y : List ℕ) → Sized known → length y ≤ length (marked known y)
marked_longer known y sized = omega (arith, marked_ends known y sized)

-- past the image
marked_past : (known : Known) (y : List ℕ) (k : ℕ) → Sized known → image_len known ≤ k → get_or (marked known y) k 0 ≡ get_or y k 0
marked_past known y k sized past =
    ap (λ (xs : List ℕ). get_or xs k 0) (marked_is known y)
    ∙ get_or-append_right (flat_map (marked_sector known y) (range_with_len 0 known.sectors)) (drop (image_len known) y) (image_len known) k 0 (front_long known y sized) past
    ∙ get_or-drop (image_len known) y (k - image_len known) 0
    ∙ ap (λ i. get_or y i 0) (let e : image_len known + (k - image_len known) ≡ k = omega (arith, past) in e)

-- in a good sector
marked_good : (known : Known) (y : List ℕ) (s k : ℕ) → Sized known → s < known.sectors → 2048 * s ≤ k → k < 2048 * s + width known s → is_erased known y s ≡ false
    → get_or (marked known y) k 0 ≡ get_or y k 0
marked_good known y s k sized below low high good =
    let same : part (marked known y) (2048 * s) (width known s) ≡ part y (2048 * s) (width known s) =
    ap (λ at. part (marked known y) at (width known s)) (sym (place_of known s sized below)) ∙ marked_one known y s sized below ∙ kept_part known y s sized below good in
    sym (part_at (marked known y) (2048 * s) (width known s) k low high)
    ∙ ap (λ (xs : List ℕ). get_or xs (k - 2048 * s) 0) same
    ∙ part_at y (2048 * s) (width known s) k low high

marked_at : (known : Known) (y : List ℕ) (k : ℕ) → Sized known → IsToStay known y k → get_or (marked known y) k 0 ≡ get_or y k 0
marked_at known y k sized stay =
    ⊎_elim
    (λ (inside : k < image_len known).
    let s = k / 2048 in
    let below : s < known.sectors = omega (arith, inside, sized.some, sized.fits) in
    let low : 2048 * s ≤ k = omega arith in
    let next : k < 2048 * s + width known s = omega (arith, inside, place_more known s sized below, place_of known s sized below) in
    ⊎_elim
    (λ (past : image_len known ≤ k). marked_past known y k sized past)
    (λ (good : is_erased known y (k / 2048) ≡ false). marked_good known y s k sized below low next good)
    stay)
    (λ (past : image_len known ≤ k). marked_past known y k sized past)
    (cases_lt k (image_len known))

-- a file on the way to the marked one
pub spares_marked : (known : Known) (y : List ℕ) (n : ℕ) → Sized known → Spares known y (mixed n (marked known y) y)
spares_marked known y n sized =
    let all = length-append (take n (marked known y)) (drop n y) in
    let front = length-take n (marked known y) in
    let back = length-drop n y in
    spares_of known y (mixed n (marked known y) y)
    (omega (arith, marked_longer known y sized, all, front, back))
    (omega (arith, marked_ends known y sized, all, front, back))
    (λ k low stay.
    ⊎_elim
    (λ (early : k < n).
    get_or_append_left (take n (marked known y)) (drop n y) 0 k (omega (arith, early, low, marked_longer known y sized, front))
    ∙ get_or-take n (marked known y) k 0 early
    ∙ marked_at known y k sized stay)
    (λ (rest : n ≤ k).
    get_or-append_right (take n (marked known y)) (drop n y) n k 0 (length-take-le n (marked known y) (omega (arith, rest, low, marked_longer known y sized))) rest
    ∙ get_or-drop n y (k - n) 0
    ∙ ap (λ i. get_or y i 0) (let e : n + (k - n) ≡ k = omega (arith, rest) in e))
    (cases_lt k n))

-- the image file was got ready
pub guards_prepared : (known : Known) (before file : Option (List ℕ)) (prepared : Prepared) → Sized known → IsPrepared known before file prepared
    → Guards known (unwrap_or before []) prepared.fates.items file
guards_prepared known before file prepared sized ready =
    let y = unwrap_or before [] in
    record {
      file_is = rw ready.file_is (spares_marked known y (place known known.sectors) sized);
      erased = λ s below is.
          sym (left_out_is (is_erased known y s))
          ∙ ap is_left_out (sym (ap (λ (xs : List Fate). get_or xs s Kept) ready.fates_are
          ∙ get_or-map-range_with_len (first_fate known y) 0 known.sectors s s Kept below (let e : 0 + s ≡ s = omega arith in e)))
          ∙ is;
    }

-- by the medium that was opened
pub spared : (given : Option (Option (List ℕ))) (medium : Medium) (before opened file : Option (List ℕ)) (old new : RackState) → opened ≡ before
    → IsSomeAnd file (Spares (known_of medium) (unwrap_or opened [])) → IsKnownBy given (known_of medium) → (given ≡ None → Numbered (known_of medium).sectors old new)
    → (AllTell new → IsOkAnd (found given (views_of old)) (IsMedium given medium))
    → (file ≡ before) ⊎ IsSpared given (unwrap_or before []) file old new
spared given medium before opened file old new still spares by number was = inr (record {
  known = known_of medium;
  known_is = by;
  number = number;
  told = λ tell. ok_and (found given (views_of old)) (IsMedium given medium) (λ (f : Found). f.known ≡ known_of medium) (was tell) (λ f med. med.known_is);
  spares = subst (λ (o : Option (List ℕ)). IsSomeAnd file (Spares (known_of medium) (unwrap_or o []))) still spares;
})

-- the image file wasn't got ready
pub spared_unprepared : (given : Option (Option (List ℕ))) (medium : Medium) (before opened file : Option (List ℕ)) (old new : RackState) → opened ≡ before
    → (file ≡ opened) ⊎ IsMixed (marked (known_of medium) (unwrap_or opened [])) (unwrap_or opened []) file
    → IsKnownBy given (known_of medium) → (given ≡ None → Numbered (known_of medium).sectors old new)
    → (AllTell new → IsOkAnd (found given (views_of old)) (IsMedium given medium))
    → (file ≡ before) ⊎ IsSpared given (unwrap_or before []) file old new
spared_unprepared given medium before opened file old new still left by number was =
    elim left [
      | inl same ↦ inl (same ∙ still)
      | inr mix ↦ spared given medium before opened file old new still
          (rw mix.1 (spares_marked (known_of medium) (unwrap_or opened []) mix.0 (sized_by medium.extent _))) by number was
    ]
