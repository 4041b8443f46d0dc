-- What is good in an image file stays, whatever is put in the places of the other sectors.
use Rattle.std.proofs.Common.{◌≡◌, ℕ, zero, suc, ◌+◌, ◌-◌, ◌*◌, ◌/◌, ◌<◌, ◌≤◌, ◌∙◌, ap, arith, sym, refl, true, false, Some, None, List, [], ◌∷◌, length, take, drop, get_or, ⊎_elim, inl, inr}
use Rattle.std.specs.Prelude.{◌⊎◌, Bool, Result, Ok, Err, IsSomeAnd, Option}
use Rattle.std.specs.Option.{unwrap_or}
use Rattle.std.proofs.Math.ListN.{set}
use Rattle.std.proofs.lemmas.Bool.{cases_lt}
use Rattle.std.proofs.lemmas.List.{ext_get_or, get_or-drop, length-drop, length-take}
use Rattle.rs01_outside.specs.Files.{Files, Writes, put_at}
use Rattle.rs01_ecchead.specs.Erased.{Known, image_len, is_erased}
use Rattle.rs01_linear.specs.Course.{fate_of}
use Rattle.rs01_linear.specs.Marking.{is_left_out, place}
use Rattle.rs01_linear.specs.Spared.{AsksBad, GuardsRun, IsToStay, Spares}
use Rattle.rs01_linear.specs.Standing.{HasRun, PutsRun, TakesBad}
use Rattle.rs01_linear.specs.declared.asking.Asked.{Asked}
use Rattle.rs01_linear.specs.declared.asking.Asked.TheVariants as asked
use Rattle.rs01_linear.specs.declared.fate.Fate.{Fate}
use Rattle.rs01_linear.specs.declared.fate.Fate.TheVariants.{Kept}
use Rattle.rs01_linear.specs.declared.reading.Reading.{Reading}
use Rattle.rs01_linear.specs.declared.refusal.ReadRefusal.{ReadRefusal}
use Rattle.rs01_linear.proofs.LaidLemmas.{Sized, place_of, place_within}
use Rattle.rs01_outside.proofs.PutLemmas.{length-put_at, put_at-before, put_at-behind}

-- a byte that is to stay doesn't stand in a run of sectors that weren't good
apart : (known : Known) (y : List ℕ) (first past k n : ℕ) → first < past → n ≤ place known past - place known first
    → ((i : ℕ) → first ≤ i → i < past → is_erased known y i ≡ true) → IsToStay known y k → (k < 2048 * first) ⊎ (2048 * first + n ≤ k)
apart known y first past k n some few bad stay =
    ⊎_elim
    (λ (beyond : image_len known ≤ k).
    ⊎_elim
    (λ (low : k < 2048 * first). inl low)
    (λ (high : 2048 * first ≤ k).
    inr (⊎_elim
    (λ (inside : 2048 * first < image_len known). omega (arith, beyond, few, inside))
    (λ (out : image_len known ≤ 2048 * first). omega (arith, beyond, few, out, high, some))
    (cases_lt (2048 * first) (image_len known))))
    (cases_lt k (2048 * first)))
    (λ (good : is_erased known y (k / 2048) ≡ false).
    ⊎_elim
    (λ (low : k < 2048 * first). inl low)
    (λ (high : 2048 * first ≤ k).
    inr (⊎_elim
    (λ (inside : k < 2048 * past).
    let e : true ≡ false = sym (bad (k / 2048) (omega (arith, high)) (omega (arith, inside))) ∙ good in
    absurd (true_not e))
    (λ (behind : 2048 * past ≤ k).
    ⊎_elim
    (λ (inside : 2048 * first < image_len known). omega (arith, behind, few, inside))
    (λ (out : image_len known ≤ 2048 * first). omega (arith, few, out, high, some))
    (cases_lt (2048 * first) (image_len known)))
    (cases_lt k (2048 * past))))
    (cases_lt k (2048 * first)))
    stay
  where
    true_not : true ≡ false → ⊥
    true_not e = cc

-- what is to stay stays, and as many bytes stand behind the image, so they are the same ones
pub spares_of : (known : Known) (y later : List ℕ) → length y ≤ length later → length later - image_len known ≡ length y - image_len known
    → ((k : ℕ) → k < length y → IsToStay known y k → get_or later k 0 ≡ get_or y k 0) → Spares known y later
spares_of known y later longer long same = record {
  longer = longer;
  surplus =
      ext_get_or 0 (drop (image_len known) later) (drop (image_len known) y)
      (length-drop (image_len known) later ∙ long ∙ sym (length-drop (image_len known) y))
      (λ i below.
      get_or-drop (image_len known) later i 0
      ∙ same (image_len known + i) (omega (arith, below, long, length-drop (image_len known) later)) (inl (omega arith))
      ∙ sym (get_or-drop (image_len known) y i 0));
  same = same;
}

-- the run ends within the image
run_within : (known : Known) (first past n : ℕ) → Sized known → first < past → past ≤ known.sectors → n ≤ place known past - place known first → 2048 * first + n ≤ image_len known
run_within known first past n sized some inside few =
    omega (arith, few, place_of known first sized (omega (arith, some, inside)), place_within known past, place_within known first)

-- bytes in the place of such a run
spares_put : (known : Known) (y file bytes : List ℕ) (first past : ℕ) → Sized known → past ≤ known.sectors → first < past → length bytes ≤ place known past - place known first
    → ((i : ℕ) → first ≤ i → i < past → is_erased known y i ≡ true) → Spares known y file → Spares known y (put_at file (2048 * first) bytes)
spares_put known y file bytes first past sized inside some few bad spares =
    let ends : length file - image_len known ≡ length y - image_len known =
    sym (length-drop (image_len known) file) ∙ ap length spares.surplus ∙ length-drop (image_len known) y in
    spares_of known y (put_at file (2048 * first) bytes)
    (omega (arith, spares.longer, length-put_at file bytes (2048 * first)))
    (omega (arith, ends, length-put_at file bytes (2048 * first), run_within known first past (length bytes) sized some inside few))
    (λ k low stay.
    ⊎_elim
    (λ before. put_at-before file bytes (2048 * first) k before)
    (λ behind. put_at-behind file bytes (2048 * first) k behind)
    (apart known y first past k (length bytes) some few bad stay)
    ∙ spares.same k low stay)

-- the same under a name
put_under : (known : Known) (y : List ℕ) (old new : Files) (name bytes : List ℕ) (first past : ℕ) → Sized known → past ≤ known.sectors → first < past → length bytes ≤ place known past - place known first
    → ((i : ℕ) → first ≤ i → i < past → is_erased known y i ≡ true)
    → IsSomeAnd (old name) (Spares known y) → Writes old new name (2048 * first) bytes → IsSomeAnd (new name) (Spares known y)
put_under known y old new name bytes first past sized inside some few bad spares written = rw written.there (in_file (old name) spares)
  where
    in_file : (o : Option (List ℕ)) → IsSomeAnd o (Spares known y) → Spares known y (put_at (unwrap_or o []) (2048 * first) bytes)
    in_file None spares = absurd spares
    in_file (Some file) spares = spares_put known y file bytes first past sized inside some few bad spares

-- the run was written, or its writing failed
pub spared_run : (known : Known) (y : List ℕ) (past : ℕ) (reading : Reading) (old new : Files) (name : List ℕ) (result : Result Unit ReadRefusal)
    → Sized known → past ≤ known.sectors → HasRun known past reading → GuardsRun known y past reading (old name) → PutsRun old new name past reading result → IsSomeAnd (new name) (Spares known y)
spared_run known y past reading old new name result sized inside has guards (inl same) = rw (ap (λ (f : Files). f name) same.1) guards.guards.file_is
spared_run known y past reading old new name (Ok u) sized inside has guards (inr put) =
    put_under known y old new name reading.bytes.items reading.first past sized inside put.0 (omega (arith, has.long)) guards.run guards.guards.file_is put.1
spared_run known y past reading old new name (Err e) sized inside has guards (inr put) =
    elim put.1 [
      | inl same ↦ rw (ap (λ (f : Files). f name) same) guards.guards.file_is
      | inr some ↦ put_under known y old new name (take some.0 reading.bytes.items) reading.first past sized inside put.0
          (omega (arith, has.long, length-take some.0 reading.bytes.items)) guards.run guards.guards.file_is some.1
    ]

-- a sector that was asked for isn't left out any more
not_left : (kind : Asked) → is_left_out (fate_of kind) ≡ false
not_left asked.Read = refl
not_left asked.Unreadable = refl
not_left asked.Altered = refl

set_left : (fates : List Fate) (s k : ℕ) (fate : Fate) → is_left_out fate ≡ false → is_left_out (get_or (set fates s fate) k Kept) ≡ true → is_left_out (get_or fates k Kept) ≡ true
set_left [] s k fate asked is = is
set_left (x ∷ fates) zero zero fate asked is = (let e : false ≡ true = sym asked ∙ is in cc)
set_left (x ∷ fates) zero (suc k) fate asked is = is
set_left (x ∷ fates) (suc s) zero fate asked is = is
set_left (x ∷ fates) (suc s) (suc k) fate asked is = set_left fates s k fate asked is

-- within a list the default stands for nothing
any_default : (fates : List Fate) (s : ℕ) (d e : Fate) → s < length fates → get_or fates s d ≡ get_or fates s e
any_default [] s d e low = absurd (omega (arith, low))
any_default (x ∷ fates) zero d e low = refl
any_default (x ∷ fates) (suc s) d e low = any_default fates s d e (omega (arith, low))

-- the sector that was asked for wasn't good
pub takes_bad : (known : Known) (y : List ℕ) (fates fates' : List Fate) (s : ℕ) (fate : Fate) (kind : Asked) (read : Bool) → s < known.sectors → length fates ≡ known.sectors
    → fate ≡ get_or fates s fate → is_left_out fate ≡ true → fates' ≡ set fates s (fate_of kind) → AsksBad known y fates → TakesBad known y s fates' read
takes_bad known y fates fates' s fate kind read below all here left put bad = record {
  later = λ k low is. bad k low (set_left fates s k (fate_of kind) (not_left kind) (ap (λ (xs : List Fate). is_left_out (get_or xs k Kept)) (sym put) ∙ is));
  here = λ e. bad s below (ap is_left_out (any_default fates s Kept fate (omega (arith, all, below)) ∙ sym here) ∙ left);
}
