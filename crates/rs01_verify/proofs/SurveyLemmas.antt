-- What is kept of an image file once one more sector was looked at.
use Rattle.std.proofs.Common.{◌≡◌, ℕ, zero, suc, replicate, get_or, subst, ◌+◌, ◌-◌, ◌*◌, ◌<◌, ◌≤◌, List, [], ◌++◌, length, map, take, min, refl, sym, ap, ◌∙◌, arith, Bool, true, false, cond, leb, ltb, eqb, ⊎_elim}
use Rattle.std.specs.Prelude.{filter, ◌&&◌, ◌==◌, not, IsTrue, Some}
use Rattle.std.specs.List.{range_with_len}
use Rattle.std.proofs.lemmas.Bool.{cases_eq, cases_lt, eq-eqb, ne_eqb, lt-ltb, le-ltb, lt-leb, le-leb, cond-true, cond-false}
use Rattle.std.proofs.lemmas.List.FromFn.{fill_by_all}
use Rattle.md5.specs.Md5.{Holds}
use Rattle.rs01_layers.specs.Layout.{layer_of, layers_of}
use Rattle.rs01_layers.specs.Sectors.{length_of}
use Rattle.rs01_ecchead.specs.Opened.{Opened}
use Rattle.rs01_ecchead.specs.Erased.{Known, block_in, image_len, is_absent, is_altered, is_erased, is_missing, known_by}
use Rattle.rs01_ecchead.specs.Condition.{condition_of, judged}
use Rattle.rs01_ecchead.specs.Shown.{IsSector, Shown, shown_in}
use Rattle.rs01_ecchead.proofs.ConditionLemmas.{judged_is}
use Rattle.rs01_ecchead.proofs.OwnBytes.{bytes_more, bytes_none, front_of_block, reaches}
use Rattle.rs01_ecchead.specs.declared.condition.Condition.{Condition}
use Rattle.rs01_report.specs.declared.reports.Mark.{Mark}
use Rattle.rs01_report.specs.declared.reports.Mark.TheVariants.{Absent}
use Rattle.rs01_verify.specs.Tallied.{altered_part, counts_after, missing_part}
use Rattle.rs01_verify.specs.Report.{fingerprint_mark, image_mark, mark_of}
use Rattle.rs01_verify.specs.Surveyed.{IsEmpty, Surveyed, erased_below}
use Rattle.rs01_verify.specs.declared.survey.Survey.{Survey}
use Rattle.rs01_verify.proofs.ConditionLemmas.{missing_part_is, altered_part_is, counts_after_is}
use Rattle.rs01_verify.proofs.CountLemmas.{filter_range_more, count_range_more, raised}

pub missing_more : (known : Known) (y : List ℕ) (s : ℕ) (old new : List ℕ) (state : Condition) → state ≡ condition_of known y s
    → old ≡ filter (is_missing known y) (range_with_len 0 s) → new ≡ old ++ missing_part state s → new ≡ filter (is_missing known y) (range_with_len 0 (s + 1))
missing_more known y s old new state is held put =
    put ∙ (λ i. held i ++ (ap (λ state. missing_part state s) is ∙ missing_part_is known y s) i) ∙ sym (filter_range_more (is_missing known y) s)

pub altered_more : (known : Known) (y : List ℕ) (s : ℕ) (old new : List ℕ) (state : Condition) → state ≡ condition_of known y s
    → old ≡ filter (is_altered known y) (range_with_len 0 s) → new ≡ old ++ altered_part state s → new ≡ filter (is_altered known y) (range_with_len 0 (s + 1))
altered_more known y s old new state is held put =
    put ∙ (λ i. held i ++ (ap (λ state. altered_part state s) is ∙ altered_part_is known y s) i) ∙ sym (filter_range_more (is_altered known y) s)

pub counts_more : (c : Opened) (y : List ℕ) (s layers : ℕ) (old new : List ℕ) (state : Condition) → state ≡ condition_of (known_by c) y s
    → layer_of c.fields.sectors c.fields.parity s < layers → old ≡ map (erased_below c y s) (range_with_len 0 layers)
    → new ≡ counts_after state (layer_of c.fields.sectors c.fields.parity s) old → new ≡ map (erased_below c y (s + 1)) (range_with_len 0 layers)
counts_more c y s layers old new state is within held put =
    let l = layer_of c.fields.sectors c.fields.parity s in
    raised (is_erased (known_by c) y s) l layers (erased_below c y s) old new within held
    (put ∙ ap (λ state. counts_after state l old) is ∙ counts_after_is (known_by c) y s l old)
    ∙ (λ i. map (λ k. sym (count_range_more (λ t. is_erased (known_by c) y t && (layer_of c.fields.sectors c.fields.parity t == k)) s) i) (range_with_len 0 layers))

-- the mark of the fingerprint, where its sector is the next one
mark_here : (c : Opened) (y : List ℕ) (s : ℕ) (there : Bool) → s ≡ c.fields.mark_sector → s < c.fields.sectors → is_absent (known_by c) y s ≡ not there
    → fingerprint_mark c y ≡ cond there (mark_of (block_in (known_by c) y s) c.fields.fingerprint) Absent
unfolding fingerprint_mark
mark_here c y s there same below absent =
    let shown : (there : Bool) (block : List ℕ) → cond (true && not (not there)) (mark_of block c.fields.fingerprint) Absent ≡ cond there (mark_of block c.fields.fingerprint) Absent =
    λ there block. elim there as (λ t. cond (true && not (not t)) (mark_of block c.fields.fingerprint) Absent ≡ cond t (mark_of block c.fields.fingerprint) Absent) [ true ↦ refl | false ↦ refl ] in
    ap (λ k. cond (ltb k c.fields.sectors && not (is_absent (known_by c) y k)) (mark_of (block_in (known_by c) y k) c.fields.fingerprint) Absent) (sym same)
    ∙ (λ i. cond (lt-ltb s c.fields.sectors below i && not (absent i)) (mark_of (block_in (known_by c) y s) c.fields.fingerprint) Absent)
    ∙ shown there (block_in (known_by c) y s)

-- nothing before it
none_before : (mark s : ℕ) (whole before : Mark) → s ≡ mark → before ≡ cond (ltb mark s) whole Absent → before ≡ Absent
none_before mark s whole before same held = held ∙ cond-false (ltb mark s) whole Absent (le-ltb mark s (omega arith))

mark_taken : (there : Bool) (s mark : ℕ) (b block recorded : List ℕ) (before after : Mark) → s ≡ mark → before ≡ Absent → (IsTrue there → b ≡ block)
    → after ≡ cond (there && (s == mark)) (mark_of b recorded) before → after ≡ cond there (mark_of block recorded) Absent
mark_taken true s mark b block recorded before after same none read put =
    put ∙ cond-true (eqb s mark) (mark_of b recorded) before (eq-eqb s mark same) ∙ ap (λ xs. mark_of xs recorded) (read refl)
mark_taken false s mark b block recorded before after same none read put = put ∙ none

mark_kept : (there : Bool) (s mark : ℕ) (taken before after : Mark) → (s ≡ mark → ⊥) → after ≡ cond (there && (s == mark)) taken before → after ≡ before
mark_kept true s mark taken before after ne put = put ∙ cond-false (eqb s mark) taken before (ne_eqb s mark ne)
mark_kept false s mark taken before after ne put = put

same_side : (mark s : ℕ) → (s ≡ mark → ⊥) → ltb mark s ≡ ltb mark (s + 1)
same_side mark s ne =
    ⊎_elim
    (λ l. lt-ltb mark s l ∙ sym (lt-ltb mark (s + 1) (omega arith)))
    (λ l. le-ltb mark s l ∙ sym (le-ltb mark (s + 1) (omega arith)))
    (cases_lt mark s)

pub mark_more : (c : Opened) (y : List ℕ) (s : ℕ) (there : Bool) (b : List ℕ) (before after : Mark) → s < c.fields.sectors
    → is_absent (known_by c) y s ≡ not there → (IsTrue there → b ≡ block_in (known_by c) y s)
    → before ≡ cond (ltb c.fields.mark_sector s) (fingerprint_mark c y) Absent
    → after ≡ cond (there && (s == c.fields.mark_sector)) (mark_of b c.fields.fingerprint) before
    → after ≡ cond (ltb c.fields.mark_sector (s + 1)) (fingerprint_mark c y) Absent
mark_more c y s there b before after below absent read held put =
    ⊎_elim
    (λ same.
    mark_taken there s c.fields.mark_sector b (block_in (known_by c) y s) c.fields.fingerprint before after same (none_before c.fields.mark_sector s (fingerprint_mark c y) before same held) read put
    ∙ sym (mark_here c y s there same below absent)
    ∙ sym (cond-true (ltb c.fields.mark_sector (s + 1)) (fingerprint_mark c y) Absent (lt-ltb c.fields.mark_sector (s + 1) (omega arith))))
    (λ ne.
    mark_kept there s c.fields.mark_sector (mark_of b c.fields.fingerprint) before after ne put ∙ held
    ∙ ap (λ t. cond t (fingerprint_mark c y) Absent) (same_side c.fields.mark_sector s ne))
    (cases_eq s c.fields.mark_sector)

-- whether a sector is absent, from whether the file reaches to its end
pub absent_is : (end len : ℕ) → ltb len end ≡ not (leb end len)
absent_is end len =
    ⊎_elim
    (λ l. lt-ltb len end l ∙ sym (ap not (lt-leb end len l)))
    (λ l. le-ltb len end l ∙ sym (ap not (le-leb end len l)))
    (cases_lt len end)

-- before the first sector
pub length-zeros : (n : ℕ) → length (replicate {A = ℕ} n 0) ≡ n
length-zeros zero = refl
length-zeros (suc n) = ap suc (length-zeros n)

pub zeros_at : (n k : ℕ) → get_or (replicate {A = ℕ} n 0) k 0 ≡ 0
zeros_at zero k = refl
zeros_at (suc n) zero = refl
zeros_at (suc n) (suc k) = zeros_at n k

pub counts_none : (c : Opened) (y : List ℕ) (layers : ℕ) → replicate layers 0 ≡ map (erased_below c y 0) (range_with_len 0 layers)
counts_none c y layers = fill_by_all (erased_below c y 0) (replicate layers 0) layers 0 (length-zeros layers) (λ k l. zeros_at layers k)

pub mark_none : (mark : ℕ) (whole : Mark) → Absent ≡ cond (ltb mark 0) whole Absent
mark_none mark whole = sym (cond-false (ltb mark 0) whole Absent (le-ltb mark 0 (omega arith)))

-- after the last one
pub mark_all : (c : Opened) (y : List ℕ) → cond (ltb c.fields.mark_sector c.fields.sectors) (fingerprint_mark c y) Absent ≡ fingerprint_mark c y
unfolding fingerprint_mark
mark_all c y =
    elim (ltb c.fields.mark_sector c.fields.sectors) as (λ t.
    cond t (cond (t && not (is_absent (known_by c) y c.fields.mark_sector)) (mark_of (block_in (known_by c) y c.fields.mark_sector) c.fields.fingerprint) Absent) Absent
    ≡ cond (t && not (is_absent (known_by c) y c.fields.mark_sector)) (mark_of (block_in (known_by c) y c.fields.mark_sector) c.fields.fingerprint) Absent)
    [ true ↦ refl | false ↦ refl ]

pub image_mark_is : (c : Opened) (y : List ℕ) (mark : Mark) → 1 ≤ c.fields.sectors → c.fields.last_bytes ≤ 2048
    → (length y < image_len (known_by c) → mark ≡ Absent)
    → (image_len (known_by c) ≤ length y → mark ≡ mark_of (take (min (2048 * c.fields.sectors) (image_len (known_by c))) y) c.fields.image_sum)
    → mark ≡ image_mark c y
unfolding image_mark
image_mark_is c y mark some fits short long =
    ⊎_elim
    (λ l. short l ∙ sym (cond-true (ltb (length y) (image_len (known_by c))) Absent (mark_of (take (image_len (known_by c)) y) c.fields.image_sum) (lt-ltb (length y) (image_len (known_by c)) l)))
    (λ l.
    long l
    ∙ ap (λ k. mark_of (take k y) c.fields.image_sum) (let e : min (2048 * c.fields.sectors) (image_len (known_by c)) ≡ image_len (known_by c) = omega arith in e)
    ∙ sym (cond-false (ltb (length y) (image_len (known_by c))) Absent (mark_of (take (image_len (known_by c)) y) c.fields.image_sum) (le-ltb (length y) (image_len (known_by c)) l)))
    (cases_lt (length y) (image_len (known_by c)))

-- what is seen of a sector of an image file
pub record Seen (known : Known) (y : List ℕ) (s : ℕ) (found : Bool) (len : ℕ) (bytes : List ℕ) : Type 0 where
  pub absent : is_absent known y s ≡ not found
  pub reached : 2048 * s + length_of known.sectors known.last_bytes s ≤ length y → IsTrue found
  pub own : len ≡ length_of known.sectors known.last_bytes s
  pub read : IsTrue found → bytes ≡ block_in known y s

pub seen : (known : Known) (y : List ℕ) (image : Shown) (s : ℕ) (found : Bool) (len : ℕ) (bytes : List ℕ)
    → image ≡ shown_in y known.sectors known.last_bytes (length y) → IsSector image s found len bytes → Seen known y s found len bytes
seen known y image s found len bytes e shown =
    let end = 2048 * s + length_of known.sectors known.last_bytes s in
    let there : found ≡ leb end (length y) = shown.there ∙ ap (λ (i : Shown). i.there s) e in
    record {
      absent = absent_is end (length y) ∙ ap not (sym there);
      reached = λ l. there ∙ le-leb end (length y) l;
      own = shown.own ∙ ap (λ (i : Shown). i.own s) e;
      read = λ h. shown.block_of h ∙ ap (λ (i : Shown). i.block_of s) e;
    }

-- what is kept once one more sector was looked at
pub surveyed_more : (c : Opened) (y : List ℕ) (s : ℕ) (old new : Survey) (state : Condition) (there : Bool) (len : ℕ) (b : List ℕ)
    → s < c.fields.sectors → c.fields.last_bytes ≤ 2048 → layer_of c.fields.sectors c.fields.parity s < layers_of c.fields.sectors c.fields.parity
    → Seen (known_by c) y s there len b → state ≡ judged there (Some c.sums) s b
    → new.tally.missing.items ≡ old.tally.missing.items ++ missing_part state s
    → new.tally.altered.items ≡ old.tally.altered.items ++ altered_part state s
    → new.tally.counts.items ≡ counts_after state (layer_of c.fields.sectors c.fields.parity s) old.tally.counts.items
    → (IsTrue there → (m : List ℕ) → Holds old.hasher m → Holds new.hasher (m ++ take len b))
    → new.fingerprint ≡ cond (there && (s == c.fields.mark_sector)) (mark_of b c.fields.fingerprint) old.fingerprint
    → Surveyed c y s old → Surveyed c y (s + 1) new
surveyed_more c y s old new state there len b below fits within sector by_block missing altered counts held mark before =
    let known = known_by c in
    let found = by_block ∙ judged_is known y s there (Some c.sums) b refl sector.absent sector.read in
    record {
      missing = missing_more known y s _ _ state found before.missing missing;
      altered = altered_more known y s _ _ state found before.altered altered;
      counts = counts_more c y s (layers_of c.fields.sectors c.fields.parity) _ _ state found within before.counts counts;
      held = λ long.
          let all = reaches s c.fields.sectors c.fields.last_bytes (length y) below fits long in
          let there_is = sector.reached all in
          subst (λ (xs : List ℕ). Holds new.hasher xs)
          (ap (λ xs. take (min (2048 * s) (image_len known)) y ++ xs)
          ((λ i. take (sector.own i) (sector.read there_is i)) ∙ front_of_block y s (length_of c.fields.sectors c.fields.last_bytes s) all)
          ∙ bytes_more y s c.fields.sectors c.fields.last_bytes below fits long)
          (held there_is _ (before.held long));
      fingerprint = mark_more c y s there b old.fingerprint new.fingerprint below sector.absent sector.read before.fingerprint mark;
    }

-- nothing was looked at yet
pub surveyed_none : (c : Opened) (y : List ℕ) (survey : Survey) (layers : ℕ) → layers ≡ layers_of c.fields.sectors c.fields.parity → IsEmpty layers survey
    → Surveyed c y 0 survey
surveyed_none c y survey layers same empty = record {
  missing = empty.missing;
  altered = empty.altered;
  counts = empty.counts ∙ ap (λ n. replicate n 0) same ∙ counts_none c y (layers_of c.fields.sectors c.fields.parity);
  held = λ long. subst (λ (xs : List ℕ). Holds survey.hasher xs) (bytes_none y (image_len (known_by c))) empty.held;
  fingerprint = empty.fingerprint ∙ mark_none c.fields.mark_sector (fingerprint_mark c y);
}
