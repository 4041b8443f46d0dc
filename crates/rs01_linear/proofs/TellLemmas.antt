-- Lists and counts of sectors, one sector more at a time.
use Rattle.std.proofs.Common.{◌≡◌, ℕ, ◌+◌, ◌<◌, ◌∙◌, ap, arith, sym, List, [], ◌∷◌, ◌++◌, Bool, true, false, cond, length, count_by, add-one, get_or}
use Rattle.std.specs.Prelude.{filter}
use Rattle.std.specs.List.{range_with_len}
use Rattle.std.specs.Option.{option_map_or}
use Rattle.std.proofs.lemmas.List.Elements.{filter-append}
use Rattle.std.proofs.lemmas.List.Sums.{sum_by_push}
use Rattle.std.proofs.lemmas.Option.{slice_get-get_or}
use Rattle.rs01_lists.proofs.Ranges.{range_with_len_more}
use Rattle.rs01_linear.specs.Report.{is_told, tells_of}
use Rattle.rs01_linear.specs.declared.fate.Fate.{Fate}
use Rattle.rs01_linear.specs.declared.telling.Told.{Told}

numbers_more : (n : ℕ) → range_with_len 0 (n + 1) ≡ range_with_len 0 n ++ n ∷ []
numbers_more n =
    ap (range_with_len 0) (add-one n) ∙ range_with_len_more 0 n ∙ ap (λ k. range_with_len 0 n ++ k ∷ []) (let e : 0 + n ≡ n = omega arith in e)

pub one_more_kept : (p : ℕ → Bool) (now after : List ℕ) (b : Bool) (n : ℕ) → now ≡ filter p (range_with_len 0 n) → b ≡ p n
    → after ≡ now ++ cond b (n ∷ []) [] → after ≡ filter p (range_with_len 0 (n + 1))
one_more_kept p now after b n held is put =
    put ∙ (λ i. held i ++ cond (is i) (n ∷ []) []) ∙ sym (ap (filter p) (numbers_more n) ∙ filter-append p (range_with_len 0 n) (n ∷ []))

count_more : (p : ℕ → Bool) (n : ℕ) → count_by p (range_with_len 0 (n + 1)) ≡ count_by p (range_with_len 0 n) + cond (p n) 1 0
count_more p n = ap (count_by p) (numbers_more n) ∙ sum_by_push (λ x. cond (p x) 1 0) (range_with_len 0 n) n

pub one_more_counted : (p : ℕ → Bool) (now : ℕ) (n : ℕ) → now ≡ count_by p (range_with_len 0 n) → p n ≡ true → now + 1 ≡ count_by p (range_with_len 0 (n + 1))
one_more_counted p now n held is = ap (λ k. k + 1) held ∙ ap (λ b. count_by p (range_with_len 0 n) + cond b 1 0) (sym is) ∙ sym (count_more p n)

pub none_more_counted : (p : ℕ → Bool) (now : ℕ) (n : ℕ) → now ≡ count_by p (range_with_len 0 n) → p n ≡ false → now ≡ count_by p (range_with_len 0 (n + 1))
none_more_counted p now n held is =
    held ∙ (let z : count_by p (range_with_len 0 n) ≡ count_by p (range_with_len 0 n) + 0 = omega arith in z)
    ∙ ap (λ b. count_by p (range_with_len 0 n) + cond b 1 0) (sym is) ∙ sym (count_more p n)

-- a sector's fate tells of it
pub tells_at : (fates : List Fate) (kind : Told) (s : ℕ) (d : Fate) (b : Bool) → s < length fates → b ≡ is_told kind (get_or fates s d) → b ≡ tells_of fates kind s
tells_at fates kind s d b below is = is ∙ sym (ap (λ o. option_map_or (is_told kind) o false) (slice_get-get_or fates s d below))
