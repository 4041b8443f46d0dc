-- The erased places of a layer: they rise, they are places, and they are those whose flag is set.
use Rattle.std.proofs.Common.{◌≡◌, ℕ, ◌+◌, ◌<◌, ◌≤◌, List, length, get_or, sym, ◌∙◌, arith, Bool, true, false, ⊎_elim}
use Rattle.std.specs.List.{range_with_len, All, Contains}
use Rattle.std.specs.List.Sorted.{IsStrictlyIncreasing}
use Rattle.std.proofs.lemmas.Bool.{cases_lt, false≢true, false_from_ne_true}
use Rattle.std.proofs.lemmas.List.{get_or_past, get_or_default}
use Rattle.std.proofs.lemmas.List.Elements.{All-get_or, All-from_get_or, All-filter, filter_passes}
use Rattle.std.proofs.lemmas.List.FromFn.{length-range_with_len, get_or-range_with_len}
use Rattle.std.proofs.lemmas.List.Kept.{IsStrictlyIncreasing-filter}
use Rattle.rs01_erase.specs.Completion.{ArePlaces}
use Rattle.rs01_erase.specs.LayerValue.{erased_places}
use Rattle.rs01_erase.proofs.Found.{kept}

pub number_in_range : (n k : ℕ) → k < n → get_or (range_with_len 0 n) k 0 ≡ k
number_in_range n k h = get_or-range_with_len 0 n k 0 h ∙ (let e : 0 + k ≡ k = omega arith in e)

range_rises : (n : ℕ) → IsStrictlyIncreasing (range_with_len 0 n)
range_rises n k h =
    let long : length (range_with_len 0 n) ≡ n = length-range_with_len 0 n in
    let here : get_or (range_with_len 0 n) k 0 ≡ k = number_in_range n k (omega arith) in
    let next : get_or (range_with_len 0 n) (k + 1) 0 ≡ k + 1 = number_in_range n (k + 1) (omega arith) in
    omega arith

pub erased_rise : (flags : List Bool) → IsStrictlyIncreasing (erased_places flags)
unfolding erased_places
erased_rise flags = IsStrictlyIncreasing-filter (λ p. get_or flags p false) (range_with_len 0 (length flags)) (range_rises (length flags))

pub erased_below : (flags : List Bool) → All (λ p. p < length flags) (erased_places flags)
unfolding erased_places
erased_below flags =
    All-filter (λ p. get_or flags p false) (λ p. p < length flags) (range_with_len 0 (length flags))
    (All-from_get_or (λ p. p < length flags) (range_with_len 0 (length flags)) 0
    (λ k h.
    let long : length (range_with_len 0 (length flags)) ≡ length flags = length-range_with_len 0 (length flags) in
    let here : get_or (range_with_len 0 (length flags)) k 0 ≡ k = number_in_range (length flags) k (omega arith) in
    omega arith))

pub erased_below_at : (flags : List Bool) (k : ℕ) → k < length (erased_places flags) → get_or (erased_places flags) k 0 < length flags
erased_below_at flags k h = All-get_or (λ p. p < length flags) (erased_places flags) k 0 h (erased_below flags)

-- the erased places of at most 255 flags are places of a codeword
pub flagged_are_places : (flags : List Bool) → length flags ≤ 255 → ArePlaces (erased_places flags)
flagged_are_places flags few = record {
  rising = erased_rise flags;
  below = All-from_get_or (λ p. p < 255) (erased_places flags) 0 (λ k h. omega (arith, erased_below_at flags k h, few));
}

-- the flag of an erased place is set
pub erased_flagged : (flags : List Bool) (k : ℕ) → k < length (erased_places flags) → get_or flags (get_or (erased_places flags) k 0) false ≡ true
unfolding erased_places
erased_flagged flags k h =
    All-get_or (λ p. get_or flags p false ≡ true) (erased_places flags) k 0 h (filter_passes (λ p. get_or flags p false) (range_with_len 0 (length flags)))

-- a place whose flag is set is an erased place
pub flagged_erased : (flags : List Bool) (p : ℕ) → get_or flags p false ≡ true → Contains (erased_places flags) p
unfolding erased_places
flagged_erased flags p set_flag =
    ⊎_elim
    (λ (inside : p < length flags).
    let long : length (range_with_len 0 (length flags)) ≡ length flags = length-range_with_len 0 (length flags) in
    let here : get_or (range_with_len 0 (length flags)) p p ≡ p =
    get_or_default (range_with_len 0 (length flags)) p p 0 (omega arith) ∙ number_in_range (length flags) p inside in
    kept (λ q. get_or flags q false) (range_with_len 0 (length flags)) p p (omega arith) here set_flag)
    (λ past. absurd (false≢true (sym (get_or_past flags p false past) ∙ set_flag)))
    (cases_lt p (length flags))

pub held_unflagged : (flags : List Bool) (p : ℕ) → (Contains (erased_places flags) p → ⊥) → get_or flags p false ≡ false
held_unflagged flags p out = false_from_ne_true (get_or flags p false) (λ set_flag. out (flagged_erased flags p set_flag))
