-- Operations on sixteen bytes, lane by lane.
use Rattle.std.proofs.Common.{◌≡◌, ℕ, ◌/◌, ◌%◌, ◌<◌, List, length, get_or, replicate, refl, sym, ap, ◌∙◌, arith, w8, bit_and, Fits}
use Rattle.std.proofs.lemmas.Simd.{swz_l, SwzOk, SwzOk-from_below, get_or-swz_l_below, length-swz_l, Each1-from_get_or, Each1-get_or, get_or-zip2, length-zip2}
use Rattle.std.proofs.lemmas.List.{get_or-replicate}
use Rattle.std.proofs.lemmas.Nat.{and_mask}
use Rattle.std.specs.Simd.Lanes.{zip2, Each1}
use Rattle.rs01_columns.specs.Lanes.{HasLanes}

pub HasLanes-zip2 : (f : ℕ → ℕ → ℕ) (a b : List ℕ) → length a ≡ 16 → length b ≡ 16 → HasLanes (zip2 f a b) (λ k. f (get_or a k 0) (get_or b k 0))
HasLanes-zip2 f a b p q = record {
  long = length-zip2 f a b (p ∙ sym q) ∙ p;
  each = λ k l. get_or-zip2 f a b k 0 0 0 (omega arith) (omega arith);
}

pub HasLanes-splat : (f : ℕ → ℕ → ℕ) (a : List ℕ) (x : ℕ) → length a ≡ 16 → HasLanes (zip2 f a (replicate 16 x)) (λ k. f (get_or a k 0) x)
HasLanes-splat f a x p =
    let h = HasLanes-zip2 f a (replicate 16 x) p refl in
    record { long = h.long; each = λ k l. h.each k l ∙ ap (f (get_or a k 0)) (get_or-replicate 16 k x 0 l) }

module _ (js : List ℕ) (f : ℕ → ℕ) (h : HasLanes js f) (small : (k : ℕ) → k < 16 → f k < 16) where
  pub SwzOk-nibbles : SwzOk w8 16 16 0 js
  SwzOk-nibbles =
      let long = h.long in
      SwzOk-from_below w8 16 1 16 0 js refl (omega arith) (Each1-from_get_or (λ j. j < 16) js 0 (λ i l. omega (arith, h.each i (omega arith), small i (omega arith))))

  pub HasLanes-swz_l : (table : List ℕ) → HasLanes (swz_l w8 16 table 0 js) (λ k. get_or table (f k) 0)
  HasLanes-swz_l table =
      let long = h.long in
      record {
        long = length-swz_l w8 16 table 0 js ∙ long;
        each = λ k l.
            let e = h.each k l in
            get_or-swz_l_below w8 16 table 0 js k (omega arith) (omega (arith, small k l)) ∙ ap (λ j. get_or table j 0) (omega arith);
      }

pub low : (v : List ℕ) → length v ≡ 16 → HasLanes (zip2 bit_and v (replicate 16 15)) (λ k. get_or v k 0 % 16)
low v long =
    let h = HasLanes-splat bit_and v 15 long in
    record { long = h.long; each = λ k l. h.each k l ∙ and_mask (get_or v k 0) 4 }

pub small_high : (v : List ℕ) → length v ≡ 16 → Each1 (Fits w8) v → (k : ℕ) → k < 16 → get_or v k 0 / 16 < 16
small_high v long fits k l = omega (arith, (Each1-get_or (Fits w8) v k 0 (omega arith) fits).fits)
