-- Riffling: the lanes of two vectors by turns, the halves of 256 bytes by turns, and that four times make a turn.
use Rattle.std.proofs.Common.{◌≡◌, ℕ, zero, suc, ◌+◌, ◌-◌, ◌*◌, ◌/◌, ◌%◌, ◌<◌, ◌≤◌, List, [], ◌∷◌, ◌++◌, map, length, get_or, refl, sym, ap, ◌∙◌, arith, ⊎_elim}
use Rattle.std.proofs.lemmas.Bool.{cases_lt}
use Rattle.std.proofs.lemmas.List.{get_or_append_left, get_or-append_right}
use Rattle.rs01_columns.specs.Turning.{AreRiffled, IsTurned, TakesTurns}

-- the elements at these places
abbrev pick_l : ℕ → List ℕ → List ℕ → List ℕ
pick_l d xs ks = map (λ k. get_or xs k d) ks

module _ (a b : List ℕ) (la : length a ≡ 16) (lb : length b ≡ 16) where
  left : (k : ℕ) → k < 16 → get_or (a ++ b) k 0 ≡ get_or a k 0
  left k h = get_or_append_left a b 0 k (omega (arith, la))

  right : (n k : ℕ) → n ≡ 16 + k → get_or (a ++ b) n 0 ≡ get_or b k 0
  right n k e = get_or-append_right a b 16 n 0 la (omega arith) ∙ ap (λ j. get_or b j 0) (let same : n - 16 ≡ k = omega arith in same)

  pub first_turns : TakesTurns a b 0 (pick_l 0 (a ++ b) (0 ∷ 16 ∷ 1 ∷ 17 ∷ 2 ∷ 18 ∷ 3 ∷ 19 ∷ 4 ∷ 20 ∷ 5 ∷ 21 ∷ 6 ∷ 22 ∷ 7 ∷ 23 ∷ []))
  first_turns = record { long = refl; even = evens; odd = odds }
    where
      evens : (k : ℕ) → k < 8 → get_or (pick_l 0 (a ++ b) (0 ∷ 16 ∷ 1 ∷ 17 ∷ 2 ∷ 18 ∷ 3 ∷ 19 ∷ 4 ∷ 20 ∷ 5 ∷ 21 ∷ 6 ∷ 22 ∷ 7 ∷ 23 ∷ [])) (2 * k) 0 ≡ get_or a (0 + k) 0
      evens zero h = left 0 (omega arith)
      evens (suc zero) h = left 1 (omega arith)
      evens (suc (suc zero)) h = left 2 (omega arith)
      evens (suc (suc (suc zero))) h = left 3 (omega arith)
      evens (suc (suc (suc (suc zero)))) h = left 4 (omega arith)
      evens (suc (suc (suc (suc (suc zero))))) h = left 5 (omega arith)
      evens (suc (suc (suc (suc (suc (suc zero)))))) h = left 6 (omega arith)
      evens (suc (suc (suc (suc (suc (suc (suc zero))))))) h = left 7 (omega arith)
      evens (suc (suc (suc (suc (suc (suc (suc (suc k)))))))) h = absurd (omega arith)

      odds : (k : ℕ) → k < 8 → get_or (pick_l 0 (a ++ b) (0 ∷ 16 ∷ 1 ∷ 17 ∷ 2 ∷ 18 ∷ 3 ∷ 19 ∷ 4 ∷ 20 ∷ 5 ∷ 21 ∷ 6 ∷ 22 ∷ 7 ∷ 23 ∷ [])) (2 * k + 1) 0 ≡ get_or b (0 + k) 0
      odds zero h = right 16 0 refl
      odds (suc zero) h = right 17 1 refl
      odds (suc (suc zero)) h = right 18 2 refl
      odds (suc (suc (suc zero))) h = right 19 3 refl
      odds (suc (suc (suc (suc zero)))) h = right 20 4 refl
      odds (suc (suc (suc (suc (suc zero))))) h = right 21 5 refl
      odds (suc (suc (suc (suc (suc (suc zero)))))) h = right 22 6 refl
      odds (suc (suc (suc (suc (suc (suc (suc zero))))))) h = right 23 7 refl
      odds (suc (suc (suc (suc (suc (suc (suc (suc k)))))))) h = absurd (omega arith)

  pub last_turns : TakesTurns a b 8 (pick_l 0 (a ++ b) (8 ∷ 24 ∷ 9 ∷ 25 ∷ 10 ∷ 26 ∷ 11 ∷ 27 ∷ 12 ∷ 28 ∷ 13 ∷ 29 ∷ 14 ∷ 30 ∷ 15 ∷ 31 ∷ []))
  last_turns = record { long = refl; even = evens; odd = odds }
    where
      evens : (k : ℕ) → k < 8 → get_or (pick_l 0 (a ++ b) (8 ∷ 24 ∷ 9 ∷ 25 ∷ 10 ∷ 26 ∷ 11 ∷ 27 ∷ 12 ∷ 28 ∷ 13 ∷ 29 ∷ 14 ∷ 30 ∷ 15 ∷ 31 ∷ [])) (2 * k) 0 ≡ get_or a (8 + k) 0
      evens zero h = left 8 (omega arith)
      evens (suc zero) h = left 9 (omega arith)
      evens (suc (suc zero)) h = left 10 (omega arith)
      evens (suc (suc (suc zero))) h = left 11 (omega arith)
      evens (suc (suc (suc (suc zero)))) h = left 12 (omega arith)
      evens (suc (suc (suc (suc (suc zero))))) h = left 13 (omega arith)
      evens (suc (suc (suc (suc (suc (suc zero)))))) h = left 14 (omega arith)
      evens (suc (suc (suc (suc (suc (suc (suc zero))))))) h = left 15 (omega arith)
      evens (suc (suc (suc (suc (suc (suc (suc (suc k)))))))) h = absurd (omega arith)

      odds : (k : ℕ) → k < 8 → get_or (pick_l 0 (a ++ b) (8 ∷ 24 ∷ 9 ∷ 25 ∷ 10 ∷ 26 ∷ 11 ∷ 27 ∷ 12 ∷ 28 ∷ 13 ∷ 29 ∷ 14 ∷ 30 ∷ 15 ∷ 31 ∷ [])) (2 * k + 1) 0 ≡ get_or b (8 + k) 0
      odds zero h = right 24 8 refl
      odds (suc zero) h = right 25 9 refl
      odds (suc (suc zero)) h = right 26 10 refl
      odds (suc (suc (suc zero))) h = right 27 11 refl
      odds (suc (suc (suc (suc zero)))) h = right 28 12 refl
      odds (suc (suc (suc (suc (suc zero))))) h = right 29 13 refl
      odds (suc (suc (suc (suc (suc (suc zero)))))) h = right 30 14 refl
      odds (suc (suc (suc (suc (suc (suc (suc zero))))))) h = right 31 15 refl
      odds (suc (suc (suc (suc (suc (suc (suc (suc k)))))))) h = absurd (omega arith)

-- where a byte was before a riffle
abbrev before : ℕ → ℕ
before m = m / 2 + 128 * (m % 2)

was : (from into : List ℕ) (m : ℕ) → AreRiffled from into 0 128 → m < 256 → get_or into m 0 ≡ get_or from (before m) 0
was from into m h below =
    ⊎_elim
    (λ (e : m % 2 < 1).
    let at : m ≡ 2 * (m / 2) = omega arith in
    let there : m / 2 ≡ before m = omega arith in
    ap (λ n. get_or into n 0) at ∙ h.even (m / 2) (omega arith) (omega arith) ∙ ap (λ n. get_or from n 0) there)
    (λ (e : 1 ≤ m % 2).
    let at : m ≡ 2 * (m / 2) + 1 = omega arith in
    let there : 128 + m / 2 ≡ before m = omega arith in
    ap (λ n. get_or into n 0) at ∙ h.odd (m / 2) (omega arith) (omega arith) ∙ ap (λ n. get_or from n 0) there)
    (cases_lt (m % 2) 1)

-- four riffles turn a square
pub turned : (s0 s1 s2 s3 s4 : List ℕ) → AreRiffled s0 s1 0 128 → AreRiffled s1 s2 0 128 → AreRiffled s2 s3 0 128 → AreRiffled s3 s4 0 128 → IsTurned s0 s4
turned s0 s1 s2 s3 s4 h1 h2 h3 h4 i k hi hk =
    let m4 : ℕ = 16 * k + i in
    let m3 : ℕ = before m4 in
    let m2 : ℕ = before m3 in
    let m1 : ℕ = before m2 in
    let b4 : m4 < 256 = omega arith in
    let b3 : m3 < 256 = omega (arith, b4) in
    let b2 : m2 < 256 = omega (arith, b3) in
    let b1 : m1 < 256 = omega (arith, b2) in
    let m0 : before m1 ≡ 16 * i + k = omega (arith, b4) in
    was s3 s4 m4 h4 b4 ∙ was s2 s3 m3 h3 b3 ∙ was s1 s2 m2 h2 b2 ∙ was s0 s1 m1 h1 b1 ∙ ap (λ n. get_or s0 n 0) m0

-- sixteen bytes of each half are riffled by two stores
pub block_riffled : (from mid into a b va vb : List ℕ) (i : ℕ) → i < 8
    → ((k : ℕ) → k < 16 → get_or a k 0 ≡ get_or from (16 * i + k) 0) → ((k : ℕ) → k < 16 → get_or b k 0 ≡ get_or from (128 + 16 * i + k) 0)
    → TakesTurns a b 0 va → TakesTurns a b 8 vb
    → ((k : ℕ) → k < 16 → get_or mid (32 * i + k) 0 ≡ get_or va k 0)
    → ((k : ℕ) → k < 16 → get_or into (32 * i + 16 + k) 0 ≡ get_or vb k 0)
    → ((k : ℕ) → k < 32 * i + 16 → get_or into k 0 ≡ get_or mid k 0)
    → AreRiffled from into (16 * i) (16 * i + 16)
block_riffled from mid into a b va vb i below fa fb ta tb front back kept = record {
  even = λ k g h.
      ⊎_elim
      (λ (low : k < 16 * i + 8).
      let d : ℕ = k - 16 * i in
      let at : 2 * k ≡ 32 * i + 2 * d = omega arith in
      let there : 16 * i + (0 + d) ≡ k = omega arith in
      kept (2 * k) (omega arith) ∙ ap (λ n. get_or mid n 0) at ∙ front (2 * d) (omega arith) ∙ ta.even d (omega arith) ∙ fa (0 + d) (omega arith)
      ∙ ap (λ n. get_or from n 0) there)
      (λ (high : 16 * i + 8 ≤ k).
      let d : ℕ = k - 16 * i - 8 in
      let at : 2 * k ≡ 32 * i + 16 + 2 * d = omega arith in
      let there : 16 * i + (8 + d) ≡ k = omega arith in
      ap (λ n. get_or into n 0) at ∙ back (2 * d) (omega arith) ∙ tb.even d (omega arith) ∙ fa (8 + d) (omega arith) ∙ ap (λ n. get_or from n 0) there)
      (cases_lt k (16 * i + 8));
  odd = λ k g h.
      ⊎_elim
      (λ (low : k < 16 * i + 8).
      let d : ℕ = k - 16 * i in
      let at : 2 * k + 1 ≡ 32 * i + (2 * d + 1) = omega arith in
      let there : 128 + 16 * i + (0 + d) ≡ 128 + k = omega arith in
      kept (2 * k + 1) (omega arith) ∙ ap (λ n. get_or mid n 0) at ∙ front (2 * d + 1) (omega arith) ∙ ta.odd d (omega arith) ∙ fb (0 + d) (omega arith)
      ∙ ap (λ n. get_or from n 0) there)
      (λ (high : 16 * i + 8 ≤ k).
      let d : ℕ = k - 16 * i - 8 in
      let at : 2 * k + 1 ≡ 32 * i + 16 + (2 * d + 1) = omega arith in
      let there : 128 + 16 * i + (8 + d) ≡ 128 + k = omega arith in
      ap (λ n. get_or into n 0) at ∙ back (2 * d + 1) (omega arith) ∙ tb.odd d (omega arith) ∙ fb (8 + d) (omega arith) ∙ ap (λ n. get_or from n 0) there)
      (cases_lt k (16 * i + 8));
}
