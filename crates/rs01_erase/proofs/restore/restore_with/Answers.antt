use Rattle.std.proofs.Common.{◌≡◌, ℕ, ◌^◌, ◌<◌, ◌≤◌, List, length, get_or, map, take, sym, ap, ◌∙◌, arith, All, false, IsTrue, Some, None, bit_xor}
use Rattle.std.specs.List.Sorted.{IsStrictlyIncreasing}
use Rattle.std.specs.Int.Bits.{xor_self}
use Rattle.std.proofs.lemmas.List.{get_or-map, length-map}
use Rattle.std.proofs.lemmas.List.Elements.{All-get_or, All-from_get_or}
use Rattle.rs01_gf256.specs.Field.{times, power}
use Rattle.rs01_gf256.proofs.Logarithms.{times_below, power_below}
use Rattle.rs01_poly.specs.Polynomial.{value_at}
use Rattle.rs01_poly.specs.Code.{root, IsCodeword, AgreeOutside}
use Rattle.rs01_poly.proofs.Values.{AllBytes}
use Rattle.rs01_erase.specs.Completion.{IsRestored, completion}
use Rattle.rs01_erase.specs.PowerSums.{locator, weighted, power_sum, ArePowerSums, AreValues}
use Rattle.rs01_erase.proofs.Elimination.{bytes_of_all, moved}
use Rattle.rs01_erase.proofs.PlaceLemmas.{rises, locator_below, locators_differ, value_by_places}
use Rattle.rs01_erase.proofs.Completions.{completion-completes, completion-is, completion-none}
use Rattle.rs01_erase.proofs.restore.restore_with.Goals as goal

below_255 : (places : List ℕ) → All (λ p. p < 255) places → (k : ℕ) → k < length places → get_or places k 0 < 255
below_255 places h k l = All-get_or (λ p. p < 255) places k 0 l h

zero_at : (u places : List ℕ) → All (λ p. get_or u p 0 ≡ 0) places → (k : ℕ) → k < length places → get_or u (get_or places k 0) 0 ≡ 0
zero_at u places h k l = All-get_or (λ p. get_or u p 0 ≡ 0) places k 0 l h

-- the values of the word without its erased bytes are power sums of the bytes of a codeword that agrees
sums_of_codeword : (c u places sums locs : List ℕ) → length u ≡ 255 → AllBytes u → IsStrictlyIncreasing places → All (λ p. p < 255) places
    → All (λ p. get_or u p 0 ≡ 0) places → locs ≡ map locator places
    → ((j : ℕ) → j < length sums → get_or sums j 0 ≡ value_at u (root j))
    → IsCodeword c (length sums) → AgreeOutside c u places → ArePowerSums sums (weighted c places) locs
sums_of_codeword c u places sums locs lu hu rising below zeros located values code agree j h =
    let s = power_sum j (weighted c places) (map locator places) in
    let whole : value_at c (root j) ≡ bit_xor (value_at u (root j)) s =
    value_by_places c u places j code.whole lu (bytes_of_all c code.bytes) hu (rises places rising) (below_255 places below) (zero_at u places zeros) agree in
    values j h ∙ moved 0 (value_at u (root j)) s (sym (code.vanishes j h) ∙ whole) ∙ ap (power_sum j (weighted c places)) (sym located)

weighted_bytes : (c places : List ℕ) → AllBytes c → All (λ v. v < 2 ^ 8) (weighted c places)
unfolding weighted
weighted_bytes c places hc =
    let f : ℕ → ℕ = λ p. times (get_or c p 0) (power (locator p) 112) in
    All-from_get_or (λ v. v < 2 ^ 8) (map f places) 0
    (λ k h. rw (get_or-map f places k 0 0 (omega (arith, length-map places f)))
    (times_below (get_or c (get_or places k 0) 0) (power (locator (get_or places k 0)) 112) (hc (get_or places k 0))
    (power_below (locator (get_or places k 0)) 112 (locator_below (get_or places k 0)))))

length-weighted : (c places : List ℕ) → length (weighted c places) ≡ length places
unfolding weighted
length-weighted c places = length-map places (λ p. times (get_or c p 0) (power (locator p) 112))

not_solved : (w u places sums locs : List ℕ) (r : ℕ) → length u ≡ 255 → AllBytes u → IsStrictlyIncreasing places → All (λ p. p < 255) places
    → All (λ p. get_or u p 0 ≡ 0) places → AgreeOutside u w places → locs ≡ map locator places → length sums ≡ r
    → ((j : ℕ) → j < length sums → get_or sums j 0 ≡ value_at u (root j))
    → ((vs : List ℕ) → AreValues sums vs locs → IsTrue false)
    → completion w places r ≡ None
not_solved w u places sums locs r lu hu rising below zeros agree located long values found =
    completion-none w places r
    (λ c code same.
    let here : IsCodeword c (length sums) = rw long code in
    let count : length (weighted c places) ≡ length locs = length-weighted c places ∙ sym (length-map places locator) ∙ ap length (sym located) in
    let never = found (weighted c places) (record {
      count = count;
      bytes = weighted_bytes c places (bytes_of_all c code.bytes);
      sums_are = sums_of_codeword c u places sums locs lu hu rising below zeros located values here (λ p out. same p out ∙ sym (agree p out));
    }) in
    absurd (let contradiction : ⊥ = cc never in contradiction))

solved : (w u c places sums new locs : List ℕ) (r : ℕ) → length w ≡ 255 → length u ≡ 255 → length c ≡ 255 → AllBytes u → All (λ b. b < 2 ^ 8) c
    → IsStrictlyIncreasing places → All (λ p. p < 255) places → length places ≤ r
    → All (λ p. get_or u p 0 ≡ 0) places → AgreeOutside u w places → AgreeOutside c u places → locs ≡ map locator places → length sums ≡ r
    → ((j : ℕ) → j < length sums → get_or sums j 0 ≡ value_at u (root j))
    → ArePowerSums sums (take (length locs) new) locs → weighted c places ≡ take (length places) new
    → completion w places r ≡ Some c
solved w u c places sums new locs r lw lu lc hu hc rising below few zeros agree put located long values solution written =
    completion-is w places r c lw (below_255 places below) rising few
    (record {
      whole = lc;
      bytes = hc;
      vanishes = λ j h.
          let inside : j < length sums = omega arith in
          let count : length locs ≡ length places = ap length located ∙ length-map places locator in
          let s = power_sum j (weighted c places) (map locator places) in
          let same : value_at u (root j) ≡ s =
          sym (values j inside) ∙ solution j inside ∙ (λ i. power_sum j (take (count i) new) (located i)) ∙ (λ i. power_sum j (sym written i) (map locator places)) in
          value_by_places c u places j lc lu (bytes_of_all c hc) hu (rises places rising) (below_255 places below) (zero_at u places zeros) put
          ∙ ap (λ v. bit_xor v s) same ∙ xor_self s;
    })
    (λ p out. put p out ∙ agree p out)

restored : (old new places : List ℕ) (r : ℕ) → completion old places r ≡ Some new → IsRestored old new places r
restored old new places r done =
    let parts = completion-completes old places r new done in record { completed = done; codeword = parts.code; kept = parts.agree }

pub solve-requires-clause-differ : goal.solve-requires-clause-differ
solve-requires-clause-differ c =
    rw (c.requires.pattern.located) (locators_differ c.args.erased.now (rises c.args.erased.now c.requires.pattern.places_are.rising) (below_255 c.args.erased.now c.requires.pattern.places_are.below))

pub returns-then-not-solve-clause-none : goal.returns-then-not-solve-clause-none
returns-then-not-solve-clause-none c = λ yes.
    not_solved c.args.word.now c.clear.new.word c.args.erased.now c.values_at_roots.new.values c.args.locators.now _ (omega arith)
    (bytes_of_all c.clear.new.word c.clear.ensures.bytes) c.requires.pattern.places_are.rising c.requires.pattern.places_are.below c.clear.ensures.cleared c.clear.ensures.others
    c.requires.pattern.located (omega arith) (λ j h. c.values_at_roots.ensures j (omega arith)) c.if-not-solve.ensures.found

pub returns-clause-restored : goal.returns-clause-restored
returns-clause-restored c = λ yes.
    restored _ _ _ _ (solved c.args.word.now c.clear.new.word c.put.new.word c.args.erased.now c.values_at_roots.new.values c.solve.new.sums c.args.locators.now _
    (omega arith) (omega arith) (omega arith)
    (bytes_of_all c.clear.new.word c.clear.ensures.bytes) c.put.ensures.bytes c.requires.pattern.places_are.rising c.requires.pattern.places_are.below c.requires.pattern.few
    c.clear.ensures.cleared c.clear.ensures.others c.put.ensures.others
    c.requires.pattern.located (omega arith) (λ j h. c.values_at_roots.ensures j (omega arith)) (c.if-not-solve.ensures.solved yes) c.put.ensures.values)
