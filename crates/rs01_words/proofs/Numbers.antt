-- The number of decimal digits, digit by digit.
use Rattle.std.proofs.Common.{◌≡◌, ℕ, ◌+◌, ◌-◌, ◌*◌, ◌<◌, ◌≤◌, List, [], ◌∷◌, ◌++◌, length, take, drop, get_or, fold, ap, refl, arith, Some, None}
use Rattle.std.proofs.lemmas.Bool.Decides.{nat_tests}
use Rattle.std.proofs.lemmas.List.Sums.{fold_more, fold-append}
use Rattle.std.proofs.lemmas.List.{take-append-drop}
use Rattle.rs01_words.specs.Value.{number_of, up_to}

-- one digit more
pub number_of-more : (digits : List ℕ) (i : ℕ) → i < length digits → number_of (take (i + 1) digits) ≡ 10 * number_of (take i digits) + (get_or digits i 0 - 48)
unfolding number_of
number_of-more digits i inside = fold_more (λ n b. 10 * n + (b - 48)) 0 digits i 0 inside

grows : (n : ℕ) (digits : List ℕ) → n ≤ fold (λ n b. 10 * n + (b - 48)) n digits
grows n [] = omega arith
grows n (b ∷ digits) = omega (arith, grows (10 * n + (b - 48)) digits)

-- further digits make no number less
pub number_of-take : (digits : List ℕ) (i : ℕ) → number_of (take i digits) ≤ number_of digits
unfolding number_of
number_of-take digits i =
    let f : ℕ → ℕ → ℕ = λ n b. 10 * n + (b - 48) in
    let whole : fold f 0 (take i digits ++ drop i digits) ≡ fold f 0 digits = ap (fold f 0) (take-append-drop i digits) in
    let split : fold f 0 (take i digits ++ drop i digits) ≡ fold f (fold f 0 (take i digits)) (drop i digits) = fold-append f 0 (take i digits) (drop i digits) in
    let more : fold f 0 (take i digits) ≤ fold f (fold f 0 (take i digits)) (drop i digits) = grows (fold f 0 (take i digits)) (drop i digits) in
    omega arith

pub number_of-nil : number_of [] ≡ 0
unfolding number_of
number_of-nil = refl

-- what `up_to` says of the number that it gives
pub up_to-Some : (high n x : ℕ) → Some x ≡ up_to high n → (x ≡ n) × (n ≤ high)
up_to-Some high n x is = (grind (arith, nat_tests), grind (arith, nat_tests))

-- what `up_to` says where it gives none
pub up_to-None : (high n : ℕ) → None ≡ up_to high n → high < n
up_to-None high n is = grind (arith, nat_tests)

-- one digit more, where the number stays within the bound
pub up_to-more : (high i number x : ℕ) (digits : List ℕ) → i < length digits → number ≡ number_of (take i digits) → Some x ≡ up_to high (10 * number + (get_or digits i 0 - 48)) → (x ≡ number_of (take (i + 1) digits)) × (x ≤ high)
up_to-more high i number x digits inside so_far is =
    let found = up_to-Some high _ x is in
    let more = number_of-more digits i inside in
    (omega arith, omega arith)

-- where the number of the first digits is too great, so is that of all
pub up_to-take : (high i number : ℕ) (digits : List ℕ) → i < length digits → number ≡ number_of (take i digits) → None ≡ up_to high (10 * number + (get_or digits i 0 - 48)) → None ≡ up_to high (number_of digits)
up_to-take high i number digits inside so_far is =
    let above = up_to-None high _ is in
    let more = number_of-more digits i inside in
    let less = number_of-take digits (i + 1) in
    let greater : high < number_of digits = omega arith in
    grind (arith, nat_tests)
