-- Polynomials over the field. A polynomial is the list of its coefficients, the highest first.
use Rattle.std.specs.Prelude.{ℕ, zero, suc, List, [], ◌∷◌, ◌++◌, map, bit_xor}
use Rattle.rs01_gf256.specs.Field.{times}

-- Horner's rule, begun with the value v of the coefficients that came before
unfoldable pub horner : ℕ → List ℕ → ℕ → ℕ
horner v [] z = v
horner v (c ∷ p) z = horner (bit_xor (times v z) c) p z

-- the value of the polynomial p at z
unfoldable pub value_at : List ℕ → ℕ → ℕ
value_at p z = horner 0 p z

-- q added to the first coefficients of p: the sum of p and of q times a power of x, where both lists begin
-- at the same power
unfoldable pub add_front : List ℕ → List ℕ → List ℕ
add_front q [] = []
add_front [] (y ∷ p) = y ∷ p
add_front (x ∷ q) (y ∷ p) = bit_xor x y ∷ add_front q p

-- each coefficient of p times c
abbrev pub scale : ℕ → List ℕ → List ℕ
scale c p = map (times c) p

-- the product of p and x + c
unfoldable pub times_linear : List ℕ → ℕ → List ℕ
times_linear p c = add_front (0 ∷ scale c p) (p ++ 0 ∷ [])

-- n steps of the long division of p by the monic polynomial whose lower coefficients are g: what is left
-- below the n coefficients that are divided away
unfoldable pub remainder : ℕ → List ℕ → List ℕ → List ℕ
remainder zero g p = p
remainder (suc n) g [] = []
remainder (suc n) g (f ∷ p) = remainder n g (add_front (scale f g) p)
