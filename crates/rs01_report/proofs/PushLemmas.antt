-- Lines that are put behind a text one after the other.
use Rattle.std.proofs.Common.{◌≡◌, List, [], ◌++◌, ℕ, ap, ◌∙◌, append_assoc}

pub two_lines : (t0 t1 t2 a b : List ℕ) → t1 ≡ t0 ++ a → t2 ≡ t1 ++ b → t2 ≡ t0 ++ (a ++ b)
two_lines t0 t1 t2 a b p q = q ∙ ap (λ t. t ++ b) p ∙ append_assoc t0 a b

pub three_lines : (t0 t1 t2 t3 a b c : List ℕ) → t1 ≡ t0 ++ a → t2 ≡ t1 ++ b → t3 ≡ t2 ++ c → t3 ≡ t0 ++ (a ++ (b ++ c))
three_lines t0 t1 t2 t3 a b c p q r = two_lines t0 t1 t3 a (b ++ c) p (two_lines t1 t2 t3 b c q r)

-- four lines behind the empty text
pub four_lines : (t0 t1 t2 t3 t4 a b c d : List ℕ)
    → t0 ≡ [] → t1 ≡ t0 ++ a → t2 ≡ t1 ++ b → t3 ≡ t2 ++ c → t4 ≡ t3 ++ d → t4 ≡ a ++ (b ++ (c ++ d))
four_lines t0 t1 t2 t3 t4 a b c d z p q r s =
    two_lines t0 t1 t4 a (b ++ (c ++ d)) p (three_lines t1 t2 t3 t4 b c d q r s) ∙ ap (λ t. t ++ (a ++ (b ++ (c ++ d)))) z
