-- A program is known by what it makes of the unit words.
use Rattle.std.proofs.Common.{◌≡◌, ℕ, ◌+◌, ◌-◌, ◌≤◌, ◌^◌, ◌<◌, List, length, get_or, sym, ap, ◌∙◌, arith, ⊎_elim}
use Rattle.std.specs.Prelude.{All}
use Rattle.std.proofs.lemmas.Bool.{cases_lt}
use Rattle.std.proofs.lemmas.List.{get_or_past}
use Rattle.std.proofs.lemmas.List.Elements.{All-get_or}
use Rattle.rs01_poly.specs.Code.{encode, root}
use Rattle.rs01_gf256.specs.Field.{times}
use Rattle.rs01_gf256.proofs.Laws.{times-zero}
use Rattle.rs01_poly.specs.Polynomial.{horner, scale, value_at}
use Rattle.rs01_poly.proofs.Coefficients.{get_or-add_front, get_or-scale}
use Rattle.rs01_poly.proofs.Division.{length-encode, root_below}
use Rattle.rs01_poly.proofs.Linear.{encode-add_front, encode-scale}
use Rattle.rs01_poly.proofs.Values.{AllBytes, value_at-add_front, horner-scale}
use Rattle.rs01_columns.specs.Program.{meaning}
use Rattle.rs01_columns.specs.Certificate.{start, Encodes, Evaluates, Leaves, UnitsLeave, parity_bytes, root_values}
use Rattle.rs01_columns.specs.declared.program.Step.{Step}
use Rattle.rs01_columns.proofs.LinearPrograms.{meaning-sum, meaning-scale, HasByteFactors}
use Rattle.rs01_columns.proofs.UnitWords.{IsLinear, agree_everywhere}

bytes_of_all : (c : List ℕ) → All (λ b. b < 2 ^ 8) c → AllBytes c
bytes_of_all c h k =
    ⊎_elim (λ l. All-get_or (λ b. b < 2 ^ 8) c k 0 l h) (λ g. rw (get_or_past c k 0 g) (omega arith)) (cases_lt k (length c))

IsLinear-program : (p : List Step) (n j : ℕ) → HasByteFactors p → IsLinear n (λ d. meaning p (start d) j)
IsLinear-program p n j hp = record {
  sums = λ x y ex ey. (λ i. meaning p (λ m. get_or-add_front x y m (omega arith) i) j) ∙ meaning-sum p (start x) (start y) j;
  multiples = λ c x e hc hx. (λ i. meaning p (λ m. get_or-scale c x m i) j) ∙ meaning-scale p c (start x) j hc hp hx;
}

IsLinear-parity : (n j : ℕ) → n ≤ 255 → IsLinear n (λ d. parity_bytes d j)
IsLinear-parity n j hn = record {
  sums = λ x y ex ey.
      let lx : length (encode x) ≡ 255 - length x = length-encode x (omega arith) in
      let ly : length (encode y) ≡ 255 - length y = length-encode y (omega arith) in
      ap (λ d. get_or d j 0) (encode-add_front x y (ex ∙ sym ey)) ∙ get_or-add_front (encode x) (encode y) j (omega arith);
  multiples = λ c x e hc hx. ap (λ d. get_or d j 0) (encode-scale c x hc hx) ∙ get_or-scale c (encode x) j;
}

value_at-scale : (c : ℕ) (p : List ℕ) (z : ℕ) → c < 2 ^ 8 → z < 2 ^ 8 → AllBytes p → value_at (scale c p) z ≡ times c (value_at p z)
unfolding value_at
value_at-scale c p z hc hz hp = ap (λ w. horner w (scale c p) z) (sym (times-zero c)) ∙ horner-scale c 0 p z hc (omega arith) hz hp

IsLinear-values : (n j : ℕ) → IsLinear n (λ d. root_values d j)
IsLinear-values n j = record {
  sums = λ x y ex ey. value_at-add_front x y (root j) (ex ∙ sym ey);
  multiples = λ c x e hc hx. value_at-scale c x (root j) hc (root_below j) hx;
}

known : (p : List Step) (n at m : ℕ) (f : List ℕ → ℕ → ℕ) → HasByteFactors p → ((j : ℕ) → IsLinear n (λ d. f d j)) → UnitsLeave p n at m f → Leaves p n at m f
known p n at m f hp linear units d e hd j h =
    agree_everywhere n (λ w. meaning p (start w) (at + j)) (λ w. f w j) (IsLinear-program p n (at + j) hp) (linear j) (λ i l. units i l j h) d e (bytes_of_all d hd)

-- what encodes the unit words encodes every word
pub encodes_all : (p : List Step) (r : ℕ) → HasByteFactors p → UnitsLeave p (255 - r) (255 - r) r parity_bytes → Encodes p r
encodes_all p r hp units = known p (255 - r) (255 - r) r parity_bytes hp (λ j. IsLinear-parity (255 - r) j (omega arith)) units

-- what evaluates the unit words evaluates every word
pub evaluates_all : (p : List Step) (r : ℕ) → HasByteFactors p → UnitsLeave p 255 255 r root_values → Evaluates p r
evaluates_all p r hp units = known p 255 255 r root_values hp (λ j. IsLinear-values 255 j) units
