-- Which sectors are told as restored, and which as lost.
use Rattle.std.proofs.Common.{◌≡◌, ℕ, zero, suc, ◌<◌, List, [], ◌∷◌, length, get_or, refl, sym, ap, ◌∙◌, arith, Bool, true, false}
use Rattle.std.specs.Prelude.{not, ◌&&◌}
use Rattle.std.proofs.lemmas.Bool.{false≢true}
use Rattle.rs01_layers.specs.Layout.{layer_of, layers_of}
use Rattle.rs01_layers.proofs.PlaceLemmas.{each_sector_has_a_place}
use Rattle.rs01_repair.specs.Finding.{Sources, answer_to, is_gone_in, said}
use Rattle.rs01_repair.specs.Restored.{is_restored}
use Rattle.rs01_repair.specs.declared.found.Found.{Found}
use Rattle.rs01_repair.proofs.FlagLemmas.{flag_of}
use Rattle.rs01_ecchead.proofs.Shapes.{is_shape}
use Rattle.rs01_fix.specs.Repair.{is_lost, is_mended}
use Rattle.rs01_fix.specs.Steps.{FlagLayers, is_told}
use Rattle.rs01_fix.proofs.FixedLemmas.{mended_is}
use Rattle.rs01_fix.proofs.FoundLemmas.{have_blocks}

-- the layer of a sector
abbrev own : Found → ℕ → ℕ
own found s = layer_of found.ecc.head.sectors found.ecc.head.parity s

mended : (found : Found) (was : Sources found) (s : ℕ) → s < found.ecc.head.sectors
    → is_mended (said found was) (answer_to found was) s ≡ (is_gone_in found was s && is_restored (answer_to found was (own found s)))
mended found was s below = mended_is (said found was) was.image (answer_to found was) s (is_shape found.ecc) (have_blocks found was) below

flag_says : (found : Found) (was : Sources found) (s layer : ℕ) (flags : List Bool) → s < found.ecc.head.sectors → FlagLayers found was flags → layer ≡ own found s
    → get_or flags layer false ≡ is_restored (answer_to found was (own found s))
flag_says found was s layer flags below are e =
    ap (λ l. get_or flags l false) e
    ∙ flag_of (λ l. is_restored (answer_to found was l)) flags (layers_of found.ecc.head.sectors found.ecc.head.parity) (own found s) false are
    (each_sector_has_a_place found.ecc.head.sectors found.ecc.head.parity s (is_shape found.ecc) below).0

pub belongs_restored : (found : Found) (was : Sources found) (wanted : Bool) (s layer : ℕ) (flags : List Bool) → s < found.ecc.head.sectors
    → FlagLayers found was flags → layer ≡ own found s → is_gone_in found was s ≡ true → wanted ≡ true → get_or flags layer false ≡ is_told wanted found was s
belongs_restored found was true s layer flags below are e gone is =
    flag_says found was s layer flags below are e
    ∙ sym (mended found was s below ∙ ap (λ b. b && is_restored (answer_to found was (own found s))) gone)
belongs_restored found was false s layer flags below are e gone is = absurd (false≢true is)

pub belongs_lost : (found : Found) (was : Sources found) (wanted : Bool) (s layer : ℕ) (flags : List Bool) → s < found.ecc.head.sectors
    → FlagLayers found was flags → layer ≡ own found s → is_gone_in found was s ≡ true → wanted ≡ false → not (get_or flags layer false) ≡ is_told wanted found was s
unfolding is_lost
belongs_lost found was true s layer flags below are e gone is = absurd (false≢true (sym is))
belongs_lost found was false s layer flags below are e gone is =
    ap not
    (flag_says found was s layer flags below are e
    ∙ sym (mended found was s below ∙ ap (λ b. b && is_restored (answer_to found was (own found s))) gone))
    ∙ sym (ap (λ b. b && not (is_mended (said found was) (answer_to found was) s)) gone)

pub belongs_not : (found : Found) (was : Sources found) (wanted : Bool) (s : ℕ) (result : Bool) → s < found.ecc.head.sectors
    → is_gone_in found was s ≡ false → result ≡ false → result ≡ is_told wanted found was s
unfolding is_lost
belongs_not found was true s result below there e =
    e ∙ sym (mended found was s below ∙ ap (λ b. b && is_restored (answer_to found was (own found s))) there)
belongs_not found was false s result below there e = e ∙ sym (ap (λ b. b && not (is_mended (said found was) (answer_to found was) s)) there)

-- an item of a list doesn't depend on what stands for one that isn't there
pub any_default : (xs : List Bool) (i : ℕ) (d e : Bool) → i < length xs → get_or xs i d ≡ get_or xs i e
any_default [] i d e low = absurd (omega arith)
any_default (x ∷ xs) zero d e low = refl
any_default (x ∷ xs) (suc i) d e low = any_default xs i d e (omega arith)
