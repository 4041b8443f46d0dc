-- What the cut of the bytes past the image leaves.
use Rattle.std.proofs.Common.{◌≡◌, ℕ, ◌<◌, List, length, take, refl, sym, ap, ◌∙◌, subst, arith, ◌⊎◌, ⊎_elim, Bool, true, false, inr, inl, get_or}
use Rattle.std.specs.Prelude.{Option, Some, nat_lt, ◌&&◌, min}
use Rattle.std.specs.Option.{option_map}
use Rattle.std.proofs.lemmas.Bool.{cases_lt}
use Rattle.std.proofs.lemmas.List.{get_or-take, length-take}
use Rattle.rs01_layers.specs.declared.task.LayerOut.{LayerOut}
use Rattle.rs01_outside.specs.Files.{Files, Shortens}
use Rattle.rs01_ecchead.specs.Opened.{Opened}
use Rattle.rs01_ecchead.specs.Erased.{known_by, image_len}
use Rattle.rs01_fix.specs.Between.{IsBetween}
use Rattle.rs01_fix.specs.Progress.{IsOnTheWay}
use Rattle.rs01_fix.specs.Repair.{HaveBlocks, fixed_by}
use Rattle.rs01_fix.proofs.FixedLemmas.{IsImage, fixed_cut, nothing_to_cut, length-fixed_by, surplus_stays}
use Rattle.rs01_repair.proofs.CorrectLemmas.{both_parts}
use Rattle.rs01_fix.proofs.StandLemmas.{there_ends}

cut_set : (cut : Bool) (b : Bool) → (cut && b) ≡ true → cut ≡ true
cut_set cut b e = (both_parts cut b e).0

-- the file was cut to the image's length
pub cut_done : (c : Opened) (y : List ℕ) (answers : ℕ → LayerOut) (cut : Bool) (old new : Files) (name : List ℕ) (len : ℕ)
    → IsImage c → HaveBlocks c y answers → len ≡ image_len (known_by c) → (cut && nat_lt (image_len (known_by c)) (length y)) ≡ true
    → old name ≡ Some (fixed_by c y answers false) → Shortens old new name len → new name ≡ Some (fixed_by c y answers cut)
cut_done c y answers cut old new name len is blocks e wanted start shorter =
    shorter.kept ∙ (λ i. option_map (take (e i)) (start i)) ∙ ap Some (fixed_cut c y answers is blocks)
    ∙ ap (λ b. Some (fixed_by c y answers b)) (sym (cut_set cut (nat_lt (image_len (known_by c)) (length y)) wanted))

-- nothing is cut
pub not_cut : (c : Opened) (y : List ℕ) (answers : ℕ → LayerOut) (cut : Bool) → (cut && nat_lt (image_len (known_by c)) (length y)) ≡ false
    → fixed_by c y answers false ≡ fixed_by c y answers cut
not_cut c y answers true e = nothing_to_cut c y answers true (there_ends (image_len (known_by c)) (length y) e)
not_cut c y answers false e = refl

-- the fixed file itself is on the way, and so is the one whose surplus isn't cut yet
pub fixed_between : (y fixed : List ℕ) → IsBetween y fixed fixed
fixed_between y fixed = record {
  not_shorter = omega arith;
  not_longer = omega arith;
  below = λ k inside l. inr (inside, refl);
  past = λ k inside l. inl refl;
}

pub fixed_on_the_way : (c : Opened) (y : List ℕ) (answers : ℕ → LayerOut) (cut made : Bool) (o : Option (List ℕ)) → IsImage c → HaveBlocks c y answers
    → o ≡ Some (fixed_by c y answers made) → made ≡ cut → IsOnTheWay c y answers cut o
fixed_on_the_way c y answers cut made o is blocks e same =
    subst (λ (o : Option (List ℕ)). IsOnTheWay c y answers cut o) (sym (e ∙ ap (λ b. Some (fixed_by c y answers b)) same))
    (fixed_between y (fixed_by c y answers cut))

-- the fixed file whose surplus isn't cut yet
uncut_between : (c : Opened) (y : List ℕ) (answers : ℕ → LayerOut) → IsImage c → HaveBlocks c y answers
    → IsBetween y (fixed_by c y answers true) (fixed_by c y answers false)
uncut_between c y answers is blocks =
    let whole : List ℕ = fixed_by c y answers false in
    let short : List ℕ = fixed_by c y answers true in
    let len : ℕ = image_len (known_by c) in
    let cut = fixed_cut c y answers is blocks in
    let long = length-fixed_by c y answers is blocks in
    let width : length short ≡ min len (length whole) = sym (ap length cut) ∙ length-take len whole in
    let byte : (k : ℕ) → k < len → get_or whole k 0 ≡ get_or short k 0 =
    λ k inside. sym (get_or-take len whole k 0 inside) ∙ ap (λ xs. get_or xs k 0) cut in
    record {
      not_shorter = omega arith;
      not_longer = omega arith;
      below = λ k inside l. ⊎_elim (λ image. inr (let fits : k < length short = omega arith in fits, byte k image)) (λ past. inl (surplus_stays c y answers is blocks k past)) (cases_lt k len);
      past = λ k inside l. inl (byte k (let image : k < len = omega arith in image));
    }

-- a failed cut leaves the one or the other
pub cut_left : (c : Opened) (y : List ℕ) (answers : ℕ → LayerOut) (cut : Bool) (old new : Files) (name : List ℕ) (len : ℕ)
    → IsImage c → HaveBlocks c y answers → len ≡ image_len (known_by c) → (cut && nat_lt (image_len (known_by c)) (length y)) ≡ true
    → old name ≡ Some (fixed_by c y answers false) → (new ≡ old) ⊎ Shortens old new name len → IsOnTheWay c y answers cut (new name)
cut_left c y answers cut old new name len is blocks e wanted start =
    ⊎_elim
    (λ same.
    let set = cut_set cut (nat_lt (image_len (known_by c)) (length y)) wanted in
    subst (λ (o : Option (List ℕ)). IsOnTheWay c y answers cut o) (sym (ap (λ (f : Files). f name) same ∙ start))
    (subst (λ (b : Bool). IsBetween y (fixed_by c y answers b) (fixed_by c y answers false)) (sym set) (uncut_between c y answers is blocks)))
    (λ shorter. fixed_on_the_way c y answers cut cut (new name) is blocks (cut_done c y answers cut old new name len is blocks e wanted start shorter) (λ i. cut))

-- the file whose surplus isn't cut yet is on the way
pub uncut_on_the_way : (c : Opened) (y : List ℕ) (answers : ℕ → LayerOut) (cut : Bool) (o : Option (List ℕ)) → IsImage c → HaveBlocks c y answers
    → o ≡ Some (fixed_by c y answers false) → IsOnTheWay c y answers cut o
uncut_on_the_way c y answers true o is blocks e = subst (λ (o : Option (List ℕ)). IsOnTheWay c y answers true o) (sym e) (uncut_between c y answers is blocks)
uncut_on_the_way c y answers false o is blocks e = fixed_on_the_way c y answers false false o is blocks e refl
