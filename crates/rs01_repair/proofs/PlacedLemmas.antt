-- Looking for the block of a place in a list.
use Rattle.std.proofs.Common.{◌≡◌, ℕ, ◌+◌, ◌<◌, ◌≤◌, List, ◌∷◌, length, drop, get_or, sym, ap, ◌∙◌, eqb}
use Rattle.std.specs.Prelude.{find, Some, None}
use Rattle.std.specs.Option.{option_map}
use Rattle.std.proofs.lemmas.Bool.{eq-eqb, ne_eqb, cond-true, cond-false}
use Rattle.std.proofs.lemmas.List.{at_drop_more, at_drop_all}
use Rattle.rs01_layers.specs.declared.lists.Placed.{Placed}
use Rattle.rs01_repair.specs.Restored.{block_of}

pub first_has_place : (item : Placed) (rest : List Placed) (p : ℕ) → item.place ≡ p → block_of (item ∷ rest) p ≡ Some item.block
first_has_place item rest p e =
    ap (option_map (λ (found : Placed). found.block)) (cond-true (eqb item.place p) (Some item) (find (λ (i : Placed). eqb i.place p) rest) (eq-eqb item.place p e))

pub first_has_another : (item : Placed) (rest : List Placed) (p : ℕ) → (item.place ≡ p → ⊥) → block_of (item ∷ rest) p ≡ block_of rest p
first_has_another item rest p ne =
    ap (option_map (λ (found : Placed). found.block)) (cond-false (eqb item.place p) (Some item) (find (λ (i : Placed). eqb i.place p) rest) (ne_eqb item.place p ne))

pub found_here : (blocks : List Placed) (i p : ℕ) (item : Placed) → i < length blocks → item ≡ get_or blocks i item → item.place ≡ p
    → block_of (drop i blocks) p ≡ block_of blocks p → Some item.block ≡ block_of blocks p
found_here blocks i p item below is e held =
    sym (at_drop_more (λ all. block_of all p) blocks i item below
    ∙ (λ k. block_of (sym is k ∷ drop (i + 1) blocks) p)
    ∙ first_has_place item (drop (i + 1) blocks) p e)
    ∙ held

pub not_here : (blocks : List Placed) (i p : ℕ) (item : Placed) → i < length blocks → item ≡ get_or blocks i item → (item.place ≡ p → ⊥)
    → block_of (drop i blocks) p ≡ block_of blocks p → block_of (drop (i + 1) blocks) p ≡ block_of blocks p
not_here blocks i p item below is ne held =
    sym (at_drop_more (λ all. block_of all p) blocks i item below
    ∙ (λ k. block_of (sym is k ∷ drop (i + 1) blocks) p)
    ∙ first_has_another item (drop (i + 1) blocks) p ne)
    ∙ held

pub nowhere : (blocks : List Placed) (i p : ℕ) → length blocks ≤ i → block_of (drop i blocks) p ≡ block_of blocks p → None ≡ block_of blocks p
nowhere blocks i p past held = sym (at_drop_all (λ all. block_of all p) blocks i past) ∙ held
