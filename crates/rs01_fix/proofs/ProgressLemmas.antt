-- How a file comes from the old one to the fixed one, sector by sector.
use Rattle.std.proofs.Common.{◌≡◌, ℕ, ◌+◌, ◌-◌, ◌*◌, ◌/◌, ◌%◌, ◌<◌, ◌≤◌, List, length, take, get_or, refl, sym, ◌∙◌, subst, arith, ◌⊎◌, inl, inr, ⊎_elim}
use Rattle.std.specs.Prelude.{max}
use Rattle.std.proofs.lemmas.Bool.{cases_lt, cases_eq}
use Rattle.std.proofs.lemmas.List.{length-take, get_or_past, get_or-take}
use Rattle.std.proofs.lemmas.Grind.{same_number_lists}
use Rattle.rs01_outside.specs.Files.{put_at}
use Rattle.rs01_fix.specs.Between.{IsBetween}
use Rattle.rs01_fix.specs.Progress.{Holds}
use Rattle.rs01_outside.proofs.PutLemmas.{length-put_at, put_at-inside, put_at-before, put_at-behind}

-- an image of `len` bytes in `count` sectors, which are whole but for the last one
pub record Sizes (count len : ℕ) (size : ℕ → ℕ) : Type 0 where
  pub some : 1 ≤ count
  pub whole : (s : ℕ) → s + 1 < count → size s ≡ 2048
  pub last : (s : ℕ) → s + 1 ≡ count → 2048 * s + size s ≡ len
  pub fits : (s : ℕ) → size s ≤ 2048

-- a sector ends within the image
pub ends_within : (count len : ℕ) (size : ℕ → ℕ) → Sizes count len size → (s : ℕ) → s < count → 2048 * s + size s ≤ len
ends_within count len size sizes s below =
    let some = sizes.some in
    let whole = sizes.last (count - 1) (omega arith) in
    ⊎_elim
    (λ h. let w = sizes.whole s h in omega arith)
    (λ h. let e = sizes.last s (omega arith) in omega arith)
    (cases_lt (s + 1) count)

-- the sector that a byte of the image belongs to
pub record SectorOf (count : ℕ) (size : ℕ → ℕ) (k : ℕ) : Type 0 where
  pub sector : ℕ
  pub place : ℕ
  pub in_image : sector < count
  pub in_sector : place < size sector
  pub is : k ≡ 2048 * sector + place

pub sector_of_byte : (count len : ℕ) (size : ℕ → ℕ) → Sizes count len size → (k : ℕ) → k < len → SectorOf count size k
sector_of_byte count len size sizes k below =
    let some = sizes.some in
    let end = sizes.last (count - 1) (omega arith) in
    let most = sizes.fits (count - 1) in
    let s : ℕ = k / 2048 in
    let low : s < count = omega arith in
    record {
      sector = s;
      place = k % 2048;
      in_image = low;
      in_sector = ⊎_elim
          (λ h. let w = sizes.whole s h in omega arith)
          (λ h. let e = sizes.last s (omega arith) in omega arith)
          (cases_lt (s + 1) count);
      is = omega arith;
    }

-- nothing is done at first
pub holds_start : (count len : ℕ) (size : ℕ → ℕ) (old : List ℕ) (after : ℕ → List ℕ) (Done Ahead : ℕ → Type 0)
    → ((s : ℕ) → Done s → ⊥) → Holds count len size old after Done Ahead old
holds_start count len size old after Done Ahead none = record {
  not_shorter = omega arith;
  not_longer = omega arith;
  done = λ s j h d l. absurd (none s d);
  reached = λ s h d. absurd (none s d);
  ahead = λ s j h a l. refl;
  surplus = λ k h. refl;
}

-- fewer facts about the same file
pub holds_less : (count len : ℕ) (size : ℕ → ℕ) (old : List ℕ) (after : ℕ → List ℕ) (Done Ahead Done' Ahead' : ℕ → Type 0) (file : List ℕ)
    → ((s : ℕ) → s < count → Done' s → Done s) → ((s : ℕ) → s < count → Ahead' s → Ahead s)
    → Holds count len size old after Done Ahead file → Holds count len size old after Done' Ahead' file
holds_less count len size old after Done Ahead Done' Ahead' file d a h = record {
  not_shorter = h.not_shorter;
  not_longer = h.not_longer;
  done = λ s j below is l. h.done s j below (d s below is) l;
  reached = λ s below is. h.reached s below (d s below is);
  ahead = λ s j below is l. h.ahead s j below (a s below is) l;
  surplus = h.surplus;
}

-- one more sector, which stays as it is
pub holds_same : (count len : ℕ) (size : ℕ → ℕ) (old : List ℕ) (after : ℕ → List ℕ) (Done Ahead Done' Ahead' : ℕ → Type 0) (file : List ℕ) (s : ℕ)
    → ((t : ℕ) → t < count → Done' t → Done t ⊎ (t ≡ s)) → ((t : ℕ) → t < count → Ahead' t → Ahead t) → Ahead s
    → 2048 * s + size s ≤ length old → ((j : ℕ) → j < size s → get_or (after s) j 0 ≡ get_or old (2048 * s + j) 0)
    → Holds count len size old after Done Ahead file → Holds count len size old after Done' Ahead' file
holds_same count len size old after Done Ahead Done' Ahead' file s d a here there same h = record {
  not_shorter = h.not_shorter;
  not_longer = h.not_longer;
  done = λ t j below is l.
      ⊎_elim
      (λ done. h.done t j below done l)
      (λ e.
      let l' : j < size s = subst (λ (u : ℕ). j < size u) e l in
      (λ i. get_or file (2048 * e i + j) 0) ∙ h.ahead s j (subst (λ (u : ℕ). u < count) e below) here l' ∙ sym (same j l') ∙ (λ i. get_or (after (sym e i)) j 0))
      (d t below is);
  reached = λ t below is.
      ⊎_elim
      (λ done. h.reached t below done)
      (λ e. let least = h.not_shorter in subst (λ (u : ℕ). 2048 * u + size u ≤ length file) (sym e) (omega arith))
      (d t below is);
  ahead = λ t j below is l. h.ahead t j below (a t below is) l;
  surplus = h.surplus;
}

-- bytes outside those that are put
outside : (file bytes : List ℕ) (s t j : ℕ) → length bytes ≤ 2048 → j < 2048 → (t ≡ s → ⊥)
    → get_or (put_at file (2048 * s) bytes) (2048 * t + j) 0 ≡ get_or file (2048 * t + j) 0
outside file bytes s t j fits inside ne =
    ⊎_elim
    (λ h. put_at-before file bytes (2048 * s) (2048 * t + j) (omega arith))
    (λ h. put_at-behind file bytes (2048 * s) (2048 * t + j) (let more : s + 1 ≤ t = omega arith in omega arith))
    (cases_lt t s)

-- one more sector, whose bytes are put in place
pub holds_put : (count len : ℕ) (size : ℕ → ℕ) (old : List ℕ) (after : ℕ → List ℕ) (Done Ahead Done' Ahead' : ℕ → Type 0) (file : List ℕ) (s : ℕ)
    → Sizes count len size → s < count → length (after s) ≡ 2048
    → ((t : ℕ) → t < count → Done' t → Done t ⊎ (t ≡ s)) → ((t : ℕ) → t < count → Ahead' t → Ahead t × (t ≡ s → ⊥))
    → Holds count len size old after Done Ahead file → Holds count len size old after Done' Ahead' (put_at file (2048 * s) (take (size s) (after s)))
holds_put count len size old after Done Ahead Done' Ahead' file s sizes within whole d a h =
    let b : List ℕ = take (size s) (after s) in
    let fits = sizes.fits s in
    let width : length b ≡ size s = omega (arith, length-take (size s) (after s)) in
    let long = length-put_at file b (2048 * s) in
    let end = ends_within count len size sizes s within in
    let low = h.not_shorter in
    let high = h.not_longer in
    record {
      not_shorter = omega arith;
      not_longer = omega arith;
      done = λ t j below is l.
          let small = sizes.fits t in
          ⊎_elim
          (λ e.
          let l' : j < size s = subst (λ (u : ℕ). j < size u) e l in
          (λ i. get_or (put_at file (2048 * s) b) (2048 * e i + j) 0) ∙ put_at-inside file b (2048 * s) j (omega arith)
          ∙ get_or-take (size s) (after s) j 0 l' ∙ (λ i. get_or (after (sym e i)) j 0))
          (λ ne. outside file b s t j (omega arith) (omega arith) ne ∙ ⊎_elim (λ done. h.done t j below done l) (λ e. absurd (ne e)) (d t below is))
          (cases_eq t s);
      reached = λ t below is.
          ⊎_elim
          (λ done. let r = h.reached t below done in let e : 2048 * t + size t ≤ length (put_at file (2048 * s) b) = omega arith in e)
          (λ e. subst (λ (u : ℕ). 2048 * u + size u ≤ length (put_at file (2048 * s) b)) (sym e) (omega arith))
          (d t below is);
      ahead = λ t j below is l.
          let small = sizes.fits t in
          let apart = a t below is in
          outside file b s t j (omega arith) (omega arith) apart.1 ∙ h.ahead t j below apart.0 l;
      surplus = λ k past. put_at-behind file b (2048 * s) k (omega arith) ∙ h.surplus k past;
    }

-- the fixed file: its sectors are those afterwards, and it isn't shorter than the image
pub record IsFixed (count len : ℕ) (size : ℕ → ℕ) (after : ℕ → List ℕ) (fixed : List ℕ) : Type 0 where
  pub long : len ≤ length fixed
  pub bytes : (s j : ℕ) → s < count → j < size s → get_or fixed (2048 * s + j) 0 ≡ get_or (after s) j 0

pub holds_between : (count len : ℕ) (size : ℕ → ℕ) (old : List ℕ) (after : ℕ → List ℕ) (Done Ahead : ℕ → Type 0) (file fixed : List ℕ)
    → Sizes count len size → IsFixed count len size after fixed → ((s : ℕ) → s < count → Done s ⊎ Ahead s)
    → Holds count len size old after Done Ahead file → IsBetween old fixed file
holds_between count len size old after Done Ahead file fixed sizes is total h =
    let low = h.not_shorter in
    let high = h.not_longer in
    let long = is.long in
    let byte : (k : ℕ) → k < len → (get_or file k 0 ≡ get_or old k 0) ⊎ (get_or file k 0 ≡ get_or fixed k 0) =
    λ k inside.
    let at = sector_of_byte count len size sizes k inside in
    ⊎_elim
    (λ d. inr ((λ i. get_or file (at.is i) 0) ∙ h.done at.sector at.place at.in_image d at.in_sector ∙ sym (is.bytes at.sector at.place at.in_image at.in_sector) ∙ (λ i. get_or fixed (sym at.is i) 0)))
    (λ a. inl ((λ i. get_or file (at.is i) 0) ∙ h.ahead at.sector at.place at.in_image a at.in_sector ∙ (λ i. get_or old (sym at.is i) 0)))
    (total at.sector at.in_image) in
    record {
      not_shorter = omega arith;
      not_longer = omega arith;
      below = λ k inside l.
          ⊎_elim
          (λ image. ⊎_elim (λ e. inl e) (λ e. inr (let fits : k < length fixed = omega arith in fits, e)) (byte k image))
          (λ past. inl (h.surplus k past))
          (cases_lt k len);
      past = λ k inside l.
          let image : k < len = omega arith in
          ⊎_elim (λ e. inr (e ∙ get_or_past old k 0 l)) (λ e. inl e) (byte k image);
    }

-- bytes of the fixed file that are put in place
pub put_between : (old fixed file bytes : List ℕ) (at : ℕ) → length old ≤ length file → at + length bytes ≤ length fixed
    → ((i : ℕ) → i < length bytes → get_or bytes i 0 ≡ get_or fixed (at + i) 0)
    → IsBetween old fixed file → IsBetween old fixed (put_at file at bytes)
put_between old fixed file bytes at low within same h =
    let long = length-put_at file bytes at in
    let high = h.not_longer in
    let byte : (k : ℕ) → (get_or (put_at file at bytes) k 0 ≡ get_or file k 0) ⊎ ((k < length fixed) × (get_or (put_at file at bytes) k 0 ≡ get_or fixed k 0)) =
    λ k.
    ⊎_elim
    (λ before. inl (put_at-before file bytes at k before))
    (λ behind.
    ⊎_elim
    (λ inside.
    let e : k ≡ at + (k - at) = omega arith in
    inr (let fits : k < length fixed = omega arith in fits, (λ i. get_or (put_at file at bytes) (e i) 0) ∙ put_at-inside file bytes at (k - at) (omega arith) ∙ same (k - at) (omega arith) ∙ (λ i. get_or fixed (sym e i) 0)))
    (λ past. inl (put_at-behind file bytes at k past))
    (cases_lt k (at + length bytes)))
    (cases_lt k at) in
    record {
      not_shorter = omega arith;
      not_longer = omega arith;
      below = λ k inside l.
          ⊎_elim
          (λ e. let there : k < length file = omega arith in ⊎_elim (λ f. inl (e ∙ f)) (λ f. inr (f.0, e ∙ f.1)) (h.below k there l))
          (λ e. inr e)
          (byte k);
      past = λ k inside l.
          ⊎_elim
          (λ e. ⊎_elim
          (λ there. ⊎_elim (λ f. inl (e ∙ f)) (λ f. inr (e ∙ f)) (h.past k there l))
          (λ gap. inr (e ∙ get_or_past file k 0 gap))
          (cases_lt k (length file)))
          (λ e. inl e.1)
          (byte k);
    }

-- all is done: the file is the fixed one whose surplus stays
pub holds_end : (count len : ℕ) (size : ℕ → ℕ) (old : List ℕ) (after : ℕ → List ℕ) (Done Ahead : ℕ → Type 0) (file fixed : List ℕ)
    → Sizes count len size → IsFixed count len size after fixed → length fixed ≡ max (length old) len
    → ((k : ℕ) → len ≤ k → get_or fixed k 0 ≡ get_or old k 0) → ((s : ℕ) → s < count → Done s)
    → Holds count len size old after Done Ahead file → file ≡ fixed
holds_end count len size old after Done Ahead file fixed sizes is long surplus all h =
    let some = sizes.some in
    let low = h.not_shorter in
    let high = h.not_longer in
    let last : count - 1 < count = omega arith in
    let to_end = h.reached (count - 1) last (all (count - 1) last) in
    let whole = sizes.last (count - 1) (omega arith) in
    same_number_lists file fixed (omega arith)
    (λ k inside.
    ⊎_elim
    (λ image.
    let at = sector_of_byte count len size sizes k image in
    (λ i. get_or file (at.is i) 0) ∙ h.done at.sector at.place at.in_image (all at.sector at.in_image) at.in_sector ∙ sym (is.bytes at.sector at.place at.in_image at.in_sector) ∙ (λ i. get_or fixed (sym at.is i) 0))
    (λ past. h.surplus k past ∙ sym (surplus k past))
    (cases_lt k len))
