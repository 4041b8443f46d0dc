-- What writing a sector leaves of an image file.
use Rattle.std.proofs.Common.{inl, inr, ◌≡◌, ℕ, ◌+◌, ◌-◌, ◌*◌, ◌<◌, ◌≤◌, ⊎_elim, List, [], length, take, drop, get_or, min, sym, ap, subst, ◌∙◌, arith, eqb}
use Rattle.std.specs.Prelude.{◌⊎◌, ◌≢◌, Option, Result, Ok, Err}
use Rattle.std.specs.Option.{unwrap_or}
use Rattle.std.proofs.lemmas.Bool.{cases_eq, cases_lt, cond-true, cond-false, eq-eqb, ne_eqb}
use Rattle.std.proofs.lemmas.List.{ext_get_or, get_or_past, get_or-drop, get_or-take, length-drop, length-take, take_all}
use Rattle.rs01_lists.specs.Bytes.{part}
use Rattle.rs01_layers.specs.Sectors.{length_of}
use Rattle.rs01_outside.specs.Files.{Files, WritesAt, bytes_of, put_at}
use Rattle.rs01_outside.proofs.PutLemmas.{length-put_at, put_at-before, put_at-behind, put_at-inside}
use Rattle.rs01_turns.specs.Leads.{IsBlend}

-- parts by their bytes

length-part : (xs : List ℕ) (p n : ℕ) → length (part xs p n) ≡ min n (length xs - p)
length-part xs p n = length-take n (drop p xs) ∙ ap (min n) (length-drop p xs)

get_or-part : (xs : List ℕ) (p n i : ℕ) → i < n → get_or (part xs p n) i 0 ≡ get_or xs (p + i) 0
get_or-part xs p n i low = get_or-take n (drop p xs) i 0 low ∙ get_or-drop p xs i 0

-- some bytes lie over those at a place, and the others are as before
pub record LiesOver (old new : List ℕ) (at : ℕ) (bytes : List ℕ) : Type 0 where
  pub len : length new ≡ length old
  pub inside : (i : ℕ) → i < length bytes → get_or new (at + i) 0 ≡ get_or bytes i 0
  pub outside : (k : ℕ) → (k < at) ⊎ (at + length bytes ≤ k) → get_or new k 0 ≡ get_or old k 0

pub nothing-over : (old new : List ℕ) (at : ℕ) → new ≡ old → LiesOver old new at []
nothing-over old new at same = record {
  len = ap length same;
  inside = λ i low. absurd (omega (arith, low));
  outside = λ k where_is. ap (λ (xs : List ℕ). get_or xs k 0) same;
}

put-over : (old bytes : List ℕ) (at : ℕ) → at + length bytes ≤ length old → LiesOver old (put_at old at bytes) at bytes
put-over old bytes at fits = record {
  len = omega (arith, fits, length-put_at old bytes at);
  inside = λ i low. put_at-inside old bytes at i low;
  outside = λ k where_is. ⊎_elim (λ before. put_at-before old bytes at k before) (λ behind. put_at-behind old bytes at k behind) where_is;
}

-- a part that the bytes don't touch
pub part-outside : (old new : List ℕ) (at : ℕ) (bytes : List ℕ) (p n : ℕ) → LiesOver old new at bytes → (p + n ≤ at) ⊎ (at + length bytes ≤ p) → part new p n ≡ part old p n
part-outside old new at bytes p n over apart =
    ext_get_or 0 (part new p n) (part old p n)
    (length-part new p n ∙ ap (λ (m : ℕ). min n (m - p)) over.len ∙ sym (length-part old p n))
    (λ i below.
    let low : i < n = omega (arith, below, length-part new p n) in
    get_or-part new p n i low
    ∙ over.outside (p + i) (⊎_elim (λ (before : p + n ≤ at). inl (omega (arith, before, low))) (λ (behind : at + length bytes ≤ p). inr (omega (arith, behind))) apart)
    ∙ sym (get_or-part old p n i low))

pub drop-outside : (old new : List ℕ) (at : ℕ) (bytes : List ℕ) (p : ℕ) → LiesOver old new at bytes → at + length bytes ≤ p → drop p new ≡ drop p old
drop-outside old new at bytes p over behind =
    ext_get_or 0 (drop p new) (drop p old)
    (length-drop p new ∙ ap (λ (m : ℕ). m - p) over.len ∙ sym (length-drop p old))
    (λ i below. get_or-drop p new i 0 ∙ over.outside (p + i) (inr (omega (arith, behind))) ∙ sym (get_or-drop p old i 0))

-- the part that they are
pub part-here : (old new : List ℕ) (at : ℕ) (bytes : List ℕ) (n : ℕ) → LiesOver old new at bytes → length bytes ≡ n → at + n ≤ length old → part new at n ≡ bytes
part-here old new at bytes n over long fits =
    ext_get_or 0 (part new at n) bytes
    (omega (arith, length-part new at n, over.len, long, fits))
    (λ i below.
    let low : i < n = omega (arith, below, length-part new at n) in
    get_or-part new at n i low ∙ over.inside i (omega (arith, low, long)))

-- the part of which they are the first ones
pub part-blend : (old new : List ℕ) (at : ℕ) (bytes : List ℕ) (kept n : ℕ) → LiesOver old new at (take kept bytes) → length bytes ≤ n → IsBlend (part new at n) (part old at n) bytes
part-blend old new at bytes kept n over few i = ⊎_elim
    (λ (low : i < n). ⊎_elim
    (λ (in_ : i < length (take kept bytes)). inr (
    get_or-part new at n i low ∙ over.inside i in_ ∙ get_or-take kept bytes i 0 (omega (arith, in_, length-take kept bytes))
    ))
    (λ (out : length (take kept bytes) ≤ i). inl (
    get_or-part new at n i low ∙ over.outside (at + i) (inr (omega (arith, out))) ∙ sym (get_or-part old at n i low)
    ))
    (cases_lt i (length (take kept bytes))))
    (λ (past : n ≤ i). inl (
    get_or_past (part new at n) i 0 (omega (arith, past, length-part new at n)) ∙ sym (get_or_past (part old at n) i 0 (omega (arith, past, length-part old at n)))
    ))
    (cases_lt i n)

-- a write of bytes for which there is room: some first of them lie over the old ones, and all where it succeeded
pub record WroteOver {E : Type 0} (old new bytes : List ℕ) (at : ℕ) (written : Result Unit E) : Type 0 where
  pub kept : ℕ
  pub over : LiesOver old new at (take kept bytes)
  pub all : (u : Unit) → written ≡ Ok u → take kept bytes ≡ bytes

no-error : {E : Type 0} (e : E) (u : Unit {0}) → ◌≡◌ {A = Result Unit E} (Err e) (Ok u) → ⊥
no-error e u h = cc

pub wrote-over : {E : Type 0} (old new : Files) (name bytes : List ℕ) (at : ℕ) (written : Result Unit E) → at + length bytes ≤ length (bytes_of old name)
    → WritesAt old new name at bytes written → WroteOver (bytes_of old name) (bytes_of new name) bytes at written
wrote-over old new name bytes at (Ok u) fits wrote =
    let whole : take (length bytes) bytes ≡ bytes = take_all (length bytes) bytes (omega arith) in
    let is : bytes_of new name ≡ put_at (bytes_of old name) at bytes = ap (λ (o : Option (List ℕ)). unwrap_or o []) wrote.there in
    record {
      kept = length bytes;
      over = subst (λ (b : List ℕ). LiesOver (bytes_of old name) (bytes_of new name) at b) (sym whole)
          (subst (λ (y : List ℕ). LiesOver (bytes_of old name) y at bytes) (sym is) (put-over (bytes_of old name) bytes at fits));
      all = λ v e. whole;
    }
wrote-over old new name bytes at (Err e) fits wrote = ⊎_elim
    (λ (same : new ≡ old). record {
      kept = 0;
      over = nothing-over (bytes_of old name) (bytes_of new name) at (ap (λ (files : Files). bytes_of files name) same);
      all = λ v h. absurd (no-error e v h);
    })
    (λ some.
    let is : bytes_of new name ≡ put_at (bytes_of old name) at (take some.0 bytes) = ap (λ (o : Option (List ℕ)). unwrap_or o []) some.1.there in
    record {
      kept = some.0;
      over = subst (λ (y : List ℕ). LiesOver (bytes_of old name) y at (take some.0 bytes)) (sym is)
          (put-over (bytes_of old name) (take some.0 bytes) at (omega (arith, fits, length-take some.0 bytes)));
      all = λ v h. absurd (no-error e v h);
    })
    wrote

-- where sectors lie

pub record IsPlaced (count last s : ℕ) : Type 0 where
  pub most : length_of count last s ≤ 2048
  pub fits : 2048 * s + length_of count last s ≤ 2048 * (count - 1) + last
  pub apart :
      (k : ℕ) → k ≢ s → (2048 * k + length_of count last k ≤ 2048 * s) ⊎ (2048 * s + length_of count last s ≤ 2048 * k)

last-len : (count last s : ℕ) → s + 1 ≡ count → length_of count last s ≡ last
last-len count last s e = cond-true (eqb (s + 1) count) last 2048 (eq-eqb (s + 1) count e)

other-len : (count last s : ℕ) → s + 1 ≢ count → length_of count last s ≡ 2048
other-len count last s d = cond-false (eqb (s + 1) count) last 2048 (ne_eqb (s + 1) count d)

len-most : (count last s : ℕ) → last ≤ 2048 → length_of count last s ≤ 2048
len-most count last s few = ⊎_elim
    (λ e. omega (arith, few, last-len count last s e))
    (λ d. omega (arith, other-len count last s d))
    (cases_eq (s + 1) count)

pub placed : (count last s : ℕ) → last ≤ 2048 → s < count → IsPlaced count last s
placed count last s few there =
    let most = len-most count last s few in
    record {
      most = most;
      fits = ⊎_elim
          (λ (e : s + 1 ≡ count). omega (arith, e, last-len count last s e))
          (λ (d : s + 1 ≢ count). omega (arith, d, there, other-len count last s d))
          (cases_eq (s + 1) count);
      apart = λ k d. ⊎_elim
          (λ (low : k < s). inl (omega (arith, low, there, other-len count last k (λ (e : k + 1 ≡ count). omega (arith, e, low, there)))))
          (λ (high : s ≤ k). inr (omega (arith, high, d, most)))
          (cases_lt k s);
    }
