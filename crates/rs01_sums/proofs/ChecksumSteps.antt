-- A piece more, and the complement at the end.
use Rattle.std.proofs.Common.{◌≡◌, ℕ, ◌-◌, ◌+◌, ◌*◌, ◌<◌, List, ◌++◌, length, get_or, take, drop, bit_xor, sym, ap, ◌∙◌, arith}
use Rattle.std.proofs.lemmas.List.{get_or-drop, take-append-drop}
use Rattle.rs01_sums.specs.Crc.{after_bytes, after_zeros, crc}
use Rattle.rs01_sums.proofs.ZeroLemmas.{after_bytes-append, two_pieces}

pub next_piece : (rest piece later : List ℕ) (state next all : ℕ) → rest ≡ piece ++ later → next ≡ after_bytes state piece
    → after_bytes state rest ≡ all → after_bytes next later ≡ all
next_piece rest piece later state next all split e held =
    ap (λ s. after_bytes s later) e ∙ sym (after_bytes-append piece later state) ∙ ap (after_bytes state) (sym split) ∙ held

pub complement : (bytes : List ℕ) (last : ℕ) → last ≡ after_bytes 0xFFFFFFFF bytes → 0xFFFFFFFF - last ≡ crc bytes
unfolding crc
complement bytes last e = ap (λ s. 0xFFFFFFFF - s) e

-- a list that is cut in two, from what each part leads to
pub joined : (whole front back : List ℕ) (at n s one other : ℕ) → front ≡ take at whole → back ≡ drop at whole → n ≡ 8 * length back
    → ((k : ℕ) → get_or whole k 0 < 256) → one ≡ after_zeros n (after_bytes s front) → other ≡ after_bytes 0 back
    → bit_xor one other ≡ after_bytes s whole
joined whole front back at n s one other ef eb wide small e f =
    (λ i. bit_xor ((e ∙ ap (λ m. after_zeros m (after_bytes s front)) wide) i) (f i))
    ∙ two_pieces front back s (λ k. let there = ap (λ ys. get_or ys k 0) eb ∙ get_or-drop at whole k 0 in omega (arith, there, small (at + k)))
    ∙ ap (after_bytes s) ((λ i. ef i ++ eb i) ∙ take-append-drop at whole)
