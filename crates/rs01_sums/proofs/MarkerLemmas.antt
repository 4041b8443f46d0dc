-- A marker is a block, and tells its sector.
use Rattle.std.proofs.Common.{◌≡◌, ℕ, zero, suc, ◌+◌, ◌-◌, ◌*◌, ◌/◌, ◌%◌, ◌^◌, ◌<◌, [], ◌∷◌, ◌++◌, length, get_or, refl, sym, ap, ◌∙◌, arith, length-append}
use Rattle.std.proofs.lemmas.List.{append_cancel_left, append_cancel_right, length_push, same_from_push}
use Rattle.std.proofs.Math.Nat.{pow-suc}
use Rattle.std.specs.Prelude.{codes}
use Rattle.rs01_lists.specs.Bytes.{padded, zeros}
use Rattle.rs01_lists.proofs.Padding.{length-padded}
use Rattle.rs01_sums.specs.Marker.{digits, marker_text, marker}
use Rattle.rs01_sums.specs.Telling.{MarkerIsABlock, MarkerTellsSector}

pub length-digits : (n v : ℕ) → length (digits n v) ≡ n
unfolding digits
length-digits zero v = refl
length-digits (suc n) v =
    let more = length_push (digits n (v / 10)) (48 + v % 10) in
    let rest = length-digits n (v / 10) in
    omega arith

pub length-marker_text : (s : ℕ) → length (marker_text s) ≡ 31
unfolding marker_text
length-marker_text s =
    let text = length-append (codes "rs01 missing sector ") (digits 10 s ++ 10 ∷ []) in
    let tens = length_push (digits 10 s) 10 in
    let ten = length-digits 10 s in
    omega arith

pub length-marker : MarkerIsABlock
unfolding marker
length-marker s = length-padded 2048 (marker_text s) (let e = length-marker_text s in omega arith)

-- a marker begins with a letter
pub first_of_marker : (s : ℕ) → get_or (marker s) 0 0 ≡ 114
unfolding marker marker_text padded
first_of_marker s = refl

-- numbers of at most n digits with the same digits are the same
same_digits : (n s t : ℕ) → s < 10 ^ n → t < 10 ^ n → digits n s ≡ digits n t → s ≡ t
unfolding digits
same_digits zero s t hs ht e = omega arith
same_digits (suc n) s t hs ht e =
    let parts = same_from_push (digits n (s / 10)) (digits n (t / 10)) (48 + s % 10) (48 + t % 10) e in
    let power : 10 ^ suc n ≡ 10 ^ n * 10 = rw pow-suc in
    let high = same_digits n (s / 10) (t / 10) (omega arith) (omega arith) parts.0 in
    let low = parts.1 in
    omega arith

same_texts : (s t : ℕ) → marker s ≡ marker t → marker_text s ≡ marker_text t
unfolding marker padded
same_texts s t e =
    append_cancel_right (marker_text s) (marker_text t) (zeros (2048 - length (marker_text s)))
    (e ∙ ap (λ n. marker_text t ++ zeros (2048 - n)) (length-marker_text t ∙ sym (length-marker_text s)))

pub marker_tells_sector : MarkerTellsSector
unfolding marker_text
marker_tells_sector s t hs ht e =
    same_digits 10 s t hs ht
    (append_cancel_right (digits 10 s) (digits 10 t) (10 ∷ [])
    (append_cancel_left (codes "rs01 missing sector ") (digits 10 s ++ 10 ∷ []) (digits 10 t ++ 10 ∷ []) (same_texts s t e)))
