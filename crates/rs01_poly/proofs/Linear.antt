-- Long division and encoding are linear: what they give of a sum is the sum of what they give of each part, and what
-- they give of a multiple is that multiple.
use Rattle.std.proofs.Common.{◌≡◌, ℕ, zero, suc, ◌+◌, ◌-◌, ◌^◌, ◌<◌, ◌≤◌, List, [], ◌∷◌, ◌++◌, length, replicate, refl, sym, ap, ◌∙◌, arith, bit_xor, length-append}
use Rattle.std.proofs.lemmas.List.{length-map, length-replicate}
use Rattle.rs01_gf256.specs.Field.{times}
use Rattle.rs01_gf256.proofs.Laws.{xor_swap, times-xor_left, times-xor_right, times-assoc, times-zero}
use Rattle.rs01_poly.specs.Polynomial.{add_front, scale, remainder}
use Rattle.rs01_poly.specs.Code.{encode, generator, lower}
use Rattle.rs01_poly.proofs.Coefficients.{add_front-nil, length-add_front}
use Rattle.rs01_poly.proofs.Values.{AllBytes, AllBytes-append}
use Rattle.rs01_poly.proofs.CodeLaws.{length-lower}
use Rattle.rs01_poly.proofs.Division.{AllBytes-step, AllBytes-lower, AllBytes-zeros, length-step}

-- f + h times the divisor added to p + q, part by part
add_front-swap : (f h : ℕ) (g p q : List ℕ) → length p ≡ length q
    → add_front (scale (bit_xor f h) g) (add_front p q) ≡ add_front (add_front (scale f g) p) (add_front (scale h g) q)
unfolding add_front
add_front-swap f h [] [] [] e = refl
add_front-swap f h [] [] (y ∷ q) e = absurd (omega arith)
add_front-swap f h [] (x ∷ p) [] e = absurd (omega arith)
add_front-swap f h [] (x ∷ p) (y ∷ q) e = refl
add_front-swap f h (a ∷ g) [] [] e = refl
add_front-swap f h (a ∷ g) [] (y ∷ q) e = absurd (omega arith)
add_front-swap f h (a ∷ g) (x ∷ p) [] e = absurd (omega arith)
add_front-swap f h (a ∷ g) (x ∷ p) (y ∷ q) e =
    let here : bit_xor (times (bit_xor f h) a) (bit_xor x y) ≡ bit_xor (bit_xor (times f a) x) (bit_xor (times h a) y) =
    ap (λ v. bit_xor v (bit_xor x y)) (times-xor_left f h a) ∙ xor_swap (times f a) (times h a) x y in
    (λ i. here i ∷ add_front-swap f h g p q (omega arith) i)

-- what is left of a sum
pub remainder-add_front : (n : ℕ) (g p q : List ℕ) → length p ≡ length q
    → remainder n g (add_front p q) ≡ add_front (remainder n g p) (remainder n g q)
unfolding remainder add_front
remainder-add_front zero g p q e = refl
remainder-add_front (suc n) g [] [] e = refl
remainder-add_front (suc n) g [] (y ∷ q) e = absurd (omega arith)
remainder-add_front (suc n) g (x ∷ p) [] e = absurd (omega arith)
remainder-add_front (suc n) g (x ∷ p) (y ∷ q) e =
    ap (remainder n g) (add_front-swap x y g p q (omega arith))
    ∙ remainder-add_front n g (add_front (scale x g) p) (add_front (scale y g) q) (length-step x g p ∙ (omega arith) ∙ sym (length-step y g q))

-- c times f times the divisor added to c times p
add_front-scale : (c f : ℕ) (g p : List ℕ) → c < 2 ^ 8 → f < 2 ^ 8 → AllBytes g
    → add_front (scale (times c f) g) (scale c p) ≡ scale c (add_front (scale f g) p)
unfolding add_front
add_front-scale c f [] p hc hf hg = add_front-nil (scale c p) ∙ ap (scale c) (sym (add_front-nil p))
add_front-scale c f (a ∷ g) [] hc hf hg = refl
add_front-scale c f (a ∷ g) (x ∷ p) hc hf hg =
    let here : bit_xor (times (times c f) a) (times c x) ≡ times c (bit_xor (times f a) x) =
    ap (λ v. bit_xor v (times c x)) (times-assoc c f a hc hf (hg 0)) ∙ sym (times-xor_right c (times f a) x) in
    (λ i. here i ∷ add_front-scale c f g p hc hf (λ k. hg (suc k)) i)

-- what is left of a multiple
pub remainder-scale : (n c : ℕ) (g p : List ℕ) → c < 2 ^ 8 → AllBytes g → AllBytes p → length g + n ≤ length p
    → remainder n g (scale c p) ≡ scale c (remainder n g p)
unfolding remainder
remainder-scale zero c g p hc hg hp h = refl
remainder-scale (suc n) c g [] hc hg hp h = refl
remainder-scale (suc n) c g (f ∷ p) hc hg hp h =
    ap (remainder n g) (add_front-scale c f g p hc (hp 0) hg)
    ∙ remainder-scale n c g (add_front (scale f g) p) hc hg (AllBytes-step f g p hg hp (omega arith)) (omega (arith, length-step f g p))

-- a sum with zeros after it is the sum of both with zeros after them
add_front-ended : (p q : List ℕ) (n : ℕ) → length p ≡ length q
    → add_front p q ++ replicate n 0 ≡ add_front (p ++ replicate n 0) (q ++ replicate n 0)
unfolding add_front
add_front-ended [] [] zero e = refl
add_front-ended [] [] (suc n) e = (λ i. 0 ∷ add_front-ended [] [] n refl i)
add_front-ended [] (y ∷ q) n e = absurd (omega arith)
add_front-ended (x ∷ p) [] n e = absurd (omega arith)
add_front-ended (x ∷ p) (y ∷ q) n e = ap (λ z. bit_xor x y ∷ z) (add_front-ended p q n (omega arith))

pub scale-zeros : (c n : ℕ) → scale c (replicate n 0) ≡ replicate n 0
scale-zeros c zero = refl
scale-zeros c (suc n) = (λ i. times-zero c i ∷ scale-zeros c n i)

-- a multiple with zeros after it is the multiple of the whole
scale-ended : (c : ℕ) (p : List ℕ) (n : ℕ) → scale c p ++ replicate n 0 ≡ scale c (p ++ replicate n 0)
scale-ended c [] n = sym (scale-zeros c n)
scale-ended c (x ∷ p) n = ap (λ z. times c x ∷ z) (scale-ended c p n)

-- the encoding of data whose number of bytes is n
encode-at : (n : ℕ) (d : List ℕ) → length d ≡ n
    → encode d ≡ remainder n (lower (generator (255 - n))) (d ++ replicate (255 - n) 0)
unfolding encode
encode-at n d e = ap (λ m. remainder m (lower (generator (255 - m))) (d ++ replicate (255 - m) 0)) e

length-ended : (d : List ℕ) (n : ℕ) → length (d ++ replicate n 0) ≡ length d + n
length-ended d n = length-append d (replicate n 0) ∙ ap (λ m. length d + m) (length-replicate n 0)

-- the encoding of a sum is the sum of the encodings
pub encode-add_front : (p q : List ℕ) → length p ≡ length q → encode (add_front p q) ≡ add_front (encode p) (encode q)
encode-add_front p q e =
    let n = length q in
    let r = 255 - n in
    let low : List ℕ = lower (generator r) in
    encode-at n (add_front p q) (length-add_front p q)
    ∙ ap (remainder n low) (add_front-ended p q r e)
    ∙ remainder-add_front n low (p ++ replicate r 0) (q ++ replicate r 0)
    (length-ended p r ∙ ap (λ m. m + r) e ∙ sym (length-ended q r))
    ∙ (λ i. add_front (sym (encode-at n p e) i) (sym (encode-at n q refl) i))

-- the encoding of a multiple is that multiple of the encoding
pub encode-scale : (c : ℕ) (p : List ℕ) → c < 2 ^ 8 → AllBytes p → encode (scale c p) ≡ scale c (encode p)
encode-scale c p hc hp =
    let n = length p in
    let r = 255 - n in
    let low : List ℕ = lower (generator r) in
    encode-at n (scale c p) (length-map p (times c))
    ∙ ap (remainder n low) (scale-ended c p r)
    ∙ remainder-scale n c low (p ++ replicate r 0) hc (AllBytes-lower r) (AllBytes-append p (replicate r 0) hp (AllBytes-zeros r))
    (omega (arith, length-ended p r, length-lower r))
    ∙ ap (scale c) (sym (encode-at n p refl))
