-- Bytes put in front of zeros.
use Rattle.std.proofs.Common.{◌≡◌, ℕ, ◌+◌, ◌-◌, List, [], ◌∷◌, ◌++◌, length, take, drop, refl, sym, ap, subst, ◌∙◌, arith, append_assoc, append-nil}
use Rattle.std.proofs.Math.Seq.{take-append_seam, drop-append-add}
use Rattle.std.proofs.lemmas.List.{drop-replicate}
use Rattle.std.proofs.Math.ListN.{length-append}
use Rattle.std.specs.Prelude.{codes}
use Rattle.std.specs.Int.{to_le_bytes, w32, w64}
use Rattle.rs01_ecchead.specs.Header.{Puts, Fields, head_bytes, front_bytes, number_bytes, end_bytes}
use Rattle.rs01_lists.specs.Bytes.{zeros}
use Rattle.rs01_lists.proofs.Padding.{length-zeros, zeros-add}

-- bytes over the zeros behind a list
pub over_zeros : (before bytes xs : List ℕ) (at left : ℕ) → length before ≡ at → xs ≡ before ++ zeros left
    → take at xs ++ bytes ++ drop (at + length bytes) xs ≡ (before ++ bytes) ++ zeros (left - length bytes)
unfolding zeros
over_zeros before bytes xs at left e z =
    (λ i. take (sym e i) (z i) ++ bytes ++ drop (sym e i + length bytes) (z i))
    ∙ (λ i. take-append_seam before (zeros left) i ++ bytes ++ (drop-append-add before (zeros left) (length bytes) ∙ drop-replicate (length bytes) left 0) i)

-- pieces put at places, one after the other
abbrev AllPut : List (ℕ × List ℕ) → List ℕ → List ℕ → Type 0
AllPut [] old new = new ≡ old
AllPut (piece ∷ rest) old new = (between : List ℕ) × (Puts piece.0 piece.1 old between × AllPut rest between new)

-- each place is where the piece before ends
abbrev Follow : ℕ → List (ℕ × List ℕ) → Type 0
Follow at [] = Unit {0}
Follow at (piece ∷ rest) = (piece.0 ≡ at) × Follow (piece.0 + length piece.1) rest

abbrev all_bytes : List (ℕ × List ℕ) → List ℕ
all_bytes [] = []
all_bytes (piece ∷ rest) = piece.1 ++ all_bytes rest

-- they come behind what stands before
all_put : (pieces : List (ℕ × List ℕ)) (before old new : List ℕ) (left : ℕ) → Follow (length before) pieces → AllPut pieces old new
    → old ≡ before ++ zeros left → new ≡ (before ++ all_bytes pieces) ++ zeros (left - length (all_bytes pieces))
all_put [] before old new left places put held =
    let none : left ≡ left - 0 = omega arith in
    put ∙ held ∙ (λ i. sym (append-nil before) i ++ zeros (none i))
all_put (piece ∷ rest) before old new left places put held =
    let end : piece.0 + length piece.1 ≡ length (before ++ piece.1) = omega (arith, places.0, length-append before piece.1) in
    let less : left - length piece.1 - length (all_bytes rest) ≡ left - length (piece.1 ++ all_bytes rest) = omega (arith, length-append piece.1 (all_bytes rest)) in
    all_put rest (before ++ piece.1) put.0 new (left - length piece.1) (subst (λ (n : ℕ). Follow n rest) end places.1) put.1.1 (put.1.0 before left (sym places.0) held)
    ∙ (λ i. append_assoc before piece.1 (all_bytes rest) i ++ zeros (less i))

-- the twelve pieces of a header, with 20 zeros before the last and zeros behind it
pub header_is : (texts flags fp im bs ns ds rs cs vs ms ls o0 o1 o2 o3 o4 o5 o6 o7 o8 o9 o10 o11 o12 : List ℕ)
    → length texts ≡ 16 → length flags ≡ 4 → length fp ≡ 16 → length im ≡ 16 → length bs ≡ 16 → length ns ≡ 8 → length ds ≡ 4 → length rs ≡ 4
    → length cs ≡ 4 → length vs ≡ 4 → length ms ≡ 4 → length ls ≡ 4 → o0 ≡ zeros 4096
    → Puts 0 texts o0 o1 → Puts 16 flags o1 o2 → Puts 20 fp o2 o3 → Puts 36 im o3 o4 → Puts 52 bs o4 o5 → Puts 68 ns o5 o6 → Puts 76 ds o6 o7
    → Puts 80 rs o7 o8 → Puts 84 cs o8 o9 → Puts 88 vs o9 o10 → Puts 92 ms o10 o11 → Puts 116 ls o11 o12
    → o12 ≡ (texts ++ (flags ++ (fp ++ (im ++ bs)))) ++ ((ns ++ (ds ++ (rs ++ (cs ++ (vs ++ ms))))) ++ (zeros 20 ++ (ls ++ zeros 3976)))
header_is texts flags fp im bs ns ds rs cs vs ms ls o0 o1 o2 o3 o4 o5 o6 o7 o8 o9 o10 o11 o12 l1 l2 l3 l4 l5 l6 l7 l8 l9 l10 l11 l12 z p1 p2 p3 p4 p5 p6 p7 p8 p9 p10 p11 p12 =
    let pieces : List (ℕ × List ℕ) =
    (0, texts) ∷ (16, flags) ∷ (20, fp) ∷ (36, im) ∷ (52, bs) ∷ (68, ns) ∷ (76, ds) ∷ (80, rs) ∷ (84, cs) ∷ (88, vs) ∷ (92, ms) ∷ [] in
    let front = all_bytes pieces in
    let long : length front ≡ 96 = simp length-append (omega arith) in
    let put : o11 ≡ front ++ zeros (4096 - length front) =
    all_put pieces [] o0 o11 4096
    (refl, (omega arith, (omega arith, (omega arith, (omega arith, (omega arith, (omega arith, (omega arith, (omega arith, (omega arith, (omega arith, tt)))))))))))
    (o1, (p1, (o2, (p2, (o3, (p3, (o4, (p4, (o5, (p5, (o6, (p6, (o7, (p7, (o8, (p8, (o9, (p9, (o10, (p10, (o11, (p11, refl)))))))))))))))))))))) z in
    let rest : 4096 - length front ≡ 4000 = omega (arith, long) in
    let gap : o11 ≡ (front ++ zeros 20) ++ zeros 3980 =
    put ∙ ap (λ k. front ++ zeros k) rest ∙ ap (λ xs. front ++ xs) (zeros-add 20 3980) ∙ sym (append_assoc front (zeros 20) (zeros 3980)) in
    let place : length (front ++ zeros 20) ≡ 116 = omega (arith, long, length-append front (zeros 20), length-zeros 20) in
    p12 (front ++ zeros 20) 3980 place gap
    ∙ ap (λ k. ((front ++ zeros 20) ++ ls) ++ zeros (3980 - k)) l12
    ∙ simp (append_assoc, append-nil)

-- the pieces of a header are its bytes
pub pieces_are : (f : Fields) (xs : List ℕ)
    → xs ≡ (codes "*dvdisaster*RS01" ++ (to_le_bytes w32 f.flags ++ (f.fingerprint ++ (f.image_sum ++ f.body_sum))))
    ++ ((to_le_bytes w64 f.sectors ++ (to_le_bytes w32 (255 - f.parity) ++ (to_le_bytes w32 f.parity ++ (to_le_bytes w32 f.creator ++ (to_le_bytes w32 f.needed ++ to_le_bytes w32 f.mark_sector)))))
    ++ (zeros 20 ++ (to_le_bytes w32 f.last_bytes ++ zeros 3976)))
    → xs ≡ head_bytes f
unfolding head_bytes front_bytes number_bytes end_bytes
pieces_are f xs e = e
