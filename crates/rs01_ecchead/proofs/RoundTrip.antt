-- A header is read as it was written.
use Rattle.std.proofs.Common.{◌≡◌, ℕ, ◌+◌, ◌-◌, ◌^◌, ◌<◌, ◌≤◌, List, ◌++◌, length, refl, ap, ◌∙◌, arith, append_assoc}
use Rattle.std.specs.Prelude.{codes, Ok, if◌then◌else◌, ◌==◌}
use Rattle.std.specs.Int.{to_le_bytes, from_le_bytes, w32, w64}
use Rattle.std.proofs.lemmas.Nat.{from_le_bytes-to_le_bytes_4, from_le_bytes-to_le_bytes_8}
use Rattle.rs01_ecchead.specs.Header.{Fields, number_at, wide_number_at, head_bytes, front_bytes, number_bytes, end_bytes, fields_at, head_of, AreFields, ReadsBack}
use Rattle.std.specs.Str.{bytes_eq}
use Rattle.std.proofs.lemmas.Bool.Decides.{nat_tests}
use Rattle.rs01_ecchead.proofs.Accepted.{accepted}
use Rattle.rs01_lists.specs.Bytes.{part, zeros}
use Rattle.rs01_lists.proofs.Padding.{length-zeros}
use Rattle.rs01_lists.proofs.Parts.{first, skip}

-- the 13 pieces of a header, one after the other
pieces : (fl fp im bs ns ds rs cs vs ms ls : List ℕ) → List ℕ
pieces fl fp im bs ns ds rs cs vs ms ls =
    codes "*dvdisaster*RS01" ++ (fl ++ (fp ++ (im ++ (bs ++ (ns ++ (ds ++ (rs ++ (cs ++ (vs ++ (ms ++ (zeros 20 ++ (ls ++ zeros 3976))))))))))))

-- the pieces of these fields
abbrev of_fields : Fields → List ℕ
of_fields f =
    pieces (to_le_bytes w32 f.flags) f.fingerprint f.image_sum f.body_sum (to_le_bytes w64 f.sectors) (to_le_bytes w32 (255 - f.parity)) (to_le_bytes w32 f.parity)
    (to_le_bytes w32 f.creator) (to_le_bytes w32 f.needed) (to_le_bytes w32 f.mark_sector) (to_le_bytes w32 f.last_bytes)

are_pieces : (f : Fields) → head_bytes f ≡ of_fields f
unfolding head_bytes front_bytes number_bytes end_bytes pieces
are_pieces f = simp append_assoc

record Read (b fl fp im bs ns ds rs cs vs ms ls : List ℕ) : Type 0 where
  cookie : part b 0 12 ≡ codes "*dvdisaster*"
  method : part b 12 4 ≡ codes "RS01"
  flags : part b 16 4 ≡ fl
  fingerprint : part b 20 16 ≡ fp
  image : part b 36 16 ≡ im
  body : part b 52 16 ≡ bs
  sectors : part b 68 8 ≡ ns
  data_bytes : part b 76 4 ≡ ds
  parity : part b 80 4 ≡ rs
  creator : part b 84 4 ≡ cs
  needed : part b 88 4 ≡ vs
  mark : part b 92 4 ≡ ms
  last : part b 116 4 ≡ ls

read : (fl fp im bs ns ds rs cs vs ms ls : List ℕ) → length fl ≡ 4 → length fp ≡ 16 → length im ≡ 16 → length bs ≡ 16 → length ns ≡ 8 → length ds ≡ 4
    → length rs ≡ 4 → length cs ≡ 4 → length vs ≡ 4 → length ms ≡ 4 → length ls ≡ 4
    → Read (pieces fl fp im bs ns ds rs cs vs ms ls) fl fp im bs ns ds rs cs vs ms ls
unfolding pieces
read fl fp im bs ns ds rs cs vs ms ls l1 l2 l3 l4 l5 l6 l7 l8 l9 l10 l11 =
    let t12 = ls ++ zeros 3976 in
    let t11 = zeros 20 ++ t12 in
    let t10 = ms ++ t11 in
    let t9 = vs ++ t10 in
    let t8 = cs ++ t9 in
    let t7 = rs ++ t8 in
    let t6 = ds ++ t7 in
    let t5 = ns ++ t6 in
    let t4 = bs ++ t5 in
    let t3 = im ++ t4 in
    let t2 = fp ++ t3 in
    let t1 = fl ++ t2 in
    let s1 : (m n : ℕ) → part (codes "*dvdisaster*RS01" ++ t1) (16 + m) n ≡ part t1 m n = λ m n. skip (codes "*dvdisaster*RS01") t1 16 m n refl in
    let s2 : (m n : ℕ) → part (codes "*dvdisaster*RS01" ++ t1) (16 + (4 + m)) n ≡ part t2 m n = λ m n. s1 (4 + m) n ∙ skip fl t2 4 m n l1 in
    let s3 : (m n : ℕ) → part (codes "*dvdisaster*RS01" ++ t1) (16 + (4 + (16 + m))) n ≡ part t3 m n = λ m n. s2 (16 + m) n ∙ skip fp t3 16 m n l2 in
    let s4 : (m n : ℕ) → part (codes "*dvdisaster*RS01" ++ t1) (16 + (4 + (16 + (16 + m)))) n ≡ part t4 m n = λ m n. s3 (16 + m) n ∙ skip im t4 16 m n l3 in
    let s5 : (m n : ℕ) → part (codes "*dvdisaster*RS01" ++ t1) (16 + (4 + (16 + (16 + (16 + m))))) n ≡ part t5 m n = λ m n. s4 (16 + m) n ∙ skip bs t5 16 m n l4 in
    let s6 : (m n : ℕ) → part (codes "*dvdisaster*RS01" ++ t1) (16 + (4 + (16 + (16 + (16 + (8 + m)))))) n ≡ part t6 m n = λ m n. s5 (8 + m) n ∙ skip ns t6 8 m n l5 in
    let s7 : (m n : ℕ) → part (codes "*dvdisaster*RS01" ++ t1) (16 + (4 + (16 + (16 + (16 + (8 + (4 + m))))))) n ≡ part t7 m n = λ m n. s6 (4 + m) n ∙ skip ds t7 4 m n l6 in
    let s8 : (m n : ℕ) → part (codes "*dvdisaster*RS01" ++ t1) (16 + (4 + (16 + (16 + (16 + (8 + (4 + (4 + m)))))))) n ≡ part t8 m n = λ m n. s7 (4 + m) n ∙ skip rs t8 4 m n l7 in
    let s9 : (m n : ℕ) → part (codes "*dvdisaster*RS01" ++ t1) (16 + (4 + (16 + (16 + (16 + (8 + (4 + (4 + (4 + m))))))))) n ≡ part t9 m n = λ m n. s8 (4 + m) n ∙ skip cs t9 4 m n l8 in
    let s10 : (m n : ℕ) → part (codes "*dvdisaster*RS01" ++ t1) (16 + (4 + (16 + (16 + (16 + (8 + (4 + (4 + (4 + (4 + m)))))))))) n ≡ part t10 m n = λ m n. s9 (4 + m) n ∙ skip vs t10 4 m n l9 in
    record {
      cookie = refl;
      method = refl;
      flags = s1 0 4 ∙ first fl t2 4 l1;
      fingerprint = s2 0 16 ∙ first fp t3 16 l2;
      image = s3 0 16 ∙ first im t4 16 l3;
      body = s4 0 16 ∙ first bs t5 16 l4;
      sectors = s5 0 8 ∙ first ns t6 8 l5;
      data_bytes = s6 0 4 ∙ first ds t7 4 l6;
      parity = s7 0 4 ∙ first rs t8 4 l7;
      creator = s8 0 4 ∙ first cs t9 4 l8;
      needed = s9 0 4 ∙ first vs t10 4 l9;
      mark = s10 0 4 ∙ first ms t11 4 l10;
      last = s10 24 4 ∙ skip ms t11 4 20 4 l10 ∙ skip (zeros 20) t12 20 0 4 (length-zeros 20) ∙ first ls (zeros 3976) 4 l11;
    }

-- a number of 4 bytes, and one of 8
number_is : (b : List ℕ) (at n : ℕ) → n < 2 ^ 32 → part b at 4 ≡ to_le_bytes w32 n → number_at b at ≡ n
number_is b at n fits e = ap (from_le_bytes w32) e ∙ from_le_bytes-to_le_bytes_4 n fits

wide_is : (b : List ℕ) (at n : ℕ) → n < 2 ^ 64 → part b at 8 ≡ to_le_bytes w64 n → wide_number_at b at ≡ n
wide_is b at n fits e = ap (from_le_bytes w64) e ∙ from_le_bytes-to_le_bytes_8 n fits

not_full : (n : ℕ) → 1 ≤ n → (if n == 0 then 2048 else n) ≡ n
not_full n h = grind (arith, nat_tests)

same_fields : (f : Fields) (b : List ℕ) → AreFields f
    → Read b (to_le_bytes w32 f.flags) f.fingerprint f.image_sum f.body_sum (to_le_bytes w64 f.sectors) (to_le_bytes w32 (255 - f.parity)) (to_le_bytes w32 f.parity)
    (to_le_bytes w32 f.creator) (to_le_bytes w32 f.needed) (to_le_bytes w32 f.mark_sector) (to_le_bytes w32 f.last_bytes)
    → fields_at b ≡ f
unfolding fields_at
same_fields f b v r =
    let last : number_at b 116 ≡ f.last_bytes = number_is b 116 f.last_bytes (omega arith) r.last in
    λ i. record {
      flags = number_is b 16 f.flags v.flags r.flags i;
      fingerprint = r.fingerprint i;
      image_sum = r.image i;
      body_sum = r.body i;
      sectors = wide_is b 68 f.sectors (omega arith) r.sectors i;
      parity = number_is b 80 f.parity (omega arith) r.parity i;
      creator = number_is b 84 f.creator v.creator r.creator i;
      needed = number_is b 88 f.needed (omega arith) r.needed i;
      mark_sector = number_is b 92 f.mark_sector v.mark_sector r.mark i;
      last_bytes = (ap (λ (n : ℕ). if n == 0 then 2048 else n) last ∙ not_full f.last_bytes v.some_last) i;
    }

pub reads_back : ReadsBack
unfolding head_of
reads_back f v =
    let b = of_fields f in
    let r = read (to_le_bytes w32 f.flags) f.fingerprint f.image_sum f.body_sum (to_le_bytes w64 f.sectors) (to_le_bytes w32 (255 - f.parity)) (to_le_bytes w32 f.parity)
    (to_le_bytes w32 f.creator) (to_le_bytes w32 f.needed) (to_le_bytes w32 f.mark_sector) (to_le_bytes w32 f.last_bytes)
    refl v.fingerprint v.image_sum v.body_sum refl refl refl refl refl refl refl in
    let needed : number_at b 88 ≡ f.needed = number_is b 88 f.needed (omega arith) r.needed in
    let sectors : wide_number_at b 68 ≡ f.sectors = wide_is b 68 f.sectors (omega arith) r.sectors in
    let data_bytes : number_at b 76 ≡ 255 - f.parity = number_is b 76 (255 - f.parity) (omega arith) r.data_bytes in
    let parity : number_at b 80 ≡ f.parity = number_is b 80 f.parity (omega arith) r.parity in
    let last : number_at b 116 ≡ f.last_bytes = number_is b 116 f.last_bytes (omega arith) r.last in
    ap head_of (are_pieces f)
    ∙ accepted (bytes_eq (part b 0 12) (codes "*dvdisaster*")) (bytes_eq (part b 12 4) (codes "RS01")) _ _ _ _ _ _
    (ap (λ xs. bytes_eq xs (codes "*dvdisaster*")) r.cookie) (ap (λ xs. bytes_eq xs (codes "RS01")) r.method)
    (rw needed v.needed) (rw sectors v.some_sectors) (rw sectors v.few_sectors) (rw parity v.least_parity) (rw parity v.most_parity)
    ((λ i. data_bytes i + parity i) ∙ omega arith) (rw last v.last_fits)
    ∙ ap Ok (same_fields f b v r)
