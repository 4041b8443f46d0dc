-- What looking at an image answers, by what was found.
use Rattle.std.proofs.Common.{subst, ◌≡◌, ℕ, ◌*◌, ◌<◌, ◌≤◌, List, [], length, take, min, refl, sym, ap, ◌∙◌, arith}
use Rattle.std.specs.Prelude.{Option, Some, None, Result, Err}
use Rattle.std.specs.Int.{to_le_bytes, w32}
use Rattle.std.specs.List.{flat_map, range_with_len}
use Rattle.std.specs.Option.{option_map, unwrap_or}
use Rattle.std.proofs.lemmas.List.{take_all}
use Rattle.md5.specs.Md5.{Holds, md5}
use Rattle.rs01_layers.specs.Extents.{IsExtentOf}
use Rattle.rs01_layers.specs.Sectors.{last_of, sector, sectors_of}
use Rattle.rs01_outside.specs.Files.{Files, bytes_of}
use Rattle.rs01_sums.specs.Crc.{crc}
use Rattle.rs01_ecchead.specs.EccFile.{mark_sector_of, sum_bytes}
use Rattle.rs01_ecchead.specs.declared.walk.WalkFault.{WalkFault}
use Rattle.rs01_ecchead.specs.declared.walk.WalkFault.TheVariants as walk
use Rattle.rs01_create.specs.Create.{refusal_of}
use Rattle.rs01_create.specs.Looking.{IsAccepted, IsMeasured, IsPlanOf, Looks, walk_refusal}
use Rattle.rs01_create.specs.Surveyed.{Surveyed, SurveyedBy}
use Rattle.rs01_create.specs.declared.found.Found.{Found}
use Rattle.rs01_create.specs.declared.found.Seen.{Seen}
use Rattle.rs01_create.specs.declared.plan.Plan.{Plan}
use Rattle.rs01_create.specs.declared.refusal.CreateRefusal.{CreateRefusal}
use Rattle.rs01_create.specs.declared.refusal.CreateRefusal.TheVariants.{NoImage, EmptyImage, TooManySectors, Marker, ReadFault, WriteFault, OutOfMemory}
use Rattle.rs01_create.proofs.Refusals.{by_marker, by_size}
use Rattle.rs01_create.proofs.Sectors.{marked_is}
use Rattle.rs01_create.proofs.Surveys.{extent_len}

-- an image that can't be measured
by_measure : (o : Option (List ℕ)) (n r : ℕ) (why : CreateRefusal) → Some n ≡ option_map length o → IsMeasured n r (Err why) → Looks o (Err why)
by_measure o n r NoImage e h = absurd h
by_measure o n r EmptyImage e h = by_size o n EmptyImage e h
by_measure o n r (TooManySectors m) e h = by_size o n (TooManySectors m) e h.0
by_measure o n r (Marker s) e h = absurd h
by_measure o n r ReadFault e h = absurd h
by_measure o n r WriteFault e h = absurd h
by_measure o n r OutOfMemory e h = absurd h

pub measure_many : (n r : ℕ) (why : CreateRefusal) → IsMeasured n r (Err why) → (m : ℕ) → why ≡ TooManySectors m → 16777215 < m
measure_many n r NoImage h m e = absurd h
measure_many n r EmptyImage h m e = cc
measure_many n r (TooManySectors k) h m e = let same : k ≡ m = cc in omega (arith, same, h.1)
measure_many n r (Marker s) h m e = absurd h
measure_many n r ReadFault h m e = absurd h
measure_many n r WriteFault h m e = absurd h
measure_many n r OutOfMemory h m e = absurd h

pub measure_never : (n r : ℕ) (why : CreateRefusal) → IsMeasured n r (Err why) → why ≡ WriteFault → ⊥
measure_never n r NoImage h e = absurd h
measure_never n r EmptyImage h e = cc
measure_never n r (TooManySectors k) h e = cc
measure_never n r (Marker s) h e = absurd h
measure_never n r ReadFault h e = absurd h
measure_never n r WriteFault h e = absurd h
measure_never n r OutOfMemory h e = absurd h

-- bytes that couldn't be read
by_reading : (o : Option (List ℕ)) (why : WalkFault) → Looks o (Err (walk_refusal why))
by_reading o walk.ReadFault = tt
by_reading o walk.OutOfMemory = tt

pub reading_many : (why : WalkFault) (m : ℕ) → walk_refusal why ≡ TooManySectors m → 16777215 < m
reading_many walk.ReadFault m e = cc
reading_many walk.OutOfMemory m e = cc

pub reading_never : (why : WalkFault) → walk_refusal why ≡ WriteFault → ⊥
reading_never walk.ReadFault e = cc
reading_never walk.OutOfMemory e = cc

-- a file that is there
there_is : (o : Option (List ℕ)) (n : ℕ) → Some n ≡ option_map length o → (o ≡ Some (unwrap_or o [])) × (n ≡ length (unwrap_or o []))
there_is None n e = cc
there_is (Some file) n e = (refl, cc)

-- what was seen of the image under a name
pub record IsSeen (file : Option (List ℕ)) (n : ℕ) (plan : Plan) (seen : Seen) : Type 0 where
  pub there : file ≡ Some (unwrap_or file [])
  pub extended : IsExtentOf (unwrap_or file []) plan.extent
  pub surveyed : Surveyed (unwrap_or file []) plan.extent.sectors seen
  pub refusal : refusal_of file ≡ option_map Marker seen.noted.marked

pub seen_under : (f0 f1 : Files) (name : List ℕ) (n r : ℕ) (plan : Plan) (seen : Seen) → Some n ≡ option_map length (f0 name) → f1 ≡ f0 → IsPlanOf n r plan
    → SurveyedBy plan.extent n (bytes_of f1 name) seen → IsSeen (f0 name) n plan seen
seen_under f0 f1 name n r plan seen e still of by =
    let at = there_is (f0 name) n e in
    let image : List ℕ = unwrap_or (f0 name) [] in
    let extended : IsExtentOf image plan.extent =
    record { sectors = of.sectors ∙ ap sectors_of at.1; last = of.last ∙ ap last_of at.1 } in
    let surveyed : Surveyed image plan.extent.sectors seen = subst (λ (f : Files). SurveyedBy plan.extent n (bytes_of f name) seen) still by at.1 extended in
    record {
      there = at.0;
      extended = extended;
      surveyed = surveyed;
      refusal =
          by_marker (f0 name) n image seen.noted.marked e (λ file f l. let g : Some image ≡ Some file = sym at.0 ∙ f in ap (λ (x : Option (List ℕ)). unwrap_or x []) g) of.accepted
          (marked_is image plan.extent.sectors seen.noted.marked extended.sectors (sym surveyed.noted.marked));
    }

sums_whole : (image : List ℕ) (n : ℕ) → n ≡ sectors_of (length image)
    → flat_map (λ s. to_le_bytes w32 (crc (sector image s))) (range_with_len 0 n) ≡ sum_bytes image
unfolding sum_bytes
sums_whole image n e = ap (λ k. flat_map (λ s. to_le_bytes w32 (crc (sector image s))) (range_with_len 0 k)) e

-- its checksums are those of the image
pub summed : (file : Option (List ℕ)) (n : ℕ) (plan : Plan) (seen : Seen) → IsSeen file n plan seen → seen.noted.sums.items ≡ sum_bytes (unwrap_or file [])
summed file n plan seen is = is.surveyed.noted.sums ∙ sums_whole (unwrap_or file []) plan.extent.sectors is.extended.sectors

-- one that isn't marked is accepted
pub accepted : (file : Option (List ℕ)) (n : ℕ) (plan : Plan) (seen : Seen) (found : Found) → IsSeen file n plan seen → seen.noted.marked ≡ None
    → found.plan ≡ plan → found.fingerprint ≡ seen.noted.fingerprint
    → ((m : List ℕ) → Holds seen.hasher m → found.image_sum ≡ md5 m) → IsAccepted file found
accepted file n plan seen found is none same fingerprint digest =
    let image : List ℕ = unwrap_or file [] in
    let all = extent_len image plan.extent is.extended in
    let some : 1 ≤ plan.extent.sectors = plan.extent.some_sectors in
    let fits : plan.extent.last_bytes ≤ 2048 = plan.extent.last_fits in
    let whole : min (2048 * plan.extent.sectors) (length image) ≡ length image = omega (arith, all, some, fits) in
    let marked : mark_sector_of image < plan.extent.sectors = omega (arith, some, is.extended.sectors) in
    record {
      there = is.there;
      accepted = is.refusal ∙ ap (option_map Marker) none;
      found_is = record {
        extended = subst (λ (p : Plan). IsExtentOf image p.extent) (sym same) is.extended;
        image_sum = digest _ is.surveyed.held ∙ ap md5 (ap (λ k. take k image) whole ∙ take_all (length image) image (omega arith));
        fingerprint = fingerprint ∙ is.surveyed.noted.fingerprint marked;
      };
    }

-- the answer that hands a refusal on
pub looks_measured : (o : Option (List ℕ)) (n r : ℕ) (result : Result Found CreateRefusal) (x why : CreateRefusal) → result ≡ Err x → x ≡ why
    → Some n ≡ option_map length o → IsMeasured n r (Err why) → Looks o result
looks_measured o n r result x why is from e h = rw (is, from) (by_measure o n r why e h)

pub looks_read : (o : Option (List ℕ)) (result : Result Found CreateRefusal) (x : CreateRefusal) (why : WalkFault) → result ≡ Err x → x ≡ walk_refusal why
    → Looks o result
looks_read o result x why is from = rw (is, from) (by_reading o why)

pub handed_on : (result : Result Found CreateRefusal) (x why other : CreateRefusal) → result ≡ Err x → x ≡ why → result ≡ Err other → why ≡ other
handed_on result x why other is from e = cc
