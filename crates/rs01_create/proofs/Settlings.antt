-- Putting the parity of a window's layers into the file.
use Rattle.std.proofs.Common.{◌≡◌, ◌≢◌, ℕ, suc, ◌+◌, ◌-◌, ◌*◌, ◌<◌, ◌≤◌, List, [], ◌∷◌, ◌++◌, length, map, take, get_or, refl, sym, ap, subst, ◌∙◌, arith, append_assoc, append-nil, add-one, ⊎_elim, ◌⊎◌, true, false}
use Rattle.std.specs.Prelude.{All, IsSome, IsTrue, Some, slice_get}
use Rattle.std.specs.Global.{Vec}
use Rattle.std.specs.Option.{unwrap_or}
use Rattle.std.specs.List.{flat_map, range_with_len}
use Rattle.std.specs.Int.{to_le_bytes, w32}
use Rattle.std.proofs.Math.Seq.{take-suc}
use Rattle.std.proofs.lemmas.List.{length-append}
use Rattle.std.proofs.lemmas.Option.{get_or_from_slice_get, slice_get_within}
use Rattle.std.proofs.lemmas.List.Concat.{flat_map-append}
use Rattle.std.proofs.lemmas.List.Elements.{All-cons, All-head, All-nil, All-tail}
use Rattle.md5.specs.Md5.{Holds}
use Rattle.rs01_encode.specs.Task.{encoded, parity_of}
use Rattle.rs01_layers.specs.Blocks.{blocks_of}
use Rattle.rs01_layers.specs.Extents.{IsExtentOf}
use Rattle.rs01_layers.specs.Layer.{layer}
use Rattle.rs01_layers.specs.Layout.{parity_offset}
use Rattle.rs01_layers.specs.Outs.{parity_in}
use Rattle.rs01_layers.specs.Sectors.{sector, sectors_of}
use Rattle.rs01_layers.specs.declared.input.LayerInput.{LayerInput}
use Rattle.rs01_layers.specs.declared.task.LayerOut.{LayerOut}
use Rattle.rs01_lists.specs.Bytes.{zeros}
use Rattle.rs01_lists.proofs.Flats.{length-flat}
use Rattle.rs01_lists.proofs.Padding.{length-zeros}
use Rattle.rs01_lists.proofs.Ranges.{range_with_len-append}
use Rattle.rs01_outside.specs.Causes.{Rose}
use Rattle.rs01_outside.specs.DeskState.{DeskState, OnlyChanges}
use Rattle.rs01_outside.specs.Files.{Becomes, Files, SameElsewhere, bytes_of, put_at}
use Rattle.rs01_sums.specs.Crc.{crc}
use Rattle.rs01_workers.specs.Work.{Worked, layers_in}
use Rattle.rs01_ecchead.specs.EccFile.{layer_parity, sum_bytes}
use Rattle.rs01_ecchead.proofs.ReadAgain.{length-layer_parity}
use Rattle.rs01_create.specs.Making.{AtWork, HasBody, HasStopped, IsAhead, IsWorked, Moment, Settles, body_to, moment}
use Rattle.rs01_create.specs.Settling.{AllParity, bytes_in}
use Rattle.rs01_create.specs.Windows.{HoldsLayers}
use Rattle.rs01_create.specs.declared.course.Course.{Course}
use Rattle.rs01_create.specs.declared.course.Faults.{Faults}
use Rattle.rs01_create.specs.declared.plan.Plan.{Plan}
use Rattle.rs01_create.specs.declared.refusal.CreateRefusal.TheVariants.{WriteFault}
use Rattle.rs01_create.proofs.Writes.{put_at-end}

-- encoding gives parity
gives : (input : LayerInput) → bytes_in (encoded input) ≡ parity_of 2048 (blocks_of (255 - input.parity_count) input.data_)
unfolding encoded
gives input = refl

gives_some : (input : LayerInput) → IsSome (parity_in (encoded input))
unfolding encoded
gives_some input = refl

pub all_parity : (inputs : List LayerInput) (outs : List LayerOut) → outs ≡ map encoded inputs → AllParity outs
all_parity inputs outs e = subst AllParity (sym e) (each inputs)
  where
    each : (inputs : List LayerInput) → AllParity (map encoded inputs)
    each [] = All-nil (λ out. IsSome (parity_in out))
    each (i ∷ is) = All-cons (λ out. IsSome (parity_in out)) (encoded i) (map encoded is) (gives_some i) (each is)

-- an input with the blocks of a layer of an image
pub record IsOf (image : List ℕ) (r : ℕ) (input : LayerInput) : Type 0 where
  pub parity : input.parity_count ≡ r
  pub blocks : blocks_of (255 - r) input.data_ ≡ layer image r input.layer

-- its parity is that of the layer
parity_is : (image : List ℕ) (r : ℕ) (input : LayerInput) → IsOf image r input → bytes_in (encoded input) ≡ layer_parity image r input.layer
unfolding parity_of layer_parity
parity_is image r input is = gives input ∙ ap (parity_of 2048) (ap (λ k. blocks_of (255 - k) input.data_) is.parity ∙ is.blocks)

layers_parity : (image : List ℕ) (r : ℕ) (inputs : List LayerInput) → All (IsOf image r) inputs
    → flat_map bytes_in (map encoded inputs) ≡ flat_map (layer_parity image r) (layers_in inputs)
layers_parity image r [] all = refl
layers_parity image r (i ∷ is) all =
    λ k. parity_is image r i (All-head (IsOf image r) i is all) k ++ layers_parity image r is (All-tail (IsOf image r) i is all) k

-- the body grows by the parity of the next layers
body_more : (image : List ℕ) (r first next : ℕ) → first ≤ next
    → body_to image r first ++ flat_map (layer_parity image r) (range_with_len first (next - first)) ≡ body_to image r next
unfolding body_to
body_more image r first next order =
    let parity = layer_parity image r in
    let sum : first + (next - first) ≡ next = omega arith in
    append_assoc (sum_bytes image) (flat_map parity (range_with_len 0 first)) (flat_map parity (range_with_len first (next - first)))
    ∙ ap (λ xs. sum_bytes image ++ xs)
    (sym (flat_map-append parity (range_with_len 0 first) (range_with_len first (next - first)))
    ∙ ap (λ a. flat_map parity (range_with_len 0 first ++ range_with_len a (next - first))) (let e : first ≡ 0 + first = omega arith in e)
    ∙ ap (flat_map parity) (sym (range_with_len-append 0 first (next - first)))
    ∙ ap (λ n. flat_map parity (range_with_len 0 n)) sum)

-- and so long is what stands before them
length-sum_bytes : (image : List ℕ) → length (sum_bytes image) ≡ 4 * sectors_of (length image)
unfolding sum_bytes
length-sum_bytes image = length-flat (λ s. to_le_bytes w32 (crc (sector image s))) 4 (sectors_of (length image)) (λ s h. refl)

length-body_to : (image : List ℕ) (r n : ℕ) → r ≤ 100 → length (body_to image r n) ≡ 4 * sectors_of (length image) + r * 2048 * n
unfolding body_to
length-body_to image r n most =
    length-append (sum_bytes image) (flat_map (layer_parity image r) (range_with_len 0 n))
    ∙ (λ i. length-sum_bytes image i + length-flat (layer_parity image r) (r * 2048) n (λ l h. length-layer_parity image r l most) i)

stands_to : (image : List ℕ) (n r first : ℕ) → r ≤ 100 → n ≡ sectors_of (length image) → length (zeros 4096 ++ body_to image r first) ≡ parity_offset n r first 0
stands_to image n r first most same =
    let z : length (zeros 4096) ≡ 4096 = length-zeros 4096 in
    let b : length (body_to image r first) ≡ 4 * n + r * 2048 * first = length-body_to image r first most ∙ ap (λ k. 4 * k + r * 2048 * first) (sym same) in
    length-append (zeros 4096) (body_to image r first) ∙ omega (arith, z, b)

-- the file once bytes were put at its end
put_behind : (image old bytes : List ℕ) (n r first at : ℕ) → r ≤ 100 → n ≡ sectors_of (length image) → at ≡ parity_offset n r first 0
    → old ≡ zeros 4096 ++ body_to image r first → put_at old at bytes ≡ zeros 4096 ++ (body_to image r first ++ bytes)
put_behind image old bytes n r first at most same place is =
    ap (λ file. put_at file at bytes) is
    ∙ put_at-end (zeros 4096 ++ body_to image r first) bytes at (stands_to image n r first most same ∙ sym place)
    ∙ append_assoc (zeros 4096) (body_to image r first) bytes

-- one more answer
pub outs_more : (outs : List LayerOut) (i : ℕ) (out : LayerOut) (before after : List ℕ) → slice_get outs i ≡ Some out
    → before ≡ flat_map bytes_in (take i outs) → after ≡ before ++ bytes_in out → after ≡ flat_map bytes_in (take (i + 1) outs)
outs_more outs i out before after found held put =
    let there : i < length outs = slice_get_within outs i out found in
    let more : take (suc i) outs ≡ take i outs ++ get_or outs i out ∷ [] = take-suc outs i out there in
    put ∙ (λ k. held k ++ bytes_in (sym (get_or_from_slice_get outs i out out found) k))
    ∙ ap (λ xs. flat_map bytes_in (take i outs) ++ xs) (sym (append-nil (bytes_in (get_or outs i out))))
    ∙ sym (ap (λ n. flat_map bytes_in (take n outs)) (add-one i) ∙ ap (flat_map bytes_in) more
    ∙ flat_map-append bytes_in (take i outs) (get_or outs i out ∷ []))

-- what one write puts behind the body
record Puts (m : Moment) (image : List ℕ) (parity : List ℕ) (at : ℕ) : Type 0 where
  pub image_is : HasBody m image
  pub place : at ≡ parity_offset m.plan.shape.sectors m.plan.shape.parity m.course.first 0
  pub bytes : parity ≡ flat_map (layer_parity image m.plan.shape.parity) (range_with_len m.course.first (m.course.next - m.course.first))

-- where the desk tells, the parity is that of the next layers
puts : (m : Moment) (worked : Worked) (parity : List ℕ) (at : ℕ) → AtWork m → IsWorked m worked → parity ≡ flat_map bytes_in worked.outs
    → at ≡ parity_offset m.plan.shape.sectors m.plan.shape.parity m.course.first 0 → IsTrue m.state.tells → Puts m (bytes_of m.state.files m.image) parity at
puts m worked parity at work is e place t =
    let image = bytes_of m.state.files m.image in
    let r = m.plan.shape.parity in
    let body = work.body t in
    let all : All (IsOf image r) worked.inputs =
    λ k d h. let one = is.fit k d h in record { parity = one.parity; blocks = one.blocks t body.extended } in
    record {
      image_is = body;
      place = place;
      bytes = e ∙ ap (flat_map bytes_in) is.values ∙ layers_parity image r worked.inputs all ∙ ap (flat_map (layer_parity image r)) (sym is.all);
    }

-- the same image stands under its name, once another file was changed
pub same_image : (image ecc : List ℕ) (old new : Files) → image ≢ ecc → SameElsewhere ecc old new → bytes_of new image ≡ bytes_of old image
same_image image ecc old new apart same = ap (λ o. unwrap_or o []) (same image apart)

ahead_still : (image ecc : List ℕ) (old new : DeskState) (plan : Plan) (next : ℕ) (window : List (Vec ℕ)) → image ≢ ecc → OnlyChanges ecc old new false
    → IsAhead old image plan next window → IsAhead new image plan next window
ahead_still image ecc old new plan next window apart changes ahead = record {
  within = ahead.within;
  long = ahead.long;
  blocks = λ t.
      let t0 = subst IsTrue changes.tells t in
      subst (λ file. IsExtentOf file plan.extent → HoldsLayers file plan.shape.parity (next + length window) window)
      (sym (same_image image ecc old.files new.files apart (changes.elsewhere t0))) (ahead.blocks t0);
}

-- the work goes on once the parity stands there
pub settled : (state new : DeskState) (image ecc : List ℕ) (plan : Plan) (kept : Faults) (course after : Course) (worked : Worked) (parity : List ℕ) (at : ℕ)
    → AtWork (moment state image ecc plan kept course) → IsWorked (moment state image ecc plan kept course) worked
    → parity ≡ flat_map bytes_in worked.outs → at ≡ parity_offset plan.shape.sectors plan.shape.parity course.first 0
    → OnlyChanges ecc state new false → (IsTrue state.tells → Becomes ecc (put_at (bytes_of state.files ecc) at parity) state.files new.files)
    → ((m : List ℕ) → Holds course.hasher m → Holds after.hasher (m ++ parity))
    → after.first ≡ course.next → after.next ≡ course.next → after.window.items ≡ course.window.items
    → Settles (moment state image ecc plan kept course) (moment new image ecc plan kept after)
settled state new image ecc plan kept course after worked parity at work is e place changes written fed first next window =
    let m = moment state image ecc plan kept course in
    let r = plan.shape.parity in
    record {
      at_work = record {
        quiet = record { reads = changes.reads ∙ work.quiet.reads; writes = changes.kept refl ∙ work.quiet.writes };
        apart = work.apart;
        ahead =
            subst (IsAhead new image plan after.next) (sym window)
            (subst (λ n. IsAhead new image plan n course.window.items) (sym next) (ahead_still image ecc state new plan course.next course.window.items work.apart changes work.ahead));
        body = λ t.
            let t0 = subst IsTrue changes.tells t in
            let file = bytes_of state.files image in
            let put = puts m worked parity at work is e place t0 in
            let more : body_to file r course.first ++ parity ≡ body_to file r after.first =
            ap (λ xs. body_to file r course.first ++ xs) put.bytes ∙ body_more file r course.first course.next course.order ∙ ap (body_to file r) (sym first) in
            let stands : new.files ecc ≡ Some (zeros 4096 ++ body_to file r after.first) =
            (written t0).there
            ∙ ap Some (put_behind file (bytes_of state.files ecc) parity plan.shape.sectors r course.first at plan.shape.in_range.not_too_much
            (plan.shaped ∙ put.image_is.extended.sectors) place (ap (λ o. unwrap_or o []) put.image_is.there)
            ∙ ap (λ xs. zeros 4096 ++ xs) more) in
            subst (HasBody (moment new image ecc plan kept after)) (sym (same_image image ecc state.files new.files work.apart (changes.elsewhere t0)))
            (record { extended = put.image_is.extended; there = stands; held = subst (Holds after.hasher) more (fed _ put.image_is.held) });
      };
      first = first;
      next = next;
    }

-- it stops where the write failed
pub stopped : (state new : DeskState) (image ecc : List ℕ) (plan : Plan) (kept : Faults) (course : Course) (worked : Worked) (parity : List ℕ) (at : ℕ)
    → AtWork (moment state image ecc plan kept course) → IsWorked (moment state image ecc plan kept course) worked
    → at ≡ parity_offset plan.shape.sectors plan.shape.parity course.first 0
    → OnlyChanges ecc state new true
    → (IsTrue state.tells → (new.files ≡ state.files) ⊎ ((n : ℕ) × Becomes ecc (put_at (bytes_of state.files ecc) at (take n parity)) state.files new.files))
    → HasStopped (moment new image ecc plan kept course) WriteFault
stopped state new image ecc plan kept course worked parity at work is place changes written = record {
  of_making = tt;
  counts = record {
    reads_later = omega (arith, changes.reads, work.quiet.reads);
    writes_later = omega (arith, changes.later, work.quiet.writes);
    read_rose = λ h. cc;
    read_kept = λ h. changes.reads ∙ work.quiet.reads;
    write_rose = λ h. subst (λ n. Rose n new.write_faults) work.quiet.writes (changes.rose h);
    write_kept = λ h. cc;
  };
  headless = λ t.
      let t0 = subst IsTrue changes.tells t in
      let body = work.body t0 in
      let file = bytes_of state.files image in
      let before = body_to file plan.shape.parity course.first in
      ⊎_elim
      (λ same. (before, ap (λ (f : Files). f ecc) same ∙ body.there))
      (λ (n, b). (
        before ++ take n parity,
        b.there
            ∙ ap Some (put_behind file (bytes_of state.files ecc) (take n parity) plan.shape.sectors plan.shape.parity course.first at plan.shape.in_range.not_too_much
            (plan.shaped ∙ body.extended.sectors) place (ap (λ o. unwrap_or o []) body.there)),
      ))
      (written t0);
}
