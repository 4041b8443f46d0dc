-- What is given of a layer of which all places were read.
use Rattle.std.proofs.Common.{◌≡◌, ℕ, ◌+◌, ◌-◌, ◌*◌, ◌≤◌, List, [], length, take, drop, get_or, sym, ap, ◌∙◌, subst, arith}
use Rattle.std.specs.Prelude.{Vec}
use Rattle.std.specs.declared.alloc.Global.{Global}
use Rattle.rs01_layers.specs.Layout.{parity_offset}
use Rattle.rs01_lists.specs.Bytes.{part}
use Rattle.rs01_outside.specs.DeskState.{DeskState}
use Rattle.rs01_outside.specs.Files.{bytes_of}
use Rattle.rs01_layers.specs.Blocks.{blocks_of}
use Rattle.rs01_layers.specs.Sectors.{length_of}
use Rattle.rs01_layers.specs.declared.input.LayerInput.{LayerInput}
use Rattle.rs01_layers.proofs.BlockLemmas.{length-block}
use Rattle.rs01_ecchead.specs.Erased.{block_in, known_of}
use Rattle.rs01_erase.specs.Correcting.{blocks_in}
use Rattle.rs01_repair.specs.Finding.{fields_in, is_erased_now, layers_in, places_in, recorded_in, said_with}
use Rattle.rs01_repair.specs.Given.{GivesNext, HoldsLayers, HoldsThese, IsInputNow, IsOfShape, IsReady}
use Rattle.rs01_repair.specs.declared.batch.Batch.{Batch}
use Rattle.rs01_repair.specs.Inputs.{IsInput, blocks_at, parity_at, sums_at}
use Rattle.rs01_repair.specs.Parts.{IsReadFrom}
use Rattle.rs01_repair.specs.declared.found.Found.{Found}
use Rattle.rs01_repair.specs.declared.part.Part.{Part}
use Rattle.rs01_repair.proofs.InputLemmas.{blocks_cut, flags_are, size_fits}

pub input_now : (found : Found) (e file : List ℕ) (l : ℕ) (read : Part) (input : LayerInput) → input.parity_count ≡ found.ecc.head.parity
    → input.data_ ≡ read.blocks.items → input.erased ≡ read.erased.items → input.sums ≡ sums_at (fields_in found) found.ecc.sums.list l
    → input.parity ≡ parity_at (recorded_in found e) l → IsReadFrom found file l (places_in found) read
    → IsInput (said_with found (recorded_in found e)) (block_in (known_of found.ecc) file) (is_erased_now (known_of found.ecc) found.size file) l input
input_now found e file l read input count data_ erased sums parity from =
    let f = fields_in found in
    let known = known_of found.ecc in
    let block : ℕ → List ℕ = block_in known file in
    let long : (s : ℕ) → length (block s) ≡ 2048 = λ s. length-block file s (length_of known.sectors known.last_bytes s) (size_fits known.sectors known.last_bytes s found.ecc.head.last_fits) in
    let cut : blocks_in input ≡ blocks_at f block l = (λ i. blocks_of (255 - count i) input.data_) ∙ blocks_cut f block input.data_ l long (data_ ∙ from.blocks) in
    record {
      parity_count = count;
      erased = erased ∙ flags_are f (is_erased_now known found.size file) l read.erased.items from.erased;
      blocks = λ p held. ap (λ xs. get_or xs p []) cut;
      sums = λ p e. ap (λ xs. get_or xs p 0) sums;
      parity = parity;
    }

-- a batch of which one more layer was given away
pub these_left : (found : Found) (e file : List ℕ) (batch : Batch) (parts : Vec Part Global) → length parts.items ≡ length batch.parts.items
    → ((j : ℕ) (d : Part) → (j ≡ batch.next - batch.first → ⊥) → get_or parts.items j d ≡ get_or batch.parts.items j d) → batch.first ≤ batch.next
    → HoldsThese found e file batch → HoldsThese found e file (record batch { next = batch.next + 1; parts = parts })
these_left found e file batch parts len others from these = record {
  parity = these.parity ∙ ap (λ (k : ℕ). part e (parity_offset found.ecc.head.sectors found.ecc.head.parity batch.first 0) (2048 * found.ecc.head.parity * k)) (sym len);
  read = λ j d low later. subst (IsReadFrom found file (batch.first + j) (places_in found)) (sym (others j d (λ (e : j ≡ batch.next - batch.first). omega (arith, e, later, from))))
      (these.read j d (omega (arith, len, low)) (omega (arith, later)));
}

-- the next layer of a batch was given
pub gives_next : (found : Found) (image ecc : List ℕ) (state : DeskState) (before batch new : Batch) (input : LayerInput) → IsReady found image ecc state batch → batch.next ≡ before.next
    → input.layer ≡ batch.next → new.next ≡ batch.next + 1 → IsOfShape found input → HoldsLayers found new
    → ((e file : List ℕ) → HoldsThese found e file batch → IsInputNow found e file input) → ((e file : List ℕ) → HoldsThese found e file batch → HoldsThese found e file new)
    → GivesNext found image ecc state before new input
gives_next found image ecc state before batch new input ready same layer next shape held told these = record {
  layer = layer ∙ same;
  next = next ∙ ap (λ k. k + 1) same;
  fits = record { shape = shape; told = λ e has. told e (bytes_of state.files image) (ready.these e has) };
  ready = record { held = held; these = λ e has. these e (bytes_of state.files image) (ready.these e has) };
}

-- a batch of which nothing was read yet
pub ready_new : (found : Found) (image ecc : List ℕ) (state : DeskState) (batch : Batch) (next : ℕ) → batch.next ≡ next → batch.first ≡ next → length batch.parts.items ≡ 0
    → batch.parity.items ≡ [] → next ≤ layers_in found → IsReady found image ecc state batch
ready_new found image ecc state batch next is first parts parity low = record {
  held = record {
    from = omega (arith, is, first);
    up_to = omega (arith, is, first);
    layers = omega (arith, first, parts, low);
    parity = ap length parity ∙ (let e : 0 ≡ 2048 * found.ecc.head.parity * 0 = omega arith in e) ∙ ap (λ k. 2048 * found.ecc.head.parity * k) (sym parts);
    read = λ j d inside later. absurd (omega (arith, inside, parts));
  };
  these = λ e has. record {
    parity = parity ∙ ap (λ k. take k (drop (parity_offset found.ecc.head.sectors found.ecc.head.parity batch.first 0) e)) (let z : 0 ≡ 2048 * found.ecc.head.parity * 0 = omega arith in z)
        ∙ ap (λ k. part e (parity_offset found.ecc.head.sectors found.ecc.head.parity batch.first 0) (2048 * found.ecc.head.parity * k)) (sym parts);
    read = λ j d inside later. absurd (omega (arith, inside, parts));
  };
}
