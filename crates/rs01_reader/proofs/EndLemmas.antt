-- What was given goes on to fit, and what is given next fits.
use Rattle.std.proofs.Common.{◌≡◌, ℕ, ◌-◌, ◌%◌, ◌<◌, ◌≤◌, ⊎_elim, List, [], ◌∷◌, ◌++◌, length, get_or, refl, sym, ap, subst, ◌∙◌, arith}
use Rattle.std.specs.Prelude.{Bool, false, ◌≢◌, ◌&&◌, nat_lt, if◌then◌else◌, IsSome, IsSomeAnd, IsTrue, Option, Some, None, Ok, Err}
use Rattle.std.specs.Option.{option_map}
use Rattle.std.specs.List.{range_with_len}
use Rattle.std.proofs.lemmas.Bool.{cases_lt, le-ltb, lt-ltb}
use Rattle.rs01_lists.specs.Bytes.{padded}
use Rattle.rs01_layers.specs.Layout.{file_size, layers_of, number_at}
use Rattle.rs01_layers.specs.Sectors.{block}
use Rattle.rs01_layers.specs.declared.input.LayerInput.{LayerInput}
use Rattle.rs01_layers.specs.declared.shape.Shape.{Shape}
use Rattle.rs01_layers.proofs.PlaceLemmas.{each_sector_has_one_place}
use Rattle.rs01_outside.specs.DeskState.{DeskState, OnlyReads}
use Rattle.rs01_outside.specs.Files.{Files, bytes_of}
use Rattle.rs01_rack.specs.Rack.{RackState}
use Rattle.rs01_states.specs.Sparing.{is_open, is_unread, layer_count, state_of}
use Rattle.rs01_ecchead.specs.Erased.{Known, block_in, known_of as known_in, image_len}
use Rattle.rs01_ecchead.specs.Head.{fields_of}
use Rattle.rs01_ecchead.specs.Header.{Fields}
use Rattle.rs01_ecchead.specs.Opened.{opened_as}
use Rattle.rs01_ecchead.specs.Recorded.{parity_in}
use Rattle.rs01_ecchead.specs.declared.opened.Ecc.{Ecc}
use Rattle.rs01_erase.specs.Correcting.{AgreeWhereErased, AgreeWhereHeld, blocks_in}
use Rattle.rs01_erase.proofs.Found.{map_same}
use Rattle.rs01_repair.specs.Inputs.{IsInput, block_at as block_at_place, blocks_at, flag_at, flags_at, parity_at, place_number, sums_at}
use Rattle.rs01_linear.specs.Medium.{known_of}
use Rattle.rs01_linear.specs.declared.medium.Medium.{Medium}
use Rattle.rs01_turns.specs.Leads.{Leads}
use Rattle.rs01_turns.specs.Moments.{IsReady, Moment, Setting}
use Rattle.rs01_turns.proofs.Leading.{give-leads, leads-on, read-leads}
use Rattle.rs01_reader.specs.Courses.{CourseSeen}
use Rattle.rs01_reader.specs.Inputs.{CanRead, IsBuilt, IsBuiltBy, is_gone}
use Rattle.rs01_reader.specs.Settled.{Fits, Going, Halted, IsInputAt, IsInputBy, IsNamed, IsSet, IsShapeOf, Settled, block_at, gone_at, moment}
use Rattle.rs01_reader.specs.Steps.{Counts, Gives, GivesLayer, IsOfReading, IsWaiting, Picked, Picks, is_read_stop}
use Rattle.rs01_reader.specs.declared.setup.Setup.{Setup}
use Rattle.rs01_reader.specs.declared.stop.Stop.{Stop}
use Rattle.rs01_reader.specs.declared.stop.Stop.TheVariants.{OutOfMemory, ReadFault, WriteFault}
use Rattle.rs01_reader.proofs.CountLemmas.{counts-as, counts-fails, counts-read, counts-stop}
use Rattle.rs01_reader.proofs.GiveLemmas.{settled-stays}
use Rattle.rs01_reader.proofs.OnLemmas.{rose-from}
use Rattle.rs01_ecchead.proofs.Shapes.{is_shape}

-- what lies in a layer, by its places

flags-same : (f : Fields) (one other : ℕ → Bool) (l : ℕ) → ((p : ℕ) → place_number f l p < f.sectors → one (place_number f l p) ≡ other (place_number f l p)) → flags_at f one l ≡ flags_at f other l
unfolding flags_at flag_at
flags-same f one other l same =
    map_same (flag_at f one l) (flag_at f other l) (range_with_len 0 (255 - f.parity)) (λ j below.
    let p = get_or (range_with_len 0 (255 - f.parity)) j 0 in
    ⊎_elim
    (λ inside. ap (λ (b : Bool). nat_lt (place_number f l p) f.sectors && b) (same p inside))
    (λ past.
    ap (λ (b : Bool). b && one (place_number f l p)) (le-ltb (place_number f l p) f.sectors past)
    ∙ sym (ap (λ (b : Bool). b && other (place_number f l p)) (le-ltb (place_number f l p) f.sectors past)))
    (cases_lt (place_number f l p) f.sectors))

blocks-same : (f : Fields) (one other : ℕ → List ℕ) (l : ℕ) → ((p : ℕ) → place_number f l p < f.sectors → one (place_number f l p) ≡ other (place_number f l p)) → blocks_at f one l ≡ blocks_at f other l
unfolding blocks_at block_at_place
blocks-same f one other l same =
    map_same (block_at_place f one l) (block_at_place f other l) (range_with_len 0 (255 - f.parity)) (λ j below.
    let p = get_or (range_with_len 0 (255 - f.parity)) j 0 in
    ⊎_elim
    (λ inside. ap (λ (b : List ℕ). if nat_lt (place_number f l p) f.sectors then b else padded 2048 []) (same p inside))
    (λ past.
    ap (λ (b : Bool). if b then one (place_number f l p) else padded 2048 []) (le-ltb (place_number f l p) f.sectors past)
    ∙ sym (ap (λ (b : Bool). if b then other (place_number f l p) else padded 2048 []) (le-ltb (place_number f l p) f.sectors past)))
    (cases_lt (place_number f l p) f.sectors))

-- the layer of a place
place-layer : (ecc : Ecc) (l p : ℕ) → l < layers_of ecc.head.sectors ecc.head.parity → place_number (fields_of ecc.head) l p < ecc.head.sectors
    → place_number (fields_of ecc.head) l p % layers_of ecc.head.sectors ecc.head.parity ≡ l
place-layer ecc l p low inside =
    let n = number_at ecc.head.sectors ecc.head.parity l p in
    (each_sector_has_one_place ecc.head.sectors ecc.head.parity l p n (is_shape ecc) low (ap (λ (b : Bool). if b then Some n else None) (lt-ltb n ecc.head.sectors inside))).0

-- the same input, where flags and blocks are the same
input-same :
    (ecc : Ecc) (one other : List ℕ) (block block' : ℕ → List ℕ) (gone gone' : ℕ → Bool) (l : ℕ) (input : LayerInput) → one ≡ other
    → blocks_at (fields_of ecc.head) block l ≡ blocks_at (fields_of ecc.head) block' l → flags_at (fields_of ecc.head) gone l ≡ flags_at (fields_of ecc.head) gone' l
    → IsInput (opened_as ecc one) block gone l input → IsInput (opened_as ecc other) block' gone' l input
input-same ecc one other block block' gone gone' l input files blocks flags is =
    let f = fields_of ecc.head in
    record {
      parity_count = is.parity_count;
      erased = is.erased ∙ flags;
      blocks = subst (λ (fs : List Bool). AgreeWhereHeld fs (blocks_in input) (blocks_at f block' l)) flags
          (subst (λ (bs : List (List ℕ)). AgreeWhereHeld (flags_at f gone l) (blocks_in input) bs) blocks is.blocks);
      sums = subst (λ (fs : List Bool). AgreeWhereErased fs input.sums (sums_at f ecc.sums.list l)) flags is.sums;
      parity = is.parity ∙ ap (λ (file : List ℕ). parity_at (parity_in file ecc.head.sectors ecc.head.parity) l) files;
    }

-- what a reader goes on to have of a settled layer

shape-layers : (opened : Option Ecc) (shape : Option Shape) (ecc : Ecc) → IsShapeOf opened shape → opened ≡ Some ecc → layer_count shape ≡ layers_of ecc.head.sectors ecc.head.parity
shape-layers opened shape ecc is e = of-some shape (subst (λ (o : Option Ecc). IsShapeOf o shape) e is)
  where
    of-some : (shape : Option Shape) → IsShapeOf (Some ecc) shape → layer_count shape ≡ layers_of ecc.head.sectors ecc.head.parity
    of-some None is = absurd is
    of-some (Some h) is = λ i. layers_of (is.0 i) (is.1 i)

ecc-differs : (opened : Option Ecc) (name : Option (List ℕ)) (image : List ℕ) (ecc : Ecc) (n : List ℕ) → IsNamed opened name image → opened ≡ Some ecc → name ≡ Some n → n ≢ image
ecc-differs opened name image ecc n is e f =
    subst (λ (o : Option (List ℕ)). IsNamed (Some ecc) o image) f (subst (λ (o : Option Ecc). IsNamed o name image) e is)

-- the error correction file is as it was
same-ecc : (f g : Moment) (name : List ℕ) → Leads f g → name ≢ f.setting.image → IsTrue f.desk.tells → bytes_of g.desk.files name ≡ bytes_of f.desk.files name
same-ecc f g name leads differs t = ap (λ (o : Option (List ℕ)). bytes_of (λ _. o) name) ((leads.desk.files t).elsewhere name differs)

gone-same : (f g : Moment) (s : ℕ) → Leads f g → is_unread (state_of f.states s) ≡ false → gone_at f s ≡ gone_at g s
gone-same f g s leads not_ = ap is_open (sym (leads.stays s not_).state_same)

block-same : (f g : Moment) (s : ℕ) → Leads f g → IsTrue f.desk.tells → is_unread (state_of f.states s) ≡ false → block_at f s ≡ block_at g s
unfolding block
block-same f g s leads t not_ = ap (padded 2048) (sym ((leads.stays s not_).same.bytes_same t))

input-on : (f g : Moment) (ecc : Ecc) (name : List ℕ) (input : LayerInput) → Leads f g → IsSet f.setting → f.setting.opened ≡ Some ecc → f.setting.ecc ≡ Some name → Settled f input.layer
    → IsInputAt f ecc name input → IsInputAt g ecc name input
input-on f g ecc name input leads is_set opened named settled is =
    let layers = shape-layers f.setting.opened f.setting.terms.shape ecc is_set.shape opened in
    let low : input.layer < layers_of ecc.head.sectors ecc.head.parity = subst (λ (n : ℕ). input.layer < n) layers settled.there in
    let not_ : (p : ℕ) → place_number (fields_of ecc.head) input.layer p < ecc.head.sectors → is_unread (state_of f.states (place_number (fields_of ecc.head) input.layer p)) ≡ false =
    λ p inside. settled.read (place_number (fields_of ecc.head) input.layer p) (ap (λ (n : ℕ). place_number (fields_of ecc.head) input.layer p % n) layers ∙ place-layer ecc input.layer p low inside) in
    let flags = flags-same (fields_of ecc.head) (gone_at f) (gone_at g) input.layer (λ p inside. gone-same f g (place_number (fields_of ecc.head) input.layer p) leads (not_ p inside)) in
    let differs = ecc-differs f.setting.opened f.setting.ecc f.setting.image ecc name is_set.named opened named in
    record {
      parity_count = is.parity_count;
      erased = is.erased ∙ flags;
      sums = is.sums;
      has_parity = is.has_parity;
      told = λ t whole.
          let before = subst IsTrue leads.desk.tells t in
          let file = same-ecc f g name leads differs before in
          input-same ecc (bytes_of f.desk.files name) (bytes_of g.desk.files name) (block_at f) (block_at g) (gone_at f) (gone_at g) input.layer input (sym file)
          (blocks-same (fields_of ecc.head) (block_at f) (block_at g) input.layer (λ p inside. block-same f g (place_number (fields_of ecc.head) input.layer p) leads before (not_ p inside)))
          flags
          (is.told before (subst (λ (xs : List ℕ). file_size ecc.head.sectors ecc.head.parity ≤ length xs) file whole));
    }

some-and : {A : Type 0} {P Q : A → Type 0} (o : Option A) → ((x : A) → o ≡ Some x → P x → Q x) → IsSomeAnd o P → IsSomeAnd o Q
some-and None on h = h
some-and (Some x) on h = on x refl h

pub fits-goes-on : (f g : Moment) (input : LayerInput) → Leads f g → IsSet f.setting → Fits f input → Fits g input
fits-goes-on f g input leads is_set fits = record {
  settled = settled-stays f g input.layer leads fits.settled;
  input_is = subst (λ (x : Setting). IsSomeAnd x.opened (λ ecc. IsSomeAnd x.ecc (λ name. IsInputAt g ecc name input))) (sym leads.start.setting)
      (some-and f.setting.opened (λ ecc opened inner. some-and f.setting.ecc (λ name named is. input-on f g ecc name input leads is_set opened named fits.settled is) inner) fits.input_is);
}

-- reading files keeps what a reader promises

read-ready : (setup : Setup) (c : CourseSeen) (rack : RackState) (d d' : DeskState) (failed : Bool) → OnlyReads d d' failed → IsReady (moment setup c rack d) → IsReady (moment setup c rack d')
read-ready setup c rack d d' failed reads ready = record {
  all = ready.all;
  fated = ready.fated;
  last_fits = ready.last_fits;
  places = λ t.
      let before = subst IsTrue reads.tells t in
      subst (λ (files : Files). image_len (known_of setup.medium.now) ≤ length (bytes_of files setup.image.now)) (sym (reads.unchanged before)) (ready.places before);
}

desk-settled : (setup : Setup) (c : CourseSeen) (rack : RackState) (d d' : DeskState) (given : List ℕ) (l : ℕ) → Settled (moment setup c rack d) l → Settled (moment setup (record c { given = given }) rack d') l
desk-settled setup c rack d d' given l s = record { there = s.there; within = s.within; read = s.read }

going-read : (setup : Setup) (c : CourseSeen) (rack : RackState) (d d' : DeskState) (failed : Bool) → OnlyReads d d' failed → Going (moment setup c rack d) → Going (moment setup c rack d')
going-read setup c rack d d' failed reads going = record {
  ready = read-ready setup c rack d d' failed reads going.ready;
  set_up = going.set_up;
  spared = going.spared;
  all_given = going.all_given;
  given = λ l k. let was = going.given l k in (desk-settled setup c rack d d' c.given l was.0, was.1);
  reads_rise = let before = going.reads_rise in let later = reads.later in omega (arith, before, later);
  writes_rise = let before = going.writes_rise in let same = reads.writes in omega (arith, before, same);
}

-- what is known of a medium that has an error correction file
known-same : (medium : Medium) (ecc : Ecc) → medium.ecc ≡ Some ecc → known_in ecc ≡ known_of medium
known-same medium ecc e = λ i. record {
  sectors = medium.sectors ecc e i;
  last_bytes = medium.last_bytes ecc e i;
  sums = option_map (λ (x : Ecc). x.sums.list) (sym e i);
}

built-at :
    (setup : Setup) (c : CourseSeen) (rack : RackState) (d d' : DeskState) (failed : Bool) (given : List ℕ) (ecc : Ecc) (name : List ℕ) (input : LayerInput) → OnlyReads d d' failed
    → setup.medium.now.ecc ≡ Some ecc → IsBuilt ecc c setup.image.now name d input → IsInputAt (moment setup (record c { given = given }) rack d') ecc name input
built-at setup c rack d d' failed given ecc name input reads opened is = record {
  parity_count = is.parity_count;
  erased = is.erased;
  sums = is.sums;
  has_parity = is.has_parity;
  told = λ t whole.
      let before = subst IsTrue reads.tells t in
      let files = sym (reads.unchanged before) in
      let known = known-same setup.medium.now ecc opened in
      let first = is.told before (subst (λ (fs : Files). file_size ecc.head.sectors ecc.head.parity ≤ length (bytes_of fs name)) (sym files) whole) in
      subst (λ (fs : Files). IsInput (opened_as ecc (bytes_of fs name)) (block_in (known_of setup.medium.now) (bytes_of fs setup.image.now)) (is_gone c) input.layer input) files
      (subst (λ (k : Known). IsInput (opened_as ecc (bytes_of d.files name)) (block_in k (bytes_of d.files setup.image.now)) (is_gone c) input.layer input) known first);
}

some-map : {A B : Type 0} (P : A → Type 0) (Q : B → Type 0) (f : A → B) (o : Option A) → ((x : A) → P x → Q (f x)) → IsSomeAnd o P → IsSomeAnd (option_map f o) Q
some-map P Q f None on h = h
some-map P Q f (Some x) on h = on x h

built-by :
    (setup : Setup) (c : CourseSeen) (rack : RackState) (d d' : DeskState) (failed : Bool) (given : List ℕ) (l : ℕ) (input : LayerInput) → OnlyReads d d' failed → IsBuiltBy setup c d l input
    → IsInputBy (moment setup (record c { given = given }) rack d') input
built-by setup c rack d d' failed given l input reads is =
    some-and setup.medium.now.ecc (λ ecc opened inner. some-map (λ name. IsBuilt ecc c setup.image.now name.now d input) (λ name. IsInputAt (moment setup (record c { given = given }) rack d') ecc name input) (λ name. name.now) setup.ecc (λ name built. built-at setup c rack d d' failed given ecc name.now input reads opened built) inner) is.built

-- a settled layer can be read back

can-layer : (opened : Option Ecc) (shape : Option Shape) (l : ℕ) → IsShapeOf opened shape → l < layer_count shape → IsSomeAnd opened (λ ecc. l < layers_of ecc.head.sectors ecc.head.parity)
can-layer None None l is low = let never : ⊥ = omega (arith, low) in never
can-layer None (Some h) l is low = is
can-layer (Some ecc) None l is low = absurd is
can-layer (Some ecc) (Some h) l is low = subst (λ (n : ℕ). l < n) (λ i. layers_of (is.0 i) (is.1 i)) low

can-name : {A : Type 0} (f : A → List ℕ) (opened : Option Ecc) (name : Option A) (image : List ℕ) (P : Ecc → Type 0) → IsNamed opened (option_map f name) image → IsSomeAnd opened P → IsSome name
can-name f None name image P is some = absurd some
can-name f (Some ecc) None image P is some = absurd is
can-name f (Some ecc) (Some n) image P is some = refl

pub can-read : (setup : Setup) (c : CourseSeen) (rack : RackState) (d : DeskState) (given : List ℕ) (l : ℕ) → Going (moment setup (record c { given = given }) rack d) → l < layer_count c.shape → CanRead setup c l
can-read setup c rack d given l going low =
    let layer = can-layer setup.medium.now.ecc c.shape l going.set_up.shape low in
    record {
      layer = layer;
      all = some-and setup.medium.now.ecc (λ ecc opened h. going.ready.all ∙ sym (setup.medium.now.sectors ecc opened)) layer;
      name = can-name (λ name. name.now) setup.medium.now.ecc setup.ecc setup.image.now _ going.set_up.named layer;
    }

-- how asking a reader ends

pub picked-of : (setup : Setup) (c0 c2 : CourseSeen) (d0 d2 : DeskState) (r0 r2 : RackState) (o : Option ℕ) (l : ℕ) → o ≡ Some l → Picks setup c0 c2 d0 d2 (Ok o) r0 r2 → Picked setup c0 c2 d2 r2 l
picked-of setup c0 c2 d0 d2 r0 r2 o l e picks = (subst (λ (x : Option ℕ). Picks setup c0 c2 d0 d2 (Ok x) r0 r2) e picks).picked

gives-at :
    (setup : Setup) (c0 c2 : CourseSeen) (d0 d2 d3 : DeskState) (r0 r2 : RackState) (l : ℕ) (input : LayerInput) (failed : Bool) → Going (moment setup c0 r0 d0)
    → Leads (moment setup c0 r0 d0) (moment setup c2 r2 d2) → Counts setup d0 d3 (Ok (Some input)) r0 r2 → Picked setup c0 c2 d2 r2 l → OnlyReads d2 d3 failed → IsBuiltBy setup c2 d2 l input
    → ((k : ℕ) → IsWaiting c0 k → (r2 ≡ r0) × (l ≤ k)) → Gives setup c0 (record c2 { given = c2.given ++ l ∷ [] }) d0 d3 (Ok (Some input)) r0 r2
gives-at setup c0 c2 d0 d2 d3 r0 r2 l input failed going leads counts picked reads built first =
    let more = c2.given ++ l ∷ [] in
    let c3 : CourseSeen = record c2 { given = more } in
    let all = leads-on (moment setup c0 r0 d0) (moment setup c2 r2 d2) (moment setup c3 r2 d3) leads
    (leads-on (moment setup c2 r2 d2) (moment setup c2 r2 d3) (moment setup c3 r2 d3) (read-leads (moment setup c2 r2 d2) d3 failed reads) (give-leads (moment setup c2 r2 d3) l picked.settled.there picked.fresh)) in
    record {
      leads = all;
      counts = counts;
      kept = λ x fits. fits-goes-on (moment setup c0 r0 d0) (moment setup c3 r2 d3) x all going.set_up fits;
      ended = record {
        given = (λ i. picked.given_same i ++ (sym built.layer i) ∷ []);
        fits = record {
          settled = subst (λ (k : ℕ). Settled (moment setup c3 r2 d3) k) (sym built.layer) (desk-settled setup c2 r2 d2 d3 more l picked.settled);
          input_is = built-by setup c2 r2 d2 d3 failed more l input reads built;
        };
        going = going-read setup c3 r2 d2 d3 failed reads picked.going;
      };
      first = λ k w. let f = first k w in (f.0, subst (λ (n : ℕ). n ≤ k) (sym built.layer) f.1);
    }

pub gives-input :
    (setup : Setup) (c0 c2 c3 : CourseSeen) (d0 d2 d3 : DeskState) (r0 r2 : RackState) (o : Option ℕ) (l : ℕ) (input : LayerInput) (failed : Bool) → Going (moment setup c0 r0 d0) → o ≡ Some l
    → Picks setup c0 c2 d0 d2 (Ok o) r0 r2 → OnlyReads d2 d3 failed → failed ≡ false → GivesLayer setup c2 c3 d2 l (Ok input) → Gives setup c0 c3 d0 d3 (Ok (Some input)) r0 r2
gives-input setup c0 c2 c3 d0 d2 d3 r0 r2 o l input failed going e picks reads not_ gives =
    subst (λ (v : CourseSeen). Gives setup c0 v d0 d3 (Ok (Some input)) r0 r2) (sym gives.0)
    (gives-at setup c0 c2 d0 d2 d3 r0 r2 l input failed going picks.leads (counts-read setup d0 d2 d3 r0 r2 o (Some input) failed not_ picks.counts reads) (picked-of setup c0 c2 d0 d2 r0 r2 o l e picks) reads gives.1
    (subst (λ (x : Option ℕ). Picks setup c0 c2 d0 d2 (Ok x) r0 r2) e picks).first)

pub gives-none :
    (setup : Setup) (c0 c2 : CourseSeen) (d0 d2 : DeskState) (r0 r2 : RackState) (o : Option ℕ) → Going (moment setup c0 r0 d0) → o ≡ None → Picks setup c0 c2 d0 d2 (Ok o) r0 r2
    → Gives setup c0 c2 d0 d2 (Ok None) r0 r2
gives-none setup c0 c2 d0 d2 r0 r2 o going e picks = record {
  leads = picks.leads;
  counts = counts-as setup d0 d2 r0 r2 o None picks.counts;
  kept = λ x fits. fits-goes-on (moment setup c0 r0 d0) (moment setup c2 r2 d2) x picks.leads going.set_up fits;
  ended = (subst (λ (x : Option ℕ). Picks setup c0 c2 d0 d2 (Ok x) r0 r2) e picks).none;
  first = (subst (λ (x : Option ℕ). Picks setup c0 c2 d0 d2 (Ok x) r0 r2) e picks).first;
}

pub gives-stop :
    (setup : Setup) (c0 c2 : CourseSeen) (d0 d2 : DeskState) (r0 r2 : RackState) (stop : Stop) → Going (moment setup c0 r0 d0) → Picks setup c0 c2 d0 d2 (Err stop) r0 r2
    → Gives setup c0 c2 d0 d2 (Err stop) r0 r2
gives-stop setup c0 c2 d0 d2 r0 r2 stop going picks = record {
  leads = picks.leads;
  counts = counts-stop setup d0 d2 r0 r2 stop picks.counts;
  kept = λ x fits. fits-goes-on (moment setup c0 r0 d0) (moment setup c2 r2 d2) x picks.leads going.set_up fits;
  ended = picks.halted;
  first = picks.first;
}

-- reading a layer back failed
stopped-by : (setup : Setup) (c : CourseSeen) (rack : RackState) (d d' : DeskState) (stop : Stop) → OnlyReads d d' (is_read_stop {T = LayerInput} (Err stop)) → IsOfReading stop → c.kept_reads ≤ d.read_faults
    → Halted (moment setup c rack d') stop
stopped-by setup c rack d d' ReadFault reads of before = rose-from c.kept_reads d.read_faults d'.read_faults before (reads.rose refl)
stopped-by setup c rack d d' WriteFault reads of before = absurd of
stopped-by setup c rack d d' OutOfMemory reads of before = tt

fails-at :
    (setup : Setup) (c0 c2 : CourseSeen) (d0 d2 d3 : DeskState) (r0 r2 : RackState) (l : ℕ) (stop : Stop) → Going (moment setup c0 r0 d0) → Leads (moment setup c0 r0 d0) (moment setup c2 r2 d2)
    → Counts {T = Option LayerInput} setup d0 d3 (Err stop) r0 r2 → Picked setup c0 c2 d2 r2 l → OnlyReads d2 d3 (is_read_stop {T = LayerInput} (Err stop)) → IsOfReading stop
    → ((k : ℕ) → IsWaiting c0 k → r2 ≡ r0) → Gives setup c0 c2 d0 d3 (Err stop) r0 r2
fails-at setup c0 c2 d0 d2 d3 r0 r2 l stop going leads counts picked reads of first =
    let all = leads-on (moment setup c0 r0 d0) (moment setup c2 r2 d2) (moment setup c2 r2 d3) leads (read-leads (moment setup c2 r2 d2) d3 _ reads) in
    record {
      leads = all;
      counts = counts;
      kept = λ x fits. fits-goes-on (moment setup c0 r0 d0) (moment setup c2 r2 d3) x all going.set_up fits;
      ended = record { given_same = picked.given_same; halted = stopped-by setup c2 r2 d2 d3 stop reads of picked.going.reads_rise };
      first = λ k w. (first k w, tt);
    }

pub gives-fails :
    (setup : Setup) (c0 c2 c3 : CourseSeen) (d0 d2 d3 : DeskState) (r0 r2 : RackState) (o : Option ℕ) (l : ℕ) (stop : Stop) → Going (moment setup c0 r0 d0) → o ≡ Some l
    → Picks setup c0 c2 d0 d2 (Ok o) r0 r2 → OnlyReads d2 d3 (is_read_stop {T = LayerInput} (Err stop)) → GivesLayer setup c2 c3 d2 l (Err stop) → Gives setup c0 c3 d0 d3 (Err stop) r0 r2
gives-fails setup c0 c2 c3 d0 d2 d3 r0 r2 o l stop going e picks reads gives =
    subst (λ (v : CourseSeen). Gives setup c0 v d0 d3 (Err stop) r0 r2) (sym gives.0)
    (fails-at setup c0 c2 d0 d2 d3 r0 r2 l stop going picks.leads (counts-fails setup d0 d2 d3 r0 r2 o stop gives.1 picks.counts reads) (picked-of setup c0 c2 d0 d2 r0 r2 o l e picks) reads gives.1
    (λ k w. (picks.first k w).0))
