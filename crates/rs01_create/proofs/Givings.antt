-- Giving the input of the next layer.
use Rattle.std.proofs.Common.{◌≡◌, ℕ, suc, ◌+◌, ◌-◌, ◌<◌, ◌≤◌, Bool, refl, List, [], ◌∷◌, ◌++◌, length, get_or, sym, ap, subst, ◌∙◌, arith, false}
use Rattle.std.specs.Prelude.{All, IfErr, IfOk, IfSome, IsTrue, Option, Some, None, Result, Ok, Err}
use Rattle.std.specs.Global.{Vec}
use Rattle.std.specs.List.{range_with_len}
use Rattle.std.proofs.Math.ListN.{get_or-append}
use Rattle.std.proofs.Math.Seq.{get_or-append_seam}
use Rattle.std.proofs.lemmas.List.{length-append}
use Rattle.rs01_layers.specs.Blocks.{blocks_of}
use Rattle.rs01_layers.specs.Layer.{layer_bytes}
use Rattle.rs01_layers.specs.declared.input.LayerInput.{LayerInput}
use Rattle.rs01_layers.proofs.BlockLemmas.{blocks_of-layer_bytes}
use Rattle.rs01_lists.proofs.Ranges.{range_with_len_more}
use Rattle.rs01_outside.specs.Causes.{Rose}
use Rattle.rs01_outside.specs.DeskState.{DeskState, OnlyReads}
use Rattle.rs01_outside.specs.Files.{bytes_of}
use Rattle.rs01_create.specs.Answer.{is_read_fault}
use Rattle.rs01_create.specs.Giving.{GivesInput, IsOfReading}
use Rattle.rs01_create.specs.Making.{AtWork, HasStopped, IsAhead, IsHeadless, Moment, body_to}
use Rattle.rs01_create.specs.declared.course.Course.{Course}
use Rattle.rs01_create.specs.declared.course.Faults.{Faults}
use Rattle.rs01_create.specs.declared.plan.Plan.{Plan}
use Rattle.rs01_create.specs.declared.refusal.CreateRefusal.{CreateRefusal}
use Rattle.rs01_create.specs.declared.refusal.CreateRefusal.TheVariants.{NoImage, EmptyImage, TooManySectors, Marker, ReadFault, WriteFault, OutOfMemory}

-- the last list goes out, and those before it stay
front_of : (before after : List (Vec ℕ)) (x : Vec ℕ) (k : ℕ) (d : Vec ℕ) → before ≡ after ++ x ∷ [] → k < length after → get_or before k d ≡ get_or after k d
front_of before after x k d e h = ap (λ (xs : List (Vec ℕ)). get_or xs k d) e ∙ get_or-append after (x ∷ []) d k h

last_of_all : (before after : List (Vec ℕ)) (x d : Vec ℕ) → before ≡ after ++ x ∷ [] → get_or before (length after) d ≡ x
last_of_all before after x d e = ap (λ (xs : List (Vec ℕ)). get_or xs (length after) d) e ∙ get_or-append_seam after x [] d

ahead_of : (state : DeskState) (image : List ℕ) (plan : Plan) (next : ℕ) (before after : List (Vec ℕ)) (x : Vec ℕ) → before ≡ after ++ x ∷ []
    → IsAhead state image plan next before → IsAhead state image plan (next + 1) after
ahead_of state image plan next before after x e ahead =
    let count : length before ≡ length after + 1 = ap length e ∙ length-append after (x ∷ []) in
    record {
      within = omega (arith, count, ahead.within);
      long = λ k d h. ap (λ (v : Vec ℕ). length v.items) (sym (front_of before after x k d e h)) ∙ ahead.long k d (omega (arith, h, count));
      blocks = λ t of k d h.
          let same : next + length before - 1 - k ≡ next + 1 + length after - 1 - k = omega (arith, h, count) in
          ap (λ (v : Vec ℕ). v.items) (sym (front_of before after x k d e h)) ∙ ahead.blocks t of k d (omega (arith, h, count))
          ∙ ap (λ l. layer_bytes (bytes_of state.files image) plan.shape.parity l) same;
    }

pub given : (state : DeskState) (image : List ℕ) (plan : Plan) (before after : List (Vec ℕ)) (x : Vec ℕ) (old new : Course) (input : LayerInput)
    → before ≡ after ++ x ∷ [] → IsAhead state image plan old.next before → input.layer ≡ old.next → input.parity_count ≡ plan.shape.parity
    → All (λ flag. flag ≡ false) input.erased → input.data_ ≡ x.items → new.next ≡ old.next + 1 → new.window.items ≡ after → GivesInput state image plan old new input
given state image plan before after x old new input e ahead number parity flags data_is next rest =
    let count : length before ≡ length after + 1 = ap length e ∙ length-append after (x ∷ []) in
    let r = plan.shape.parity in
    record {
      layer_is = number;
      next = next;
      parity = parity;
      flags = flags;
      blocks = λ t of.
          let l : old.next + length before - 1 - length after ≡ input.layer = omega (arith, count, number) in
          let held = ahead.blocks t of (length after) x (omega (arith, count)) in
          ap (blocks_of (255 - r)) (data_is ∙ ap (λ (v : Vec ℕ). v.items) (sym (last_of_all before after x x e)) ∙ held ∙ ap (layer_bytes (bytes_of state.files image) r) l)
          ∙ blocks_of-layer_bytes (bytes_of state.files image) r input.layer;
      ahead =
          subst (IsAhead state image plan new.next) (sym rest)
          (subst (λ n. IsAhead state image plan n after) (sym next) (ahead_of state image plan old.next before after x e ahead));
    }

-- the list of what was given, with one more
one_more : (first next layer_is : ℕ) → first ≤ next → layer_is ≡ next → range_with_len first (next + 1 - first) ≡ range_with_len first (next - first) ++ layer_is ∷ []
one_more first next layer_is order same =
    let n : next + 1 - first ≡ suc (next - first) = omega arith in
    let end : first + (next - first) ≡ layer_is = omega arith in
    ap (range_with_len first) n ∙ range_with_len_more first (next - first) ∙ ap (λ l. range_with_len first (next - first) ++ l ∷ []) end

pub gives_list : (result : Result (Option LayerInput) CreateRefusal) (state : DeskState) (image : List ℕ) (plan : Plan) (old new : Course) → new.first ≡ old.first
    → IfOk result (λ given. IfSome given (GivesInput state image plan old new))
    → IfOk result (λ given. IfSome given (λ input. range_with_len new.first (new.next - new.first) ≡ range_with_len old.first (old.next - old.first) ++ input.layer ∷ []))
gives_list (Ok (Some input)) state image plan old new first gives =
    (λ i. range_with_len (first i) (gives.next i - first i)) ∙ one_more old.first old.next input.layer old.order gives.layer_is
gives_list (Ok None) state image plan old new first gives = tt
gives_list (Err why) state image plan old new first gives = tt

headless_still : (old new : Moment) → AtWork old → ((failed : Bool) × OnlyReads old.state new.state failed) → new.ecc ≡ old.ecc → IsTrue new.state.tells
    → IsHeadless (new.state.files new.ecc)
headless_still old new work (failed, reads) ecc t =
    let t0 = subst IsTrue reads.tells t in
    let body = work.body t0 in
    (body_to (bytes_of old.state.files old.image) old.plan.shape.parity old.course.first, (λ i. reads.unchanged t0 i (ecc i)) ∙ body.there)

-- it stops where reading failed or memory ran out
stops_by : (old new : Moment) (why : CreateRefusal) → AtWork old → OnlyReads old.state new.state (is_read_fault {T = Option LayerInput} (Err why))
    → new.image ≡ old.image → new.ecc ≡ old.ecc → new.plan ≡ old.plan → new.kept ≡ old.kept → IsOfReading why → HasStopped new why
stops_by old new NoImage work reads image ecc plan kept of = absurd of
stops_by old new EmptyImage work reads image ecc plan kept of = absurd of
stops_by old new (TooManySectors n) work reads image ecc plan kept of = absurd of
stops_by old new (Marker s) work reads image ecc plan kept of = absurd of
stops_by old new WriteFault work reads image ecc plan kept of = absurd of
stops_by old new ReadFault work reads image ecc plan kept of =
    let k : new.kept.reads ≡ old.state.read_faults = ap (λ (f : Faults). f.reads) kept ∙ sym work.quiet.reads in
    let w : new.state.write_faults ≡ new.kept.writes = reads.writes ∙ work.quiet.writes ∙ ap (λ (f : Faults). f.writes) (sym kept) in
    record {
      of_making = tt;
      counts = record {
        reads_later = omega (arith, k, reads.later);
        writes_later = omega (arith, w);
        read_rose = λ h. subst (λ n. Rose n new.state.read_faults) (sym k) (reads.rose refl);
        read_kept = λ h. cc;
        write_rose = λ h. cc;
        write_kept = λ h. w;
      };
      headless = headless_still old new work (_, reads) ecc;
    }
stops_by old new OutOfMemory work reads image ecc plan kept of =
    let r : new.state.read_faults ≡ new.kept.reads = reads.kept refl ∙ work.quiet.reads ∙ ap (λ (f : Faults). f.reads) (sym kept) in
    let w : new.state.write_faults ≡ new.kept.writes = reads.writes ∙ work.quiet.writes ∙ ap (λ (f : Faults). f.writes) (sym kept) in
    record {
      of_making = tt;
      counts = record {
        reads_later = omega (arith, r);
        writes_later = omega (arith, w);
        read_rose = λ h. cc;
        read_kept = λ h. r;
        write_rose = λ h. cc;
        write_kept = λ h. w;
      };
      headless = headless_still old new work (_, reads) ecc;
    }

pub stops : (result : Result (Option LayerInput) CreateRefusal) (old new : Moment) → AtWork old → OnlyReads old.state new.state (is_read_fault result)
    → new.image ≡ old.image → new.ecc ≡ old.ecc → new.plan ≡ old.plan → new.kept ≡ old.kept → new.course.first ≡ old.course.first
    → IfErr result (λ why. IsOfReading why × (new.course.next ≡ old.course.next))
    → IfErr result (λ stop. (range_with_len new.course.first (new.course.next - new.course.first) ≡ range_with_len old.course.first (old.course.next - old.course.first))
    × HasStopped new stop)
stops (Ok given) old new work reads image ecc plan kept first of = tt
stops (Err why) old new work reads image ecc plan kept first of = (
  (λ i. range_with_len (first i) (of.1 i - first i)),
  stops_by old new why work reads image ecc plan kept of.0,
)
