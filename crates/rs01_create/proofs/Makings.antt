-- The file of an image, from its beginning to its end.
use Rattle.std.proofs.Common.{◌≡◌, ◌≢◌, ℕ, List, [], ◌++◌, length, refl, sym, ap, subst, ◌∙◌, arith, append-nil, false}
use Rattle.std.specs.Prelude.{IsTrue, Some}
use Rattle.std.specs.List.{flat_map, range_with_len}
use Rattle.std.specs.Global.{Vec}
use Rattle.md5.specs.Md5.{Holds}
use Rattle.rs01_layers.specs.Layout.{layers_of}
use Rattle.rs01_layers.specs.Sectors.{sectors_of}
use Rattle.rs01_lists.specs.Bytes.{zeros}
use Rattle.rs01_outside.specs.DeskState.{DeskState, OnlyChanges}
use Rattle.rs01_outside.specs.Files.{Becomes, SameElsewhere, bytes_of}
use Rattle.rs01_ecchead.specs.EccFile.{body, layer_parity, parity_bytes, sum_bytes}
use Rattle.rs01_create.specs.Beginning.{IsStart}
use Rattle.rs01_create.specs.Ending.{IsWhole}
use Rattle.rs01_create.specs.Looking.{IsFoundOf}
use Rattle.rs01_create.specs.Making.{AtWork, HasBody, IsAhead, IsFinished, Leads, Moment, body_to, faults_of, moment}
use Rattle.rs01_create.specs.declared.course.Course.{Course}
use Rattle.rs01_create.specs.declared.found.Found.{Found}
use Rattle.rs01_create.specs.declared.plan.Plan.{Plan}
use Rattle.rs01_create.proofs.Settlings.{same_image}
use Rattle.rs01_create.proofs.Writes.{elsewhere_twice}

-- the body as far as no layer
body_none : (image : List ℕ) (r : ℕ) → sum_bytes image ≡ body_to image r 0
unfolding body_to
body_none image r = sym (append-nil (sum_bytes image))

-- and as far as all of them
body_all : (image : List ℕ) (n r first : ℕ) → n ≡ sectors_of (length image) → first ≡ layers_of n r → body_to image r first ≡ body image r
unfolding body_to body parity_bytes
body_all image n r first same all =
    ap (λ k. sum_bytes image ++ flat_map (layer_parity image r) (range_with_len 0 k)) (all ∙ ap (λ k. layers_of k r) same)

no_lists : (state : DeskState) (image : List ℕ) (plan : Plan) (next : ℕ) (window : List (Vec ℕ)) → next ≡ 0 → window ≡ [] → IsAhead state image plan next window
no_lists state image plan next window start none =
    subst (IsAhead state image plan next) (sym none)
    (record {
      within = omega (arith, start);
      long = λ k d h. absurd (omega (arith, h));
      blocks = λ t of k d h. absurd (omega (arith, h));
    })

-- the work may begin
pub at_start : (image ecc : List ℕ) (b c : DeskState) (found : Found) (sums : List ℕ) (course : Course) → image ≢ ecc → (IsTrue b.tells → IsFoundOf (bytes_of b.files image) found)
    → (IsTrue b.tells → sums ≡ sum_bytes (bytes_of b.files image))
    → OnlyChanges ecc b c false → (IsTrue b.tells → Becomes ecc (zeros 4096 ++ sums) b.files c.files) → IsStart sums course
    → AtWork (moment c image ecc found.plan (faults_of c) course)
at_start image ecc b c found sums course apart found_is summed changes begun start = record {
  quiet = record { reads = refl; writes = refl };
  apart = apart;
  ahead = no_lists c image found.plan course.next course.window.items start.next start.none;
  body = λ t.
      let t0 = subst IsTrue changes.tells t in
      let file = bytes_of b.files image in
      let of = found_is t0 in
      let whole : sums ≡ body_to file found.plan.shape.parity course.first =
      summed t0 ∙ body_none file found.plan.shape.parity ∙ ap (body_to file found.plan.shape.parity) (sym start.first) in
      subst (HasBody (moment c image ecc found.plan (faults_of c) course)) (sym (same_image image ecc b.files c.files apart (changes.elsewhere t0)))
      (record {
        extended = of.extended;
        there = (begun t0).there ∙ ap (λ xs. Some (zeros 4096 ++ xs)) whole;
        held = subst (Holds course.hasher) whole start.held;
      });
}

-- once all layers stand in the file, its body is whole
pub whole_body : (image : List ℕ) (m : Moment) (found : Found) → IsFinished m → m.plan ≡ found.plan → IsTrue m.state.tells
    → bytes_of m.state.files m.image ≡ image → IsFoundOf image found → IsWhole image found m.course.hasher (m.state.files m.ecc)
whole_body image m found finished same t still of =
    let stands = subst (HasBody m) still (finished.at_work.body t) in
    let whole : body_to image m.plan.shape.parity m.course.first ≡ body image found.plan.shape.parity =
    body_all image m.plan.shape.sectors m.plan.shape.parity m.course.first (m.plan.shaped ∙ stands.extended.sectors) finished.all
    ∙ ap (λ (p : Plan). body image p.shape.parity) same in
    record {
      found_is = of;
      there = stands.there ∙ ap (λ xs. Some (zeros 4096 ++ xs)) whole;
      held = subst (Holds m.course.hasher) whole stands.held;
    }

-- what holds after the windows of what held before the file was begun
pub record Between (ecc : List ℕ) (b d : DeskState) : Type 0 where
  pub tells : IsTrue d.tells
  pub elsewhere : SameElsewhere ecc b.files d.files

pub between : (image ecc : List ℕ) (b c d : DeskState) (plan : Plan) (one other : Course) → OnlyChanges ecc b c false
    → Leads (moment c image ecc plan (faults_of c) one) (moment d image ecc plan (faults_of c) other) → IsTrue b.tells → Between ecc b d
between image ecc b c d plan one other changes leads t =
    let t1 = subst IsTrue (sym changes.tells) t in
    record {
      tells = subst IsTrue (sym leads.tells) t1;
      elsewhere = elsewhere_twice ecc b.files c.files d.files (changes.elsewhere t) (leads.elsewhere t1);
    }

pub stands_whole : (image ecc : List ℕ) (b c d : DeskState) (found : Found) (other : Course) → image ≢ ecc → IsFoundOf (bytes_of b.files image) found
    → Between ecc b d → IsFinished (moment d image ecc found.plan (faults_of c) other) → IsWhole (bytes_of b.files image) found other.hasher (d.files ecc)
stands_whole image ecc b c d found other apart of between finished =
    whole_body (bytes_of b.files image) (moment d image ecc found.plan (faults_of c) other) found finished refl between.tells
    (same_image image ecc b.files d.files apart between.elsewhere) of

pub ended : (ecc file : List ℕ) (b d e : DeskState) → Between ecc b d → Becomes ecc file d.files e.files → Becomes ecc file b.files e.files
ended ecc file b d e between last = record {
  there = last.there;
  elsewhere = elsewhere_twice ecc b.files d.files e.files between.elsewhere last.elsewhere;
}
