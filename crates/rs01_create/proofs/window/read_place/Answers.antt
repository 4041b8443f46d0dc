use Rattle.std.proofs.Common.{◌≡◌, ◌+◌, ◌*◌, ◌/◌, ◌∙◌, ◌++◌, List, ℕ, length, take, drop, ap, sym, arith, min, ◌≤◌}
use Rattle.std.proofs.Math.Seq.{take-append_seam}
use Rattle.std.proofs.lemmas.List.{length-take}
use Rattle.rs01_outside.specs.Files.{bytes_of}
use Rattle.rs01_ecchead.specs.Runs.{IsRun}
use Rattle.rs01_create.specs.Windows.{in_run}
use Rattle.rs01_create.proofs.Pieces.{place_holds}
use Rattle.rs01_create.proofs.window.read_place.Goals as goal

-- the front that was read into
front : (run rest : List ℕ) (n : ℕ) → length run ≡ n → take n (run ++ rest) ≡ run
front run rest n long = ap (λ k. take k (run ++ rest)) (sym long) ∙ take-append_seam run rest

pub returns-in_ok-read_run-clause-read : goal.returns-in_ok-read_run-clause-read
returns-in_ok-read_run-clause-read g c = λ t of j below.
    let plan = c.args.plan.now in
    let image = bytes_of (g.D.Desk.state c.args.desk.now).files c.args.image.now in
    let count = c.min-len.result in
    let start = c.args.first + c.args.place * c.layers.result in
    let fits : 2048 * count ≤ length c.args.buffer.now = omega (arith, c.min-len.ensures) in
    let long : length c.read_run.new.into ≡ 2048 * count = c.read_run.auto.into ∙ length-take (2048 * count) c.args.buffer.now ∙ omega (arith, fits) in
    ap (λ xs. in_run xs j) (front c.read_run.new.into (drop (2048 * count) c.args.buffer.now) (2048 * count) long)
    ∙ place_holds image c.read_run.new.into plan.extent plan.shape.sectors plan.shape.parity c.args.first c.args.place start (length c.args.buffer.now / 2048) count
    of plan.shaped (c.in_ok-read_run.ensures.blocks t) long (ap (λ n. c.args.first + c.args.place * n) c.layers.ensures.value)
    (c.min-len.ensures ∙ ap (λ n. min n (length c.args.buffer.now / 2048)) c.saturating_sub-left.ensures) j below

pub returns-else-len-gt0-clause-read : goal.returns-else-len-gt0-clause-read
returns-else-len-gt0-clause-read g c = λ t of j below.
    let plan = c.args.plan.now in
    let image = bytes_of (g.D.Desk.state c.args.desk.now).files c.args.image.now in
    let count = c.min-len.result in
    let start = c.args.first + c.args.place * c.layers.result in
    let none : length (take (2048 * count) c.args.buffer.now) ≡ 2048 * count =
    length-take (2048 * count) c.args.buffer.now ∙ omega (arith, c.if-len-gt0.false) in
    let nothing : IsRun image plan.extent.sectors plan.extent.last_bytes start (take (2048 * count) c.args.buffer.now) =
    λ k h. absurd (omega (arith, h, none, c.if-len-gt0.false)) in
    place_holds image (take (2048 * count) c.args.buffer.now) plan.extent plan.shape.sectors plan.shape.parity c.args.first c.args.place start (length c.args.buffer.now / 2048) count
    of plan.shaped nothing none (ap (λ n. c.args.first + c.args.place * n) c.layers.ensures.value)
    (c.min-len.ensures ∙ ap (λ n. min n (length c.args.buffer.now / 2048)) c.saturating_sub-left.ensures) j below
