use Rattle.std.proofs.Common.{◌≡◌, ◌∙◌, ◌+◌, ◌*◌, ◌≤◌, [], ap, sym, subst, arith, length}
use Rattle.std.specs.Prelude.{IsTrue}
use Rattle.md5.specs.Md5.{md5}
use Rattle.rs01_outside.specs.Files.{Files, bytes_of}
use Rattle.rs01_ecchead.specs.Recorded.{sums_in}
use Rattle.rs01_ecchead.proofs.Parts.{two_parts}
use Rattle.rs01_ecchead.proofs.opening.read_body.Goals as goal

pub returns-clause-body : goal.returns-clause-body
returns-clause-body g c = λ t long.
    let f0 = (g.D.Desk.state c.args.desk.now).files in
    let name = c.args.name.now in
    let count = c.sectors-count.result in
    let reads = c.in_ok-sums.ensures.reads in
    let room : 4096 + 4 * count ≤ length (bytes_of f0 name) = omega (arith, long) in
    let size : length (bytes_of (g.D.Desk.state c.read_sums.new.desk).files name) ≡ length (bytes_of f0 name) = ap (λ (f : Files). length (bytes_of f name)) (reads.unchanged t) in
    let first = c.in_ok-sums.ensures.read t room in
    let all = c.in_ok-add_rest.ensures.held (subst IsTrue (sym reads.tells) t) (omega (arith, long, size)) _ (first.fed [] c.new-hasher.ensures) in
    record {
      sums = first.list ∙ ap (sums_in (bytes_of f0 name)) c.sectors-count.ensures;
      digest =
          c.finalize.ensures _ all
          ∙ ap md5 (two_parts f0 (g.D.Desk.state c.read_sums.new.desk).files name count (4096 + 4 * c.from.result) c.file_size.result (reads.unchanged t) (omega arith) (omega (arith, long)) (omega (arith, long)));
    }
