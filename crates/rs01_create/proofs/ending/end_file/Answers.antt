use Rattle.std.proofs.Common.{◌≡◌, ◌∙◌, ◌++◌, ℕ, List, ap, subst, arith}
use Rattle.rs01_outside.specs.Files.{Becomes, Files}
use Rattle.rs01_ecchead.specs.EccFile.{body, ecc_file, head_fields}
use Rattle.rs01_ecchead.specs.Header.{head_bytes}
use Rattle.rs01_create.proofs.Writes.{file_ends, left_by_end}
use Rattle.rs01_create.proofs.ending.end_file.Goals as goal

-- a header and a body make the file
whole : (name image header : List ℕ) (r : ℕ) (old new : Files) → header ≡ head_bytes (head_fields image r)
    → Becomes name (header ++ body image r) old new → Becomes name (ecc_file image r) old new
unfolding ecc_file
whole name image header r old new e b = subst (λ (h : List ℕ). Becomes name (h ++ body image r) old new) e b

pub returns-in-Ok-clause-ends : goal.returns-in-Ok-clause-ends
returns-in-Ok-clause-ends g c = λ t image is.
    let r = c.args.found.now.plan.shape.parity in
    let header = c.write_head.ensures ∙ ap head_bytes (c.head_of-head.ensures image is.found_is (c.finalize-body_sum.ensures _ is.held)) in (
      whole c.args.ecc.now image c.write_head.new.into r _ _ header (file_ends c.args.ecc.now c.write_head.new.into (body image r) _ _ (omega arith) is.there (c.in-Ok.ensures.written t)),
      c.report_on.ensures image is.found_is,
    )

pub returns-in-Err-clause-ends : goal.returns-in-Err-clause-ends
returns-in-Err-clause-ends g c = λ t image is before.
    let r = c.args.found.now.plan.shape.parity in
    let header = c.write_head.ensures ∙ ap head_bytes (c.head_of-head.ensures image is.found_is (c.finalize-body_sum.ensures _ is.held)) in
    left_by_end c.args.ecc.now c.write_head.new.into (head_bytes (head_fields image r)) (body image r) _ _ before header (omega arith) is.there (c.in-Err.ensures.written t)
