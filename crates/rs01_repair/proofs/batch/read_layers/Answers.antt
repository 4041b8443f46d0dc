use Rattle.std.proofs.Common.{List, sym, subst, arith}
use Rattle.rs01_outside.specs.Files.{bytes_of}
use Rattle.rs01_repair.specs.Finding.{places_in}
use Rattle.rs01_repair.specs.Parts.{AreJudged, AreRead, AreReadFrom}
use Rattle.rs01_repair.specs.declared.part.Part.{Part}
use Rattle.rs01_repair.proofs.JudgeLemmas.{all_read, all_read_from, whole_again}
use Rattle.rs01_repair.proofs.batch.read_layers.Goals as goal

pub returns-clause-read : goal.returns-clause-read
returns-clause-read g c =
    let found = c.args.found.now in
    let parts = c.in_ok-parts.parts in
    let judged : AreJudged found c.args.first parts.items c.judge.new.parts =
    subst (λ (xs : List Part). AreJudged found c.args.first xs c.judge.new.parts) c.deref_mut.ensures.value c.judge.ensures in
    let same = whole_again c.judge.new.parts parts.items parts.len (omega arith) (omega arith) in
    subst (λ (xs : List Part). AreRead found c.args.first (places_in found) xs) (sym same)
    (all_read found c.args.first parts.items c.judge.new.parts c.in_ok-parts.ensures.blocks judged)

pub returns-clause-told : goal.returns-clause-told
returns-clause-told g c = λ tells.
    let found = c.args.found.now in
    let file = bytes_of (g.D.Desk.state c.args.desk.now).files c.args.image.now in
    let parts = c.in_ok-parts.parts in
    let judged : AreJudged found c.args.first parts.items c.judge.new.parts =
    subst (λ (xs : List Part). AreJudged found c.args.first xs c.judge.new.parts) c.deref_mut.ensures.value c.judge.ensures in
    let same = whole_again c.judge.new.parts parts.items parts.len (omega arith) (omega arith) in
    subst (λ (xs : List Part). AreReadFrom found file c.args.first (places_in found) xs) (sym same)
    (all_read_from found file c.args.first parts.items c.judge.new.parts (c.in_ok-parts.ensures.told tells) judged)
