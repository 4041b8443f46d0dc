use Rattle.std.proofs.Common.{◌≡◌, List, ℕ, ap, sym, ◌∙◌, refl}
use Rattle.std.specs.Prelude.{Err, Result, take}
use Rattle.std.proofs.lemmas.Result.{err_from_is_err_and}
use Rattle.rs01_ecchead.specs.Header.{Fields, head_of}
use Rattle.rs01_ecchead.specs.Opening.{ReadsHeader}
use Rattle.rs01_ecchead.specs.declared.head.Head.{Head as HeadValue}
use Rattle.rs01_ecchead.specs.declared.head.HeadRefusal.{HeadRefusal}
use Rattle.rs01_ecchead.specs.declared.opened.EccRefusal.{EccRefusal}
use Rattle.rs01_ecchead.specs.declared.opened.EccRefusal.TheVariants.{Head}
use Rattle.rs01_ecchead.proofs.Parts.{piece_then}
use Rattle.rs01_ecchead.proofs.opening.read_header.Goals as goal

-- a refused header
refused : (file header : List ℕ) (why : HeadRefusal) (r : Result HeadValue EccRefusal) (w : EccRefusal) → r ≡ Err w → w ≡ Head why
    → header ≡ take 4096 file → head_of header ≡ Err why → ReadsHeader file r
refused file header why r w is head e h =
    rw is (λ other f. let same : why ≡ other = cc in ap head_of (sym e) ∙ h ∙ ap (λ (x : HeadRefusal). let e : Result Fields HeadRefusal = Err x in e) same)

pub returns-in_err-read_head-clause-header : goal.returns-in_err-read_head-clause-header
returns-in_err-read_head-clause-header g c = λ t long.
    let p = err_from_is_err_and c.from_residual-in_err-read_head.result c.from_residual-in_err-read_head.ensures.1 in
    refused _ c.read_piece.new.into _ _ p.0 p.1 p.2
    (piece_then (g.D.Desk.state c.args.desk.now).files (g.D.Desk.state c.args.desk.now).files c.args.name.now c.read_piece.new.into 0 4096 refl c.read_piece.auto.into (c.in_ok-read_piece.ensures.filled t) long)
    c.in_err-read_head.ensures

pub returns-clause-header : goal.returns-clause-header
returns-clause-header g c = λ t long.
    ap head_of (sym (piece_then (g.D.Desk.state c.args.desk.now).files (g.D.Desk.state c.args.desk.now).files c.args.name.now c.read_piece.new.into 0 4096 refl c.read_piece.auto.into (c.in_ok-read_piece.ensures.filled t) long))
    ∙ c.in_ok-read_head.ensures
