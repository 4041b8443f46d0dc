use Rattle.std.proofs.Common.{◌∙◌, ap}
use Rattle.std.specs.Str.{bytes_eq}
use Rattle.rs01_demo.proofs.StepLemmas.{piece_is}
use Rattle.rs01_demo.proofs.comparing.is_run.Goals as goal

pub returns-clause-same : goal.returns-clause-same
returns-clause-same g c = λ t fits.
    c.eq.ensures
    ∙ ap (λ xs. bytes_eq xs c.args.made.now) (piece_is _ c.read_piece.new.into c.args.at _ (c.read_piece.auto.into ∙ c.requires) fits (c.in_ok-read_piece.ensures.filled t))
