use Rattle.std.proofs.Common.{◌≡◌}
use Rattle.std.proofs.lemmas.List.Elements.{All-from_get_or}
use Rattle.rs01_poly.proofs.Difference.{difference_law}
use Rattle.rs01_poly.proofs.laws_of_code.difference_law.Goals as goal

pub returns : goal.returns
returns c = λ long e out rising few.
    All-from_get_or (λ b. b ≡ 0) c.args.word.now 0
    (λ k h. difference_law c.args.word.now c.args.places.now c.args.n long (λ k. (c.type_inv.word k).fits) rising few out e k)
