use Rattle.std.proofs.Common.{◌≡◌, ◌+◌, ◌-◌, ◌*◌, ◌++◌, ◌∙◌, length, take, min, ap, subst, arith, ℕ}
use Rattle.md5.specs.Md5.{Holds}
use Rattle.rs01_create.proofs.Gathering.{bytes_on}
use Rattle.rs01_create.proofs.Surveys.{extent_len}
use Rattle.rs01_create.proofs.digesting.digest_blocks.Goals as goal

pub returns : goal.returns
returns c = λ image of are held.
    let extent = c.args.extent.now in
    let first = c.args.first in
    let count : ℕ = c.args.past - first in
    let len : c.min-len.result ≡ min (2048 * count) (length image - 2048 * first) = omega (arith, extent_len image extent of, c.image_len.ensures.value, c.min-len.ensures, c.from.ensures, c.from-2.ensures) in
    subst (Holds c.update.new.self)
    ((λ i. take (min (2048 * first) (length image)) image ++ take (len i) (are i))
    ∙ bytes_on image extent of first count (omega (arith, c.requires.order, c.requires.inside))
    ∙ ap (λ (k : ℕ). take (min (2048 * k) (length image)) image) (let e : first + count ≡ c.args.past = omega (arith, c.requires.order) in e))
    (c.update.ensures (take (min (2048 * first) (length image)) image) held)
