-- How the making of a file begins.
use Rattle.std.specs.Prelude.{ℕ, ◌≡◌, List, []}
use Rattle.md5.specs.Md5.{Holds}
use Rattle.rs01_create.specs.declared.course.Course.{Course}

-- no layer was given yet, and nothing was read ahead
pub record IsStart (sums : List ℕ) (course : Course) : Type 0 where
  pub first : course.first ≡ 0
  pub next : course.next ≡ 0
  pub none : course.window.items ≡ []
  pub held : Holds course.hasher sums
