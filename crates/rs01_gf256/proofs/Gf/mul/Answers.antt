use Rattle.std.proofs.Common.{◌≡◌, ℕ, ◌⊎◌, ⊎_elim, inl, inr, sym, arith}
use Rattle.rs01_gf256.specs.Field.{times}
use Rattle.rs01_gf256.proofs.Laws.{zero-times, times-zero}
use Rattle.rs01_gf256.proofs.Logarithms.{by_logs}
use Rattle.rs01_gf256.proofs.Gf.mul.Goals as goal

nothing : (x y : ℕ) → (x ≡ 0) ⊎ (y ≡ 0) → 0 ≡ times x y
nothing x y = ⊎_elim (λ e. rw e (sym (zero-times y))) (λ e. rw e (sym (times-zero x)))

pub returns-then-other-eq0 : goal.returns-then-other-eq0
returns-then-other-eq0 c = nothing c.args.self.0 c.args.other.0 (⊎_elim (λ e. inl e) (λ p. inr p.1) c.if-other-eq0.either)

pub returns-else-other-eq0 : goal.returns-else-other-eq0
returns-else-other-eq0 c = by_logs c.args.self.0 c.args.other.0 (omega arith) (omega arith) (omega arith) (omega arith)
