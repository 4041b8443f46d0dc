use Rattle.std.proofs.Common.{◌≡◌, ◌≤◌, ◌+◌, ◌*◌, ◌∙◌, sym, arith, ⊎_elim}
use Rattle.std.proofs.lemmas.Bool.{cases_lt}
use Rattle.std.proofs.lemmas.Nat.{mul-le}
use Rattle.rs01_columns.proofs.Laid.{earlier_byte}
use Rattle.rs01_columns.proofs.laying.read_parity.Goals as goal

pub loop-l-preserved : goal.loop-l-preserved
loop-l-preserved c =
    let n = c.read_parity_of.ensures in
    let v = c.loop-l.invariant in
    let r = c.args.r in
    record {
      long = c.read_parity_of.auto.parity ∙ v.long;
      here = λ m j h k.
          ⊎_elim
          (λ earlier. v.here m j earlier k ∙ sym (n.before ((c.args.first + m) * r + j) (earlier_byte c.args.first m c.loop-l.l r j earlier k)))
          (λ g. let same : c.loop-l.l ≡ m = omega arith in rw same at (n.here j k))
          (cases_lt m c.loop-l.l);
      before = λ k h.
          n.before k (let room : c.args.first * r ≤ (c.args.first + c.loop-l.l) * r = mul-le c.args.first r (c.args.first + c.loop-l.l) r (omega arith) (omega arith) in omega (arith, room))
          ∙ v.before k h;
    }
