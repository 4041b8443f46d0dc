use Rattle.std.proofs.Common.{◌≡◌, ◌∙◌, ap, arith, sym, cond, true, false, Some, None}
use Rattle.std.specs.Prelude.{◌==◌}
use Rattle.std.specs.Option.{option_or}
use Rattle.std.proofs.lemmas.Bool.Decides.{nat_tests}
use Rattle.rs01_rack.proofs.Numbers.{seen_first, seen_more}
use Rattle.rs01_rack.proofs.counting.and_then.Goals as goal
use Rattle.rs01_rack.proofs.counting.and_then.Goals.{then-number-first, else-number-first}

pub returns-in-None : goal.returns-in-None
returns-in-None c = λ numbers is. seen_first c.args.number c.args.seen numbers c.in-None.is is

pub returns-after-number-first : goal.returns-after-number-first
returns-after-number-first c = λ numbers is.
    let differs : c.if-number-first.differs ≡ cond (c.args.number == c.in-Some.first) None (Some c.args.number) =
    elim c.if-number-first.branch [
      | then-number-first w ↦
          let test : (c.args.number == c.in-Some.first) ≡ true = grind (arith, nat_tests) in
          w.differs-is ∙ sym (ap (λ b. cond b None (Some c.args.number)) test)
      | else-number-first w ↦
          let test : (c.args.number == c.in-Some.first) ≡ false = grind (arith, nat_tests) in
          w.differs-is ∙ sym (ap (λ b. cond b None (Some c.args.number)) test)
    ] in
    rw (c.or.ensures ∙ ap (option_or c.args.seen.other) differs) (seen_more c.args.number c.in-Some.first c.args.seen numbers c.in-Some.is is)
