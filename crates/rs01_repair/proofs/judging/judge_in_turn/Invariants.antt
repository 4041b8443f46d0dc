use Rattle.std.proofs.Common.{◌≡◌, ◌+◌, ◌<◌, ◌≤◌, ℕ, length, get_or}
use Rattle.rs01_repair.specs.Parts.{IsJudged}
use Rattle.rs01_repair.specs.declared.part.Part.{Part}
use Rattle.rs01_repair.proofs.judging.judge_in_turn.Given as goal

abbrev pub invariant-loop-k : goal.invariant-loop-k
invariant-loop-k l = record {
  len : length l.parts ≡ length l.initial.parts;
  done : (j : ℕ) (d : Part) → j < l.k → IsJudged l.found (l.first + j) (get_or l.initial.parts j d) (get_or l.parts j d);
  left : (j : ℕ) (d : Part) → l.k ≤ j → get_or l.parts j d ≡ get_or l.initial.parts j d;
}
