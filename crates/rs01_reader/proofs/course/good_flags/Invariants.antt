use Rattle.std.proofs.Common.{◌≡◌, map, take}
use Rattle.rs01_reader.specs.Courses.{is_kept}
use Rattle.rs01_reader.proofs.course.good_flags.Given as goal

abbrev pub invariant-loop-fate : goal.invariant-loop-fate
invariant-loop-fate l = l.flags.items ≡ map is_kept (take l.fate-index l.fates)
