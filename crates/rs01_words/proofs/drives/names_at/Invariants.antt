use Rattle.std.proofs.Common.{◌≡◌, map, take}
use Rattle.rs01_words.specs.Line.{texts, word_at}
use Rattle.rs01_words.proofs.drives.names_at.Given as goal

abbrev pub invariant-loop-i : goal.invariant-loop-i
invariant-loop-i l = texts l.names.items ≡ map (word_at (texts l.words)) (take l.i l.places)
