use Rattle.std.proofs.Common.{◌≡◌, ◌+◌, length, map}
use Rattle.rs01_words.specs.Grammar.{row_of}
use Rattle.rs01_words.specs.Line.{given_places, texts, IsKnown}
use Rattle.rs01_words.specs.Command.{AreWithin}
use Rattle.rs01_words.specs.declared.table.OptionWord.TheVariants.{Drive}
use Rattle.rs01_words.proofs.read.drives.Given as goal

abbrev pub invariant-loop-place : goal.invariant-loop-place
invariant-loop-place l = record {
  known : IsKnown l.verb (texts l.words) l.place l.before;
  found : l.drives ≡ map (λ i. i + 1) (given_places l.verb (texts l.words) (row_of Drive).text l.place);
  within : AreWithin (length l.words) l.drives;
}
