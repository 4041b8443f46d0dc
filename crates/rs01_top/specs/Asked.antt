-- The work that words ask for.
use Rattle.std.specs.Prelude.{ℕ, List, Result, Ok, Err, false, true}
use Rattle.std.specs.Option.{option_map}
use Rattle.rs01_words.specs.declared.command.Command.{Command}
use Rattle.rs01_words.specs.declared.command.Command.TheVariants as command
use Rattle.rs01_words.specs.declared.fault.WordRefused.{WordRefused}
use Rattle.rs01_words.specs.Line.{word_at}
use Rattle.rs01_words.specs.Command.{words_of}
use Rattle.rs01_top.specs.Create.{create_work}
use Rattle.rs01_top.specs.Demo.{demo_work}
use Rattle.rs01_top.specs.Faults.{word_fault}
use Rattle.rs01_top.specs.Fix.{fix_work}
use Rattle.rs01_top.specs.Read.{read_work}
use Rattle.rs01_top.specs.Scan.{scan_work}
use Rattle.rs01_top.specs.Turned.{adaptive_work}
use Rattle.rs01_top.specs.Verify.{verify_work}
use Rattle.rs01_top.specs.Work.{Work, no_work}

-- the work of a command: the one place with a row for each
abbrev pub work_of : List (List ℕ) → Command → Work
work_of words (command.Create image ecc parity workers) = create_work (word_at words image) (word_at words ecc) parity
work_of words (command.Fix image ecc workers cut) = fix_work (word_at words image) (word_at words ecc) cut
work_of words (command.Verify image ecc) = verify_work (word_at words image) (word_at words ecc)
work_of words (command.Scan ecc drives) = scan_work (option_map (word_at words) ecc)
work_of words (command.Read image ecc drives true jump tries workers) =
    adaptive_work (word_at words image) (option_map (word_at words) ecc) tries
work_of words (command.Read image ecc drives false jump tries workers) =
    read_work (word_at words image) (option_map (word_at words) ecc) jump tries
work_of words (command.Demo number sectors parity lost) = demo_work number sectors parity lost

-- where the words are in the grammar, and else none but to tell their fault
abbrev pub work_by : List (List ℕ) → Result Command WordRefused → Work
work_by words (Ok asked) = work_of words asked
work_by words (Err refused) = no_work (word_fault refused)

abbrev pub work_for : List (List ℕ) → Work
work_for words = work_by words (words_of words)
