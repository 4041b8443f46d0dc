-- What words ask to be told in place of a command's work.
use Rattle.std.specs.Prelude.{ℕ, List, Bool, ◌||◌, codes, Option, Some, None, if◌then◌else◌}
use Rattle.std.specs.List.{slice_get}
use Rattle.std.specs.Option.{option_and_then}
use Rattle.std.specs.Str.{bytes_eq}
use Rattle.rs01_words.specs.declared.table.Verb.{Verb}
use Rattle.rs01_words.specs.Grammar.{verb_of}
use Rattle.rs01_help.specs.declared.topic.Topic.{Topic}
use Rattle.rs01_help.specs.declared.topic.Topic.TheVariants.{All, Page, Version}

-- whether a first word asks for help, and whether one asks for the version
abbrev pub asks_help : List ℕ → Bool
asks_help word = bytes_eq word (codes "--help") || (bytes_eq word (codes "-h") || bytes_eq word (codes "help"))

abbrev pub asks_version : List ℕ → Bool
asks_version word = bytes_eq word (codes "--version") || bytes_eq word (codes "-V")

-- help is on the command that is named, and else on all
abbrev pub page_of : Option Verb → Topic
page_of None = All
page_of (Some verb) = Page verb

-- a command is asked for its page by the option behind it
abbrev pub asks_page : List ℕ → Bool
asks_page word = bytes_eq word (codes "--help") || bytes_eq word (codes "-h")

abbrev pub page_asked : Option Verb → Option (List ℕ) → Option Topic
page_asked None second = None
page_asked (Some verb) None = None
page_asked (Some verb) (Some word) = if asks_page word then Some (Page verb) else None

abbrev pub topic_by : Option (List ℕ) → Option (List ℕ) → Option Topic
topic_by None second = Some All
topic_by (Some word) second =
    if asks_help word then Some (page_of (option_and_then verb_of second))
    else (if asks_version word then Some Version else page_asked (verb_of word) second)

-- by the first word and the second
unfoldable pub topic_of : List (List ℕ) → Option Topic
topic_of words = topic_by (slice_get words 0) (slice_get words 1)
