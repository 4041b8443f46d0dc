-- What a person is told of each command, option and plain word beside its row: what it does, or what it stands for.
use Rattle.std.specs.Prelude.{ℕ, List, codes}
use Rattle.rs01_words.specs.declared.table.OptionWord.{OptionWord}
use Rattle.rs01_words.specs.declared.table.OptionWord.TheVariants.{Parity, Workers, Cut, Drive, Adaptive, Jump, Tries}
use Rattle.rs01_words.specs.declared.table.PlainName.{PlainName}
use Rattle.rs01_words.specs.declared.table.PlainName.TheVariants as plain
use Rattle.rs01_words.specs.declared.table.Verb.{Verb}
use Rattle.rs01_words.specs.declared.table.Verb.TheVariants as verb

abbrev pub verb_sense : Verb → List ℕ
verb_sense verb.Create = codes "makes ECC from IMAGE, and replaces what stands under that name"
verb_sense verb.Fix = codes "computes lost sectors again, and writes them into IMAGE"
verb_sense verb.Verify = codes "tells what is missing or altered in IMAGE, and changes nothing"
verb_sense verb.Scan = codes "tells which sectors the drives still give, and writes nothing"
verb_sense verb.Read = codes "asks the drives for each sector that IMAGE doesn't have good, and writes it there"
verb_sense verb.Demo = codes "makes demo.iso and demo.ecc anew, damages the image and repairs it"

abbrev pub option_sense : OptionWord → List ℕ
option_sense Parity = codes "parity bytes in a codeword of 255"
option_sense Workers = codes "threads that work"
option_sense Cut = codes "cuts off what follows the image in its file"
option_sense Drive = codes "a drive, or a file in place of one; asked in this order; given at least once"
option_sense Adaptive = codes "goes on in the middle of the longest unread run"
option_sense Jump = codes "without --adaptive: how far behind a failed sector it goes on"
option_sense Tries = codes "how often a drive is asked for a sector"

abbrev pub plain_sense : PlainName → List ℕ
plain_sense plain.Image = codes "the image's file, or a device"
plain_sense plain.Ecc = codes "its error correction file"
plain_sense plain.Number = codes "what the image is made from"
plain_sense plain.Sectors = codes "how many sectors it has"
plain_sense plain.Parity = codes "parity bytes in a codeword of 255"
plain_sense plain.Lost = codes "how many of its first sectors are lost, at most SECTORS"
