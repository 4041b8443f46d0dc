-- The kinds of lines that reports consist of. Each ends with one newline.
use Rattle.std.specs.Prelude.{ℕ, ◌&&◌, ◌≡◌, if◌then◌else◌, Bool, true, false, nat_lt, List, [], ◌∷◌, ◌++◌, length, codes, string_bytes, String, Result, OnOk}
use Rattle.std.specs.List.{flat_map}
use Rattle.std.specs.Fmt.{decimal}
use Rattle.hex.specs.Hex.{encode_lower}
use Rattle.rs01_report.specs.Runs.{list_text}
use Rattle.rs01_report.specs.declared.reports.Fullest.{Fullest}
use Rattle.rs01_report.specs.declared.reports.Mark.{Mark}
use Rattle.rs01_report.specs.declared.reports.Mark.TheVariants.{Matches, Differs, Absent}
use Rattle.rs01_report.specs.declared.reports.Strange.{Strange}
use Rattle.rs01_report.specs.declared.reports.Why.{Why}
use Rattle.rs01_report.specs.declared.reports.Why.TheVariants.{Codeword, Sum}

-- a text has these bytes behind what it had, where that succeeded
abbrev pub Adds : {A E : Type 0} → String A → String A → List ℕ → Result Unit E → Type 0
Adds old new bytes result = OnOk result (string_bytes new ≡ string_bytes old ++ bytes)

-- what is told, and a text
unfoldable pub text_line : List ℕ → List ℕ → List ℕ
text_line what text = what ++ (text ++ 10 ∷ [])

-- what is counted, and its number
unfoldable pub count_line : List ℕ → ℕ → List ℕ
count_line what count = what ++ (decimal count ++ 10 ∷ [])

-- which sectors, their count and their runs
unfoldable pub list_line : List ℕ → List ℕ → List ℕ
list_line which sectors = which ++ (list_text sectors ++ 10 ∷ [])

-- whose digest, and its 32 lower case digits
unfoldable pub digest_line : List ℕ → List ℕ → List ℕ
digest_line whose sum = whose ++ (encode_lower sum ++ 10 ∷ [])

-- how a digest compares with the recorded one, with a word for the digest of what isn't there
abbrev pub mark_text : Mark → List ℕ → List ℕ
mark_text Matches absent = codes "matches"
mark_text Differs absent = codes "differs"
mark_text Absent absent = absent

unfoldable pub mark_line : List ℕ → Mark → List ℕ → List ℕ
mark_line whose mark absent = text_line whose (mark_text mark absent)

unfoldable pub shape_line : ℕ → ℕ → ℕ → List ℕ
shape_line sectors layers parity =
    codes "sectors " ++ (decimal sectors ++ (codes ", layers " ++ (decimal layers ++ (codes ", parity " ++ (decimal parity ++ 10 ∷ [])))))

unfoldable pub last_sector_line : ℕ → List ℕ
last_sector_line bytes = codes "last sector " ++ (decimal bytes ++ (codes " bytes" ++ 10 ∷ []))

unfoldable pub scanned_line : ℕ → List ℕ
scanned_line sectors = codes "scanned " ++ (decimal sectors ++ (codes " sectors" ++ 10 ∷ []))

unfoldable pub fullest_line : Fullest → List ℕ
fullest_line fullest =
    codes "fullest layer " ++ (decimal fullest.layer ++ (codes ": " ++ (decimal fullest.erased ++ (codes " of " ++ (decimal fullest.parity ++ 10 ∷ [])))))

-- the fullest layer, and how many layers are beyond their bound
unfoldable pub fullness_lines : Fullest → List ℕ
fullness_lines fullest = fullest_line fullest ++ count_line (codes "layers beyond ") fullest.beyond

-- why a layer is strange
abbrev pub why_text : Why → List ℕ
why_text (Codeword codeword) = codes "codeword " ++ (decimal codeword ++ codes " disagrees")
why_text (Sum sector) = codes "sector " ++ (decimal sector ++ codes " has another checksum")

unfoldable pub strange_line : Strange → List ℕ
strange_line strange = codes "layer " ++ (decimal strange.layer ++ (codes ": " ++ (why_text strange.why ++ 10 ∷ [])))

-- the number of strange layers, and a line for each
unfoldable pub strange_lines : List Strange → List ℕ
strange_lines layers = count_line (codes "strange layers ") (length layers) ++ flat_map strange_line layers

-- the sectors that correction put in place, those that stay lost, and the strange layers
unfoldable pub outcome_lines : List ℕ → List ℕ → List Strange → List ℕ
outcome_lines restored lost strange =
    list_line (codes "restored ") restored ++ (list_line (codes "lost ") lost ++ strange_lines strange)

abbrev pub surplus_line : ℕ → List ℕ
surplus_line bytes = count_line (codes "surplus bytes ") bytes

-- the surplus, and whether one above 0 was cut
unfoldable pub left_line : ℕ → Bool → List ℕ
left_line bytes cut =
    if cut && nat_lt 0 bytes then codes "surplus bytes " ++ (decimal bytes ++ (codes ", cut" ++ 10 ∷ [])) else surplus_line bytes

unfoldable pub original_line : Bool → List ℕ
original_line true = codes "image is the original" ++ 10 ∷ []
original_line false = codes "image isn't the original" ++ 10 ∷ []
