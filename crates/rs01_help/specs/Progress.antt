-- How far a work has come, in a line that stands in place of the one before it. What is done is never told to be more
-- than all there is.
use Rattle.std.specs.Prelude.{ℕ, List, [], ◌∷◌, ◌++◌, ◌+◌, ◌-◌, ◌*◌, ◌/◌, ◌==◌, min, codes, if◌then◌else◌}
use Rattle.std.specs.Fmt.{decimal}

-- a product by a quotient, and 0 where that has none
unfoldable pub share : ℕ → ℕ → ℕ → ℕ
share of times by = if by == 0 then 0 else of * times / by

-- the line before it is taken away
unfoldable pub again : List ℕ
again = 13 ∷ 27 ∷ codes "[K"

-- after so many milliseconds, so many whole seconds are left at the same speed
unfoldable pub left_part : ℕ → ℕ → ℕ → List ℕ
left_part done total millis = codes ", " ++ (decimal (share (total - done) millis done / 1000) ++ codes " s left")

-- how much of a file is read, and how fast
unfoldable pub size_part : ℕ → ℕ → List ℕ
size_part done total = decimal (share done 100 total) ++ (codes " % of " ++ (decimal (total / 1000000) ++ codes " MB"))

unfoldable pub speed_part : ℕ → ℕ → List ℕ
speed_part done millis = codes ", " ++ (decimal (share done 1 millis / 1000) ++ codes " MB a second")

-- of a work on files, by the bytes that are read
unfoldable pub bytes_done : ℕ → ℕ → ℕ → List ℕ
bytes_done done total millis = again ++ (size_part done total ++ (speed_part done millis ++ left_part done total millis))

abbrev pub bytes_line : ℕ → ℕ → ℕ → List ℕ
bytes_line done total millis = bytes_done (min done total) total millis

-- how many layers are settled, where any is
unfoldable pub settled_part : ℕ → List ℕ
settled_part settled = if settled == 0 then [] else codes ", layers settled " ++ decimal settled

-- what drives were asked for: how often a block was given, and how often not
unfoldable pub asks_part : ℕ → ℕ → List ℕ
asks_part given failed =
    codes ", asked " ++ (decimal (given + failed) ++ (codes ", good " ++ (decimal given
    ++ (codes ", failed " ++ decimal failed))))

-- of a work on drives, by the number of the sectors up to the last that was asked for
unfoldable pub sectors_done : ℕ → ℕ → ℕ → ℕ → ℕ → ℕ → List ℕ
sectors_done done total given failed settled millis =
    again ++ (codes "sector " ++ (decimal done ++ (codes " of " ++ (decimal total
    ++ (asks_part given failed ++ (settled_part settled ++ (codes ", " ++ (decimal (share (given + failed) 1000 millis)
    ++ (codes " a second" ++ left_part done total millis)))))))))

abbrev pub sectors_line : ℕ → ℕ → ℕ → ℕ → ℕ → ℕ → List ℕ
sectors_line done total given failed settled millis = sectors_done (min done total) total given failed settled millis
