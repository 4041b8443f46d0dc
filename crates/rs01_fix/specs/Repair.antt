-- What repairing leaves and tells, by the answer to each layer. c is what the error correction file says, the image file
-- is the list y, and answers l is the answer to layer l.
use Rattle.std.specs.Prelude.{ℕ, ◌-◌, ◌&&◌, if◌then◌else◌, Bool, not, nat_lt, is_some, List, [], ◌∷◌, ◌++◌, length, take, drop, filter, Option}
use Rattle.std.specs.List.{flat_map, range_with_len}
use Rattle.std.specs.Option.{unwrap_or}
use Rattle.rs01_layers.specs.Sectors.{length_of}
use Rattle.rs01_layers.specs.Layout.{layer_of, layers_of, number_at, place_of}
use Rattle.rs01_layers.specs.declared.task.LayerOut.{LayerOut}
use Rattle.rs01_layers.specs.declared.task.LayerOut.TheVariants.{Parity, Restored, Beyond, Inconsistent, BadSum}
use Rattle.rs01_sums.specs.Marker.{marker}
use Rattle.rs01_ecchead.specs.Header.{Fields}
use Rattle.rs01_ecchead.specs.Erased.{block_in, image_len, is_absent, is_erased, known_by}
use Rattle.rs01_ecchead.specs.Opened.{Opened}
use Rattle.rs01_report.specs.declared.reports.FixReport.{FixReport}
use Rattle.rs01_report.specs.declared.reports.Strange.{Strange}
use Rattle.rs01_report.specs.declared.reports.Why.TheVariants as why
use Rattle.rs01_repair.specs.Inputs.{flags_at, layer_answer}
use Rattle.rs01_repair.specs.Restored.{HasBlocks, restored_at}

-- the restored block of a sector, where it has one
abbrev pub mended_block : Opened → (ℕ → LayerOut) → ℕ → Option (List ℕ)
mended_block c answers s =
    restored_at (answers (layer_of c.fields.sectors c.fields.parity s)) (place_of c.fields.sectors c.fields.parity s)

unfoldable pub is_mended : Opened → (ℕ → LayerOut) → ℕ → Bool
is_mended c answers s = is_some (mended_block c answers s)

-- the block that a sector has afterwards: its restored one, else its marker where it is absent, else what the image file
-- has of it
unfoldable pub after_by : Opened → List ℕ → (ℕ → LayerOut) → ℕ → List ℕ
after_by c y answers s =
    unwrap_or (mended_block c answers s) (if is_absent (known_by c) y s then marker s else block_in (known_by c) y s)

-- the bytes that a sector has afterwards
abbrev pub bytes_after : Opened → List ℕ → (ℕ → LayerOut) → ℕ → List ℕ
bytes_after c y answers s = take (length_of c.fields.sectors c.fields.last_bytes s) (after_by c y answers s)

-- the image afterwards, without surplus bytes
unfoldable pub image_by : Opened → List ℕ → (ℕ → LayerOut) → List ℕ
image_by c y answers = flat_map (bytes_after c y answers) (range_with_len 0 c.fields.sectors)

-- the image file afterwards: the bytes past the image stay, or are cut
unfoldable pub fixed_by : Opened → List ℕ → (ℕ → LayerOut) → Bool → List ℕ
fixed_by c y answers cut = image_by c y answers ++ (if cut then [] else drop (image_len (known_by c)) y)

-- the mended sectors, and the erased ones that aren't mended
unfoldable pub restored_by : Opened → (ℕ → LayerOut) → List ℕ
restored_by c answers = filter (is_mended c answers) (range_with_len 0 c.fields.sectors)

unfoldable pub is_lost : Opened → List ℕ → (ℕ → LayerOut) → ℕ → Bool
is_lost c y answers s = is_erased (known_by c) y s && not (is_mended c answers s)

unfoldable pub lost_by : Opened → List ℕ → (ℕ → LayerOut) → List ℕ
lost_by c y answers = filter (is_lost c y answers) (range_with_len 0 c.fields.sectors)

-- a layer with few enough erased sectors that isn't restored, and why: a codeword, or the sector at a place
abbrev pub strange_in : Fields → ℕ → LayerOut → List Strange
strange_in f l (Parity bytes) = []
strange_in f l (Restored blocks) = []
strange_in f l (Beyond n) = []
strange_in f l (Inconsistent b) = record { layer = l; why = why.Codeword b } ∷ []
strange_in f l (BadSum p) = record { layer = l; why = why.Sum (number_at f.sectors f.parity l p) } ∷ []

unfoldable pub strange_by : Opened → (ℕ → LayerOut) → List Strange
strange_by c answers = flat_map (λ l. strange_in c.fields l (answers l)) (range_with_len 0 (layers_of c.fields.sectors c.fields.parity))

-- what is told
unfoldable pub report_by : Opened → List ℕ → (ℕ → LayerOut) → Bool → FixReport
report_by c y answers cut = record {
  restored = restored_by c answers;
  lost = lost_by c y answers;
  strange = strange_by c answers;
  surplus = length y - image_len (known_by c);
  cut = cut && nat_lt (image_len (known_by c)) (length y);
}

-- the image file afterwards and what is told, where each layer's answer is what correcting gives
abbrev pub fixed : Opened → List ℕ → Bool → List ℕ
fixed c y cut = fixed_by c y (layer_answer c y) cut

abbrev pub report_of : Opened → List ℕ → Bool → FixReport
report_of c y cut = report_by c y (layer_answer c y) cut

-- each answer has the blocks that it must have
abbrev pub HaveBlocks : Opened → List ℕ → (ℕ → LayerOut) → Type 0
HaveBlocks c y answers = (l : ℕ) → HasBlocks (flags_at c.fields (is_erased (known_by c) y) l) (answers l)
