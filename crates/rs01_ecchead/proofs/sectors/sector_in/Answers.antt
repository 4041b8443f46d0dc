use Rattle.std.proofs.Common.{◌≡◌, ◌∙◌, ◌*◌, List, ℕ, arith}
use Rattle.rs01_layers.specs.Sectors.{block}
use Rattle.rs01_outside.specs.Files.{bytes_of}
use Rattle.rs01_lists.specs.Bytes.{padded, part}
use Rattle.rs01_ecchead.proofs.sectors.sector_in.Goals as goal

-- a part from a sector's start on, padded, is its block
padded_part : (file into : List ℕ) (s at n len w : ℕ) → at ≡ 2048 * s → len ≡ n → w ≡ 2048 → into ≡ padded w (part file at len) → into ≡ block file s n
unfolding block
padded_part file into s at n len w a l e put = put ∙ (λ i. padded (e i) (part file (a i) (l i)))

pub returns-clause-block : goal.returns-clause-block
returns-clause-block g c = λ t _.
    padded_part (bytes_of (g.D.Desk.state c.args.desk.now).files c.args.name.now) _ c.args.sector _ _ c.length-count.result _
    (omega arith) c.length-count.ensures.value (omega arith) (c.in_ok-read_padded.ensures.bytes t)
