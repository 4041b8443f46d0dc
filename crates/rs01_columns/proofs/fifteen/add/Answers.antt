use Rattle.std.proofs.Common.{ℕ, List, bit_xor, refl, sym, ◌∙◌}
use Rattle.rs01_gf256.specs.Field.{times}
use Rattle.rs01_columns.specs.Fifteen.{lane_of, step}
use Rattle.rs01_columns.proofs.Chained.{lane_stepped, other_lane}
use Rattle.rs01_columns.proofs.fifteen.add.Goals as goal

pub returns : goal.returns
returns c = λ l h j.
    let old : List ℕ = c.args.room.now in
    let new : List ℕ = c.store.new.bytes in
    lane_stepped (step c.args.into c.args.from 1) (lane_of old l) (lane_of new l) j refl
    (λ e.
    (λ i. lane_of new l (e i))
    ∙ c.store.ensures.here l h
    ∙ c.add_once.ensures.each l h
    ∙ (λ i. bit_xor (c.load-old.ensures.each l h i) (times 1 (c.load-v.ensures.each l h i)))
    ∙ (λ i. bit_xor (lane_of old l (sym e i)) (times 1 (lane_of old l c.args.from))))
    (λ ne. other_lane old new c.args.into l j h c.store.ensures.rest ne)
