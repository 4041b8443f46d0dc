-- Lists of workers, and one worker more.
use Rattle.std.proofs.Common.{◌≡◌, ℕ, suc, List, [], ◌∷◌, ◌++◌, ap, append_assoc, refl, sym, ◌∙◌}
use mathlib.Core.Option.{some}
use lib.ListN.{get_elem?}
use Rattle.atomic_table.specs.Seated.{TableId}
use Rattle.rs01_table.specs.declared.seats.Worker.{Worker}
use Rattle.rs01_table.specs.declared.views.View.{View}
use Rattle.rs01_table.specs.declared.views.Gave.{Gave}
use Rattle.rs01_table.specs.Views.{worker_first}
use Rattle.rs01_table.specs.Seats.{AreFree, HaveNone, IsFree, HasNoInput, gathered, given_by}

-- the last one of free workers, and the others
pub free-last : {T : Type 0} (id : TableId) (ws : List (Worker T)) (w : Worker T) → AreFree id (ws ++ w ∷ []) → AreFree id ws × ((w.seat.table_id ≡ id) × IsFree w)
free-last id [] w all = (tt, all.0)
free-last id (x ∷ ws) w all = let r = free-last id ws w all.1 in ((all.0, r.0), r.1)

-- the same of workers without an input
pub none-last : {T : Type 0} (id : TableId) (ws : List (Worker T)) (w : Worker T) → HaveNone id (ws ++ w ∷ []) → HaveNone id ws × ((w.seat.table_id ≡ id) × HasNoInput w)
none-last id [] w all = (tt, all.0)
none-last id (x ∷ ws) w all = let r = none-last id ws w all.1 in ((all.0, r.0), r.1)

pub none-more : {T : Type 0} (id : TableId) (ws : List (Worker T)) (w : Worker T) → HaveNone id ws → w.seat.table_id ≡ id → HasNoInput w → HaveNone id (ws ++ w ∷ [])
none-more id [] w all mine none_here = ((mine, none_here), tt)
none-more id (x ∷ ws) w all mine none_here = (all.0, none-more id ws w all.1 mine none_here)

-- the workers of a new window
pub free-first : {T : Type 0} (id : TableId) (ws : List (Worker T))
    → ((k : ℕ) (w : Worker T) → get_elem? ws k ≡ some w → (w.seat.table_id ≡ id) × ((j : ℕ) × (w.seat.me.0 ≡ worker_first j))) → AreFree id ws
free-first id [] each = tt
free-first id (x ∷ ws) each =
    let one = each 0 x refl in
    ((one.0, (ap (λ (v : View). v.held) one.1.1, ap (λ (v : View). v.over) one.1.1)), free-first id ws (λ k. each (suc k)))

pub gathered-first : {T : Type 0} (id : TableId) (ws : List (Worker T))
    → ((k : ℕ) (w : Worker T) → get_elem? ws k ≡ some w → (w.seat.table_id ≡ id) × ((j : ℕ) × (w.seat.me.0 ≡ worker_first j))) → gathered ws ≡ []
gathered-first id [] each = refl
gathered-first id (x ∷ ws) each =
    let one = each 0 x refl in
    let mine : given_by x ≡ [] = ap (λ (v : View). v.given) one.1.1 in
    let others : gathered ws ≡ [] = gathered-first id ws (λ k. each (suc k)) in
    λ i. others i ++ mine i

pub gathered-snoc : {T : Type 0} (ws : List (Worker T)) (w : Worker T) → gathered (ws ++ w ∷ []) ≡ given_by w ++ gathered ws
gathered-snoc [] w = sym (append_nil (given_by w))
  where
    append_nil : (l : List Gave) → l ++ [] ≡ l
    append_nil [] = refl
    append_nil (x ∷ l) = λ i. x ∷ append_nil l i
gathered-snoc (x ∷ ws) w = ap (λ l. l ++ given_by x) (gathered-snoc ws w) ∙ append_assoc (given_by w) (gathered ws) (given_by x)
