use Rattle.std.proofs.Common.{◌≡◌, ℕ, ◌+◌, ◌-◌, ◌*◌, ◌<◌, ◌≤◌, List, ◌++◌, length, take, drop, get_or, ◌∙◌, ap, arith, ⊎_elim}
use Rattle.std.proofs.lemmas.Bool.{cases_lt}
use Rattle.std.proofs.lemmas.List.{get_or_append_left, get_or-append_right, get_or-take, get_or-drop, length-take, length-drop}
use Rattle.std.proofs.lemmas.List.Elements.{All-get_or}
use Rattle.std.proofs.Math.ListN.{length-append}
use Rattle.rs01_erase.specs.Completed.{HoldsBlocks}
use Rattle.rs01_erase.proofs.by_columns.blocks_at.Goals as goal

-- one more block is appended
one_more : (old new blocks places block : List ℕ) (i : ℕ) → length old ≡ 2048 * i → new ≡ old ++ block
    → ((b : ℕ) → b < 2048 → get_or block b 0 ≡ get_or blocks (2048 * get_or places i 0 + b) 0)
    → HoldsBlocks old blocks places i → HoldsBlocks new blocks places (i + 1)
one_more old new blocks places block i long put here held k b h below =
    ap (λ xs. get_or xs (2048 * k + b) 0) put
    ∙ ⊎_elim
    (λ l. get_or_append_left old block 0 (2048 * k + b) (omega (arith, long)) ∙ held k b l below)
    (λ g.
    let same : i ≡ k = omega arith in
    let at : 2048 * k + b - 2048 * i ≡ b = omega arith in
    get_or-append_right old block (2048 * i) (2048 * k + b) 0 long (omega arith)
    ∙ ap (λ j. get_or block j 0) at
    ∙ here b below
    ∙ ap (λ j. get_or blocks (2048 * get_or places j 0 + b) 0) same)
    (cases_lt k i)

block_more : (old blocks : List ℕ) (at n i : ℕ) → n ≡ 2048 → at + 2048 ≤ length blocks → length old ≡ 2048 * i
    → length (old ++ take n (drop at blocks)) ≡ 2048 * (i + 1)
block_more old blocks at n i wide room long =
    omega (arith, long, length-append old (take n (drop at blocks)), length-take n (drop at blocks), length-drop at blocks)

pub loop-place-preserved : goal.loop-place-preserved
loop-place-preserved c =
    let at : ℕ = 2048 * get_or c.args.erased.now c.loop-place.place-index 0 in
    let inside : at + 2048 ≤ length c.args.blocks.now =
    All-get_or (λ p. 2048 * p + 2048 ≤ length c.args.blocks.now) c.args.erased.now c.loop-place.place-index 0 (omega arith) c.requires.within in
    let wide : at + 2048 - at ≡ 2048 = omega arith in
    let put = c.in_ok-extend_from_slice.ensures.items in
    record {
      long = ap length put ∙ block_more c.loop-place.list.items c.args.blocks.now at (at + 2048 - at) c.loop-place.place-index wide (omega arith) c.loop-place.invariant.long;
      held = one_more c.loop-place.list.items _ c.args.blocks.now c.args.erased.now (take (at + 2048 - at) (drop at c.args.blocks.now)) c.loop-place.place-index
          c.loop-place.invariant.long put
          (λ b h. get_or-take (at + 2048 - at) (drop at c.args.blocks.now) b 0 (omega arith) ∙ get_or-drop at c.args.blocks.now b 0)
          c.loop-place.invariant.held;
    }
