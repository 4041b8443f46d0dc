use Rattle.std.proofs.Common.{◌≡◌, ◌∙◌, ◌++◌, ap, sym, List, [], ℕ, length}
use Rattle.std.specs.Prelude.{None, Some}
use Rattle.rs01_lists.specs.Bytes.{padded}
use Rattle.rs01_layers.specs.Sectors.{block, length_of, last_of, sectors_of}
use Rattle.rs01_layers.specs.Layout.{sector_at}
use Rattle.rs01_layers.specs.Layer.{block_at}
use Rattle.rs01_layers.proofs.BlockLemmas.{block_of_padding, block_of_sector}
use Rattle.rs01_layers.proofs.blocks.push_place.Goals as goal

-- the block that was put is the one at the place
some_put : (image before after : List ℕ) (n last m r l place s len : ℕ) → n ≡ sectors_of (length image) → last ≡ last_of (length image) → m ≡ n
    → sector_at m r l place ≡ Some s → len ≡ length_of n last s → after ≡ before ++ block image s len → after ≡ before ++ block_at image r l place
some_put image before after n last m r l place s len ne le me at e put =
    put
    ∙ ap (λ k. before ++ block image s k) (e ∙ (λ i. length_of (ne i) (le i) s))
    ∙ ap (λ xs. before ++ xs) (sym (block_of_sector image r l place s (ap (λ k. sector_at k r l place) (sym (me ∙ ne)) ∙ at)))

none_put : (image before after : List ℕ) (n m r l place : ℕ) → n ≡ sectors_of (length image) → m ≡ n
    → sector_at m r l place ≡ None → after ≡ before ++ padded 2048 [] → after ≡ before ++ block_at image r l place
none_put image before after n m r l place ne me at put =
    put ∙ ap (λ xs. before ++ xs) (sym (block_of_padding image r l place (ap (λ k. sector_at k r l place) (sym (me ∙ ne)) ∙ at)))

pub returns-in_ok-push_block-in-Some : goal.returns-in_ok-push_block-in-Some
returns-in_ok-push_block-in-Some c =
    some_put c.args.image.now _ _ c.args.extent.now.sectors c.args.extent.now.last_bytes c.args.shape.now.sectors c.args.shape.now.parity c.args.layer c.args.place c.in-Some.sector _
    c.requires.extent.sectors c.requires.extent.last c.requires.shape (sym c.sector_at.ensures ∙ c.in-Some.is) c.length.ensures.value c.in_ok-push_block-in-Some.ensures

pub returns-in_ok-push_padded-in-None : goal.returns-in_ok-push_padded-in-None
returns-in_ok-push_padded-in-None c =
    none_put c.args.image.now _ _ c.args.extent.now.sectors c.args.shape.now.sectors c.args.shape.now.parity c.args.layer c.args.place
    c.requires.extent.sectors c.requires.shape (sym c.sector_at.ensures ∙ c.in-None.is) c.in_ok-push_padded-in-None.ensures
