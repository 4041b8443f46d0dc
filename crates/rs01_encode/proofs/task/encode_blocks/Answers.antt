use Rattle.std.proofs.Common.{◌≡◌, ℕ, ◌+◌, ◌-◌, List, [], ◌∷◌, ◌++◌, refl, sym, ap, ◌∙◌, length, arith, append-nil}
use Rattle.std.proofs.lemmas.List.Concat.{flat_map-append}
use Rattle.std.specs.List.{flat_map, range_with_len}
use Rattle.rs01_poly.specs.Code.{encode}
use Rattle.rs01_layers.specs.Layer.{column}
use Rattle.rs01_layers.specs.Blocks.{blocks_of}
use Rattle.rs01_encode.specs.Task.{parity_of}
use Rattle.rs01_encode.proofs.ParityPieces.{range_more}
use Rattle.rs01_encode.proofs.task.encode_blocks.Goals as goal

no_codeword : (blocks : List (List ℕ)) → [] ≡ parity_of 0 blocks
unfolding parity_of
no_codeword blocks = refl

one_codeword_more : (blocks : List (List ℕ)) (b : ℕ) (old new word parity : List ℕ) → old ≡ parity_of b blocks → word ≡ column blocks b
    → parity ≡ encode word → new ≡ old ++ parity → new ≡ parity_of (b + 1) blocks
unfolding parity_of
one_codeword_more blocks b old new word parity held gathered encoded put =
    let f : ℕ → List ℕ = λ k. encode (column blocks k) in
    put ∙ (λ i. held i ++ (encoded ∙ ap encode gathered ∙ sym (append-nil (f b))) i)
    ∙ sym (flat_map-append f (range_with_len 0 b) (b ∷ [])) ∙ ap (flat_map f) (sym (range_more b))

pub loop-codeword-init : goal.loop-codeword-init
loop-codeword-init c = c.in_ok-bytes.ensures.items ∙ no_codeword (blocks_of (255 - c.args.input.now.parity_count) c.args.input.now.data_)

pub loop-codeword-preserved : goal.loop-codeword-preserved
loop-codeword-preserved c =
    let n : length c.loop-codeword.data_ ≡ 255 - c.args.input.now.parity_count = omega arith in
    one_codeword_more (blocks_of (255 - c.args.input.now.parity_count) c.args.input.now.data_) c.loop-codeword.codeword c.loop-codeword.bytes.items _ _ _
    c.loop-codeword.invariant
    (c.column_of_blocks_into.ensures ∙ (λ i. column (blocks_of (n i) (c.items.ensures i)) c.loop-codeword.codeword))
    c.encode.ensures.parity c.in_ok-extend_from_slice.ensures.items

pub returns : goal.returns
returns c =
    let all : c.loop-codeword.codeword ≡ 2048 = omega arith in
    c.loop-codeword.invariant ∙ ap (λ n. parity_of n (blocks_of (255 - c.args.input.now.parity_count) c.args.input.now.data_)) all
