-- Which refusal a file gives that was found to have n bytes.
use Rattle.std.proofs.Common.{◌≡◌, ℕ, List, length, refl, sym, ap, ◌∙◌}
use Rattle.std.specs.Prelude.{Option, Some, None}
use Rattle.std.specs.Option.{option_map, option_or}
use Rattle.rs01_create.specs.declared.refusal.CreateRefusal.{CreateRefusal}
use Rattle.rs01_create.specs.declared.refusal.CreateRefusal.TheVariants.{Marker}
use Rattle.rs01_create.specs.Create.{refusal_of, image_refusal, size_refusal, first_marked}

pub by_size : (o : Option (List ℕ)) (n : ℕ) (why : CreateRefusal) → Some n ≡ option_map length o → size_refusal n ≡ Some why → refusal_of o ≡ Some why
unfolding image_refusal
by_size None n why e f = cc
by_size (Some file) n why e f =
    let same : length file ≡ n = cc in
    ap (λ (p : Option CreateRefusal). option_or p (option_map Marker (first_marked file))) (ap size_refusal same ∙ f)

-- the size is right, and the marker of a sector decides
pub by_marker : (o : Option (List ℕ)) (n : ℕ) (bytes : List ℕ) (m : Option ℕ) → Some n ≡ option_map length o
    → ((file : List ℕ) → o ≡ Some file → n ≡ length file → bytes ≡ file) → size_refusal n ≡ None → m ≡ first_marked bytes
    → refusal_of o ≡ option_map Marker m
unfolding image_refusal
by_marker None n bytes m e same f g = cc
by_marker (Some file) n bytes m e same f g =
    let len : n ≡ length file = cc in
    let is : bytes ≡ file = same file refl len in
    ap (λ (p : Option CreateRefusal). option_or p (option_map Marker (first_marked file))) (ap size_refusal (sym len) ∙ f)
    ∙ ap (option_map Marker) (sym (g ∙ ap first_marked is))
