-- What is kept of the answers to layers, as it is told.
use Rattle.std.proofs.Common.{◌≡◌, ℕ, ◌+◌, ◌<◌, ◌∙◌, ap, sym, List, [], ◌∷◌, ◌++◌, length, take, get_or, option_to_list}
use Rattle.std.specs.Prelude.{Option}
use Rattle.std.proofs.lemmas.List.{append-nil, take_more}
use Rattle.std.proofs.lemmas.List.Concat.{flat_map-append}
use Rattle.rs01_report.specs.declared.reports.Strange.{Strange}
use Rattle.rs01_adaptive.specs.Noting.{strange_noted}

-- one layer more
pub strange_more : (xs : List (Option Strange)) (i : ℕ) (d : Option Strange) (now after : List Strange) → i < length xs → now ≡ strange_noted (take i xs)
    → after ≡ now ++ option_to_list (get_or xs i d) → after ≡ strange_noted (take (i + 1) xs)
strange_more xs i d now after below held put =
    put ∙ ap (λ (ys : List Strange). ys ++ option_to_list (get_or xs i d)) held
    ∙ sym (ap strange_noted (take_more xs i d below) ∙ flat_map-append option_to_list (take i xs) (get_or xs i d ∷ [])
    ∙ ap (λ (ys : List Strange). strange_noted (take i xs) ++ ys) (append-nil (option_to_list (get_or xs i d))))
