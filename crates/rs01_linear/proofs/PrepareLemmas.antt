-- An image file that isn't got ready.
use Rattle.std.proofs.Common.{◌≡◌, ℕ, ◌∙◌, ap, sym, List, [], ◌⊎◌, inl, inr}
use Rattle.std.specs.Prelude.{Option, Some, None, Result, Err}
use Rattle.std.specs.Option.{unwrap_or}
use Rattle.rs01_ecchead.specs.Erased.{Known}
use Rattle.rs01_linear.specs.Linear.{Prepares}
use Rattle.rs01_linear.specs.declared.prepared.Prepared.{Prepared}
use Rattle.rs01_linear.specs.declared.refusal.ReadRefusal.{ReadRefusal}

pub not_started : (known : Known) (old new : Option (List ℕ)) (result : Result Prepared ReadRefusal) (why : ReadRefusal) → result ≡ Err why
    → (new ≡ old) ⊎ ((old ≡ None) × (new ≡ Some [])) → Prepares known old new result
not_started known old new result why is started =
    rw is (elim started [
      | inl same ↦ inl same
      | inr made ↦ inr (0, made.1 ∙ ap Some (sym (ap (λ o. unwrap_or o []) made.0)))
    ])
