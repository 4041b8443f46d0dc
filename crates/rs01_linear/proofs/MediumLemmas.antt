-- What becomes of the drives while a medium is opened.
use Rattle.std.proofs.Common.{◌≡◌, ℕ, ◌^◌, ◌<◌, ◌∙◌, List, Bor, refl, sym}
use Rattle.std.specs.Prelude.{IfErr, Option, Some, None, Result, Ok, Err}
use Rattle.rs01_rack.specs.Rack.{RackState}
use Rattle.rs01_rack.specs.Counting.{GivesNumber}
use Rattle.rs01_rack.specs.Counting as counting
use Rattle.rs01_rack.specs.declared.refusal.RackRefusal.{RackRefusal}
use Rattle.rs01_rack.specs.declared.refusal.RackRefusal.TheVariants.{Differ, Failed, NoDrive}
use Rattle.rs01_ecchead.specs.declared.opened.Ecc.{Ecc}
use Rattle.rs01_linear.specs.Medium.{Finds, HasCause, IsGiven, MakesMedium}
use Rattle.rs01_linear.specs.Refusal.{RefusesSizeAlone}
use Rattle.rs01_linear.specs.declared.medium.Medium.{Medium}
use Rattle.rs01_linear.specs.declared.refusal.ReadRefusal.{ReadRefusal}
use Rattle.rs01_linear.specs.declared.refusal.ReadRefusal.TheVariants as refusal
use Rattle.rs01_linear.proofs.CountLemmas.{number_lasts, number_same}

-- the drives gave no number
pub finds_no_number : (answer : Result Medium ReadRefusal) (told : ReadRefusal) (why : RackRefusal) (old new : RackState) → answer ≡ Err told → told ≡ refusal.Rack why
    → old.asks < 2 ^ 128 → GivesNumber (Err why) old new → counting.HasCause (Err why) old new → Finds answer old new
finds_no_number answer told why old new is from small gives cause = rw is (rw from (record {
  lasts = number_lasts (Err why) old new small gives;
  same = number_same (Err why) old new gives;
  asks = gives.asks;
  gives = gives;
  cause = by_why why cause;
}))
  where
    by_why : (why : RackRefusal) → counting.HasCause (Err why) old new → HasCause (Err (refusal.Rack why)) old new
    by_why NoDrive cause = cause
    by_why (Differ one other) cause = cause
    by_why (Failed place) cause = cause

-- they gave one, which says whether there is a medium where it has no file
pub finds_number : (ecc : Option Ecc) (n : ℕ) (answer : Result Medium ReadRefusal) (old new : RackState) → MakesMedium ecc n answer
    → old.asks < 2 ^ 128 → GivesNumber (Ok n) old new → counting.HasCause (Ok n) old new → Finds answer old new
finds_number ecc n (Ok medium) old new made small gives cause = record {
  lasts = number_lasts (Ok n) old new small gives;
  same = number_same (Ok n) old new gives;
  asks = gives.asks;
  gives = record { number = n; gives = gives; plain_is = λ none. made.plain_is (sym made.ecc_is ∙ none) };
  cause = cause;
}
finds_number ecc n (Err why) old new made small gives cause = rw made.why_is (record {
  lasts = number_lasts (Ok n) old new small gives;
  same = number_same (Ok n) old new gives;
  asks = gives.asks;
  gives = (gives, made.unfit);
  cause = cause;
})

some_none : (x : Ecc) → Some x ≡ None → ⊥
some_none x e = cc

-- they gave one that no medium without a file has, so no file was named
pub size_alone : (ecc : Option (Bor (List ℕ))) (opened : Option Ecc) (n : ℕ) (answer : Result Medium ReadRefusal) → IsGiven ecc opened → MakesMedium opened n answer
    → IfErr answer (RefusesSizeAlone ecc)
size_alone ecc opened n (Ok medium) given made = tt
size_alone None opened n (Err why) given made = rw made.why_is refl
size_alone (Some name) None n (Err why) given made = absurd given
size_alone (Some name) (Some file) n (Err why) given made = absurd (some_none file made.no_file)
