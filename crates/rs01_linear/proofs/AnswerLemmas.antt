-- What is answered of the error correction file that may be given, and the number that the drives gave.
use Rattle.std.proofs.Common.{◌≡◌, ℕ, ◌^◌, ◌<◌, ap, arith, sym, refl, subst, List}
use Rattle.std.proofs.lemmas.Result.{err_from_is_err_and}
use Rattle.std.specs.Prelude.{IsErrAnd, IsOk, Option, Some, None, Result, Ok, Err}
use Rattle.std.specs.Borrow.{Bor}
use Rattle.std.specs.Option.{ForSome}
use Rattle.rs01_outside.specs.DeskState.{DeskState}
use Rattle.rs01_rack.specs.Rack.{RackState}
use Rattle.rs01_rack.specs.declared.refusal.RackRefusal.{RackRefusal}
use Rattle.rs01_ecchead.specs.Erased.{Known}
use Rattle.rs01_ecchead.specs.Opened.{opened_file}
use Rattle.rs01_ecchead.specs.declared.opened.Ecc.{Ecc}
use Rattle.rs01_linear.specs.Lasting.{RackLasts}
use Rattle.rs01_linear.specs.Medium.{AnswersFile, AnswersNamed, Finds, IsGiven, MakesMedium, Numbered, OpensGiven, TellsOpened, file_given, known_of, plain}
use Rattle.rs01_linear.specs.Refusal.{IsOfOpening, IsOfWork, RefusesSizeAlone}
use Rattle.rs01_linear.specs.declared.medium.Medium.{Medium}
use Rattle.rs01_linear.specs.declared.refusal.ReadRefusal.{ReadRefusal}
use Rattle.rs01_linear.specs.declared.refusal.ReadRefusal.TheVariants.{DriveSize, Ecc as EccRefused, OutOfMemory, Rack, ReadFault, WriteFault}
use Rattle.rs01_linear.proofs.LastingLemmas.{rack_lasts}
use Rattle.rs01_linear.proofs.MediumLemmas.{size_alone}

-- a name that is given, and none

some_none : {A : Type 0} (x : A) → Some x ≡ None → ⊥
some_none x e = cc

none_some : {A : Type 0} (x : A) → None ≡ Some x → ⊥
none_some x e = cc

ungiven : (desk : DeskState) (ecc : Option (Bor (List ℕ))) → file_given desk ecc ≡ None → ecc ≡ None
ungiven desk None e = refl
ungiven desk (Some name) e = absurd (some_none (desk.files name.now) e)

none_opened : (ecc : Option (Bor (List ℕ))) (opened : Option Ecc) → IsGiven ecc opened → ecc ≡ None → opened ≡ None
none_opened None None given e = refl
none_opened None (Some opened) given e = absurd given
none_opened (Some name) opened given e = absurd (some_none name e)

-- what is answered of the file

ok_is : {T E : Type 0} (result : Result T E) (value : T) → result ≡ Ok value → IsOk result
ok_is result value is = rw is refl

opens : (file : Option (Option (List ℕ))) (opened : Option Ecc) → OpensGiven file (Ok opened) → ForSome file (λ given. IsOk (opened_file given))
opens None opened is = λ given e. absurd (none_some given e)
opens (Some file) None is = absurd (some_none file is)
opens (Some file) (Some opened) is = λ given e.
    let same : file ≡ given = cc in
    subst (λ (f : Option (List ℕ)). IsOk (opened_file f)) same (ok_is (opened_file file) _ is)

-- the file was refused
pub answers_opening : (desk : DeskState) (ecc : Option (Bor (List ℕ))) (answer : Result Medium ReadRefusal) (told why : ReadRefusal) → answer ≡ Err told → told ≡ why
    → TellsOpened desk ecc (Err why) → IsOfOpening why → AnswersNamed desk ecc answer
answers_opening desk ecc answer told why is from opened of = rw is (rw from (record { file = by why opened of; size = alone why of }))
  where
    by : (why : ReadRefusal) → TellsOpened desk ecc (Err why) → IsOfOpening why → AnswersFile {T = Medium} desk ecc (Err why)
    by (EccRefused why) opened of = opened
    by (Rack why) opened of = absurd of
    by (DriveSize n) opened of = absurd of
    by ReadFault opened of = tt
    by WriteFault opened of = absurd of
    by OutOfMemory opened of = tt

    alone : (why : ReadRefusal) → IsOfOpening why → RefusesSizeAlone ecc why
    alone (EccRefused why) of = tt
    alone (Rack why) of = absurd of
    alone (DriveSize n) of = absurd of
    alone ReadFault of = tt
    alone WriteFault of = absurd of
    alone OutOfMemory of = tt

-- it opened, and the drives gave no number
pub answers_no_number : (desk : DeskState) (ecc : Option (Bor (List ℕ))) (opened : Option Ecc) (answer : Result Medium ReadRefusal) (told : ReadRefusal) (why : RackRefusal)
    → answer ≡ Err told → told ≡ Rack why → TellsOpened desk ecc (Ok opened) → AnswersNamed desk ecc answer
answers_no_number desk ecc opened answer told why is from tells = rw is (rw from (record { file = λ t. opens (file_given desk ecc) opened (tells t); size = tt }))

-- they gave one
pub answers_number : (desk : DeskState) (ecc : Option (Bor (List ℕ))) (opened : Option Ecc) (n : ℕ) (answer : Result Medium ReadRefusal)
    → TellsOpened desk ecc (Ok opened) → IsGiven ecc opened → MakesMedium opened n answer → AnswersNamed desk ecc answer
answers_number desk ecc opened n answer tells given made = record { file = by answer made; size = size_alone ecc opened n answer given made }
  where
    by : (answer : Result Medium ReadRefusal) → MakesMedium opened n answer → AnswersFile desk ecc answer
    by (Ok medium) made = λ t. opens (file_given desk ecc) opened (tells t)
    by (Err why) made = rw made.why_is (λ t. opens (file_given desk ecc) opened (tells t))

-- the medium wasn't opened
pub answers_unopened : {T : Type 0} (desk : DeskState) (ecc : Option (Bor (List ℕ))) (answer : Result T ReadRefusal) (why : ReadRefusal) → IsErrAnd answer (λ (told : ReadRefusal). told ≡ why)
    → AnswersNamed {T = Medium} desk ecc (Err why) → AnswersNamed desk ecc answer
answers_unopened {T} desk ecc answer why is opening =
    let p = err_from_is_err_and answer is in
    rw p.1 (rw p.2 (record { file = by why opening.file; size = opening.size }))
  where
    by : (why : ReadRefusal) → AnswersFile {T = Medium} desk ecc (Err why) → AnswersFile {T = T} desk ecc (Err why)
    by (EccRefused why) opening = opening
    by (Rack why) opening = opening
    by (DriveSize n) opening = opening
    by ReadFault opening = tt
    by WriteFault opening = opening
    by OutOfMemory opening = tt

-- it was, and the work ended by a fault or for want of memory
pub answers_work : {T : Type 0} (desk : DeskState) (ecc : Option (Bor (List ℕ))) (medium : Medium) (answer : Result T ReadRefusal) (why : ReadRefusal) → IsErrAnd answer (λ (told : ReadRefusal). told ≡ why)
    → IsOfWork why → AnswersNamed desk ecc (Ok medium) → AnswersNamed desk ecc answer
answers_work {T} desk ecc medium answer why is work opening =
    let p = err_from_is_err_and answer is in
    rw p.1 (rw p.2 (record { file = by why work opening.file; size = alone why work }))
  where
    by : (why : ReadRefusal) → IsOfWork why → AnswersFile desk ecc (Ok medium) → AnswersFile {T = T} desk ecc (Err why)
    by (EccRefused why) work opening = absurd work
    by (Rack why) work opening = absurd work
    by (DriveSize n) work opening = absurd work
    by ReadFault work opening = tt
    by WriteFault work opening = opening
    by OutOfMemory work opening = tt

    alone : (why : ReadRefusal) → IsOfWork why → RefusesSizeAlone ecc why
    alone (EccRefused why) work = absurd work
    alone (Rack why) work = absurd work
    alone (DriveSize n) work = absurd work
    alone ReadFault work = tt
    alone WriteFault work = tt
    alone OutOfMemory work = tt

-- it was, and the work was done
pub answers_done : {T : Type 0} (desk : DeskState) (ecc : Option (Bor (List ℕ))) (medium : Medium) (value : T) → AnswersNamed desk ecc (Ok medium) → AnswersNamed desk ecc (Ok value)
answers_done desk ecc medium value opening = record { file = opening.file; size = tt }

-- the number that the drives gave

-- nothing became of the drives behind it
pub still_lasts : (medium : Medium) (old mid : RackState) → old.asks < 2 ^ 128 → Finds (Ok medium) old mid → RackLasts mid mid
still_lasts medium old mid small finds = rack_lasts mid (omega (arith, finds.asks, small))

pub numbered : (medium : Medium) (old mid new : RackState) → Finds (Ok medium) old mid → RackLasts mid new → (n : ℕ) × Numbered n old new
numbered medium old mid new finds lasts = (finds.gives.number, record { between = mid; gives = finds.gives.gives; lasts = lasts })

-- without a file it is the medium's
pub plain_numbered : (desk : DeskState) (ecc : Option (Bor (List ℕ))) (medium : Medium) (old mid new : RackState) → IsGiven ecc medium.ecc → Finds (Ok medium) old mid → RackLasts mid new
    → file_given desk ecc ≡ None → Numbered (known_of medium).sectors old new
plain_numbered desk ecc medium old mid new given finds lasts none =
    let same : known_of medium ≡ plain finds.gives.number = finds.gives.plain_is (none_opened ecc medium.ecc given (ungiven desk ecc none)) in
    subst (λ n. Numbered n old new) (sym (ap (λ (k : Known). k.sectors) same)) (record { between = mid; gives = finds.gives.gives; lasts = lasts })
