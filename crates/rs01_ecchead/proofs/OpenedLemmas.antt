-- What is told of a file that was found to have n bytes.
use Rattle.std.proofs.Common.{◌≡◌, ◌≢◌, ℕ, ◌<◌, ◌≤◌, List, [], length, take, drop, refl, sym, ap, ◌∙◌, arith, true, false}
use Rattle.std.specs.Prelude.{Option, Some, None, Result, Ok, Err, ◌==◌, not, if◌then◌else◌}
use Rattle.std.specs.Option.{option_map, unwrap_or}
use Rattle.std.specs.Str.{bytes_eq}
use Rattle.std.proofs.lemmas.Bool.Decides.{nat_tests, Decides-eqb}
use Rattle.std.proofs.lemmas.Bool.{le-ltb, lt-ltb}
use Rattle.md5.specs.Md5.{md5}
use Rattle.rs01_outside.specs.Files.{Files, bytes_of}
use Rattle.rs01_layers.specs.Layout.{file_size}
use Rattle.rs01_ecchead.specs.declared.head.HeadRefusal.{HeadRefusal}
use Rattle.rs01_ecchead.specs.declared.opened.EccRefusal.{EccRefusal}
use Rattle.rs01_ecchead.specs.declared.opened.EccRefusal.TheVariants.{Body, Head, NoFile, OutOfMemory, ReadFault, Size}
use Rattle.rs01_ecchead.specs.Header.{Fields, head_of}
use Rattle.rs01_ecchead.specs.Opened.{IsOfFile, Opened, opened, opened_as, opened_by, opened_file, opened_with}
use Rattle.rs01_ecchead.specs.Opening.{IsBody, IsJudged, IsOfHeader, Opens, ReadsHeader}
use Rattle.rs01_ecchead.specs.Head.{fields_of}
use Rattle.rs01_ecchead.specs.Recorded.{parity_in, sums_in}
use Rattle.rs01_ecchead.specs.declared.opened.Ecc.{Ecc}
use Rattle.rs01_ecchead.specs.declared.opening.Body.{Body as BodyRead}
use Rattle.rs01_ecchead.specs.declared.head.Head as told
use Rattle.rs01_sums.specs.Checksums.{Checksums}

pub too_short : (o : Option (List ℕ)) (n : ℕ) → Some n ≡ option_map length o → n < 4096 → opened_file o ≡ Err (Size n 4096)
unfolding opened
too_short None n e l = cc
too_short (Some file) n e l =
    let same : length file ≡ n = cc in
    rw same (rw (lt-ltb n 4096 l) refl)

-- a file that is long enough is judged by its header
long_enough : (file : List ℕ) (n : ℕ) → length file ≡ n → 4096 ≤ n → opened file ≡ opened_with (head_of (take 4096 file)) file
unfolding opened
long_enough file n same l = rw same (rw (le-ltb n 4096 l) refl)

pub bad_head : (o : Option (List ℕ)) (n : ℕ) (why : HeadRefusal) → Some n ≡ option_map length o → 4096 ≤ n → head_of (take 4096 (unwrap_or o [])) ≡ Err why
    → opened_file o ≡ Err (Head why)
unfolding opened_with
bad_head None n why e l h = cc
bad_head (Some file) n why e l h =
    let same : length file ≡ n = cc in
    long_enough file n same l ∙ ap (λ (r : Result Fields HeadRefusal). opened_with r file) h

pub bad_size : (o : Option (List ℕ)) (n : ℕ) (f : Fields) → Some n ≡ option_map length o → 4096 ≤ n → head_of (take 4096 (unwrap_or o [])) ≡ Ok f
    → n ≢ file_size f.sectors f.parity → opened_file o ≡ Err (Size n (file_size f.sectors f.parity))
unfolding opened_with
bad_size None n f e l h ne = cc
bad_size (Some file) n f e l h ne =
    let same : length file ≡ n = cc in
    let test : (n == file_size f.sectors f.parity) ≡ false = grind (arith, nat_tests) in
    long_enough file n same l ∙ ap (λ (r : Result Fields HeadRefusal). opened_with r file) h ∙ rw same (rw test refl)

-- a file of the right length is judged by its digest
right_size : (file : List ℕ) (n : ℕ) (f : Fields) → length file ≡ n → 4096 ≤ n → head_of (take 4096 file) ≡ Ok f → n ≡ file_size f.sectors f.parity
    → opened file ≡ (if not (bytes_eq (md5 (drop 4096 file)) f.body_sum) then Err (Body (md5 (drop 4096 file)) f.body_sum) else Ok (opened_by f file))
unfolding opened_with
right_size file n f same l h size =
    let test : (length file == file_size f.sectors f.parity) ≡ true = (Decides-eqb (length file) (file_size f.sectors f.parity)).1 (same ∙ size) in
    long_enough file n same l ∙ ap (λ (r : Result Fields HeadRefusal). opened_with r file) h ∙ rw test refl

pub bad_body : (o : Option (List ℕ)) (n : ℕ) (f : Fields) (digest : List ℕ) → Some n ≡ option_map length o → 4096 ≤ n → head_of (take 4096 (unwrap_or o [])) ≡ Ok f
    → n ≡ file_size f.sectors f.parity → digest ≡ md5 (drop 4096 (unwrap_or o [])) → bytes_eq digest f.body_sum ≡ false
    → opened_file o ≡ Err (Body digest f.body_sum)
bad_body None n f digest e l h size d test = cc
bad_body (Some file) n f digest e l h size d test =
    let same : length file ≡ n = cc in
    right_size file n f same l h size ∙ rw (sym d) (rw test refl)

pub all_right : (o : Option (List ℕ)) (n : ℕ) (f : Fields) (digest : List ℕ) → Some n ≡ option_map length o → 4096 ≤ n → head_of (take 4096 (unwrap_or o [])) ≡ Ok f
    → n ≡ file_size f.sectors f.parity → digest ≡ md5 (drop 4096 (unwrap_or o [])) → bytes_eq digest f.body_sum ≡ true
    → opened_file o ≡ Ok (opened_by f (unwrap_or o []))
all_right None n f digest e l h size d test = cc
all_right (Some file) n f digest e l h size d test =
    let same : length file ≡ n = cc in
    right_size file n f same l h size ∙ rw (sym d) (rw test refl)

pub size_is : (o : Option (List ℕ)) (n : ℕ) → Some n ≡ option_map length o → length (unwrap_or o []) ≡ n
size_is None n e = cc
size_is (Some file) n e = cc

-- what was read later, when the files were still the same
pub long_then : (f0 f1 : Files) (name : List ℕ) (n : ℕ) → Some n ≡ option_map length (f0 name) → f1 ≡ f0 → length (bytes_of f1 name) ≡ n
long_then f0 f1 name n e same = ap (λ (f : Files). length (bytes_of f name)) same ∙ size_is (f0 name) n e

pub head_then : (f0 f1 : Files) (name : List ℕ) (n : ℕ) (r : Result Fields HeadRefusal) → Some n ≡ option_map length (f0 name) → f1 ≡ f0 → 4096 ≤ n
    → (4096 ≤ length (bytes_of f1 name) → head_of (take 4096 (bytes_of f1 name)) ≡ r) → head_of (take 4096 (bytes_of f0 name)) ≡ r
head_then f0 f1 name n r e same l read =
    ap (λ (f : Files). head_of (take 4096 (bytes_of f name))) (sym same) ∙ read (omega (arith, long_then f0 f1 name n e same))

pub body_then : (f0 f1 : Files) (name : List ℕ) (n want : ℕ) (body : BodyRead) (m k : ℕ) → Some n ≡ option_map length (f0 name) → f1 ≡ f0 → n ≡ want → m ≡ k
    → (length (bytes_of f1 name) ≡ want → IsBody (bytes_of f1 name) m body) → IsBody (bytes_of f0 name) k body
body_then f0 f1 name n want body m k e same size count read =
    let is = read (long_then f0 f1 name n e same ∙ size) in
    record {
      sums = is.sums ∙ (λ i. sums_in (bytes_of (same i) name) (count i));
      digest = is.digest ∙ ap (λ (f : Files). md5 (drop 4096 (bytes_of f name))) same;
    }

-- a refusal of the header alone
by_header : (o : Option (List ℕ)) (n : ℕ) (w : EccRefusal) → Some n ≡ option_map length o → 4096 ≤ n → IsOfHeader w → IsOfFile w
    → ((why : HeadRefusal) → w ≡ Head why → head_of (take 4096 (unwrap_or o [])) ≡ Err why) → opened_file o ≡ Err w
by_header o n (Head why) e l cause of h = bad_head o n why e l (h why refl)
by_header o n NoFile e l cause of h = absurd cause
by_header o n (Size have want) e l cause of h = absurd cause
by_header o n (Body have want) e l cause of h = absurd cause
by_header o n ReadFault e l cause of h = absurd of
by_header o n OutOfMemory e l cause of h = absurd cause

-- the answer that hands it on
pub header_refuses : (f0 f1 : Files) (name : List ℕ) (n : ℕ) (answer : Result Ecc EccRefusal) (x w : EccRefusal) → answer ≡ Err x → x ≡ w
    → Some n ≡ option_map length (f0 name) → f1 ≡ f0 → 4096 ≤ n → IsOfHeader w
    → (4096 ≤ length (bytes_of f1 name) → ReadsHeader (bytes_of f1 name) (Err w)) → Opens (f0 name) answer
header_refuses f0 f1 name n answer x w is from e same l cause read =
    rw (is, from) (λ of. by_header (f0 name) n w e l cause of (λ why h. head_then f0 f1 name n (Err why) e same l (λ long. read long why h)))

-- the answer that keeps what it read
pub body_agrees : (o : Option (List ℕ)) (n : ℕ) (ecc : Ecc) (digest : List ℕ) → Some n ≡ option_map length o → 4096 ≤ n
    → head_of (take 4096 (unwrap_or o [])) ≡ Ok (fields_of ecc.head) → n ≡ file_size ecc.head.sectors ecc.head.parity → digest ≡ md5 (drop 4096 (unwrap_or o []))
    → bytes_eq digest ecc.head.body_sum ≡ true → ecc.sums.list ≡ sums_in (unwrap_or o []) ecc.head.sectors → opened_file o ≡ Ok (opened_as ecc (unwrap_or o []))
body_agrees o n ecc digest e l h size d test sums =
    all_right o n (fields_of ecc.head) digest e l h size d test
    ∙ ap (λ xs. let answer : Result Opened EccRefusal = Ok (record { fields = fields_of ecc.head; sums = xs; parity = parity_in (unwrap_or o []) ecc.head.sectors ecc.head.parity }) in answer) (sym sums)

-- the answer to a file whose header and length are right
pub judged_so : (o : Option (List ℕ)) (n : ℕ) (head : told.Head) (body : BodyRead) (answer : Result Ecc EccRefusal) → IsJudged head body answer → Some n ≡ option_map length o
    → 4096 ≤ n → head_of (take 4096 (unwrap_or o [])) ≡ Ok (fields_of head) → n ≡ file_size head.sectors head.parity → IsBody (unwrap_or o []) head.sectors body
    → Opens o answer
judged_so o n head body (Ok kept) judged e l h size is =
    let back = sym judged.same_head in
    body_agrees o n kept body.digest e l (h ∙ ap (λ (x : told.Head). let answer : Result Fields HeadRefusal = Ok (fields_of x) in answer) back)
    (size ∙ ap (λ (x : told.Head). file_size x.sectors x.parity) back) is.digest
    (ap (λ (x : told.Head). bytes_eq body.digest x.body_sum) judged.same_head ∙ judged.agrees)
    (ap (λ (x : Checksums). x.list) judged.same_sums ∙ is.sums ∙ ap (λ (x : told.Head). sums_in (unwrap_or o []) x.sectors) back)
judged_so o n head body (Err why) judged e l h size is = λ of.
    bad_body o n (fields_of head) body.digest e l h size is.digest judged.0
    ∙ ap (λ (x : EccRefusal). let answer : Result Opened EccRefusal = Err x in answer) (sym judged.1)
