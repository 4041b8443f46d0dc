-- A header that no refusal fits gives its fields.
use Rattle.std.proofs.Common.{◌≡◌, ℕ, ◌+◌, ◌≤◌, List, Bool, true, false, ◌∙◌, sym, arith}
use Rattle.std.specs.Prelude.{codes, Ok, Err}
use Rattle.std.specs.Str.{bytes_eq}
use Rattle.std.proofs.lemmas.Bool.Decides.{nat_tests}
use Rattle.rs01_ecchead.specs.declared.head.HeadRefusal.TheVariants.{Cookie}
use Rattle.rs01_ecchead.specs.Header.{Fields, head_of, judged}
use Rattle.rs01_lists.specs.Bytes.{part}

pub accepted : (cookie method : Bool) (needed sectors data_bytes parity last_bytes : ℕ) (fields : Fields) → cookie ≡ true → method ≡ true
    → needed ≤ 1 → 1 ≤ sectors → sectors ≤ 16777215 → 8 ≤ parity → parity ≤ 100 → data_bytes + parity ≡ 255 → last_bytes ≤ 2048
    → judged cookie method needed sectors data_bytes parity last_bytes fields ≡ Ok fields
unfolding judged
accepted cookie method needed sectors data_bytes parity last_bytes fields hc hm version some few least most whole last = grind (arith, nat_tests)

pub no_cookie : (bytes : List ℕ) (b : Bool) → b ≡ bytes_eq (part bytes 0 12) (codes "*dvdisaster*") → b ≡ false → head_of bytes ≡ Err Cookie
unfolding head_of judged
no_cookie bytes b e f = rw (sym e ∙ f)
