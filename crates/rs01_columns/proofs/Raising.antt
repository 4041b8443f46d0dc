-- Sixteen more bytes of a column have taken four products.
use Rattle.std.proofs.Common.{◌≡◌, ℕ, ◌+◌, ◌-◌, ◌*◌, ◌<◌, ◌≤◌, List, get_or, arith, length, ◌∙◌, sym, ⊎_elim}
use Rattle.std.proofs.lemmas.Bool.{cases_lt}
use Rattle.rs01_columns.specs.Fours.{AreApart, AreBothRaised, AreRaised, BothTakeFour, IsApart, OnlyInBoth, places_on, raised_by}
use Rattle.rs01_columns.specs.Ranges.{SameBefore, SameBetween, SameFrom}
use Rattle.rs01_columns.specs.declared.adding.FourPlaces.{FourPlaces}
use Rattle.rs01_columns.specs.declared.adding.FourTables.{FourTables}
use Rattle.rs01_columns.specs.declared.adding.TwoPlaces.{TwoPlaces}
use Rattle.rs01_columns.specs.declared.adding.EightTables.{EightTables}

-- the bytes of a column are as at first
abbrev pub Kept : List ℕ → List ℕ → ℕ → Type 0
Kept first now at = (k : ℕ) → k < 1024 → get_or now (at + k) 0 ≡ get_or first (at + k) 0

-- all four are
pub record AllKept (first now : List ℕ) (p : FourPlaces) : Type 0 where
  pub one : Kept first now p.one
  pub two : Kept first now p.two
  pub three : Kept first now p.three
  pub four : Kept first now p.four

pub more : (t : FourTables) (first now next : List ℕ) (p q : FourPlaces) (into i : ℕ) → i < 64
    → q ≡ places_on p (16 * i)
    → AreRaised first now t p into (16 * i)
    → ((k : ℕ) → 16 * i ≤ k → k < 1024 → get_or now (into + k) 0 ≡ get_or first (into + k) 0)
    → AllKept first now p
    → AreRaised now next t q (into + 16 * i) 16
    → ((k : ℕ) → k < 16 * i → get_or next (into + k) 0 ≡ get_or now (into + k) 0)
    → AreRaised first next t p into (16 * (i + 1))
more t first now next p q into i below at done rest from here kept k l =
    ⊎_elim
    (λ h. kept k h ∙ done k h)
    (λ (g : 16 * i ≤ k).
    let m : ℕ = k - 16 * i in
    let same : (x : ℕ) → x + 16 * i + m ≡ x + k = λ x. omega arith in
    let inside : k < 1024 = omega arith in
    (λ s. get_or next (sym (same into) s) 0)
    ∙ here m (omega arith)
    ∙ (λ s. raised_by t (get_or now (same into s) 0) (get_or now ((at s).one + m) 0) (get_or now ((at s).two + m) 0)
    (get_or now ((at s).three + m) 0) (get_or now ((at s).four + m) 0))
    ∙ (λ s. raised_by t (get_or now (into + k) 0) (get_or now (same p.one s) 0) (get_or now (same p.two s) 0) (get_or now (same p.three s) 0) (get_or now (same p.four s) 0))
    ∙ (λ s. raised_by t (rest k g inside s) (from.one k inside s) (from.two k inside s) (from.three k inside s) (from.four k inside s)))
    (cases_lt k (16 * i))

-- a column apart from the one that is written is as at first
kept_one : (first now : List ℕ) (into at i : ℕ) → i < 64 → IsApart into at → SameBefore first now into → SameFrom first now (into + 16 * i) → Kept first now at
kept_one first now into at i below apart before after k l =
    ⊎_elim (λ (u : at + 1024 ≤ into). before (at + k) (omega arith)) (λ (u : into + 1024 ≤ at). after (at + k) (omega arith)) apart

pub all_kept : (first now : List ℕ) (into i : ℕ) (p : FourPlaces) → i < 64 → AreApart into p → SameBefore first now into → SameFrom first now (into + 16 * i)
    → AllKept first now p
all_kept first now into i p below apart before after = record {
  one = kept_one first now into p.one i below apart.one before after;
  two = kept_one first now into p.two i below apart.two before after;
  three = kept_one first now into p.three i below apart.three before after;
  four = kept_one first now into p.four i below apart.four before after;
}

-- so is one apart from both
kept_twice : (first now : List ℕ) (one other at i : ℕ) → one + 1024 ≤ other → i < 64 → IsApart one at → IsApart other at
    → SameBefore first now one → SameBetween first now (one + 16 * i) other → SameFrom first now (other + 16 * i) → Kept first now at
kept_twice first now one other at i order below apart apart_too before between after k l =
    ⊎_elim
    (λ (u : at + 1024 ≤ one). before (at + k) (omega arith))
    (λ (u : one + 1024 ≤ at).
    ⊎_elim (λ (v : at + 1024 ≤ other). between (at + k) (omega arith) (omega arith)) (λ (v : other + 1024 ≤ at). after (at + k) (omega arith)) apart_too)
    apart

pub all_kept_twice : (first now : List ℕ) (one other i : ℕ) (p : FourPlaces) → one + 1024 ≤ other → i < 64 → AreApart one p → AreApart other p
    → SameBefore first now one → SameBetween first now (one + 16 * i) other → SameFrom first now (other + 16 * i) → AllKept first now p
all_kept_twice first now one other i p order below apart apart_too before between after = record {
  one = kept_twice first now one other p.one i order below apart.one apart_too.one before between after;
  two = kept_twice first now one other p.two i order below apart.two apart_too.two before between after;
  three = kept_twice first now one other p.three i order below apart.three apart_too.three before between after;
  four = kept_twice first now one other p.four i order below apart.four apart_too.four before between after;
}

-- both places so many bytes on
abbrev pub both_on : TwoPlaces → ℕ → TwoPlaces
both_on into on = record { first = into.first + on; second = into.second + on }

-- sixteen more bytes of two columns have taken four products each
pub both_more : (t : EightTables) (first now next : List ℕ) (p q : FourPlaces) (into : TwoPlaces) (i : ℕ) → i < 64 → BothTakeFour (length first) into p
    → q ≡ places_on p (16 * i) → AreBothRaised first now t p into (16 * i) → OnlyInBoth first now into (16 * i)
    → AreBothRaised now next t q (both_on into (16 * i)) 16 → OnlyInBoth now next (both_on into (16 * i)) 16
    → AreBothRaised first next t p into (16 * (i + 1))
both_more t first now next p q into i below fit at done kept here rest =
    let order : into.first + 1024 ≤ into.second = fit.room.order in
    let all : AllKept first now p = all_kept_twice first now into.first into.second i p order below fit.apart fit.apart_too kept.before kept.between kept.after in
    record {
      first = more t.low first now next p q into.first i below at done.first (λ k g h. kept.between (into.first + k) (omega arith) (omega (arith, order))) all
          here.first (λ k h. rest.before (into.first + k) (omega arith));
      second = more t.high first now next p q into.second i below at done.second (λ k g h. kept.after (into.second + k) (omega arith)) all
          here.second (λ k h. rest.between (into.second + k) (omega (arith, order, below)) (omega arith));
    }

-- and nothing else has changed
pub both_rest : (first now next : List ℕ) (into : TwoPlaces) (i : ℕ) → i < 64 → into.first + 1024 ≤ into.second
    → OnlyInBoth first now into (16 * i) → OnlyInBoth now next (both_on into (16 * i)) 16 → OnlyInBoth first next into (16 * (i + 1))
both_rest first now next into i below order kept rest = record {
  before = λ k h. rest.before k (omega arith) ∙ kept.before k h;
  between = λ k g h. rest.between k (omega arith) (omega arith) ∙ kept.between k (omega arith) h;
  after = λ k h. rest.after k (omega arith) ∙ kept.after k (omega arith);
}
