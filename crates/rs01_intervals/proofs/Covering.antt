-- What the nodes of a tree cover.
use Rattle.std.proofs.Common.{◌≡◌, ℕ, ◌+◌, ◌-◌, ◌*◌, ◌^◌, ◌/◌, ◌<◌, ◌≤◌, ◌⊎◌, ⊎_elim, inl, inr, zero, suc, List, [], ◌∷◌, ◌++◌, length, take, drop, get_or, sym, ap, subst, ◌∙◌, arith, drop-cons}
use Rattle.std.specs.Prelude.{Bool, false, ◌≢◌, min}
use Rattle.std.proofs.lemmas.Bool.{cases_eq, cases_lt}
use Rattle.std.proofs.lemmas.List.{length-take, length-drop, drop-drop, take_all, take-append-le, get_or_read, get_or-set_same, get_or-set_other, drop-set-lt, drop-set-add, take-set-le}
use Rattle.std.proofs.Math.ListN.{set, length-set}
use Rattle.std.specs.Int.{IsPowerOfTwo}
use Rattle.std.proofs.lemmas.Nat.{pow_pos}
use Rattle.std.proofs.Math.Nat.{mul-add, add-mul, pow-succ', mul_assoc}
use Rattle.std.proofs.Math.Seq.{take-add}
use Rattle.rs01_intervals.specs.Runs.{best_run, bounds, longest}
use Rattle.rs01_intervals.specs.Summaries.{summary_of, joined}
use Rattle.rs01_intervals.specs.Tree.{between, summary_between, chunk_from, summary_of_chunks, summary_of_chunk, node_at, AllJoinExcept, LeavesStay, IsTree}
use Rattle.rs01_intervals.specs.declared.summary.Summary.{Summary}
use Rattle.rs01_intervals.proofs.Better.{behind-none, best-fits}
use Rattle.rs01_intervals.proofs.Joining.{summary-append}

-- parts of a list

between-length : (xs : List Bool) (a b : ℕ) → a ≤ b → b ≤ length xs → length (between xs a b) ≡ b - a
unfolding between
between-length xs a b up within = omega (arith, length-take (b - a) (drop a xs), length-drop a xs)

between-append : (xs : List Bool) (a b c : ℕ) → a ≤ b → b ≤ c → between xs a b ++ between xs b c ≡ between xs a c
unfolding between
between-append xs a b c ab bc =
    let skip : a + (b - a) ≡ b = omega arith in
    let whole : (b - a) + (c - b) ≡ c - a = omega arith in
    let second : drop (b - a) (drop a xs) ≡ drop b xs = drop-drop (b - a) a xs ∙ ap (λ (n : ℕ). drop n xs) skip in
    ap (λ (l : List Bool). take (b - a) (drop a xs) ++ take (c - b) l) (sym second)
    ∙ sym (take-add (b - a) (c - b) (drop a xs))
    ∙ ap (λ (n : ℕ). take n (drop a xs)) whole

pub between-none : (xs : List Bool) (a b : ℕ) → b ≤ a → between xs a b ≡ []
unfolding between
between-none xs a b past =
    let empty : b - a ≡ 0 = omega arith in
    ap (λ (n : ℕ). take n (drop a xs)) empty

between-one : (xs : List Bool) (place : ℕ) → place < length xs → between xs place (place + 1) ≡ get_or xs place false ∷ []
unfolding between
between-one xs place there =
    let one : place + 1 - place ≡ 1 = omega arith in
    ap (λ (n : ℕ). take n (drop place xs)) one ∙ ap (λ (l : List Bool). take 1 l) (drop-cons xs place false there)

between-all : (xs : List Bool) (a b : ℕ) → a ≡ 0 → b ≡ length xs → between xs a b ≡ xs
unfolding between
between-all xs a b start end = ap (λ (n : ℕ). take (b - n) (drop n xs)) start ∙ take_all (b - 0) xs (omega arith)

-- a flag that changes outside a part
between-set : (xs : List Bool) (place a b : ℕ) (flag : Bool) → (place < a) ⊎ (b ≤ place) → between (set xs place flag) a b ≡ between xs a b
unfolding between
between-set xs place a b flag outside =
    ⊎_elim
    (λ before. ap (λ (l : List Bool). take (b - a) l) (drop-set-lt a xs place flag before))
    (λ from.
    let at : place ≡ a + (place - a) = omega arith in
    let past : b ≤ place = ⊎_elim (λ before. omega arith) (λ h. h) outside in
    ap (λ (n : ℕ). take (b - a) (drop a (set xs n flag))) at
    ∙ ap (λ (l : List Bool). take (b - a) l) (drop-set-add a xs (place - a) flag)
    ∙ take-set-le (b - a) (drop a xs) (place - a) flag (omega arith))
    (cases_lt place a)

-- summaries of parts

two-parts : (xs : List Bool) (a b c : ℕ) → a ≤ b → b ≤ c → c ≤ length xs → joined (summary_between xs a b) (summary_between xs b c) ≡ summary_between xs a c
two-parts xs a b c ab bc within =
    let seam : a + length (between xs a b) ≡ b = omega (arith, between-length xs a b ab (omega arith)) in
    ap (λ (n : ℕ). joined (summary_between xs a b) (summary_of n (between xs b c))) (sym seam)
    ∙ summary-append a (between xs a b) (between xs b c)
    ∙ ap (λ (l : List Bool). summary_of a l) (between-append xs a b c ab bc)

-- one more flag
pub one-more : (xs : List Bool) (a place : ℕ) (known one : Summary) → a ≤ place → place < length xs → known ≡ summary_between xs a place
    → one ≡ summary_of place (get_or xs place false ∷ []) → joined known one ≡ summary_between xs a (place + 1)
one-more xs a place known one up there before flag =
    let last : one ≡ summary_between xs place (place + 1) = flag ∙ sym (ap (λ (l : List Bool). summary_of place l) (between-one xs place there)) in
    ap (λ (s : Summary). joined s one) before
    ∙ ap (λ (s : Summary). joined (summary_between xs a place) s) last
    ∙ two-parts xs a place (place + 1) up (omega arith) (omega arith)

chunk-outside : (xs : List Bool) (place chunk : ℕ) → place < length xs → chunk ≢ place / 64 → (place < chunk_from xs chunk) ⊎ (chunk_from xs (chunk + 1) ≤ place)
chunk-outside xs place chunk there other =
    ⊎_elim (λ earlier. inr (omega arith)) (λ later. inl (omega arith)) (cases_lt chunk (place / 64))

-- the chunks without a flag that changes
other-chunk : (xs : List Bool) (place chunk : ℕ) (flag : Bool) → place < length xs → chunk ≢ place / 64 → summary_of_chunk (set xs place flag) chunk ≡ summary_of_chunk xs chunk
unfolding summary_of_chunk
other-chunk xs place chunk flag there other =
    let outside : (place < chunk_from xs chunk) ⊎ (chunk_from xs (chunk + 1) ≤ place) = chunk-outside xs place chunk there other in
    ap (λ (n : ℕ). summary_between (set xs place flag) (min (64 * chunk) n) (min (64 * (chunk + 1)) n)) (length-set xs place flag)
    ∙ ap (λ (l : List Bool). summary_of (chunk_from xs chunk) l) (between-set xs place (chunk_from xs chunk) (chunk_from xs (chunk + 1)) flag outside)

-- the nodes

doubled : (node width twice : ℕ) → twice ≡ width + width → node * twice ≡ 2 * node * width
doubled node width twice e = omega (arith, ap (λ (n : ℕ). node * n) e, mul-add node width width, mul_assoc 2 node width)

doubled-next : (node width twice : ℕ) → twice ≡ width + width → node * twice + width ≡ (2 * node + 1) * width
doubled-next node width twice e = omega (arith, doubled node width twice e, add-mul (2 * node) 1 width)

at-least : (node width : ℕ) → 1 ≤ width → node ≤ node * width
at-least node zero some = omega arith
at-least node (suc width) some = omega (arith, mul-add node 1 width)

-- a node that stands so high above the leaves is the summary of the 2^height chunks under it
covers : (flags : List Bool) (leaves : ℕ) (nodes : List Summary) → IsTree flags leaves nodes → (height node first : ℕ) → first + leaves ≡ node * 2 ^ height
    → first + 2 ^ height ≤ leaves → node_at nodes node ≡ summary_of_chunks flags first (first + 2 ^ height)
unfolding summary_of_chunk
covers flags leaves nodes tree zero node first place room =
    let leaf : node ≡ leaves + first = omega arith in
    ap (λ (n : ℕ). node_at nodes n) leaf ∙ tree.leaf first (omega arith)
covers flags leaves nodes tree (suc height) node first place room =
    let twice : 2 ^ suc height ≡ 2 ^ height + 2 ^ height = omega (arith, pow-succ' 2 height) in
    let some : 1 ≤ 2 ^ height = pow_pos height in
    let left = covers flags leaves nodes tree height (2 * node) first (place ∙ doubled node (2 ^ height) (2 ^ suc height) twice) (omega arith) in
    let right = covers flags leaves nodes tree height (2 * node + 1) (first + 2 ^ height) (omega (arith, doubled-next node (2 ^ height) (2 ^ suc height) twice)) (omega arith) in
    let inner : node < leaves = omega (arith, at-least (2 * node) (2 ^ height) some, doubled node (2 ^ height) (2 ^ suc height) twice) in
    let above : 1 ≤ node = ⊎_elim (λ none. omega (arith, ap (λ (n : ℕ). n * 2 ^ suc height) none)) (λ other. omega arith) (cases_eq node 0) in
    let end : first + 2 ^ height + 2 ^ height ≡ first + 2 ^ suc height = omega arith in
    tree.inner node above inner
    ∙ ap (λ (s : Summary). joined s (node_at nodes (2 * node + 1))) left
    ∙ ap (λ (s : Summary). joined (summary_of_chunks flags first (first + 2 ^ height)) s) right
    ∙ two-parts flags (chunk_from flags first) (chunk_from flags (first + 2 ^ height)) (chunk_from flags (first + 2 ^ height + 2 ^ height)) (omega arith) (omega arith) (omega arith)
    ∙ ap (λ (n : ℕ). summary_of_chunks flags first n) end

root-covers : (flags : List Bool) (leaves : ℕ) (nodes : List Summary) → IsTree flags leaves nodes → node_at nodes 1 ≡ summary_of 0 flags
root-covers flags leaves nodes tree =
    let all : 0 + 2 ^ tree.power.0 ≡ leaves = omega (arith, tree.power.1) in
    let start : chunk_from flags 0 ≡ 0 = omega arith in
    let end : chunk_from flags (0 + 2 ^ tree.power.0) ≡ length flags = omega (arith, all, tree.covers) in
    covers flags leaves nodes tree tree.power.0 1 0 (omega (arith, tree.power.1)) (omega (arith, all))
    ∙ ap (λ (l : List Bool). summary_of (chunk_from flags 0) l) (between-all flags _ _ start end)
    ∙ ap (λ (n : ℕ). summary_of n flags) start

-- the longest run, read at the root
pub root-is-best : (flags : List Bool) (leaves : ℕ) (nodes : List Summary) (root : Summary) → IsTree flags leaves nodes → root ≡ get_or nodes 1 root → root.best ≡ best_run flags
unfolding summary_of
root-is-best flags leaves nodes root tree read =
    let some : 1 ≤ leaves = omega (arith, tree.power.1, pow_pos tree.power.0) in
    let at = get_or_read nodes 1 root (omega (arith, tree.count)) read (summary_of 0 []) in
    ap (λ (s : Summary). s.best) (at ∙ root-covers flags leaves nodes tree) ∙ behind-none (best_run flags)

-- where it ends, and what it is by start and end
pub root-within : (flags : List Bool) (leaves : ℕ) (nodes : List Summary) (root : Summary) → IsTree flags leaves nodes → root ≡ get_or nodes 1 root → root.best.0 + root.best.1 ≤ length flags
root-within flags leaves nodes root tree read =
    let ends = ap (λ (run : ℕ × ℕ). run.0 + run.1) (root-is-best flags leaves nodes root tree read) in
    omega (arith, ends, best-fits flags)

pub root-bounds : (flags shown : List Bool) (leaves : ℕ) (nodes : List Summary) (root : Summary) → IsTree flags leaves nodes → root ≡ get_or nodes 1 root → flags ≡ shown → bounds root.best ≡ longest shown
unfolding longest
root-bounds flags shown leaves nodes root tree read same =
    ap bounds (root-is-best flags leaves nodes root tree read) ∙ ap (λ (xs : List Bool). bounds (best_run xs)) same

-- trees

-- what a `Vec` holds once it was lent as a slice of its whole length
lent-back : {A : Type 0} (n : ℕ) (xs rest : List A) → length xs ≡ n → take n (xs ++ drop (length xs) rest) ≡ xs
lent-back n xs rest h = take-append-le n xs (drop (length xs) rest) (omega arith) ∙ take_all n xs (omega arith)

built-tree : (flags : List Bool) (leaves : ℕ) (old new : List Summary) → length flags < 2 ^ 32 → IsPowerOfTwo leaves → length flags ≤ 64 * leaves
    → ((chunk : ℕ) → chunk < leaves → node_at old (leaves + chunk) ≡ summary_of_chunk flags chunk)
    → length new ≡ 2 * leaves → AllJoinExcept leaves 0 new → LeavesStay leaves old new → IsTree flags leaves new
built-tree flags leaves old new few power room leaf count all stay = record {
  few = few;
  power = power;
  covers = room;
  count = count;
  leaf = λ chunk below. stay (leaves + chunk) (omega arith) ∙ leaf chunk below;
  inner = λ j above below. all j above below (λ none. omega arith);
}

pub built : (flags : List Bool) (leaves n : ℕ) (old lent new rest : List Summary) → length flags < 2 ^ 32 → IsPowerOfTwo leaves → length flags ≤ 64 * leaves
    → ((chunk : ℕ) → chunk < leaves → node_at old (leaves + chunk) ≡ summary_of_chunk flags chunk)
    → lent ≡ old → length new ≡ length lent → length old ≡ n → n ≡ 2 * leaves → AllJoinExcept leaves 0 new → LeavesStay leaves lent new
    → IsTree flags leaves (take n (new ++ drop (length new) rest))
built flags leaves n old lent new rest few power room leaf same kept count double all stay =
    let long : length new ≡ n = kept ∙ ap length same ∙ count in
    let stays : LeavesStay leaves old new = subst (λ (xs : List Summary). LeavesStay leaves xs new) same stay in
    subst (λ (xs : List Summary). IsTree flags leaves xs) (sym (lent-back n new rest long))
    (built-tree flags leaves old new few power room leaf (long ∙ double) all stays)

-- the leaves once a flag was cleared and its chunk's leaf renewed
leaves-after : (flags : List Bool) (leaves : ℕ) (nodes : List Summary) (place : ℕ) (leaf : Summary) → IsTree flags leaves nodes → place < length flags
    → leaf ≡ summary_of_chunk (set flags place false) (place / 64) → (chunk : ℕ) → chunk < leaves
    → node_at (set nodes (leaves + place / 64) leaf) (leaves + chunk) ≡ summary_of_chunk (set flags place false) chunk
leaves-after flags leaves nodes place leaf tree there is chunk below =
    ⊎_elim
    (λ same.
    let at : leaves + chunk ≡ leaves + place / 64 = omega arith in
    ap (λ (n : ℕ). node_at (set nodes (leaves + place / 64) leaf) n) at
    ∙ get_or-set_same nodes (leaves + place / 64) leaf (summary_of 0 []) (omega (arith, tree.count))
    ∙ is
    ∙ ap (λ (n : ℕ). summary_of_chunk (set flags place false) n) (sym same))
    (λ other.
    get_or-set_other nodes (leaves + place / 64) (leaves + chunk) leaf (summary_of 0 []) (λ e. other (omega arith))
    ∙ tree.leaf chunk below
    ∙ sym (other-chunk flags place chunk false there other))
    (cases_eq chunk (place / 64))

pub taken : (flags : List Bool) (leaves n : ℕ) (old lent new rest : List Summary) (place : ℕ) (leaf : Summary) → IsTree flags leaves old → place < length flags
    → leaf ≡ summary_of_chunk (set flags place false) (place / 64) → lent ≡ set old (leaves + place / 64) leaf → length new ≡ length lent → length old ≡ n
    → AllJoinExcept leaves 0 new → LeavesStay leaves lent new → IsTree (set flags place false) leaves (take n (new ++ drop (length new) rest))
taken flags leaves n old lent new rest place leaf tree there is same kept count all stay =
    let few : length (set flags place false) < 2 ^ 32 = omega (arith, tree.few, length-set flags place false) in
    let room : length (set flags place false) ≤ 64 * leaves = omega (arith, tree.covers, length-set flags place false) in
    built (set flags place false) leaves n (set old (leaves + place / 64) leaf) lent new rest few tree.power room
    (leaves-after flags leaves old place leaf tree there is) same kept
    (length-set old (leaves + place / 64) leaf ∙ count) (sym count ∙ tree.count) all stay
