-- What is kept once one more sector of a medium was asked for.
use Rattle.std.proofs.Common.{◌≡◌, ℕ, ◌+◌, ◌<◌, ◌≤◌, ◌^◌, replicate, List, [], ◌∷◌, ◌++◌, length, map, refl, sym, ap, ◌∙◌, subst, arith, add-one, get_or, Bool, cond, Bor, ◌-◌, ◌*◌}
use Rattle.std.specs.Prelude.{filter, ◌&&◌, ◌==◌, slice_index, slice_set, slice_get, Option, Some}
use Rattle.std.specs.List.{range_with_len}
use Rattle.std.specs.Option.{option_map}
use Rattle.rs01_layers.specs.Layout.{layer_of, layers_of}
use Rattle.rs01_layers.proofs.PlaceLemmas.{some_layer}
use Rattle.rs01_ecchead.proofs.Shapes.{is_shape}
use Rattle.std.proofs.lemmas.Nat.{div_below, mul-le}
use Rattle.rs01_outside.specs.DriveView.{DriveView}
use Rattle.rs01_rack.specs.Rack.{AllRose, RackState, views_of}
use Rattle.rs01_ecchead.specs.Erased.{Known}
use Rattle.rs01_ecchead.specs.declared.opened.Ecc.{Ecc}
use Rattle.rs01_linear.specs.Asking.{Asks, ComesTo, ask_drives, kind_of}
use Rattle.rs01_linear.specs.Lasting.{AllRoseBy, RackLasts}
use Rattle.rs01_linear.specs.Medium.{known_of}
use Rattle.rs01_linear.specs.declared.asking.Asked.{Asked}
use Rattle.rs01_linear.specs.declared.asking.Asked.TheVariants.{Altered, Read, Unreadable}
use Rattle.rs01_linear.specs.declared.medium.Medium.{Medium}
use Rattle.rs01_linear.proofs.LastingLemmas.{drive_there, lasts_then, rack_lasts, told_before}
use Rattle.rs01_linear.proofs.RoseLemmas.{same_rose}
use Rattle.rs01_verify.specs.Scan.{asked_at, is_altered, is_lost, is_unreadable, scan_to}
use Rattle.rs01_verify.specs.Scanned.{CountedFor, HasAsked, HasStopped, IsBare, IsKept, Keeps, condition_from, lost_below}
use Rattle.rs01_verify.specs.Tallied.{altered_part, counts_after, IsCounted, missing_part}
use Rattle.rs01_verify.specs.declared.tally.Tally.{Tally}
use Rattle.rs01_verify.proofs.CountLemmas.{filter_range_more, count_range_more, raised}
use Rattle.rs01_verify.proofs.SurveyLemmas.{length-zeros, zeros_at}
use Rattle.std.proofs.lemmas.List.{length-append}
use Rattle.std.proofs.lemmas.List.FromFn.{fill_by_all}

unreadable_part : (asked : Asked) (s : ℕ) → missing_part (condition_from asked) s ≡ cond (is_unreadable asked) (s ∷ []) []
unreadable_part Read s = refl
unreadable_part Unreadable s = refl
unreadable_part Altered s = refl

altered_part_is : (asked : Asked) (s : ℕ) → altered_part (condition_from asked) s ≡ cond (is_altered asked) (s ∷ []) []
altered_part_is Read s = refl
altered_part_is Unreadable s = refl
altered_part_is Altered s = refl

counts_part : (asked : Asked) (l : ℕ) (counts : List ℕ)
    → counts_after (condition_from asked) l counts ≡ cond (is_lost asked) (slice_set counts l (slice_index counts l + 1)) counts
counts_part Read l counts = refl
counts_part Unreadable l counts = refl
counts_part Altered l counts = refl

-- the lists, by the sectors that pass a test
list_more : (test : ℕ → Bool) (s : ℕ) (old new part : List ℕ) → part ≡ cond (test s) (s ∷ []) []
    → old ≡ filter test (range_with_len 0 s) → new ≡ old ++ part → new ≡ filter test (range_with_len 0 (s + 1))
list_more test s old new part is held put = put ∙ (λ i. held i ++ is i) ∙ sym (filter_range_more test s)

-- the drives, once one more sector was asked for
views_more : (known : Known) (views now after : List DriveView) (s : ℕ) → now ≡ scan_to known views s
    → after ≡ (ask_drives known s 1 now).views → after ≡ scan_to known views (s + 1)
unfolding scan_to
views_more known views now after s held put =
    put ∙ ap (λ (v : List DriveView). (ask_drives known s 1 v).views) held ∙ ap (scan_to known views) (sym (add-one s))

-- what is kept, where the drives tell
pub kept_more : (medium : Medium) (views now after : List DriveView) (s : ℕ) (asked : Asked) (block : List ℕ) (old new : Tally)
    → ((ecc : Ecc) → layer_of ecc.head.sectors ecc.head.parity s < layers_of ecc.head.sectors ecc.head.parity)
    → ComesTo (ask_drives (known_of medium) s 1 now) block asked after
    → Keeps medium s (condition_from asked) old new
    → IsKept medium views s now old → IsKept medium views (s + 1) after new
kept_more medium views now after s asked block old new within comes keeps before =
    let known = known_of medium in
    let is : asked ≡ asked_at known views s = comes.answer ∙ ap (λ (v : List DriveView). kind_of (ask_drives known s 1 v)) before.views_are in
    record {
      views_are = views_more known views now after s before.views_are comes.views_are;
      unreadable = list_more (λ t. is_unreadable (asked_at known views t)) s _ _ (missing_part (condition_from asked) s)
          (unreadable_part asked s ∙ ap (λ a. cond (is_unreadable a) (s ∷ []) []) is) before.unreadable keeps.unreadable;
      altered = list_more (λ t. is_altered (asked_at known views t)) s _ _ (altered_part (condition_from asked) s)
          (altered_part_is asked s ∙ ap (λ a. cond (is_altered a) (s ∷ []) []) is) before.altered keeps.altered;
      counts = λ ecc there.
          let l = layer_of ecc.head.sectors ecc.head.parity s in
          let layers = layers_of ecc.head.sectors ecc.head.parity in
          raised (is_lost (asked_at known views s)) l layers (lost_below known views ecc s) old.counts.items new.counts.items
          (within ecc) (before.counts ecc there)
          (keeps.counts ecc there ∙ counts_part asked l old.counts.items
          ∙ ap (λ a. cond (is_lost a) (slice_set old.counts.items l (slice_index old.counts.items l + 1)) old.counts.items) is)
          ∙ (λ i. map (λ k. sym (count_range_more (λ t. is_lost (asked_at known views t) && (layer_of ecc.head.sectors ecc.head.parity t == k)) s) i)
          (range_with_len 0 layers));
    }

-- each drive's count, by what came of the sector
rose_more : (asked : Asked) (old mid new : RackState) (s n : ℕ) → RackLasts old mid → RackLasts mid new
    → (asked ≡ Unreadable → AllRose 0 mid new) → AllRoseBy n old mid → AllRoseBy (n + length (missing_part (condition_from asked) s)) old new
rose_more Read old mid new s n first lasts cause before k b a was is =
    let there = drive_there old.drives mid.drives k b first.number was in
    let early = before k b (get_or mid.drives k b) was there in
    let late = (lasts.each k (get_or mid.drives k b) a there is).later in
    omega (arith, early, late)
rose_more Altered old mid new s n first lasts cause before k b a was is =
    let there = drive_there old.drives mid.drives k b first.number was in
    let early = before k b (get_or mid.drives k b) was there in
    let late = (lasts.each k (get_or mid.drives k b) a there is).later in
    omega (arith, early, late)
rose_more Unreadable old mid new s n first lasts cause before k b a was is =
    let there = drive_there old.drives mid.drives k b first.number was in
    let early = before k b (get_or mid.drives k b) was there in
    let late = cause refl k (omega arith) (get_or mid.drives k b) a there is in
    omega (arith, early, late)

-- one more sector was asked for and kept
pub asked_more : (medium : Medium) (old mid new : RackState) (s : ℕ) (asked : Asked) (block : List ℕ) (t t' : Tally)
    → ((ecc : Ecc) → layer_of ecc.head.sectors ecc.head.parity s < layers_of ecc.head.sectors ecc.head.parity)
    → Asks (known_of medium) s 1 block asked mid new → (asked ≡ Unreadable → AllRose 0 mid new)
    → Keeps medium s (condition_from asked) t t' → CountedFor medium (s + 1) t'
    → HasAsked medium s old mid t → HasAsked medium (s + 1) old new t'
asked_more medium old mid new s asked block t t' within asks cause keeps counted before = record {
  lasts = lasts_then old mid new before.lasts asks.lasts;
  rose = subst (λ n. AllRoseBy n old new)
      (sym (ap length keeps.unreadable ∙ length-append t.missing.items (missing_part (condition_from asked) s)))
      (rose_more asked old mid new s (length t.missing.items) before.lasts asks.lasts cause before.rose);
  counted = counted;
  told = λ tell.
      kept_more medium (views_of old) (views_of mid) (views_of new) s asked block t t' within (asks.told tell) keeps
      (before.told (told_before mid new asks.lasts tell));
}

-- one more sector was asked for, and not kept
pub stopped_after : (medium : Medium) (old mid new : RackState) (s : ℕ) (asked : Asked) (block : List ℕ) (t : Tally) → s < medium.extent.sectors
    → Asks (known_of medium) s 1 block asked mid new → HasAsked medium s old mid t → HasStopped medium old new
stopped_after medium old mid new s asked block t below asks before = record {
  lasts = lasts_then old mid new before.lasts asks.lasts;
  told = λ tell.
      let early = before.told (told_before mid new asks.lasts tell) in
      (s + 1, omega arith, views_more (known_of medium) (views_of old) (views_of mid) (views_of new) s early.views_are (asks.told tell).views_are);
}

-- nothing was asked for
pub stopped_before : (medium : Medium) (rack : RackState) → rack.asks < 2 ^ 128 → HasStopped medium rack rack
unfolding scan_to
stopped_before medium rack small = record { lasts = rack_lasts rack small; told = λ tell. (0, omega arith, refl) }

bare_counted : (layers : ℕ) (t : Tally) → t.counts.items ≡ replicate layers 0 → IsCounted layers 0 t
bare_counted layers t e = record {
  all = ap length e ∙ length-zeros layers;
  bound = λ l. let z : get_or t.counts.items l 0 ≡ 0 = ap (λ xs. get_or xs l 0) e ∙ zeros_at layers l in omega (arith, z);
}

pub asked_none : (medium : Medium) (rack : RackState) (t : Tally) → rack.asks < 2 ^ 128 → IsBare medium t → HasAsked medium 0 rack rack t
unfolding scan_to
asked_none medium rack t small bare = record {
  lasts = rack_lasts rack small;
  rose = subst (λ n. AllRoseBy n rack rack) (sym (ap length bare.unreadable)) (λ k b a was is. same_rose (slice_get rack.drives k) b a was is);
  counted = λ ecc there. bare_counted (layers_of ecc.head.sectors ecc.head.parity) t (bare.counts ecc there);
  told = λ tell. record {
    views_are = refl;
    unreadable = bare.unreadable;
    altered = bare.altered;
    counts = λ ecc there.
        let layers = layers_of ecc.head.sectors ecc.head.parity in
        bare.counts ecc there
        ∙ fill_by_all (lost_below (known_of medium) (views_of rack) ecc 0) (replicate layers 0) layers 0 (length-zeros layers) (λ k l. zeros_at layers k);
  };
}

-- a sector of an error correction file lies in one of its layers, of which there are not many
pub some_layers : (ecc : Ecc) → 0 < layers_of ecc.head.sectors ecc.head.parity
some_layers ecc = some_layer ecc.head.sectors ecc.head.parity (is_shape ecc)

pub layer_within : (ecc : Ecc) (s : ℕ) → layer_of ecc.head.sectors ecc.head.parity s < layers_of ecc.head.sectors ecc.head.parity
layer_within ecc s = let some = some_layers ecc in omega arith

pub few_layers : (ecc : Ecc) → layers_of ecc.head.sectors ecc.head.parity < 16777216
few_layers ecc =
    let n = ecc.head.sectors in
    let k = 255 - ecc.head.parity in
    let shape = is_shape ecc in
    let some : 1 ≤ k = omega (arith, shape.not_too_much) in
    let wide = mul-le n 1 n k (omega arith) some in
    let room : n + (254 - ecc.head.parity) < n * k + k = omega (arith, wide, shape.not_too_much) in
    let within : n + (254 - ecc.head.parity) < (n + 1) * k = subst (λ m. n + (254 - ecc.head.parity) < m) (let e : n * k + k ≡ (n + 1) * k = omega arith in e) room in
    let below = div_below (n + (254 - ecc.head.parity)) k (n + 1) some within in
    omega (arith, below, shape.not_too_many)

-- the error correction file of a medium, from what is seen of it
pub there_is : (seen : Option (Bor Ecc)) (o : Option Ecc) (ecc : Bor Ecc) → option_map (λ (b : Bor Ecc). b.now) seen ≡ o → seen ≡ Some ecc → o ≡ Some ecc.now
there_is seen o ecc e is = sym e ∙ ap (option_map (λ (b : Bor Ecc). b.now)) is

-- the same, by what is known of the medium under another name, and by another name of the number
pub asks_known : (known known' : Known) (s : ℕ) (block : List ℕ) (asked : Asked) (old new : RackState) → known ≡ known'
    → Asks known s 1 block asked old new → Asks known' s 1 block asked old new
asks_known known known' s block asked old new e asks = subst (λ (k : Known). Asks k s 1 block asked old new) e asks

pub asked_all : (medium : Medium) (m n : ℕ) (old new : RackState) (t : Tally) → m ≡ n → HasAsked medium m old new t → HasAsked medium n old new t
asked_all medium m n old new t e asked = subst (λ k. HasAsked medium k old new t) e asked
