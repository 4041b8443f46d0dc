use Rattle.std.proofs.Common.{◌≡◌, ◌∙◌, ◌≤◌, ap, arith, refl, sym, true, false, ⊎_elim}
use Rattle.std.proofs.Math.ListN.{set}
use Rattle.rs01_linear.specs.Medium.{known_of}
use Rattle.rs01_linear.specs.declared.asking.Asked.TheVariants as asked
use Rattle.rs01_linear.proofs.MarkLemmas.{sized_by}
use Rattle.rs01_linear.proofs.RoseLemmas.{keeps_asked, keeps_same}
use Rattle.rs01_linear.proofs.SpareLemmas.{takes_bad}
use Rattle.rs01_linear.proofs.StandLemmas.{comes_with, taken_kept, taken_left, taken_read, taken_vain}
use Rattle.rs01_linear.proofs.reading.take_sector.Goals as goal

pub returns-then-not-is_left_out-clause-told : goal.returns-then-not-is_left_out-clause-told
returns-then-not-is_left_out-clause-told g c = record {
  first_is = refl;
  bytes_are = refl;
  taken = λ y views tell st.
      taken_kept (known_of c.args.medium.now) _ y views c.args.sector _ _ c.index.result.now _ (sized_by c.args.medium.now.extent _) c.requires.sector c.index.ensures
      (sym c.is_left_out.ensures ∙ c.if-not-is_left_out.true) st;
  bad = λ y bad. record { later = bad; here = λ e. (let f : false ≡ true = e in cc) };
}

pub returns-then-sector-reading-clause-told : goal.returns-then-sector-reading-clause-told
returns-then-sector-reading-clause-told g c = record {
  first_is = refl;
  bytes_are = refl;
  taken = λ y views tell st.
      taken_left (known_of c.args.medium.now) _ y views c.args.sector _ _ c.index.result.now _ (sized_by c.args.medium.now.extent _) c.requires.sector c.index.ensures
      (sym c.is_left_out.ensures ∙ c.if-not-is_left_out.false) (omega (arith, c.if-sector-reading.true)) st;
  bad = λ y bad. record { later = bad; here = λ e. (let f : false ≡ true = e in cc) };
}

pub returns-in-Read-clause-told : goal.returns-in-Read-clause-told
returns-in-Read-clause-told g c = record {
  first_is = refl;
  bytes_are = refl;
  taken = λ y views tell st.
      let comes = comes_with c.args.medium.now.extent _ _ c.args.sector c.args.tries _ c.ask_sector-asked.new.into c.ask_sector-asked.result _ c.sums.ensures.sums (c.ask_sector-asked.ensures.asked.told tell) in
      let late : c.args.reading.now.next ≤ c.args.sector = omega (arith, c.if-sector-reading.false) in
      taken_read (known_of c.args.medium.now) _ y views c.args.sector _ _ _ _ c.index.result.now c.ask_sector-asked.result c.ask_sector-asked.new.into
      (sized_by c.args.medium.now.extent _) c.requires.sector c.index.ensures (sym c.is_left_out.ensures ∙ c.if-not-is_left_out.false) late comes
      c.in-Read.is c.ask_sector-asked.array_long
      (ap (set c.args.reading.now.fates.items c.args.sector) c.fate_of.ensures) refl st;
  bad = λ y bad.
      takes_bad (known_of c.args.medium.now) y _ _ c.args.sector c.index.result.now c.ask_sector-asked.result _ c.requires.sector c.requires.all c.index.ensures
      (sym c.is_left_out.ensures ∙ c.if-not-is_left_out.false) (ap (set c.args.reading.now.fates.items c.args.sector) c.fate_of.ensures) bad;
}

pub returns-in-Read-clause-kept : goal.returns-in-Read-clause-kept
returns-in-Read-clause-kept g c =
    keeps_asked c.args.reading.now _ _ _ c.args.sector c.ask_sector-asked.result c.ask_sector-asked.ensures.asked.lasts c.ask_sector-asked.ensures.cause
    (ap (set c.args.reading.now.fates.items c.args.sector) c.fate_of.ensures)

pub returns-in-Unreadable-clause-told : goal.returns-in-Unreadable-clause-told
returns-in-Unreadable-clause-told g c = record {
  first_is = refl;
  bytes_are = refl;
  taken = λ y views tell st.
      let comes = comes_with c.args.medium.now.extent _ _ c.args.sector c.args.tries _ c.ask_sector-asked.new.into c.ask_sector-asked.result _ c.sums.ensures.sums (c.ask_sector-asked.ensures.asked.told tell) in
      let late : c.args.reading.now.next ≤ c.args.sector = omega (arith, c.if-sector-reading.false) in
      taken_vain (known_of c.args.medium.now) _ y views c.args.sector _ _ _ _ c.index.result.now c.ask_sector-asked.result c.ask_sector-asked.new.into
      (sized_by c.args.medium.now.extent _) c.requires.sector c.index.ensures (sym c.is_left_out.ensures ∙ c.if-not-is_left_out.false) late comes
      (λ e. ⊎_elim (λ is. let f : asked.Unreadable ≡ asked.Read = sym is ∙ e in cc) (λ is. let f : asked.Altered ≡ asked.Read = sym is ∙ e in cc) c.in-Unreadable.is)
      (ap (set c.args.reading.now.fates.items c.args.sector) c.fate_of.ensures) refl st;
  bad = λ y bad.
      takes_bad (known_of c.args.medium.now) y _ _ c.args.sector c.index.result.now c.ask_sector-asked.result _ c.requires.sector c.requires.all c.index.ensures
      (sym c.is_left_out.ensures ∙ c.if-not-is_left_out.false) (ap (set c.args.reading.now.fates.items c.args.sector) c.fate_of.ensures) bad;
}

pub returns-in-Unreadable-clause-kept : goal.returns-in-Unreadable-clause-kept
returns-in-Unreadable-clause-kept g c =
    keeps_asked c.args.reading.now _ _ _ c.args.sector c.ask_sector-asked.result c.ask_sector-asked.ensures.asked.lasts c.ask_sector-asked.ensures.cause
    (ap (set c.args.reading.now.fates.items c.args.sector) c.fate_of.ensures)

pub returns-then-not-is_left_out-clause-kept : goal.returns-then-not-is_left_out-clause-kept
returns-then-not-is_left_out-clause-kept g c = keeps_same c.args.reading.now _ c.args.rack.now.counted

pub returns-then-sector-reading-clause-kept : goal.returns-then-sector-reading-clause-kept
returns-then-sector-reading-clause-kept g c = keeps_same c.args.reading.now _ c.args.rack.now.counted
