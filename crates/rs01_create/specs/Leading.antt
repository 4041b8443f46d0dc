-- What the steps of making a file leave, one after the other.
use Rattle.std.proofs.Common.{◌≡◌, ◌-◌, ◌≤◌, refl, sym, ap, subst, ◌∙◌, arith}
use Rattle.std.specs.Prelude.{IsTrue}
use Rattle.rs01_create.specs.Making.{Leads, Moment, layers}

pub leads-same : (m : Moment) → Leads m m
leads-same m = record {
  image = refl;
  ecc = refl;
  plan = refl;
  kept = refl;
  tells = refl;
  elsewhere = λ t other apart. refl;
  reads_later = omega arith;
  writes_later = omega arith;
  onward = omega arith;
  given_onward = omega arith;
}

pub leads-on : (a b c : Moment) → Leads a b → Leads b c → Leads a c
leads-on a b c one other = record {
  image = other.image ∙ one.image;
  ecc = other.ecc ∙ one.ecc;
  plan = other.plan ∙ one.plan;
  kept = other.kept ∙ one.kept;
  tells = other.tells ∙ one.tells;
  elsewhere = λ t name apart.
      other.elsewhere (subst IsTrue (sym one.tells) t) name (λ same. apart (same ∙ one.ecc)) ∙ one.elsewhere t name apart;
  reads_later = omega (arith, one.reads_later, other.reads_later);
  writes_later = omega (arith, one.writes_later, other.writes_later);
  onward = omega (arith, one.onward, other.onward);
  given_onward = omega (arith, one.given_onward, other.given_onward);
}

pub left-falls : (a b : Moment) → Leads a b → layers b.plan - b.course.first ≤ layers a.plan - a.course.first
left-falls a b leads =
    let same : layers b.plan ≡ layers a.plan = ap layers leads.plan in
    omega (arith, same, leads.onward)
