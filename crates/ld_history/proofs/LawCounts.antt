-- Places and bytes after each change.
use Rattle.std.proofs.Common.{◌≡◌, ℕ, zero, suc, ◌+◌, ◌≤◌, List, [], ◌∷◌, length, refl, ap, ◌∙◌, arith, Option, Some, None, Bool, true, false, cond, ◌&&◌}
use Rattle.std.specs.Prelude.{is_some, if◌then◌else◌, ◌==◌, slice_get, slice_set}
use Rattle.std.specs.List.{sum_by}
use Rattle.std.proofs.lemmas.List.Sums.{sum_by-cons, sum_by_push}
use Rattle.std.specs.Cmp.Lexicographic.{nat_list_cmp_total}
use Rattle.std.proofs.lemmas.Bool.Decides.{nat_tests}
use Rattle.ld_history.specs.declared.session.Flight.{Flight}
use Rattle.ld_history.specs.declared.session.Flying.{Flying}
use Rattle.ld_history.specs.declared.session.Kind.{Kind}
use Rattle.ld_history.specs.declared.session.Kind.TheVariants as kind
use Rattle.ld_history.specs.declared.session.Stored.{Stored}
use Rattle.ld_history.specs.declared.session.End.{End}
use Rattle.ld_history.specs.declared.session.End.TheVariants as end
use Rattle.ld_history.specs.Words.{at_iri, flight_at, is_lead, is_under_way}
use Rattle.ld_history.specs.After.{put_iri, take_iri, kept_length, begun, end_at, ended_as}
use Rattle.ld_history.specs.Counts.{leads_under_way, loads_under_way}
use Rattle.ld_history.proofs.LawTables.{length-put_new, length-put_found, length-take_found}
use Rattle.ld_history.proofs.LawAirborne.{Airborne, Table, pick}

pub is_none : {X : Type 0} (o : Option X) → is_some o ≡ false → o ≡ None
is_none None h = refl
is_none (Some x) h = cc

pub has : {X : Type 0} (o : Option X) → is_some o ≡ true → (x : X) × (o ≡ Some x)
has None h = cc
has (Some x) h = (x, refl)

module _ {X : Type 0} (es : List (List ℕ × X)) (iri : List ℕ) where
  pub length-put : (v : X) → is_some (at_iri es iri) ≡ false → length (put_iri es iri v) ≡ suc (length es)
  length-put v free = length-put_new nat_list_cmp_total iri v es (is_none _ free)

  pub length-take : (x : X) → at_iri es iri ≡ Some x → suc (length (take_iri es iri)) ≡ length es
  length-take x is = length-take_found nat_list_cmp_total iri es x is

-- the table of Lead flights without the IRI's flight, where it is one of this kind, and that of Revise flights
abbrev pub without_lead : Table → List ℕ → Kind → Table
without_lead leads iri k = if is_lead k then take_iri leads iri else leads

abbrev pub without_revision : Table → List ℕ → Kind → Table
without_revision revisions iri k = if is_lead k then revisions else take_iri revisions iri

module _ (leads revisions : Table) (iri : List ℕ) where
  pub without_here : (κ : Kind) → pick (without_lead leads iri κ) (without_revision revisions iri κ) κ ≡ take_iri (pick leads revisions κ) iri
  without_here kind.Lead = refl
  without_here kind.Revise = refl

  pub without_there : (κ k : Kind) → (k ≡ κ → ⊥) → pick (without_lead leads iri κ) (without_revision revisions iri κ) k ≡ pick leads revisions k
  without_there kind.Lead kind.Lead n = absurd (n refl)
  without_there kind.Lead kind.Revise n = refl
  without_there kind.Revise kind.Lead n = refl
  without_there kind.Revise kind.Revise n = absurd (n refl)

  pub fewer_flights : (κ : Kind) (l : Flying) → at_iri (pick leads revisions κ) iri ≡ Some l
      → suc (length (without_lead leads iri κ) + length (without_revision revisions iri κ)) ≡ length leads + length revisions
  fewer_flights kind.Lead l is = omega (arith, length-take leads iri l is)
  fewer_flights kind.Revise l is = omega (arith, length-take revisions iri l is)

  pub no_more_leads : (κ : Kind) (l : Flying) → at_iri (pick leads revisions κ) iri ≡ Some l → length (without_lead leads iri κ) ≤ length leads
  no_more_leads kind.Lead l is = omega (arith, length-take leads iri l is)
  no_more_leads kind.Revise l is = omega arith

  -- an answer takes the place that its flight had
  pub same_places : (flights : List Flight) (stored : List (List ℕ × Stored)) (new : Stored) → Airborne flights (pick leads revisions) stored
      → (κ : Kind) (l : Flying) → at_iri (pick leads revisions κ) iri ≡ Some l
      → length (put_iri stored iri new) + length (without_lead leads iri κ) ≡ length stored + length leads
  same_places flights stored new h kind.Lead l is =
      omega (arith, length-take leads iri l is, length-put stored iri new (h.sides kind.Lead iri l is))
  same_places flights stored new h kind.Revise l is =
      let old = has (at_iri stored iri) (h.sides kind.Revise iri l is) in
      omega (arith, length-put_found nat_list_cmp_total iri new stored old.0 h.stored_sorted old.1)

kept_cases : (n : ℕ) (b : Bool) → (n == 1048577) ≡ b → n ≤ 1048577 → (if b then 0 else n) ≤ 1048576
kept_cases n true e h = omega arith
kept_cases n false e h = grind (arith, nat_tests)

-- a text that is kept has at most 1,048,576 bytes
pub kept-le : (n : ℕ) → n ≤ 1048577 → kept_length n ≤ 1048576
kept-le n h = kept_cases n (n == 1048577) refl h

-- the IRI of a flight that begins, where it counts
pub named-le : (b : Bool) (bytes n : ℕ) → n ≤ 2048 → (if b then bytes else bytes + n) ≤ bytes + 2048
named-le true bytes n h = omega arith
named-le false bytes n h = omega arith

-- ---- the flights themselves
weigh_set : {X : Type 0} (w : X → ℕ) (xs : List X) (i : ℕ) (x y : X) → slice_get xs i ≡ Some x → sum_by w (slice_set xs i y) + w x ≡ sum_by w xs + w y
weigh_set w [] i x y h = cc
weigh_set w (a ∷ xs) zero x y h = let e : a ≡ x = cc in omega (arith, sum_by-cons w y xs, sum_by-cons w a xs, ap w e)
weigh_set w (a ∷ xs) (suc i) x y h = omega (arith, sum_by-cons w a (slice_set xs i y), sum_by-cons w a xs, weigh_set w xs i x y h)

pub weigh_ended : (w : Flight → ℕ) (flights : List Flight) (n : ℕ) (f : Flight) (how : End) → flight_at flights n ≡ Some f
    → sum_by w (ended_as flights n how) + w f ≡ sum_by w flights + w (record f { end = how })
weigh_ended w flights zero f how is = cc
weigh_ended w flights (suc n) f how is = ap (λ o. sum_by w (end_at flights n how o) + w f) is ∙ weigh_set w flights n f (record f { end = how }) is

-- how many flights under way there are in a list of flights, and of them Lead flights
pub record Counted (flights : List Flight) (leads revisions : Table) : Type 0 where
  pub leading : leads_under_way flights ≡ length leads
  pub all : loads_under_way flights ≡ length leads + length revisions

abbrev one_if : Bool → ℕ
one_if b = cond b 1 0

pub counted-led : (flights : List Flight) (leads revisions : Table) (iri : List ℕ) (session : ℕ) (new : Flying) → is_some (at_iri leads iri) ≡ false
    → Counted flights leads revisions → Counted (begun flights iri kind.Lead session) (put_iri leads iri new) revisions
counted-led flights leads revisions iri session new free h =
    let f : Flight = record { iri = iri; kind = kind.Lead; session = session; end = end.UnderWay } in
    let more = length-put leads iri new free in
    record {
      leading = sum_by_push (λ (f : Flight). one_if (is_under_way f.end && is_lead f.kind)) flights _ ∙ omega (arith, h.leading, more);
      all = sum_by_push (λ (f : Flight). one_if (is_under_way f.end)) flights _ ∙ omega (arith, h.all, more);
    }

pub counted-revise : (flights : List Flight) (leads revisions : Table) (iri : List ℕ) (session : ℕ) (new : Flying) → is_some (at_iri revisions iri) ≡ false
    → Counted flights leads revisions → Counted (begun flights iri kind.Revise session) leads (put_iri revisions iri new)
counted-revise flights leads revisions iri session new free h =
    let more = length-put revisions iri new free in
    record {
      leading = sum_by_push (λ (f : Flight). one_if (is_under_way f.end && is_lead f.kind)) flights _ ∙ omega (arith, h.leading);
      all = sum_by_push (λ (f : Flight). one_if (is_under_way f.end)) flights _ ∙ omega (arith, h.all, more);
    }

over_weighs : (how : End) → (how ≡ end.UnderWay → ⊥) → is_under_way how ≡ false
over_weighs end.UnderWay n = absurd (n refl)
over_weighs (end.Published version) n = refl
over_weighs end.Same n = refl
over_weighs (end.Failed before after) n = refl
over_weighs end.Lapsed n = refl

fewer_leads : (leads : Table) (iri : List ℕ) (κ : Kind) (revisions : Table) (l : Flying) → at_iri (pick leads revisions κ) iri ≡ Some l
    → length (without_lead leads iri κ) + one_if (is_lead κ) ≡ length leads
fewer_leads leads iri kind.Lead revisions l is = omega (arith, length-take leads iri l is)
fewer_leads leads iri kind.Revise revisions l is = omega arith

pub counted-ended : (flights : List Flight) (leads revisions : Table) (n : ℕ) (f : Flight) (how : End) (l : Flying) → flight_at flights n ≡ Some f → f.end ≡ end.UnderWay → (how ≡ end.UnderWay → ⊥)
    → at_iri (pick leads revisions f.kind) f.iri ≡ Some l → Counted flights leads revisions
    → Counted (ended_as flights n how) (without_lead leads f.iri f.kind) (without_revision revisions f.iri f.kind)
counted-ended flights leads revisions n f how l is flying over at h =
    let first = weigh_ended (λ (f : Flight). one_if (is_under_way f.end && is_lead f.kind)) flights n f how is in
    let second = weigh_ended (λ (f : Flight). one_if (is_under_way f.end)) flights n f how is in
    let was_lead : one_if (is_under_way f.end && is_lead f.kind) ≡ one_if (is_lead f.kind) = ap (λ e. one_if (is_under_way e && is_lead f.kind)) flying in
    let was : one_if (is_under_way f.end) ≡ 1 = ap (λ e. one_if (is_under_way e)) flying in
    let no_lead : one_if (is_under_way how && is_lead f.kind) ≡ 0 = ap (λ b. one_if (b && is_lead f.kind)) (over_weighs how over) in
    let none : one_if (is_under_way how) ≡ 0 = ap one_if (over_weighs how over) in
    record {
      leading = omega (arith, first, was_lead, no_lead, fewer_leads leads f.iri f.kind revisions l at, h.leading);
      all = omega (arith, second, was, none, fewer_flights leads revisions f.iri f.kind l at, h.all);
    }
