-- After a legal history, a session's flight under way is that of its last own event.
use Rattle.std.proofs.Common.{◌≡◌, ℕ, refl, sym, ap, ◌∙◌, subst, Some, true, false, ◌⊎◌, inl, inr, ◌&&◌, eqb-true, eq-eqb}
use Rattle.std.specs.Prelude.{◌==◌}
use Rattle.std.specs.Map.{keys_of}
use Rattle.std.specs.BTreeMap.{is_at}
use Rattle.std.specs.Cmp.{eq_by_cmp_equiv}
use Rattle.std.specs.Cmp.Lexicographic.{nat_list_cmp_total}
use Rattle.std.proofs.lemmas.Bool.{cases_Bool, or_cases, or_left, or_right, and_from}
use Rattle.std.proofs.lemmas.Map.Entries.{lookup_from_place}
use Rattle.std.proofs.lemmas.Map.Keys.{IsDistinct-from_sorted}
use Rattle.ld_tree.specs.Names.{name_cmp}
use Rattle.ld_history.specs.declared.limits.Limits.{Limits}
use Rattle.ld_history.specs.declared.session.Session.{Session}
use Rattle.ld_history.specs.declared.session.Last.{Last}
use Rattle.ld_history.specs.declared.session.Last.TheVariants as last
use Rattle.ld_history.specs.declared.session.Flight.{Flight}
use Rattle.ld_history.specs.declared.session.Flying.{Flying}
use Rattle.ld_history.specs.declared.session.Kind.{Kind}
use Rattle.ld_history.specs.declared.session.Kind.TheVariants as kind
use Rattle.ld_history.specs.declared.session.End.TheVariants as end
use Rattle.ld_history.specs.Store.{Store}
use Rattle.ld_history.specs.Words.{at_number, at_iri, flight_at, is_some_and, is_under_way, is_led_by, has_flight}
use Rattle.ld_history.specs.Rules.{on_flight}
use Rattle.ld_history.specs.Legal.{state, Entries}
use Rattle.ld_history.specs.ByTurns.{IsKept}
use Rattle.ld_history.specs.Leading.{leads_now, is_leading, LeadIsLast}
use Rattle.ld_history.proofs.LawReads.{some_and, both, under_way_is}
use Rattle.ld_history.proofs.LawAirborne.{pick}
use Rattle.ld_history.proofs.LawCrew.{leads_it}
use Rattle.ld_history.proofs.LawSits.{any_value}
use Rattle.ld_history.proofs.LawHolds.{valued_place}
use Rattle.ld_history.proofs.LawSound.{Sound, sound}

-- the flight of this number is under way, and this session led it
record Leads (store : Store) (session : ℕ) : Type 0 where
  number : ℕ
  f : Flight
  is : flight_at store.flights number ≡ Some f
  flying : f.end ≡ end.UnderWay
  own : f.session ≡ session

flies : (store : Store) (session own number : ℕ) (f : Flight) → (own == number) ≡ true → flight_at store.flights number ≡ Some f → f.end ≡ end.UnderWay → f.session ≡ session
    → on_flight store own (λ f. f.session == session) ≡ true
flies store session own number f same is flying mine =
    ap (λ n. on_flight store n (λ f. f.session == session)) (eqb-true own number same) ∙ ap (is_some_and (λ f. is_under_way f.end && (f.session == session))) is
    ∙ and_from _ _ (ap is_under_way flying) (eq-eqb f.session session mine)

leads_so : (store : Store) (session : ℕ) (l : Last) (number : ℕ) (f : Flight) → leads_it number l ≡ true → flight_at store.flights number ≡ Some f → f.end ≡ end.UnderWay → f.session ≡ session
    → leads_now store session l ≡ true
leads_so store session last.Idle number f it is flying mine = cc
leads_so store session last.Pinned number f it is flying mine = cc
leads_so store session last.Found number f it is flying mine = cc
leads_so store session (last.Led own) number f it is flying mine = flies store session own number f it is flying mine
leads_so store session (last.Joined own) number f it is flying mine = cc
leads_so store session (last.Evicted version) number f it is flying mine = cc
leads_so store session (last.ReviseLed own) number f it is flying mine = flies store session own number f it is flying mine

flown : (store : Store) (session own : ℕ) → on_flight store own (λ f. f.session == session) ≡ true → Leads store session
flown store session own h =
    let a = some_and _ _ h in
    let b = both a.2 in
    record { number = own; f = a.0; is = a.1; flying = under_way_is a.0.end b.0; own = eqb-true a.0.session session b.1 }

led_so : (store : Store) (session : ℕ) (l : Last) → leads_now store session l ≡ true → Leads store session
led_so store session last.Idle h = cc
led_so store session last.Pinned h = cc
led_so store session last.Found h = cc
led_so store session (last.Led own) h = flown store session own h
led_so store session (last.Joined own) h = cc
led_so store session (last.Evicted version) h = cc
led_so store session (last.ReviseLed own) h = flown store session own h

module _ (limits : Limits) (store : Store) (h : Sound limits store) (session : ℕ) where
  -- what a table lists is a flight that the session waits for
  leading_by : (k : Kind) → is_led_by (pick store.leads store.revisions k) session ≡ true → is_leading store session ≡ true
  leading_by k any =
      let r = valued_place (λ (l : Flying). l.session == session) (pick store.leads store.revisions k) any in
      let at : at_iri (pick store.leads store.revisions k) r.1.0 ≡ Some r.1.1
      = lookup_from_place (eq_by_cmp_equiv nat_list_cmp_total) (pick store.leads store.revisions k) r.0 r.1.0 r.1.1
      (IsDistinct-from_sorted name_cmp (keys_of (pick store.leads store.revisions k)) (h.air.flights.sorted k)) r.2 in
      let is = h.air.flights.listed k r.1.0 r.1.1 at in
      let w = h.crew.wait r.1.1.flight _ is refl in
      let own : r.1.1.session ≡ session = eqb-true r.1.1.session session r.3 in
      ap (is_some_and (λ (s : Session). leads_now store session s.last)) (sym (ap (at_number store.sessions) own) ∙ w.1) ∙ leads_so store session w.0.last r.1.1.flight _ w.2 is refl own

  by_kind : (k : Kind) → is_led_by (pick store.leads store.revisions k) session ≡ true → has_flight store session ≡ true
  by_kind kind.Lead e = or_left _ _ e
  by_kind kind.Revise e = or_right _ _ e

  listed_by : (f : Flight) (l : Flying) → at_iri (pick store.leads store.revisions f.kind) f.iri ≡ Some l → l.session ≡ session → is_led_by (pick store.leads store.revisions f.kind) session ≡ true
  listed_by f l at own = elim (cases_Bool (is_led_by (pick store.leads store.revisions f.kind) session)) [
    | inl any ↦ any
    | inr none ↦
        let other : (l.session == session) ≡ false = any_value (λ (x : Flying). x.session == session) (is_at (name_cmp f.iri)) (pick store.leads store.revisions f.kind) l none at in
        let same : (l.session == session) ≡ true = eq-eqb l.session session own in
        cc
  ]

  has_one : Leads store session → has_flight store session ≡ true
  has_one p = by_kind p.f.kind (listed_by p.f _ (h.air.flights.known p.number p.f p.is p.flying) p.own)

  either : (has_flight store session ≡ true) ⊎ (has_flight store session ≡ false) → (is_leading store session ≡ true) ⊎ (is_leading store session ≡ false) → has_flight store session ≡ is_leading store session
  either (inl any) leading = any ∙ sym (elim (or_cases _ _ any) [ inl lead ↦ leading_by kind.Lead lead | inr revise ↦ leading_by kind.Revise revise ])
  either (inr none) (inl leading) = let a = some_and {X = Session} (λ s. leads_now store session s.last) (at_number store.sessions session) leading in has_one (led_so store session a.0.last a.2) ∙ sym leading
  either (inr none) (inr quiet) = none ∙ sym quiet

  leader_waits : has_flight store session ≡ is_leading store session
  leader_waits = either (cases_Bool (has_flight store session)) (cases_Bool (is_leading store session))

-- where the state is that of a legal history
pub leaders_wait : (limits : Limits) (entries : Entries) (store : Store) → IsKept limits entries store → LeadIsLast store
leaders_wait limits entries store kept = subst LeadIsLast (sym kept.replayed) (λ session. leader_waits limits (state entries) (sound limits entries kept.legal) session)
