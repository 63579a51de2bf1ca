-- The laws of the state after a legal history, from what holds of it.
use Rattle.std.proofs.Common.{◌≡◌, ℕ, ◌+◌, ◌*◌, ◌-◌, ◌^◌, ◌≤◌, ◌<◌, List, [], ◌∷◌, ◌++◌, length, refl, sym, ap, ◌∙◌, arith, Some, None, Bool, true, false, not, ◌⊎◌, inl, inr, ◌&&◌, ◌||◌, eqb-true, eq-eqb, lt-ltb, le-leb, length-append, suc}
use Rattle.std.specs.Prelude.{is_some, nat_le, nat_lt, ◌==◌, slice_get}
use Rattle.std.specs.List.{IsDistinct, list_any, sum_by}
use Rattle.std.specs.Cmp.{eq_by_cmp_equiv}
use Rattle.std.specs.Cmp.Lexicographic.{nat_list_cmp_total}
use Rattle.std.specs.Map.{keys_of, values_of}
use Rattle.std.proofs.lemmas.Map.Entries.{lookup_from_place}
use Rattle.std.proofs.lemmas.Map.Keys.{IsDistinct-from_sorted}
use Rattle.std.proofs.lemmas.Bool.{cases_Bool, and_from, or_from, or_left, or_right, not_from_false, false_from_ne_true, not-false}
use Rattle.ld_tree.specs.Names.{name_cmp}
use Rattle.ld_history.specs.declared.limits.Limits.{Limits}
use Rattle.ld_history.specs.declared.event.Given.{Given}
use Rattle.ld_history.specs.declared.event.Event.TheVariants as event
use Rattle.ld_history.specs.declared.event.How.TheVariants as how
use Rattle.ld_history.specs.declared.event.Entry.{Entry}
use Rattle.ld_history.specs.declared.session.Session.{Session}
use Rattle.ld_history.specs.declared.session.Flight.{Flight}
use Rattle.ld_history.specs.declared.session.Flying.{Flying}
use Rattle.ld_history.specs.declared.session.Kind.{Kind}
use Rattle.ld_history.specs.declared.session.Kind.TheVariants as kind
use Rattle.ld_history.specs.declared.session.Last.{Last}
use Rattle.ld_history.specs.declared.session.Last.TheVariants as last
use Rattle.ld_history.specs.declared.session.End.{End}
use Rattle.ld_history.specs.declared.session.End.TheVariants as end
use Rattle.ld_history.specs.Store.{Store, empty_store}
use Rattle.ld_history.specs.Words.{at_iri, flight_at, is_some_and, is_lead, is_stored, is_led, is_idle, is_pinned, is_under_way, is_published, has_request, has_flight, is_led_by, holds, same_iri}
use Rattle.ld_history.specs.ByTurns.{allows, Legal}
use Rattle.ld_history.specs.Legal.{state, Entries, is_in_stock}
use Rattle.ld_history.specs.Counts.{leads_under_way, loads_under_way, lacked, attempts, spent, reserve}
use Rattle.ld_history.specs.Laws.{IsUnderWay, IsOpenAs, LeadsNothing, WasLeft, MayFollow}
use Rattle.ld_history.proofs.LawAlong.{legal_more}
use Rattle.ld_history.proofs.LawReads.{under_way_is}
use Rattle.ld_history.proofs.LawAirborne.{pick, same_kind}
use Rattle.ld_history.proofs.LawCrew.{Awaits, is_trying}
use Rattle.ld_history.proofs.LawSound.{sound}
use Rattle.ld_history.proofs.LawStock.{turns_tell}
use Rattle.ld_history.proofs.LawTold.{allowed_alike}
use Rattle.ld_history.proofs.LawTracked.{tracked}
use Rattle.ld_history.proofs.LawRoom.{roomy}

same_flying : (f g : Flying) → Some f ≡ Some g → f ≡ g
same_flying f g e = cc

-- ---- flights
module _ (limits : Limits) (entries : Entries) (legal : Legal limits entries) where
  at_known : (n : ℕ) (f : Flight) → IsUnderWay (state entries) n f
      → at_iri (pick (state entries).leads (state entries).revisions f.kind) f.iri ≡ Some (record { flight = n; session = f.session })
  at_known n f u = (sound limits entries legal).air.flights.known n f u.0 (under_way_is f.end u.1)

  side : (n : ℕ) (f : Flight) → IsUnderWay (state entries) n f → is_stored (state entries) f.iri ≡ not (is_lead f.kind)
  side n f u = (sound limits entries legal).air.flights.sides f.kind f.iri _ (at_known n f u)

pub one_flight : (limits : Limits) (entries : Entries) (a b : ℕ) (f g : Flight) → Legal limits entries → IsUnderWay (state entries) a f → IsUnderWay (state entries) b g → f.iri ≡ g.iri → a ≡ b
one_flight limits entries a b f g legal u v e =
    let same : f.kind ≡ g.kind = same_kind f.kind g.kind (sym (side limits entries legal a f u) ∙ ap (is_stored (state entries)) e ∙ side limits entries legal b g v) in
    ap (λ (x : Flying). x.flight) (same_flying (record { flight = a; session = f.session }) (record { flight = b; session = g.session })
    (sym (at_known limits entries legal a f u) ∙ ap (λ k. at_iri (pick (state entries).leads (state entries).revisions k) f.iri) same ∙ ap (at_iri (pick (state entries).leads (state entries).revisions g.kind)) e
    ∙ at_known limits entries legal b g v))

pub lead_where_new : (limits : Limits) (entries : Entries) (number : ℕ) (flight : Flight) → Legal limits entries → IsUnderWay (state entries) number flight → is_lead flight.kind ≡ true
    → is_stored (state entries) flight.iri ≡ false
lead_where_new limits entries number flight legal u lead = side limits entries legal number flight u ∙ ap not lead

pub revise_where_stored : (limits : Limits) (entries : Entries) (number : ℕ) (flight : Flight) → Legal limits entries → IsUnderWay (state entries) number flight → is_lead flight.kind ≡ false
    → is_stored (state entries) flight.iri ≡ true
revise_where_stored limits entries number flight legal u lead = side limits entries legal number flight u ∙ ap not lead

-- ---- places and bytes
pub places_kept : (limits : Limits) (entries : Entries) → Legal limits entries → length (state entries).stored + leads_under_way (state entries).flights ≤ limits.contexts
places_kept limits entries legal = let h = (sound limits entries legal).air in omega (arith, h.places, h.counted.leading)

pub bytes_kept : (limits : Limits) (entries : Entries) → Legal limits entries → (state entries).bytes + 1048576 * loads_under_way (state entries).flights ≤ limits.bytes
bytes_kept limits entries legal = let h = (sound limits entries legal).air in omega (arith, h.bytes, h.counted.all)

-- ---- held IRIs
module _ (limits : Limits) (entries : Entries) (legal : Legal limits entries) (s : Session) (iri : List ℕ) where
  left_or_led : (w : Awaits (state entries).flights s.last iri) (e : End) → w.f.end ≡ e → (is_led (state entries) iri ≡ true) ⊎ WasLeft (state entries) s iri
  left_or_led w end.UnderWay is = inl (ap is_some (ap (λ k. at_iri (pick (state entries).leads (state entries).revisions k) iri) (sym w.lead) ∙ ap (at_iri (pick (state entries).leads (state entries).revisions w.f.kind)) (sym w.for_iri)
      ∙ (sound limits entries legal).air.flights.known w.flight w.f w.is is))
  left_or_led w (end.Published version) is = let yes_it_is : is_published w.f.end ≡ true = ap is_published is in let not_so : is_published w.f.end ≡ false = w.unpublished in cc
  left_or_led w end.Same is = inr (record { number = w.flight; flight = w.f; waits = w.own; is = w.is; for_iri = w.for_iri; over = ap is_under_way is; unpublished = w.unpublished })
  left_or_led w (end.Failed before after) is = inr (record { number = w.flight; flight = w.f; waits = w.own; is = w.is; for_iri = w.for_iri; over = ap is_under_way is; unpublished = w.unpublished })
  left_or_led w end.Lapsed is = inr (record { number = w.flight; flight = w.f; waits = w.own; is = w.is; for_iri = w.for_iri; over = ap is_under_way is; unpublished = w.unpublished })

pub held_where : (limits : Limits) (entries : Entries) (session : ℕ) (s : Session) (iri : List ℕ) → Legal limits entries → IsOpenAs (state entries) session s → holds s iri ≡ true
    → (is_stored (state entries) iri ≡ true) ⊎ ((is_led (state entries) iri ≡ true) ⊎ WasLeft (state entries) s iri)
held_where limits entries session s iri legal is held = elim (((sound limits entries legal).crew.each session s is).kept iri held) [
  | inl here ↦ inl here
  | inr w ↦ inr (left_or_led limits entries legal s iri w w.f.end refl)
]

pinned_trying : (l : Last) → is_pinned l ≡ true → is_trying l ≡ true
pinned_trying last.Idle h = cc
pinned_trying last.Pinned h = refl
pinned_trying last.Found h = cc
pinned_trying (last.Led f) h = cc
pinned_trying (last.Joined f) h = cc
pinned_trying (last.Evicted v) h = cc
pinned_trying (last.ReviseLed f) h = cc

pub pinned_holds : (limits : Limits) (entries : Entries) (session : ℕ) (s : Session) (iri : List ℕ) → Legal limits entries → IsOpenAs (state entries) session s → is_pinned s.last ≡ true → holds s iri ≡ true
    → is_in_stock entries iri s.version ≡ true
pinned_holds limits entries session s iri legal is pinned held =
    let sits = (sound limits entries legal).crew.each session s is in sym (turns_tell limits entries legal iri s.version sits.pinned) ∙ sits.had (pinned_trying s.last pinned) iri held

-- ---- requests
pub lacks_differ : (limits : Limits) (entries : Entries) (session : ℕ) → limits.held ≤ 64 → Legal limits entries → IsDistinct same_iri (lacked session entries)
lacks_differ limits entries session small legal = (tracked limits small entries legal session).differ

pub lacks_few : (limits : Limits) (entries : Entries) (session : ℕ) → limits.held ≤ 64 → Legal limits entries → length (lacked session entries) ≤ limits.held
lacks_few limits entries session small legal = (tracked limits small entries legal session).few

pub attempts_few : (limits : Limits) (entries : Entries) (session : ℕ) → limits.held ≤ 64 → Legal limits entries → attempts session entries ≤ limits.held + 1
attempts_few limits entries session small legal = (tracked limits small entries legal session).tries

pub spends_few : (limits : Limits) (entries : Entries) (session : ℕ) → limits.held ≤ 64 → Legal limits entries → spent session entries ≤ 260
spends_few limits entries session small legal = (tracked limits small entries legal session).small

-- ---- room
pub events_counted : (limits : Limits) (entries : Entries) → limits.held ≤ 64 → Legal limits entries → (state entries).events ≡ length entries
events_counted limits entries small legal = (roomy limits small entries legal).counted

pub room_kept : (limits : Limits) (entries : Entries) → limits.held ≤ 64 → Legal limits entries → length entries + sum_by (reserve entries) (state entries).sessions + length (state entries).sessions ≤ limits.events
room_kept limits entries small legal = (roomy limits small entries legal).room

follows_on : (limits : Limits) (entries : Entries) (entry : Entry (List ℕ) Given) → limits.held ≤ 64 → Legal limits entries → allows limits (state entries) entry ≡ true → MayFollow limits entries entry
follows_on limits entries entry small legal ok =
    let room = room_kept limits (entries ++ entry ∷ []) small (legal_more limits empty_store entries (entry ∷ []) legal (ok, tt)) in
    record { allowed = allowed_alike limits entries legal entry ∙ ok; room = omega (arith, room, length-append entries (entry ∷ [])) }

pub valued_place : {K X : Type 0} (p : X → Bool) (es : List (K × X)) → list_any p (values_of es) ≡ true → (i : ℕ) × (e : K × X) × (slice_get es i ≡ Some e) × (p e.1 ≡ true)
valued_place p [] h = cc
valued_place p (e ∷ es) h = elim (cases_Bool (p e.1)) [
  | inl here ↦ (0, e, refl, here)
  | inr other ↦
      let tail : list_any p (values_of es) ≡ true = ap (λ b. b || list_any p (values_of es)) (sym other) ∙ h in
      let r = valued_place p es tail in (suc r.0, r.1, r.2, r.3)
]

module _ (limits : Limits) (entries : Entries) (legal : Legal limits entries) (session : ℕ) (nothing : LeadsNothing (state entries) session) where
  led_by_none : (k : Kind) → is_led_by (pick (state entries).leads (state entries).revisions k) session ≡ false
  led_by_none k = false_from_ne_true _ (λ e.
      let h = (sound limits entries legal).air.flights in
      let r = valued_place (λ (l : Flying). l.session == session) (pick (state entries).leads (state entries).revisions k) e in
      let at : at_iri (pick (state entries).leads (state entries).revisions k) r.1.0 ≡ Some r.1.1
      = lookup_from_place (eq_by_cmp_equiv nat_list_cmp_total) (pick (state entries).leads (state entries).revisions k) r.0 r.1.0 r.1.1
      (IsDistinct-from_sorted name_cmp (keys_of (pick (state entries).leads (state entries).revisions k)) (h.sorted k)) r.2 in
      nothing r.1.1.flight _ (h.listed k r.1.0 r.1.1 at, refl) (eqb-true r.1.1.session session r.3))

  pub no_flight : has_flight (state entries) session ≡ false
  no_flight = or_from _ _ (led_by_none kind.Lead) (led_by_none kind.Revise)

pub answer_follows : (limits : Limits) (entries : Entries) (session : ℕ) (s : Session) → limits.held ≤ 64 → Legal limits entries → IsOpenAs (state entries) session s → has_request s ≡ true → LeadsNothing (state entries) session
    → MayFollow limits entries (record { event = event.Answered session s.request how.NoMemory; given = None })
answer_follows limits entries session s small legal is asked nothing = follows_on limits entries _ small legal
    (ap (is_some_and _) is ∙ and_from _ _ (and_from _ _ (and_from _ _ asked (eq-eqb s.request s.request refl)) (not_from_false _ (no_flight limits entries legal session nothing))) refl)

flies_so : (store : Store) (number : ℕ) (flight : Flight) → IsUnderWay store number flight → is_some_and (λ (f : Flight). is_under_way f.end) (flight_at store.flights number) ≡ true
flies_so store number flight u = ap (is_some_and (λ (f : Flight). is_under_way f.end)) u.0 ∙ u.1

fault_test : (before after most : ℕ) → after ≤ most → (before < after) ⊎ ((before ≡ most) × (after ≡ most))
    → (nat_le after most && (nat_lt before after || ((before == most) && (after == most)))) ≡ true
fault_test before after most le (inl rises) = and_from _ _ (le-leb after most le) (or_left _ _ (lt-ltb before after rises))
fault_test before after most le (inr full) = and_from _ _ (le-leb after most le) (or_right _ _ (and_from _ _ (eq-eqb before most full.0) (eq-eqb after most full.1)))

pub failure_follows : (limits : Limits) (entries : Entries) (number : ℕ) (flight : Flight) (before after : ℕ) → limits.held ≤ 64 → Legal limits entries → IsUnderWay (state entries) number flight
    → after ≤ 2 ^ 63 - 1 → (before < after) ⊎ ((before ≡ 2 ^ 63 - 1) × (after ≡ 2 ^ 63 - 1))
    → MayFollow limits entries (record { event = event.Failed number before after; given = None })
failure_follows limits entries number flight before after small legal u le rises = follows_on limits entries _ small legal
    (and_from _ _ (flies_so (state entries) number flight u) (fault_test before after (2 ^ 63 - 1) le rises))

pub lapse_follows : (limits : Limits) (entries : Entries) (number : ℕ) (flight : Flight) → limits.held ≤ 64 → Legal limits entries → IsUnderWay (state entries) number flight
    → MayFollow limits entries (record { event = event.Lapsed number; given = None })
lapse_follows limits entries number flight small legal u = follows_on limits entries _ small legal (flies_so (state entries) number flight u)

pub close_follows : (limits : Limits) (entries : Entries) (session : ℕ) (s : Session) → limits.held ≤ 64 → Legal limits entries → IsOpenAs (state entries) session s → has_request s ≡ false
    → MayFollow limits entries (record { event = event.Closed session; given = None })
close_follows limits entries session s small legal is idle = follows_on limits entries _ small legal (ap (is_some_and _) is ∙ not-false (is_idle s.last) idle)
