-- A lack.
use Rattle.std.proofs.Common.{◌≡◌, ◌∙◌, ℕ, ◌+◌, Bool, true, false, not, List, [], ◌∷◌, ◌++◌, length, refl, sym, ap, subst, eqb-true}
use Rattle.std.specs.Prelude.{Option, Some, None, Err, if◌then◌else◌, nat_lt, ◌==◌}
use Rattle.ld_answer.specs.declared.envelope.Envelope.{Envelope}
use Rattle.ld_answer.specs.declared.op.Op.{Op}
use Rattle.ld_rec.specs.declared.stop.Stop.TheVariants as stop
use Rattle.ld_history.specs.After.{after, holding}
use Rattle.ld_history.specs.ByTurns.{LegalFrom}
use Rattle.ld_history.specs.Legal.{Entries, is_in_stock, state}
use Rattle.ld_history.specs.Plans.{AllowsStep}
use Rattle.ld_history.specs.Rules.{Had, is_full}
use Rattle.ld_history.specs.Steps as steps
use Rattle.ld_history.specs.Steps.{Taken, appended, plain, taken}
use Rattle.ld_history.specs.Store.{Store}
use Rattle.ld_history.specs.Words.{archive_has_room, at_iri, at_number, flight_at, is_stored, places}
use Rattle.ld_history.specs.declared.answers.LackAnswer.{LackAnswer}
use Rattle.ld_history.specs.declared.answers.LackAnswer.TheVariants as lack_answer
use Rattle.ld_history.specs.declared.event.Event.TheVariants as event
use Rattle.ld_history.specs.declared.event.How.{How}
use Rattle.ld_history.specs.declared.event.How.TheVariants as how
use Rattle.ld_history.specs.declared.limits.Limits.{Limits}
use Rattle.ld_history.specs.declared.session.End.TheVariants as end
use Rattle.ld_history.specs.declared.session.Flying.{Flying}
use Rattle.ld_history.specs.declared.session.Kind.TheVariants as kind
use Rattle.ld_history.specs.declared.session.Last.{Last}
use Rattle.ld_history.specs.declared.session.Last.TheVariants as last
use Rattle.ld_history.specs.declared.session.Session.{Session}
use Rattle.ld_history.proofs.LawCrew.{changed_same}
use Rattle.ld_history.proofs.LawFlights.{flight_last}
use Rattle.ld_history.proofs.LawReads.{read_answer, read_find, read_join, read_lead, some_and}
use Rattle.ld_history.proofs.LawSound.{sound}
use Rattle.ld_history.proofs.LawTold.{lack_told}
use Rattle.ld_history.proofs.StepLack.{lack_allowed}
use Rattle.ld_fits.specs.Leading.{after_lack}
use Rattle.ld_fits.specs.Play.{Pinned, Request}
use Rattle.ld_fits.proofs.Leading.{lack_goes}
use Rattle.ld_book.specs.Pages.{Booked, Pages, after_step, bare, entries_of, history_of}
use Rattle.ld_book.proofs.Saying.{Holds}
use Rattle.ld_moves.specs.Moving.{Finds, MovesOn}
use Rattle.ld_moves.specs.Standing.{AfterLack, Stands}
use Rattle.ld_moves.proofs.Quiet.{AreQuiet, quiet_moves}
use Rattle.ld_moves.proofs.Stepping.{after_one, as_step}
use Rattle.ld_moves.proofs.Taking.{state_with, turns_legal}

-- the request is answered
abbrev pub IsRefused : ℕ → Entries → Type 0
IsRefused session es = (request : ℕ) × (said : How (List ℕ)) × (es ≡ plain (event.Answered session request said) ∷ [])

-- what a lack appends, by what it answers
abbrev LackBy : ℕ → List ℕ → LackAnswer → Entries → Type 0
LackBy session iri lack_answer.There es = es ≡ plain (event.Found session iri) ∷ []
LackBy session iri (lack_answer.Joined flight) es = es ≡ plain (event.Joined session iri flight) ∷ []
LackBy session iri (lack_answer.Led flight None) es = es ≡ plain (event.Led session iri flight) ∷ []
LackBy session iri (lack_answer.Led flight (Some out)) es = es ≡ plain (event.Evicted session out.iri out.version) ∷ plain (event.Led session iri flight) ∷ []
LackBy session iri _ es = IsRefused session es

module _ (had : Had) (limits : Limits) (store : Store) (session : ℕ) (iri : List ℕ) where
  abbrev P : LackAnswer → Entries → Type 0
  P = LackBy session iri

  out_by : (out : Option (List ℕ)) → Holds P (steps.led_after store session iri out)
  out_by None = tt
  out_by (Some out) = refl

  place_by : (b : Bool) → Holds P (if b then steps.led_after store session iri (steps.next_out store) else Some (taken (lack_answer.Led (length store.flights + 1) None) (plain (steps.led store session iri) ∷ [])))
  place_by true = out_by (steps.next_out store)
  place_by false = refl

  room_by : (s : Session) (b : Bool)
      → Holds P (if not b then Some (steps.ending session s (lack_answer.ArchiveFull store.bytes) (how.ArchiveFull store.bytes))
      else if places store == limits.contexts then steps.led_after store session iri (steps.next_out store)
      else Some (taken (lack_answer.Led (length store.flights + 1) None) (plain (steps.led store session iri) ∷ [])))
  room_by s true = place_by (places store == limits.contexts)
  room_by s false = (s.request, how.ArchiveFull store.bytes, refl)

  leading_by : (s : Session) (b : Bool)
      → Holds P (if b then Some (steps.ending session s lack_answer.StoreFull how.StoreFull)
      else if not (archive_has_room limits store) then Some (steps.ending session s (lack_answer.ArchiveFull store.bytes) (how.ArchiveFull store.bytes))
      else if places store == limits.contexts then steps.led_after store session iri (steps.next_out store)
      else Some (taken (lack_answer.Led (length store.flights + 1) None) (plain (steps.led store session iri) ∷ [])))
  leading_by s true = (s.request, how.StoreFull, refl)
  leading_by s false = room_by s (archive_has_room limits store)

  joining_by : (s : Session) (o : Option Flying) → Holds P (steps.joining limits store session iri s o)
  joining_by s None = leading_by s (is_full limits store)
  joining_by s (Some lead) = refl

  there_by : (s : Session) (b : Bool) → Holds P (if b then Some (taken lack_answer.There (plain (event.Found session iri) ∷ [])) else steps.joining limits store session iri s (at_iri store.leads iri))
  there_by s true = refl
  there_by s false = joining_by s (at_iri store.leads iri)

  missing_by : (s : Session) (b : Bool)
      → Holds P (if not b then Some (steps.ending session s (lack_answer.TooMany (length s.held)) (how.TooMany iri))
      else if is_stored store iri then Some (taken lack_answer.There (plain (event.Found session iri) ∷ []))
      else steps.joining limits store session iri s (at_iri store.leads iri))
  missing_by s true = there_by s (is_stored store iri)
  missing_by s false = (s.request, how.TooMany iri, refl)

  lacking_by : (s : Session) (b : Bool) → Holds P (if b then steps.missing limits store session iri s else None)
  lacking_by s true = missing_by s (nat_lt (length s.held) limits.held)
  lacking_by s false = tt

  in_session : (o : Option Session) (g : Session → Option (Taken LackAnswer)) → ((s : Session) → Holds P (g s)) → Holds P (steps.of_found g o)
  in_session None g h = tt
  in_session (Some s) g h = h s

  lack_by : Holds P (steps.lack_taken had limits store session iri)
  lack_by = in_session (at_number store.sessions session) (λ s. if steps.may_lack had iri s then steps.missing limits store session iri s else None) (λ s. lacking_by s (steps.may_lack had iri s))

pub refused_quiet : (session : ℕ) (es : Entries) → IsRefused session es → AreQuiet es
refused_quiet session es h = subst AreQuiet (sym h.2) (refl, tt)

lack_quiet : (session : ℕ) (iri : List ℕ) (a : LackAnswer) (es : Entries) → LackBy session iri a es → AreQuiet es
lack_quiet session iri lack_answer.There es h = subst AreQuiet (sym h) (refl, tt)
lack_quiet session iri (lack_answer.Joined flight) es h = subst AreQuiet (sym h) (refl, tt)
lack_quiet session iri (lack_answer.Led flight None) es h = subst AreQuiet (sym h) (refl, tt)
lack_quiet session iri (lack_answer.Led flight (Some out)) es h = subst AreQuiet (sym h) (refl, (refl, tt))
lack_quiet session iri (lack_answer.TooMany held) es h = refused_quiet session es h
lack_quiet session iri lack_answer.StoreFull es h = refused_quiet session es h
lack_quiet session iri (lack_answer.ArchiveFull bytes) es h = refused_quiet session es h

module _ (session : ℕ) (limits : Limits) (front : Pages) (found : Booked) (f : Finds session limits front found) where
  abbrev store : Store
  store = state (entries_of found.pages)

  -- what one entry changes of the session
  pub stands_one : (e : _) (s : Session) → at_number (after store (plain e)).sessions session ≡ Some s → Stands (found.pages ++ bare (plain e ∷ [])) session s.last
  stands_one e s is = record { s = s; is = ap (λ (st : Store). at_number st.sessions session) (after_one session limits front found f e) ∙ is; last_is = refl }

  pub refused_stands : (es : Entries) → IsRefused session es → LegalFrom limits store es → Stands (found.pages ++ bare es) session last.Idle
  refused_stands es h legal =
      let e = event.Answered session h.0 h.1 in
      let ok = subst (LegalFrom limits store) h.2 legal in
      let p = read_answer limits store session h.0 h.1 ok.0 in
      subst (λ (es : Entries). Stands (found.pages ++ bare es) session last.Idle) (sym h.2)
      (stands_one (event.Answered session h.0 h.1) (record p.s { held = []; last = last.Idle }) (changed_same store.sessions session (λ (s : Session). record s { held = []; last = last.Idle }) p.s p.is))

  module _ (iri : List ℕ) where
    held_one : (way : Last) (s : Session) → at_number store.sessions session ≡ Some s → at_number (holding store.sessions session iri way) session ≡ Some (record s { held = s.held ++ iri ∷ []; last = way })
    held_one way s is = changed_same store.sessions session (λ (s : Session). record s { held = s.held ++ iri ∷ []; last = way }) s is

    tells : (a : LackAnswer) (es : Entries) → LackBy session iri a es → LegalFrom limits store es → AfterLack (found.pages ++ bare es) session iri a
    tells lack_answer.There es h legal =
        let p = read_find limits store session iri (subst (LegalFrom limits store) h legal).0 in
        subst (λ (es : Entries). Stands (found.pages ++ bare es) session last.Found) (sym h)
        (stands_one (event.Found session iri) (record p.s { held = p.s.held ++ iri ∷ []; last = last.Found }) (held_one last.Found p.s p.is))
    tells (lack_answer.Joined flight) es h legal =
        let p = read_join limits store session iri flight (subst (LegalFrom limits store) h legal).0 in
        let lead = some_and _ _ p.led in
        let number : lead.0.flight ≡ flight = eqb-true lead.0.flight flight lead.2 in
        subst (λ (es : Entries). AfterLack (found.pages ++ bare es) session iri (lack_answer.Joined flight)) (sym h) (
          stands_one (event.Joined session iri flight) (record p.s { held = p.s.held ++ iri ∷ []; last = last.Joined flight }) (held_one (last.Joined flight) p.s p.is),
          record {
            flight = record { iri = iri; kind = kind.Lead; session = lead.0.session; end = end.UnderWay };
            is = ap (λ (st : Store). flight_at st.flights flight) (after_one session limits front found f (event.Joined session iri flight))
                ∙ ap (flight_at store.flights) (sym number) ∙ (sound limits (entries_of found.pages) (turns_legal session limits front found f)).air.flights.listed kind.Lead iri lead.0 lead.1;
            iri_is = refl;
          },
        )
    tells (lack_answer.Led flight None) es h legal =
        let p = read_lead limits store session iri flight (subst (LegalFrom limits store) h legal).0 in
        subst (λ (es : Entries). AfterLack (found.pages ++ bare es) session iri (lack_answer.Led flight None)) (sym h) (
          stands_one (event.Led session iri flight) (record p.s { held = p.s.held ++ iri ∷ []; last = last.Led flight }) (held_one (last.Led flight) p.s p.is),
          ap (λ (st : Store). flight_at st.flights flight) (after_one session limits front found f (event.Led session iri flight))
              ∙ flight_last store.flights (record { iri = iri; kind = kind.Lead; session = session; end = end.UnderWay }) flight p.has.next,
        )
    tells (lack_answer.Led flight (Some out)) es h legal =
        let ok = subst (LegalFrom limits store) h legal in
        let made : Store = after store (plain (event.Evicted session out.iri out.version)) in
        let p = read_lead limits made session iri flight ok.1.0 in
        let now = state_with session limits front found f (bare (plain (event.Evicted session out.iri out.version) ∷ plain (event.Led session iri flight) ∷ [])) in
        subst (λ (es : Entries). AfterLack (found.pages ++ bare es) session iri (lack_answer.Led flight (Some out))) (sym h) (
          record {
            s = record p.s { held = p.s.held ++ iri ∷ []; last = last.Led flight };
            is = ap (λ (st : Store). at_number st.sessions session) now ∙ changed_same made.sessions session (λ (s : Session). record s { held = s.held ++ iri ∷ []; last = last.Led flight }) p.s p.is;
            last_is = refl;
          },
          ap (λ (st : Store). flight_at st.flights flight) now
              ∙ flight_last store.flights (record { iri = iri; kind = kind.Lead; session = session; end = end.UnderWay }) flight p.has.next,
        )
    tells (lack_answer.TooMany held) es h legal = refused_stands es h legal
    tells lack_answer.StoreFull es h legal = refused_stands es h legal
    tells (lack_answer.ArchiveFull bytes) es h legal = refused_stands es h legal

    module _ (t : Taken LackAnswer) (is : steps.lack_step (history_of found) session iri ≡ Some t) where
      lack_is : steps.lack_step (record { limits = limits; entries = entries_of found.pages }) session iri ≡ Some t
      lack_is = subst (λ (l : Limits). steps.lack_step (record { limits = l; entries = entries_of found.pages }) session iri ≡ Some t) f.limits_are is

      legal_taken : LegalFrom limits store t.entries
      legal_taken =
          subst (AllowsStep limits store) (sym (lack_told limits (entries_of found.pages) (turns_legal session limits front found f) session iri) ∙ lack_is)
          (lack_allowed limits (entries_of found.pages) (turns_legal session limits front found f) session iri)

      by_taken : LackBy session iri t.answer t.entries
      by_taken = subst (Holds (LackBy session iri)) lack_is (lack_by (is_in_stock (entries_of found.pages)) limits store session iri)

      pub lack_moves : (r : Request) (op : Op) (envelope : Envelope) → MovesOn session limits front (after_step found (steps.lack_step (history_of found) session iri)).pages
          (Pinned r op envelope (Err (stop.Missing iri))) (after_lack r op envelope iri t.answer)
      lack_moves r op envelope =
          as_step found (steps.lack_step (history_of found) session iri) (λ pages. MovesOn session limits front pages (Pinned r op envelope (Err (stop.Missing iri))) (after_lack r op envelope iri t.answer)) t.entries (ap appended is)
          (quiet_moves session limits front found f t.entries legal_taken (lack_quiet session iri t.answer t.entries by_taken) (Pinned r op envelope (Err (stop.Missing iri))) (after_lack r op envelope iri t.answer)
          (λ stock. lack_goes limits stock store session (is_in_stock (entries_of found.pages)) r op envelope iri t lack_is))

      pub lack_tells : AfterLack (after_step found (steps.lack_step (history_of found) session iri)).pages session iri t.answer
      lack_tells =
          as_step found (steps.lack_step (history_of found) session iri) (λ pages. AfterLack pages session iri t.answer) t.entries (ap appended is) (tells t.answer t.entries by_taken legal_taken)
