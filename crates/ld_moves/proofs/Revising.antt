-- A revision.
use Rattle.std.proofs.Common.{◌≡◌, ◌∙◌, ℕ, Bool, true, false, List, [], ◌∷◌, ◌++◌, refl, sym, ap, subst}
use Rattle.std.specs.Prelude.{Option, Some, None}
use Rattle.ld_history.specs.ByTurns.{LegalFrom}
use Rattle.ld_history.specs.Choices.{revise_event}
use Rattle.ld_history.specs.Legal.{state}
use Rattle.ld_history.specs.Steps as steps
use Rattle.ld_history.specs.Steps.{Taken, appended, plain}
use Rattle.ld_history.specs.Store.{Store}
use Rattle.ld_history.specs.Words.{at_number, flight_at, is_pinned}
use Rattle.ld_history.specs.declared.answers.ReviseAnswer.{ReviseAnswer}
use Rattle.ld_history.specs.declared.answers.ReviseAnswer.TheVariants as revise_answer
use Rattle.ld_history.specs.declared.event.Event.TheVariants as event
use Rattle.ld_history.specs.declared.event.How.TheVariants as how
use Rattle.ld_history.specs.declared.limits.Limits.{Limits}
use Rattle.ld_history.specs.declared.session.End.TheVariants as end
use Rattle.ld_history.specs.declared.session.Kind.TheVariants as kind
use Rattle.ld_history.specs.declared.session.Last.TheVariants as last
use Rattle.ld_history.specs.declared.session.Session.{Session}
use Rattle.ld_history.proofs.LawCrew.{changed_same}
use Rattle.ld_history.proofs.LawFlights.{flight_last}
use Rattle.ld_history.proofs.LawReads.{read_revise}
use Rattle.ld_history.proofs.Revising.{revising_allowed, revising_tells}
use Rattle.ld_fits.specs.Leading.{after_revise}
use Rattle.ld_fits.specs.Play.{Request, Revising}
use Rattle.ld_fits.proofs.Leading.{revise_goes, stored_is_unled}
use Rattle.ld_book.specs.Pages.{Booked, Pages, after_step, bare, entries_of, history_of}
use Rattle.ld_moves.specs.Moving.{Finds, MovesOn}
use Rattle.ld_moves.specs.Standing.{AfterRevise}
use Rattle.ld_moves.proofs.Lacking.{refused_stands, stands_one}
use Rattle.ld_moves.proofs.Quiet.{AreQuiet, quiet_moves}
use Rattle.ld_moves.proofs.Stepping.{after_one, as_step}
use Rattle.ld_moves.proofs.Taking.{turns_legal}

module _ (session : ℕ) (limits : Limits) (front : Pages) (found : Booked) (f : Finds session limits front found) (iri : List ℕ) where
  abbrev store : Store
  store = state (entries_of found.pages)

  record Parts (t : Taken ReviseAnswer) : Type 0 where
    request : ℕ
    entries_are : t.entries ≡ plain (revise_event session request iri t.answer) ∷ []
    legal : LegalFrom limits store t.entries

  found_parts : (t : Taken ReviseAnswer) (o : Option Session) → at_number store.sessions session ≡ o → steps.of_found (λ s. steps.where_ (is_pinned s.last) (steps.revising_stored limits store session iri s)) o ≡ Some t → Parts t
  found_parts t None at e = cc
  found_parts t (Some s) at e = go (is_pinned s.last) refl e
    where
      same : (a : Taken ReviseAnswer) → Some a ≡ Some t → a ≡ t
      same a e = cc

      go : (b : Bool) → is_pinned s.last ≡ b → steps.where_ b (steps.revising_stored limits store session iri s) ≡ Some t → Parts t
      go false pinned e = cc
      go true pinned e =
          let tells = ap (λ (x : Taken ReviseAnswer). x.entries) (revising_tells limits store session iri s) in
          let ok = revising_allowed limits (entries_of found.pages) session iri s (turns_legal session limits front found f) at pinned in
          subst Parts (same (steps.revising_stored limits store session iri s) e)
          (record { request = s.request; entries_are = tells; legal = subst (LegalFrom limits store) (sym tells) (ok, tt) })

  quiet_by : (request : ℕ) (a : ReviseAnswer) → AreQuiet (plain (revise_event session request iri a) ∷ [])
  quiet_by request (revise_answer.Led flight) = (refl, tt)
  quiet_by request (revise_answer.NotStored version) = (refl, tt)
  quiet_by request (revise_answer.Flying flight) = (refl, tt)
  quiet_by request (revise_answer.ArchiveFull bytes) = (refl, tt)

  tells_so : (request : ℕ) (a : ReviseAnswer) → LegalFrom limits store (plain (revise_event session request iri a) ∷ []) → AfterRevise (found.pages ++ bare (plain (revise_event session request iri a) ∷ [])) session iri a
  tells_so request (revise_answer.Led flight) legal =
      let p = read_revise limits store session iri flight legal.0 in (
        stands_one session limits front found f (event.ReviseLed session iri flight) (record p.s { last = last.ReviseLed flight }) (changed_same store.sessions session (λ (s : Session). record s { last = last.ReviseLed flight }) p.s p.is),
        ap (λ (st : Store). flight_at st.flights flight) (after_one session limits front found f (event.ReviseLed session iri flight))
            ∙ flight_last store.flights (record { iri = iri; kind = kind.Revise; session = session; end = end.UnderWay }) flight p.next,
      )
  tells_so request (revise_answer.NotStored version) legal = refused_stands session limits front found f _ (request, how.NotStored version, refl) legal
  tells_so request (revise_answer.Flying flight) legal = refused_stands session limits front found f _ (request, how.Flying flight, refl) legal
  tells_so request (revise_answer.ArchiveFull bytes) legal = refused_stands session limits front found f _ (request, how.ArchiveFull bytes, refl) legal

  module _ (t : Taken ReviseAnswer) (is : steps.revise_step (history_of found) session iri ≡ Some t) where
    revise_is : steps.revise_step (record { limits = limits; entries = entries_of found.pages }) session iri ≡ Some t
    revise_is = subst (λ (l : Limits). steps.revise_step (record { limits = l; entries = entries_of found.pages }) session iri ≡ Some t) f.limits_are is

    parts : Parts t
    parts = found_parts t (at_number store.sessions session) refl revise_is

    pub revise_moves : (r : Request) → MovesOn session limits front (after_step found (steps.revise_step (history_of found) session iri)).pages (Revising r iri) (after_revise r iri t.answer)
    revise_moves r =
        as_step found (steps.revise_step (history_of found) session iri) (λ pages. MovesOn session limits front pages (Revising r iri) (after_revise r iri t.answer)) t.entries (ap appended is)
        (quiet_moves session limits front found f t.entries parts.legal (subst AreQuiet (sym parts.entries_are) (quiet_by parts.request t.answer)) (Revising r iri) (after_revise r iri t.answer)
        (λ stock. revise_goes limits stock store session r iri (stored_is_unled limits (entries_of found.pages) iri f.sound.legal) t revise_is))

    pub revise_told : AfterRevise (after_step found (steps.revise_step (history_of found) session iri)).pages session iri t.answer
    revise_told =
        as_step found (steps.revise_step (history_of found) session iri) (λ pages. AfterRevise pages session iri t.answer) (plain (revise_event session parts.request iri t.answer) ∷ []) (ap appended is ∙ parts.entries_are)
        (tells_so parts.request t.answer (subst (LegalFrom limits store) parts.entries_are parts.legal))
