-- Asked of the stock or of the turns, the rules say the same of a legal history; so the same histories are legal.
use Rattle.std.proofs.Common.{◌≡◌, ℕ, List, [], ◌∷◌, ◌++◌, length, refl, sym, ap, ◌∙◌, subst, Option, Some, None, Bool, true, not, ◌&&◌, ◌||◌}
use Rattle.std.specs.Prelude.{if◌then◌else◌, nat_le, nat_lt, ◌==◌, option_map}
use Rattle.ld_history.specs.declared.limits.Limits.{Limits}
use Rattle.ld_history.specs.declared.event.Given.{Given}
use Rattle.ld_history.specs.declared.event.Event.{Event}
use Rattle.ld_history.specs.declared.event.Event.TheVariants as event
use Rattle.ld_history.specs.declared.event.How.{How}
use Rattle.ld_history.specs.declared.event.How.TheVariants as how
use Rattle.ld_history.specs.declared.event.Entry.{Entry}
use Rattle.ld_history.specs.declared.session.Session.{Session}
use Rattle.ld_history.specs.Store.{Store}
use Rattle.ld_history.specs.Words.{at_number, is_some_and, is_pinned, is_stored, has_request, has_flight}
use Rattle.ld_history.specs.Rules as rules
use Rattle.ld_history.specs.Legal as legal
use Rattle.ld_history.specs.Legal.{Entries, History, state, is_in_stock, is_allowed}
use Rattle.ld_history.specs.Steps.{of_found, of_session, where_, taken, plain, ending, missing, lack_taken, answer_taken, lack_step, answer_step}
use Rattle.ld_history.specs.ByTurns as turns
use Rattle.ld_history.specs.ByTurns.{was_stored, LegalFrom, IsKept}
use Rattle.ld_history.proofs.LawSound.{sound}
use Rattle.ld_history.proofs.LawStock.{turns_tell, legal_push, pushed}

-- ---- two tests that say the same of each open session's version
module _ (a b : rules.Had) (limits : Limits) (store : Store) (alike : (n : ℕ) (s : Session) → at_number store.sessions n ≡ Some s → (iri : List ℕ) → a iri s.version ≡ b iri s.version) where
  passes_alike : (session : ℕ) (f g : Session → Bool) → ((s : Session) → at_number store.sessions session ≡ Some s → f s ≡ g s) → rules.on_session store session f ≡ rules.on_session store session g
  passes_alike session f g each = by_found (at_number store.sessions session) refl
    where
      by_found : (o : Option Session) → at_number store.sessions session ≡ o → is_some_and f o ≡ is_some_and g o
      by_found None is = refl
      by_found (Some s) is = each s is

  lacks_alike : (session : ℕ) (iri : List ℕ) (s : Session) → at_number store.sessions session ≡ Some s → rules.lacks a limits iri s ≡ rules.lacks b limits iri s
  lacks_alike session iri s is = ap (λ w. not w && nat_le (length iri) 2048 && nat_lt (length s.held) limits.held) (alike session s is iri)

  find_alike : (session : ℕ) (iri : List ℕ) → rules.may_find a limits store session iri ≡ rules.may_find b limits store session iri
  find_alike session iri = passes_alike session _ _ (λ s is. ap (λ w. is_pinned s.last && w && is_stored store iri) (lacks_alike session iri s is))

  lead_alike : (session : ℕ) (iri : List ℕ) (flight : ℕ) → rules.may_lead a limits store session iri flight ≡ rules.may_lead b limits store session iri flight
  lead_alike session iri flight = passes_alike session _ _
      (λ s is. ap (λ w. (is_pinned s.last || rules.place_was_made limits store session iri) && w && rules.has_place limits store iri flight) (lacks_alike session iri s is))

  join_alike : (session : ℕ) (iri : List ℕ) (flight : ℕ) → rules.may_join a limits store session iri flight ≡ rules.may_join b limits store session iri flight
  join_alike session iri flight = passes_alike session _ _ (λ s is. ap (λ w. is_pinned s.last && w && rules.is_led_as store iri flight) (lacks_alike session iri s is))

  say_alike : (session : ℕ) (s : Session) → at_number store.sessions session ≡ Some s → (how : How (List ℕ)) → rules.may_say a limits store s how ≡ rules.may_say b limits store s how
  say_alike session s is how.Done = refl
  say_alike session s is how.NoMemory = refl
  say_alike session s is (how.LoadFault flight) = refl
  say_alike session s is (how.TooMany iri) = ap (λ w. is_pinned s.last && (length s.held == limits.held) && not w) (alike session s is iri)
  say_alike session s is how.StoreFull = refl
  say_alike session s is (how.ArchiveFull bytes) = refl
  say_alike session s is (how.NotStored version) = refl
  say_alike session s is (how.Held holder) = refl
  say_alike session s is (how.Revising flight) = refl
  say_alike session s is (how.Flying flight) = refl
  say_alike session s is (how.Evicted version) = refl
  say_alike session s is (how.Revised version) = refl
  say_alike session s is how.Same = refl

  answer_alike : (session request : ℕ) (how : How (List ℕ)) → rules.may_answer a limits store session request how ≡ rules.may_answer b limits store session request how
  answer_alike session request how = passes_alike session _ _ (λ s is. ap (λ w. has_request s && (request == s.request) && not (has_flight store session) && w) (say_alike session s is how))

  alone_alike : (event : Event (List ℕ)) → rules.allows_alone a limits store event ≡ rules.allows_alone b limits store event
  alone_alike (event.Opened session seat) = refl
  alone_alike (event.Pinned session request attempt version) = refl
  alone_alike (event.Found session iri) = find_alike session iri
  alone_alike (event.Led session iri flight) = lead_alike session iri flight
  alone_alike (event.Joined session iri flight) = join_alike session iri flight
  alone_alike (event.Published flight version) = refl
  alone_alike (event.Failed flight before after) = refl
  alone_alike (event.Lapsed flight) = refl
  alone_alike (event.Evicted session iri version) = refl
  alone_alike (event.ReviseLed session iri flight) = refl
  alone_alike (event.Same flight) = refl
  alone_alike (event.Answered session request how) = answer_alike session request how
  alone_alike (event.Closed session) = refl

  given_alike : (event : Event (List ℕ)) (given : Option Given) → rules.allows_given a limits store event given ≡ rules.allows_given b limits store event given
  given_alike event None = alone_alike event
  given_alike event (Some given) = refl

  allows_alike : (entry : Entry (List ℕ) Given) → rules.allows a limits store entry ≡ rules.allows b limits store entry
  allows_alike entry = given_alike entry.event entry.given

  taken_alike : {A : Type 0} (session : ℕ) (f g : Session → Option A) → ((s : Session) → at_number store.sessions session ≡ Some s → f s ≡ g s) → of_session store session f ≡ of_session store session g
  taken_alike session f g each = by_found (at_number store.sessions session) refl
    where
      by_found : (o : Option Session) → at_number store.sessions session ≡ o → of_found f o ≡ of_found g o
      by_found None is = refl
      by_found (Some s) is = each s is

  lack_alike : (session : ℕ) (iri : List ℕ) → lack_taken a limits store session iri ≡ lack_taken b limits store session iri
  lack_alike session iri = taken_alike session _ _
      (λ s is. ap (λ w. if is_pinned s.last && not w && nat_le (length iri) 2048 then missing limits store session iri s else None) (alike session s is iri))

  answered_alike : (session : ℕ) (how : How (List ℕ)) → answer_taken a limits store session how ≡ answer_taken b limits store session how
  answered_alike session how = taken_alike session _ _ (λ s is. ap (λ w. where_ w (ending session s s.request how)) (answer_alike session s.request how))

-- ---- legal histories
module _ (limits : Limits) (entries : Entries) (legal : turns.Legal limits entries) where
  pub stock_alike : (n : ℕ) (s : Session) → at_number (state entries).sessions n ≡ Some s → (iri : List ℕ) → is_in_stock entries iri s.version ≡ was_stored (state entries) iri s.version
  stock_alike n s is iri = sym (turns_tell limits entries legal iri s.version ((sound limits entries legal).crew.each n s is).pinned)

  pub allowed_alike : (entry : Entry (List ℕ) Given) → is_allowed limits entries entry ≡ turns.allows limits (state entries) entry
  allowed_alike entry = allows_alike (is_in_stock entries) (was_stored (state entries)) limits (state entries) stock_alike entry

  pub lack_told : (session : ℕ) (iri : List ℕ) → lack_step (record { limits = limits; entries = entries }) session iri ≡ turns.lack_found limits (state entries) session iri
  lack_told session iri = lack_alike (is_in_stock entries) (was_stored (state entries)) limits (state entries) stock_alike session iri

  pub answer_told : (session : ℕ) (how : How (List ℕ)) → answer_step (record { limits = limits; entries = entries }) session how ≡ answer_taken (was_stored (state entries)) limits (state entries) session how
  answer_told session how = answered_alike (is_in_stock entries) (was_stored (state entries)) limits (state entries) stock_alike session how

by_turns_from : (limits : Limits) (before rest : Entries) → turns.Legal limits before → legal.LegalAfter limits before rest → LegalFrom limits (state before) rest
by_turns_from limits before [] legal h = tt
by_turns_from limits before (entry ∷ rest) legal h =
    let ok : turns.allows limits (state before) entry ≡ true = sym (allowed_alike limits before legal entry) ∙ h.0 in
    (ok, subst (λ s. LegalFrom limits s rest) (pushed before entry) (by_turns_from limits (before ++ entry ∷ []) rest (legal_push limits before entry legal ok) h.1))

-- a legal history is legal by its turns
pub by_turns : (limits : Limits) (entries : Entries) → legal.Legal limits entries → turns.Legal limits entries
by_turns limits entries h = by_turns_from limits [] entries tt h

by_stock_from : (limits : Limits) (before rest : Entries) → turns.Legal limits before → LegalFrom limits (state before) rest → legal.LegalAfter limits before rest
by_stock_from limits before [] legal h = tt
by_stock_from limits before (entry ∷ rest) legal h = (
  (allowed_alike limits before legal entry ∙ h.0),
  by_stock_from limits (before ++ entry ∷ []) rest (legal_push limits before entry legal h.0) (subst (λ s. LegalFrom limits s rest) (sym (pushed before entry)) h.1),
)

pub by_stock : (limits : Limits) (entries : Entries) → turns.Legal limits entries → legal.Legal limits entries
by_stock limits entries h = by_stock_from limits [] entries tt h

pub legal_front : (limits : Limits) (before front back : Entries) → legal.LegalAfter limits before (front ++ back) → legal.LegalAfter limits before front
legal_front limits before [] back h = tt
legal_front limits before (entry ∷ front) back h = (h.0, legal_front limits (before ++ entry ∷ []) front back h.1)

-- ---- the tables of a history
module _ (limits : Limits) (entries : Entries) (store : Store) (h : History) (kept : IsKept limits entries store) (view : record { limits = limits; entries = entries } ≡ h) where
  pub allowed_kept : (entry : Entry (List ℕ) Given) → is_allowed h.limits h.entries entry ≡ turns.allows limits store entry
  allowed_kept entry = ap (λ (x : History). is_allowed x.limits x.entries entry) (sym view) ∙ allowed_alike limits entries kept.legal entry ∙ ap (λ s. turns.allows limits s entry) (sym kept.replayed)

  pub lack_kept : (session : ℕ) (iri : List ℕ) → lack_step h session iri ≡ turns.lack_found limits store session iri
  lack_kept session iri = ap (λ x. lack_step x session iri) (sym view) ∙ lack_told limits entries kept.legal session iri ∙ ap (λ s. turns.lack_found limits s session iri) (sym kept.replayed)

  pub answer_kept : (session : ℕ) (how : How (List ℕ)) → answer_step h session how ≡ answer_taken (was_stored store) limits store session how
  answer_kept session how = ap (λ x. answer_step x session how) (sym view) ∙ answer_told limits entries kept.legal session how ∙ ap (λ s. answer_taken (was_stored s) limits s session how) (sym kept.replayed)

  pub legal_kept : legal.Legal h.limits h.entries
  legal_kept = subst (λ (x : History). legal.Legal x.limits x.entries) view (by_stock limits entries kept.legal)

-- ---- an answer over the tables
module _ (limits : Limits) (store : Store) (session request : ℕ) (how : How (List ℕ)) (asked : option_map (λ s. s.request) (at_number store.sessions session) ≡ Some request) where
  same_request : (n : ℕ) → Some n ≡ Some request → n ≡ request
  same_request n e = cc

  pub answer_found : (b : Bool) → turns.may_answer limits store session request how ≡ b
      → answer_taken (was_stored store) limits store session how ≡ where_ b (taken request (plain (event.Answered session request how) ∷ []))
  answer_found b is = by_found (at_number store.sessions session) asked
    where
      by_found : (o : Option Session) → option_map (λ s. s.request) o ≡ Some request
          → of_found (λ s. where_ (turns.may_answer limits store session s.request how) (ending session s s.request how)) o ≡ where_ b (taken request (plain (event.Answered session request how) ∷ []))
      by_found None e = cc
      by_found (Some s) e =
          ap (λ r. where_ (turns.may_answer limits store session r how) (taken r (plain (event.Answered session r how) ∷ []))) (same_request s.request e)
          ∙ ap (λ w. where_ w (taken request (plain (event.Answered session request how) ∷ []))) is
