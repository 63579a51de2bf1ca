-- The turns of a request that wants a context.
use Rattle.std.proofs.Common.{◌≡◌, ◌∙◌, ℕ, ◌≤◌, Bool, true, false, not, ◌&&◌, List, length, arith, Option, Some, None, Result, Ok, Err, ap, refl, subst}
use Rattle.std.proofs.lemmas.Bool.Decides.{nat_tests}
use Rattle.std.specs.Prelude.{IfOk, OnErr, OnOk, nat_le, nat_lt, ◌==◌}
use Rattle.ld_history.specs.Legal.{History, is_in_stock, state}
use Rattle.ld_history.specs.Rules.{has_pinned, is_full, on_session}
use Rattle.ld_history.specs.Steps as steps
use Rattle.ld_history.specs.Steps.{Taken, may_lack}
use Rattle.ld_history.specs.Words.{archive_has_room, at_iri, at_number, is_pinned, is_some_and, is_stored, least_holder, places}
use Rattle.ld_history.specs.declared.limits.Limits.{Limits}
use Rattle.ld_history.specs.declared.session.Flying.{Flying}
use Rattle.ld_history.specs.declared.session.Last.TheVariants as last
use Rattle.ld_history.specs.declared.session.Session.{Session}
use Rattle.ld_book.specs.Pages.{Booked, Pages, after_step, entries_of}
use Rattle.ld_book.specs.Said.{Says}
use Rattle.ld_moves.specs.Moving.{Finds}
use Rattle.ld_moves.specs.Standing.{Stands}
use Rattle.ld_moves.proofs.Keeping.{in_stock_found, session_found}
use Rattle.ld_visit.specs.Ending.{MayLack}
use Rattle.ld_visit.specs.Taking.{TakesOr}
use Rattle.ld_visit.specs.Turns.{AreOwn}
use Rattle.ld_visit.proofs.Allowing.{stands_found}
use Rattle.ld_visit.proofs.Owning.{Own, own_event, own_found, own_if, own_some, own_where}

pub taken_or : {A B E : Type 0} (told : A → B) (step : ℕ → Booked → Option (Taken A)) (now b : Booked) → now ≡ b → (n s : ℕ) → n ≡ s → (new : Booked) (r : Result B E)
    → IfOk r (Says told (step n now)) → OnOk r (new ≡ after_step now (step n now)) → OnErr r (new ≡ now) → (new.limits ≡ b.limits) × TakesOr told (step s) r b new.pages
taken_or told step now b at n s same new (Ok answer) says ok err =
    let is : new ≡ after_step b (step s b) = ok ∙ ap (λ (x : Booked). after_step x (step n x)) at ∙ ap (λ (m : ℕ). after_step b (step m b)) same in (
      ap (λ (x : Booked). x.limits) is,
      (subst (λ (m : ℕ). Says told (step m b) answer) same (subst (λ (x : Booked). Says told (step n x) answer) at says), ap (λ (x : Booked). x.pages) is),
    )
taken_or told step now b at n s same new (Err x) says ok err = (ap (λ (y : Booked). y.limits) (err ∙ at), ap (λ (y : Booked). y.pages) (err ∙ at))

all_three : (a b c : Bool) → a ≡ true → b ≡ false → c ≡ true → (a && not b && c) ≡ true
all_three a b c p q r = rw (p, q, r) refl

within : (n : ℕ) → n ≤ 2048 → nat_le n 2048 ≡ true
within n le = grind (arith, nat_tests)

module _ (session : ℕ) (limits : Limits) (front : Pages) (found : Booked) (f : Finds session limits front found) where
  pub pinned_found : Stands front session last.Pinned → has_pinned (state (entries_of found.pages)) session ≡ true
  pinned_found h = stands_found session limits front found f last.Pinned is_pinned h refl

  pub lack_found : (iri : List ℕ) → MayLack front session iri → on_session (state (entries_of found.pages)) session (may_lack (is_in_stock (entries_of found.pages)) iri) ≡ true
  lack_found iri m =
      let p = m.pinned in
      ap (is_some_and (may_lack (is_in_stock (entries_of found.pages)) iri)) (session_found session limits front found f p.s p.is)
      ∙ all_three (is_pinned p.s.last) (is_in_stock (entries_of found.pages) iri p.s.version) (nat_le (length iri) 2048) (ap is_pinned p.last_is)
      (ap (is_in_stock (entries_of found.pages) iri) p.version_is ∙ in_stock_found session limits front found f iri m.version m.current ∙ m.without) (within (length iri) m.short)

module _ (history : History) (session : ℕ) (iri : List ℕ) where
  after_own : (o : Option (List ℕ)) → Own session (state history.entries) (steps.led_after (state history.entries) session iri o)
  after_own None = tt
  after_own (Some out) = (own_event session, (own_event session, tt))

  joining_own : (s : Session) (o : Option Flying) → Own session (state history.entries) (steps.joining history.limits (state history.entries) session iri s o)
  joining_own s None =
      own_if session (state history.entries) (is_full history.limits (state history.entries)) _ _ (own_event session, tt) (own_if session (state history.entries) (not (archive_has_room history.limits (state history.entries))) _ _ (own_event session, tt)
      (own_if session (state history.entries) (places (state history.entries) == history.limits.contexts) _ _ (after_own (steps.next_out (state history.entries))) (own_event session, tt)))
  joining_own s (Some lead) = (own_event session, tt)

  pub lack_own : Own session (state history.entries) (steps.lack_step history session iri)
  lack_own = own_found session (state history.entries) _ (λ s. own_if session (state history.entries) (may_lack (is_in_stock history.entries) iri s) _ _
      (own_if session (state history.entries) (not (nat_lt (length s.held) history.limits.held)) _ _ (own_event session, tt) (own_if session (state history.entries) (is_stored (state history.entries) iri) _ _ (own_event session, tt) (joining_own s (at_iri (state history.entries).leads iri)))) tt)
      (at_number (state history.entries).sessions session)

  -- ---- an eviction
  unrevised_own : (s : Session) (o : Option Flying) → AreOwn session (state history.entries) (steps.evicting_unrevised (state history.entries) session iri s o).entries
  unrevised_own s None = (own_event session, (own_event session, tt))
  unrevised_own s (Some revision) = (own_event session, tt)

  unheld_own : (s : Session) (o : Option ℕ) → AreOwn session (state history.entries) (steps.evicting_unheld (state history.entries) session iri s o).entries
  unheld_own s None = unrevised_own s (at_iri (state history.entries).revisions iri)
  unheld_own s (Some holder) = (own_event session, tt)

  pub evict_own : Own session (state history.entries) (steps.evict_step history session iri)
  evict_own = own_found session (state history.entries) _ (λ s. own_where session (state history.entries) (is_pinned s.last) _
      (own_some session (state history.entries) (is_stored (state history.entries) iri) _ _ (unheld_own s (least_holder (state history.entries) iri)) (own_event session, tt)))
      (at_number (state history.entries).sessions session)

  -- ---- a revision
  leading_own : (s : Session) (o : Option Flying) → AreOwn session (state history.entries) (steps.revising_unrevised history.limits (state history.entries) session iri s o).entries
  leading_own s None = own_some session (state history.entries) (archive_has_room history.limits (state history.entries)) _ _ (own_event session, tt) (own_event session, tt)
  leading_own s (Some revision) = (own_event session, tt)

  pub revise_own : Own session (state history.entries) (steps.revise_step history session iri)
  revise_own = own_found session (state history.entries) _ (λ s. own_where session (state history.entries) (is_pinned s.last) _
      (own_some session (state history.entries) (is_stored (state history.entries) iri) _ _ (leading_own s (at_iri (state history.entries).revisions iri)) (own_event session, tt)))
      (at_number (state history.entries).sessions session)
