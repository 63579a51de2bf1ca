-- A close leaves the session's seat free.
use Rattle.std.proofs.Common.{◌≡◌, ◌∙◌, inl, inr, ℕ, true, false, [], ◌∷◌, ◌++◌, sym, ap, subst, eqb-true, nat_cmp, Some, None}
use Rattle.std.specs.Prelude.{◌==◌}
use Rattle.std.specs.Cmp.{eq_by_cmp_equiv, nat_cmp_total}
use Rattle.std.specs.Map.{keys_of}
use Rattle.std.proofs.lemmas.Bool.{false_from_ne_true}
use Rattle.std.proofs.lemmas.Map.Entries.{lookup_from_place}
use Rattle.std.proofs.lemmas.Map.Keys.{IsDistinct-from_sorted}
use Rattle.ld_turn.specs.Known.{Known, Turning}
use Rattle.ld_history.specs.After.{after, take_number}
use Rattle.ld_history.specs.ByTurns as turns
use Rattle.ld_history.specs.Legal.{AreWithin, Entries, History, Legal, state}
use Rattle.ld_history.specs.Rules.{may_close}
use Rattle.ld_history.specs.Seats.{opened_in}
use Rattle.ld_history.specs.Steps.{appended, close_step, plain, taken, where_}
use Rattle.ld_history.specs.Store.{Store, empty_store}
use Rattle.ld_history.specs.Words.{at_number, is_taken}
use Rattle.ld_history.specs.declared.event.Event.TheVariants as event
use Rattle.ld_history.specs.declared.limits.Limits.{Limits}
use Rattle.ld_history.specs.declared.session.Last.TheVariants as last
use Rattle.ld_history.specs.declared.session.Session.{Session}
use Rattle.ld_history.proofs.LawAlong.{replay-append}
use Rattle.ld_history.proofs.LawFlights.{apart_numbers, number_cases, take_number_other, take_number_same}
use Rattle.ld_history.proofs.LawHolds.{valued_place}
use Rattle.ld_history.proofs.LawReads.{read_close}
use Rattle.ld_history.proofs.LawSeats.{seat_is}
use Rattle.ld_history.proofs.LawSound.{sound}
use Rattle.ld_history.proofs.LawTables.{in_order-take}
use Rattle.ld_history.proofs.LawTold.{by_turns}
use Rattle.ld_book.specs.Documents.{ArePages}
use Rattle.ld_book.specs.Pages.{Booked, after_step, bare, entries_of, history_of, state_of}
use Rattle.ld_book.specs.Seats.{entries_in, lines_of}
use Rattle.ld_book.specs.declared.page.Line.{Line}
use Rattle.ld_moves.specs.Standing.{Stands}
use Rattle.ld_moves.specs.Stocks.{IsSound}
use Rattle.ld_moves.proofs.Quiet.{entries_bare}
use Rattle.ld_moves.proofs.Staying.{entries_on}
use Rattle.ld_visit.specs.Turns.{Enters}
use Rattle.ld_visit.specs.Visits.{Closed, Visiting}
use Rattle.ld_visit.proofs.Allowing.{close_found, taken_where}
use Rattle.ld_visit.proofs.Entering.{entries_told}
use Rattle.ld_visit.proofs.Owning.{Own, own_event, own_where, same_seat, taken_some}

pub close_own : (history : History) (session : ℕ) → Own session (state history.entries) (close_step history session)
close_own history session = own_where session (state history.entries) (may_close (state history.entries) session) _ (own_event session, tt)

-- no two open sessions are in one seat
module _ (limits : Limits) (entries : Entries) (legal : turns.Legal limits entries) (session number : ℕ) (opened : opened_in entries session ≡ Some number) (may : may_close (state entries) session ≡ true) where
  free_after : is_taken (after (state entries) (plain (event.Closed session))) number ≡ false
  free_after = false_from_ne_true (is_taken (after (state entries) (plain (event.Closed session))) number) (λ any.
      let p = read_close (state entries) session may in
      let crew = (sound limits entries legal).crew in
      let here : p.s.seat ≡ number = same_seat p.s.seat number (sym (seat_is limits entries session p.s legal p.is) ∙ opened) in
      let r = valued_place (λ (s : Session). s.seat == number) (take_number (state entries).sessions session) any in
      let at : at_number (take_number (state entries).sessions session) r.1.0 ≡ Some r.1.1 =
      lookup_from_place (eq_by_cmp_equiv nat_cmp_total) (take_number (state entries).sessions session) r.0 r.1.0 r.1.1
      (IsDistinct-from_sorted nat_cmp (keys_of (take_number (state entries).sessions session)) (in_order-take nat_cmp_total session (state entries).sessions crew.sorted)) r.2 in
      elim (number_cases r.1.0 session) [
        | inl same ↦ (let gone : None ≡ Some r.1.1 = sym (take_number_same (state entries).sessions session crew.sorted) ∙ ap (at_number (take_number (state entries).sessions session)) (sym same) ∙ at in cc)
        | inr apart ↦
            apart_numbers r.1.0 session apart
            (crew.seats r.1.0 session r.1.1 p.s (sym (take_number_other (state entries).sessions session r.1.0 apart) ∙ at) p.is (eqb-true r.1.1.seat number r.3 ∙ sym here))
      ])

module _ (visit : Visiting) (turn : Turning Booked Line) (e : Enters visit turn) (idle : Stands visit.pages visit.session last.Idle) where
  may : may_close (state_of turn.value) visit.session ≡ true
  may = close_found visit.session visit.limits visit.pages turn.value e.finds idle

  entry_is : appended (close_step (history_of turn.value) visit.session) ≡ plain (event.Closed visit.session) ∷ []
  entry_is = ap (λ b. appended (where_ b (taken tt (plain (event.Closed visit.session) ∷ [])))) may

  pub may_close_at : (session : ℕ) → session ≡ visit.session → may_close (state_of turn.value) session ≡ true
  may_close_at session same = ap (may_close (state_of turn.value)) same ∙ may

  module _ (new : Booked) (is : new ≡ after_step turn.value (close_step (history_of turn.value) visit.session)) (left : Known Line) (front : left.front ≡ lines_of new) (number : left.number ≡ turn.seat.number) where
    entries_left : entries_in left.front ≡ entries_of turn.value.pages ++ plain (event.Closed visit.session) ∷ []
    entries_left =
        ap entries_in front ∙ entries_told new ∙ ap (λ (b : Booked). entries_of b.pages) is ∙ entries_on turn.value.pages (bare (appended (close_step (history_of turn.value) visit.session)))
        ∙ ap (λ (es : Entries). entries_of turn.value.pages ++ es) (entries_bare (appended (close_step (history_of turn.value) visit.session)) ∙ entry_is)

    free_left : is_taken (state (entries_in left.front)) left.number ≡ false
    free_left =
        ap (λ (es : Entries). is_taken (state es) left.number) entries_left
        ∙ ap (λ (s : Store). is_taken s left.number) (replay-append empty_store (entries_of turn.value.pages) (plain (event.Closed visit.session) ∷ []))
        ∙ ap (is_taken (after (state_of turn.value) (plain (event.Closed visit.session)))) (number ∙ e.number_is)
        ∙ free_after visit.limits (entries_of turn.value.pages) (by_turns visit.limits (entries_of turn.value.pages) e.finds.sound.legal) visit.session visit.number e.opened may

    pub visit_closed : left.lock ≡ turn.seat.lock → AreWithin new.limits → Legal new.limits (entries_of new.pages) → ArePages new.pages → Closed visit left
    visit_closed lock within legal documents = record {
      lock_is = lock ∙ e.lock_is;
      number_is = number ∙ e.number_is;
      free = free_left;
      found = turn.value;
      finds = e.finds;
      closes = taken_some (close_step (history_of turn.value) visit.session) (taken_where (may_close (state_of turn.value) visit.session) (taken tt (plain (event.Closed visit.session) ∷ [])) may);
      front_is = front ∙ ap lines_of is;
      sound = subst (λ (l : Limits). IsSound l (after_step turn.value (close_step (history_of turn.value) visit.session)).pages) e.finds.limits_are
          (subst (λ (b : Booked). IsSound b.limits b.pages) is (record { within = within; legal = legal; documents = documents }));
    }
