-- A seat that is free stays so while no entry of it comes, and a session that is opened in it is the seat's.
use Rattle.std.proofs.Common.{◌≡◌, ◌≢◌, ◌∙◌, ℕ, ◌<◌, ◌≤◌, Bool, true, false, not, ◌&&◌, List, [], ◌∷◌, ◌++◌, length, refl, sym, ap, subst, append_assoc, append-nil, arith, eqb-true, length-append, nat_cmp, Option, Some, None, Result, Ok, Err}
use Rattle.std.specs.Prelude.{IfOk, OnErr, OnOk, nat_lt, ◌==◌}
use Rattle.std.specs.BTreeMap.{is_at}
use Rattle.std.specs.List.{All, list_any}
use Rattle.std.specs.Map.{values_of}
use Rattle.std.proofs.lemmas.Bool.{false_from_ne_true, or_parts}
use Rattle.std.proofs.lemmas.Bool.Decides.{nat_tests}
use Rattle.std.proofs.lemmas.List.{length-map, map-append}
use Rattle.std.proofs.lemmas.List.Elements.{All-cons, All-nil}
use Rattle.std.proofs.lemmas.List.Folds.{list_any_none}
use Rattle.std.proofs.lemmas.Map.Views.{All-map-remove_entry, All-values-insert_entry, All-values-set_value}
use mathlib.Core.List.{IsPrefix}
use Rattle.ld_turn.specs.History.{IsOwnFrom, IsQuietFrom}
use Rattle.ld_turn.specs.Known.{Known}
use Rattle.ld_history.specs.After.{after_event, change_found, changed, with_flight}
use Rattle.ld_history.specs.ByTurns as turns
use Rattle.ld_history.specs.Legal.{AreWithin, Entries, Legal, state}
use Rattle.ld_history.specs.Seats as seats
use Rattle.ld_history.specs.Seats.{opened_in, seat_in}
use Rattle.ld_history.specs.Steps.{Answers, appended, open_step, plain}
use Rattle.ld_history.specs.Store.{Store, empty_store}
use Rattle.ld_history.specs.Words.{at_number, flight_at, is_taken}
use Rattle.ld_history.specs.declared.answers.OpenAnswer.TheVariants as open_answer
use Rattle.ld_history.specs.declared.event.Entry.{Entry}
use Rattle.ld_history.specs.declared.event.Event.{Event}
use Rattle.ld_history.specs.declared.event.Event.TheVariants as event
use Rattle.ld_history.specs.declared.event.Given.{Given}
use Rattle.ld_history.specs.declared.limits.Limits.{Limits}
use Rattle.ld_history.specs.declared.session.Flight.{Flight}
use Rattle.ld_history.specs.declared.session.Last.TheVariants as last
use Rattle.ld_history.specs.declared.session.Session.{Session}
use Rattle.ld_history.proofs.LawAlong.{legal-append, replay-append}
use Rattle.ld_history.proofs.LawCrew.{Sessions}
use Rattle.ld_history.proofs.LawFlights.{put_number_same}
use Rattle.ld_history.proofs.LawSeats.{seat_is}
use Rattle.ld_history.proofs.LawSits.{any_value}
use Rattle.ld_history.proofs.LawTold.{by_turns}
use Rattle.ld_book.specs.Documents.{ArePages}
use Rattle.ld_book.specs.Pages.{Booked, Pages, after_step, bare, entries_of, history_of, state_of}
use Rattle.ld_book.specs.Said.{IsRefusal}
use Rattle.ld_book.specs.Seats.{Lines, entries_in, lines_of, ruled, seat_of}
use Rattle.ld_book.specs.declared.answers.RoomRefusal.{RoomRefusal}
use Rattle.ld_book.specs.declared.page.Line.{Line}
use Rattle.ld_book.specs.declared.page.Page.{Page}
use Rattle.ld_book.proofs.Saying.{ByOpen, open_says, said}
use Rattle.ld_moves.specs.Standing.{Stands}
use Rattle.ld_moves.specs.Stocks.{IsSound}
use Rattle.ld_moves.proofs.Quiet.{entries_bare}
use Rattle.ld_moves.proofs.Staying.{entries_on}
use Rattle.ld_visit.specs.Visits.{IsFoundBy, IsFree, NotOpened, Opened, limits_in, pages_in}
use Rattle.ld_visit.proofs.Entering.{entries_told, limits_back, pages_back, told_count, visiting}
use Rattle.ld_visit.proofs.Owning.{same_seat, seat_next}

-- ---- a session that is opened sits in its seat
abbrev opening : ℕ → ℕ → Option Given → Entry (List ℕ) Given
opening session seat given = record { event = event.Opened session seat; given = given }

abbrev fresh : ℕ → Session
fresh seat = record { seat = seat; request = 0; attempt = 0; version = 0; held = []; last = last.Idle }

module _ (limits : Limits) (before : Entries) (session seat : ℕ) (given : Option Given) (legal : turns.Legal limits (before ++ opening session seat given ∷ [])) where
  fresh_at : at_number (state (before ++ opening session seat given ∷ [])).sessions session ≡ Some (fresh seat)
  fresh_at = ap (λ (s : Store). at_number s.sessions session) (replay-append empty_store before (opening session seat given ∷ [])) ∙ put_number_same (state before).sessions session (fresh seat)

  opened_seat : opened_in (before ++ opening session seat given ∷ []) session ≡ Some seat
  opened_seat = seat_is limits (before ++ opening session seat given ∷ []) session (fresh seat) legal fresh_at

-- ---- who sits in the seat
module _ (number : ℕ) where
  abbrev IsElsewhere : Session → Type 0
  IsElsewhere s = (s.seat == number) ≡ false

  abbrev AllElsewhere : Sessions → Type 0
  AllElsewhere sessions = All IsElsewhere (values_of sessions)

  all_elsewhere : (xs : List Session) → list_any (λ (s : Session). s.seat == number) xs ≡ false → All IsElsewhere xs
  all_elsewhere [] h = All-nil IsElsewhere
  all_elsewhere (s ∷ xs) h =
      let p = or_parts (s.seat == number) (list_any (λ (s : Session). s.seat == number) xs) h in
      All-cons IsElsewhere s xs p.0 (all_elsewhere xs p.1)

  changed_elsewhere : (sessions : Sessions) (n : ℕ) (change : Session → Session) → ((s : Session) → (change s).seat ≡ s.seat) → AllElsewhere sessions → AllElsewhere (changed sessions n change)
  changed_elsewhere sessions n change same h = go (at_number sessions n) refl
    where
      go : (o : Option Session) → at_number sessions n ≡ o → AllElsewhere (change_found sessions n change o)
      go None is = h
      go (Some s) is = All-values-set_value (is_at (nat_cmp n)) IsElsewhere sessions (change s) h
          (ap (λ k. k == number) (same s) ∙ any_value (λ (x : Session). x.seat == number) (is_at (nat_cmp n)) sessions s (list_any_none (λ (x : Session). x.seat == number) (values_of sessions) h) is)

  landed_elsewhere : (store : Store) (change : Flight → Store) → ((f : Flight) → (change f).sessions ≡ store.sessions) → AllElsewhere store.sessions → (o : Option Flight) → AllElsewhere (with_flight store change o).sessions
  landed_elsewhere store change same h None = h
  landed_elsewhere store change same h (Some f) = subst AllElsewhere (sym (same f)) h

  -- the event opens no session in the seat
  abbrev OpensElsewhere : Event (List ℕ) → Type 0
  OpensElsewhere (event.Opened session seat) = (seat == number) ≡ false
  OpensElsewhere _ = Unit {0}

  elsewhere_after : (store : Store) (given : Option Given) (e : Event (List ℕ)) → OpensElsewhere e → AllElsewhere store.sessions → AllElsewhere (after_event store given e).sessions
  elsewhere_after store given (event.Opened s k) other h = All-values-insert_entry nat_cmp s (fresh k) IsElsewhere store.sessions h other
  elsewhere_after store given (event.Pinned s r t v) other h = changed_elsewhere store.sessions s _ (λ _. refl) h
  elsewhere_after store given (event.Found s iri) other h = changed_elsewhere store.sessions s _ (λ _. refl) h
  elsewhere_after store given (event.Led s iri f) other h = changed_elsewhere store.sessions s _ (λ _. refl) h
  elsewhere_after store given (event.Joined s iri f) other h = changed_elsewhere store.sessions s _ (λ _. refl) h
  elsewhere_after store None (event.Published f v) other h = h
  elsewhere_after store (Some g) (event.Published f v) other h = landed_elsewhere store _ (λ _. refl) h (flight_at store.flights f)
  elsewhere_after store given (event.Failed f x y) other h = landed_elsewhere store _ (λ _. refl) h (flight_at store.flights f)
  elsewhere_after store given (event.Lapsed f) other h = landed_elsewhere store _ (λ _. refl) h (flight_at store.flights f)
  elsewhere_after store given (event.Evicted s iri v) other h = changed_elsewhere store.sessions s _ (λ _. refl) h
  elsewhere_after store given (event.ReviseLed s iri f) other h = changed_elsewhere store.sessions s _ (λ _. refl) h
  elsewhere_after store given (event.Same f) other h = landed_elsewhere store _ (λ _. refl) h (flight_at store.flights f)
  elsewhere_after store given (event.Answered s r how) other h = changed_elsewhere store.sessions s _ (λ _. refl) h
  elsewhere_after store given (event.Closed s) other h = All-map-remove_entry (is_at (nat_cmp s)) (λ e. e.1) IsElsewhere store.sessions h

  -- an entry that isn't of the seat opens no session in it
  opens_elsewhere : (limits : Limits) (before : Entries) (e : Event (List ℕ)) (given : Option Given) → turns.Legal limits (before ++ record { event = e; given = given } ∷ [])
      → seat_in before (record { event = e; given = given }) ≢ Some number → OpensElsewhere e
  opens_elsewhere limits before (event.Opened session seat) given legal other =
      false_from_ne_true (seat == number) (λ same. other (opened_seat limits before session seat given legal ∙ ap Some (eqb-true seat number same)))
  opens_elsewhere limits before (event.Pinned s r t v) given legal other = tt
  opens_elsewhere limits before (event.Found s iri) given legal other = tt
  opens_elsewhere limits before (event.Led s iri f) given legal other = tt
  opens_elsewhere limits before (event.Joined s iri f) given legal other = tt
  opens_elsewhere limits before (event.Published f v) given legal other = tt
  opens_elsewhere limits before (event.Failed f x y) given legal other = tt
  opens_elsewhere limits before (event.Lapsed f) given legal other = tt
  opens_elsewhere limits before (event.Evicted s iri v) given legal other = tt
  opens_elsewhere limits before (event.ReviseLed s iri f) given legal other = tt
  opens_elsewhere limits before (event.Same f) given legal other = tt
  opens_elsewhere limits before (event.Answered s r how) given legal other = tt
  opens_elsewhere limits before (event.Closed s) given legal other = tt

  abbrev IsQuiet : Entries → Entries → Type 0
  IsQuiet before since = (i : ℕ) → length before ≤ i → i < length (before ++ since) → seats.seat_of (before ++ since) i ≢ Some number

  elsewhere_along : (limits : Limits) (before since : Entries) → turns.Legal limits (before ++ since) → IsQuiet before since → AllElsewhere (state before).sessions → AllElsewhere (state (before ++ since)).sessions
  elsewhere_along limits before [] legal quiet h = subst (λ (es : Entries). AllElsewhere (state es).sessions) (sym (append-nil before)) h
  elsewhere_along limits before (entry ∷ since) legal quiet h =
      let next = before ++ entry ∷ [] in
      let same : next ++ since ≡ before ++ entry ∷ since = append_assoc before (entry ∷ []) since in
      let goes : turns.Legal limits (next ++ since) = subst (turns.Legal limits) (sym same) legal in
      let one = length-append before (entry ∷ []) in
      let all = length-append before (entry ∷ since) in
      let later : IsQuiet next since = λ i le lt. subst (λ (l : Entries). i < length l → seats.seat_of l i ≢ Some number) (sym same) (λ lt. quiet i (omega (arith, one, le)) lt) lt in
      let other : seat_in before entry ≢ Some number = λ is. quiet (length before) (omega arith) (omega (arith, all)) (seat_next before since entry ∙ is) in
      let now : AllElsewhere (state next).sessions =
      subst (λ (s : Store). AllElsewhere s.sessions) (sym (replay-append empty_store before (entry ∷ [])))
      (elsewhere_after (state before) entry.given entry.event (opens_elsewhere limits before entry.event entry.given (legal-append limits empty_store next since goes).0 other) h) in
      subst (λ (es : Entries). AllElsewhere (state es).sessions) same (elsewhere_along limits next since goes later now)

  -- a free seat stays free while no entry of it comes
  free_stays : (limits : Limits) (front since : Entries) → turns.Legal limits (front ++ since) → IsQuiet front since → is_taken (state front) number ≡ false → is_taken (state (front ++ since)) number ≡ false
  free_stays limits front since legal quiet free =
      list_any_none (λ (s : Session). s.seat == number) (values_of (state (front ++ since)).sessions)
      (elsewhere_along limits front since legal quiet (all_elsewhere (values_of (state front).sessions) free))

-- ---- at the seat's turn
pub found_by : (seat : Known Line) (front : Lines) (seen found : Booked) → lines_of seen ≡ front → found ≡ seen → IsPrefix seat.front front → IsQuietFrom seat_of front (length seat.front) seat.number
    → AreWithin seen.limits → Legal seen.limits (entries_of seen.pages) → ArePages seen.pages → IsFoundBy seat found
found_by seat front seen found told same grows quiet within legal documents = subst (λ (b : Booked). IsFoundBy seat b) (sym same) (record {
  grows = subst (λ (l : Lines). IsPrefix seat.front l) (sym told) grows;
  quiet = subst (λ (l : Lines). IsQuietFrom seat_of l (length seat.front) seat.number) (sym told) quiet;
  sound = record { within = within; legal = legal; documents = documents };
})

both : (a b : Bool) → a ≡ true → b ≡ false → (a && not b) ≡ true
both a b p q = rw (p, q) refl

below : (n : ℕ) → n < 256 → nat_lt n 256 ≡ true
below n lt = grind (arith, nat_tests)

module _ (seat : Known Line) (found : Booked) (f : IsFoundBy seat found) where
  entries : entries_in seat.front ++ entries_in f.grows.0 ≡ entries_in (lines_of found)
  entries = sym (map-append (λ (l : Line). l.page.entry) seat.front f.grows.0) ∙ ap entries_in f.grows.1

  found_entries : entries_in seat.front ++ entries_in f.grows.0 ≡ entries_of found.pages
  found_entries = entries ∙ entries_told found

  front_count : length (entries_in seat.front) ≡ length seat.front
  front_count = length-map seat.front (λ (l : Line). l.page.entry)

  found_count : length (entries_in seat.front ++ entries_in f.grows.0) ≡ length (lines_of found)
  found_count = ap length found_entries ∙ told_count found

  pub free_found : IsFree seat → is_taken (state_of found) seat.number ≡ false
  free_found free =
      subst (λ (es : Entries). is_taken (state es) seat.number ≡ false) found_entries
      (free_stays seat.number found.limits (entries_in seat.front) (entries_in f.grows.0)
      (subst (turns.Legal found.limits) (sym found_entries) (by_turns found.limits (entries_of found.pages) f.sound.legal))
      (λ i le lt is. f.quiet i (omega (arith, le, front_count)) (omega (arith, lt, found_count)) (ap (λ (es : Entries). seats.seat_of es i) (sym entries) ∙ is)) free)

  pub may_open_found : IsFree seat → (n : ℕ) → n ≡ seat.number → n < 256 → (nat_lt n 256 && not (is_taken (state_of found) n)) ≡ true
  may_open_found free n is lt = both (nat_lt n 256) (is_taken (state_of found) n) (below n lt) (ap (is_taken (state_of found)) is ∙ free_found free)

-- ---- what the seat's turn leaves
abbrev pub opened_after : Booked → ℕ → Booked
opened_after found number = after_step found (open_step (history_of found) number)

-- a book that was opened, or left as it was, goes on from what was found
pub opening_grows : {E : Type 0} (found new : Booked) (number : ℕ) (r : Result ℕ E) → OnOk r (new ≡ opened_after found number) → OnErr r (new ≡ found) → IsPrefix (lines_of found) (lines_of new)
opening_grows found new number (Ok session) ok err =
    let since = bare (appended (open_step (history_of found) number)) in
    (ruled found.limits since, sym (map-append (λ (p : Page). record { limits = found.limits; page = p }) found.pages since) ∙ sym (ap lines_of ok))
opening_grows found new number (Err x) ok err = ([], append-nil (lines_of found) ∙ sym (ap lines_of err))

module _ (found new : Booked) (number session : ℕ) (legal : Legal new.limits (entries_of new.pages))
    (answers : Answers (open_step (history_of found) number) (open_answer.Opened session)) (is : new ≡ opened_after found number) where
  entry_is : appended (open_step (history_of found) number) ≡ plain (event.Opened session number) ∷ []
  entry_is = said (ByOpen number) (open_step (history_of found) number) (open_says (history_of found) number) (open_answer.Opened session) answers

  new_entries : entries_of new.pages ≡ entries_of found.pages ++ opening session number None ∷ []
  new_entries =
      ap (λ (b : Booked). entries_of b.pages) is ∙ entries_on found.pages (bare (appended (open_step (history_of found) number)))
      ∙ ap (λ (es : Entries). entries_of found.pages ++ es) (entries_bare (appended (open_step (history_of found) number)) ∙ entry_is)

  new_legal : turns.Legal new.limits (entries_of found.pages ++ opening session number None ∷ [])
  new_legal = subst (turns.Legal new.limits) new_entries (by_turns new.limits (entries_of new.pages) legal)

  pub opened_new : opened_in (entries_of new.pages) session ≡ Some number
  opened_new = ap (λ (es : Entries). opened_in es session) new_entries ∙ opened_seat new.limits (entries_of found.pages) session number None new_legal

  pub stands_new : Stands new.pages session last.Idle
  stands_new = record {
    s = fresh number;
    is = ap (λ (es : Entries). at_number (state es).sessions session) new_entries ∙ fresh_at new.limits (entries_of found.pages) session number None new_legal;
    last_is = refl;
  }

  opened_own : IsOwnFrom seat_of (lines_of new) (length (lines_of found)) number
  opened_own i k le lt at =
      let front = told_count found in
      let later = told_count new in
      let count = ap length new_entries ∙ length-append (entries_of found.pages) (opening session number None ∷ []) in
      let place : length (entries_of found.pages) ≡ i = omega (arith, front, later, count, le, lt) in
      let here : seat_of (lines_of new) i ≡ Some number =
      ap (λ (es : Entries). seats.seat_of es i) (entries_told new ∙ new_entries) ∙ ap (seats.seat_of (entries_of found.pages ++ opening session number None ∷ [])) (sym place)
      ∙ seat_next (entries_of found.pages) [] (opening session number None) ∙ opened_seat new.limits (entries_of found.pages) session number None new_legal in
      same_seat k number (sym at ∙ here)

-- and what it adds is of the seat
pub opening_own : {E : Type 0} (found new later : Booked) → later ≡ new → (number : ℕ) (r : Result ℕ E) → Legal later.limits (entries_of later.pages)
    → IfOk r (λ session. Answers (open_step (history_of found) number) (open_answer.Opened session)) → OnOk r (new ≡ opened_after found number) → OnErr r (new ≡ found)
    → IsOwnFrom seat_of (lines_of later) (length (lines_of found)) number
opening_own found new later same number (Ok session) legal answers ok err = opened_own found later number session legal answers (same ∙ ok)
opening_own found new later same number (Err x) legal answers ok err = λ i k le lt at. let is = ap (λ (b : Booked). length (lines_of b)) (same ∙ err) in absurd (omega (arith, le, lt, is))

module _ (seat left : Known Line) (found new : Booked) (front : left.front ≡ lines_of new) (number : left.number ≡ seat.number) (n : ℕ) (n_is : n ≡ seat.number) where
  pages_left : pages_in left.front ≡ new.pages
  pages_left = ap pages_in front ∙ pages_back new.limits new.pages

  module _ (session : ℕ) (legal : Legal new.limits (entries_of new.pages)) (answers : Answers (open_step (history_of found) n) (open_answer.Opened session)) (is : new ≡ opened_after found n) where
    limits_left : limits_in left.front ≡ new.limits
    limits_left = ap limits_in front ∙ limits_back new.limits new.pages session n (opened_new found new n session legal answers is)

    pub opened_left : opened_in (entries_of (pages_in left.front)) session ≡ Some left.number
    opened_left = ap (λ (ps : Pages). opened_in (entries_of ps) session) pages_left ∙ opened_new found new n session legal answers is ∙ ap Some (n_is ∙ sym number)

    pub stands_left : Stands (pages_in left.front) session last.Idle
    stands_left = subst (λ (ps : Pages). Stands ps session last.Idle) (sym pages_left) (stands_new found new n session legal answers is)

    pub visit_opened : IsFoundBy seat found → left.lock ≡ seat.lock → AreWithin new.limits → ArePages new.pages → Opened seat (visiting session left)
    visit_opened f lock within documents = record {
      lock_is = lock;
      number_is = number;
      found = found;
      finds = f;
      opens = subst (λ (m : ℕ). Answers (open_step (history_of found) m) (open_answer.Opened session)) n_is answers;
      limits_are = limits_left ∙ ap (λ (b : Booked). b.limits) is;
      pages_are = pages_left ∙ ap (λ (b : Booked). b.pages) is ∙ ap (λ (m : ℕ). (opened_after found m).pages) n_is;
      sound = subst (λ (l : Limits). IsSound l (pages_in left.front)) (sym limits_left)
          (subst (λ (ps : Pages). IsSound new.limits ps) (sym pages_left) (record { within = within; legal = legal; documents = documents }));
    }

  pub seat_refused : (refusal : RoomRefusal) → IsRefusal open_answer.HistoryFull (open_step (history_of found) n) refusal → new ≡ found → IsFoundBy seat found → IsFree seat → left.lock ≡ seat.lock → NotOpened seat left refusal
  seat_refused refusal refused is f free lock = record {
    lock_is = lock;
    number_is = number;
    free = ap (λ (l : Lines). is_taken (state (entries_in l)) left.number) (front ∙ ap lines_of is) ∙ ap (λ (es : Entries). is_taken (state es) left.number) (entries_told found)
        ∙ ap (is_taken (state_of found)) number ∙ free_found seat found f free;
    found = found;
    finds = f;
    refused = subst (λ (m : ℕ). IsRefusal open_answer.HistoryFull (open_step (history_of found) m) refusal) n_is refused;
    front_is = front ∙ ap lines_of is;
  }
