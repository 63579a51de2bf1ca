-- A session that was opened, talked with and closed has served its connection, however the book goes on.
use Rattle.std.proofs.Common.{◌≡◌, ◌∙◌, ◌⊎◌, inl, inr, ℕ, ◌+◌, ◌≤◌, ◌<◌, Bool, true, false, List, [], ◌∷◌, ◌++◌, length, refl, sym, ap, subst, arith, eq-eqb, append-nil, length-append}
use Rattle.std.specs.Prelude.{Option, Some, None, map, not, nat_lt, ◌&&◌}
use Rattle.std.specs.Option.{option_map}
use Rattle.std.proofs.lemmas.List.{length-map, map-append}
use mathlib.Core.List.{IsPrefix}
use Rattle.ld_edge.specs.Sides.{Incoming}
use Rattle.ld_fits.specs.Asks.{Heard}
use Rattle.ld_fits.specs.Fits.{Fits, Leads}
use Rattle.ld_fits.specs.Play.{Fresh, Idle, Shut, Stage, idle}
use Rattle.ld_flight.specs.Loads.{Loading}
use Rattle.ld_head.specs.declared.session_end.SessionEnd.{SessionEnd}
use Rattle.ld_head.specs.declared.session_end.SessionEnd.TheVariants as ended
use Rattle.ld_history.specs.After.{after}
use Rattle.ld_history.specs.ByTurns as turns
use Rattle.ld_history.specs.Legal.{Entries, Legal, state}
use Rattle.ld_history.specs.Rules.{may_close}
use Rattle.ld_history.specs.Steps as steps
use Rattle.ld_history.specs.Steps.{Answers, Taken, appended, close_step, open_step, plain}
use Rattle.ld_history.specs.Store.{Store, empty_store}
use Rattle.ld_history.specs.Words.{at_number, history_has_room, is_taken}
use Rattle.ld_history.specs.declared.answers.OpenAnswer.{OpenAnswer}
use Rattle.ld_history.specs.declared.answers.OpenAnswer.TheVariants as open_answer
use Rattle.ld_history.specs.declared.event.Event.TheVariants as event
use Rattle.ld_history.specs.declared.limits.Limits.{Limits}
use Rattle.ld_history.specs.declared.session.Session.{Session}
use Rattle.ld_history.proofs.LawAlong.{legal-append, replay-append}
use Rattle.ld_history.proofs.LawFlights.{take_number_same}
use Rattle.ld_history.proofs.LawReads.{read_close, read_open}
use Rattle.ld_history.proofs.LawSound.{sound}
use Rattle.ld_history.proofs.LawTold.{by_turns}
use Rattle.ld_book.specs.Pages.{Booked, Pages, after_step, bare, entries_of, history_of}
use Rattle.ld_book.specs.Seats.{Lines, lines_of, ruled}
use Rattle.ld_book.specs.declared.page.Line.{Line}
use Rattle.ld_book.specs.declared.page.Page.{Page}
use Rattle.ld_book.proofs.Saying.{ByOpen, open_says, said}
use Rattle.ld_own.specs.Adding.{Adds}
use Rattle.ld_own.specs.Loads.{Gained, Spans}
use Rattle.ld_own.specs.Own.{Placed, own_placed, placed}
use Rattle.ld_own.proofs.Adding.{adds_one, adds_own}
use Rattle.ld_own.proofs.Closing.{IsGone, gone_stays}
use Rattle.ld_own.proofs.Growing.{grown}
use Rattle.ld_moves.specs.Moving.{Moves, place, version_in}
use Rattle.ld_moves.specs.Stocks.{IsSound, stocks}
use Rattle.ld_moves.proofs.Joining.{more_moves, prefix_itself, prefix_trans}
use Rattle.ld_moves.proofs.Quiet.{entries_bare}
use Rattle.ld_moves.proofs.Staying.{entries_on, stocks_stay_on}
use Rattle.ld_moves.proofs.Stepping.{close_moves}
use Rattle.ld_talk.specs.Talking.{EndsSo, Talked, marked_in}
use Rattle.ld_turn.specs.Known.{Known}
use Rattle.ld_visit.specs.Visits.{Closed, Opened, Visiting, limits_in, pages_in}
use Rattle.ld_visit.proofs.Entering.{pages_back}
use Rattle.ld_session.specs.Serving.{HadNoRoom, IsFull, IsServed, Moving, WasFull}
use Rattle.ld_own.proofs.Opening.{none_before}

-- ---- fronts of lines and of pages
pub pages_on : (a : Lines) (limits : Limits) (pages : Pages) → IsPrefix a (ruled limits pages) → IsPrefix (pages_in a) pages
pages_on a limits pages p = (pages_in p.0, sym (map-append (λ (l : Line). l.page) a p.0) ∙ ap pages_in p.1 ∙ pages_back limits pages)

pub pages_front : (a : Limits) (front : Pages) (limits : Limits) (pages : Pages) → IsPrefix (ruled a front) (ruled limits pages) → IsPrefix front pages
pages_front a front limits pages p = subst (λ (f : Pages). IsPrefix f pages) (pages_back a front) (pages_on (ruled a front) limits pages p)

same_limits : (a : Limits) (front : Pages) (limits : Limits) (pages : Pages) → 0 < length front → IsPrefix (ruled a front) (ruled limits pages) → limits ≡ a
same_limits a [] limits pages some p = absurd (omega (arith, some))
same_limits a (x ∷ front) limits [] some p = let e = p.1 in cc
same_limits a (x ∷ front) limits (y ∷ pages) some p = sym (ap limits_in p.1)

ruled_on : (limits : Limits) (a b : Pages) → IsPrefix a b → IsPrefix (ruled limits a) (ruled limits b)
ruled_on limits a b p = (ruled limits p.0, sym (map-append (λ (page : Page). record { limits = limits; page = page }) a p.0) ∙ ap (ruled limits) p.1)

-- ---- an opening
module _ (seat : Known Line) (visit : Visiting) (o : Opened seat visit) where
  abbrev opening : Entries
  opening = plain (event.Opened visit.session seat.number) ∷ []

  entries_opened : entries_of visit.pages ≡ entries_of o.found.pages ++ opening
  entries_opened =
      let step = open_step (history_of o.found) seat.number in
      ap entries_of o.pages_are ∙ entries_on o.found.pages (bare (appended step))
      ∙ ap (λ (es : Entries). entries_of o.found.pages ++ es) (entries_bare (appended step) ∙ said (ByOpen seat.number) step (open_says (history_of o.found) seat.number) (open_answer.Opened visit.session) o.opens)

  is_next : visit.session ≡ (state (entries_of o.found.pages)).opened + 1
  is_next =
      let legal = subst (turns.Legal visit.limits) entries_opened (by_turns visit.limits (entries_of visit.pages) o.sound.legal) in
      let ok = (legal-append visit.limits empty_store (entries_of o.found.pages) opening legal).1.0 in
      (read_open visit.limits (state (entries_of o.found.pages)) visit.session seat.number ok).next

  pub own_opened : own_placed visit.session (entries_of visit.pages) ≡ placed (state (entries_of o.found.pages)) (plain (event.Opened visit.session seat.number)) ∷ []
  own_opened =
      let one = adds_one visit.session (entries_of o.found.pages) (plain (event.Opened visit.session seat.number)) (eq-eqb visit.session visit.session refl) in
      let next = is_next in
      ap (own_placed visit.session) entries_opened ∙ adds_own visit.session (entries_of o.found.pages) (entries_of o.found.pages ++ opening) _ one
      ∙ ap (λ (ps : List Placed). ps ++ placed (state (entries_of o.found.pages)) (plain (event.Opened visit.session seat.number)) ∷ [])
      (none_before o.found.limits o.finds.sound.within.held visit.session (entries_of o.found.pages) o.finds.sound.legal (omega (arith, next)))

  pub seen_opened : IsPrefix (pages_in seat.front) visit.pages
  seen_opened =
      let step = open_step (history_of o.found) seat.number in
      subst (λ (ps : Pages). IsPrefix (pages_in seat.front) ps) (sym o.pages_are)
      (prefix_trans (pages_in seat.front) o.found.pages (o.found.pages ++ bare (appended step)) (pages_on seat.front o.found.limits o.found.pages o.finds.grows) (bare (appended step), refl))

-- ---- a close
close_by : (session : ℕ) (t : Taken (Unit {0})) (b : Bool) → steps.where_ b (steps.taken (tt {0}) (plain (event.Closed session) ∷ [])) ≡ Some t
    → (b ≡ true) × (appended (steps.where_ b (steps.taken (tt {0}) (plain (event.Closed session) ∷ []))) ≡ plain (event.Closed session) ∷ [])
close_by session t true e = (refl, refl)
close_by session t false e = cc

module _ (visit : Visiting) (seat : Known Line) (c : Closed visit seat) where
  abbrev closing : Entries
  closing = plain (event.Closed visit.session) ∷ []

  abbrev pub closed_pages : Pages
  closed_pages = (after_step c.found (close_step (history_of c.found) visit.session)).pages

  close_is : (may_close (state (entries_of c.found.pages)) visit.session ≡ true) × (appended (close_step (history_of c.found) visit.session) ≡ closing)
  close_is = close_by visit.session c.closes.0 (may_close (state (entries_of c.found.pages)) visit.session) c.closes.1

  entries_closed : entries_of closed_pages ≡ entries_of c.found.pages ++ closing
  entries_closed =
      let step = close_step (history_of c.found) visit.session in
      entries_on c.found.pages (bare (appended step)) ∙ ap (λ (es : Entries). entries_of c.found.pages ++ es) (entries_bare (appended step) ∙ close_is.1)

  pub own_closed : own_placed visit.session (entries_of closed_pages) ≡ own_placed visit.session (entries_of visit.pages) ++ placed (state (entries_of c.found.pages)) (plain (event.Closed visit.session)) ∷ []
  own_closed =
      let one = adds_one visit.session (entries_of c.found.pages) (plain (event.Closed visit.session)) (eq-eqb visit.session visit.session refl) in
      ap (own_placed visit.session) entries_closed ∙ adds_own visit.session (entries_of c.found.pages) (entries_of c.found.pages ++ closing) _ one
      ∙ ap (λ (ps : List Placed). ps ++ placed (state (entries_of c.found.pages)) (plain (event.Closed visit.session)) ∷ [])
      (adds_own visit.session (entries_of visit.pages) (entries_of c.found.pages) [] c.finds.quiet ∙ append-nil (own_placed visit.session (entries_of visit.pages)))

  state_closed : state (entries_of closed_pages) ≡ after (state (entries_of c.found.pages)) (plain (event.Closed visit.session))
  state_closed = ap state entries_closed ∙ replay-append empty_store (entries_of c.found.pages) closing

  pub gone_closed : IsGone (state (entries_of closed_pages)) visit.session
  gone_closed =
      let store = state (entries_of c.found.pages) in
      let crew = (sound visit.limits (entries_of c.found.pages) (by_turns visit.limits (entries_of c.found.pages) c.finds.sound.legal)).crew in
      let p = read_close store visit.session close_is.0 in
      subst (λ (s : Store). IsGone s visit.session) (sym state_closed) (record { was = crew.numbered visit.session p.s p.is; is = take_number_same store.sessions visit.session crew.sorted })

  pub grows_closed : IsPrefix visit.pages closed_pages
  grows_closed = prefix_trans visit.pages c.found.pages closed_pages c.finds.grows (bare (appended (close_step (history_of c.found) visit.session)), refl)

  some_closed : 0 < length closed_pages
  some_closed =
      let count : length closed_pages ≡ length (entries_of closed_pages) = sym (length-map closed_pages (λ (p : Page). p.entry)) in
      let more : length (entries_of closed_pages) ≡ length (entries_of c.found.pages) + 1 = ap length entries_closed ∙ length-append (entries_of c.found.pages) closing in
      omega (arith, count, more)

  module _ (book : Booked) (grows : IsPrefix seat.front (lines_of book)) where
    lines_grow : IsPrefix (ruled c.found.limits closed_pages) (ruled book.limits book.pages)
    lines_grow = subst (λ (l : Lines). IsPrefix l (ruled book.limits book.pages)) c.front_is grows

    pub limits_closed : book.limits ≡ visit.limits
    limits_closed = same_limits c.found.limits closed_pages book.limits book.pages some_closed lines_grow ∙ c.finds.limits_are

    pub pages_closed : IsPrefix closed_pages book.pages
    pages_closed = pages_front c.found.limits closed_pages book.limits book.pages lines_grow

    -- nothing that came since is the session's
    pub own_later : Legal book.limits (entries_of book.pages) → own_placed visit.session (entries_of book.pages) ≡ own_placed visit.session (entries_of closed_pages)
    own_later legal =
        let rest : Pages = pages_closed.0 in
        let all : entries_of closed_pages ++ entries_of rest ≡ entries_of book.pages = sym (entries_on closed_pages rest) ∙ ap entries_of pages_closed.1 in
        let lawful : Legal book.limits (entries_of closed_pages ++ entries_of rest) = subst (Legal book.limits) (sym all) legal in
        let small = subst (λ (l : Limits). l.held ≤ 64) (sym limits_closed) c.finds.sound.within.held in
        let none = gone_stays book.limits small visit.session (entries_of closed_pages) (entries_of rest) lawful gone_closed in
        ap (own_placed visit.session) (sym all) ∙ grown empty_store visit.session (entries_of closed_pages) (entries_of rest) ∙ ap (λ (ps : List Placed). own_placed visit.session (entries_of closed_pages) ++ ps) none
        ∙ append-nil (own_placed visit.session (entries_of closed_pages))

-- what a seat has seen at the close begins with what it had seen at the opening
pub front_closed : (start : Known Line) (visit later : Visiting) (left : Known Line) (o : Opened start visit) (c : Closed later left) → later.limits ≡ visit.limits → IsPrefix visit.pages later.pages → IsPrefix start.front left.front
front_closed start visit later left o c same grows =
    let closed = closed_pages later left c in
    let step = open_step (history_of o.found) start.number in
    let opened : IsPrefix o.found.pages visit.pages = subst (λ (ps : Pages). IsPrefix o.found.pages ps) (sym o.pages_are) (bare (appended step), refl) in
    let pages : IsPrefix o.found.pages closed = prefix_trans o.found.pages visit.pages closed opened (prefix_trans visit.pages later.pages closed grows (grows_closed later left c)) in
    let whole : IsPrefix start.front (ruled o.found.limits closed) = prefix_trans start.front (ruled o.found.limits o.found.pages) (ruled o.found.limits closed) o.finds.grows (ruled_on o.found.limits o.found.pages closed pages) in
    let limits : c.found.limits ≡ o.found.limits = c.finds.limits_are ∙ same ∙ o.limits_are in
    subst (λ (ls : Lines). IsPrefix start.front ls) (sym c.front_is) (subst (λ (l : Limits). IsPrefix start.front (ruled l closed)) (sym limits) whole)

-- ---- ends
ends_as : (full other : ℕ → Type 0) → ((n : ℕ) → full n → other n) → (came went : List ℕ) (source : Incoming) (heard : List Heard) (text : List ℕ) (e : SessionEnd)
    → EndsSo full came went source heard text e → EndsSo other came went source heard text e
ends_as full other f came went source heard text ended.Closed h = h
ends_as full other f came went source heard text ended.Truncated h = h
ends_as full other f came went source heard text (ended.BadHead status) h = h
ends_as full other f came went source heard text ended.ReadFault h = h
ends_as full other f came went source heard text ended.WriteFault h = (
  h.0,
  h.1,
  elim h.2 [
    | inl front ↦ inl front
    | inr some ↦ inr (some.0, f some.0 some.1, some.2)
  ],
  h.3,
)
ends_as full other f came went source heard text (ended.HistoryFull events) h = (f events h.0, h.1, h.2)
ends_as full other f came went source heard text ended.NoMemory h = h

-- ---- the whole
module _ (start : Known Line) (visit later : Visiting) (left : Known Line) (o : Opened start visit) (c : Closed later left) (same : later.session ≡ visit.session) (limits_same : later.limits ≡ visit.limits)
    (before after_it : Loading) (came went : List ℕ) (source : Incoming) (e : SessionEnd) (t : Talked (Moving visit later before after_it) (IsFull later.limits later.pages) came went source e)
    (book : Booked) (sound_book : IsSound book.limits book.pages) (grows : IsPrefix left.front (lines_of book)) where
  heard : List Heard
  heard = t.heard

  -- all that was moved from the opening to the close
  all_moves : Moves visit.session (place visit.limits visit.pages before.given before.faults (idle t.heard [])) (place visit.limits (closed_pages later left c) after_it.given after_it.faults (Shut t.text))
  all_moves =
      let talked = t.told.moved [] o.sound in
      let first = subst (λ (hs : List Heard). Moves visit.session (place visit.limits visit.pages before.given before.faults (idle hs [])) (place later.limits later.pages after_it.given after_it.faults (Idle [] t.text))) (append-nil t.heard) talked.moves in
      let last = close_moves later.session later.limits later.pages c.found c.finds c.closes.0 c.closes.1 (Idle [] t.text) after_it.given after_it.faults in
      subst (λ (l : Limits). Moves visit.session (place visit.limits visit.pages before.given before.faults (idle t.heard [])) (place l (closed_pages later left c) after_it.given after_it.faults (Shut t.text))) limits_same
      (more_moves visit.session (place visit.limits visit.pages before.given before.faults (idle t.heard [])) (place later.limits later.pages after_it.given after_it.faults (Idle [] t.text))
      (place later.limits (closed_pages later left c) after_it.given after_it.faults (Shut t.text)) first
      (subst (λ (n : ℕ). Moves n (place later.limits later.pages after_it.given after_it.faults (Idle [] t.text)) (place later.limits (closed_pages later left c) after_it.given after_it.faults (Shut t.text))) same last))

  abbrev opened_at : Placed
  opened_at = placed (state (entries_of o.found.pages)) (plain (event.Opened visit.session start.number))

  own_all : own_placed visit.session (entries_of book.pages) ≡ opened_at ∷ all_moves.mine
  own_all =
      subst (λ (n : ℕ). own_placed n (entries_of book.pages) ≡ own_placed n (entries_of (closed_pages later left c))) same (own_later later left c book grows sound_book.legal)
      ∙ adds_own visit.session (entries_of visit.pages) (entries_of (closed_pages later left c)) all_moves.mine all_moves.adds
      ∙ ap (λ (ps : List Placed). ps ++ all_moves.mine) (own_opened start visit o)

  limits_are : book.limits ≡ visit.limits
  limits_are = limits_closed later left c book grows ∙ limits_same

  later_grows : IsPrefix later.pages book.pages
  later_grows = prefix_trans later.pages (closed_pages later left c) book.pages (grows_closed later left c) (pages_closed later left c book grows)

  visit_grows : IsPrefix visit.pages later.pages
  visit_grows = (t.told.moved [] o.sound).moves.grows

  full_once : (n : ℕ) → IsFull later.limits later.pages n → HadNoRoom book.limits (pages_in start.front) book.pages visit.session n
  full_once n full = record {
    was = record {
      front = later.pages;
      seen = prefix_trans (pages_in start.front) visit.pages later.pages (seen_opened start visit o) visit_grows;
      grows = later_grows;
      full = subst (λ (l : Limits). IsFull l later.pages n) (sym (limits_closed later left c book grows)) full;
    };
    last = placed (state (entries_of c.found.pages)) (plain (event.Closed later.session));
    own = subst (λ (k : ℕ). own_placed k (entries_of book.pages) ≡ own_placed k (entries_of later.pages) ++ placed (state (entries_of c.found.pages)) (plain (event.Closed later.session)) ∷ []) same
        (own_later later left c book grows sound_book.legal ∙ own_closed later left c);
  }

  stocks_agree : (version : ℕ) → version ≤ version_in (closed_pages later left c) → stocks book.pages version ≡ stocks (closed_pages later left c) version
  stocks_agree version le = stocks_stay_on book.limits (closed_pages later left c) book.pages version sound_book (pages_closed later left c book grows) le

  leads_all : Leads book.limits (stocks book.pages) (Fresh t.heard) (own_placed visit.session (entries_of book.pages)) (Shut t.text)
  leads_all =
      subst (λ (l : Limits). Leads l (stocks book.pages) (Fresh t.heard) (own_placed visit.session (entries_of book.pages)) (Shut t.text)) (sym limits_are)
      (subst (λ (ps : List Placed). Leads visit.limits (stocks book.pages) (Fresh t.heard) ps (Shut t.text)) (sym own_all) (all_moves.goes (stocks book.pages) stocks_agree))

  pub served : IsServed book.limits (pages_in start.front) book.pages visit.session came went source before after_it e
  served = record {
    seen = prefix_trans (pages_in start.front) visit.pages book.pages (seen_opened start visit o) (prefix_trans visit.pages later.pages book.pages visit_grows later_grows);
    heard = t.heard;
    text = t.text;
    fits = record { heard = t.heard; are_items = refl; leads = leads_all };
    ends = ends_as (IsFull later.limits later.pages) (HadNoRoom book.limits (pages_in start.front) book.pages visit.session) full_once came went source t.heard t.text e t.ends;
    gained = all_moves.gained;
    gives = subst (λ (ps : List Placed). Gained ps all_moves.gained) (sym own_all) ([], all_moves.gained, refl, all_moves.gives, refl);
    given_are = all_moves.given_are;
    spans = subst (λ (ps : List Placed). Spans before.faults ps after_it.faults) (sym own_all) all_moves.spans;
  }
