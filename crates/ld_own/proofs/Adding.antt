-- A session's entries, from one front to the next.
use Rattle.std.proofs.Common.{◌≡◌, ◌≢◌, ◌∙◌, ℕ, ◌<◌, ◌≤◌, Bool, true, false, List, [], ◌∷◌, ◌++◌, length, take, slice_get, refl, sym, ap, subst, append_assoc, append-nil, arith, eqb-true, length-append}
use Rattle.std.specs.Prelude.{Option, Some, if◌then◌else◌, ◌==◌}
use mathlib.Core.List.{IsPrefix}
use Rattle.ld_history.specs.After.{after}
use Rattle.ld_history.specs.Counts.{owner}
use Rattle.ld_history.specs.Legal.{Entries, state}
use Rattle.ld_history.specs.Seats.{opened_in, seat_found, seat_in, seat_of, seat_or}
use Rattle.ld_history.specs.Store.{Store, empty_store}
use Rattle.ld_history.specs.declared.event.Event.{Event}
use Rattle.ld_history.specs.declared.event.Event.TheVariants as event
use Rattle.ld_history.specs.declared.event.Given.{Given}
use Rattle.ld_history.specs.declared.event.Entry.{Entry}
use Rattle.ld_history.proofs.LawAlong.{replay-append}
use Rattle.ld_own.specs.Adding.{Adds}
use Rattle.ld_own.specs.Own.{Placed, placed, own_placed, own_placed_from}
use Rattle.ld_own.proofs.Growing.{grown}

pub adds_none : (session : ℕ) (front : Entries) → Adds session front [] front
adds_none session front = record { since = []; is = append-nil front; own = refl }

pub adds_trans : (session : ℕ) (a b c : Entries) (xs ys : List Placed) → Adds session a xs b → Adds session b ys c → Adds session a (xs ++ ys) c
adds_trans session a b c xs ys p q = record {
  since = p.since ++ q.since;
  is = sym (append_assoc a p.since q.since) ∙ ap (λ l. l ++ q.since) p.is ∙ q.is;
  own = grown (state a) session p.since q.since
      ∙ ap (λ (s : Store). own_placed_from (state a) session p.since ++ own_placed_from s session q.since) (sym (replay-append empty_store a p.since) ∙ ap state p.is)
      ∙ (λ i. p.own i ++ q.own i);
}

pub adds_prefix : (session : ℕ) (a b : Entries) (xs : List Placed) → Adds session a xs b → IsPrefix a b
adds_prefix session a b xs p = (p.since, p.is)

pub adds_own : (session : ℕ) (a b : Entries) (xs : List Placed) → Adds session a xs b → own_placed session b ≡ own_placed session a ++ xs
adds_own session a b xs p = ap (own_placed session) (sym p.is) ∙ grown empty_store session a p.since ∙ ap (λ l. own_placed session a ++ l) p.own

pub one_own : (mine : Bool) (p : Placed) → mine ≡ true → (if mine then p ∷ [] else []) ++ [] ≡ p ∷ []
one_own true p is = refl
one_own false p is = cc

-- an entry of the session
pub adds_one : (session : ℕ) (front : Entries) (entry : Entry (List ℕ) Given) → (owner (state front) entry.event == session) ≡ true
    → Adds session front (placed (state front) entry ∷ []) (front ++ entry ∷ [])
adds_one session front entry mine = record { since = entry ∷ []; is = refl; own = one_own (owner (state front) entry.event == session) (placed (state front) entry) mine }

-- ---- what came while the session's seat had no turn

seat_or_on : (e : Event (List ℕ)) (session seat : ℕ) (a b : Option ℕ) → (a ≡ Some seat → b ≡ Some seat) → seat_or e session a ≡ Some seat → seat_or e session b ≡ Some seat
seat_or_on (event.Opened own k) session seat a b on h = go (own == session) h
  where
    go : (same : Bool) → (if same then Some k else a) ≡ Some seat → (if same then Some k else b) ≡ Some seat
    go true h = h
    go false h = on h
seat_or_on (event.Pinned s r t v) session seat a b on h = on h
seat_or_on (event.Found s iri) session seat a b on h = on h
seat_or_on (event.Led s iri f) session seat a b on h = on h
seat_or_on (event.Joined s iri f) session seat a b on h = on h
seat_or_on (event.Published f v) session seat a b on h = on h
seat_or_on (event.Failed f x y) session seat a b on h = on h
seat_or_on (event.Lapsed f) session seat a b on h = on h
seat_or_on (event.Evicted s iri v) session seat a b on h = on h
seat_or_on (event.ReviseLed s iri f) session seat a b on h = on h
seat_or_on (event.Same f) session seat a b on h = on h
seat_or_on (event.Answered s r how) session seat a b on h = on h
seat_or_on (event.Closed s) session seat a b on h = on h

-- where a session was opened is told by its opening
pub opened_stays : (front more : Entries) (session seat : ℕ) → opened_in front session ≡ Some seat → opened_in (front ++ more) session ≡ Some seat
opened_stays [] more session seat h = cc
opened_stays (e ∷ es) more session seat h = seat_or_on e.event session seat (opened_in es session) (opened_in (es ++ more) session) (opened_stays es more session seat) h

take_front : {A : Type 0} (xs ys : List A) → take (length xs) (xs ++ ys) ≡ xs
take_front [] [] = refl
take_front [] (y ∷ ys) = refl
take_front (x ∷ xs) ys = ap (λ l. x ∷ l) (take_front xs ys)

get_next : {A : Type 0} (xs ys : List A) (y : A) → slice_get (xs ++ y ∷ ys) (length xs) ≡ Some y
get_next [] ys y = refl
get_next (x ∷ xs) ys y = get_next xs ys y

seat_next : (before rest : Entries) (entry : Entry (List ℕ) Given) → seat_of (before ++ entry ∷ rest) (length before) ≡ seat_in before entry
seat_next before rest entry =
    ap (λ (l : Entries). seat_found l (slice_get (before ++ entry ∷ rest) (length before))) (take_front before (entry ∷ rest)) ∙ ap (seat_found before) (get_next before rest entry)

module _ (session seat : ℕ) where
  abbrev IsQuiet : Entries → Entries → Type 0
  IsQuiet before since = (i : ℕ) → length before ≤ i → i < length (before ++ since) → seat_of (before ++ since) i ≢ Some seat

  not_own : (before since : Entries) (entry : Entry (List ℕ) Given) → opened_in before session ≡ Some seat → IsQuiet before (entry ∷ since) → (mine : Bool) → (owner (state before) entry.event == session) ≡ mine → mine ≡ false
  not_own before since entry opened quiet false is = refl
  not_own before since entry opened quiet true is =
      let here : seat_of (before ++ entry ∷ since) (length before) ≡ Some seat =
      seat_next before since entry ∙ ap (opened_in (before ++ entry ∷ [])) (eqb-true (owner (state before) entry.event) session is) ∙ opened_stays before (entry ∷ []) session seat opened in
      let count = length-append before (entry ∷ since) in
      absurd (quiet (length before) (omega arith) (omega (arith, count)) here)

  not_mine : (mine : Bool) (p : Placed) (rest : List Placed) → mine ≡ false → rest ≡ [] → (if mine then p ∷ [] else []) ++ rest ≡ []
  not_mine false p rest is none = none
  not_mine true p rest is none = cc

  pub quiet_own : (before since : Entries) → opened_in before session ≡ Some seat → IsQuiet before since → own_placed_from (state before) session since ≡ []
  quiet_own before [] opened quiet = refl
  quiet_own before (entry ∷ since) opened quiet =
      let next = before ++ entry ∷ [] in
      let same : next ++ since ≡ before ++ entry ∷ since = append_assoc before (entry ∷ []) since in
      let count = length-append before (entry ∷ []) in
      let later : IsQuiet next since = λ i le lt. subst (λ (l : Entries). i < length l → seat_of l i ≢ Some seat) (sym same) (λ lt. quiet i (omega (arith, count, le)) lt) lt in
      let rest = quiet_own next since (opened_stays before (entry ∷ []) session seat opened) later in
      not_mine (owner (state before) entry.event == session) (placed (state before) entry) (own_placed_from (after (state before) entry) session since)
      (not_own before since entry opened quiet (owner (state before) entry.event == session) refl)
      (ap (λ (s : Store). own_placed_from s session since) (sym (replay-append empty_store before (entry ∷ []))) ∙ rest)

-- none of what came to the history since the front is the session's, where none of it belongs to its seat
pub quiet_adds : (session seat : ℕ) (front later : Entries) → opened_in front session ≡ Some seat → IsPrefix front later
    → ((i : ℕ) → length front ≤ i → i < length later → seat_of later i ≢ Some seat) → Adds session front [] later
quiet_adds session seat front later opened grows quiet = record {
  since = grows.0;
  is = grows.1;
  own = quiet_own session seat front grows.0 opened (λ i le lt. subst (λ (l : Entries). i < length l → seat_of l i ≢ Some seat) (sym grows.1) (quiet i le) lt);
}
