-- The entries of a session's steps are its own, and belong to its seat.
use Rattle.std.proofs.Common.{◌≡◌, ◌∙◌, ℕ, zero, suc, ◌+◌, ◌-◌, ◌<◌, ◌≤◌, Bool, true, false, List, [], ◌∷◌, ◌++◌, length, take, slice_get, refl, sym, ap, subst, append_assoc, arith, eq-eqb, eqb-true, length-append, Option, Some, None}
use Rattle.std.specs.Prelude.{if◌then◌else◌, is_some, ◌==◌}
use Rattle.ld_history.specs.Counts.{owner}
use Rattle.ld_history.specs.Legal.{Entries, History, is_in_stock, state}
use Rattle.ld_history.specs.Rules as rules
use Rattle.ld_history.specs.Seats.{opened_in, seat_found, seat_in, seat_of}
use Rattle.ld_history.specs.Steps as steps
use Rattle.ld_history.specs.Steps.{Taken, appended}
use Rattle.ld_history.specs.Store.{Store, empty_store}
use Rattle.ld_history.specs.Words.{at_number, history_has_room, is_idle}
use Rattle.ld_history.specs.declared.event.Entry.{Entry}
use Rattle.ld_history.specs.declared.event.Given.{Given}
use Rattle.ld_history.specs.declared.event.How.{How}
use Rattle.ld_history.specs.declared.session.Session.{Session}
use Rattle.ld_history.proofs.LawAlong.{replay-append}
use Rattle.ld_own.proofs.Adding.{opened_stays}
use Rattle.ld_visit.specs.Turns.{AreOwn}

take_front : {A : Type 0} (xs ys : List A) → take (length xs) (xs ++ ys) ≡ xs
take_front [] [] = refl
take_front [] (y ∷ ys) = refl
take_front (x ∷ xs) ys = ap (λ l. x ∷ l) (take_front xs ys)

get_next : {A : Type 0} (xs ys : List A) (y : A) → slice_get (xs ++ y ∷ ys) (length xs) ≡ Some y
get_next [] ys y = refl
get_next (x ∷ xs) ys y = get_next xs ys y

pub seat_next : (before rest : Entries) (entry : Entry (List ℕ) Given) → seat_of (before ++ entry ∷ rest) (length before) ≡ seat_in before entry
seat_next before rest entry =
    ap (λ (l : Entries). seat_found l (slice_get (before ++ entry ∷ rest) (length before))) (take_front before (entry ∷ rest)) ∙ ap (seat_found before) (get_next before rest entry)

pub same_seat : (a b : ℕ) → Some a ≡ Some b → a ≡ b
same_seat a b e = cc

-- what belongs to the session belongs to the seat in which it was opened
module _ (session number : ℕ) where
  own_at : (before since : Entries) (d k : ℕ) → opened_in before session ≡ Some number → AreOwn session (state before) since → d < length since → seat_of (before ++ since) (length before + d) ≡ Some k → k ≡ number
  own_at before [] d k opened own lt is = absurd (omega (arith, lt))
  own_at before (e ∷ es) zero k opened own lt is =
      let place : length before + 0 ≡ length before = omega arith in
      let here : seat_of (before ++ e ∷ es) (length before) ≡ Some number =
      seat_next before es e ∙ ap (opened_in (before ++ e ∷ [])) (eqb-true (owner (state before) e.event) session own.0) ∙ opened_stays before (e ∷ []) session number opened in
      same_seat k number (sym is ∙ ap (seat_of (before ++ e ∷ es)) place ∙ here)
  own_at before (e ∷ es) (suc d) k opened own lt is =
      let next = before ++ e ∷ [] in
      let count : length next ≡ length before + 1 = length-append before (e ∷ []) in
      let place : length next + d ≡ length before + suc d = omega (arith, count) in
      own_at next es d k (opened_stays before (e ∷ []) session number opened) (subst (λ (s : Store). AreOwn session s es) (sym (replay-append empty_store before (e ∷ []))) own.1) (omega (arith, lt))
      (ap (λ (l : Entries). seat_of l (length next + d)) (append_assoc before (e ∷ []) es) ∙ ap (seat_of (before ++ e ∷ es)) place ∙ is)

  pub own_seats : (before since : Entries) (i k : ℕ) → opened_in before session ≡ Some number → AreOwn session (state before) since → length before ≤ i → i < length (before ++ since)
      → seat_of (before ++ since) i ≡ Some k → k ≡ number
  own_seats before since i k opened own le lt is =
      let count = length-append before since in
      let place : length before + (i - length before) ≡ i = omega (arith, le) in
      own_at before since (i - length before) k opened own (omega (arith, count, le, lt)) (ap (seat_of (before ++ since)) place ∙ is)

-- ---- steps
abbrev pub Own : {A : Type 0} → ℕ → Store → Option (Taken A) → Type 0
Own session store t = AreOwn session store (appended t)

pub own_event : (session : ℕ) → (session == session) ≡ true
own_event session = eq-eqb session session refl

module _ {A : Type 0} (session : ℕ) (store : Store) where
  pub own_if : (b : Bool) (x y : Option (Taken A)) → Own session store x → Own session store y → Own session store (if b then x else y)
  own_if true x y h k = h
  own_if false x y h k = k

  pub own_some : (b : Bool) (x y : Taken A) → AreOwn session store x.entries → AreOwn session store y.entries → Own session store (Some (if b then x else y))
  own_some true x y h k = h
  own_some false x y h k = k

  pub own_where : (b : Bool) (x : Taken A) → AreOwn session store x.entries → Own session store (steps.where_ b x)
  own_where true x h = h
  own_where false x h = tt

  pub own_found : (step : Session → Option (Taken A)) → ((s : Session) → Own session store (step s)) → (o : Option Session) → Own session store (steps.of_found step o)
  own_found step h None = tt
  own_found step h (Some s) = h s

pub pin_own : (history : History) (session : ℕ) → Own session (state history.entries) (steps.pin_step history session)
pin_own history session =
    own_found session (state history.entries) (steps.pinning history.limits (state history.entries) session) (λ s.
    own_if session (state history.entries) (is_idle s.last) _ _
    (own_some session (state history.entries) (history_has_room history.limits (state history.entries)) _ _ (own_event session, tt) tt)
    (own_where session (state history.entries) (rules.may_pin_again (state history.entries) s.last) _ (own_event session, tt)))
    (at_number (state history.entries).sessions session)

pub answer_own : (history : History) (session : ℕ) (how : How (List ℕ)) → Own session (state history.entries) (steps.answer_step history session how)
answer_own history session how =
    own_found session (state history.entries) _ (λ s.
    own_where session (state history.entries) (rules.may_answer (is_in_stock history.entries) history.limits (state history.entries) session s.request how) (steps.ending session s s.request how) (own_event session, tt))
    (at_number (state history.entries).sessions session)

pub taken_some : {A : Type 0} (t : Option (Taken A)) → is_some t ≡ true → (x : Taken A) × (t ≡ Some x)
taken_some (Some x) h = (x, refl)
taken_some None h = cc
