-- Steps that neither pin a version nor end a flight.
use Rattle.std.proofs.Common.{◌≡◌, ℕ, Bool, true, false, List, [], ◌∷◌, ◌++◌, refl, sym, ap, subst, append-nil, arith}
use Rattle.std.specs.Prelude.{None, if◌then◌else◌, ◌==◌}
use Rattle.std.proofs.lemmas.List.Elements.{All-cons, All-nil}
use Rattle.ld_history.specs.After.{after}
use Rattle.ld_history.specs.ByTurns.{LegalFrom}
use Rattle.ld_history.specs.Counts.{owner}
use Rattle.ld_history.specs.Legal.{Entries, state}
use Rattle.ld_history.specs.Store.{Store}
use Rattle.ld_history.specs.declared.event.Event.{Event}
use Rattle.ld_history.specs.declared.event.Event.TheVariants as event
use Rattle.ld_history.specs.declared.limits.Limits.{Limits}
use Rattle.ld_rec.specs.Outcome.{Stock}
use Rattle.ld_own.specs.Loads.{BringsBy, Gained, Spans, after_fault}
use Rattle.ld_own.specs.Own.{Placed, own_placed_from, placed}
use Rattle.ld_fits.specs.Fits.{Leads, PinWithin, pins_within}
use Rattle.ld_fits.specs.Play.{Stage}
use Rattle.ld_book.specs.Documents.{ArePages, IsBrought, IsPage}
use Rattle.ld_book.specs.Pages.{Booked, Pages, bare, brings, entries_of}
use Rattle.ld_moves.specs.Moving.{Finds, MovesOn, version_in}
use Rattle.ld_moves.specs.Stocks.{stocks}
use Rattle.ld_moves.proofs.Taking.{taken_moves}

abbrev pub is_quiet : Event (List ℕ) → Bool
is_quiet (event.Pinned s r t v) = false
is_quiet (event.Published m v) = false
is_quiet (event.Failed m x y) = false
is_quiet (event.Lapsed m) = false
is_quiet (event.Same m) = false
is_quiet _ = true

abbrev pub AreQuiet : Entries → Type 0
AreQuiet [] = Unit {0}
AreQuiet (e ∷ es) = (is_quiet e.event ≡ true) × AreQuiet es

quiet_pins : (n : ℕ) (e : Event (List ℕ)) → is_quiet e ≡ true → pins_within n e
quiet_pins n (event.Pinned s r t v) q = cc
quiet_pins n (event.Opened s k) q = tt
quiet_pins n (event.Found s own) q = tt
quiet_pins n (event.Led s own m) q = tt
quiet_pins n (event.Joined s own m) q = tt
quiet_pins n (event.Published m v) q = tt
quiet_pins n (event.Failed m x y) q = tt
quiet_pins n (event.Lapsed m) q = tt
quiet_pins n (event.Evicted s own v) q = tt
quiet_pins n (event.ReviseLed s own m) q = tt
quiet_pins n (event.Same m) q = tt
quiet_pins n (event.Answered s r how) q = tt
quiet_pins n (event.Closed s) q = tt

no_quiet : {A : Type 0} → false ≡ true → A
no_quiet e = cc

quiet_brings : (p : Placed) (e : Event (List ℕ)) → is_quiet e ≡ true → BringsBy p e []
quiet_brings p (event.Published m v) q = no_quiet q
quiet_brings p (event.Lapsed m) q = no_quiet q
quiet_brings p (event.Same m) q = no_quiet q
quiet_brings p (event.Pinned s r t v) q = refl
quiet_brings p (event.Opened s k) q = refl
quiet_brings p (event.Found s own) q = refl
quiet_brings p (event.Led s own m) q = refl
quiet_brings p (event.Joined s own m) q = refl
quiet_brings p (event.Failed m x y) q = refl
quiet_brings p (event.Evicted s own v) q = refl
quiet_brings p (event.ReviseLed s own m) q = refl
quiet_brings p (event.Answered s r how) q = refl
quiet_brings p (event.Closed s) q = refl

quiet_fault : (e : Event (List ℕ)) → is_quiet e ≡ true → (low : ℕ) (rest : ℕ → Type 0) → rest low → after_fault e low rest
quiet_fault (event.Failed m x y) q low rest h = no_quiet q
quiet_fault (event.Published m v) q low rest h = h
quiet_fault (event.Lapsed m) q low rest h = h
quiet_fault (event.Same m) q low rest h = h
quiet_fault (event.Pinned s r t v) q low rest h = h
quiet_fault (event.Opened s k) q low rest h = h
quiet_fault (event.Found s own) q low rest h = h
quiet_fault (event.Led s own m) q low rest h = h
quiet_fault (event.Joined s own m) q low rest h = h
quiet_fault (event.Evicted s own v) q low rest h = h
quiet_fault (event.ReviseLed s own m) q low rest h = h
quiet_fault (event.Answered s r how) q low rest h = h
quiet_fault (event.Closed s) q low rest h = h

quiet_bare : (e : Event (List ℕ)) → is_quiet e ≡ true → brings e ≡ false
quiet_bare (event.Published m v) q = no_quiet q
quiet_bare (event.Failed m x y) q = refl
quiet_bare (event.Lapsed m) q = refl
quiet_bare (event.Same m) q = refl
quiet_bare (event.Pinned s r t v) q = refl
quiet_bare (event.Opened s k) q = refl
quiet_bare (event.Found s own) q = refl
quiet_bare (event.Led s own m) q = refl
quiet_bare (event.Joined s own m) q = refl
quiet_bare (event.Evicted s own v) q = refl
quiet_bare (event.ReviseLed s own m) q = refl
quiet_bare (event.Answered s r how) q = refl
quiet_bare (event.Closed s) q = refl

-- ---- the session's own of them
with_pin : (n : ℕ) (b : Bool) (p : Placed) (rest : List Placed) → pins_within n p.entry.event → PinWithin n rest → PinWithin n ((if b then p ∷ [] else []) ++ rest)
with_pin n true p rest h k = (h, k)
with_pin n false p rest h k = k

with_gain : (b : Bool) (p : Placed) (rest : List Placed) → BringsBy p p.entry.event [] → Gained rest [] → Gained ((if b then p ∷ [] else []) ++ rest) []
with_gain true p rest h k = ([], [], h, k, refl)
with_gain false p rest h k = k

with_span : (low : ℕ) (b : Bool) (p : Placed) (rest : List Placed) → is_quiet p.entry.event ≡ true → Spans low rest low → Spans low ((if b then p ∷ [] else []) ++ rest) low
with_span low true p rest q k = quiet_fault p.entry.event q low (λ count. Spans count rest low) k
with_span low false p rest q k = k

module _ (session : ℕ) where
  pins_all : (n : ℕ) (store : Store) (es : Entries) → AreQuiet es → PinWithin n (own_placed_from store session es)
  pins_all n store [] q = tt
  pins_all n store (e ∷ es) q = with_pin n (owner store e.event == session) (placed store e) (own_placed_from (after store e) session es) (quiet_pins n e.event q.0) (pins_all n (after store e) es q.1)

  gains_all : (store : Store) (es : Entries) → AreQuiet es → Gained (own_placed_from store session es) []
  gains_all store [] q = refl
  gains_all store (e ∷ es) q = with_gain (owner store e.event == session) (placed store e) (own_placed_from (after store e) session es) (quiet_brings (placed store e) e.event q.0) (gains_all (after store e) es q.1)

  spans_all : (low : ℕ) (store : Store) (es : Entries) → AreQuiet es → Spans low (own_placed_from store session es) low
  spans_all low store [] q = omega arith
  spans_all low store (e ∷ es) q = with_span low (owner store e.event == session) (placed store e) (own_placed_from (after store e) session es) q.0 (spans_all low (after store e) es q.1)

pages_all : (es : Entries) → AreQuiet es → ArePages (bare es)
pages_all [] q = All-nil IsPage
pages_all (e ∷ es) q = All-cons IsPage (record { entry = e; doc = None }) (bare es) (subst (λ b. IsBrought b e.given None) (sym (quiet_bare e.event q.0)) refl) (pages_all es q.1)

pub entries_bare : (es : Entries) → entries_of (bare es) ≡ es
entries_bare [] = refl
entries_bare (e ∷ es) = ap (λ (rest : Entries). e ∷ rest) (entries_bare es)

module _ (session : ℕ) (limits : Limits) (front : Pages) (found : Booked) (f : Finds session limits front found) where
  pub quiet_moves : (es : Entries) → LegalFrom limits (state (entries_of found.pages)) es → AreQuiet es → (from to : Stage)
      → ((stock : ℕ → Stock) → Leads limits stock from (own_placed_from (state (entries_of found.pages)) session es) to) → MovesOn session limits front (found.pages ++ bare es) from to
  quiet_moves es legal q from to leads given faults =
      taken_moves session limits front found f (bare es) (subst (LegalFrom limits (state (entries_of found.pages))) (sym (entries_bare es)) legal) (pages_all es q)
      from to (own_placed_from (state (entries_of found.pages)) session es) (ap (own_placed_from (state (entries_of found.pages)) session) (entries_bare es))
      (pins_all session (version_in (found.pages ++ bare es)) (state (entries_of found.pages)) es q) (leads (stocks (found.pages ++ bare es)))
      given given [] (gains_all session (state (entries_of found.pages)) es q) (sym (append-nil given)) faults faults (spans_all session faults (state (entries_of found.pages)) es q)
