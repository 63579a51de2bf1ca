-- A step that a session takes at a turn moves it on.
use Rattle.std.proofs.Common.{◌≡◌, ◌∙◌, ℕ, ◌≤◌, Bool, true, false, List, [], ◌∷◌, ◌++◌, refl, sym, ap, subst, append-nil}
use Rattle.std.specs.Prelude.{None, if◌then◌else◌, ◌==◌}
use Rattle.std.proofs.lemmas.List.Elements.{All-append, All-cons, All-nil}
use Rattle.ld_flight.specs.declared.given.Given as loader
use Rattle.ld_history.specs.After.{after}
use Rattle.ld_history.specs.ByTurns.{IsKept, LegalFrom, allows}
use Rattle.ld_history.specs.ByTurns as turns
use Rattle.ld_history.specs.Counts.{owner}
use Rattle.ld_history.specs.Legal.{Legal, replay, state}
use Rattle.ld_history.specs.Steps.{plain}
use Rattle.ld_history.specs.Store.{Store, empty_store}
use Rattle.ld_history.specs.declared.event.Event.{Event}
use Rattle.ld_history.specs.declared.event.Event.TheVariants as event
use Rattle.ld_history.specs.declared.limits.Limits.{Limits}
use Rattle.ld_history.proofs.LawAlong.{legal_more, replay-append}
use Rattle.ld_history.proofs.LawHolds.{events_counted}
use Rattle.ld_history.proofs.LawTold.{by_stock, by_turns}
use Rattle.ld_own.specs.Loads.{Brings, Gained, Spans, after_fault}
use Rattle.ld_own.specs.Own.{Placed, own_placed_from, placed}
use Rattle.ld_own.proofs.Adding.{adds_trans, one_own}
use Rattle.ld_fits.specs.Fits.{Leads, PinWithin, pins_within}
use Rattle.ld_fits.specs.Play.{Stage, step}
use Rattle.ld_fits.proofs.Staying.{stays}
use Rattle.ld_book.specs.Documents.{ArePages, IsBrought, IsPage}
use Rattle.ld_book.specs.Pages.{Booked, Pages, bare, brings, entries_of}
use Rattle.ld_book.specs.declared.page.Page.{Page}
use Rattle.ld_moves.specs.Moving.{Finds, Moves, place, version_in}
use Rattle.ld_moves.specs.Stocks.{IsSound, stocks}
use Rattle.ld_moves.proofs.Joining.{prefix_trans}
use Rattle.ld_moves.proofs.Staying.{entries_on}

-- what is allowed without an answer brings no document
alone_brings : (limits : Limits) (store : Store) (e : Event (List ℕ)) → allows limits store (plain e) ≡ true → brings e ≡ false
alone_brings limits store (event.Published m v) ok = cc
alone_brings limits store (event.Opened s k) ok = refl
alone_brings limits store (event.Pinned s r t v) ok = refl
alone_brings limits store (event.Found s own) ok = refl
alone_brings limits store (event.Led s own m) ok = refl
alone_brings limits store (event.Joined s own m) ok = refl
alone_brings limits store (event.Failed m x y) ok = refl
alone_brings limits store (event.Lapsed m) ok = refl
alone_brings limits store (event.Evicted s own v) ok = refl
alone_brings limits store (event.ReviseLed s own m) ok = refl
alone_brings limits store (event.Same m) ok = refl
alone_brings limits store (event.Answered s r how) ok = refl
alone_brings limits store (event.Closed s) ok = refl

abbrev pub plain_page : Event (List ℕ) → Page
plain_page e = record { entry = plain e; doc = None }

pub plain_is_page : (limits : Limits) (store : Store) (e : Event (List ℕ)) → allows limits store (plain e) ≡ true → IsPage (plain_page e)
plain_is_page limits store e ok = subst (λ b. IsBrought b None None) (sym (alone_brings limits store e ok)) refl

module _ (session : ℕ) (limits : Limits) (front : Pages) (found : Booked) (f : Finds session limits front found) where
  abbrev pub now : Store
  now = state (entries_of found.pages)

  pub turns_legal : turns.Legal limits (entries_of found.pages)
  turns_legal = by_turns limits (entries_of found.pages) f.sound.legal

  pub kept : IsKept limits (entries_of found.pages) now
  kept = record { within = f.sound.within; legal = turns_legal; replayed = refl; counted = events_counted limits (entries_of found.pages) f.sound.within.held turns_legal }

  pub state_with : (new : Pages) → state (entries_of (found.pages ++ new)) ≡ replay now (entries_of new)
  state_with new = ap state (entries_on found.pages new) ∙ replay-append empty_store (entries_of found.pages) (entries_of new)

  sound_with : (new : Pages) → LegalFrom limits now (entries_of new) → ArePages new → IsSound limits (found.pages ++ new)
  sound_with new legal right = record {
    within = f.sound.within;
    legal = subst (Legal limits) (sym (entries_on found.pages new))
        (by_stock limits (entries_of found.pages ++ entries_of new) (legal_more limits empty_store (entries_of found.pages) (entries_of new) turns_legal legal));
    documents = All-append IsPage found.pages new f.sound.documents right;
  }

  -- what the session appends to the book that it found, which leads it on
  pub taken_moves : (new : Pages) → LegalFrom limits now (entries_of new) → ArePages new → (from to : Stage) (mine : List Placed) → own_placed_from now session (entries_of new) ≡ mine
      → PinWithin (version_in (found.pages ++ new)) mine → Leads limits (stocks (found.pages ++ new)) from mine to
      → (given later gained : List loader.Given) → Gained mine gained → later ≡ given ++ gained → (low high : ℕ) → Spans low mine high
      → Moves session (place limits front given low from) (place limits (found.pages ++ new) later high to)
  taken_moves new legal right from to mine own pins leads given later gained gives given_are low high spans = record {
    limits_are = refl;
    sound = sound_with new legal right;
    grows = prefix_trans front found.pages (found.pages ++ new) f.grows (new, refl);
    mine = mine;
    adds = adds_trans session (entries_of front) (entries_of found.pages) (entries_of (found.pages ++ new)) [] mine f.quiet
        (record { since = entries_of new; is = sym (entries_on found.pages new); own = own });
    pins = pins;
    goes = stays limits (version_in (found.pages ++ new)) (stocks (found.pages ++ new)) from to mine pins leads;
    gained = gained;
    gives = gives;
    given_are = given_are;
    spans = spans;
  }

  -- one entry of the session
  module _ (page : Page) (ok : allows limits now page.entry ≡ true) (is_page : IsPage page) (mine : (owner now page.entry.event == session) ≡ true) where
    pub one_moves : (from : Stage) → pins_within (version_in (found.pages ++ page ∷ [])) page.entry.event
        → (given later gained : List loader.Given) → Brings (placed now page.entry) gained → later ≡ given ++ gained → (low high : ℕ) → after_fault page.entry.event low (λ count. count ≤ high)
        → Moves session (place limits front given low from) (place limits (found.pages ++ page ∷ []) later high (step limits (stocks (found.pages ++ page ∷ [])) now from page.entry.event))
    one_moves from pins given later gained gives given_are low high spans =
        taken_moves (page ∷ []) (ok, tt) (All-cons IsPage page [] is_page (All-nil IsPage)) from _ (placed now page.entry ∷ []) (one_own (owner now page.entry.event == session) (placed now page.entry) mine)
        (pins, tt) refl given later gained (gained, [], gives, refl, sym (append-nil gained)) given_are low high spans

  -- one without an answer, at which nothing is loaded
  pub plain_moves : (e : Event (List ℕ)) → allows limits now (plain e) ≡ true → (owner now e == session) ≡ true → pins_within (version_in (found.pages ++ bare (plain e ∷ []))) e
      → Brings (placed now (plain e)) [] → ((low : ℕ) → after_fault e low (λ count. count ≤ low)) → (given : List loader.Given) (faults : ℕ) (from : Stage)
      → Moves session (place limits front given faults from)
      (place limits (found.pages ++ bare (plain e ∷ [])) given faults (step limits (stocks (found.pages ++ bare (plain e ∷ []))) now from e))
  plain_moves e ok mine pins none calm given faults from =
      one_moves (plain_page e) ok (plain_is_page limits now e ok) mine from pins given given [] none (sym (append-nil given)) faults faults (calm faults)

  -- two of them
  two_own : (a b : Bool) (p q : Placed) → a ≡ true → b ≡ true → (if a then p ∷ [] else []) ++ ((if b then q ∷ [] else []) ++ []) ≡ p ∷ q ∷ []
  two_own true true p q h k = refl
  two_own true false p q h k = cc
  two_own false b p q h k = cc

  pub two_moves : (d e : Event (List ℕ)) → LegalFrom limits now (plain d ∷ plain e ∷ []) → (owner now d == session) ≡ true → (owner (after now (plain d)) e == session) ≡ true
      → pins_within (version_in (found.pages ++ bare (plain d ∷ plain e ∷ []))) d → pins_within (version_in (found.pages ++ bare (plain d ∷ plain e ∷ []))) e
      → Gained (placed now (plain d) ∷ placed (after now (plain d)) (plain e) ∷ []) []
      → ((low : ℕ) → Spans low (placed now (plain d) ∷ placed (after now (plain d)) (plain e) ∷ []) low) → (given : List loader.Given) (faults : ℕ) (from : Stage)
      → Moves session (place limits front given faults from)
      (place limits (found.pages ++ bare (plain d ∷ plain e ∷ [])) given faults
      (step limits (stocks (found.pages ++ bare (plain d ∷ plain e ∷ []))) (after now (plain d)) (step limits (stocks (found.pages ++ bare (plain d ∷ plain e ∷ []))) now from d) e))
  two_moves d e legal first second pins again none calm given faults from =
      taken_moves (bare (plain d ∷ plain e ∷ [])) legal
      (All-cons IsPage (plain_page d) (plain_page e ∷ []) (plain_is_page limits now d legal.0) (All-cons IsPage (plain_page e) [] (plain_is_page limits (after now (plain d)) e legal.1.0) (All-nil IsPage)))
      from _ (placed now (plain d) ∷ placed (after now (plain d)) (plain e) ∷ []) (two_own (owner now d == session) (owner (after now (plain d)) e == session) _ _ first second)
      (pins, (again, tt)) refl given given [] none (sym (append-nil given)) faults faults (calm faults)
