-- Before a session is opened none of the entries is its own.
use Rattle.std.proofs.Common.{◌≡◌, ℕ, ◌≤◌, ◌<◌, Bool, true, false, List, [], ◌∷◌, ◌++◌, refl, arith, eqb-true}
use Rattle.std.specs.Prelude.{Option, Some, None, if◌then◌else◌, ◌==◌}
use Rattle.ld_history.specs.After.{after}
use Rattle.ld_history.specs.ByTurns.{allows, LegalFrom}
use Rattle.ld_history.specs.Counts.{owner}
use Rattle.ld_history.specs.Legal.{Entries, Legal, replay, state}
use Rattle.ld_history.specs.Store.{Store, empty_store}
use Rattle.ld_history.specs.declared.event.Event.{Event}
use Rattle.ld_history.specs.declared.event.Event.TheVariants as event
use Rattle.ld_history.specs.declared.event.Entry.{Entry}
use Rattle.ld_history.specs.declared.event.Given.{Given}
use Rattle.ld_history.specs.declared.limits.Limits.{Limits}
use Rattle.ld_history.proofs.LawReads.{read_close, read_open}
use Rattle.ld_history.proofs.LawSound.{Sound, sound-after, sound-empty}
use Rattle.ld_history.proofs.LawTold.{by_turns}
use Rattle.ld_history.proofs.LawTracked.{is_inside, moved}
use Rattle.ld_own.specs.Own.{Placed, own_placed, own_placed_from, placed}
use Rattle.ld_own.proofs.Closing.{same_opened}

module _ (limits : Limits) (small : limits.held ≤ 64) where
  -- An entry that may come belongs to a session that was opened, and as many are opened then, or more.
  abbrev Counts : Store → Entry (List ℕ) Given → Type 0
  Counts store entry = (owner store entry.event ≤ (after store entry).opened) × (store.opened ≤ (after store entry).opened)

  counts_inside : (store : Store) (given : Option Given) (e : Event (List ℕ)) → Sound limits store → is_inside e ≡ true → allows limits store (record { event = e; given = given }) ≡ true
      → Counts store (record { event = e; given = given })
  counts_inside store given e h inside ok =
      let m = moved limits small store h given e inside ok in
      let same = same_opened store given e inside in
      let low = h.crew.numbered (owner store e) m.s m.is in
      (omega (arith, same, low), omega (arith, same))

  counts : (store : Store) (given : Option Given) (e : Event (List ℕ)) → Sound limits store → allows limits store (record { event = e; given = given }) ≡ true → Counts store (record { event = e; given = given })
  counts store None (event.Opened n k) h ok = let next = (read_open limits store n k ok).next in (omega arith, omega (arith, next))
  counts store (Some g) (event.Opened n k) h ok = cc
  counts store None (event.Closed n) h ok = let p = read_close store n ok in let low = h.crew.numbered n p.s p.is in (omega (arith, low), omega arith)
  counts store (Some g) (event.Closed n) h ok = cc
  counts store given (event.Pinned s r t v) h ok = counts_inside store given (event.Pinned s r t v) h refl ok
  counts store given (event.Found s iri) h ok = counts_inside store given (event.Found s iri) h refl ok
  counts store given (event.Led s iri f) h ok = counts_inside store given (event.Led s iri f) h refl ok
  counts store given (event.Joined s iri f) h ok = counts_inside store given (event.Joined s iri f) h refl ok
  counts store given (event.Published f v) h ok = counts_inside store given (event.Published f v) h refl ok
  counts store given (event.Failed f x y) h ok = counts_inside store given (event.Failed f x y) h refl ok
  counts store given (event.Lapsed f) h ok = counts_inside store given (event.Lapsed f) h refl ok
  counts store given (event.Evicted s iri v) h ok = counts_inside store given (event.Evicted s iri v) h refl ok
  counts store given (event.ReviseLed s iri f) h ok = counts_inside store given (event.ReviseLed s iri f) h refl ok
  counts store given (event.Same f) h ok = counts_inside store given (event.Same f) h refl ok
  counts store given (event.Answered s r how) h ok = counts_inside store given (event.Answered s r how) h refl ok

  not_listed : (mine : Bool) (p : Placed) (rest : List Placed) → (mine ≡ true → ⊥) → rest ≡ [] → (if mine then p ∷ [] else []) ++ rest ≡ []
  not_listed false p rest other none = none
  not_listed true p rest other none = absurd (other refl)

  rises : (store : Store) (more : Entries) → Sound limits store → LegalFrom limits store more → store.opened ≤ (replay store more).opened
  rises store [] h legal = omega arith
  rises store (entry ∷ more) h legal =
      let one = (counts store entry.given entry.event h legal.0).1 in
      let rest = rises (after store entry) more (sound-after limits store entry legal.0 h) legal.1 in
      omega (arith, one, rest)

  none_from : (session : ℕ) (store : Store) (more : Entries) → Sound limits store → LegalFrom limits store more → (replay store more).opened < session → own_placed_from store session more ≡ []
  none_from session store [] h legal ahead = refl
  none_from session store (entry ∷ more) h legal ahead =
      let now = sound-after limits store entry legal.0 h in
      let low = (counts store entry.given entry.event h legal.0).0 in
      let rest = rises (after store entry) more now legal.1 in
      not_listed (owner store entry.event == session) (placed store entry) (own_placed_from (after store entry) session more)
      (λ mine. let same = eqb-true (owner store entry.event) session mine in omega (arith, same, low, rest, ahead)) (none_from session (after store entry) more now legal.1 ahead)

  pub none_before : (session : ℕ) (entries : Entries) → Legal limits entries → (state entries).opened < session → own_placed session entries ≡ []
  none_before session entries legal ahead = none_from session empty_store entries (sound-empty limits) (by_turns limits entries legal) ahead
