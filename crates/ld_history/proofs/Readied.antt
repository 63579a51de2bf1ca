-- What a history that is kept with room for what is promised gives to one more entry.
use Rattle.std.proofs.Common.{◌≡◌, ℕ, ◌+◌, ◌≤◌, ◌<◌, refl, sym, ap, ◌∙◌, subst, true, List, [], ◌∷◌, ◌++◌, length, length-append, arith, None}
use Rattle.ld_blocks.specs.Listed.{Listed}
use Rattle.ld_history.specs.declared.limits.Limits.{Limits}
use Rattle.ld_history.specs.declared.event.Given.{Given}
use Rattle.ld_history.specs.declared.event.Event.{Event}
use Rattle.ld_history.specs.declared.event.Event.TheVariants as event
use Rattle.ld_history.specs.declared.event.Entry.{Entry}
use Rattle.ld_history.specs.Store.{Store}
use Rattle.ld_history.specs.ByTurns.{allows, IsKept}
use Rattle.ld_history.specs.After.{after, eviction, ReliesOn}
use Rattle.ld_history.specs.Legal.{History, state}
use Rattle.ld_history.specs.Ahead.{promised, rise}
use Rattle.ld_history.specs.Ready.{IsReady, ahead, is_ending}
use Rattle.ld_history.proofs.Whole.{kept-push}
use Rattle.ld_history.proofs.LawRoom.{roomy, rises, promised-most}
use Rattle.ld_history.proofs.Allowed.{room}
use Rattle.ld_history.proofs.KeptStep.{bytes_within}

abbrev pub Kept : Type 0
Kept = Listed (Entry (List ℕ) Given)

module _ (limits : Limits) (history : Kept) (store : Store) (h : IsReady limits history store) where
  pub most : promised history.items ≤ length history.items + ahead store
  most = subst (λ s. promised history.items ≤ length history.items + ahead s) (sym h.kept.replayed) (omega (arith, promised-most limits h.kept.within.held history.items h.kept.legal))

  pub few : store.events ≤ 16777216
  few = omega (arith, h.kept.counted, h.kept.within.events, (roomy limits h.kept.within.held history.items h.kept.legal).room)

  -- what the rules allow after the history that is seen, they allow after the tables
  pub allowed_inside : (view : History) → record { limits = limits; entries = history.items } ≡ view → (entry : Entry (List ℕ) Given) → allows view.limits (state view.entries) entry ≡ true → allows limits store entry ≡ true
  allowed_inside view is entry ok =
      subst (λ s. allows limits s entry ≡ true) (sym h.kept.replayed) (subst (λ (v : History). allows v.limits (state v.entries) entry ≡ true) (sym is) ok)

  -- and what they allow after one more entry
  pub allowed_next : (view : History) → record { limits = limits; entries = history.items } ≡ view → (first second : Entry (List ℕ) Given) → allows view.limits (after (state view.entries) first) second ≡ true
      → allows limits (after store first) second ≡ true
  allowed_next view is first second ok =
      subst (λ s. allows limits (after s first) second ≡ true) (sym h.kept.replayed) (subst (λ (v : History). allows v.limits (after (state v.entries) first) second ≡ true) (sym is) ok)

  module _ (entry : Entry (List ℕ) Given) (ok : allows limits store entry ≡ true) where
    pub relies : ReliesOn store entry.event
    relies = room limits store entry.event entry.given ok h.kept.within.bytes (bytes_within limits history.items store h.kept)

    more : promised (history.items ++ entry ∷ []) ≤ promised history.items + rise entry.event
    more = rises limits h.kept.within.held history.items h.kept.legal entry (subst (λ s. allows limits s entry ≡ true) h.kept.replayed ok)

    module _ (roomier : Kept) (same : roomier.items ≡ history.items) (taken : promised history.items + rise entry.event ≤ roomier.capacity) where
      pub has_room : length roomier.items < roomier.capacity
      has_room = omega (arith, more, taken, length-append history.items (entry ∷ []), ap length same)

      pub ready-push : (new : Kept) (now : Store) → new.items ≡ roomier.items ++ entry ∷ [] → new.capacity ≡ roomier.capacity → now ≡ after store entry → IsReady limits new now
      ready-push new now items capacity is =
          let pushed : new.items ≡ history.items ++ entry ∷ [] = items ∙ ap (λ es. es ++ entry ∷ []) same in
          record {
            kept = subst (λ es. IsKept limits es now) (sym pushed) (kept-push limits history.items entry store now h.kept ok is);
            room = subst (λ es. promised es ≤ new.capacity) (sym pushed) (omega (arith, more, taken, capacity));
          }

  -- an entry that promises nothing
  module _ (entry : Entry (List ℕ) Given) (ok : allows limits store entry ≡ true) (none : rise entry.event ≡ 0) where
    room_for : promised history.items + rise entry.event ≤ history.capacity
    room_for = omega (arith, h.room, none)

    pub has_place : length history.items < history.capacity
    has_place = has_room entry ok history refl room_for

    pub ready-more : (new : Kept) (now : Store) → new.items ≡ history.items ++ entry ∷ [] → new.capacity ≡ history.capacity → now ≡ after store entry → IsReady limits new now
    ready-more = ready-push entry ok history refl room_for

-- two entries that promise nothing
module _ (limits : Limits) (history : Kept) (store : Store) (h : IsReady limits history store) (first second : Entry (List ℕ) Given)
    (one : allows limits store first ≡ true) (two : allows limits (after store first) second ≡ true) (none : rise first.event ≡ 0) (none_more : rise second.event ≡ 0)
    (middle : Kept) (items : middle.items ≡ history.items ++ first ∷ []) (capacity : middle.capacity ≡ history.capacity) where
  half : IsReady limits middle (after store first)
  half = ready-more limits history store h first one none middle (after store first) items capacity refl

  pub has_second : length middle.items < middle.capacity
  has_second = has_place limits middle (after store first) half second two none_more

  pub ready-two : (new : Kept) (now : Store) → new.items ≡ middle.items ++ second ∷ [] → new.capacity ≡ middle.capacity → now ≡ after (after store first) second → IsReady limits new now
  ready-two = ready-more limits middle (after store first) half second two none_more

-- what ends something promises nothing, and is no eviction
pub ending_promises : (e : Event (List ℕ)) → is_ending e ≡ true → rise e ≡ 0
ending_promises (event.Failed flight before after) h = refl
ending_promises (event.Lapsed flight) h = refl
ending_promises (event.Answered session request how) h = refl
ending_promises (event.Closed session) h = refl
ending_promises (event.Opened session seat) h = cc
ending_promises (event.Pinned session request attempt version) h = cc
ending_promises (event.Found session iri) h = cc
ending_promises (event.Led session iri flight) h = cc
ending_promises (event.Joined session iri flight) h = cc
ending_promises (event.Published flight version) h = cc
ending_promises (event.Evicted session iri version) h = cc
ending_promises (event.ReviseLed session iri flight) h = cc
ending_promises (event.Same flight) h = cc

pub ending_evicts : (store : Store) (e : Event (List ℕ)) → is_ending e ≡ true → eviction store e ≡ None
ending_evicts store (event.Failed flight before after) h = refl
ending_evicts store (event.Lapsed flight) h = refl
ending_evicts store (event.Answered session request how) h = refl
ending_evicts store (event.Closed session) h = refl
ending_evicts store (event.Opened session seat) h = cc
ending_evicts store (event.Pinned session request attempt version) h = cc
ending_evicts store (event.Found session iri) h = cc
ending_evicts store (event.Led session iri flight) h = cc
ending_evicts store (event.Joined session iri flight) h = cc
ending_evicts store (event.Published flight version) h = cc
ending_evicts store (event.Evicted session iri version) h = cc
ending_evicts store (event.ReviseLed session iri flight) h = cc
ending_evicts store (event.Same flight) h = cc
