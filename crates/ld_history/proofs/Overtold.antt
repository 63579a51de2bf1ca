-- An Evicted and the event of its session that follows on it change the session once.
use Rattle.std.proofs.Common.{◌≡◌, ℕ, ◌+◌, List, [], ◌∷◌, ◌++◌, refl, sym, ap, ◌∙◌, arith, Option, Some, None}
use Rattle.std.specs.Map.{set_value}
use Rattle.std.specs.BTreeMap.{is_at}
use Rattle.std.specs.Ordering.{nat_cmp}
use Rattle.ld_history.specs.declared.event.Event.TheVariants as event
use Rattle.ld_history.specs.declared.session.Session.{Session}
use Rattle.ld_history.specs.declared.session.Last.TheVariants as last
use Rattle.ld_history.specs.declared.plans.Replacement.{Replacement}
use Rattle.ld_history.specs.Store.{Store}
use Rattle.ld_history.specs.Words.{at_number}
use Rattle.ld_history.specs.After.{after, after_led, after_evicted, after_answered, changed, change_found, told, holding, turned, take_iri}
use Rattle.ld_history.specs.Steps.{plain}
use Rattle.ld_history.specs.Plans.{goes_out, comes_in, told_out}
use Rattle.ld_history.proofs.LawCrew.{set_number_same}
use Rattle.ld_history.proofs.Unturned.{set_twice}

module _ (sessions : List (ℕ × Session)) (n : ℕ) (g h : Session → Session) where
  twice_by : (o : Option Session) → at_number sessions n ≡ o → changed (change_found sessions n g o) n h ≡ change_found sessions n (λ s. h (g s)) o
  twice_by None is = ap (change_found sessions n h) is
  twice_by (Some s) is =
      ap (change_found (set_value (is_at (nat_cmp n)) sessions (g s)) n h) (set_number_same sessions n (g s) s is)
      ∙ set_twice (is_at (nat_cmp n)) sessions (g s) (h (g s))

  pub changed_twice : changed (changed sessions n g) n h ≡ changed sessions n (λ s. h (g s))
  changed_twice = twice_by (at_number sessions n) refl

-- a Led after an Evicted of the same session
pub held_over : (sessions : List (ℕ × Session)) (n version flight : ℕ) (iri : List ℕ) → holding (told sessions n (last.Evicted version)) n iri (last.Led flight) ≡ holding sessions n iri (last.Led flight)
held_over sessions n version flight iri = changed_twice sessions n (λ s. record s { last = last.Evicted version }) (λ s. record s { held = s.held ++ iri ∷ []; last = last.Led flight })

-- what the tables come to, that turn first and take out of the store last
pub replaced : (store led new : Store) (r : Replacement) → led ≡ after_led (record store { version = r.version; turns = turned store.turns r.out r.version }) r.session r.iri r.flight
    → new ≡ record led { stored = take_iri led.stored r.out; events = led.events + 2; evicted = None }
    → new ≡ after (after store (plain (goes_out r))) (plain (comes_in r))
replaced store led new r is_led is_new =
    is_new
    ∙ ap (λ (l : Store). record l { stored = take_iri l.stored r.out; events = l.events + 2; evicted = None }) is_led
    ∙ (let sum : store.events + 2 ≡ store.events + 1 + 1 = omega arith in
    λ i. record (after_led (record store { version = r.version; turns = turned store.turns r.out r.version }) r.session r.iri r.flight) {
      stored = take_iri store.stored r.out;
      sessions = sym (held_over store.sessions r.session r.version r.flight r.iri) i;
      events = sum i;
      evicted = None;
    })

pub dismissed : (store new : Store) (session request version : ℕ) (iri : List ℕ) → new ≡ record (after_answered (after_evicted store session iri version) session) { events = store.events + 2; evicted = None }
    → new ≡ after (after store (plain (event.Evicted session iri version))) (plain (told_out session request version))
dismissed store new session request version iri is =
    let sum : store.events + 2 ≡ store.events + 1 + 1 = omega arith in
    is ∙ ap (λ n. record (after_answered (after_evicted store session iri version) session) { events = n; evicted = None }) sum
