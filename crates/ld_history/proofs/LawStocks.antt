-- What each version's stock is, from the one before it.
use Rattle.std.proofs.Common.{◌≡◌, ℕ, ◌+◌, ◌-◌, List, [], ◌∷◌, ◌++◌, refl, sym, ap, ◌∙◌, arith, Some, None, true, false, append_assoc}
use Rattle.std.specs.declared.cmp.Ordering.TheVariants.{Less, Equal, Greater}
use Rattle.std.specs.Ordering.{is_eq, match_ordering}
use Rattle.std.specs.Prelude.{cond}
use Rattle.ld_tree.specs.Names.{name_cmp}
use Rattle.ld_history.specs.declared.limits.Limits.{Limits}
use Rattle.ld_history.specs.declared.event.Given.{Given}
use Rattle.ld_history.specs.declared.event.Event.TheVariants as event
use Rattle.ld_history.specs.declared.event.Entry.{Entry}
use Rattle.ld_history.specs.declared.session.Flight.{Flight}
use Rattle.ld_history.specs.declared.session.Stored.{Stored}
use Rattle.ld_history.specs.Store.{Store, empty_store}
use Rattle.ld_history.specs.Words.{flight_at}
use Rattle.ld_history.specs.After.{after, put_iri, take_iri, with_flight, answered_by}
use Rattle.ld_history.specs.Legal.{Entries, state, stock}
use Rattle.ld_history.specs.ByTurns.{allows, Legal, LegalFrom}
use Rattle.ld_history.proofs.LawAlong.{legal-append, legal_more}
use Rattle.ld_history.proofs.LawReads.{read_publish, read_evict}
use Rattle.ld_history.proofs.LawStock.{placed, pushed, stock_now, stock_stays}

abbrev Stock : Type 0
Stock = List (List ℕ × Stored)

placed-put : (stored : Stock) (iri : List ℕ) (x : Stored) → placed (put_iri stored iri x) ≡ put_iri (placed stored) iri x.flight
placed-put [] iri x = refl
placed-put (e ∷ es) iri x =
    elim (name_cmp iri e.0) as (λ r. placed (match_ordering r ((iri, x) ∷ e ∷ es) ((e.0, x) ∷ es) (e ∷ put_iri es iri x))
    ≡ match_ordering r ((iri, x.flight) ∷ placed (e ∷ es)) ((e.0, x.flight) ∷ placed es) ((e.0, e.1.flight) ∷ put_iri (placed es) iri x.flight)) [
      | Less ↦ refl
      | Equal ↦ refl
      | Greater ↦ ap (λ rest. (e.0, e.1.flight) ∷ rest) (placed-put es iri x)
    ]

placed-take : (stored : Stock) (iri : List ℕ) → placed (take_iri stored iri) ≡ take_iri (placed stored) iri
placed-take [] iri = refl
placed-take (e ∷ es) iri =
    elim (is_eq (name_cmp iri e.0)) as (λ b. placed (cond b es (e ∷ take_iri es iri)) ≡ cond b (placed es) ((e.0, e.1.flight) ∷ take_iri (placed es) iri)) [
      | true ↦ refl
      | false ↦ ap (λ rest. (e.0, e.1.flight) ∷ rest) (placed-take es iri)
    ]

pub first_stock : (limits : Limits) (entries : Entries) → Legal limits entries → stock entries 0 ≡ []
first_stock limits entries legal = stock_stays limits [] entries legal 0 (omega arith)

pub current_stock : (limits : Limits) (entries : Entries) → Legal limits entries → stock entries (state entries).version ≡ placed (state entries).stored
current_stock limits entries legal = stock_now limits entries legal (state entries).version (omega arith)

-- one entry in a legal history
module _ (limits : Limits) (front back : Entries) (entry : Entry (List ℕ) Given) (legal : Legal limits (front ++ entry ∷ back)) where
  parts : Legal limits front × LegalFrom limits (state front) (entry ∷ back)
  parts = legal-append limits empty_store front (entry ∷ back) legal

  pub ok : allows limits (state front) entry ≡ true
  ok = parts.1.0

  whole : (front ++ entry ∷ []) ++ back ≡ front ++ entry ∷ back
  whole = append_assoc front (entry ∷ []) back

  one : Legal limits (front ++ entry ∷ [])
  one = legal_more limits empty_store front (entry ∷ []) parts.0 (ok, tt)

  -- at the version before it
  pub stock_before : stock (front ++ entry ∷ back) (state front).version ≡ placed (state front).stored
  stock_before = stock_stays limits front (entry ∷ back) legal (state front).version (omega arith) ∙ stock_now limits front parts.0 (state front).version (omega arith)

  -- and at its own
  pub stock_after : stock (front ++ entry ∷ back) (after (state front) entry).version ≡ placed (after (state front) entry).stored
  stock_after =
      let same : (state (front ++ entry ∷ [])).version ≡ (after (state front) entry).version = ap (λ (s : Store). s.version) (pushed front entry) in
      ap (λ es. stock es (after (state front) entry).version) (sym whole)
      ∙ stock_stays limits (front ++ entry ∷ []) back (subst_legal) (after (state front) entry).version (omega (arith, same))
      ∙ stock_now limits (front ++ entry ∷ []) one (after (state front) entry).version (omega (arith, same))
      ∙ ap (λ (s : Store). placed s.stored) (pushed front entry)
    where
      subst_legal : Legal limits ((front ++ entry ∷ []) ++ back)
      subst_legal = rw whole legal

pub published_stock : (limits : Limits) (front back : Entries) (flight version : ℕ) (given : Given) (f : Flight)
    → Legal limits (front ++ record { event = event.Published flight version; given = Some given } ∷ back) → flight_at (state front).flights flight ≡ Some f
    → stock (front ++ record { event = event.Published flight version; given = Some given } ∷ back) version
    ≡ put_iri (stock (front ++ record { event = event.Published flight version; given = Some given } ∷ back) (version - 1)) f.iri flight
published_stock limits front back flight version given f legal is =
    let entry : Entry (List ℕ) Given = record { event = event.Published flight version; given = Some given } in
    let p = read_publish (state front) flight version given (ok limits front back entry legal) in
    let before : version - 1 ≡ (state front).version = omega (arith, p.next) in
    let new : after (state front) entry ≡ record (answered_by (state front) flight version given f) { events = (state front).events + 1; evicted = None } =
    ap (λ o. record (with_flight (state front) (answered_by (state front) flight version given) o) { events = (state front).events + 1; evicted = None }) is in
    let same : (after (state front) entry).version ≡ version = ap (λ (s : Store). s.version) new in
    ap (stock (front ++ entry ∷ back)) (sym same) ∙ stock_after limits front back entry legal ∙ ap (λ (s : Store). placed s.stored) new
    ∙ placed-put (state front).stored f.iri _ ∙ ap (λ es. put_iri es f.iri flight) (sym (ap (stock (front ++ entry ∷ back)) before ∙ stock_before limits front back entry legal))

pub evicted_stock : (limits : Limits) (front back : Entries) (session : ℕ) (iri : List ℕ) (version : ℕ)
    → Legal limits (front ++ record { event = event.Evicted session iri version; given = None } ∷ back)
    → stock (front ++ record { event = event.Evicted session iri version; given = None } ∷ back) version
    ≡ take_iri (stock (front ++ record { event = event.Evicted session iri version; given = None } ∷ back) (version - 1)) iri
evicted_stock limits front back session iri version legal =
    let entry : Entry (List ℕ) Given = record { event = event.Evicted session iri version; given = None } in
    let p = read_evict (state front) session iri version (ok limits front back entry legal) in
    let before : version - 1 ≡ (state front).version = omega (arith, p.next) in
    stock_after limits front back entry legal ∙ placed-take (state front).stored iri
    ∙ ap (λ es. take_iri es iri) (sym (ap (stock (front ++ entry ∷ back)) before ∙ stock_before limits front back entry legal))
