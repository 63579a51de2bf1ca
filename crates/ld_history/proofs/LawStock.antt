-- A version's stock along a history: the current version's is what is stored, an earlier one's stays as the
-- list grows, and an IRI's turns tell of each whether it had the IRI.
use Rattle.std.proofs.Common.{◌≡◌, ℕ, ◌+◌, ◌≤◌, ◌<◌, List, [], ◌∷◌, ◌++◌, refl, sym, ap, ◌∙◌, subst, arith, Option, Some, None, Bool, true, false, cond, inl, inr, ◌&&◌, le-leb, append_assoc, append-nil}
use Rattle.std.specs.Prelude.{is_some, if◌then◌else◌, nat_le, map, take_while}
use Rattle.std.specs.List.{list_all}
use Rattle.std.specs.Option.{option_map}
use Rattle.std.specs.BTreeMap.{is_at}
use Rattle.std.proofs.lemmas.List.Sums.{take_while-cons}
use Rattle.std.proofs.lemmas.List.Folds.{list_all-append}
use Rattle.std.proofs.lemmas.Map.Made.{lookup-map_values}
use Rattle.std.proofs.lemmas.Bool.{cases_Bool, cases_lt, and_from, lt-leb}
use Rattle.ld_tree.specs.Names.{name_cmp}
use Rattle.ld_history.specs.declared.limits.Limits.{Limits}
use Rattle.ld_history.specs.declared.event.Given.{Given}
use Rattle.ld_history.specs.declared.event.Event.{Event}
use Rattle.ld_history.specs.declared.event.Event.TheVariants as event
use Rattle.ld_history.specs.declared.event.Entry.{Entry}
use Rattle.ld_history.specs.declared.session.Flight.{Flight}
use Rattle.ld_history.specs.declared.session.End.{End}
use Rattle.ld_history.specs.declared.session.Stored.{Stored}
use Rattle.ld_history.specs.Store.{Store, empty_store}
use Rattle.ld_history.specs.Words.{at_iri, flight_at, is_stored}
use Rattle.ld_history.specs.After.{after, after_event, with_flight, landed, answered_by, turned}
use Rattle.ld_history.specs.Legal.{Entries, state, is_by, stock, is_in_stock}
use Rattle.ld_history.specs.Counts.{makes_version}
use Rattle.ld_history.specs.ByTurns.{was_stored, allows_given, allows, Legal, LegalFrom}
use Rattle.ld_history.proofs.LawAlong.{along, replay-append, legal-append, legal_more}
use Rattle.ld_history.proofs.LawReads.{both, read_publish, read_evict}
use Rattle.ld_history.proofs.LawSound.{sound}
use Rattle.ld_history.proofs.LawTurns.{was_in, was_in-named, was_in-before}
use Rattle.ld_history.proofs.LawVersions.{version-after}

-- what stands for each IRI
abbrev pub placed : List (List ℕ × Stored) → List (List ℕ × ℕ)
placed stored = map (λ e. (e.0, e.1.flight)) stored

-- ---- a front that passes
module _ {X : Type 0} (p : X → Bool) where
  cons_passes : (x : X) (xs : List X) → p x ≡ true → take_while p (x ∷ xs) ≡ x ∷ take_while p xs
  cons_passes x xs is = take_while-cons p x xs ∙ ap (λ b. cond b (x ∷ take_while p xs) []) is

  cons_fails : (x : X) (xs : List X) → p x ≡ false → take_while p (x ∷ xs) ≡ []
  cons_fails x xs is = take_while-cons p x xs ∙ ap (λ b. cond b (x ∷ take_while p xs) []) is

  all_pass : (xs ys : List X) → list_all p xs ≡ true → take_while p (xs ++ ys) ≡ xs ++ take_while p ys
  all_pass [] ys h = refl
  all_pass (x ∷ xs) ys h = let parts = both h in cons_passes x (xs ++ ys) parts.0 ∙ ap (λ zs. x ∷ zs) (all_pass xs ys parts.1)

  pub whole : (xs : List X) → list_all p xs ≡ true → take_while p xs ≡ xs
  whole xs h = ap (take_while p) (sym (append-nil xs)) ∙ all_pass xs [] h ∙ append-nil xs

  one_fails : (xs ys : List X) → list_all p xs ≡ false → take_while p (xs ++ ys) ≡ take_while p xs
  one_fails [] ys h = cc
  one_fails (x ∷ xs) ys h = elim (cases_Bool (p x)) [
    | inl is ↦
        let rest : list_all p xs ≡ false = ap (λ b. b && list_all p xs) (sym is) ∙ h in
        cons_passes x (xs ++ ys) is ∙ ap (λ zs. x ∷ zs) (one_fails xs ys rest) ∙ sym (cons_passes x xs is)
    | inr is ↦ cons_fails x (xs ++ ys) is ∙ sym (cons_fails x xs is)
  ]

-- ---- one event
landed_stored : (store : Store) (flight : ℕ) (how : End) (o : Option Flight) → (with_flight store (landed store flight how) o).stored ≡ store.stored
landed_stored store flight how None = refl
landed_stored store flight how (Some f) = refl

-- what makes no version leaves what is stored
keeps_event : (store : Store) (given : Option Given) (event : Event (List ℕ)) → makes_version event ≡ false → (after_event store given event).stored ≡ store.stored
keeps_event store given (event.Opened session seat) h = refl
keeps_event store given (event.Pinned session request attempt version) h = refl
keeps_event store given (event.Found session iri) h = refl
keeps_event store given (event.Led session iri flight) h = refl
keeps_event store given (event.Joined session iri flight) h = refl
keeps_event store given (event.Published flight version) h = cc
keeps_event store given (event.Failed flight before after) h = landed_stored store flight _ (flight_at store.flights flight)
keeps_event store given (event.Lapsed flight) h = landed_stored store flight _ (flight_at store.flights flight)
keeps_event store given (event.Evicted session iri version) h = cc
keeps_event store given (event.ReviseLed session iri flight) h = refl
keeps_event store given (event.Same flight) h = landed_stored store flight _ (flight_at store.flights flight)
keeps_event store given (event.Answered session request how) h = refl
keeps_event store given (event.Closed session) h = refl

pub keeps_stored : (store : Store) (entry : Entry (List ℕ) Given) → makes_version entry.event ≡ false → (after store entry).stored ≡ store.stored
keeps_stored store entry h = keeps_event store entry.given entry.event h

-- what makes no version is by each
quiet_by : (version : ℕ) (event : Event (List ℕ)) → makes_version event ≡ false → is_by version event ≡ true
quiet_by version (event.Opened session seat) h = refl
quiet_by version (event.Pinned session request attempt pinned) h = refl
quiet_by version (event.Found session iri) h = refl
quiet_by version (event.Led session iri flight) h = refl
quiet_by version (event.Joined session iri flight) h = refl
quiet_by version (event.Published flight made) h = cc
quiet_by version (event.Failed flight before after) h = refl
quiet_by version (event.Lapsed flight) h = refl
quiet_by version (event.Evicted session iri made) h = cc
quiet_by version (event.ReviseLed session iri flight) h = refl
quiet_by version (event.Same flight) h = refl
quiet_by version (event.Answered session request how) h = refl
quiet_by version (event.Closed session) h = refl

-- an allowed event that makes a version makes the next
made_next : (limits : Limits) (store : Store) (event : Event (List ℕ)) (given : Option Given) → allows_given limits store event given ≡ true → makes_version event ≡ true
    → (version : ℕ) → is_by version event ≡ nat_le (store.version + 1) version
made_next limits store (event.Opened session seat) given ok h version = cc
made_next limits store (event.Pinned session request attempt pinned) given ok h version = cc
made_next limits store (event.Found session iri) given ok h version = cc
made_next limits store (event.Led session iri flight) given ok h version = cc
made_next limits store (event.Joined session iri flight) given ok h version = cc
made_next limits store (event.Published flight made) None ok h version = cc
made_next limits store (event.Published flight made) (Some given) ok h version = ap (λ w. nat_le w version) (read_publish store flight made given ok).next
made_next limits store (event.Failed flight before after) given ok h version = cc
made_next limits store (event.Lapsed flight) given ok h version = cc
made_next limits store (event.Evicted session iri made) None ok h version = ap (λ w. nat_le w version) (read_evict store session iri made ok).next
made_next limits store (event.Evicted session iri made) (Some given) ok h version = cc
made_next limits store (event.ReviseLed session iri flight) given ok h version = cc
made_next limits store (event.Same flight) given ok h version = cc
made_next limits store (event.Answered session request how) given ok h version = cc
made_next limits store (event.Closed session) given ok h version = cc

module _ (limits : Limits) (store : Store) (entry : Entry (List ℕ) Given) (ok : allows limits store entry ≡ true) where
  pub version_up : makes_version entry.event ≡ true → (after store entry).version ≡ store.version + 1
  version_up makes = version-after limits store entry ok ∙ ap (λ b. store.version + cond b 1 0) makes

  pub version_stays : makes_version entry.event ≡ false → (after store entry).version ≡ store.version
  version_stays quiet = let same : (after store entry).version ≡ store.version + 0 = version-after limits store entry ok ∙ ap (λ b. store.version + cond b 1 0) quiet in omega (arith, same)

  pub version_rises : store.version ≤ (after store entry).version
  version_rises = elim (cases_Bool (makes_version entry.event)) [
    | inl makes ↦ omega (arith, version_up makes)
    | inr quiet ↦ omega (arith, version_stays quiet)
  ]

  -- it is by the version after it, and past the one before it, where it makes one
  by_after : (version : ℕ) → (after store entry).version ≤ version → is_by version entry.event ≡ true
  by_after version le = elim (cases_Bool (makes_version entry.event)) [
    | inl makes ↦ made_next limits store entry.event entry.given ok makes version ∙ le-leb (store.version + 1) version (omega (arith, version_up makes, le))
    | inr quiet ↦ quiet_by version entry.event quiet
  ]

  past_before : makes_version entry.event ≡ true → (version : ℕ) → version ≤ store.version → is_by version entry.event ≡ false
  past_before makes version le = made_next limits store entry.event entry.given ok makes version ∙ lt-leb (store.version + 1) version (omega arith)

-- ---- whole histories
pub pushed : (front : Entries) (entry : Entry (List ℕ) Given) → state (front ++ entry ∷ []) ≡ after (state front) entry
pushed front entry = replay-append empty_store front (entry ∷ [])

pub legal_push : (limits : Limits) (front : Entries) (entry : Entry (List ℕ) Given) → Legal limits front → allows limits (state front) entry ≡ true → Legal limits (front ++ entry ∷ [])
legal_push limits front entry legal ok = legal_more limits empty_store front (entry ∷ []) legal (ok, tt)

pub all_by : (limits : Limits) (entries : Entries) → Legal limits entries → (version : ℕ) → (state entries).version ≤ version → list_all (λ entry. is_by version entry.event) entries ≡ true
all_by limits = along limits (λ entries. (version : ℕ) → (state entries).version ≤ version → list_all (λ entry. is_by version entry.event) entries ≡ true) one (λ version le. refl)
  where
    one : (front : Entries) (entry : Entry (List ℕ) Given) → Legal limits front → allows limits (state front) entry ≡ true
        → ((version : ℕ) → (state front).version ≤ version → list_all (λ entry. is_by version entry.event) front ≡ true)
        → (version : ℕ) → (state (front ++ entry ∷ [])).version ≤ version → list_all (λ entry. is_by version entry.event) (front ++ entry ∷ []) ≡ true
    one front entry legal ok h version le =
        let up : (after (state front) entry).version ≤ version = subst (λ (s : Store). s.version ≤ version) (pushed front entry) le in
        list_all-append (λ (e : Entry (List ℕ) Given). is_by version e.event) front (entry ∷ [])
        ∙ and_from _ _ (h version (omega (arith, up, version_rises limits (state front) entry ok))) (and_from _ _ (by_after limits (state front) entry ok version up) refl)

-- from the current version on the stock is what is stored
pub stock_now : (limits : Limits) (entries : Entries) → Legal limits entries → (version : ℕ) → (state entries).version ≤ version → stock entries version ≡ placed (state entries).stored
stock_now limits entries legal version le = ap (λ es. placed (state es).stored) (whole (λ (entry : Entry (List ℕ) Given). is_by version entry.event) entries (all_by limits entries legal version le))

-- the entry makes no version above this one
abbrev is_until : ℕ → Entry (List ℕ) Given → Bool
is_until version e = is_by version e.event

stock_one : (limits : Limits) (front : Entries) (entry : Entry (List ℕ) Given) → allows limits (state front) entry ≡ true → (version : ℕ) → version ≤ (state front).version
    → stock (front ++ entry ∷ []) version ≡ stock front version
stock_one limits front entry ok version le = elim (cases_Bool (list_all (is_until version) front)) [
  | inr broken ↦ ap (λ es. placed (state es).stored) (one_fails (is_until version) front (entry ∷ []) broken)
  | inl all ↦ elim (cases_Bool (makes_version entry.event)) [
    | inl makes ↦ ap (λ es. placed (state es).stored)
        (all_pass (is_until version) front (entry ∷ []) all ∙ ap (λ es. front ++ es) (cons_fails (is_until version) entry [] (past_before limits (state front) entry ok makes version le)) ∙ append-nil front ∙ sym (whole (is_until version) front all))
    | inr quiet ↦
        ap (λ es. placed (state es).stored) (all_pass (is_until version) front (entry ∷ []) all ∙ ap (λ es. front ++ es) (cons_passes (is_until version) entry [] (quiet_by version entry.event quiet)))
        ∙ ap (λ (s : Store). placed s.stored) (pushed front entry) ∙ ap placed (keeps_stored (state front) entry quiet) ∙ ap (λ es. placed (state es).stored) (sym (whole (is_until version) front all))
  ]
]

stock_from : (limits : Limits) (front back : Entries) → LegalFrom limits (state front) back → (version : ℕ) → version ≤ (state front).version → stock (front ++ back) version ≡ stock front version
stock_from limits front [] h version le = ap (λ es. stock es version) (append-nil front)
stock_from limits front (entry ∷ back) h version le =
    let rises = version_rises limits (state front) entry h.0 in
    let same : (state (front ++ entry ∷ [])).version ≡ (after (state front) entry).version = ap (λ (s : Store). s.version) (pushed front entry) in
    ap (λ es. stock es version) (sym (append_assoc front (entry ∷ []) back))
    ∙ stock_from limits (front ++ entry ∷ []) back (subst (λ s. LegalFrom limits s back) (sym (pushed front entry)) h.1) version (omega (arith, rises, same, le))
    ∙ stock_one limits front entry h.0 version le

-- the stock of a version stays as the list grows
pub stock_stays : (limits : Limits) (front back : Entries) → Legal limits (front ++ back) → (version : ℕ) → version ≤ (state front).version → stock (front ++ back) version ≡ stock front version
stock_stays limits front back legal version le = stock_from limits front back (legal-append limits empty_store front back legal).1 version le

-- ---- turns
landed_turns : (store : Store) (flight : ℕ) (how : End) (o : Option Flight) → (with_flight store (landed store flight how) o).turns ≡ store.turns
landed_turns store flight how None = refl
landed_turns store flight how (Some f) = refl

entered_before : (b : Bool) (store : Store) (own : List ℕ) (made : ℕ) (iri : List ℕ) (version : ℕ) → version < made → was_in (if b then store.turns else turned store.turns own made) iri version ≡ was_in store.turns iri version
entered_before true store own made iri version lt = refl
entered_before false store own made iri version lt = was_in-before store.turns own made iri version lt

-- of the versions before it an allowed event changes nothing
turns_event : (limits : Limits) (store : Store) (event : Event (List ℕ)) (given : Option Given) → allows_given limits store event given ≡ true → (iri : List ℕ) (version : ℕ) → version ≤ store.version
    → was_in (after_event store given event).turns iri version ≡ was_in store.turns iri version
turns_event limits store (event.Opened session seat) given ok iri version le = refl
turns_event limits store (event.Pinned session request attempt pinned) given ok iri version le = refl
turns_event limits store (event.Found session own) given ok iri version le = refl
turns_event limits store (event.Led session own flight) given ok iri version le = was_in-named store.turns own iri version
turns_event limits store (event.Joined session own flight) given ok iri version le = refl
turns_event limits store (event.Published flight made) None ok iri version le = cc
turns_event limits store (event.Published flight made) (Some given) ok iri version le =
    let p = read_publish store flight made given ok in
    ap (λ o. was_in (with_flight store (answered_by store flight made given) o).turns iri version) p.flies.is
    ∙ entered_before (is_stored store p.flies.f.iri) store p.flies.f.iri made iri version (omega (arith, p.next))
turns_event limits store (event.Failed flight before after) given ok iri version le = ap (λ t. was_in t iri version) (landed_turns store flight _ (flight_at store.flights flight))
turns_event limits store (event.Lapsed flight) given ok iri version le = ap (λ t. was_in t iri version) (landed_turns store flight _ (flight_at store.flights flight))
turns_event limits store (event.Evicted session own made) None ok iri version le = was_in-before store.turns own made iri version (let p = read_evict store session own made ok in omega (arith, p.next))
turns_event limits store (event.Evicted session own made) (Some given) ok iri version le = cc
turns_event limits store (event.ReviseLed session own flight) given ok iri version le = refl
turns_event limits store (event.Same flight) given ok iri version le = ap (λ t. was_in t iri version) (landed_turns store flight _ (flight_at store.flights flight))
turns_event limits store (event.Answered session request how) given ok iri version le = refl
turns_event limits store (event.Closed session) given ok iri version le = refl

-- what is stored is in the stock of the current version
in_stock_now : (limits : Limits) (entries : Entries) → Legal limits entries → (iri : List ℕ) (version : ℕ) → (state entries).version ≤ version
    → is_in_stock entries iri version ≡ is_some (at_iri (state entries).stored iri)
unfolding is_in_stock
in_stock_now limits entries legal iri version le =
    ap (λ es. is_some (at_iri es iri)) (stock_now limits entries legal version le)
    ∙ ap is_some (lookup-map_values (λ (x : Stored). x.flight) (is_at (name_cmp iri)) (state entries).stored)
    ∙ same_some (at_iri (state entries).stored iri)
  where
    same_some : (o : Option Stored) → is_some (option_map (λ (x : Stored). x.flight) o) ≡ is_some o
    same_some None = refl
    same_some (Some x) = refl

in_stock_one : (limits : Limits) (front : Entries) (entry : Entry (List ℕ) Given) → allows limits (state front) entry ≡ true → (iri : List ℕ) (version : ℕ) → version ≤ (state front).version
    → is_in_stock (front ++ entry ∷ []) iri version ≡ is_in_stock front iri version
unfolding is_in_stock
in_stock_one limits front entry ok iri version le = ap (λ es. is_some (at_iri es iri)) (stock_one limits front entry ok version le)

in_no_stock : (iri : List ℕ) (version : ℕ) → false ≡ is_in_stock [] iri version
unfolding is_in_stock
in_no_stock iri version = refl

-- Up to the current version the turns tell what is in the stock.
pub turns_tell : (limits : Limits) (entries : Entries) → Legal limits entries → (iri : List ℕ) (version : ℕ) → version ≤ (state entries).version
    → was_stored (state entries) iri version ≡ is_in_stock entries iri version
turns_tell limits = along limits (λ entries. (iri : List ℕ) (version : ℕ) → version ≤ (state entries).version → was_stored (state entries) iri version ≡ is_in_stock entries iri version) one
    (λ iri version le. in_no_stock iri version)
  where
    one : (front : Entries) (entry : Entry (List ℕ) Given) → Legal limits front → allows limits (state front) entry ≡ true
        → ((iri : List ℕ) (version : ℕ) → version ≤ (state front).version → was_stored (state front) iri version ≡ is_in_stock front iri version)
        → (iri : List ℕ) (version : ℕ) → version ≤ (state (front ++ entry ∷ [])).version → was_stored (state (front ++ entry ∷ [])) iri version ≡ is_in_stock (front ++ entry ∷ []) iri version
    one front entry legal ok h iri version le = elim (cases_lt (state front).version version) [
      | inr old ↦
          ap (λ s. was_stored s iri version) (pushed front entry) ∙ turns_event limits (state front) entry.event entry.given ok iri version old ∙ h iri version old
          ∙ sym (in_stock_one limits front entry ok iri version old)
      | inl new ↦
          let now = legal_push limits front entry legal ok in
          let same : (state (front ++ entry ∷ [])).version ≡ (after (state front) entry).version = ap (λ (s : Store). s.version) (pushed front entry) in
          let up : (after (state front) entry).version ≤ version = elim (cases_Bool (makes_version entry.event)) [
            | inl makes ↦ omega (arith, version_up limits (state front) entry ok makes, new)
            | inr quiet ↦ omega (arith, version_stays limits (state front) entry ok quiet, new)
          ] in
          let past : (state (front ++ entry ∷ [])).version ≤ version = omega (arith, same, up) in
          (sound limits (front ++ entry ∷ []) now).crew.tell iri version past ∙ sym (in_stock_now limits (front ++ entry ∷ []) now iri version past)
    ]
