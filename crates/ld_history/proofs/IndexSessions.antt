-- What the index tells, after a change of one session, a new one or one that is gone.
use Rattle.std.proofs.Common.{◌≡◌, ℕ, suc, ◌+◌, ◌-◌, ◌≤◌, ◌<◌, ◌^◌, List, [], ◌∷◌, ◌++◌, length, refl, sym, ap, ◌∙◌, subst, arith, Option, Some, None, Bool, true, false, cond, ◌⊎◌, inl, inr, nat_cmp, nat_le, ◌||◌, is_some, eqb-true, eq-eqb, Bor, ◌↔◌}
use Rattle.std.specs.Prelude.{◌==◌, if◌then◌else◌, not, unwrap_or}
use Rattle.std.specs.declared.cmp.Ordering.TheVariants.{Less, Equal, Greater}
use Rattle.std.specs.Ordering.{is_eq, is_gt, match_ordering}
use Rattle.std.specs.Option.{option_map}
use Rattle.std.specs.List.{count_by, list_any, list_all, find, AllByRecursion}
use Rattle.std.specs.Option.{IsSome, IfSome, option_copied}
use Rattle.std.specs.Bool.{IsTrue}
use Rattle.std.specs.List.Sorted.{IsStrictlySortedBy}
use Rattle.std.specs.Map.{keys_of, values_of, set_value}
use Rattle.std.specs.BTreeMap.{is_at}
use Rattle.std.specs.BTreeSet.{contains}
use Rattle.std.specs.Cmp.Lexicographic.{nat_list_eq_equiv}
use Rattle.std.specs.Cmp.{nat_cmp_total, tied_itself, eq_by_cmp_equiv}
use Rattle.std.proofs.lemmas.Bool.{and_parts, and_from, cases_Bool, or_parts, false_from_ne_true}
use Rattle.std.proofs.lemmas.Bool.Decides.{nat_tests}
use Rattle.std.proofs.lemmas.Map.{keys-set_value, length-set_value}
use Rattle.std.proofs.lemmas.Map.Entries.{sum_by-set_value, sum_by-remove_entry, sum_by-insert_entry, lookup_from_place, length-values_of}
use Rattle.std.proofs.lemmas.Map.Keys.{IsDistinct-from_sorted}
use Rattle.std.proofs.lemmas.List.Sums.{count_by-le-length}
use Rattle.ld_history.specs.declared.session.Session.{Session}
use Rattle.ld_history.specs.declared.index.Index.{Index}
use Rattle.ld_history.specs.Words.{at_number, at_iri, has_request, is_idle, is_some_and, same_iri, holds}
use Rattle.ld_history.specs.After.{changed, change_found, put_number, take_number}
use Rattle.ld_history.specs.Index.{IsIndex, sits_at, are_numbered}
use Rattle.ld_history.specs.Holders.{held_by, AreFilled, IsMarked, IsCleared, IsSame}
use Rattle.ld_history.proofs.IndexHolders.{Set, other_iri, some_member}
use Rattle.ld_history.proofs.LawReads.{some_and}
use Rattle.ld_history.proofs.LawTables.{in_order-put, in_order-take, length-put_new}
use Rattle.ld_history.proofs.LawFlights.{number_cases, iri_cases, apart_iris, apart_numbers, put_number_same, put_number_other, take_number_same, take_number_other}
use Rattle.ld_history.proofs.LawCrew.{Sessions, changed_is, same_session, set_number_same, set_number_other}
use Rattle.ld_history.proofs.LawSits.{any_value, any_push}
use Rattle.ld_history.proofs.LawHolds.{valued_place}

abbrev one_or_none : Bool → ℕ
one_or_none b = cond b 1 0

pub change_either : (sessions : Sessions) (n : ℕ) (g : Session → Session) (P : Sessions → Type 0) → (at_number sessions n ≡ None → P sessions)
    → ((s : Session) → at_number sessions n ≡ Some s → P (set_value (is_at (nat_cmp n)) sessions (g s))) → P (changed sessions n g)
change_either sessions n g P none some = elim (at_number sessions n) as (λ o. at_number sessions n ≡ o → P (change_found sessions n g o)) [
  | None ↦ none
  | Some s ↦ some s
] refl

idle_more : (i : Bool) (a b : ℕ) → a + one_or_none (not i) ≡ b + 1 → a ≡ b + (if i then 1 else 0)
idle_more true a b h = omega (arith, h)
idle_more false a b h = omega (arith, h)

-- ---- IRIs
same_or_other : (q k : List ℕ) → (q ≡ k) ⊎ (q ≡ k → ⊥)
same_or_other q k = elim (iri_cases q k) [ inl e ↦ inl e | inr n ↦ inr (apart_iris q k n) ]

itself_iri : (iri : List ℕ) → same_iri iri iri ≡ true
itself_iri iri = nat_list_eq_equiv.refl iri

-- ---- one session is changed
module _ (sessions : Sessions) (n : ℕ) (g : Session → Session) where
  pub keys_changed : keys_of (changed sessions n g) ≡ keys_of sessions
  keys_changed = change_either sessions n g (λ l. keys_of l ≡ keys_of sessions) (λ none. refl) (λ s is. keys-set_value (is_at (nat_cmp n)) sessions (g s))

  length_changed : length (changed sessions n g) ≡ length sessions
  length_changed = change_either sessions n g (λ l. length l ≡ length sessions) (λ none. refl) (λ s is. length-set_value (is_at (nat_cmp n)) sessions (g s))

  -- where the session has a request now
  pub begun_more : ((s : Session) → has_request (g s) ≡ true)
      → count_by has_request (values_of (changed sessions n g)) ≡ count_by has_request (values_of sessions) + (if is_some_and (λ (s : Session). is_idle s.last) (at_number sessions n) then 1 else 0)
  begun_more busy = elim (at_number sessions n) as (λ o. at_number sessions n ≡ o
      → count_by has_request (values_of (change_found sessions n g o)) ≡ count_by has_request (values_of sessions) + (if is_some_and (λ (s : Session). is_idle s.last) o then 1 else 0)) [
        | None ↦ λ none. omega arith
        | Some s ↦ λ is.
            let sum = sum_by-set_value (λ x. one_or_none (has_request x)) (is_at (nat_cmp n)) sessions s (g s) is in
            let now : one_or_none (has_request (g s)) ≡ 1 = ap one_or_none (busy s) in
            idle_more (is_idle s.last) (count_by has_request (values_of (set_value (is_at (nat_cmp n)) sessions (g s)))) (count_by has_request (values_of sessions)) (omega (arith, sum, now))
      ] refl

  -- where it has none now
  pub ended_less : ((s : Session) → has_request (g s) ≡ false)
      → count_by has_request (values_of (changed sessions n g)) + (if is_some_and has_request (at_number sessions n) then 1 else 0) ≡ count_by has_request (values_of sessions)
  ended_less idle = elim (at_number sessions n) as (λ o. at_number sessions n ≡ o
      → count_by has_request (values_of (change_found sessions n g o)) + (if is_some_and has_request o then 1 else 0) ≡ count_by has_request (values_of sessions)) [
        | None ↦ λ none. omega arith
        | Some s ↦ λ is.
            let sum = sum_by-set_value (λ x. one_or_none (has_request x)) (is_at (nat_cmp n)) sessions s (g s) is in
            let now : one_or_none (has_request (g s)) ≡ 0 = ap one_or_none (idle s) in
            omega (arith, sum, now)
      ] refl

  -- no more than there are sessions
  pub busy_few : (l : Sessions) → length l ≡ length sessions → length sessions < 2 ^ 32 → count_by has_request (values_of l) < 2 ^ 32
  busy_few l same few =
      let most = count_by-le-length has_request (values_of l) in
      let as_many = length-values_of l in
      subst (λ k. count_by has_request (values_of l) < k) refl (below (2 ^ 32) (omega (arith, most, as_many, same)) few)
    where
      below : (k : ℕ) → count_by has_request (values_of l) ≤ length sessions → length sessions < k → count_by has_request (values_of l) < k
      below k le lt = omega (arith, le, lt)

  pub begun_fits : (busy : ℕ) → length sessions < 2 ^ 32 → busy ≡ count_by has_request (values_of (changed sessions n g)) → busy < 2 ^ 32
  begun_fits busy few is = subst (λ k. k < 2 ^ 32) (sym is) (busy_few (changed sessions n g) length_changed few)

  begun_sum : (index : Index) (idle : Bool) → IsIndex sessions index → ((s : Session) → has_request (g s) ≡ true) → idle ≡ is_some_and (λ (s : Session). is_idle s.last) (at_number sessions n)
      → index.busy + (if idle then 1 else 0) ≡ count_by has_request (values_of (changed sessions n g))
  begun_sum index idle h busy was = ap (λ (k : ℕ). k + (if idle then 1 else 0)) h.busy ∙ ap (λ b. count_by has_request (values_of sessions) + (if b then 1 else 0)) was ∙ sym (begun_more busy)

  -- one more fits
  pub index_fits : (index : Index) (idle : Bool) → IsIndex sessions index → ((s : Session) → has_request (g s) ≡ true) → idle ≡ is_some_and (λ (s : Session). is_idle s.last) (at_number sessions n)
      → index.busy + (if idle then 1 else 0) < 2 ^ 32
  index_fits index idle h busy was = begun_fits (index.busy + (if idle then 1 else 0)) h.few (begun_sum index idle h busy was)

  ended_sum : (index : Index) (busy : Bool) → IsIndex sessions index → ((s : Session) → has_request (g s) ≡ false) → busy ≡ is_some_and has_request (at_number sessions n)
      → count_by has_request (values_of (changed sessions n g)) + (if busy then 1 else 0) ≡ index.busy
  ended_sum index busy h idle was = ap (λ b. count_by has_request (values_of (changed sessions n g)) + (if b then 1 else 0)) was ∙ ended_less idle ∙ sym h.busy

  -- there is one to end
  pub index_holds : (index : Index) (busy : Bool) → IsIndex sessions index → ((s : Session) → has_request (g s) ≡ false) → busy ≡ is_some_and has_request (at_number sessions n)
      → (if busy then 1 else 0) ≤ index.busy
  index_holds index busy h idle was = omega (arith, ended_sum index busy h idle was)

  -- what a test says of a session, where the change keeps that
  test_after : (test : Session → Bool) → ((s : Session) → test (g s) ≡ test s) → (m : ℕ) → is_some_and test (at_number (changed sessions n g) m) ≡ is_some_and test (at_number sessions m)
  test_after test kept m = change_either sessions n g (λ l. is_some_and test (at_number l m) ≡ is_some_and test (at_number sessions m)) (λ none. refl) (λ s is. elim (number_cases m n) [
    | inl e ↦ ap (λ k. is_some_and test (at_number (set_value (is_at (nat_cmp n)) sessions (g s)) k)) e ∙ ap (is_some_and test) (set_number_same sessions n (g s) s is) ∙ kept s
        ∙ sym (ap (is_some_and test) is) ∙ sym (ap (λ k. is_some_and test (at_number sessions k)) e)
    | inr a ↦ ap (is_some_and test) (set_number_other sessions n (g s) s is m a)
  ])

  -- what holds of each session, where it holds of a changed one
  each_after : (P : Session → Type 0) → ((s : Session) → P (g s)) → ((m : ℕ) (t : Session) → at_number sessions m ≡ Some t → P t) → (m : ℕ) (t : Session) → at_number (changed sessions n g) m ≡ Some t → P t
  each_after P new old = change_either sessions n g (λ l. (m : ℕ) (t : Session) → at_number l m ≡ Some t → P t) (λ none. old) (λ s is m t now. elim (number_cases m n) [
    | inl e ↦ subst P (same_session (g s) t (sym (set_number_same sessions n (g s) s is) ∙ ap (at_number (set_value (is_at (nat_cmp n)) sessions (g s))) (sym e) ∙ now)) (new s)
    | inr a ↦ old m t (sym (set_number_other sessions n (g s) s is m a) ∙ now)
  ])

  other_after : (m : ℕ) → (m ≡ n → ⊥) → at_number (changed sessions n g) m ≡ at_number sessions m
  other_after m apart = change_either sessions n g (λ l. at_number l m ≡ at_number sessions m) (λ none. refl) (λ s is. elim (number_cases m n) [
    | inl e ↦ absurd (apart e)
    | inr a ↦ set_number_other sessions n (g s) s is m a
  ])

  module _ (seat_kept : (s : Session) → (g s).seat ≡ s.seat) (idle_free : (s : Session) → is_idle (g s).last ≡ true → (g s).held ≡ []) where
    seat_after : (m : ℕ) → sits_at (changed sessions n g) m ≡ sits_at sessions m
    seat_after m = change_either sessions n g (λ l. sits_at l m ≡ sits_at sessions m) (λ none. refl) (λ s is. elim (number_cases m n) [
      | inl e ↦ ap (sits_at (set_value (is_at (nat_cmp n)) sessions (g s))) e ∙ ap (option_map (λ (x : Session). x.seat)) (set_number_same sessions n (g s) s is) ∙ ap Some (seat_kept s)
          ∙ sym (ap (option_map (λ (x : Session). x.seat)) is) ∙ sym (ap (sits_at sessions) e)
      | inr a ↦ ap (option_map (λ (x : Session). x.seat)) (set_number_other sessions n (g s) s is m a)
    ])

    pub index_changed : (index : Index) → IsIndex sessions index → (new : Index) → new.busy ≡ count_by has_request (values_of (changed sessions n g)) → new.seats.entries ≡ index.seats.entries → AreFilled new.holders.entries
        → ((q : List ℕ) (m : ℕ) → held_by new.holders.entries q m ≡ is_some_and (λ s. holds s q) (at_number (changed sessions n g) m)) → IsIndex (changed sessions n g) new
    index_changed index h new busy seats filled held = record {
      sorted = subst (IsStrictlySortedBy nat_cmp) (sym keys_changed) h.sorted;
      few = subst (λ k. k < 2 ^ 32) (sym length_changed) h.few;
      busy = busy;
      seated = λ m seat now. ap (λ e. at_number e seat) seats ∙ h.seated m seat (sym (seat_after m) ∙ now);
      sits = λ seat m at. seat_after m ∙ h.sits seat m (sym (ap (λ e. at_number e seat) seats) ∙ at);
      idle = each_after (λ s. is_idle s.last ≡ true → s.held ≡ []) idle_free h.idle;
      filled = filled;
      held = held;
    }

    -- as the code tells it: a request is under way now, which holds what it held
    pub index_begun : (index new : Index) (l : Sessions) (idle : Bool) → IsIndex sessions index → ((s : Session) → has_request (g s) ≡ true) → ((s : Session) → (g s).held ≡ s.held) → l ≡ changed sessions n g
        → idle ≡ is_some_and (λ (s : Session). is_idle s.last) (at_number sessions n) → new ≡ record index { busy = index.busy + (if idle then 1 else 0) } → IsIndex l new
    index_begun index new l idle h busy kept is was now =
        let sum : index.busy + (if idle then 1 else 0) ≡ count_by has_request (values_of (changed sessions n g)) = begun_sum index idle h busy was in
        subst (λ (x : Sessions). IsIndex x new) (sym is) (index_changed index h new (ap (λ (i : Index). i.busy) now ∙ sum) (ap (λ (i : Index). i.seats.entries) now)
        (subst AreFilled (sym (ap (λ (i : Index). i.holders.entries) now)) h.filled)
        (λ q m. ap (λ (i : Index). held_by i.holders.entries q m) now ∙ h.held q m ∙ sym (test_after (λ (s : Session). holds s q) (λ s. ap (λ hs. list_any (λ k. same_iri k q) hs) (kept s)) m)))

    -- one that holds one IRI more
    pub index_listed : (index middle new : Index) (l : Sessions) (idle : Bool) (iri : List ℕ) → IsIndex sessions index → ((s : Session) → has_request (g s) ≡ true) → ((s : Session) → (g s).held ≡ s.held ++ iri ∷ [])
        → l ≡ changed sessions n g → idle ≡ is_some_and (λ (s : Session). is_idle s.last) (at_number sessions n) → (s : Session) → at_number sessions n ≡ Some s
        → middle.busy ≡ index.busy → middle.seats.entries ≡ index.seats.entries → AreFilled middle.holders.entries → IsMarked index.holders.entries middle.holders.entries iri n true
        → new ≡ record middle { busy = middle.busy + (if idle then 1 else 0) } → IsIndex l new
    index_listed index middle new l idle iri h busy more is was s there same_busy same_seats filled mark now =
        let sum : index.busy + (if idle then 1 else 0) ≡ count_by has_request (values_of (changed sessions n g)) = begun_sum index idle h busy was in
        subst (λ (x : Sessions). IsIndex x new) (sym is) (index_changed index h new (ap (λ (i : Index). i.busy) now ∙ ap (λ k. k + (if idle then 1 else 0)) same_busy ∙ sum)
        (ap (λ (i : Index). i.seats.entries) now ∙ same_seats) (subst AreFilled (sym (ap (λ (i : Index). i.holders.entries) now)) filled)
        (λ q m. ap (λ (i : Index). held_by i.holders.entries q m) now ∙ listed q m))
      where
        here : changed sessions n g ≡ set_value (is_at (nat_cmp n)) sessions (g s)
        here = changed_is sessions n g s there

        holds_now : (q : List ℕ) → is_some_and (λ (t : Session). holds t q) (at_number (changed sessions n g) n) ≡ (holds s q || same_iri iri q)
        holds_now q = ap (λ e. is_some_and (λ (t : Session). holds t q) (at_number e n)) here ∙ ap (is_some_and (λ (t : Session). holds t q)) (set_number_same sessions n (g s) s there)
            ∙ ap (list_any (λ k. same_iri k q)) (more s) ∙ any_push (λ k. same_iri k q) s.held iri

        held_before : (q : List ℕ) → held_by index.holders.entries q n ≡ holds s q
        held_before q = h.held q n ∙ ap (is_some_and (λ (t : Session). holds t q)) there

        or_true : (a : Bool) → (a || true) ≡ true
        or_true true = refl
        or_true false = refl

        or_false : (a : Bool) → (a || false) ≡ a
        or_false true = refl
        or_false false = refl

        mine : (q : List ℕ) → (q ≡ iri) ⊎ (q ≡ iri → ⊥) → held_by middle.holders.entries q n ≡ (holds s q || same_iri iri q)
        mine q (inl e) = ap (λ k. held_by middle.holders.entries k n) e ∙ mark.here ∙ sym (or_true (holds s q)) ∙ ap (λ b. holds s q || b) (sym (itself_iri iri) ∙ ap (same_iri iri) (sym e))
        mine q (inr apart) = mark.there q n (λ e f. apart e) ∙ held_before q ∙ sym (or_false (holds s q)) ∙ ap (λ b. holds s q || b) (sym (other_iri iri q apart))

        listed : (q : List ℕ) (m : ℕ) → held_by middle.holders.entries q m ≡ is_some_and (λ (t : Session). holds t q) (at_number (changed sessions n g) m)
        listed q m = elim (number_cases m n) [
          | inl e ↦ ap (held_by middle.holders.entries q) e ∙ mine q (same_or_other q iri) ∙ sym (holds_now q) ∙ ap (λ k. is_some_and (λ (t : Session). holds t q) (at_number (changed sessions n g) k)) (sym e)
          | inr a ↦ mark.there q m (λ e f. apart_numbers m n a f) ∙ h.held q m ∙ sym (ap (is_some_and (λ (t : Session). holds t q)) (other_after m (apart_numbers m n a)))
        ]

    -- and none is, which holds nothing
    pub index_ended : (index middle new : Index) (l : Sessions) (busy : Bool) → IsIndex sessions index → ((s : Session) → has_request (g s) ≡ false) → ((s : Session) → (g s).held ≡ []) → l ≡ changed sessions n g
        → busy ≡ is_some_and has_request (at_number sessions n) → middle.busy ≡ index.busy → middle.seats.entries ≡ index.seats.entries → AreFilled middle.holders.entries
        → IsCleared index.holders.entries middle.holders.entries n → new ≡ record middle { busy = middle.busy - (if busy then 1 else 0) } → IsIndex l new
    index_ended index middle new l busy h idle none is was same_busy same_seats filled clear now =
        let sum : index.busy - (if busy then 1 else 0) ≡ count_by has_request (values_of (changed sessions n g)) = omega (arith, ended_sum index busy h idle was) in
        subst (λ (x : Sessions). IsIndex x new) (sym is) (index_changed index h new (ap (λ (i : Index). i.busy) now ∙ ap (λ k. k - (if busy then 1 else 0)) same_busy ∙ sum)
        (ap (λ (i : Index). i.seats.entries) now ∙ same_seats) (subst AreFilled (sym (ap (λ (i : Index). i.holders.entries) now)) filled)
        (λ q m. ap (λ (i : Index). held_by i.holders.entries q m) now ∙ cleared q m))
      where
        nothing : (q : List ℕ) → is_some_and (λ (t : Session). holds t q) (at_number (changed sessions n g) n) ≡ false
        nothing q = elim (at_number sessions n) as (λ o. at_number sessions n ≡ o → is_some_and (λ (t : Session). holds t q) (at_number (change_found sessions n g o) n) ≡ false) [
          | None ↦ λ none. ap (is_some_and (λ (t : Session). holds t q)) none
          | Some s ↦ λ is. ap (is_some_and (λ (t : Session). holds t q)) (set_number_same sessions n (g s) s is) ∙ ap (list_any (λ k. same_iri k q)) (none s)
        ] refl

        cleared : (q : List ℕ) (m : ℕ) → held_by middle.holders.entries q m ≡ is_some_and (λ (t : Session). holds t q) (at_number (changed sessions n g) m)
        cleared q m = elim (number_cases m n) [
          | inl e ↦ ap (held_by middle.holders.entries q) e ∙ clear.here q ∙ sym (nothing q) ∙ ap (λ k. is_some_and (λ (t : Session). holds t q) (at_number (changed sessions n g) k)) (sym e)
          | inr a ↦ clear.there q m (apart_numbers m n a) ∙ h.held q m ∙ sym (ap (is_some_and (λ (t : Session). holds t q)) (other_after m (apart_numbers m n a)))
        ]

-- ---- numbers
every_put : (p : ℕ → Bool) (es : Sessions) (k : ℕ) (x : Session) → p k ≡ true → list_all p (keys_of es) ≡ true → list_all p (keys_of (put_number es k x)) ≡ true
every_put p [] k x now h = and_from _ _ now refl
every_put p (e ∷ es) k x now h = elim (nat_cmp k e.0) as (λ o. list_all p (keys_of (match_ordering o ((k, x) ∷ e ∷ es) ((e.0, x) ∷ es) (e ∷ put_number es k x))) ≡ true) [
  | Less ↦ and_from _ _ now h
  | Equal ↦ h
  | Greater ↦ and_from _ _ (and_parts _ _ h).0 (every_put p es k x now (and_parts _ _ h).1)
]

every_take : (p : ℕ → Bool) (es : Sessions) (k : ℕ) → list_all p (keys_of es) ≡ true → list_all p (keys_of (take_number es k)) ≡ true
every_take p [] k h = refl
every_take p (e ∷ es) k h = elim (is_eq (nat_cmp k e.0)) as (λ b. list_all p (keys_of (cond b es (e ∷ take_number es k))) ≡ true) [
  | true ↦ (and_parts _ _ h).1
  | false ↦ and_from _ _ (and_parts _ _ h).0 (every_take p es k (and_parts _ _ h).1)
]

at_most : (a b : ℕ) → nat_le a b ≡ true → a ≤ b
at_most a b h = grind (arith, nat_tests)

is_at_most : (a b : ℕ) → a ≤ b → nat_le a b ≡ true
is_at_most a b h = grind (arith, nat_tests)

every_more : (a b : ℕ) (ns : List ℕ) → a ≤ b → list_all (λ n. nat_le n a) ns ≡ true → list_all (λ n. nat_le n b) ns ≡ true
every_more a b [] le h = refl
every_more a b (n ∷ ns) le h =
    let first : n ≤ a = at_most n a (and_parts _ _ h).0 in
    and_from _ _ (is_at_most n b (omega arith)) (every_more a b ns le (and_parts _ _ h).1)

keys_length : (es : Sessions) → length (keys_of es) ≡ length es
keys_length [] = refl
keys_length (e ∷ es) = ap suc (keys_length es)

past_all : (opened k : ℕ) (es : Sessions) → opened < k → list_all (λ n. nat_le n opened) (keys_of es) ≡ true → at_number es k ≡ None
past_all opened k [] lt h = refl
past_all opened k (e ∷ es) lt h =
    let first : e.0 ≤ opened = at_most e.0 opened (and_parts _ _ h).0 in
    elim (number_cases k e.0) [
      | inl is ↦ absurd (omega (arith, is, first, lt))
      | inr n ↦ ap (λ b. cond b (Some e.1) (at_number es k)) n ∙ past_all opened k es lt (and_parts _ _ h).1
    ]

pub is_new : (opened k : ℕ) (es : Sessions) → k ≡ opened + 1 → are_numbered opened (keys_of es) ≡ true → at_number es k ≡ None
is_new opened k es next h = past_all opened k es (omega (arith, next)) (and_parts _ _ h).0

pub numbered_put : (opened k : ℕ) (es : Sessions) (x : Session) → k ≡ opened + 1 → are_numbered opened (keys_of es) ≡ true → are_numbered k (keys_of (put_number es k x)) ≡ true
numbered_put opened k es x next h =
    let p = and_parts _ _ h in
    let more = length-put_new nat_cmp_total k x es (is_new opened k es next h) in
    let few : length (keys_of es) ≤ opened = at_most (length (keys_of es)) opened p.1 in
    and_from _ _ (every_put (λ n. nat_le n k) es k x (is_at_most k k (omega arith)) (every_more opened k (keys_of es) (omega (arith, next)) p.0))
    (is_at_most (length (keys_of (put_number es k x))) k (omega (arith, keys_length (put_number es k x), keys_length es, more, few, next)))

length_take : (es : Sessions) (k : ℕ) → length (take_number es k) ≤ length es
length_take [] k = omega arith
length_take (e ∷ es) k = elim (is_eq (nat_cmp k e.0)) as (λ b. length (cond b es (e ∷ take_number es k)) ≤ length (e ∷ es)) [ true ↦ omega arith | false ↦ let rest = length_take es k in omega arith ]

pub numbered_take : (opened k : ℕ) (es : Sessions) → are_numbered opened (keys_of es) ≡ true → are_numbered opened (keys_of (take_number es k)) ≡ true
numbered_take opened k es h =
    let p = and_parts _ _ h in
    let few : length (keys_of es) ≤ opened = at_most (length (keys_of es)) opened p.1 in
    and_from _ _ (every_take (λ n. nat_le n opened) es k p.0)
    (is_at_most (length (keys_of (take_number es k))) opened (omega (arith, keys_length (take_number es k), keys_length es, length_take es k, few)))

most_numbered : (opened : ℕ) (es : Sessions) → are_numbered opened (keys_of es) ≡ true → length (keys_of es) ≤ opened
most_numbered opened es h = at_most (length (keys_of es)) opened (and_parts _ _ h).1

few_opened : (opened k : ℕ) (es : Sessions) → are_numbered opened (keys_of es) ≡ true → opened < k → length es < k
few_opened opened k es h lt = omega (arith, most_numbered opened es h, keys_length es, lt)

-- ---- the seats, as the calls of a map tell of them
itself : (k : ℕ) → is_eq (nat_cmp k k) ≡ true
itself k = ap is_eq (tied_itself nat_cmp_total k)

abbrev pub Seats : Type 0
Seats = List (ℕ × ℕ)

-- what is looked up at each seat, where one of them is changed
abbrev pub IsPut : Seats → Seats → ℕ → Option ℕ → Type 0
IsPut before now seat value = (q : ℕ) → at_number now q ≡ cond (is_at (nat_cmp seat) q) value (at_number before q)

same_at : (a b : ℕ) (x : Option ℕ) → x ≡ Some a → x ≡ Some b → a ≡ b
same_at a b x h k = cc

module _ (before now : Seats) (seat : ℕ) (value : Option ℕ) (put : IsPut before now seat value) where
  put_here : at_number now seat ≡ value
  put_here = put seat ∙ ap (λ b. cond b value (at_number before seat)) (itself seat)

  put_there : (q : ℕ) → is_eq (nat_cmp seat q) ≡ false → at_number now q ≡ at_number before q
  put_there q n = put q ∙ ap (λ b. cond b value (at_number before q)) n

pub undone_seat : (before put after : Seats) (seat n : ℕ) → at_number before seat ≡ None → IsPut before put seat (Some n) → IsPut put after seat None → (q : ℕ) → at_number after q ≡ at_number before q
undone_seat before put after seat n free first second q = elim (number_cases seat q) [
  | inl e ↦ ap (at_number after) (sym e) ∙ put_here put after seat None second ∙ sym (sym (ap (at_number before) e) ∙ free)
  | inr a ↦ put_there put after seat None second q a ∙ put_there before put seat (Some n) first q a
]

-- ---- the least session that passes
past_head : (k n : ℕ) (es : Sessions) (s : Session) → AllByRecursion (λ y. nat_cmp k y ≡ Less) (keys_of es) → at_number es n ≡ Some s → k < n
past_head k n [] s h is = cc
past_head k n (e ∷ es) s h is = elim (number_cases n e.0) [
  | inl same ↦ grind (arith, nat_tests, same, h.0)
  | inr a ↦ past_head k n es s h.1 (sym (ap (λ b. cond b (Some e.1) (at_number es n)) a) ∙ is)
]

past_apart : (k m : ℕ) → k < m → is_eq (nat_cmp m k) ≡ false
past_apart k m lt = false_from_ne_true (is_eq (nat_cmp m k)) (λ e. elim (number_cases m k) [ inl same ↦ absurd (omega (arith, same, lt)) | inr a ↦ (let bad : true ≡ false = sym e ∙ a in cc) ])

least_found : (p : Session → Bool) (es : Sessions) → IsStrictlySortedBy nat_cmp (keys_of es) → (n : ℕ) (s : Session) → at_number es n ≡ Some s → p s ≡ true
    → ((m : ℕ) (t : Session) → at_number es m ≡ Some t → p t ≡ true → n ≤ m) → option_map (λ (e : ℕ × Session). e.0) (find (λ e. p e.1) es) ≡ Some n
unfolding IsStrictlySortedBy
least_found p [] sorted n s is passes least = cc
least_found p (e ∷ es) sorted n s is passes least = elim (number_cases n e.0) [
  | inl same ↦
      let one : e.1 ≡ s = same_session e.1 s (sym (ap (λ b. cond b (Some e.1) (at_number es n)) (ap (λ k. is_eq (nat_cmp n k)) (sym same) ∙ itself n)) ∙ is) in
      ap (λ b. option_map (λ (e : ℕ × Session). e.0) (cond b (Some e) (find (λ e. p e.1) es))) (ap p one ∙ passes) ∙ ap Some (sym same)
  | inr a ↦
      let there : at_number es n ≡ Some s = sym (ap (λ b. cond b (Some e.1) (at_number es n)) a) ∙ is in
      let past : e.0 < n = past_head e.0 n es s sorted.0 there in
      elim (cases_Bool (p e.1)) [
        | inl here ↦ absurd (let le : n ≤ e.0 = least e.0 e.1 (ap (λ b. cond b (Some e.1) (at_number es e.0)) (itself e.0)) here in omega (arith, le, past))
        | inr other ↦ ap (λ b. option_map (λ (e : ℕ × Session). e.0) (cond b (Some e) (find (λ e. p e.1) es))) other
            ∙ least_found p es sorted.1 n s there passes (λ m t at any. least m t (ap (λ b. cond b (Some e.1) (at_number es m)) (past_apart e.0 m (past_head e.0 m es t sorted.0 at)) ∙ at) any)
      ]
]

none_found : (p : Session → Bool) (es : Sessions) → list_any p (values_of es) ≡ false → find (λ (e : ℕ × Session). p e.1) es ≡ None
none_found p [] h = refl
none_found p (e ∷ es) h =
    let parts = or_parts (p e.1) (list_any p (values_of es)) h in
    ap (λ b. cond b (Some e) (find (λ e. p e.1) es)) parts.0 ∙ none_found p es parts.1

module _ (sessions : Sessions) (index : Index) (h : IsIndex sessions index) where
  -- the same busy, the same seats and the same holders
  pub index_same : (now : Index) → now.busy ≡ index.busy → ((q : ℕ) → at_number now.seats.entries q ≡ at_number index.seats.entries q) → AreFilled now.holders.entries → IsSame index.holders.entries now.holders.entries
      → IsIndex sessions now
  index_same now busy seats filled same = record {
    sorted = h.sorted;
    few = h.few;
    busy = busy ∙ h.busy;
    seated = λ m seat is. seats seat ∙ h.seated m seat is;
    sits = λ seat m is. h.sits seat m (sym (seats seat) ∙ is);
    idle = h.idle;
    filled = filled;
    held = λ q m. same q m ∙ h.held q m;
  }

  -- someone has the seat
  pub taken_is : (seat : ℕ) → is_some (at_number index.seats.entries seat) ≡ list_any (λ (s : Session). s.seat == seat) (values_of sessions)
  taken_is seat = elim (cases_Bool (list_any (λ (s : Session). s.seat == seat) (values_of sessions))) [
    | inl any ↦
        let r = valued_place (λ (s : Session). s.seat == seat) sessions any in
        let at : at_number sessions r.1.0 ≡ Some r.1.1 = lookup_from_place (eq_by_cmp_equiv nat_cmp_total) sessions r.0 r.1.0 r.1.1 (IsDistinct-from_sorted nat_cmp (keys_of sessions) h.sorted) r.2 in
        let sits : sits_at sessions r.1.0 ≡ Some seat = ap (option_map (λ (x : Session). x.seat)) at ∙ ap Some (eqb-true r.1.1.seat seat r.3) in
        ap is_some (h.seated r.1.0 seat sits) ∙ sym any
    | inr none ↦ free_is (at_number index.seats.entries seat) refl none ∙ sym none
  ]
    where
      nobody : (n : ℕ) → sits_at sessions n ≡ Some seat → list_any (λ (s : Session). s.seat == seat) (values_of sessions) ≡ false → ⊥
      nobody n = elim (at_number sessions n) as (λ o. at_number sessions n ≡ o → option_map (λ (x : Session). x.seat) o ≡ Some seat → list_any (λ (s : Session). s.seat == seat) (values_of sessions) ≡ false → ⊥) [
        | None ↦ λ is none any. cc
        | Some s ↦ λ is has none.
            let other : (s.seat == seat) ≡ false = any_value (λ (x : Session). x.seat == seat) (is_at (nat_cmp n)) sessions s none is in
            let same : s.seat ≡ seat = same_at s.seat seat (Some s.seat) refl has in
            let yes : (s.seat == seat) ≡ true = eq-eqb s.seat seat same in
            cc
      ] refl

      free_is : (o : Option ℕ) → at_number index.seats.entries seat ≡ o → list_any (λ (s : Session). s.seat == seat) (values_of sessions) ≡ false → is_some o ≡ false
      free_is None is none = refl
      free_is (Some n) is none = absurd (nobody n (h.sits seat n is) none)

  pub is_free : (seat : ℕ) → list_any (λ (s : Session). s.seat == seat) (values_of sessions) ≡ false → at_number index.seats.entries seat ≡ None
  is_free seat none = none_is (at_number index.seats.entries seat) (taken_is seat ∙ none)
    where
      none_is : (o : Option ℕ) → is_some o ≡ false → o ≡ None
      none_is None e = refl
      none_is (Some n) e = cc

  -- ---- who holds an IRI
  holding_at : (iri : List ℕ) (n : ℕ) → is_some_and (λ (s : Session). holds s iri) (at_number sessions n) ≡ true → (s : Session) × (at_number sessions n ≡ Some s) × (holds s iri ≡ true)
  holding_at iri n any = some_and (λ (s : Session). holds s iri) (at_number sessions n) any

  listed_some : (iri : List ℕ) (n : ℕ) (o : Option Set) → is_some_and (λ set. contains nat_cmp set n) o ≡ true → is_some o ≡ true
  listed_some iri n None e = cc
  listed_some iri n (Some set) e = refl

  pub held_is : (iri : List ℕ) → is_some (at_iri index.holders.entries iri) ≡ list_any (λ (s : Session). holds s iri) (values_of sessions)
  held_is iri = elim (cases_Bool (list_any (λ (s : Session). holds s iri) (values_of sessions))) [
    | inl any ↦
        let r = valued_place (λ (s : Session). holds s iri) sessions any in
        let at : at_number sessions r.1.0 ≡ Some r.1.1 = lookup_from_place (eq_by_cmp_equiv nat_cmp_total) sessions r.0 r.1.0 r.1.1 (IsDistinct-from_sorted nat_cmp (keys_of sessions) h.sorted) r.2 in
        let listed : held_by index.holders.entries iri r.1.0 ≡ true = h.held iri r.1.0 ∙ ap (is_some_and (λ (s : Session). holds s iri)) at ∙ r.3 in
        listed_some iri r.1.0 (at_iri index.holders.entries iri) listed ∙ sym any
    | inr none ↦ free_iri (at_iri index.holders.entries iri) refl none ∙ sym none
  ]
    where
      free_iri : (o : Option Set) → at_iri index.holders.entries iri ≡ o → list_any (λ (s : Session). holds s iri) (values_of sessions) ≡ false → is_some o ≡ false
      free_iri None is none = refl
      free_iri (Some set) is none =
          let r = some_member set.keys (h.filled iri set is) in
          let listed : held_by index.holders.entries iri r.0 ≡ true = ap (is_some_and (λ (x : Set). contains nat_cmp x r.0)) is ∙ r.1 in
          let a = holding_at iri r.0 (sym (h.held iri r.0) ∙ listed) in
          let other : holds a.0 iri ≡ false = any_value (λ (s : Session). holds s iri) (is_at (nat_cmp r.0)) sessions a.0 none a.1 in
          let bad : true ≡ false = sym a.2 ∙ other in
          cc

  pub unheld_has_none : (iri : List ℕ) → at_iri index.holders.entries iri ≡ None → option_map (λ (e : ℕ × Session). e.0) (find (λ e. holds e.1 iri) sessions) ≡ None
  unheld_has_none iri none = ap (option_map (λ (e : ℕ × Session). e.0)) (none_found (λ s. holds s iri) sessions (sym (held_is iri) ∙ ap is_some none))

  module _ (iri : List ℕ) (set : Set) (is : at_iri index.holders.entries iri ≡ Some set) where
    listed_is : (n : ℕ) → contains nat_cmp set n ≡ is_some_and (λ (s : Session). holds s iri) (at_number sessions n)
    listed_is n = sym (ap (λ o. is_some_and (λ (x : Set). contains nat_cmp x n) o) is) ∙ h.held iri n

    least_is : (n : ℕ) → contains nat_cmp set n ≡ true → ((q : ℕ) → contains nat_cmp set q ≡ true → is_gt (nat_cmp n q) ≡ false) → option_map (λ (e : ℕ × Session). e.0) (find (λ e. holds e.1 iri) sessions) ≡ Some n
    least_is n listed least =
        let a = holding_at iri n (sym (listed_is n) ∙ listed) in
        least_found (λ s. holds s iri) sessions h.sorted n a.0 a.1 a.2 (λ m t at any. no_more n m (least m (listed_is m ∙ ap (is_some_and (λ (s : Session). holds s iri)) at ∙ any)))
      where
        no_more : (n m : ℕ) → is_gt (nat_cmp n m) ≡ false → n ≤ m
        no_more n m e = grind (arith, nat_tests)

    pub first_is : (r : Option (Bor ℕ)) → (IsSome r ↔ (0 < length set.keys)) → IfSome r (λ k. IsTrue (contains nat_cmp set k.now)) → IfSome r (λ k. (q : ℕ) → IsTrue (contains nat_cmp set q) → is_gt (nat_cmp k.now q) ≡ false)
        → option_copied r ≡ option_map (λ (e : ℕ × Session). e.0) (find (λ e. holds e.1 iri) sessions)
    first_is None variant listed least = absurd (full set.keys (h.filled iri set is) (λ lt. let bad : false ≡ true = variant.1 lt in cc))
      where
        full : (ns : List ℕ) → (ns ≡ [] → ⊥) → (0 < length ns → ⊥) → ⊥
        full [] some none = some refl
        full (n ∷ ns) some none = none (omega arith)
    first_is (Some k) variant listed least = sym (least_is k.now listed least)

  -- a new session sits down
  module _ (opened k : ℕ) (x : Session) (next : k ≡ opened + 1) (small : k < 2 ^ 32) (numbered : are_numbered opened (keys_of sessions) ≡ true) (idle : has_request x ≡ false) (empty : x.held ≡ [])
      (free : at_number index.seats.entries x.seat ≡ None) (now : Index) (busy : now.busy ≡ index.busy) (holders : now.holders.entries ≡ index.holders.entries) (put : IsPut index.seats.entries now.seats.entries x.seat (Some k)) where
    fresh : at_number sessions k ≡ None
    fresh = is_new opened k sessions next numbered

    seat_here : sits_at (put_number sessions k x) k ≡ Some x.seat
    seat_here = ap (option_map (λ (y : Session). y.seat)) (put_number_same sessions k x)

    seat_there : (m : ℕ) → is_eq (nat_cmp m k) ≡ false → sits_at (put_number sessions k x) m ≡ sits_at sessions m
    seat_there m n = ap (option_map (λ (y : Session). y.seat)) (put_number_other sessions k x m n)

    opened_seated : (m s : ℕ) → sits_at (put_number sessions k x) m ≡ Some s → at_number now.seats.entries s ≡ Some m
    opened_seated m s is = elim (number_cases m k) [
      | inl e ↦
          let same : x.seat ≡ s = same_at x.seat s (sits_at (put_number sessions k x) k) seat_here (ap (sits_at (put_number sessions k x)) (sym e) ∙ is) in
          ap (at_number now.seats.entries) (sym same) ∙ put_here index.seats.entries now.seats.entries x.seat (Some k) put ∙ ap Some (sym e)
      | inr n ↦
          let old : at_number index.seats.entries s ≡ Some m = h.seated m s (sym (seat_there m n) ∙ is) in
          elim (number_cases x.seat s) [
            | inl e ↦ absurd (let bad : None ≡ Some m = sym free ∙ ap (at_number index.seats.entries) e ∙ old in cc)
            | inr a ↦ put_there index.seats.entries now.seats.entries x.seat (Some k) put s a ∙ old
          ]
    ]

    opened_sits : (s m : ℕ) → at_number now.seats.entries s ≡ Some m → sits_at (put_number sessions k x) m ≡ Some s
    opened_sits s m is = elim (number_cases x.seat s) [
      | inl e ↦
          let same : k ≡ m = same_at k m (at_number now.seats.entries x.seat) (put_here index.seats.entries now.seats.entries x.seat (Some k) put) (ap (at_number now.seats.entries) e ∙ is) in
          ap (sits_at (put_number sessions k x)) (sym same) ∙ seat_here ∙ ap Some e
      | inr a ↦
          let old : sits_at sessions m ≡ Some s = h.sits s m (sym (put_there index.seats.entries now.seats.entries x.seat (Some k) put s a) ∙ is) in
          elim (number_cases m k) [
            | inl e ↦ absurd (let bad : None ≡ Some s = sym (ap (option_map (λ (y : Session). y.seat)) fresh) ∙ ap (sits_at sessions) (sym e) ∙ old in cc)
            | inr n ↦ seat_there m n ∙ old
          ]
    ]

    opened_idle : (m : ℕ) (t : Session) → at_number (put_number sessions k x) m ≡ Some t → is_idle t.last ≡ true → t.held ≡ []
    opened_idle m t is rests = elim (number_cases m k) [
      | inl e ↦ ap (λ (y : Session). y.held) (sym (same_session x t (sym (put_number_same sessions k x) ∙ ap (at_number (put_number sessions k x)) (sym e) ∙ is))) ∙ empty
      | inr n ↦ h.idle m t (sym (put_number_other sessions k x m n) ∙ is) rests
    ]

    opened_held : (q : List ℕ) (m : ℕ) → is_some_and (λ (s : Session). holds s q) (at_number sessions m) ≡ is_some_and (λ (s : Session). holds s q) (at_number (put_number sessions k x) m)
    opened_held q m = elim (number_cases m k) [
      | inl e ↦ ap (λ j. is_some_and (λ (s : Session). holds s q) (at_number sessions j)) e ∙ ap (is_some_and (λ (s : Session). holds s q)) fresh ∙ sym (ap (list_any (λ i. same_iri i q)) empty)
          ∙ sym (ap (is_some_and (λ (s : Session). holds s q)) (put_number_same sessions k x)) ∙ ap (λ j. is_some_and (λ (s : Session). holds s q) (at_number (put_number sessions k x) j)) (sym e)
      | inr n ↦ ap (is_some_and (λ (s : Session). holds s q)) (sym (put_number_other sessions k x m n))
    ]

    pub index_opened : IsIndex (put_number sessions k x) now
    index_opened =
        let sum = sum_by-insert_entry (λ s. one_or_none (has_request s)) nat_cmp_total sessions k x h.sorted in
        let none : unwrap_or (option_map (λ s. one_or_none (has_request s)) (at_number sessions k)) 0 ≡ 0
        = ap (λ o. unwrap_or (option_map (λ s. one_or_none (has_request s)) o) 0) fresh in
        let adds : one_or_none (has_request x) ≡ 0 = ap one_or_none idle in
        let more = length-put_new nat_cmp_total k x sessions fresh in
        record {
          sorted = in_order-put nat_cmp_total k x sessions h.sorted;
          few =
              let few : length sessions < k = few_opened opened k sessions numbered (omega (arith, next)) in
              below (2 ^ 32) small (omega (arith, more, few));
          busy = busy ∙ h.busy ∙ omega (arith, sum, none, adds);
          seated = opened_seated;
          sits = opened_sits;
          idle = opened_idle;
          filled = subst AreFilled (sym holders) h.filled;
          held = λ q m. ap (λ e. held_by e q m) holders ∙ h.held q m ∙ opened_held q m;
        }
      where
        below : (top : ℕ) → k < top → length (put_number sessions k x) ≤ k → length (put_number sessions k x) < top
        below top lt le = omega (arith, lt, le)

  -- a session leaves its seat
  module _ (k : ℕ) (x : Session) (there : at_number sessions k ≡ Some x) (idle : has_request x ≡ false) (rests : is_idle x.last ≡ true) (now : Index) (busy : now.busy ≡ index.busy)
      (holders : now.holders.entries ≡ index.holders.entries) (put : IsPut index.seats.entries now.seats.entries x.seat None) where
    gone_here : sits_at (take_number sessions k) k ≡ None
    gone_here = ap (option_map (λ (y : Session). y.seat)) (take_number_same sessions k h.sorted)

    gone_there : (m : ℕ) → is_eq (nat_cmp m k) ≡ false → sits_at (take_number sessions k) m ≡ sits_at sessions m
    gone_there m n = ap (option_map (λ (y : Session). y.seat)) (take_number_other sessions k m n)

    sat : sits_at sessions k ≡ Some x.seat
    sat = ap (option_map (λ (y : Session). y.seat)) there

    differ : (m : ℕ) → is_eq (nat_cmp m k) ≡ false → m ≡ k → ⊥
    differ m n e = let bad : true ≡ false = sym (itself k) ∙ ap (λ j. is_eq (nat_cmp j k)) (sym e) ∙ n in cc

    closed_seated : (m s : ℕ) → sits_at (take_number sessions k) m ≡ Some s → at_number now.seats.entries s ≡ Some m
    closed_seated m s is = elim (number_cases m k) [
      | inl e ↦ absurd (let bad : None ≡ Some s = sym gone_here ∙ ap (sits_at (take_number sessions k)) (sym e) ∙ is in cc)
      | inr n ↦
          let old : at_number index.seats.entries s ≡ Some m = h.seated m s (sym (gone_there m n) ∙ is) in
          elim (number_cases x.seat s) [
            | inl e ↦ absurd (differ m n (same_at m k (at_number index.seats.entries s) old (ap (at_number index.seats.entries) (sym e) ∙ h.seated k x.seat sat)))
            | inr a ↦ put_there index.seats.entries now.seats.entries x.seat None put s a ∙ old
          ]
    ]

    closed_sits : (s m : ℕ) → at_number now.seats.entries s ≡ Some m → sits_at (take_number sessions k) m ≡ Some s
    closed_sits s m is = elim (number_cases x.seat s) [
      | inl e ↦ absurd (let bad : None ≡ Some m = sym (put_here index.seats.entries now.seats.entries x.seat None put) ∙ ap (at_number now.seats.entries) e ∙ is in cc)
      | inr a ↦
          let old : sits_at sessions m ≡ Some s = h.sits s m (sym (put_there index.seats.entries now.seats.entries x.seat None put s a) ∙ is) in
          elim (number_cases m k) [
            | inl e ↦ absurd (differ_seat s a (same_at x.seat s (sits_at sessions k) sat (ap (sits_at sessions) (sym e) ∙ old)))
            | inr n ↦ gone_there m n ∙ old
          ]
    ]
      where
        differ_seat : (s : ℕ) → is_eq (nat_cmp x.seat s) ≡ false → x.seat ≡ s → ⊥
        differ_seat s a e = let bad : true ≡ false = sym (itself x.seat) ∙ ap (λ j. is_eq (nat_cmp x.seat j)) e ∙ a in cc

    closed_idle : (m : ℕ) (t : Session) → at_number (take_number sessions k) m ≡ Some t → is_idle t.last ≡ true → t.held ≡ []
    closed_idle m t is free = elim (number_cases m k) [
      | inl e ↦ absurd (let bad : None ≡ Some t = sym (take_number_same sessions k h.sorted) ∙ ap (at_number (take_number sessions k)) (sym e) ∙ is in cc)
      | inr n ↦ h.idle m t (sym (take_number_other sessions k m n) ∙ is) free
    ]

    closed_held : (q : List ℕ) (m : ℕ) → is_some_and (λ (s : Session). holds s q) (at_number sessions m) ≡ is_some_and (λ (s : Session). holds s q) (at_number (take_number sessions k) m)
    closed_held q m = elim (number_cases m k) [
      | inl e ↦ ap (λ j. is_some_and (λ (s : Session). holds s q) (at_number sessions j)) e ∙ ap (is_some_and (λ (s : Session). holds s q)) there ∙ ap (list_any (λ i. same_iri i q)) (h.idle k x there rests)
          ∙ sym (ap (is_some_and (λ (s : Session). holds s q)) (take_number_same sessions k h.sorted)) ∙ ap (λ j. is_some_and (λ (s : Session). holds s q) (at_number (take_number sessions k) j)) (sym e)
      | inr n ↦ ap (is_some_and (λ (s : Session). holds s q)) (sym (take_number_other sessions k m n))
    ]

    pub index_closed : IsIndex (take_number sessions k) now
    index_closed =
        let sum = sum_by-remove_entry (λ s. one_or_none (has_request s)) (is_at (nat_cmp k)) sessions in
        let none : unwrap_or (option_map (λ s. one_or_none (has_request s)) (at_number sessions k)) 0 ≡ 0
        = ap (λ o. unwrap_or (option_map (λ s. one_or_none (has_request s)) o) 0) there ∙ ap one_or_none idle in
        record {
          sorted = in_order-take nat_cmp_total k sessions h.sorted;
          few = below (2 ^ 32) h.few (length_take sessions k);
          busy = busy ∙ h.busy ∙ omega (arith, sum, none);
          seated = closed_seated;
          sits = closed_sits;
          idle = closed_idle;
          filled = subst AreFilled (sym holders) h.filled;
          held = λ q m. ap (λ e. held_by e q m) holders ∙ h.held q m ∙ closed_held q m;
        }
      where
        below : (top : ℕ) → length sessions < top → length (take_number sessions k) ≤ length sessions → length (take_number sessions k) < top
        below top lt le = omega (arith, lt, le)
