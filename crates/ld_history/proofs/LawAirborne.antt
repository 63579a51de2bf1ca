-- The tables of flights under way list exactly the flights under way, Lead flights where nothing is
-- stored and Revise flights where something is.
use Rattle.std.proofs.Common.{◌≡◌, ℕ, ◌+◌, List, length, refl, sym, ap, ◌∙◌, subst, Option, Some, None, true, false, not, ◌⊎◌, inl, inr}
use Rattle.std.specs.Prelude.{is_some}
use Rattle.std.specs.Cmp.Lexicographic.{nat_list_cmp_total}
use Rattle.std.specs.List.Sorted.{IsStrictlySortedBy}
use Rattle.std.specs.Map.{keys_of}
use Rattle.ld_tree.specs.Names.{name_cmp}
use Rattle.ld_history.specs.declared.session.Flight.{Flight}
use Rattle.ld_history.specs.declared.session.Flying.{Flying}
use Rattle.ld_history.specs.declared.session.Kind.{Kind}
use Rattle.ld_history.specs.declared.session.Kind.TheVariants as kind
use Rattle.ld_history.specs.declared.session.End.{End}
use Rattle.ld_history.specs.declared.session.End.TheVariants as end
use Rattle.ld_history.specs.declared.session.Stored.{Stored}
use Rattle.ld_history.specs.Words.{at_iri, flight_at, is_lead}
use Rattle.ld_history.specs.After.{put_iri, take_iri, begun, ended_as}
use Rattle.ld_history.proofs.LawTables.{in_order-put, in_order-take}
use Rattle.ld_history.proofs.LawFlights.{iri_cases, put_iri_same, put_iri_other, take_iri_same, take_iri_other, flight_more, flight_last, flight_cases, flight_ended, flight_kept, apart_iris}

abbrev pub Table : Type 0
Table = List (List ℕ × Flying)

-- the first for Lead flights, the second for Revise flights
abbrev pub pick : {X : Type 0} → X → X → Kind → X
pick leads revisions kind.Lead = leads
pick leads revisions kind.Revise = revisions

pub record Airborne (flights : List Flight) (table : Kind → Table) (stored : List (List ℕ × Stored)) : Type 0 where
  pub sorted : (k : Kind) → IsStrictlySortedBy name_cmp (keys_of (table k))
  pub stored_sorted : IsStrictlySortedBy name_cmp (keys_of stored)
  pub listed : (k : Kind) (iri : List ℕ) (l : Flying) → at_iri (table k) iri ≡ Some l → flight_at flights l.flight ≡ Some (record { iri = iri; kind = k; session = l.session; end = end.UnderWay })
  pub known : (n : ℕ) (f : Flight) → flight_at flights n ≡ Some f → f.end ≡ end.UnderWay → at_iri (table f.kind) f.iri ≡ Some (record { flight = n; session = f.session })
  pub sides : (k : Kind) (iri : List ℕ) (l : Flying) → at_iri (table k) iri ≡ Some l → is_some (at_iri stored iri) ≡ not (is_lead k)

pub none_some : {X : Type 0} {x : X} (o : Option X) → is_some o ≡ false → o ≡ Some x → ⊥
none_some None n h = cc
none_some (Some y) n h = cc

kind_cases : (k κ : Kind) → (k ≡ κ) ⊎ (k ≡ κ → ⊥)
kind_cases kind.Lead kind.Lead = inl refl
kind_cases kind.Lead kind.Revise = inr (λ e. cc)
kind_cases kind.Revise kind.Lead = inr (λ e. cc)
kind_cases kind.Revise kind.Revise = inl refl

-- ---- a flight begins
module _ (flights : List Flight) (table after : Kind → Table) (stored : List (List ℕ × Stored)) (h : Airborne flights table stored)
    (κ : Kind) (iri : List ℕ) (session n : ℕ) (next : n ≡ length flights + 1) (free : is_some (at_iri (table κ) iri) ≡ false) (side : is_some (at_iri stored iri) ≡ not (is_lead κ))
    (here : after κ ≡ put_iri (table κ) iri (record { flight = n; session = session })) (there : (k : Kind) → (k ≡ κ → ⊥) → after k ≡ table k) where
  new : Flight
  new = record { iri = iri; kind = κ; session = session; end = end.UnderWay }

  -- what a table lists was listed, or is the new flight
  begun_cases : (k : Kind) (q : List ℕ) (l : Flying) → at_iri (after k) q ≡ Some l → (at_iri (table k) q ≡ Some l) ⊎ ((k ≡ κ) × (q ≡ iri) × (l ≡ record { flight = n; session = session }))
  begun_cases k q l is = elim (kind_cases k κ) [
    | inr other ↦ inl (sym (ap (λ t. at_iri t q) (there k other)) ∙ is)
    | inl same ↦
        let put : at_iri (put_iri (table k) iri (record { flight = n; session = session })) q ≡ Some l = ap (λ t. at_iri t q) (sym (subst (λ c. after c ≡ put_iri (table c) iri (record { flight = n; session = session })) (sym same) here)) ∙ is in
        elim (iri_cases q iri) [
          | inl e ↦ inr (same, e, (let p : Some (record { flight = n; session = session }) ≡ Some l = sym (put_iri_same (table k) iri _) ∙ ap (at_iri (put_iri (table k) iri _)) (sym e) ∙ put in cc))
          | inr n ↦ inl (sym (put_iri_other (table k) iri _ q n) ∙ put)
        ]
  ]

  begun_sorted : (k : Kind) → IsStrictlySortedBy name_cmp (keys_of (after k))
  begun_sorted k = elim (kind_cases k κ) [
    | inr other ↦ subst (λ t. IsStrictlySortedBy name_cmp (keys_of t)) (sym (there k other)) (h.sorted k)
    | inl same ↦ subst (λ c. IsStrictlySortedBy name_cmp (keys_of (after c))) (sym same) (subst (λ t. IsStrictlySortedBy name_cmp (keys_of t)) (sym here) (in_order-put nat_list_cmp_total iri _ (table κ) (h.sorted κ)))
  ]

  begun_listed : (k : Kind) (q : List ℕ) (l : Flying) → at_iri (after k) q ≡ Some l → flight_at (begun flights iri κ session) l.flight ≡ Some (record { iri = q; kind = k; session = l.session; end = end.UnderWay })
  begun_listed k q l is = elim (begun_cases k q l is) [
    | inl old ↦ flight_more flights _ l.flight _ (h.listed k q l old)
    | inr e ↦ let last : flight_at (begun flights iri κ session) n ≡ Some (record { iri = iri; kind = κ; session = session; end = end.UnderWay }) = flight_last flights _ n next in
        let one : l.flight ≡ n = ap (λ (x : Flying). x.flight) e.2 in
        let two : l.session ≡ session = ap (λ (x : Flying). x.session) e.2 in
        ap (flight_at (begun flights iri κ session)) one ∙ last ∙ λ i. Some (record { iri = sym e.1 i; kind = sym e.0 i; session = sym two i; end = end.UnderWay })
  ]

  begun_known : (m : ℕ) (f : Flight) → flight_at (begun flights iri κ session) m ≡ Some f → f.end ≡ end.UnderWay → at_iri (after f.kind) f.iri ≡ Some (record { flight = m; session = f.session })
  begun_known m f is flying = elim (flight_cases flights _ m f is) [
    | inl old ↦
        let known : at_iri (table f.kind) f.iri ≡ Some (record { flight = m; session = f.session }) = h.known m f old flying in
        elim (kind_cases f.kind κ) [
          | inr other ↦ ap (λ t. at_iri t f.iri) (there f.kind other) ∙ known
          | inl same ↦ elim (iri_cases f.iri iri) [
            | inl e ↦ absurd (none_some (at_iri (table κ) iri) free (ap (λ c. at_iri (table c) iri) (sym same) ∙ ap (at_iri (table f.kind)) (sym e) ∙ known))
            | inr apart ↦ subst (λ c. at_iri (after c) f.iri ≡ at_iri (table c) f.iri) (sym same) (ap (λ t. at_iri t f.iri) here ∙ put_iri_other (table κ) iri _ f.iri apart) ∙ known
          ]
        ]
    | inr e ↦
        let put : at_iri (after κ) iri ≡ Some (record { flight = n; session = session }) = ap (λ t. at_iri t iri) here ∙ put_iri_same (table κ) iri _ in
        let number : m ≡ n = e.0 ∙ sym next in
        subst (λ (g : Flight). at_iri (after g.kind) g.iri ≡ Some (record { flight = m; session = g.session })) e.1 (put ∙ λ i. Some (record { flight = sym number i; session = session }))
  ]

  begun_sides : (k : Kind) (q : List ℕ) (l : Flying) → at_iri (after k) q ≡ Some l → is_some (at_iri stored q) ≡ not (is_lead k)
  begun_sides k q l is = elim (begun_cases k q l is) [
    | inl old ↦ h.sides k q l old
    | inr e ↦ ap (λ r. is_some (at_iri stored r)) e.1 ∙ side ∙ ap (λ c. not (is_lead c)) (sym e.0)
  ]

  pub airborne-begun : Airborne (begun flights iri κ session) after stored
  airborne-begun = record { sorted = begun_sorted; stored_sorted = h.stored_sorted; listed = begun_listed; known = begun_known; sides = begun_sides }

pub same_kind : (k κ : Kind) → not (is_lead k) ≡ not (is_lead κ) → k ≡ κ
same_kind kind.Lead kind.Lead e = refl
same_kind kind.Lead kind.Revise e = cc
same_kind kind.Revise kind.Lead e = cc
same_kind kind.Revise kind.Revise e = refl

same_flight : (f g : Flight) → Some f ≡ Some g → f ≡ g
same_flight f g e = cc

same_flying : (f g : Flying) → Some f ≡ Some g → f ≡ g
same_flying f g e = cc

-- ---- a flight ends
module _ (flights : List Flight) (table after : Kind → Table) (stored : List (List ℕ × Stored)) (h : Airborne flights table stored)
    (n : ℕ) (f : Flight) (is : flight_at flights n ≡ Some f) (flying : f.end ≡ end.UnderWay) (how : End) (over : how ≡ end.UnderWay → ⊥)
    (here : after f.kind ≡ take_iri (table f.kind) f.iri) (there : (k : Kind) → (k ≡ f.kind → ⊥) → after k ≡ table k) where
  listed_as : (k : Kind) (q : List ℕ) (l : Flying) → at_iri (table k) q ≡ Some l → l.flight ≡ n → record { iri = q; kind = k; session = l.session; end = end.UnderWay } ≡ f
  listed_as k q l old e = same_flight _ f (sym (h.listed k q l old) ∙ ap (flight_at flights) e ∙ is)

  landed_cases : (k : Kind) (q : List ℕ) (l : Flying) → at_iri (after k) q ≡ Some l → (at_iri (table k) q ≡ Some l) × (l.flight ≡ n → ⊥)
  landed_cases k q l now = elim (kind_cases k f.kind) [
    | inr other ↦
        let old : at_iri (table k) q ≡ Some l = sym (ap (λ t. at_iri t q) (there k other)) ∙ now in
        (old, λ e. other (ap (λ (g : Flight). g.kind) (listed_as k q l old e)))
    | inl same ↦
        let took : at_iri (take_iri (table k) f.iri) q ≡ Some l = ap (λ t. at_iri t q) (sym (subst (λ c. after c ≡ take_iri (table c) f.iri) (sym same) here)) ∙ now in
        elim (iri_cases q f.iri) [
          | inl e ↦ (let none : at_iri (take_iri (table k) f.iri) q ≡ None = ap (at_iri (take_iri (table k) f.iri)) e ∙ take_iri_same (table k) f.iri (h.sorted k) in cc)
          | inr apart ↦
              let old : at_iri (table k) q ≡ Some l = sym (take_iri_other (table k) f.iri q apart) ∙ took in
              (old, λ e. apart_iris q f.iri apart (ap (λ (g : Flight). g.iri) (listed_as k q l old e)))
        ]
  ]

  landed_sorted : (k : Kind) → IsStrictlySortedBy name_cmp (keys_of (after k))
  landed_sorted k = elim (kind_cases k f.kind) [
    | inr other ↦ subst (λ t. IsStrictlySortedBy name_cmp (keys_of t)) (sym (there k other)) (h.sorted k)
    | inl same ↦ subst (λ c. IsStrictlySortedBy name_cmp (keys_of (after c))) (sym same) (subst (λ t. IsStrictlySortedBy name_cmp (keys_of t)) (sym here) (in_order-take nat_list_cmp_total f.iri (table f.kind) (h.sorted f.kind)))
  ]

  landed_listed : (k : Kind) (q : List ℕ) (l : Flying) → at_iri (after k) q ≡ Some l → flight_at (ended_as flights n how) l.flight ≡ Some (record { iri = q; kind = k; session = l.session; end = end.UnderWay })
  landed_listed k q l now = let old = landed_cases k q l now in flight_kept flights n how l.flight old.1 ∙ h.listed k q l old.0

  landed_old : (m : ℕ) (g : Flight) → flight_at (ended_as flights n how) m ≡ Some g → g.end ≡ end.UnderWay → (m ≡ n → ⊥) × (flight_at flights m ≡ Some g)
  landed_old m g now still =
      let other : m ≡ n → ⊥ = λ e. over (ap (λ (x : Flight). x.end) (same_flight (record f { end = how }) g (sym (flight_ended flights n how f is) ∙ ap (flight_at (ended_as flights n how)) (sym e) ∙ now)) ∙ still) in
      (other, sym (flight_kept flights n how m other) ∙ now)

  landed_known : (m : ℕ) (g : Flight) → flight_at (ended_as flights n how) m ≡ Some g → g.end ≡ end.UnderWay → at_iri (after g.kind) g.iri ≡ Some (record { flight = m; session = g.session })
  landed_known m g now still =
      let old = landed_old m g now still in
      let known : at_iri (table g.kind) g.iri ≡ Some (record { flight = m; session = g.session }) = h.known m g old.1 still in
      elim (kind_cases g.kind f.kind) [
        | inr other ↦ ap (λ t. at_iri t g.iri) (there g.kind other) ∙ known
        | inl same ↦ elim (iri_cases g.iri f.iri) [
          | inl e ↦ absurd (old.0 (ap (λ (x : Flying). x.flight) (same_flying (record { flight = m; session = g.session }) (record { flight = n; session = f.session })
              (sym known ∙ ap (λ c. at_iri (table c) g.iri) same ∙ ap (at_iri (table f.kind)) e ∙ h.known n f is flying))))
          | inr apart ↦ subst (λ c. at_iri (after c) g.iri ≡ at_iri (table c) g.iri) (sym same) (ap (λ t. at_iri t g.iri) here ∙ take_iri_other (table f.kind) f.iri g.iri apart) ∙ known
        ]
      ]

  pub airborne-landed : Airborne (ended_as flights n how) after stored
  airborne-landed = record { sorted = landed_sorted; stored_sorted = h.stored_sorted; listed = landed_listed; known = landed_known; sides = λ k q l now. h.sides k q l (landed_cases k q l now).0 }

  published_sides : (new : Stored) (k : Kind) (q : List ℕ) (l : Flying) → at_iri (after k) q ≡ Some l → is_some (at_iri (put_iri stored f.iri new) q) ≡ not (is_lead k)
  published_sides new k q l now =
      let old = landed_cases k q l now in
      elim (iri_cases q f.iri) [
        | inl e ↦
            let known : at_iri (table f.kind) f.iri ≡ Some (record { flight = n; session = f.session }) = h.known n f is flying in
            let same : k ≡ f.kind = same_kind k f.kind (sym (h.sides k q l old.0) ∙ ap (λ r. is_some (at_iri stored r)) e ∙ h.sides f.kind f.iri _ known) in
            absurd (old.1 (ap (λ (x : Flying). x.flight) (same_flying l (record { flight = n; session = f.session }) (sym old.0 ∙ ap (λ c. at_iri (table c) q) same ∙ ap (at_iri (table f.kind)) e ∙ known))))
        | inr apart ↦ ap is_some (put_iri_other stored f.iri new q apart) ∙ h.sides k q l old.0
      ]

  pub airborne-published : (new : Stored) → Airborne (ended_as flights n how) after (put_iri stored f.iri new)
  airborne-published new = record { sorted = landed_sorted; stored_sorted = in_order-put nat_list_cmp_total f.iri new stored h.stored_sorted; listed = landed_listed; known = landed_known; sides = published_sides new }

-- ---- an IRI goes out
module _ (flights : List Flight) (table : Kind → Table) (stored : List (List ℕ × Stored)) (h : Airborne flights table stored)
    (iri : List ℕ) (was : is_some (at_iri stored iri) ≡ true) (free : is_some (at_iri (table kind.Revise) iri) ≡ false) where
  evicted_here : (k : Kind) (l : Flying) → at_iri (table k) iri ≡ Some l → ⊥
  evicted_here kind.Lead l old = let side : is_some (at_iri stored iri) ≡ false = h.sides kind.Lead iri l old in cc
  evicted_here kind.Revise l old = none_some _ free old

  evicted_sides : (k : Kind) (q : List ℕ) (l : Flying) → at_iri (table k) q ≡ Some l → is_some (at_iri (take_iri stored iri) q) ≡ not (is_lead k)
  evicted_sides k q l old = elim (iri_cases q iri) [
    | inl e ↦ absurd (evicted_here k l (ap (at_iri (table k)) (sym e) ∙ old))
    | inr apart ↦ ap is_some (take_iri_other stored iri q apart) ∙ h.sides k q l old
  ]

  pub airborne-evicted : Airborne flights table (take_iri stored iri)
  airborne-evicted = record { sorted = h.sorted; stored_sorted = in_order-take nat_list_cmp_total iri stored h.stored_sorted; listed = h.listed; known = h.known; sides = evicted_sides }
