-- The snapshot beside what is stored.
use Rattle.std.proofs.Common.{◌≡◌, ℕ, List, [], ◌∷◌, ◌++◌, refl, sym, ap, ◌∙◌, Bool, true, false, Option, Some, None, cond}
use Rattle.std.specs.Prelude.{map}
use Rattle.std.specs.Option.{option_map}
use Rattle.std.specs.declared.cmp.Ordering.TheVariants.{Less, Equal, Greater}
use Rattle.std.specs.Ordering.{is_eq, match_ordering}
use Rattle.std.specs.Map.{remove_entry}
use Rattle.std.specs.BTreeMap.{insert_entry, is_at}
use Rattle.ld_tree.specs.Names.{name_cmp}
use Rattle.ld_tree.specs.formers.entries.Entries.{on_value}
use Rattle.ld_rec.specs.declared.doc.Doc.{Doc}
use Rattle.ld_store.specs.Snapshots.{Shot, Standing, doc_of, evicted, published}
use Rattle.ld_history.specs.declared.session.Stored.{Stored}
use Rattle.ld_history.specs.Store.{Store}
use Rattle.ld_history.specs.After.{put_iri, take_iri}
use Rattle.ld_book.specs.Pages.{Pages, document_of, with_document, documented}
use Rattle.ld_book.specs.Kept.{standing_of, Shows}
use Rattle.ld_book.proofs.Paging.{document_more}

-- ---- maps of values
module _ {X Y : Type 0} (f : X → Y) where
  map-put : (es : List (List ℕ × X)) (iri : List ℕ) (x : X) → map (on_value f) (insert_entry name_cmp es iri x) ≡ insert_entry name_cmp (map (on_value f) es) iri (f x)
  map-put [] iri x = refl
  map-put (e ∷ es) iri x =
      elim (name_cmp iri e.0) as (λ r. map (on_value f) (match_ordering r ((iri, x) ∷ e ∷ es) ((e.0, x) ∷ es) (e ∷ insert_entry name_cmp es iri x))
      ≡ match_ordering r ((iri, f x) ∷ map (on_value f) (e ∷ es)) ((e.0, f x) ∷ map (on_value f) es) ((e.0, f e.1) ∷ insert_entry name_cmp (map (on_value f) es) iri (f x))) [
        | Less ↦ refl
        | Equal ↦ refl
        | Greater ↦ ap (λ (rest : List (List ℕ × Y)). (e.0, f e.1) ∷ rest) (map-put es iri x)
      ]

  map-take : (es : List (List ℕ × X)) (iri : List ℕ) → map (on_value f) (remove_entry (is_at (name_cmp iri)) es) ≡ remove_entry (is_at (name_cmp iri)) (map (on_value f) es)
  map-take [] iri = refl
  map-take (e ∷ es) iri =
      elim (is_eq (name_cmp iri e.0)) as (λ b. map (on_value f) (cond b es (e ∷ remove_entry (is_at (name_cmp iri)) es)) ≡ cond b (map (on_value f) es) ((e.0, f e.1) ∷ remove_entry (is_at (name_cmp iri)) (map (on_value f) es))) [
        | true ↦ refl
        | false ↦ ap (λ (rest : List (List ℕ × Y)). (e.0, f e.1) ∷ rest) (map-take es iri)
      ]

-- ---- lists that are the same
same_head : {X : Type 0} (x y : X) (xs ys : List X) → x ∷ xs ≡ y ∷ ys → x ≡ y
same_head x y xs ys h = cc

same_tail : {X : Type 0} (x y : X) (xs ys : List X) → x ∷ xs ≡ y ∷ ys → xs ≡ ys
same_tail x y xs ys h = cc

-- ---- as the book grows
-- what stands for what is stored stays
stands_more : (pages more : Pages) (s : Stored) (x : Standing) → Some x ≡ standing_of pages s → Some x ≡ standing_of (pages ++ more) s
stands_more pages more s x is =
    elim (document_of pages s.flight) as (λ o. document_of pages s.flight ≡ o → Some x ≡ option_map (λ doc. record { doc = doc; flight = s.flight; version = s.version }) o → Some x ≡ standing_of (pages ++ more) s) [
      | None ↦ λ none e. cc
      | Some doc ↦ λ some e. e ∙ ap (option_map (λ doc. record { doc = doc; flight = s.flight; version = s.version })) (sym (document_more pages more s.flight doc some))
    ] refl is

standings_more : (pages more : Pages) (placed : List (List ℕ × Standing)) (stored : List (List ℕ × Stored))
    → map (on_value Some) placed ≡ map (on_value (standing_of pages)) stored → map (on_value Some) placed ≡ map (on_value (standing_of (pages ++ more))) stored
standings_more pages more [] [] h = refl
standings_more pages more [] (s ∷ ss) h = cc
standings_more pages more (p ∷ ps) [] h = cc
standings_more pages more (p ∷ ps) (s ∷ ss) h =
    let first = same_head (on_value Some p) (on_value (standing_of pages) s) _ _ h in
    let iri : p.0 ≡ s.0 = ap (λ (e : List ℕ × Option Standing). e.0) first in
    let stands : Some p.1 ≡ standing_of pages s.1 = ap (λ (e : List ℕ × Option Standing). e.1) first in
    let rest : map (on_value Some) ps ≡ map (on_value (standing_of pages)) ss = same_tail _ _ _ _ h in
    let one : Some p.1 ≡ standing_of (pages ++ more) s.1 = stands_more pages more s.1 p.1 stands in
    let others : map (on_value Some) ps ≡ map (on_value (standing_of (pages ++ more))) ss = standings_more pages more ps ss rest in
    λ i. (iri i, one i) ∷ others i

module _ (pages more : Pages) (store next : Store) (shot : Shot) (h : Shows pages store shot) where
  -- nothing comes or goes out
  pub shows_on : next.version ≡ store.version → next.stored ≡ store.stored → Shows (pages ++ more) next shot
  shows_on version stored = record {
    version_is = h.version_is ∙ sym version;
    placed_are = standings_more pages more shot.placed.0 store.stored h.placed_are ∙ ap (map (on_value (standing_of (pages ++ more)))) (sym stored);
  }

  -- an IRI goes out
  pub shows_out : (iri : List ℕ) → next.stored ≡ take_iri store.stored iri → Shows (pages ++ more) next (evicted shot iri next.version)
  shows_out iri stored = record {
    version_is = refl;
    placed_are =
        map-take Some shot.placed.0 iri
        ∙ ap (remove_entry (is_at (name_cmp iri))) (standings_more pages more shot.placed.0 store.stored h.placed_are)
        ∙ sym (map-take (standing_of (pages ++ more)) store.stored iri)
        ∙ ap (map (on_value (standing_of (pages ++ more)))) (sym stored);
  }

  -- a document comes in
  pub shows_in : (iri : List ℕ) (new : Stored) (standing : Standing) → standing_of (pages ++ more) new ≡ Some standing → standing.version ≡ next.version
      → next.stored ≡ put_iri store.stored iri new → Shows (pages ++ more) next (published shot iri standing)
  shows_in iri new standing stands version stored = record {
    version_is = version;
    placed_are =
        map-put Some shot.placed.0 iri standing
        ∙ ap (λ (es : List (List ℕ × Option Standing)). insert_entry name_cmp es iri (Some standing)) (standings_more pages more shot.placed.0 store.stored h.placed_are)
        ∙ ap (insert_entry name_cmp (map (on_value (standing_of (pages ++ more))) store.stored) iri) (sym stands)
        ∙ sym (map-put (standing_of (pages ++ more)) store.stored iri new)
        ∙ ap (map (on_value (standing_of (pages ++ more)))) (sym stored);
  }

-- ---- the stock
one_documented : (pages : Pages) (s : Stored) (x : Standing) (iri : List ℕ) → Some x ≡ standing_of pages s → with_document iri (document_of pages s.flight) ≡ (iri, x.doc) ∷ []
one_documented pages s x iri is =
    elim (document_of pages s.flight) as (λ o. Some x ≡ option_map (λ doc. record { doc = doc; flight = s.flight; version = s.version }) o → with_document iri o ≡ (iri, x.doc) ∷ []) [
      | None ↦ λ e. cc
      | Some doc ↦ λ e. let same : x ≡ record { doc = doc; flight = s.flight; version = s.version } = cc in ap (λ (y : Standing). (iri, y.doc) ∷ []) (sym same)
    ] is

one_flight : (pages : Pages) (s : Stored) (x : Standing) → Some x ≡ standing_of pages s → x.flight ≡ s.flight
one_flight pages s x is =
    elim (document_of pages s.flight) as (λ o. Some x ≡ option_map (λ doc. record { doc = doc; flight = s.flight; version = s.version }) o → x.flight ≡ s.flight) [
      | None ↦ λ e. cc
      | Some doc ↦ λ e. let same : x ≡ record { doc = doc; flight = s.flight; version = s.version } = cc in ap (λ (y : Standing). y.flight) same
    ] is

pub placed_documents : (pages : Pages) (placed : List (List ℕ × Standing)) (stored : List (List ℕ × Stored)) → map (on_value Some) placed ≡ map (on_value (standing_of pages)) stored
    → map (on_value doc_of) placed ≡ documented pages (map (λ e. (e.0, e.1.flight)) stored)
placed_documents pages [] [] h = refl
placed_documents pages [] (s ∷ ss) h = cc
placed_documents pages (p ∷ ps) [] h = cc
placed_documents pages (p ∷ ps) (s ∷ ss) h =
    let first = same_head (on_value Some p) (on_value (standing_of pages) s) _ _ h in
    let iri : p.0 ≡ s.0 = ap (λ (e : List ℕ × Option Standing). e.0) first in
    let stands : Some p.1 ≡ standing_of pages s.1 = ap (λ (e : List ℕ × Option Standing). e.1) first in
    let rest : map (on_value Some) ps ≡ map (on_value (standing_of pages)) ss = same_tail _ _ _ _ h in
    ap (λ (name : List ℕ). (name, p.1.doc) ∷ map (on_value doc_of) ps) iri
    ∙ ap (λ (docs : List (List ℕ × Doc)). (s.0, p.1.doc) ∷ docs) (placed_documents pages ps ss rest)
    ∙ ap (λ (front : List (List ℕ × Doc)). front ++ documented pages (map (λ e. (e.0, e.1.flight)) ss)) (sym (one_documented pages s.1 p.1 s.0 stands))

pub placed_flights : (pages : Pages) (placed : List (List ℕ × Standing)) (stored : List (List ℕ × Stored)) → map (on_value Some) placed ≡ map (on_value (standing_of pages)) stored
    → map {B = List ℕ × ℕ} (λ e. (e.0, e.1.flight)) placed ≡ map {B = List ℕ × ℕ} (λ e. (e.0, e.1.flight)) stored
placed_flights pages [] [] h = refl
placed_flights pages [] (s ∷ ss) h = cc
placed_flights pages (p ∷ ps) [] h = cc
placed_flights pages (p ∷ ps) (s ∷ ss) h =
    let first = same_head (on_value Some p) (on_value (standing_of pages) s) _ _ h in
    let iri : p.0 ≡ s.0 = ap (λ (e : List ℕ × Option Standing). e.0) first in
    let stands : Some p.1 ≡ standing_of pages s.1 = ap (λ (e : List ℕ × Option Standing). e.1) first in
    let rest : map (on_value Some) ps ≡ map (on_value (standing_of pages)) ss = same_tail _ _ _ _ h in
    let flight : p.1.flight ≡ s.1.flight = one_flight pages s.1 p.1 stands in
    let others : map {B = List ℕ × ℕ} (λ (e : List ℕ × Standing). (e.0, e.1.flight)) ps ≡ map {B = List ℕ × ℕ} (λ (e : List ℕ × Stored). (e.0, e.1.flight)) ss = placed_flights pages ps ss rest in
    λ i. (iri i, flight i) ∷ others i
