-- The first of the versions that may go is that of the IRI that goes out next.
use Rattle.std.proofs.Common.{◌≡◌, ℕ, List, refl, sym, ap, ◌∙◌, Option, Some, None, true, false, ◌&&◌, not, is_some, inl, inr}
use Rattle.std.specs.Prelude.{slice_get}
use Rattle.ld_history.specs.declared.tables.Tables.{Tables}
use Rattle.ld_history.specs.Seen.{seen}
use Rattle.ld_history.specs.Words.{at_number, may_go, is_revised}
use Rattle.ld_history.specs.Steps.{next_out}
use Rattle.ld_history.specs.Order.{has, goes}
use Rattle.ld_history.proofs.IndexSessions.{held_is}
use Rattle.ld_history.proofs.Rising.{first_least, first_among, none_among}
use Rattle.ld_history.proofs.Ordered.{IsFirst, NoneGoes, FirstOrNone, next_first, next_nothing}

module _ (t : Tables) where
  free_is : (q : List ℕ) → goes t.index.holders.entries t.revisions.entries q ≡ may_go (seen t) q
  free_is q = ap (λ b. not b && not (is_revised (seen t) q)) (held_is t.sessions.entries t.index t.indexed q)

  has_is : (n : ℕ) (q : List ℕ) → at_number t.order.published.entries n ≡ Some q → has t.order.free.items n ≡ may_go (seen t) q
  has_is n q at = t.free.each n q at refl ∙ free_is q

  first_at : (version : ℕ) (iri : List ℕ) → slice_get t.order.free.items 0 ≡ Some version → at_number t.order.published.entries version ≡ Some iri → IsFirst (seen t) t.order.published.entries t.ordered (version, iri)
  first_at version iri is at = record {
    stands = at;
    free = sym (has_is version iri at) ∙ first_among t.order.free.items version is;
    least = λ n q here goes. first_least t.order.free.items version n t.order.sorted is (has_is n q here ∙ goes);
  }

  none_at : slice_get t.order.free.items 0 ≡ None → NoneGoes (seen t) t.order.published.entries t.ordered
  none_at is n q at goes = let bad : true ≡ false = sym goes ∙ sym (has_is n q at) ∙ none_among t.order.free.items n is in cc

  stands_at : (version : ℕ) → slice_get t.order.free.items 0 ≡ Some version → (iri : List ℕ) × (at_number t.order.published.entries version ≡ Some iri)
  stands_at version is = found (at_number t.order.published.entries version) refl (t.order.known.each version (first_among t.order.free.items version is))
    where
      found : (o : Option (List ℕ)) → at_number t.order.published.entries version ≡ o → is_some o ≡ true → (iri : List ℕ) × (at_number t.order.published.entries version ≡ Some iri)
      found None at some = cc
      found (Some iri) at some = (iri, at)

  pub first_or_none : FirstOrNone (seen t) t.order.published.entries t.ordered
  first_or_none = found (slice_get t.order.free.items 0) refl
    where
      found : (o : Option ℕ) → slice_get t.order.free.items 0 ≡ o → FirstOrNone (seen t) t.order.published.entries t.ordered
      found None is = inr (none_at is)
      found (Some version) is = let s = stands_at version is in inl ((version, s.0), first_at version s.0 is s.1)

  pub first_goes : (version : ℕ) → slice_get t.order.free.items 0 ≡ Some version → at_number t.order.published.entries version ≡ next_out (seen t)
  first_goes version is =
      let s = stands_at version is in
      s.1 ∙ next_first (seen t) t.order.published.entries t.ordered (version, s.0) (first_at version s.0 is s.1)

  pub nothing_goes : slice_get t.order.free.items 0 ≡ None → None ≡ next_out (seen t)
  nothing_goes is = next_nothing (seen t) t.order.published.entries t.ordered (none_at is)
