-- One more entry at the end of a history.
use Rattle.std.proofs.Common.{◌≡◌, ◌+◌, ◌∙◌, refl, sym, ap, subst, true, List, [], ◌∷◌, ◌++◌, ℕ, length-append, arith}
use Rattle.ld_history.specs.declared.limits.Limits.{Limits}
use Rattle.ld_history.specs.declared.event.Given.{Given}
use Rattle.ld_history.specs.declared.event.Entry.{Entry}
use Rattle.ld_history.specs.Store.{Store, empty_store}
use Rattle.ld_history.specs.ByTurns.{allows, LegalFrom, IsKept}
use Rattle.ld_history.specs.After.{after}
use Rattle.ld_history.specs.Legal.{replay, AreWithin}

pub replay-push : (store : Store) (entries : List (Entry (List ℕ) Given)) (entry : Entry (List ℕ) Given) → replay store (entries ++ entry ∷ []) ≡ after (replay store entries) entry
replay-push store [] entry = refl
replay-push store (first ∷ rest) entry = replay-push (after store first) rest entry

legal-push : (limits : Limits) (store : Store) (entries : List (Entry (List ℕ) Given)) (entry : Entry (List ℕ) Given) → LegalFrom limits store entries
    → allows limits (replay store entries) entry ≡ true → LegalFrom limits store (entries ++ entry ∷ [])
legal-push limits store [] entry legal allowed = (allowed, tt)
legal-push limits store (first ∷ rest) entry legal allowed = (legal.0, legal-push limits (after store first) rest entry legal.1 allowed)

pub kept-empty : (limits : Limits) (store : Store) → AreWithin limits → store ≡ empty_store → IsKept limits [] store
kept-empty limits store within is = record {
  within = within;
  legal = tt;
  replayed = is;
  counted = ap (λ s. s.events) is;
}

pub kept-push : (limits : Limits) (entries : List (Entry (List ℕ) Given)) (entry : Entry (List ℕ) Given) (store new : Store) → IsKept limits entries store
    → allows limits store entry ≡ true → new ≡ after store entry → IsKept limits (entries ++ entry ∷ []) new
kept-push limits entries entry store new kept allowed is = record {
  within = kept.within;
  legal = legal-push limits empty_store entries entry kept.legal (subst (λ s. allows limits s entry ≡ true) kept.replayed allowed);
  replayed = is ∙ ap (λ s. after s entry) kept.replayed ∙ sym (replay-push empty_store entries entry);
  counted = let one : new.events ≡ store.events + 1 = ap (λ s. s.events) is in omega (arith, kept.counted, length-append entries (entry ∷ []));
}
