-- Induction along a legal history: what holds at first, and of each list of entries with one more that
-- is allowed, holds of each legal list.
use Rattle.std.proofs.Common.{◌≡◌, [], ◌∷◌, ◌++◌, refl, sym, subst, true, append_assoc, append-nil}
use Rattle.ld_history.specs.declared.limits.Limits.{Limits}
use Rattle.ld_history.specs.Store.{Store, empty_store}
use Rattle.ld_history.specs.ByTurns.{allows, Legal, LegalFrom}
use Rattle.ld_history.specs.After.{after}
use Rattle.ld_history.specs.Legal.{replay, state, Entries}

pub replay-append : (store : Store) (front back : Entries) → replay store (front ++ back) ≡ replay (replay store front) back
replay-append store [] back = refl
replay-append store (entry ∷ front) back = replay-append (after store entry) front back

pub legal-append : (limits : Limits) (store : Store) (front back : Entries) → LegalFrom limits store (front ++ back) → LegalFrom limits store front × LegalFrom limits (replay store front) back
legal-append limits store [] back h = (tt, h)
legal-append limits store (entry ∷ front) back h = let rest = legal-append limits (after store entry) front back h.1 in ((h.0, rest.0), rest.1)

pub legal_more : (limits : Limits) (store : Store) (front back : Entries) → LegalFrom limits store front → LegalFrom limits (replay store front) back → LegalFrom limits store (front ++ back)
legal_more limits store [] back h k = k
legal_more limits store (entry ∷ front) back h k = (h.0, legal_more limits (after store entry) front back h.1 k)

module _ (limits : Limits) (P : Entries → Type 0)
    (step : (front : Entries) (entry : _) → Legal limits front → allows limits (state front) entry ≡ true → P front → P (front ++ entry ∷ [])) where
  on_from : (front back : Entries) → Legal limits front → P front → LegalFrom limits (state front) back → P (front ++ back)
  on_from front [] legal holds h = subst P (sym (append-nil front)) holds
  on_from front (entry ∷ back) legal holds h =
      let one : Legal limits (front ++ entry ∷ []) = legal_more limits empty_store front (entry ∷ []) legal (h.0, tt) in
      subst P (append_assoc front (entry ∷ []) back)
      (on_from (front ++ entry ∷ []) back one (step front entry legal h.0 holds)
      (subst (λ s. LegalFrom limits s back) (sym (replay-append empty_store front (entry ∷ []))) h.1))

  pub along : P [] → (entries : Entries) → Legal limits entries → P entries
  along first entries legal = on_from [] entries tt first legal

-- the same for what is said of the state alone
pub kept_along : (limits : Limits) (I : Store → Type 0) → ((store : Store) (entry : _) → allows limits store entry ≡ true → I store → I (after store entry))
    → I empty_store → (entries : Entries) → Legal limits entries → I (state entries)
kept_along limits I step first entries legal = from empty_store entries first legal
  where
    from : (store : Store) (rest : Entries) → I store → LegalFrom limits store rest → I (replay store rest)
    from store [] holds h = holds
    from store (entry ∷ rest) holds h = from (after store entry) rest (step store entry h.0 holds) h.1
