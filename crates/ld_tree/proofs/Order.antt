-- Names in their order.
use Rattle.std.proofs.Common.{◌≡◌, ℕ, ◌+◌, ◌<◌, ◌≤◌, List, [], length, get_or, ap, subst, ◌∙◌, arith, inl, inr}
use Rattle.std.proofs.lemmas.Bool.{cases_lt}
use Rattle.std.specs.declared.cmp.Ordering.TheVariants.{Less, Greater}
use Rattle.std.specs.Ordering.{ordering_reverse}
use Rattle.std.specs.Cmp.Lexicographic.{nat_list_cmp_total}
use Rattle.std.proofs.lemmas.Map.Keys.{Less-from_sorted}
use Rattle.ld_tree.specs.Names.{AreInOrder, name_cmp, IsAt, IsPlace}
pub use Rattle.ld_tree.specs.InOrder.{in_order_none}

pub greater_from_less : (a b : List ℕ) → name_cmp b a ≡ Less → name_cmp a b ≡ Greater
greater_from_less a b e = nat_list_cmp_total.antisymm a b ∙ ap ordering_reverse e

pub less_from_greater : (a b : List ℕ) → name_cmp b a ≡ Greater → name_cmp a b ≡ Less
less_from_greater a b e = nat_list_cmp_total.antisymm a b ∙ ap ordering_reverse e

-- where the name may stand
pub record IsBetween (name : List ℕ) (names : List (List ℕ)) (low high : ℕ) : Type 0 where
  pub ordered : low ≤ high
  pub within : high ≤ length names
  pub after : (k : ℕ) → k < low → name_cmp name (get_or names k []) ≡ Greater
  pub before : (k : ℕ) → high ≤ k → k < length names → name_cmp name (get_or names k []) ≡ Less

pub between_all : (name : List ℕ) (names : List (List ℕ)) (n : ℕ) → n ≡ length names → IsBetween name names 0 n
between_all name names n e = record {
  ordered = omega arith;
  within = omega arith;
  after = λ k lt. absurd (omega arith);
  before = λ k le lt. absurd (omega arith);
}

module _ (name : List ℕ) (names : List (List ℕ)) where
  pub place_from_between : (low high : ℕ) → IsBetween name names low high → high ≤ low → IsPlace name names low
  place_from_between low high h le = record {
    within = omega (arith, h.within, h.ordered);
    after = h.after;
    before = λ k from lt. h.before k (omega arith) lt;
  }

  module _ (sorted : AreInOrder names) where
    less : (i j : ℕ) → i < j → j < length names → name_cmp (get_or names i []) (get_or names j []) ≡ Less
    less i j lt within = Less-from_sorted name_cmp names i j [] sorted lt within

    pub between_below : (low high middle : ℕ) → IsBetween name names low high → low ≤ middle → middle < high → name_cmp name (get_or names middle []) ≡ Less
        → IsBetween name names low middle
    between_below low high middle h le lt e = record {
      ordered = le;
      within = omega (arith, h.within);
      after = h.after;
      before = λ k from within. elim (cases_lt middle k) [
        | inl past ↦ nat_list_cmp_total.trans name _ _ e (less middle k past within)
        | inr here ↦ let same : middle ≡ k = omega arith in subst (λ i. name_cmp name (get_or names i []) ≡ Less) same e
      ];
    }

    pub between_above : (low high middle : ℕ) → IsBetween name names low high → low ≤ middle → middle < high → name_cmp name (get_or names middle []) ≡ Greater
        → IsBetween name names (middle + 1) high
    between_above low high middle h le lt e = record {
      ordered = omega arith;
      within = h.within;
      after = λ k below. elim (cases_lt k middle) [
        | inl past ↦ greater_from_less name _ (nat_list_cmp_total.trans _ _ name (less k middle past (omega (arith, h.within))) (less_from_greater _ name e))
        | inr here ↦ let same : middle ≡ k = omega arith in subst (λ i. name_cmp name (get_or names i []) ≡ Greater) same e
      ];
      before = h.before;
    }

    -- a name that stands at i is after those below i
    pub after_found : (i : ℕ) → IsAt name names i → (k : ℕ) → k < i → name_cmp name (get_or names k []) ≡ Greater
    after_found i at k lt = nat_list_cmp_total.congr name (get_or names i []) (get_or names k []) at.1 ∙ greater_from_less (get_or names i []) (get_or names k []) (less k i lt at.0)
