-- `Entries` as a type that may hold the type that holds it.
use mathlib.Core.Path.{◌≡◌, refl, sym, ap, subst}
use mathlib.Core.HLevel.{Σ_prop_path}
use mathlib.Core.List.{List, [], ◌∷◌, map}
use Prim.Native.Nat.{ℕ}
use mathlib.Core.Former.{Former, this, const, pair, list, via, such, children}
use base.Stored.{coded_ℕ, coded_list, coded×, code_map, gcons}
use denote.RattleType.{RattleType}
use denote.Struct.Tuple.{Tuple, tuple_type}
use denote.HoleLaws.{Alike}
use denote.HolePlaces.{Recodes, struct_places, laid}
use denote.Hole.Carrier.{listed}
use denote.Hole.Fix.{over}
use denote.Param.Weighed.{Weighed, w_list, w_pair, w_const}
use denote.Model.Placed.{view_places}
use Rattle.std.specs.formers.vec.Vec as vec
use Rattle.std.specs.declared.alloc.Global.{Global}
use Rattle.std.specs.contracts.alloc.Global as heap
use Rattle.std.specs.contracts.impls.GlobalAllocator.TheImpl.{ghosts}
use Rattle.std.specs.List.Sorted.{IsStrictlySortedBy-prop}
use Rattle.std.specs.Prelude.{◌&&◌, Some, nat_eq}
use Rattle.std.specs.Ordering.{nat_cmp, ordering_then, partial_ordering_then}
use Rattle.std.specs.Cmp.Lexicographic.{pointwise, slice_cmp, slice_partial_cmp}
use Rattle.std.specs.Cmp.Derive.Mapped.{pointwise-map, lex_map, slice_partial_cmp-map}
use Rattle.std.specs.declared.cmp.PartialEq as eq
use Rattle.std.specs.declared.cmp.PartialOrd as partial
use Rattle.std.specs.declared.cmp.Ord as ord
use Rattle.std.specs.Map.{keys_of, values_of}
use Rattle.ld_tree.specs.Names.{AreInOrder, Sorted}
use Rattle.ld_tree.specs.contracts.text.Text as text
use Rattle.ld_tree.specs.declared.entries.Entries.TheInside.{Inside}
use Rattle.ld_tree.specs.declared.entries.Entries.TheView.{view, invariant}
use Rattle.ld_tree.specs.contracts.entries.Entries as C
use Rattle.ld_tree.specs.contracts.entries.Entries.TheInside as I

-- a name beside one of g's values
abbrev pub entry : Former {0} → Former {0}
entry g = pair (const (List ℕ)) g

-- the entry, with h applied to its value
abbrev pub on_value : {X Y : Type 0} → (X → Y) → List ℕ × X → List ℕ × Y
on_value h p = (p.0, h p.1)

keys_on_values : {X Y : Type 0} (h : X → Y) (es : List (List ℕ × X)) → keys_of (map (on_value h) es) ≡ keys_of es
keys_on_values h [] = refl
keys_on_values h (e ∷ es) = ap (λ l. e.0 ∷ l) (keys_on_values h es)

pub to_shape : {X Y : Type 0} (h : X → Y) (es : List (List ℕ × X)) → AreInOrder (keys_of es) → AreInOrder (keys_of (map (on_value h) es))
to_shape h es p = subst AreInOrder (sym (keys_on_values h es)) p

pub from_shape : {X Y : Type 0} (h : X → Y) (es : List (List ℕ × X)) → AreInOrder (keys_of (map (on_value h) es)) → AreInOrder (keys_of es)
from_shape h es p = subst AreInOrder (keys_on_values h es) p

abbrev pub the_former : Former {0} → Former {0}
the_former g = such (list (entry g)) (λ X es. AreInOrder (keys_of es)) (λ es. AreInOrder (keys_of es)) (λ X es. IsStrictlySortedBy-prop _ _) (λ es. IsStrictlySortedBy-prop _ _)
    (λ X es. to_shape (g.shape X) es) (λ X es. from_shape (g.shape X) es)

abbrev pub the_weighed : {g : Former {0}} → Weighed g → Weighed (the_former g)
the_weighed {g} w = let l = w_list (w_pair (w_const (List ℕ)) w) in record { weight = λ X μ d. l.weight X μ d.0; puts = λ X μ d. l.puts X μ d.0 }

pub the_empty : Sorted ⊥
unfolding Rattle.std.specs.List.Sorted.IsStrictlySortedBy
the_empty = ([], tt)

abbrev pub the_items : (X : Type 0) → Sorted X → List X
the_items X d = values_of d.0

listed_values : (X : Type 0) (d : List (List ℕ × X)) → listed _ (children (list (entry this)) X d) ≡ values_of d
listed_values X [] = refl
listed_values X (e ∷ es) = ap (λ l. e.1 ∷ l) (listed_values X es)

pub the_items_listed : (X : Type 0) (d : Sorted X) → listed _ (children (the_former this) X d) ≡ the_items X d
the_items_listed X d = listed_values X d.0

abbrev fields : Former {0}
fields = via (such (vec.the_former (entry this) Global) (λ X v. AreInOrder (keys_of v.items)) (λ v. AreInOrder (keys_of v.items)) (λ X v. IsStrictlySortedBy-prop _ _) (λ v. IsStrictlySortedBy-prop _ _)
    (λ X v. to_shape (λ _. tt) v.items) (λ X v. from_shape (λ _. tt) v.items))
    Inside (λ X a. (a.entries, a.in_order)) (λ X v. record { entries = v.0; in_order = v.1 }) (λ X a. refl) (λ X v. refl)

module _ (R S : RattleType) (h : R.Denot → S.Denot) where
  entry_places : Alike R S h → Alike (Tuple (text.the_row ∷ R ∷ [])) (Tuple (text.the_row ∷ S ∷ [])) (on_value h)
  entry_places a = struct_places (tuple_type (text.the_row ∷ R ∷ [])) (tuple_type (text.the_row ∷ S ∷ [])) ((λ n. n), (h, tt)) (on_value h) (λ d. refl) refl ((refl, (λ n. refl, λ n. refl)), (laid R S h a, tt))

  pub the_places : Alike R S h → Alike (C.the_row R) (C.the_row S) ((the_former this).map R.Denot S.Denot h)
  the_places a = view_places fields (the_former this) view (λ X Y k u. Σ_prop_path (λ es. IsStrictlySortedBy-prop _ _) refl) (λ X u. refl) R.Denot S.Denot h (C.the_row R).coded (C.the_row S).coded
      (invariant R.Denot) (invariant S.Denot) (λ u p q. refl) (λ u p q. refl) (λ u e. tt) (λ u e. tt)
      (over (I.the_row R)) (over (I.the_row S))
      (struct_places (I.the_type R) (I.the_type S) (vec.mapped (on_value h), tt) _ (λ d. refl) refl (laid _ _ _ (vec.the_places heap.the_row ghosts (Tuple (text.the_row ∷ R ∷ [])) (Tuple (text.the_row ∷ S ∷ [])) (on_value h) (entry_places a)), tt))

  pub the_codes_placed : Recodes R S h → Recodes (C.the_row R) (C.the_row S) ((the_former this).map R.Denot S.Denot h)
  the_codes_placed e d = sym (code_map (coded× (coded_list coded_ℕ) R.coded).code (coded× (coded_list coded_ℕ) S.coded).code (on_value h) (λ x i. gcons ((coded_list coded_ℕ).code x.0) (sym (e x.1) i)) d.0)

module _ (X Y : Type 0) (h : X → Y) where
  pub the_eq_natural : (V : eq.Ghosts Y) (m n : Sorted X)
      → pointwise (λ p q. pointwise nat_eq p.0 q.0 && V.eq p.1 q.1) (map (on_value h) m.0) (map (on_value h) n.0) ≡ pointwise (λ p q. pointwise nat_eq p.0 q.0 && V.eq (h p.1) (h q.1)) m.0 n.0
  the_eq_natural V m n = pointwise-map (on_value h) (λ p q. pointwise nat_eq p.0 q.0 && V.eq p.1 q.1) m.0 n.0

  pub the_partial_cmp_natural : (V : partial.Ghosts Y) (V' : eq.Ghosts Y) (m n : Sorted X)
      → slice_partial_cmp (λ p q. partial_ordering_then (Some (slice_cmp nat_cmp p.0 q.0)) (V.partial_cmp p.1 q.1)) (map (on_value h) m.0) (map (on_value h) n.0)
      ≡ slice_partial_cmp (λ p q. partial_ordering_then (Some (slice_cmp nat_cmp p.0 q.0)) (V.partial_cmp (h p.1) (h q.1))) m.0 n.0
  the_partial_cmp_natural V V' m n = slice_partial_cmp-map (on_value h) (λ p q. partial_ordering_then (Some (slice_cmp nat_cmp p.0 q.0)) (V.partial_cmp p.1 q.1)) m.0 n.0

  pub the_cmp_natural : (V : ord.Ghosts Y) (V' : eq.Ghosts Y) (V'' : partial.Ghosts Y) (m n : Sorted X)
      → slice_cmp (λ p q. ordering_then (slice_cmp nat_cmp p.0 q.0) (V.cmp p.1 q.1)) (map (on_value h) m.0) (map (on_value h) n.0)
      ≡ slice_cmp (λ p q. ordering_then (slice_cmp nat_cmp p.0 q.0) (V.cmp (h p.1) (h q.1))) m.0 n.0
  the_cmp_natural V V' V'' m n = lex_map (on_value h) (λ p q. ordering_then (slice_cmp nat_cmp p.0 q.0) (V.cmp p.1 q.1)) m.0 n.0
